-- What of the connection before it a start gives up (profile).
use Rattle.std.specs.Prelude.{ℕ, suc, ◌+◌, ◌==◌, nat_le, List, [], ◌∷◌, ◌++◌, length, slice_index}
use Rattle.std.specs.Prelude.{Option, Some, None, option_map, if◌then◌else◌}
use Rattle.std.specs.List.{flat_map}
use Rattle.asdu.specs.Fields.{ca_at, first_address}
use Rattle.asdu.specs.Sizes.{header_len, ioa_len, tcp}
use Rattle.asdu.specs.declared.sizes.Sizes.{Sizes}
use Rattle.command.specs.Pending.{selected_of, waiting_of}
use Rattle.command.specs.declared.selection.SelectedObject.{SelectedObject}
use Rattle.command.specs.declared.selection.Selection.{Selection}
use Rattle.command.specs.declared.waiting.Waiting.{Waiting}
use Rattle.gateway.specs.State.{State}
use Rattle.link.specs.Primary.{Primary}
use Rattle.link.specs.declared.procedure.Link.{Link}
use Rattle.link.specs.declared.procedure.Link.TheVariants.{Down, Available, Next, Held}
use Rattle.link.specs.declared.service.Asked.{Asked}
use Rattle.link.specs.declared.service.Asked.TheVariants.{Counted, Reset, Status}
use Rattle.link.specs.declared.service.Service.{Service}
use Rattle.link.specs.declared.service.Service.TheVariants.{Class1, Class2, Command}
use Rattle.link.specs.declared.turn.StationState.{StationState}
use Rattle.state.specs.declared.given_up.GivenUp.{GivenUp}
use Rattle.state.specs.declared.given_up.Stage.{Stage}
use Rattle.state.specs.declared.given_up.Stage.TheVariants as stage

-- an ASDU in these sizes, if it is long enough for its addresses
abbrev pub of_asdu : Stage → Sizes → (asdu : List ℕ) → List GivenUp
of_asdu at sizes asdu =
    if nat_le (header_len sizes + ioa_len sizes.ioa) (length asdu) then record {
      stage = at;
      kind = slice_index asdu 0;
      ca = ca_at sizes asdu;
      object = first_address sizes asdu;
    } ∷ [] else []

-- ---- Commands on the line

abbrev pub command_of : Service → Option (List ℕ)
command_of Class1 = None
command_of Class2 = None
command_of (Command asdu) = Some asdu

abbrev pub held_command : Link → Option (List ℕ)
held_command Down = None
held_command Available = None
held_command (Next fcb) = None
held_command (Held fcb service missed) = command_of service

abbrev pub asked_command : Option Asked → Option (List ℕ)
asked_command None = None
asked_command (Some Status) = None
asked_command (Some Reset) = None
asked_command (Some (Counted fcb service)) = command_of service

-- the command that went out to a station and whose answer is awaited
abbrev pub sent_command : Primary → (station : ℕ) → Option (List ℕ)
sent_command p station =
    if p.turn == station then asked_command (option_map (λ o. o.request) p.outstanding) else None

abbrev pub or_command : Option (List ℕ) → Option (List ℕ) → Option (List ℕ)
or_command None other = other
or_command (Some asdu) other = Some asdu

-- or the one that its link holds
abbrev pub unanswered_command : Primary → (station : ℕ) → Link → Option (List ℕ)
unanswered_command p station link = or_command (sent_command p station) (held_command link)

abbrev pub unanswered : Sizes → Option (List ℕ) → List GivenUp
unanswered sizes None = []
unanswered sizes (Some asdu) = of_asdu stage.Unanswered sizes asdu

-- those of the stations from this index on, in the sizes of the line
abbrev pub unanswered_from : Sizes → Primary → (station : ℕ) → List StationState → List GivenUp
unanswered_from sizes p station [] = []
unanswered_from sizes p station (s ∷ stations) =
    unanswered sizes (unanswered_command p station s.link)
    ++ unanswered_from sizes p (suc station) stations

-- ---- Commands that wait, selections and own answers, in the sizes of the connection

abbrev pub of_waiting : ℕ × List ℕ → List GivenUp
of_waiting w = of_asdu stage.Waiting tcp w.1

abbrev pub of_selected : SelectedObject → List GivenUp
of_selected s =
    record { stage = stage.Selection; kind = s.kind; ca = s.ca; object = s.address } ∷ []

abbrev pub of_answer : (asdu : List ℕ) → List GivenUp
of_answer asdu = of_asdu stage.OwnAnswer tcp asdu

abbrev pub waiting_in : List Waiting → List GivenUp
waiting_in ws = flat_map (λ w. of_waiting (waiting_of w)) ws

abbrev pub selections_in : List Selection → List GivenUp
selections_in ss = flat_map (λ s. of_selected (selected_of s)) ss

abbrev pub answers_in : List (List ℕ) → List GivenUp
answers_in answers = flat_map (λ a. of_answer a) answers

-- What a start of a gateway in this state gives up, if the line has these sizes: the commands on
-- the line without an answer, in the order of the stations, those that were never put on it, the
-- selections, and the own answers that weren't sent.
abbrev pub given_up_by : Sizes → State → List GivenUp
given_up_by sizes s =
    unanswered_from sizes s.serial.line 0 s.serial.line.stations
    ++ (waiting_in s.serial.commands.waiting ++ selections_in s.serial.commands.selections
    ++ answers_in s.serial.commands.answers)
