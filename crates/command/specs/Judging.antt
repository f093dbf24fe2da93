-- What becomes of an ASDU from the control centre: by the ASDU alone, and then by what is kept.
use Rattle.std.specs.Prelude.{ℕ, ◌+◌, ◌%◌, ◌^◌, Bool, not, ◌&&◌, ◌||◌, ◌==◌, nat_lt, nat_le}
use Rattle.std.specs.Prelude.{if◌then◌else◌, List, [], ◌∷◌, ◌++◌, length, count_by, slice_index}
use Rattle.std.specs.Prelude.{Option, Some, None}
use Rattle.std.specs.List.{filter_map, list_any}
use Rattle.asdu.specs.Sizes.{ioa_len, tcp}
use Rattle.asdu.specs.Fields.{ca_at, first_address}
use Rattle.asdu.specs.declared.sizes.Sizes.{Sizes}
use Rattle.command.specs.Octets.{answer, negative}
use Rattle.command.specs.Command.{is_command_type, command_len, command_at, command_octets}
use Rattle.command.specs.Command.{is_permitted, is_deactivation, is_select, is_execute}
use Rattle.command.specs.Selection.{advanced, lets_through, target_of}
use Rattle.command.specs.Tags.{is_stale}
use Rattle.command.specs.Stations.{is_global, is_addressed, is_known, is_guarded, station_number}
use Rattle.command.specs.State.{State, heeded}
use Rattle.command.specs.declared.act.Act.{Act}
use Rattle.command.specs.declared.act.Act.TheVariants.{Forward, Own}
use Rattle.command.specs.declared.content.Command.{Command}
use Rattle.command.specs.declared.station.StationInfo.{StationInfo}
use Rattle.command.specs.declared.selection.Selection.{Selection}
use Rattle.command.specs.declared.selection.SelectStage.TheVariants.{Queued}
use Rattle.command.specs.declared.selection.Sign.TheVariants as sign
use Rattle.command.specs.declared.waiting.Waiting.{Waiting}

-- the answer, if it is not forwarded
abbrev pub answer_of : Act → Option (List ℕ)
answer_of Forward = None
answer_of (Own octets) = Some octets.items

-- ---- The ASDU alone

-- the interrogation is to object 0, every other command to an object that the line can name
abbrev pub is_object : Sizes → ℕ → ℕ → Bool
is_object sizes code address =
    if code == 100 then address == 0
    else not (address == 0) && nat_lt address (256 ^ ioa_len sizes.ioa)

-- one object with its address, its whole element and its tag, if its type has one
abbrev pub is_single : List ℕ → Bool
is_single xs = slice_index xs 1 == 1 && length xs == command_len (slice_index xs 0)

-- the form of the command, then its age
abbrev pub form_fault : ℕ → Option ℕ → List ℕ → Option ℕ
form_fault max_age_ms wall xs =
    if not (is_single xs) then Some (negative xs)
    else (if not (is_permitted (command_at xs)) then Some (negative xs)
    else (if is_stale max_age_ms wall xs then Some (negative xs)
    else None))

-- its addresses, then the rest
abbrev pub address_fault : Sizes → List StationInfo → ℕ → Option ℕ → List ℕ → Option ℕ
address_fault sizes stations max_age_ms wall xs =
    if not (is_global (slice_index xs 0) (ca_at tcp xs) || is_known stations (ca_at tcp xs))
    then Some 46
    else (if not (is_object sizes (slice_index xs 0) (first_address tcp xs)) then Some 47
    else form_fault max_age_ms wall xs)

-- its cause, then the rest
abbrev pub cause_fault : Sizes → List StationInfo → ℕ → Option ℕ → List ℕ → Option ℕ
cause_fault sizes stations max_age_ms wall xs =
    if not (slice_index xs 2 % 64 == 6) && not (slice_index xs 2 % 64 == 8) then Some 45
    else address_fault sizes stations max_age_ms wall xs

-- The cause of the answer, by the first fault of the ASDU: its type, its cause, its addresses, its
-- form, and its age if it has a tag, which needs a wall moment (ms since 1970-01-01).
abbrev pub fault : Sizes → List StationInfo → ℕ → Option ℕ → List ℕ → Option ℕ
fault sizes stations max_age_ms wall xs =
    if not (is_command_type (slice_index xs 0)) then Some 44
    else cause_fault sizes stations max_age_ms wall xs

-- ---- What is kept

-- an execute or a deactivation ends the selection of its target
abbrev pub ends_selection : Command → Bool
ends_selection c = is_deactivation c || is_execute c

abbrev pub without_selection : Command → State → State
without_selection c s = heeded (sign.Over (target_of c)) s

-- an execute that no live selection lets through
abbrev pub lacks_selection : Command → ℕ → State → Bool
lacks_selection c now s =
    is_guarded s.stations c && is_execute c
    && not (list_any (lets_through s.select_ms c now) s.selections)

abbrev pub makes_selection : List StationInfo → Command → Bool
makes_selection stations c = is_guarded stations c && is_select c

-- the selections of other targets
abbrev pub others : Command → State → List Selection
others c s = filter_map (advanced s.select_ms (sign.Over (target_of c))) s.selections

-- 64 commands may wait, and 16 selections be kept
abbrev pub lacks_place : Command → State → Bool
lacks_place c s =
    nat_lt 64 (length s.waiting + count_by (is_addressed c) s.stations)
    || (makes_selection s.stations c && nat_le 16 (length (others c s)))

-- ---- Forwarding

-- the command for each of these stations that it is for; the first of them has number i
abbrev pub copies : Sizes → List ℕ → ℕ → List StationInfo → List Waiting
copies sizes xs i [] = []
copies sizes xs i (station ∷ stations) =
    if is_addressed (command_at xs) station
    then record {
      station = i;
      received = xs;
      octets = command_octets sizes station.ca (command_at xs);
    }
    ∷ copies sizes xs (i + 1) stations
    else copies sizes xs (i + 1) stations

-- how many commands wait for the station
abbrev pub waiting_count : ℕ → List Waiting → ℕ
waiting_count station [] = 0
waiting_count station (w ∷ ws) =
    if w.station == station then waiting_count station ws + 1 else waiting_count station ws

abbrev pub selection_of : Command → ℕ → State → Selection
selection_of c now s =
    let station : ℕ = station_number c.ca s.stations in
    record {
      station = station;
      command = c;
      came = now;
      stage = Queued (waiting_count station s.waiting);
    }

-- a select makes a selection, or replaces that of its target
abbrev pub selected : Command → ℕ → State → State
selected c now s =
    let t : State = without_selection c s in
    record t { selections = t.selections ++ selection_of c now s ∷ [] }

abbrev pub queued : List ℕ → State → State
queued xs s = record s { waiting = s.waiting ++ copies s.sizes xs 0 s.stations }

abbrev pub forwarded : List ℕ → Command → ℕ → State → State
forwarded xs c now s = queued xs (if makes_selection s.stations c then selected c now s else s)

-- ---- The judgement: the answer or none, and what is kept then

abbrev pub Judgement : Type 0
Judgement = Option (List ℕ) × State

abbrev pub refused : ℕ → List ℕ → State → Judgement
refused cause xs s = (Some (answer cause xs), s)

-- a command that has places, or not
abbrev pub placed : List ℕ → Command → ℕ → State → Judgement
placed xs c now s =
    if lacks_place c s then refused (negative xs) xs s else (None, forwarded xs c now s)

-- a command without a fault
abbrev pub admitted : List ℕ → Command → ℕ → State → Judgement
admitted xs c now s =
    if lacks_selection c now s then refused (negative xs) xs (without_selection c s)
    else placed xs c now (if ends_selection c then without_selection c s else s)

abbrev pub by_fault : Option ℕ → List ℕ → ℕ → State → Judgement
by_fault (Some cause) xs now s = refused cause xs s
by_fault None xs now s = admitted xs (command_at xs) now s

abbrev pub judged : List ℕ → ℕ → Option ℕ → State → Judgement
judged xs now wall s = by_fault (fault s.sizes s.stations s.max_age_ms wall xs) xs now s
