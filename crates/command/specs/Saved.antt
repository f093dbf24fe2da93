-- What is kept of commands, as lines of numbers, and what such lines say (profile).
use Rattle.std.specs.Prelude.{ℕ, Bool, true, ◌&&◌, ◌==◌, nat_lt, nat_le, if◌then◌else◌, List, []}
use Rattle.std.specs.Prelude.{◌∷◌, ◌++◌, length, take, drop, slice_index, Option, Some, None}
use Rattle.std.specs.List.{list_all}
use Rattle.arrayvec.specs.ArrayVec.{ArrayVec}
use Rattle.elements.specs.declared.tag.Cp56.{Cp56}
use Rattle.command.specs.Command.{command_len, element_octets}
use Rattle.command.specs.declared.content.Command.{Command}
use Rattle.command.specs.declared.content.CommandElement.{CommandElement}
use Rattle.command.specs.declared.content.CommandElement.TheVariants.{Octet, SetPoint}
use Rattle.command.specs.declared.content.Target.{Target}
use Rattle.command.specs.declared.selection.Selection.{Selection}
use Rattle.command.specs.declared.selection.SelectStage.{SelectStage}
use Rattle.command.specs.declared.selection.SelectStage.TheVariants.{Queued, Sent, Accepted, Live}
use Rattle.command.specs.declared.tags.Sending.{Sending}
use Rattle.command.specs.declared.waiting.Waiting.{Waiting}
use Rattle.command.specs.declared.waiting.Line.{Line}
use Rattle.command.specs.declared.waiting.Line.TheVariants.{Free, Holds, CutOff}

-- each is below 256
abbrev pub are_octets : List ℕ → Bool
are_octets ns = list_all (λ n. nat_lt n 256) ns

-- at most so many octets, if these are
abbrev pub octets_in : ℕ → List ℕ → Option (List ℕ)
octets_in most ns = if nat_le (length ns) most && are_octets ns then Some ns else None

-- ---- Commands that wait: the station, how many octets came, these, and those for the line

-- octets of a command as it came, as many as its type says
abbrev pub is_received : List ℕ → Bool
is_received xs =
    nat_le (length xs) 19 && are_octets xs && length xs == command_len (slice_index xs 0)

-- octets for the line
abbrev pub is_for_line : List ℕ → Bool
is_for_line xs = nat_le (length xs) 12 && are_octets xs && nat_le 1 (length xs)

abbrev pub received_in : List ℕ → Option (List ℕ)
received_in ns = if is_received ns then Some ns else None

abbrev pub for_line_in : List ℕ → Option (List ℕ)
for_line_in ns = if is_for_line ns then Some ns else None

abbrev pub waiting_numbers : Waiting → List ℕ
waiting_numbers w = w.station ∷ length w.received ∷ (w.received ++ w.octets)

abbrev pub is_savable_waiting : Waiting → Bool
is_savable_waiting w = is_received w.received && is_for_line w.octets

abbrev pub waiting_with : ℕ → Option (List ℕ) → Option (List ℕ) → Option Waiting
waiting_with station (Some received) (Some octets) =
    Some (record { station = station; received = received; octets = octets })
waiting_with station received octets = None

abbrev pub waiting_in : List ℕ → Option Waiting
waiting_in (station ∷ count ∷ ns) =
    if nat_le count (length ns)
    then waiting_with station (received_in (take count ns)) (for_line_in (drop count ns))
    else None
waiting_in ns = None

-- ---- What stands on a station's line

abbrev pub line_numbers : Line → List ℕ
line_numbers Free = 0 ∷ []
line_numbers (Holds received) = 1 ∷ received
line_numbers CutOff = 2 ∷ []

abbrev pub is_savable_line : Line → Bool
is_savable_line Free = true
is_savable_line (Holds received) = is_received received
is_savable_line CutOff = true

-- nothing may follow
abbrev pub bare_line : Line → List ℕ → Option Line
bare_line line [] = Some line
bare_line line (n ∷ ns) = None

abbrev pub line_with : Option (List ℕ) → Option Line
line_with None = None
line_with (Some received) = Some (Holds received)

abbrev pub line_by : ℕ → List ℕ → Option Line
line_by kind ns =
    if kind == 0 then bare_line Free ns
    else (if kind == 1 then line_with (received_in ns)
    else (if kind == 2 then bare_line CutOff ns
    else None))

abbrev pub line_in : List ℕ → Option Line
line_in [] = None
line_in (kind ∷ ns) = line_by kind ns

-- ---- Selections: station and moment, the select, its stage, and its element

abbrev pub stage_number : SelectStage → ℕ
stage_number (Queued ahead) = 0
stage_number Sent = 1
stage_number Accepted = 2
stage_number (Live since) = 3

-- how many go out before it, or when the con came
abbrev pub stage_detail : SelectStage → ℕ
stage_detail (Queued ahead) = ahead
stage_detail Sent = 0
stage_detail Accepted = 0
stage_detail (Live since) = since

-- all of a select but its element
abbrev pub field_numbers : Command → List ℕ
field_numbers c = c.kind ∷ c.received ∷ c.cause ∷ c.originator ∷ c.ca ∷ c.address ∷ []

abbrev pub selection_numbers : Selection → List ℕ
selection_numbers z =
    z.station ∷ z.came ∷ (field_numbers z.command
    ++ (stage_number z.stage ∷ stage_detail z.stage ∷ element_octets z.command.element))

abbrev pub are_fields : (kind received cause originator ca address : ℕ) → Bool
are_fields kind received cause originator ca address =
    nat_lt kind 256 && nat_lt received 256 && nat_lt cause 256 && nat_lt originator 256
    && nat_lt ca 65536 && nat_lt address 4294967296

abbrev pub is_savable_element : CommandElement → Bool
is_savable_element (Octet x) = nat_lt x 256
is_savable_element (SetPoint x y z) = nat_lt x 256 && nat_lt y 256 && nat_lt z 256

abbrev pub is_savable_command : Command → Bool
is_savable_command c =
    are_fields c.kind c.received c.cause c.originator c.ca c.address && is_savable_element c.element

abbrev pub is_savable_selection : Selection → Bool
is_savable_selection z = is_savable_command z.command

abbrev pub element_in : List ℕ → Option CommandElement
element_in (x ∷ []) = if nat_lt x 256 then Some (Octet x) else None
element_in (x ∷ y ∷ z ∷ []) =
    if nat_lt x 256 && nat_lt y 256 && nat_lt z 256 then Some (SetPoint x y z) else None
element_in ns = None

abbrev pub stage_in : ℕ → ℕ → Option SelectStage
stage_in number detail =
    if number == 0 then Some (Queued detail)
    else (if number == 1 && detail == 0 then Some Sent
    else (if number == 2 && detail == 0 then Some Accepted
    else (if number == 3 then Some (Live detail)
    else None)))

abbrev pub command_with : (kind received cause originator ca address : ℕ) → Option CommandElement →
    Option Command
command_with kind received cause originator ca address None = None
command_with kind received cause originator ca address (Some element) =
    if are_fields kind received cause originator ca address
    then Some (record {
      kind = kind;
      received = received;
      cause = cause;
      originator = originator;
      ca = ca;
      address = address;
      element = element;
    })
    else None

abbrev pub selection_with : ℕ → ℕ → Option Command → Option SelectStage → Option Selection
selection_with station came (Some command) (Some stage) =
    Some (record { station = station; command = command; came = came; stage = stage })
selection_with station came command stage = None

abbrev pub selection_in : List ℕ → Option Selection
selection_in
    (station ∷ came ∷ kind ∷ received ∷ cause ∷ originator ∷ ca ∷ address ∷ stage ∷ detail ∷ ns) =
    selection_with station came
    (command_with kind received cause originator ca address (element_in ns))
    (stage_in stage detail)
selection_in ns = None

-- ---- First sendings: type and addresses, and the tag, if there is one

abbrev pub tag_numbers : Option Cp56 → List ℕ
tag_numbers None = []
tag_numbers (Some tag) = tag.0

abbrev pub sending_numbers : Sending → List ℕ
sending_numbers z = z.target.kind ∷ z.target.ca ∷ z.target.address ∷ tag_numbers z.tag

abbrev pub is_tag : List ℕ → Bool
is_tag xs = length xs == 7 && are_octets xs

abbrev pub is_savable_tag : Option Cp56 → Bool
is_savable_tag None = true
is_savable_tag (Some tag) = is_tag tag.0

abbrev pub is_savable_target : Target → Bool
is_savable_target t = nat_lt t.kind 256 && nat_lt t.ca 65536 && nat_lt t.address 4294967296

abbrev pub is_savable_sending : Sending → Bool
is_savable_sending z = is_savable_target z.target && is_savable_tag z.tag

abbrev pub tag_in : List ℕ → Option (Option Cp56)
tag_in [] = Some None
tag_in (n ∷ ns) = if is_tag (n ∷ ns) then Some (Some (record { 0 = n ∷ ns })) else None

abbrev pub target_in : ℕ → ℕ → ℕ → Option Target
target_in kind ca address =
    if nat_lt kind 256 && nat_lt ca 65536 && nat_lt address 4294967296
    then Some (record { kind = kind; ca = ca; address = address })
    else None

abbrev pub sending_with : Option Target → Option (Option Cp56) → Option Sending
sending_with (Some target) (Some tag) = Some (record { target = target; tag = tag })
sending_with target tag = None

abbrev pub sending_in : List ℕ → Option Sending
sending_in (kind ∷ ca ∷ address ∷ ns) = sending_with (target_in kind ca address) (tag_in ns)
sending_in ns = None

-- ---- Own answers

abbrev pub is_answer : List ℕ → Bool
is_answer xs = nat_le (length xs) 249 && are_octets xs && nat_le 9 (length xs)

abbrev pub answer_numbers : ArrayVec ℕ → List ℕ
answer_numbers a = a.items

-- what the type alone knows
abbrev pub is_savable_answer : ArrayVec ℕ → Bool
is_savable_answer a = nat_le (length a.items) 249 && are_octets a.items
