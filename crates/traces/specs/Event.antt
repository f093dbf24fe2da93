-- The event of one line of a trace (texts of this gateway's own profile): its fields are separated
-- by one space.
use Rattle.std.specs.Prelude.{ℕ, ◌==◌, if◌then◌else◌, List, [], ◌∷◌, codes, Option, Some, None}
use Rattle.std.specs.List.{slice_split}
use Rattle.std.specs.Str.{bytes_eq}
use Rattle.gateway.specs.declared.entries.Entry.{Entry}
use Rattle.gateway.specs.declared.entries.Entry.TheVariants.{Line, Open, Bytes, Cut, Tick, Wall}
use Rattle.traces.specs.Fields.{decimal_of, octets_of}

-- an event, with its moment, and its octets as a list or the number of the wall clock
pub data Event : Type 0 where
  line : ℕ → List ℕ → Event
  opening : ℕ → Event
  received : ℕ → List ℕ → Event
  cut : ℕ → Event
  tick : ℕ → Event
  wall : ℕ → ℕ → Event

abbrev pub event_of : Entry → Event
event_of (Line now octets) = line now octets.items
event_of (Open now) = opening now
event_of (Bytes now octets) = received now octets.items
event_of (Cut now) = cut now
event_of (Tick now) = tick now
event_of (Wall now number) = wall now number

-- an event without octets, by its kind
abbrev pub bare_event : List ℕ → ℕ → Option Event
bare_event kind now =
    if bytes_eq kind (codes "T") then Some (tick now)
    else if bytes_eq kind (codes "O") then Some (opening now)
    else if bytes_eq kind (codes "C") then Some (cut now)
    else None

abbrev pub bare_at : Option ℕ → List ℕ → Option Event
bare_at None kind = None
bare_at (Some now) kind = bare_event kind now

abbrev pub bare_in : List ℕ → List ℕ → Option Event
bare_in moment kind = bare_at (decimal_of moment) kind

-- an event with octets, by its kind
abbrev pub octets_event : List ℕ → ℕ → List ℕ → Option Event
octets_event kind now octets =
    if bytes_eq kind (codes "S") then Some (line now octets)
    else if bytes_eq kind (codes "R") then Some (received now octets)
    else None

abbrev pub octets_at : Option ℕ → List ℕ → Option (List ℕ) → Option Event
octets_at None kind octets = None
octets_at (Some now) kind None = None
octets_at (Some now) kind (Some octets) = octets_event kind now octets

-- the wall clock shows a number: milliseconds since 1970-01-01 UTC
abbrev pub wall_at : Option ℕ → Option ℕ → Option Event
wall_at None number = None
wall_at (Some now) None = None
wall_at (Some now) (Some number) = Some (wall now number)

-- an event with octets or a number, by its kind
abbrev pub valued_at : Option ℕ → (kind text : List ℕ) → Option Event
valued_at now kind text =
    if bytes_eq kind (codes "W") then wall_at now (decimal_of text)
    else octets_at now kind (octets_of text)

abbrev pub valued_in : List ℕ → List ℕ → List ℕ → Option Event
valued_in moment kind text = valued_at (decimal_of moment) kind text

abbrev pub event_from : List (List ℕ) → Option Event
event_from (moment ∷ kind ∷ []) = bare_in moment kind
event_from (moment ∷ kind ∷ text ∷ []) = valued_in moment kind text
event_from _ = None

-- the event of a line, if it is one
abbrev pub event_in : List ℕ → Option Event
event_in text = event_from (slice_split (λ b. b == 32) text)
