-- A station's state as lists of numbers, each of them a line of a saved state, and what such lists
-- say (a form of this gateway's own).
use Rattle.std.specs.Prelude.{◌≡◌, ℕ, ◌<◌, ◌≤◌, ◌==◌, ◌&&◌, nat_le, nat_lt, Bool, true, false}
use Rattle.std.specs.Prelude.{if◌then◌else◌, List, [], ◌∷◌, All, length, Option, Some, None}
use Rattle.std.specs.List.{list_all}
use Rattle.link.specs.Answers.{Service, Class1, Class2, Command}
use Rattle.link.specs.Procedure.{Link, Down, Available, Next, Held, Probed, Never, Once, Twice}
use Rattle.link.specs.Turns.{StationState}

abbrev pub bit_number : Bool → ℕ
bit_number true = 1
bit_number false = 0

abbrev pub bit_from : ℕ → Option Bool
bit_from n = if n == 0 then Some false else if n == 1 then Some true else None

-- the service, and behind it a command's octets
abbrev pub service_numbers : Service → List ℕ
service_numbers Class1 = 1 ∷ []
service_numbers Class2 = 2 ∷ []
service_numbers (Command asdu) = 3 ∷ asdu

-- a held service, by whether a repeat is left, and how often the station answered a status
abbrev pub held_number : (spent : Bool) → Probed → ℕ
held_number false Never = 3
held_number true Never = 4
held_number false Once = 5
held_number true Once = 6
held_number false Twice = 7
held_number true Twice = 8

abbrev pub link_numbers : Link → List ℕ
link_numbers Down = 0 ∷ []
link_numbers Available = 1 ∷ []
link_numbers (Next fcb) = 2 ∷ bit_number fcb ∷ []
link_numbers (Held fcb service silence) =
    held_number silence.spent silence.probed ∷ bit_number fcb ∷ silence.missed
    ∷ service_numbers service

-- a command of at most 12 octets
abbrev pub command_from : List ℕ → Option (List ℕ)
command_from octets =
    if nat_le (length octets) 12 && list_all (λ n. nat_lt n 256) octets then Some octets else None

abbrev pub command_service : Option (List ℕ) → Option Service
command_service None = None
command_service (Some asdu) = Some (Command asdu)

-- nothing may follow
abbrev pub bare_service : Service → List ℕ → Option Service
bare_service service [] = Some service
bare_service service (n ∷ ns) = None

abbrev pub service_by : ℕ → List ℕ → Option Service
service_by kind ns =
    if kind == 1 then bare_service Class1 ns
    else if kind == 2 then bare_service Class2 ns
    else if kind == 3 then command_service (command_from ns)
    else None

abbrev pub service_from : List ℕ → Option Service
service_from [] = None
service_from (kind ∷ ns) = service_by kind ns

abbrev pub bare_link : Link → List ℕ → Option Link
bare_link link [] = Some link
bare_link link (n ∷ ns) = None

abbrev pub next_by : Option Bool → List ℕ → Option Link
next_by None ns = None
next_by (Some fcb) ns = bare_link (Next fcb) ns

abbrev pub next_from : List ℕ → Option Link
next_from [] = None
next_from (bit ∷ ns) = next_by (bit_from bit) ns

abbrev pub held_with : (spent : Bool) → Probed → Bool → (missed : ℕ) → Option Service → Option Link
held_with spent probed fcb missed None = None
held_with spent probed fcb missed (Some service) =
    Some (Held fcb service (record { missed = missed; spent = spent; probed = probed }))

abbrev pub held_missed : (spent : Bool) → Probed → Bool → List ℕ → Option Link
held_missed spent probed fcb [] = None
held_missed spent probed fcb (missed ∷ ns) =
    if nat_lt missed 65536 then held_with spent probed fcb missed (service_from ns) else None

abbrev pub held_by : (spent : Bool) → Probed → Option Bool → List ℕ → Option Link
held_by spent probed None ns = None
held_by spent probed (Some fcb) ns = held_missed spent probed fcb ns

abbrev pub held_from : (spent : Bool) → Probed → List ℕ → Option Link
held_from spent probed [] = None
held_from spent probed (bit ∷ ns) = held_by spent probed (bit_from bit) ns

-- which held service a number stands for
abbrev pub held_of : ℕ → Option (Bool × Probed)
held_of kind =
    if kind == 3 then Some (false, Never)
    else if kind == 4 then Some (true, Never)
    else if kind == 5 then Some (false, Once)
    else if kind == 6 then Some (true, Once)
    else if kind == 7 then Some (false, Twice)
    else if kind == 8 then Some (true, Twice)
    else None

abbrev pub held_as : Option (Bool × Probed) → List ℕ → Option Link
held_as None ns = None
held_as (Some how) ns = held_from how.0 how.1 ns

abbrev pub link_by : ℕ → List ℕ → Option Link
link_by kind ns =
    if kind == 0 then bare_link Down ns
    else if kind == 1 then bare_link Available ns
    else if kind == 2 then next_from ns
    else held_as (held_of kind) ns

-- the link that a line says
abbrev pub link_from : List ℕ → Option Link
link_from [] = None
link_from (kind ∷ ns) = link_by kind ns

-- What a link of the program has: a command of at most 12 octets, and a count of 16 bits.
abbrev pub FitsSavedCommand : List ℕ → Type 0
FitsSavedCommand asdu = (length asdu ≤ 12) × All (λ n. n < 256) asdu

abbrev pub FitsSavedService : Service → Type 0
FitsSavedService Class1 = Unit {0}
FitsSavedService Class2 = Unit {0}
FitsSavedService (Command asdu) = FitsSavedCommand asdu

abbrev pub FitsSavedLink : Link → Type 0
FitsSavedLink (Held fcb service silence) = (silence.missed < 65536) × FitsSavedService service
FitsSavedLink link = Unit {0}

-- what a line says that was made of it is the link
abbrev pub LinkReadsBack : Link → Type 0
LinkReadsBack link = link_from (link_numbers link) ≡ Some link

-- It may have been restarted: that stands at the end of a line, and if it can't have been, nothing
-- stands there.
abbrev pub unsure_numbers : Bool → List ℕ
unsure_numbers false = []
unsure_numbers true = 1 ∷ []

abbrev pub unsure_from : List ℕ → Option Bool
unsure_from [] = Some false
unsure_from (n ∷ []) = if n == 1 then Some true else None
unsure_from (n ∷ (m ∷ ms)) = None

-- what a line has of a station but for its link
abbrev pub flags_numbers : StationState → List ℕ
flags_numbers s =
    s.address ∷ bit_number s.acd ∷ bit_number s.dfc ∷ s.session.number
    ∷ bit_number s.session.has_gap ∷ unsure_numbers s.unsure

abbrev pub bare_station : (address number : ℕ) → (acd dfc gap unsure : Option Bool) →
    Option StationState
bare_station address number (Some acd) (Some dfc) (Some gap) (Some unsure) =
    if nat_lt address 65536 then
    Some (record {
      address = address;
      link = Down;
      acd = acd;
      dfc = dfc;
      session = record { number = number; has_gap = gap };
      unsure = unsure;
    })
    else None
bare_station address number acd dfc gap unsure = None

-- a station that is down, with what such a line says
abbrev pub flags_from : List ℕ → Option StationState
flags_from (address ∷ acd ∷ dfc ∷ number ∷ gap ∷ ns) =
    bare_station address number (bit_from acd) (bit_from dfc) (bit_from gap) (unsure_from ns)
flags_from ns = None

abbrev pub station_by : Option StationState → Option Link → Option StationState
station_by (Some s) (Some link) = Some (record {
  address = s.address;
  link = link;
  acd = s.acd;
  dfc = s.dfc;
  session = s.session;
  unsure = s.unsure;
})
station_by s link = None

pub record FitsSavedStation (s : StationState) : Type 0 where
  pub address : s.address < 65536
  pub link : FitsSavedLink s.link

-- no command of the station is kept here
abbrev pub no_command_numbers : List ℕ
no_command_numbers = 0 ∷ []

-- the lines of stations, three for each
abbrev pub lines_of : List StationState → List (List ℕ)
lines_of [] = []
lines_of (s ∷ ss) = flags_numbers s ∷ link_numbers s.link ∷ no_command_numbers ∷ lines_of ss

-- The first of these lines are those of such stations, whatever the third line of each says, and
-- the rest stands behind them.
abbrev pub StandBefore : List StationState → (lines rest : List (List ℕ)) → Type 0
StandBefore [] lines rest = lines ≡ rest
StandBefore (s ∷ ss) lines rest =
    (third : List ℕ) × (others : List (List ℕ))
    × (lines ≡ flags_numbers s ∷ link_numbers s.link ∷ third ∷ others) × StandBefore ss others rest
