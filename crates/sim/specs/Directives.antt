-- What one line of a script says (texts of this gateway's own profile). Its fields are separated by
-- one space.
use Rattle.std.specs.Prelude.{ℕ, ◌-◌, ◌==◌, nat_le, ◌&&◌, if◌then◌else◌, List, [], ◌∷◌, codes}
use Rattle.std.specs.Prelude.{length, Option, Some, None, ◌≤◌, ◌<◌}
use Rattle.std.specs.List.{slice_split}
use Rattle.std.specs.Str.{bytes_eq}
use Rattle.ft12.specs.declared.frame.LinkSize.{LinkSize}
use Rattle.ft12.specs.declared.frame.LinkSize.TheVariants as sizes
use Rattle.link.specs.Requests.{FitsFrame}
use Rattle.traces.specs.Fields.{decimal_of, octets_of}
use Rattle.sim.specs.declared.directive.Class.{Class}
use Rattle.sim.specs.declared.directive.Class.TheVariants.{One, Two}
use Rattle.sim.specs.declared.directive.Directive.{Directive}
use Rattle.sim.specs.declared.directive.Directive.TheVariants.{Turns, Ack, Wall, Report}
use Rattle.sim.specs.declared.directive.Directive.TheVariants.{LoseRequest, LoseAnswer, SpoilAnswer}
use Rattle.sim.specs.declared.directive.Directive.TheVariants.{Cut, Send}

-- a number of 1 to 9 decimal digits
abbrev pub number_of : List ℕ → Option ℕ
number_of digits = if nat_le (length digits) 9 then decimal_of digits else None

-- `turns N`, `ack N`, `cut N`
abbrev pub counted : List ℕ → ℕ → Option Directive
counted word n =
    if bytes_eq word (codes "turns") then Some (Turns n)
    else if bytes_eq word (codes "ack") then
    (if nat_le 1 n && nat_le n 32767 then Some (Ack n) else None)
    else if bytes_eq word (codes "cut") then Some (Cut n)
    else None

abbrev pub counted_by : List ℕ → Option ℕ → Option Directive
counted_by word None = None
counted_by word (Some n) = counted word n

-- `wall WALL`, in milliseconds since 1970-01-01 UTC: 1 to 15 digits
abbrev pub walled_by : Option ℕ → Option Directive
walled_by None = None
walled_by (Some n) = Some (Wall n)

abbrev pub of_two : List ℕ → List ℕ → Option Directive
of_two word digits =
    if bytes_eq word (codes "wall") then walled_by (decimal_of digits)
    else counted_by word (number_of digits)

-- `lose request N`, `lose answer N`
abbrev pub losing : List ℕ → ℕ → Option Directive
losing what n =
    if bytes_eq what (codes "request") then Some (LoseRequest n)
    else if bytes_eq what (codes "answer") then Some (LoseAnswer n)
    else None

abbrev pub losing_by : List ℕ → Option ℕ → Option Directive
losing_by what None = None
losing_by what (Some n) = losing what n

-- `send N HEX`, with 9 to 249 octets
abbrev pub sending_by : Option ℕ → Option (List ℕ) → Option Directive
sending_by None octets = None
sending_by (Some n) None = None
sending_by (Some n) (Some octets) =
    if nat_le 9 (length octets) && nat_le (length octets) 249 then Some (Send n octets) else None

-- `spoil answer N P`
abbrev pub spoiling_by : List ℕ → Option ℕ → Option ℕ → Option Directive
spoiling_by what None place = None
spoiling_by what (Some n) None = None
spoiling_by what (Some n) (Some place) =
    if bytes_eq what (codes "answer") then Some (SpoilAnswer n place) else None

-- the most octets of a report: what a frame has room for
abbrev pub longest_report : LinkSize → ℕ
longest_report sizes.One = 253
longest_report sizes.Two = 252

abbrev pub class_of : ℕ → Option Class
class_of n = if n == 1 then Some One else if n == 2 then Some Two else None

-- the station, from 1, is one of so many
abbrev pub classed : (stations : ℕ) → (station : ℕ) → Option Class → List ℕ → Option Directive
classed stations station None octets = None
classed stations station (Some class) octets =
    if nat_le 1 station && nat_le station stations then Some (Report (station - 1) class octets)
    else None

-- `report S CLASS HEX`
unfoldable pub reporting_by : LinkSize → (stations : ℕ) → Option ℕ → Option ℕ → Option (List ℕ)
    → Option Directive
reporting_by size stations None class octets = None
reporting_by size stations (Some station) None octets = None
reporting_by size stations (Some station) (Some class) None = None
reporting_by size stations (Some station) (Some class) (Some octets) =
    if nat_le (length octets) (longest_report size) then
    classed stations station (class_of class) octets
    else None

abbrev pub of_three : List ℕ → List ℕ → List ℕ → Option Directive
of_three word second third =
    if bytes_eq word (codes "lose") then losing_by second (number_of third)
    else if bytes_eq word (codes "send") then sending_by (number_of second) (octets_of third)
    else None

abbrev pub of_four : LinkSize → (stations : ℕ) → List ℕ → List ℕ → List ℕ → List ℕ
    → Option Directive
of_four size stations word second third fourth =
    if bytes_eq word (codes "spoil") then spoiling_by second (number_of third) (number_of fourth)
    else if bytes_eq word (codes "report") then
    reporting_by size stations (number_of second) (number_of third) (octets_of fourth)
    else None

abbrev pub directive_from : LinkSize → (stations : ℕ) → List (List ℕ) → Option Directive
directive_from size stations (word ∷ digits ∷ []) = of_two word digits
directive_from size stations (word ∷ second ∷ third ∷ []) = of_three word second third
directive_from size stations (word ∷ second ∷ third ∷ fourth ∷ []) =
    of_four size stations word second third fourth
directive_from size stations _ = None

-- what a line says, if there are so many stations, and link addresses have this size
abbrev pub directive_in : LinkSize → (stations : ℕ) → List ℕ → Option Directive
directive_in size stations text = directive_from size stations (slice_split (λ b. b == 32) text)

-- the station that it names is there, and its report fits a frame
abbrev pub FitsStations : LinkSize → (stations : ℕ) → Directive → Type 0
FitsStations size stations (Report station class octets) =
    (station < stations) × FitsFrame size octets
FitsStations size stations directive = Unit {0}

-- its numbers are within their ranges
abbrev pub IsWithinRanges : Directive → Type 0
IsWithinRanges (Ack n) = (1 ≤ n) × (n ≤ 32767)
IsWithinRanges (Report station class octets) = 1 ≤ length octets
IsWithinRanges (Send call octets) = (9 ≤ length octets) × (length octets ≤ 249)
IsWithinRanges directive = Unit {0}
