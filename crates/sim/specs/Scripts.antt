-- Scripts of a simulated line (texts of this gateway's own profile): which lines may stand
-- together, and what a whole text says.
use Rattle.std.specs.Prelude.{◌≡◌, ℕ, ◌+◌, ◌==◌, ◌&&◌, not, Bool, true, false, if◌then◌else◌, List}
use Rattle.std.specs.Prelude.{[], ◌∷◌, ◌++◌, Option, Some, None, option_to_list, length, Result}
use Rattle.std.specs.Prelude.{MatchResult}
use Rattle.std.specs.List.{slice_split, filter_map, list_any, AllByRecursion}
use Rattle.ft12.specs.declared.frame.LinkSize.{LinkSize}
use Rattle.gateway.specs.Config.{Settings}
use Rattle.traces.specs.declared.reading.TextFault.{TextFault}
use Rattle.traces.specs.declared.reading.TextFault.TheVariants.{Line, NoMemory}
use Rattle.traces.specs.Trace.{is_skipped}
use Rattle.sim.specs.declared.directive.Directive.{Directive}
use Rattle.sim.specs.declared.directive.Directive.TheVariants.{Turns, Ack, Wall, SpoilAnswer, Send}
use Rattle.sim.specs.Directives.{directive_in, FitsStations, IsWithinRanges}

abbrev pub is_turns : Directive → Bool
is_turns (Turns n) = true
is_turns directive = false

-- Two lines can't stand in one script: a second `turns`, `ack` or `wall`, a second change of one
-- answer (two could pass its check), and a second frame for one call.
abbrev pub clashes : Directive → Directive → Bool
clashes (Turns n) (Turns m) = true
clashes (Ack n) (Ack m) = true
clashes (Wall n) (Wall m) = true
clashes (SpoilAnswer n place) (SpoilAnswer m other) = n == m
clashes (Send n octets) (Send m others) = n == m
clashes directive other = false

-- one of these clashes with it
abbrev pub clashes_with : List Directive → Directive → Bool
clashes_with before directive = list_any (λ other. clashes other directive) before

-- no two of these clash
abbrev pub AreTogether : List Directive → Type 0
AreTogether [] = Unit {0}
AreTogether (directive ∷ directives) =
    (list_any (clashes directive) directives ≡ false) × AreTogether directives

-- the rules of a script
pub record IsScript (directives : List Directive) : Type 0 where
  pub turns : list_any is_turns directives ≡ true
  pub together : AreTogether directives
  pub ranges : AllByRecursion IsWithinRanges directives

-- The script fits the settings: the stations that it names are there, and its reports fit the
-- frames of the line.
abbrev pub FitsSettings : Settings → List Directive → Type 0
FitsSettings c directives = AllByRecursion (FitsStations c.line.link (length c.stations)) directives

-- The lines that line feeds end. What follows the last line feed is a line if there is something.
abbrev pub ended_lines : List (List ℕ) → List (List ℕ)
ended_lines [] = []
ended_lines ([] ∷ []) = []
ended_lines (l ∷ ls) = l ∷ ended_lines ls

abbrev pub lines_of : List ℕ → List (List ℕ)
lines_of text = ended_lines (slice_split (λ b. b == 10) text)

-- what a line says; an empty line and a comment say nothing
abbrev pub said : LinkSize → (stations : ℕ) → List ℕ → Option Directive
said size stations line = if is_skipped line then None else directive_in size stations line

-- a line that is neither empty nor a comment is refused after these if it says nothing, or clashes
-- with one of them
abbrev pub refuses : List Directive → Option Directive → Bool
refuses before None = true
refuses before (Some directive) = clashes_with before directive

abbrev pub is_wrong : LinkSize → (stations : ℕ) → List Directive → List ℕ → Bool
is_wrong size stations before line =
    not (is_skipped line) && refuses before (directive_in size stations line)

-- The number of the first wrong line, if the lines are counted from n and those before said this. A
-- script without `turns` is wrong at the line after the last.
abbrev pub first_wrong : LinkSize → (stations : ℕ) → List Directive → ℕ → List (List ℕ) → Option ℕ
first_wrong size stations before n [] = if list_any is_turns before then None else Some n
first_wrong size stations before n (l ∷ ls) =
    if is_wrong size stations before l then Some n
    else first_wrong size stations (before ++ option_to_list (said size stations l)) (n + 1) ls

-- no line is wrong, and the directives are what the lines say, in their order
abbrev pub AreSaidBy : LinkSize → (stations : ℕ) → List (List ℕ) → List Directive → Type 0
AreSaidBy size stations lines directives =
    (first_wrong size stations [] 1 lines ≡ None)
    × (directives ≡ filter_map (said size stations) lines)

-- the number is that of the first wrong line, counted from 1 over all lines
abbrev pub IsFaultOf : LinkSize → (stations : ℕ) → List (List ℕ) → TextFault → Type 0
IsFaultOf size stations lines (Line n) = first_wrong size stations [] 1 lines ≡ Some n
IsFaultOf size stations lines NoMemory = Unit {0}

-- what the reading of a script answers
abbrev pub IsScriptOf : Settings → List ℕ → Result (List Directive) TextFault → Type 0
IsScriptOf c text result =
    MatchResult result (AreSaidBy c.line.link (length c.stations) (lines_of text))
    (IsFaultOf c.line.link (length c.stations) (lines_of text))
