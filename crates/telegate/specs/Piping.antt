-- Frames that come by a pipe, as lines of octets in hexadecimal (this gateway's own profile).
use Rattle.std.specs.Prelude.{◌≡◌, ◌⊎◌, ℕ, Bool, List, [], ◌∷◌, ◌++◌, Option, Some, None, Result}
use Rattle.std.specs.Prelude.{Ok, Err, MatchResult, codes, string_bytes}
use Rattle.std.specs.Fmt.{decimal}
use Rattle.std.specs.Io.KnownBytes.{Appends, Keeps}
use Rattle.words.specs.Sizes.{sizes_of}
use Rattle.words.specs.declared.facts.sizes.LineSizes.{LineSizes}
use Rattle.words.specs.declared.facts.condition.Condition.{Condition}
use Rattle.words.specs.declared.facts.condition.Shown.{Shown}
use Rattle.words.specs.declared.facts.condition.Condition.TheVariants.{Good, Faulty}
use Rattle.sim.specs.Runs.{IsBegun}
use Rattle.traces.specs.Trace.{lines_of}
use Rattle.words.specs.Pipes.{octets_in}
use Rattle.words.specs.Described.{AreApdusDescribed, AreLineFramesDescribed, both}
use Rattle.telegate.specs.Answers.{status_by}
use Rattle.telegate.specs.Faults.{status_of}
use Rattle.telegate.specs.declared.fault.Fault.{Fault}
use Rattle.telegate.specs.declared.fault.Fault.TheVariants.{Device, Unread, NoMemory}
use Rattle.telegate.specs.declared.piping.Piped.{Piped}
use Rattle.telegate.specs.declared.piping.Piped.TheVariants.{Line, Connection}

-- the frames of octets, one after another
abbrev pub AreFrames : Piped → (words : Bool) → (octets text : List ℕ) → Condition → Type 0
AreFrames (Line sizes) words = AreLineFramesDescribed words sizes
AreFrames Connection words = AreApdusDescribed words

-- those of a line; one that is no octets has no text, and is a fault
abbrev pub IsLineShown : Piped → (words : Bool) → Option (List ℕ) → (text : List ℕ) → Condition
    → Type 0
IsLineShown piped words None text condition = (text ≡ []) × (condition ≡ Faulty)
IsLineShown piped words (Some octets) text condition = AreFrames piped words octets text condition

-- what is shown of a line, if it is octets
abbrev pub IsShownAs : Piped → (words : Bool) → Option (List ℕ) → Option Shown → Type 0
IsShownAs piped words octets None = octets ≡ None
IsShownAs piped words octets (Some shown) =
    (xs : List ℕ) × (octets ≡ Some xs)
    × AreFrames piped words xs (string_bytes shown.lines) shown.condition

-- a line whose octets are frames, each as it should be
abbrev pub IsGoodLine : Piped → (words : Bool) → (line : List ℕ) → Type 0
IsGoodLine piped words line = (octets : List ℕ) × (text : List ℕ)
    × (octets_in line ≡ Some octets) × AreFrames piped words octets text Good

-- a line that is no octets, or whose frames aren't all as they should be
abbrev pub IsFaultyLine : Piped → (words : Bool) → (line : List ℕ) → Type 0
IsFaultyLine piped words line = (octets_in line ≡ None)
    ⊎ ((octets : List ℕ) × (text : List ℕ)
    × (octets_in line ≡ Some octets) × AreFrames piped words octets text Faulty)

-- it was added behind a text, and judged with what is there
pub record IsAdded (piped : Piped) (words : Bool) (octets : Option (List ℕ))
    (old new : List ℕ) (condition later : Condition) : Type 0 where
  pub text : List ℕ
  pub one : Condition
  pub shown : IsLineShown piped words octets text one
  pub added : new ≡ old ++ text
  pub judged : later ≡ both condition one

-- lines one after another, each whatever the others are; all is well if each line is
abbrev pub AreLinesShown : Piped → (words : Bool) → List (List ℕ) → (text : List ℕ) → Condition
    → Type 0
AreLinesShown piped words [] text condition = (text ≡ []) × (condition ≡ Good)
AreLinesShown piped words (line ∷ lines) text condition =
    (first : List ℕ) × (one : Condition) × (texts : List ℕ) × (others : Condition)
    × IsLineShown piped words (octets_in line) first one
    × AreLinesShown piped words lines texts others
    × (text ≡ first ++ texts) × (condition ≡ both one others)

-- the lines of a text whose octets may be these, and their whole text
pub record IsPiped (piped : Piped) (words : Bool) (has : List ℕ → Type 0)
    (old new : Option (List ℕ)) (condition : Condition) : Type 0 where
  pub octets : List ℕ
  pub is : has octets
  pub text : List ℕ
  pub shown : AreLinesShown piped words (lines_of octets) text condition
  pub printed : Appends old new text

-- the same of the first lines, and a beginning of their text
pub record IsPipedSome (piped : Piped) (words : Bool) (has : List ℕ → Type 0)
    (old new : Option (List ℕ)) : Type 0 where
  pub octets : List ℕ
  pub is : has octets
  pub first : List (List ℕ)
  pub later : List (List ℕ)
  pub lines : lines_of octets ≡ first ++ later
  pub text : List ℕ
  pub condition : Condition
  pub shown : AreLinesShown piped words first text condition
  pub printed : IsBegun old new text

-- the output failed, the text can't be read on, or memory was refused
abbrev pub IsPipeFault : Piped → (words : Bool) → (has : List ℕ → Type 0)
    → (old new : Option (List ℕ)) → Fault → Type 0
IsPipeFault piped words has old new Device = IsPipedSome piped words has old new
IsPipeFault piped words has old new Unread = Keeps old new ⊎ IsPipedSome piped words has old new
IsPipeFault piped words has old new NoMemory = Keeps old new ⊎ IsPipedSome piped words has old new
IsPipeFault piped words has old new _ = ⊥

abbrev pub Pipes : Piped → (words : Bool) → (has : List ℕ → Type 0) → (old new : Option (List ℕ))
    → Result Condition Fault → Type 0
Pipes piped words has old new result =
    MatchResult result (IsPiped piped words has old new) (IsPipeFault piped words has old new)

-- 0 if all is as it should be, 1 if it isn't, or that of the fault
abbrev pub status_of_pipe : Result Condition Fault → ℕ
status_of_pipe (Ok condition) = status_by condition
status_of_pipe (Err fault) = status_of fault

pub record HasPiped (piped : Piped) (words : Bool) (has : List ℕ → Type 0)
    (old new : Option (List ℕ)) (exit : ℕ) : Type 0 where
  pub result : Result Condition Fault
  pub pipes : Pipes piped words has old new result
  pub status : exit ≡ status_of_pipe result

-- sizes are judged before anything is read
pub record HasPipedBy (line_sizes : LineSizes) (sizes : List ℕ) (words : Bool)
    (has : List ℕ → Type 0) (old new : Option (List ℕ)) (exit : ℕ) : Type 0 where
  pub read_sizes : sizes_of sizes ≡ Some line_sizes
  pub piped : HasPiped (Line line_sizes) words has old new exit

abbrev pub PipesLine : (sizes : List ℕ) → (words : Bool) → (has : List ℕ → Type 0)
    → (old new : Option (List ℕ)) → (exit : ℕ) → Type 0
PipesLine sizes words has old new exit =
    ((sizes_of sizes ≡ None) × (exit ≡ 1) × Keeps old new)
    ⊎ ((s : LineSizes) × HasPipedBy s sizes words has old new exit)

-- the line of a fault
abbrev pub wrong_line : ℕ → List ℕ
wrong_line number = codes "octets: line " ++ decimal number ++ 10 ∷ []
