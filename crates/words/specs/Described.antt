-- Octets described frame by frame (this gateway's own profile).
use Rattle.std.specs.Prelude.{ℕ, ◌<◌, Bool, true, false, List, [], ◌++◌, take, drop}
use Rattle.words.specs.LineFacts.{IsLineShown}
use Rattle.words.specs.TcpFacts.{IsTcpShown}
use Rattle.words.specs.declared.facts.sizes.LineSizes.{LineSizes}
use Rattle.words.specs.declared.facts.condition.Condition.{Condition}
use Rattle.words.specs.declared.facts.condition.Condition.TheVariants.{Good, Faulty}
use Rattle.words.specs.Connections.{AreConnectionWords}
use Rattle.words.specs.Lines.{AreLineWords}
use Rattle.words.specs.Pipes.{IsApduEnd, IsLineEnd}

-- the frame at the front, in one line of words or with a fact a line
abbrev pub IsLineDescribed : (words : Bool) → LineSizes → (octets text : List ℕ) → Condition
    → Type 0
IsLineDescribed true = AreLineWords
IsLineDescribed false = IsLineShown

abbrev pub IsTcpDescribed : (words : Bool) → (octets text : List ℕ) → Condition → Type 0
IsTcpDescribed true = AreConnectionWords
IsTcpDescribed false = IsTcpShown

-- two are as they should be, if both are
abbrev pub both : Condition → Condition → Condition
both Good other = other
both Faulty other = Faulty

-- Octets are described frame by frame, each alone and in their order, and those at whose front no
-- frame is whole all together. So nothing is left out, and nothing described twice.
pub data AreFramesDescribed (IsEnd : (octets : List ℕ) → (end : ℕ) → Type 0)
    (IsLogged : (octets text : List ℕ) → Condition → Type 0)
    : (octets text : List ℕ) → Condition → Type 0 where
  no_octets : AreFramesDescribed IsEnd IsLogged [] [] Good
  frame_first : (octets text texts : List ℕ) → (end : ℕ) → (one rest : Condition) → 0 < end
      → IsEnd octets end → IsLogged (take end octets) text one
      → AreFramesDescribed IsEnd IsLogged (drop end octets) texts rest
      → AreFramesDescribed IsEnd IsLogged octets (text ++ texts) (both one rest)

-- those of the line
abbrev pub AreLineFramesDescribed : (words : Bool) → LineSizes → (octets text : List ℕ) → Condition
    → Type 0
AreLineFramesDescribed words sizes =
    AreFramesDescribed (IsLineEnd sizes.link) (IsLineDescribed words sizes)

-- and those of the connection
abbrev pub AreApdusDescribed : (words : Bool) → (octets text : List ℕ) → Condition → Type 0
AreApdusDescribed words = AreFramesDescribed IsApduEnd (IsTcpDescribed words)
