-- The first line of a segment (profile).
use Rattle.std.specs.Prelude.{◌≡◌, ℕ, ◌<◌, ◌^◌, Bool, true, false, List, [], ◌∷◌, ◌++◌, codes}
use Rattle.std.specs.Prelude.{drop, length}
use Rattle.std.specs.Int.{w32, w64, to_be_bytes}
use Rattle.statetext.specs.Sum.{sum_of}
use Rattle.hex.specs.Hex.{encode_lower}
use Rattle.segments.specs.declared.head.SegmentHead.{SegmentHead}

-- the rules: 2 (50) if writes bear seals, or else 1 (49)
abbrev pub rules_of : (is_sealed : Bool) → ℕ
rules_of true = 50
rules_of false = 49

-- the form and the rules; then the segment's number, how many octets the checkpoint behind this
-- line has, and the sum CRC-32 of these, each with all its digits in hexadecimal
abbrev pub head_of : SegmentHead → List ℕ
head_of h = codes "telegate state 1 rules " ++ rules_of h.is_sealed ∷ codes " segment "
    ++ encode_lower (to_be_bytes w64 h.number)
    ++ codes " octets " ++ encode_lower (to_be_bytes w64 h.octets)
    ++ codes " sum " ++ encode_lower (to_be_bytes w32 h.sum) ++ 10 ∷ []

-- its numbers have so few digits
pub record Fits (h : SegmentHead) : Type 0 where
  pub number : h.number < 2 ^ 64
  pub octets : h.octets < 2 ^ 64
  pub sum : h.sum < 2 ^ 32

-- the first line of the segment with this number and this checkpoint
abbrev pub head_for : ℕ → List ℕ → SegmentHead
head_for number body = record {
  number = number;
  octets = length body;
  sum = sum_of body;
  is_sealed = true;
}

-- the text of a segment with this checkpoint, before its first line of events
unfoldable pub whole_text : ℕ → List ℕ → List ℕ
whole_text number body = head_of (head_for number body) ++ body

-- This is the text of the segment with this number, before its first line of events.
pub record IsWholeText (number : ℕ) (text : List ℕ) : Type 0 where
  pub fits : Fits (head_for number (drop 87 text))
  pub is : text ≡ whole_text number (drop 87 text)
