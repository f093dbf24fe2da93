-- A text of writes, each of which has its seal behind it (profile).
use Rattle.std.specs.Prelude.{◌≢◌, ℕ, zero, suc, ◌+◌, ◌<◌, ◌==◌, ◌&&◌, ◌||◌, not, Bool, true}
use Rattle.std.specs.Prelude.{false, if◌then◌else◌, List, [], ◌∷◌, ◌++◌, length, take, drop}
use Rattle.std.specs.Prelude.{slice_index, position, Option, Some, None}
use Rattle.std.specs.Int.{w32, w64, to_be_bytes}
use Rattle.std.specs.List.{list_any, starts_with}
use Rattle.hex.specs.Hex.{encode_lower}
use Rattle.statetext.specs.Sum.{sum_of}
use Rattle.statetext.specs.declared.seal.Front.{Front}
use Rattle.statetext.specs.declared.seal.Front.TheVariants as fronts

-- Seals

-- how a seal begins: `!` (33), and the place at which its write begins, with all its digits
unfoldable pub mark_of : (place : ℕ) → List ℕ
mark_of place = 33 ∷ encode_lower (to_be_bytes w64 place) ++ 32 ∷ []

-- the seal of the write with these lines, which begins at this place of the text behind a first
-- line: the sum CRC-32 is that of the first line, the lines and the seal up to the sum
unfoldable pub seal_of : (head : List ℕ) → (place : ℕ) → (lines : List ℕ) → List ℕ
seal_of head place lines =
    mark_of place ++ encode_lower (to_be_bytes w32 (sum_of (head ++ lines ++ mark_of place)))
    ++ 10 ∷ []

-- the text of these writes behind a first line, the first of them at this place
abbrev pub sealed_from : (head : List ℕ) → (place : ℕ) → (writes : List (List ℕ)) → List ℕ
sealed_from head place [] = []
sealed_from head place (lines ∷ writes) =
    lines ++ seal_of head place lines ++ sealed_from head (place + (length lines + 27)) writes

abbrev pub sealed_text : (head : List ℕ) → (writes : List (List ℕ)) → List ℕ
sealed_text head writes = sealed_from head 0 writes

-- What can be sealed: no octet of it is 0, or begins a seal.
abbrev pub AreLines : List ℕ → Type 0
AreLines lines = (i : ℕ) → i < length lines → (slice_index lines i ≢ 0) × (slice_index lines i ≢ 33)

-- each of these writes can be sealed
abbrev pub AreWrites : List (List ℕ) → Type 0
AreWrites [] = Unit {0}
AreWrites (lines ∷ writes) = AreLines lines × AreWrites writes

-- Reading

-- each octet of a text is 0, or that of the other text at its place, as far as that goes
abbrev pub is_left : (of text : List ℕ) → Bool
is_left [] text = true
is_left (c ∷ of) [] = true
is_left (c ∷ of) (x ∷ text) = (x == 0 || x == c) && is_left of text

-- a seal, of which a part may be lost: behind its first octet no other seal begins
abbrev pub may_be : (seal text : List ℕ) → Bool
may_be seal text = is_left seal text && not (list_any (λ c. c == 33) (drop 1 text))

abbrev pub torn_if : Bool → Front
torn_if true = fronts.Torn
torn_if false = fronts.Damaged

-- A text begins with these lines and a seal, as its first `!` says. If a part of the lines is lost,
-- what their sum was isn't known.
abbrev pub front_by : (head : List ℕ) → (place : ℕ) → (text : List ℕ) → Option ℕ → Front
front_by head place text None = fronts.Torn
front_by head place text (Some n) =
    if list_any (λ c. c == 0) (take n text) then torn_if (may_be (mark_of place) (drop n text))
    else if starts_with ◌==◌ (drop n text) (seal_of head place (take n text)) then fronts.Whole n
    else torn_if (may_be (seal_of head place (take n text)) (drop n text))

-- How a text begins at a place where a write may begin: with a whole write, whose lines have so
-- many octets; with what a crash leaves of one, or with none; or with something else. It is whole
-- if it has no octet 0, and its own seal behind it.
unfoldable pub front_in : (head : List ℕ) → (place : ℕ) → (text : List ℕ) → Front
front_in head place text = front_by head place text (position (λ c. c == 33) text)

-- the lines of the writes with which a text begins, one behind another; not more than so many
abbrev pub writes_by : (fuel : ℕ) → (head : List ℕ) → (place : ℕ) → (text : List ℕ) → Front
    → List (List ℕ)
writes_by fuel head place text fronts.Torn = []
writes_by fuel head place text fronts.Damaged = []
writes_by zero head place text (fronts.Whole n) = []
writes_by (suc fuel) head place text (fronts.Whole n) =
    take n text ∷ writes_by fuel head (place + (n + 27)) (drop (n + 27) text)
    (front_in head (place + (n + 27)) (drop (n + 27) text))

-- the whole beginning of the text behind a first line: the longest row of whole writes
unfoldable pub writes_in : (head : List ℕ) → (text : List ℕ) → List (List ℕ)
writes_in head text = writes_by (length text) head 0 text (front_in head 0 text)

-- where it ends
abbrev pub end_in : (head : List ℕ) → (text : List ℕ) → ℕ
end_in head text = length (sealed_text head (writes_in head text))

abbrev pub is_damaged : Front → Bool
is_damaged fronts.Torn = false
is_damaged fronts.Damaged = true
is_damaged (fronts.Whole n) = false

-- what follows isn't what a crash leaves of a write
abbrev pub is_damaged_in : (head : List ℕ) → (text : List ℕ) → Bool
is_damaged_in head text =
    is_damaged (front_in head (end_in head text) (drop (end_in head text) text))
