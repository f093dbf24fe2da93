-- What a seal is, and how a text of writes begins.
use Rattle.std.proofs.Common.{◌≡◌, ◌∙◌, ℕ, Bool, true, false, List, []}
use Rattle.std.proofs.Common.{◌∷◌, ◌++◌, take, drop, Some, None, refl, sym, ap}
use Rattle.std.specs.Int.{w32, to_be_bytes}
use Rattle.std.specs.List.{list_any, starts_with}
use Rattle.std.specs.Prelude.{◌==◌, bit_xor, position, if◌then◌else◌}
use Rattle.hex.specs.Hex.{encode_lower, encode_with}
use Rattle.statetext.specs.Sum.{remainder_after, sum_of}
use Rattle.statetext.specs.Sealed.{front_by, front_in, mark_of, may_be, seal_of, torn_if}
use Rattle.statetext.specs.declared.seal.Front.{Front}
use Rattle.statetext.specs.declared.seal.Front.TheVariants as fronts
use Rattle.statetext.proofs.Rotten.{after_front}
use borrow.Rule.Slice.PartMut.{put_mid}

-- A seal is made

-- the remainder behind a first line and lines
pub behind_lines : (head lines more : List ℕ) (r : ℕ)
    → r ≡ remainder_after (remainder_after 0xffffffff head) lines
    → remainder_after r more ≡ remainder_after 0xffffffff (head ++ lines ++ more)
behind_lines head lines more r is =
    ap (λ (n : ℕ). remainder_after n more) is
    ∙ ap (λ (n : ℕ). remainder_after n more) (sym (after_front 0xffffffff head lines))
    ∙ sym (after_front 0xffffffff (head ++ lines) more)

put_sum : (place : ℕ) (row : List ℕ)
    → put_mid 18 8
    (mark_of place ++ 48 ∷ 48 ∷ 48 ∷ 48 ∷ 48 ∷ 48 ∷ 48 ∷ 48 ∷ 10 ∷ []) row
    ≡ mark_of place ++ row ++ 10 ∷ []
unfolding mark_of encode_with
put_sum place row = refl

mark_front : (place : ℕ) (rest : List ℕ) → take 18 (mark_of place ++ rest) ≡ mark_of place
unfolding mark_of encode_with
mark_front place rest = refl

pub seal_made : (head lines mark copied row octets : List ℕ) (place sum after value : ℕ)
    → copied ≡ mark → mark ≡ mark_of place
    → sum ≡ remainder_after (remainder_after 0xffffffff head) lines
    → after ≡ remainder_after sum
    (take 18 (copied ++ 48 ∷ 48 ∷ 48 ∷ 48 ∷ 48 ∷ 48 ∷ 48 ∷ 48 ∷ 10 ∷ []))
    → value ≡ bit_xor after 0xffffffff → octets ≡ to_be_bytes w32 value
    → row ≡ encode_lower octets
    → put_mid 18 8 (copied ++ 48 ∷ 48 ∷ 48 ∷ 48 ∷ 48 ∷ 48 ∷ 48 ∷ 48 ∷ 10 ∷ []) row
    ≡ seal_of head place lines
unfolding seal_of
seal_made head lines mark copied row octets place sum after value is-copied is-mark is-sum is-after
    is-value is-octets is-row =
    let same : copied ≡ mark_of place = is-copied ∙ is-mark in
    let zeros : List ℕ = 48 ∷ 48 ∷ 48 ∷ 48 ∷ 48 ∷ 48 ∷ 48 ∷ 48 ∷ 10 ∷ [] in
    let all : after ≡ remainder_after 0xffffffff (head ++ lines ++ mark_of place) =
    is-after ∙ ap (λ (l : List ℕ). remainder_after sum (take 18 (l ++ zeros))) same
    ∙ ap (remainder_after sum) (mark_front place zeros)
    ∙ behind_lines head lines (mark_of place) sum is-sum in
    let digits : row ≡ encode_lower (to_be_bytes w32 (sum_of (head ++ lines ++ mark_of place))) =
    is-row ∙ ap encode_lower (is-octets
    ∙ ap (to_be_bytes w32) (is-value ∙ ap (λ (n : ℕ). bit_xor n 0xffffffff) all)) in
    ap (λ (l : List ℕ). put_mid 18 8 (l ++ zeros) row) same ∙ put_sum place row
    ∙ ap (λ (l : List ℕ). mark_of place ++ l ++ 10 ∷ []) digits

-- How a text begins

pub front_none : (head : List ℕ) (place : ℕ) (text : List ℕ)
    → position (λ c. c == 33) text ≡ None → fronts.Torn ≡ front_in head place text
unfolding front_in
front_none head place text none = sym (ap (front_by head place text) none)

module _ (head : List ℕ) (place : ℕ) (text : List ℕ) (n : ℕ)
    (first : position (λ c. c == 33) text ≡ Some n) where
  pub front_lost : (behind mark : List ℕ) (b : Bool) (r : Front)
      → list_any (λ c. c == 0) (take n text) ≡ true
      → behind ≡ drop n text → mark ≡ mark_of place → b ≡ may_be mark behind → r ≡ torn_if b
      → r ≡ front_in head place text
  unfolding front_in
  front_lost behind mark b r lost is-behind is-mark is is-r =
      is-r ∙ ap torn_if (is ∙ ap (λ (l : List ℕ). may_be l behind) is-mark
      ∙ ap (may_be (mark_of place)) is-behind)
      ∙ sym (ap (front_by head place text) first
      ∙ ap (λ (x : Bool). if x then torn_if (may_be (mark_of place) (drop n text))
      else if starts_with ◌==◌ (drop n text) (seal_of head place (take n text)) then fronts.Whole n
      else torn_if (may_be (seal_of head place (take n text)) (drop n text))) lost)

  kept : list_any (λ c. c == 0) (take n text) ≡ false → (x : Bool)
      → starts_with ◌==◌ (drop n text) (seal_of head place (take n text)) ≡ x
      → front_in head place text ≡ (if x then fronts.Whole n
      else torn_if (may_be (seal_of head place (take n text)) (drop n text)))
  unfolding front_in
  kept some x starts =
      ap (front_by head place text) first
      ∙ ap (λ (y : Bool). if y then torn_if (may_be (mark_of place) (drop n text))
      else if starts_with ◌==◌ (drop n text) (seal_of head place (take n text)) then fronts.Whole n
      else torn_if (may_be (seal_of head place (take n text)) (drop n text))) some
      ∙ ap (λ (y : Bool). if y then fronts.Whole n
      else torn_if (may_be (seal_of head place (take n text)) (drop n text))) starts

  pub front_whole : (behind seal : List ℕ) (b : Bool)
      → list_any (λ c. c == 0) (take n text) ≡ false
      → behind ≡ drop n text → seal ≡ seal_of head place (take n text)
      → b ≡ starts_with ◌==◌ behind seal → b ≡ true → fronts.Whole n ≡ front_in head place text
  front_whole behind seal b some is-behind is-seal starts is =
      sym (kept some true (sym (ap (λ (l : List ℕ). starts_with ◌==◌ l seal) is-behind
      ∙ ap (starts_with ◌==◌ (drop n text)) is-seal) ∙ sym starts ∙ is))

  pub front_torn : (behind seal : List ℕ) (b t : Bool) (r : Front)
      → list_any (λ c. c == 0) (take n text) ≡ false
      → behind ≡ drop n text → seal ≡ seal_of head place (take n text)
      → b ≡ starts_with ◌==◌ behind seal → b ≡ false → t ≡ may_be seal behind → r ≡ torn_if t
      → r ≡ front_in head place text
  front_torn behind seal b t r some is-behind is-seal starts is may is-r =
      is-r ∙ ap torn_if (may ∙ ap (λ (l : List ℕ). may_be l behind) is-seal
      ∙ ap (may_be (seal_of head place (take n text))) is-behind)
      ∙ sym (kept some false (sym (ap (λ (l : List ℕ). starts_with ◌==◌ l seal) is-behind
      ∙ ap (starts_with ◌==◌ (drop n text)) is-seal) ∙ sym starts ∙ is))
