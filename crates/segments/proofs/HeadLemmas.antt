-- The first line of a segment.
use Rattle.std.proofs.Common.{◌≡◌, ℕ, ◌+◌, ◌*◌, List, [], ◌∷◌, ◌++◌}
use Rattle.std.proofs.Common.{length, slice_index, take, drop, codes, refl, ap, ◌∙◌, arith}
use Rattle.std.proofs.Common.{Bool, true, false, Some, Result, Ok, Err, MatchResult, sym, ◌==◌}
use Rattle.std.proofs.lemmas.List.{length-append}
use Rattle.std.proofs.Math.Seq.{drop-append_seam}
use Rattle.std.specs.Int.{w32, w64, to_be_bytes}
use Rattle.hex.specs.Hex.{decode_sized, encode_lower, encode_with, lower_digits}
use Rattle.hex.specs.declared.error.FromHexError.{FromHexError}
use Rattle.hex.proofs.HexLemmas.{decode_sized-encode_lower, length-encode_with}
use Rattle.statetext.proofs.Sealing.{eight_bytes, four_bytes}
use Rattle.segments.specs.Head.{head_for, head_of, rules_of, whole_text}
use Rattle.segments.specs.declared.head.SegmentHead.{SegmentHead}

parts : (a b c d e f g : List ℕ) → length (a ++ b ++ c ++ d ++ e ++ f ++ g)
    ≡ length a + length b + length c + length d + length e + length f + length g
parts a b c d e f g = simp length-append

digits : (xs : List ℕ) (n : ℕ) → length xs ≡ n → length (encode_lower xs) ≡ 2 * n
digits xs n is = omega (arith, length-encode_with lower_digits xs, is)

sums : (a b c : ℕ) → a ≡ 2 * 8 → b ≡ 2 * 8 → c ≡ 2 * 4 → 33 + a + 8 + b + 5 + c + 1 ≡ 87
sums a b c is-a is-b is-c = omega arith

pub head_length : (h : SegmentHead) → length (head_of h) ≡ 87
head_length h =
    parts (codes "telegate state 1 rules " ++ rules_of h.is_sealed ∷ codes " segment ")
    (encode_lower (to_be_bytes w64 h.number))
    (codes " octets ")
    (encode_lower (to_be_bytes w64 h.octets)) (codes " sum ") (encode_lower (to_be_bytes w32 h.sum))
    (10 ∷ [])
    ∙ sums _ _ _ (digits (to_be_bytes w64 h.number) 8 refl)
    (digits (to_be_bytes w64 h.octets) 8 refl)
    (digits (to_be_bytes w32 h.sum) 4 refl)

-- the checkpoint stands behind it
pub whole_behind : (number : ℕ) (body : List ℕ) → drop 87 (whole_text number body) ≡ body
unfolding whole_text
whole_behind number body =
    ap (λ (n : ℕ). drop n (head_of (head_for number body) ++ body))
    (sym (head_length (head_for number body)))
    ∙ drop-append_seam (head_of (head_for number body)) body

pub head_first : (h : SegmentHead) → slice_index (head_of h) 0 ≡ 116
head_first h = refl

-- Digits are read back

decoded : (found : Result (List ℕ) FromHexError) (octets new : List ℕ)
    (r : Result (Unit {0}) FromHexError)
    → found ≡ Ok octets → MatchResult found (λ bytes. (r ≡ Ok tt) × (new ≡ bytes)) (λ e. r ≡ Err e)
    → (r ≡ Ok tt) × (new ≡ octets)
decoded (Ok bytes) octets new r is read = let same : bytes ≡ octets = cc in (read.0, read.1 ∙ same)
decoded (Err e) octets new r is read = absurd (cc)

pub decoded_8 : (text new : List ℕ) (r : Result (Unit {0}) FromHexError) (number : ℕ)
    → MatchResult (decode_sized text 8) (λ bytes. (r ≡ Ok tt) × (new ≡ bytes)) (λ e. r ≡ Err e)
    → text ≡ encode_lower (to_be_bytes w64 number) → (r ≡ Ok tt) × (new ≡ to_be_bytes w64 number)
decoded_8 text new r number read is =
    decoded (decode_sized text 8) (to_be_bytes w64 number) new r
    (ap (λ (t : List ℕ). decode_sized t 8) is
    ∙ decode_sized-encode_lower (to_be_bytes w64 number) 8 refl (eight_bytes number)) read

pub decoded_4 : (text new : List ℕ) (r : Result (Unit {0}) FromHexError) (sum : ℕ)
    → MatchResult (decode_sized text 4) (λ bytes. (r ≡ Ok tt) × (new ≡ bytes)) (λ e. r ≡ Err e)
    → text ≡ encode_lower (to_be_bytes w32 sum) → (r ≡ Ok tt) × (new ≡ to_be_bytes w32 sum)
decoded_4 text new r sum read is =
    decoded (decode_sized text 4) (to_be_bytes w32 sum) new r
    (ap (λ (t : List ℕ). decode_sized t 4) is
    ∙ decode_sized-encode_lower (to_be_bytes w32 sum) 4 refl (four_bytes sum)) read

-- The numbers stand at their places

pub number_at : (h : SegmentHead) → take 16 (drop 33 (head_of h))
    ≡ encode_lower (to_be_bytes w64 h.number)
unfolding encode_with
number_at h = refl

pub octets_at : (h : SegmentHead) → take 16 (drop 57 (head_of h))
    ≡ encode_lower (to_be_bytes w64 h.octets)
unfolding encode_with
octets_at h = refl

pub sum_at : (h : SegmentHead) → take 8 (drop 78 (head_of h)) ≡ encode_lower (to_be_bytes w32 h.sum)
unfolding encode_with
sum_at h = refl

-- those that were read back are those of the line
pub same_head : (number octets sum : ℕ) (is_sealed : Bool) (h : SegmentHead)
    → Some number ≡ Some h.number → Some octets ≡ Some h.octets → Some sum ≡ Some h.sum
    → is_sealed ≡ h.is_sealed
    → record { number = number; octets = octets; sum = sum; is_sealed = is_sealed } ≡ h
same_head number octets sum is_sealed h n o s r =
    let by_number : ℕ → SegmentHead = λ m.
    record { number = m; octets = octets; sum = sum; is_sealed = is_sealed } in
    let by_octets : ℕ → SegmentHead = λ m.
    record { number = h.number; octets = m; sum = sum; is_sealed = is_sealed } in
    let by_sum : ℕ → SegmentHead = λ m.
    record { number = h.number; octets = h.octets; sum = m; is_sealed = is_sealed } in
    let by_rules : Bool → SegmentHead = λ b.
    record { number = h.number; octets = h.octets; sum = h.sum; is_sealed = b } in
    ap by_number (let a : number ≡ h.number = cc in a)
    ∙ ap by_octets (let b : octets ≡ h.octets = cc in b)
    ∙ ap by_sum (let d : sum ≡ h.sum = cc in d)
    ∙ ap by_rules r

-- the rules stand there
rules_told : (r : Bool) → (rules_of r == 50) ≡ r
rules_told true = refl
rules_told false = refl

pub rules_read : (h : SegmentHead) → (slice_index (head_of h) 23 == 50) ≡ h.is_sealed
rules_read h = rules_told h.is_sealed
