use Rattle.std.proofs.Common.{◌≡◌, ℕ, ◌+◌, Bool, true, false, List, ◌++◌, length, slice_index}
use Rattle.std.proofs.Common.{Some, None, codes, if◌then◌else◌, nat_lt, refl, ap, ◌∙◌}
use Rattle.elements.specs.Types.{type_of}
use Rattle.asdu.proofs.Related.{refusal-IsAsdu, type_of-IsAsdu, value_at-IsAsdu}
use Rattle.asdu.specs.Asdu.{AsduValue, IsAsdu}
use Rattle.asdu.specs.Fields.{value_at}
use Rattle.asdu.specs.Refusals.{refusal, typed_refusal}
use Rattle.asdu.specs.Sizes.{header_len, ioa_len}
use Rattle.asdu.specs.declared.sizes.Sizes.{Sizes}
use Rattle.words.proofs.Opened.{numbers_open, units_open}
use Rattle.words.specs.Units.{asdu_words, content_by, content_words, header_words, kind_words}
use Rattle.words.specs.Units.{objects_words, place_words, typed_words}
use Rattle.words.proofs.laws.asdus_are_told_field_by_field.Goals as goal

-- what isn't refused is long enough
long_enough : (s : Sizes) (xs : List ℕ) → refusal s xs ≡ None
    → nat_lt (length xs) (header_len s + ioa_len s.ioa) ≡ false
long_enough s xs none = by (nat_lt (length xs) (header_len s + ioa_len s.ioa)) none
  where
    by : (b : Bool) → (if b then Some 1 else typed_refusal s (type_of (slice_index xs 0)) xs) ≡ None
        → b ≡ false
    by true e = cc
    by false e = refl

abbrev told : (u : AsduValue) (kind vsq : ℕ) → AsduValue → List ℕ
told u kind vsq v =
    (kind_words kind v.cause ++ place_words v.originator vsq v.ca)
    ++ objects_words u.kind true v.infos

content_told : (s : Sizes) (u : AsduValue) (xs : List ℕ) → IsAsdu s u xs
    → content_words s xs ≡ objects_words u.kind true (value_at s u.kind xs).infos
unfolding units_open
content_told s u xs h =
    ap (content_by s xs) (refusal-IsAsdu s u xs h) ∙ ap (typed_words s xs) (type_of-IsAsdu s u xs h)

asdu_told : (s : Sizes) (u : AsduValue) (xs : List ℕ) → IsAsdu s u xs
    → asdu_words s xs ≡ told u (slice_index xs 0) (slice_index xs 1) u
unfolding units_open
asdu_told s u xs h =
    ap (λ (b : Bool). if b then codes "no ASDU: too short"
    else header_words s xs ++ content_words s xs)
    (long_enough s xs (refusal-IsAsdu s u xs h))
    ∙ ap (λ (content : List ℕ). header_words s xs ++ content) (content_told s u xs h)
    ∙ ap (told u (slice_index xs 0) (slice_index xs 1)) (value_at-IsAsdu s u xs h)

pub returns-clause-asdus : goal.returns-clause-asdus
returns-clause-asdus c = λ s u octets h. asdu_told s u octets h

pub returns-clause-headers : goal.returns-clause-headers
unfolding units_open numbers_open
returns-clause-headers c = λ kind cause originator vsq ca. (refl, refl)

pub returns-clause-names : goal.returns-clause-names
unfolding units_open
returns-clause-names c =
    λ n text.
    (λ name. rw name refl, λ name. rw name refl, λ no. rw no refl, λ no. rw no refl)

pub returns-clause-objects : goal.returns-clause-objects
unfolding units_open
returns-clause-objects c = λ t first infos. (refl, refl, refl)

pub returns-clause-each : goal.returns-clause-each
unfolding units_open
returns-clause-each c = λ t address element tag. (refl, refl)
