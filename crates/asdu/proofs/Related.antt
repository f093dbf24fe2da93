-- What octets are read as, against the ASDU that they are.
use Rattle.std.proofs.Common.{◌≡◌, ℕ, ◌+◌, ◌*◌, ◌^◌, ◌≤◌, Bool, true, false, List, [], length}
use Rattle.std.proofs.Common.{Option, Some, None}
use Rattle.std.proofs.Common.{refl, sym, ap, ◌∙◌, arith}
use Rattle.std.specs.Prelude.{slice_index, is_none}
use Rattle.std.specs.Int.{div_ceil}
use Rattle.std.proofs.lemmas.List.{length-map}
use Rattle.elements.specs.declared.types.TypeId.{TypeId}
use Rattle.elements.specs.Types.{type_of}
use Rattle.elements.specs.Octets.{AreOctets}
use Rattle.elements.proofs.TypeCodes.{type_of-code}
use Rattle.asdu.specs.declared.sizes.Sizes.{Sizes}
use Rattle.asdu.specs.declared.unit.Asdu.{Asdu}
use Rattle.asdu.specs.Asdu.{AsduValue, IsAsdu, IsNoAsdu, spelled}
use Rattle.asdu.specs.Fields.{number_at, is_sequence, value_at}
use Rattle.asdu.specs.Refusals.{refusal, is_read}
use Rattle.asdu.specs.InformationObjects.{object_in, value_objects, objects_of, monitor_objects_of}
use Rattle.asdu.specs.InformationObjects.{is_passed_on, only_if}
use Rattle.asdu.specs.Reading.{value_of}
use Rattle.asdu.specs.Translation.{parts, piece_size}
use Rattle.asdu.proofs.Accepted.{IsAsdu-value_of}
use Rattle.asdu.proofs.Spelling.{accepted, refusal-none, IsWhole-spelled, value_at-spelled}
use Rattle.asdu.proofs.Spelling.{IsRead-spelled, IsAsdu-value_at}

-- ---- Octets that are an ASDU

pub refusal-IsAsdu : (s : Sizes) (u : AsduValue) (xs : List ℕ) → IsAsdu s u xs → refusal s xs ≡ None
refusal-IsAsdu s u xs h =
    ap (refusal s) h.octets ∙ refusal-none s u.kind (spelled s u) (type_of-code u.kind)
    (IsWhole-spelled s u h.value)

pub is_read-IsAsdu : (s : Sizes) (u : AsduValue) (xs : List ℕ) → IsAsdu s u xs → is_read s xs ≡ true
is_read-IsAsdu s u xs h = ap (λ r. is_none r) (refusal-IsAsdu s u xs h)

pub type_of-IsAsdu : (s : Sizes) (u : AsduValue) (xs : List ℕ) → IsAsdu s u xs
    → type_of (slice_index xs 0) ≡ Some u.kind
type_of-IsAsdu s u xs h = ap (λ ys. type_of (slice_index ys 0)) h.octets ∙ type_of-code u.kind

pub value_at-IsAsdu : (s : Sizes) (u : AsduValue) (xs : List ℕ) → IsAsdu s u xs
    → value_at s u.kind xs ≡ u
value_at-IsAsdu s u xs h = ap (value_at s u.kind) h.octets ∙ value_at-spelled s u h.value

pub number_at-IsAsdu : (s : Sizes) (u : AsduValue) (xs : List ℕ) → IsAsdu s u xs → number_at xs
    ≡ length u.infos
number_at-IsAsdu s u xs h = ap number_at h.octets ∙ (IsRead-spelled s u h.value).number

pub is_sequence-IsAsdu : (s : Sizes) (u : AsduValue) (xs : List ℕ) → IsAsdu s u xs → is_sequence xs
    ≡ u.sequence
is_sequence-IsAsdu s u xs h = ap is_sequence h.octets ∙ (IsRead-spelled s u h.value).sequence

pub objects_of-IsAsdu : (s : Sizes) (u : AsduValue) (xs : List ℕ) → IsAsdu s u xs → objects_of s xs
    ≡ value_objects u
unfolding objects_of
objects_of-IsAsdu s u xs h =
    let none = refusal-IsAsdu s u xs h in
    let kind = type_of-IsAsdu s u xs h in
    rw (none, kind) (ap value_objects (value_at-IsAsdu s u xs h))

pub monitor_objects_of-IsAsdu : (s : Sizes) (u : AsduValue) (xs : List ℕ) → IsAsdu s u xs
    → monitor_objects_of s xs ≡ only_if (is_passed_on u.kind u.cause) (value_objects u)
unfolding monitor_objects_of
monitor_objects_of-IsAsdu s u xs h =
    let kind = type_of-IsAsdu s u xs h in
    let cause : slice_index xs 2 ≡ u.cause = ap (λ ys. slice_index ys 2) h.octets in
    rw (kind, cause) (ap (only_if (is_passed_on u.kind u.cause)) (objects_of-IsAsdu s u xs h))

pub parts-IsAsdu : (s : Sizes) (u : AsduValue) (xs : List ℕ) → IsAsdu s u xs
    → parts s xs ≡ div_ceil (length u.infos) (piece_size u.kind u.sequence)
unfolding parts
parts-IsAsdu s u xs h =
    let none = refusal-IsAsdu s u xs h in
    let kind = type_of-IsAsdu s u xs h in
    let number = number_at-IsAsdu s u xs h in
    let mode = is_sequence-IsAsdu s u xs h in
    rw (none, kind, number, mode) refl

same_kind : (a b : TypeId) (o : Option TypeId) → o ≡ Some a → o ≡ Some b → a ≡ b
same_kind a b o e1 e2 = cc

-- octets are one ASDU at most
pub one_asdu : (s : Sizes) (u v : AsduValue) (xs : List ℕ) → IsAsdu s u xs → IsAsdu s v xs → u ≡ v
one_asdu s u v xs h k =
    let kind = same_kind u.kind v.kind (type_of (slice_index xs 0)) (type_of-IsAsdu s u xs h)
    (type_of-IsAsdu s v xs k) in
    sym (value_at-IsAsdu s u xs h) ∙ ap (λ t. value_at s t xs) kind ∙ value_at-IsAsdu s v xs k

-- ---- Octets that nothing speaks against

refused : (s : Sizes) (xs : List ℕ) (o : Option ℕ) → AreOctets xs → IsNoAsdu s xs → refusal s xs ≡ o
    → is_none o ≡ false
refused s xs None all none_is h =
    let a = accepted s xs h in
    absurd (none_is (value_at s a.0 xs) (IsAsdu-value_at s a.0 xs a.1 a.2 all))
refused s xs (Some n) all none_is h = refl

pub not_read : (s : Sizes) (xs : List ℕ) → AreOctets xs → IsNoAsdu s xs → is_read s xs ≡ false
not_read s xs all none_is = refused s xs (refusal s xs) all none_is refl

pub no_objects : (s : Sizes) (xs : List ℕ) → is_read s xs ≡ false → objects_of s xs ≡ []
unfolding objects_of
no_objects s xs h = rw h refl

only-none : (b : Bool) → only_if b [] ≡ []
only-none true = refl
only-none false = refl

pub no_monitor_objects : (s : Sizes) (xs : List ℕ) → is_read s xs ≡ false → monitor_objects_of s xs
    ≡ []
unfolding monitor_objects_of
no_monitor_objects s xs h = rw (no_objects s xs h) (only-none _)

pub no_parts : (s : Sizes) (xs : List ℕ) → is_read s xs ≡ false → parts s xs ≡ 0
unfolding parts
no_parts s xs h = rw h refl

-- ---- An ASDU that was read

pub length-value_objects : (u : AsduValue) → length (value_objects u) ≡ length u.infos
length-value_objects u = length-map u.infos (object_in u)

-- what is passed on has objects
pub passed : (a : Asdu) (b : Bool) → b ≡ is_passed_on a.kind (value_of a).cause → b ≡ true
    → 1 ≤ length (monitor_objects_of a.sizes a.octets.now)
passed a b e h =
    let read = IsAsdu-value_of a a.are_octets in
    let objects = monitor_objects_of-IsAsdu a.sizes (value_of a) a.octets.now read in
    let count = length-value_objects (value_of a) in
    let some = read.value.some in
    let goes : is_passed_on a.kind (value_of a).cause ≡ true = sym e ∙ h in
    let all : monitor_objects_of a.sizes a.octets.now ≡ value_objects (value_of a) = objects
    ∙ rw goes refl in
    rw all (omega arith)

pub kept : (a : Asdu) (b : Bool) → b ≡ is_passed_on a.kind (value_of a).cause → b ≡ false
    → monitor_objects_of a.sizes a.octets.now ≡ []
kept a b e h =
    let objects = monitor_objects_of-IsAsdu a.sizes (value_of a) a.octets.now
    (IsAsdu-value_of a a.are_octets) in
    let goes : is_passed_on a.kind (value_of a).cause ≡ false = sym e ∙ h in
    objects ∙ rw goes refl
