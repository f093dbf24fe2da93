-- Octets have one front.
use Rattle.std.proofs.Common.{◌≡◌, ℕ, ◌+◌, ◌<◌, ◌≤◌, List, [], ◌∷◌, ◌++◌, length, take, drop, refl}
use Rattle.std.proofs.Common.{sym, ap, subst, ◌∙◌, append_assoc, arith, inl, inr}
use Rattle.std.proofs.lemmas.Bool.{cases_lt, cases_order}
use Rattle.std.proofs.lemmas.List.{take-take, take-append-drop, length-append, length-take-le}
use Rattle.std.proofs.lemmas.List.{append-nil}
use Rattle.ft12.specs.declared.frame.LinkSize.{LinkSize}
use Rattle.ft12.specs.declared.frame.Frame.{Frame}
use Rattle.ft12.specs.declared.frame.Front.{Front}
use Rattle.ft12.specs.declared.frame.Front.TheVariants.{Whole, More, Never}
use Rattle.ft12.specs.Spelling.{spelling, IsLineFrame}
use Rattle.ft12.specs.Reading.{IsProperBeginning, IsBeginning, IsRefusedAt, IsFront, refusal}
use Rattle.ft12.proofs.Frames.{one_spelling}
use Rattle.ft12.proofs.Beginnings.{beginning_from_proper, beginning_front}

-- a front is the beginning of a longer one
pub take_split : (p q : ℕ) (x : List ℕ) → p ≤ q → take q x ≡ take p x ++ drop p (take q x)
take_split p q x le = sym (take-append-drop p (take q x))
    ∙ ap (λ (l : List ℕ). l ++ drop p (take q x)) (take-take p q x le)

-- what begins with a whole frame properly begins none
pub no_more : (size : LinkSize) (f : Frame) (y z : List ℕ) → IsLineFrame size f y
    → IsProperBeginning size (y ++ z) → ⊥
no_more size f y z line p =
    let same : spelling size f ++ (z ++ p.next ∷ p.rest) ≡ spelling size p.frame ++ [] =
    ap (λ (l : List ℕ). l ++ (z ++ p.next ∷ p.rest)) (sym line.spelled)
    ∙ sym (append_assoc y z (p.next ∷ p.rest))
    ∙ p.line.spelled ∙ sym (append-nil (spelling size p.frame)) in
    let none : z ++ p.next ∷ p.rest ≡ [] =
    (one_spelling size f p.frame (z ++ p.next ∷ p.rest) [] same).1 in
    absurd (omega (arith, length-append z (p.next ∷ p.rest), ap length none))

pub whole_not_more : (size : LinkSize) (x : List ℕ) (f : Frame) (n : ℕ)
    → IsLineFrame size f (take n x)
    → IsProperBeginning size x → ⊥
whole_not_more size x f n line p = no_more size f (take n x) (drop n x) line
    (subst (IsProperBeginning size) (sym (take-append-drop n x)) p)

whole_not_never : (size : LinkSize) (x : List ℕ) (f : Frame) (n place : ℕ)
    → IsLineFrame size f (take n x)
    → IsRefusedAt size x place → ⊥
whole_not_never size x f n place line r = elim (cases_lt place n) [
  | inl lt ↦
      let whole : IsBeginning size (take n x) = record {
        frame = f;
        rest = [];
        line =
            record { fits = line.fits; spelled = append-nil (take n x) ∙ line.spelled };
      } in
      r.here (beginning_front size (take (place + 1) x) (drop (place + 1) (take n x))
      (subst (IsBeginning size) (take_split (place + 1) n x (omega arith)) whole))
  | inr le ↦ no_more size f (take n x) (drop n (take place x)) line
      (subst (IsProperBeginning size) (take_split n place x le) r.before)
]

more_not_never : (size : LinkSize) (x : List ℕ) (place : ℕ) → IsProperBeginning size x
    → IsRefusedAt size x place → ⊥
more_not_never size x place p r =
    r.here (beginning_front size (take (place + 1) x) (drop (place + 1) x)
    (subst (IsBeginning size) (sym (take-append-drop (place + 1) x))
    (beginning_from_proper size x p)))

not_before : (size : LinkSize) (x : List ℕ) (p q : ℕ) → p < q → IsRefusedAt size x p
    → IsRefusedAt size x q → ⊥
not_before size x p q lt r s =
    r.here (beginning_front size (take (p + 1) x) (drop (p + 1) (take q x))
    (subst (IsBeginning size) (take_split (p + 1) q x (omega arith))
    (beginning_from_proper size (take q x) s.before)))

one_place : (size : LinkSize) (x : List ℕ) (p q : ℕ) → IsRefusedAt size x p → IsRefusedAt size x q
    → p ≡ q
one_place size x p q r s = elim (cases_order p q) [
  | inl e ↦ e
  | inr h ↦ elim h [
    | inl lt ↦ absurd (not_before size x p q lt r s)
    | inr lt ↦
        absurd (not_before size x q p lt s r)
  ]
]

pub one_front : (size : LinkSize) (x : List ℕ) (a b : Front) → IsFront size x a → IsFront size x b
    → b ≡ a
one_front size x (Whole f n) (Whole g m) h k =
    let same : spelling size f ++ drop n x ≡ spelling size g ++ drop m x =
    ap (λ (l : List ℕ). l ++ drop n x) (sym h.0.spelled) ∙ take-append-drop n x
    ∙ sym (take-append-drop m x)
    ∙ ap (λ (l : List ℕ). l ++ drop m x) k.0.spelled in
    let frames : f ≡ g = (one_spelling size f g (drop n x) (drop m x) same).0 in
    let lengths : n ≡ m = sym (length-take-le n x h.1)
    ∙ ap length (h.0.spelled ∙ ap (spelling size) frames ∙ sym k.0.spelled)
    ∙ length-take-le m x k.1 in
    cc
one_front size x (Whole f n) More h k = absurd (whole_not_more size x f n h.0 k)
one_front size x (Whole f n) (Never q why) h k = absurd (whole_not_never size x f n q h.0 k.0)
one_front size x More (Whole g m) h k = absurd (whole_not_more size x g m k.0 h)
one_front size x More More h k = refl
one_front size x More (Never q why) h k = absurd (more_not_never size x q h k.0)
one_front size x (Never p why) (Whole g m) h k = absurd (whole_not_never size x g m p k.0 h.0)
one_front size x (Never p why) More h k = absurd (more_not_never size x p k h.0)
one_front size x (Never p why) (Never q because) h k =
    let places : p ≡ q = one_place size x p q h.0 k.0 in
    let reasons : because ≡ why = k.1 ∙ ap (refusal size x) (sym places) ∙ sym h.1 in
    cc
