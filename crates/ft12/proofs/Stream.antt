-- A front stays as more octets come.
use Rattle.std.proofs.Common.{◌≡◌, ℕ, zero, suc, ◌+◌, ◌<◌, List, [], ◌∷◌, ◌++◌, length, get_or}
use Rattle.std.proofs.Common.{take, drop, refl, sym, ap, subst, ◌∙◌, arith, inl, inr}
use Rattle.std.proofs.lemmas.Bool.{cases_lt}
use Rattle.std.proofs.lemmas.List.{take-append-le, take_more, take-append-drop, length-append}
use Rattle.std.proofs.lemmas.List.{length-take-le, append_assoc}
use Rattle.ft12.specs.declared.frame.LinkSize.{LinkSize}
use Rattle.ft12.specs.declared.frame.Frame.{Frame}
use Rattle.ft12.specs.declared.frame.Why.{Why}
use Rattle.ft12.specs.declared.frame.Front.TheVariants.{Whole, Never}
use Rattle.ft12.specs.Spelling.{IsLineFrame}
use Rattle.ft12.specs.Reading.{IsProperBeginning, IsBeginning, IsFront, refusal}
use Rattle.ft12.proofs.Exact.{whole_not_more}

-- a frame that isn't whole yet is whole at its last octet
pub ends_here : (size : LinkSize) (x : List ℕ) (o : ℕ) (f : Frame) (n : ℕ)
    → IsProperBeginning size x
    → IsFront size (x ++ o ∷ []) (Whole f n) → n ≡ length x + 1
ends_here size x o f n p w = elim (cases_lt (length x) n) [
  | inl lt ↦ omega (arith, w.1, length-append x (o ∷ []))
  | inr le ↦
      absurd (whole_not_more size x f n (subst (IsLineFrame size f) (take-append-le n x (o ∷ []) le)
      w.0) p)
]

pub whole_longer : (size : LinkSize) (x y : List ℕ) (f : Frame) (n : ℕ) → IsFront size x (Whole f n)
    → IsFront size (x ++ y) (Whole f n)
whole_longer size x y f n w = (
  subst (IsLineFrame size f) (sym (take-append-le n x y w.1)) w.0,
  omega (arith, w.1, length-append x y),
)

same_refusal : (size : LinkSize) (x y : List ℕ) (place : ℕ) → place < length x
    → refusal size (x ++ y) place ≡ refusal size x place
same_refusal size [] y place lt = absurd (omega arith)
same_refusal size (o ∷ p ∷ x) y place lt = refl
same_refusal size (o ∷ []) y zero lt = refl
same_refusal size (o ∷ []) y (suc place) lt = absurd (omega arith)

pub never_longer : (size : LinkSize) (x y : List ℕ) (place : ℕ) (why : Why)
    → IsFront size x (Never place why)
    → IsFront size (x ++ y) (Never place why)
never_longer size x y place why r = (
  record {
    within = omega (arith, r.0.within, length-append x y);
    before =
        subst (IsProperBeginning size) (sym (take-append-le place x y (omega (arith, r.0.within))))
        r.0.before;
    here =
        λ b. r.0.here
        (subst (IsBeginning size) (take-append-le (place + 1) x y (omega (arith, r.0.within))) b);
  },
  r.1 ∙ sym (same_refusal size x y place r.0.within),
)

-- the octets so far and a piece, as the octets up to and with the one at i, and the rest of the
-- piece
joined_at : (so_far piece x : List ℕ) (i : ℕ) → x ≡ so_far ++ take i piece → i < length piece
    → (x ++ get_or piece i 0 ∷ []) ++ drop (i + 1) piece ≡ so_far ++ piece
joined_at so_far piece x i joined lt =
    ap (λ (l : List ℕ). (l ++ get_or piece i 0 ∷ []) ++ drop (i + 1) piece) joined
    ∙ ap (λ (l : List ℕ). l ++ drop (i + 1) piece)
    (append_assoc so_far (take i piece) (get_or piece i 0 ∷ [])
    ∙ ap (λ (l : List ℕ). so_far ++ l) (sym (take_more piece i 0 lt)))
    ∙ append_assoc so_far (take (i + 1) piece) (drop (i + 1) piece)
    ∙ ap (λ (l : List ℕ). so_far ++ l) (take-append-drop (i + 1) piece)

pub received_frame : (size : LinkSize) (so_far piece x y : List ℕ) (i : ℕ) (f : Frame) (n : ℕ)
    → x ≡ so_far ++ take i piece → i < length piece → IsProperBeginning size x
    → y ≡ x ++ get_or piece i 0 ∷ []
    → IsFront size y (Whole f n)
    → IsFront size (so_far ++ piece) (Whole f (length so_far + (i + 1)))
received_frame size so_far piece x y i f n joined lt proper pushed w =
    let w' : IsFront size (x ++ get_or piece i 0 ∷ []) (Whole f n) =
    subst (λ (l : List ℕ). IsFront size l (Whole f n)) pushed w in
    let n_is : n ≡ length so_far + (i + 1) = omega (
      arith,
      ends_here size x (get_or piece i 0) f n proper w',
      ap length joined,
      length-append so_far (take i piece),
      length-take-le i piece (omega arith),
    ) in
    let long = whole_longer size (x ++ get_or piece i 0 ∷ []) (drop (i + 1) piece) f n w' in
    subst (λ (k : ℕ). IsFront size (so_far ++ piece) (Whole f k)) n_is
    (subst (λ (l : List ℕ). IsFront size l (Whole f n)) (joined_at so_far piece x i joined lt) long)

pub received_never : (size : LinkSize) (so_far piece x y : List ℕ) (i place : ℕ) (why : Why)
    → x ≡ so_far ++ take i piece
    → i < length piece → y ≡ x ++ get_or piece i 0 ∷ [] → IsFront size y (Never place why)
    → IsFront size (so_far ++ piece) (Never place why)
received_never size so_far piece x y i place why joined lt pushed r =
    let r' : IsFront size (x ++ get_or piece i 0 ∷ []) (Never place why) =
    subst (λ (l : List ℕ). IsFront size l (Never place why)) pushed r in
    let long = never_longer size (x ++ get_or piece i 0 ∷ []) (drop (i + 1) piece) place why r' in
    subst (λ (l : List ℕ). IsFront size l (Never place why)) (joined_at so_far piece x i joined lt)
    long
