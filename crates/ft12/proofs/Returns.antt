-- What each return of the readers claims.
use Rattle.std.proofs.Common.{◌≡◌, ℕ, ◌+◌, ◌%◌, ◌/◌, ◌<◌, ◌≤◌, List, [], ◌∷◌, ◌++◌, length, get_or}
use Rattle.std.proofs.Common.{take, sum, All, refl, sym, ap, subst, ◌∙◌, append_assoc, arith}
use Rattle.std.proofs.lemmas.Bool.{eq-eqb, ne_eqb}
use Rattle.std.proofs.lemmas.List.{take-take, take_more, length-take, length-take-le, get_or-take}
use Rattle.std.proofs.lemmas.List.Elements.{All-take, All-head, All-tail}
use Rattle.std.proofs.Math.Seq.{take-append-add}
use Rattle.arrayvec.specs.ArrayVec.{ArrayVec}
use Rattle.ft12.specs.declared.frame.LinkSize.{LinkSize}
use Rattle.ft12.specs.declared.frame.LinkSize.TheVariants.{One, Two}
use Rattle.ft12.specs.declared.frame.Frame.TheVariants.{Single, Data}
use Rattle.ft12.specs.declared.frame.Why.TheVariants.{Start, LengthsDiffer, SecondStart}
use Rattle.ft12.specs.declared.frame.Why.TheVariants.{LengthSmall, Sum, End}
use Rattle.ft12.specs.declared.frame.Front.TheVariants.{Whole, Never}
use Rattle.ft12.specs.declared.reading.Tail.TheVariants.{Complete, Incomplete, WrongSum, WrongEnd}
use Rattle.ft12.specs.Spelling.{address_len, checked, header, user, IsOctet, FitsAddress}
use Rattle.ft12.specs.Reading.{IsProperBeginning, IsBeginning, IsFront, sum_place, refusal}
use Rattle.ft12.specs.Tail.{IsTail}
use Rattle.ft12.proofs.Lists.{IsPart}
use Rattle.ft12.proofs.Beginnings.{proper_front, proper_nil, proper_header, proper_fixed}
use Rattle.ft12.proofs.Beginnings.{proper_variable, never_start, length_fits, lengths_equal}
use Rattle.ft12.proofs.Beginnings.{second_start, part_fixed, part_variable}

-- ---- octets, sum and end

part_incomplete : (len : ℕ) (y : List ℕ) → IsTail len y Incomplete → IsPart len y
part_incomplete len y t = record {
  short = omega (arith, t.0);
  sum_is = t.1;
  end_is =
      λ lt. absurd (omega (arith, t.0));
}

part_before_sum : (len : ℕ) (y : List ℕ) → IsPart len (take len y)
part_before_sum len y = record {
  short = omega (arith, length-take len y);
  sum_is = λ lt. absurd (omega (arith, length-take len y));
  end_is = λ lt. absurd (omega (arith, length-take len y));
}

part_before_end : (len : ℕ) (y : List ℕ) → len < length y → get_or y len 0 ≡ sum (take len y) % 256
    → IsPart len (take (len + 1) y)
part_before_end len y long right = record {
  short = omega (arith, length-take (len + 1) y);
  sum_is = λ lt.
      let below : len < len + 1 = omega arith in
      let within : len ≤ len + 1 = omega arith in
      rw (get_or-take (len + 1) y len 0 below, take-take len (len + 1) y within) right;
  end_is = λ lt. absurd (omega (arith, length-take (len + 1) y));
}

wrong_sum : (len : ℕ) (y : List ℕ) → len < length y → (get_or y len 0 ≡ sum (take len y) % 256 → ⊥)
    → IsPart len (take (len + 1) y) → ⊥
wrong_sum len y long wrong part =
    let below : len < len + 1 = omega arith in
    let within : len ≤ len + 1 = omega arith in
    let at : len < length (take (len + 1) y) = omega (arith, length-take (len + 1) y) in
    wrong (sym (get_or-take (len + 1) y len 0 below) ∙ part.sum_is at
    ∙ ap (λ (l : List ℕ). sum l % 256) (take-take len (len + 1) y within))

wrong_end : (len : ℕ) (y : List ℕ) → len + 1 < length y → (get_or y (len + 1) 0 ≡ 0x16 → ⊥)
    → IsPart len (take (len + 2) y) → ⊥
wrong_end len y long wrong part =
    let below : len + 1 < len + 2 = omega arith in
    let at : len + 1 < length (take (len + 2) y) = omega (arith, length-take (len + 2) y) in
    wrong (sym (get_or-take (len + 2) y (len + 1) 0 below) ∙ part.end_is at)

-- a front of a header and what follows it
pub take_past : (h y : List ℕ) (k n : ℕ) → k ≡ length h + n → take k (h ++ y) ≡ h ++ take n y
take_past h y k n e = ap (λ (i : ℕ). take i (h ++ y)) e ∙ take-append-add h y n

-- ---- which refusal a place has

refusal_sum : (size : LinkSize) (x : List ℕ) (p : ℕ) → 0 < p → p ≡ sum_place size x
    → Sum ≡ refusal size x p
refusal_sum size x p some e =
    rw (ne_eqb p 0 (λ h. absurd (omega arith)), eq-eqb p (sum_place size x) e) refl

refusal_end : (size : LinkSize) (x : List ℕ) (p : ℕ) → 0 < p → p ≡ sum_place size x + 1
    → End ≡ refusal size x p
refusal_end size x p some e = rw (
  ne_eqb p 0 (λ h. absurd (omega arith)),
  ne_eqb p (sum_place size x) (λ h. absurd (omega arith)),
  eq-eqb p (sum_place size x + 1) e,
) refl

-- a place before the sum's, of a variable frame
refusal_header : (size : LinkSize) (len : ℕ) (z : List ℕ)
    → (LengthSmall ≡ refusal size (0x68 ∷ len ∷ z) 1)
    × (LengthsDiffer ≡ refusal size (0x68 ∷ len ∷ z) 2)
    × (SecondStart ≡ refusal size (0x68 ∷ len ∷ z) 3)
refusal_header size len z = (
  rw (
    ne_eqb 1 (4 + len) (λ h. absurd (omega arith)),
    ne_eqb 1 (4 + len + 1)
        (λ h. absurd (omega arith)),
  ) refl,
  rw (
    ne_eqb 2 (4 + len) (λ h. absurd (omega arith)),
    ne_eqb 2 (4 + len + 1)
        (λ h. absurd (omega arith)),
  ) refl,
  rw (
    ne_eqb 3 (4 + len) (λ h. absurd (omega arith)),
    ne_eqb 3 (4 + len + 1)
        (λ h. absurd (omega arith)),
  ) refl,
)

-- ---- fixed frames

abbrev fixed_start : List ℕ
fixed_start = 0x10 ∷ []

pub fixed_more : (size : LinkSize) (len : ℕ) (y : List ℕ) → len ≡ 1 + address_len size
    → All IsOctet y
    → IsTail len y Incomplete → IsProperBeginning size (0x10 ∷ y)
fixed_more size len y len_is fits t = proper_fixed size y fits
    (subst (λ (n : ℕ). IsPart n y) len_is (part_incomplete len y t)) (omega (arith, t.0))

pub fixed_sum : (size : LinkSize) (len : ℕ) (y : List ℕ) → len ≡ 1 + address_len size
    → All IsOctet y
    → IsTail len y WrongSum → IsFront size (0x10 ∷ y) (Never (1 + len) Sum)
fixed_sum size len y len_is fits t = (
  record {
    within = omega (arith, t.0);
    before =
        subst (IsProperBeginning size) (sym (take_past fixed_start y (1 + len) len (omega arith)))
        (proper_fixed size (take len y) (All-take IsOctet len y fits)
        (subst (λ (n : ℕ). IsPart n (take len y)) len_is (part_before_sum len y))
        (omega (arith, length-take len y)));
    here = λ b.
        let b' : IsBeginning size (0x10 ∷ take (len + 1) y) =
        subst (IsBeginning size) (take_past fixed_start y (1 + len + 1) (len + 1) (omega arith))
        b in
        wrong_sum len y t.0 t.1 (subst (λ (n : ℕ). IsPart n (take (len + 1) y)) (sym len_is)
        (part_fixed size (take (len + 1) y) b'));
  },
  refusal_sum size (0x10 ∷ y) (1 + len) (omega arith) (omega arith),
)

pub fixed_end : (size : LinkSize) (len : ℕ) (y : List ℕ) → len ≡ 1 + address_len size
    → All IsOctet y
    → IsTail len y WrongEnd → IsFront size (0x10 ∷ y) (Never (2 + len) End)
fixed_end size len y len_is fits t = (
  record {
    within = omega (arith, t.0);
    before =
        subst (IsProperBeginning size)
        (sym (take_past fixed_start y (2 + len) (len + 1) (omega arith)))
        (proper_fixed size (take (len + 1) y) (All-take IsOctet (len + 1) y fits)
        (subst (λ (n : ℕ). IsPart n (take (len + 1) y)) len_is
        (part_before_end len y (omega (arith, t.0)) t.1))
        (omega (arith, length-take (len + 1) y)));
    here = λ b.
        let b' : IsBeginning size (0x10 ∷ take (len + 2) y) =
        subst (IsBeginning size) (take_past fixed_start y (2 + len + 1) (len + 2) (omega arith))
        b in
        wrong_end len y t.0 t.2 (subst (λ (n : ℕ). IsPart n (take (len + 2) y)) (sym len_is)
        (part_fixed size (take (len + 2) y) b'));
  },
  refusal_end size (0x10 ∷ y) (2 + len) (omega arith) (omega arith),
)

-- ---- variable frames

pub variable_more : (size : LinkSize) (len : ℕ) (y : List ℕ) → len < 256 → 1 + address_len size
    ≤ len → All IsOctet y
    → IsTail len y Incomplete → IsProperBeginning size (header len ++ y)
variable_more size len y octet long fits t =
    proper_variable size len y octet long fits (part_incomplete len y t) t.0

pub variable_sum : (size : LinkSize) (len : ℕ) (y : List ℕ) → len < 256 → 1 + address_len size ≤ len
    → All IsOctet y
    → IsTail len y WrongSum → IsFront size (header len ++ y) (Never (4 + len) Sum)
variable_sum size len y octet long fits t = (
  record {
    within = omega (arith, t.0);
    before =
        subst (IsProperBeginning size) (sym (take_past (header len) y (4 + len) len (omega arith)))
        (proper_variable size len (take len y) octet long (All-take IsOctet len y fits)
        (part_before_sum len y)
        (omega (arith, length-take len y)));
    here = λ b.
        let b' : IsBeginning size (header len ++ take (len + 1) y) =
        subst (IsBeginning size) (take_past (header len) y (4 + len + 1) (len + 1) (omega arith))
        b in
        wrong_sum len y t.0 t.1 (part_variable size len (take (len + 1) y) b');
  },
  refusal_sum size (header len ++ y) (4 + len) (omega arith) refl,
)

pub variable_end : (size : LinkSize) (len : ℕ) (y : List ℕ) → len < 256 → 1 + address_len size ≤ len
    → All IsOctet y
    → IsTail len y WrongEnd → IsFront size (header len ++ y) (Never (5 + len) End)
variable_end size len y octet long fits t = (
  record {
    within = omega (arith, t.0);
    before =
        subst (IsProperBeginning size)
        (sym (take_past (header len) y (5 + len) (len + 1) (omega arith)))
        (proper_variable size len (take (len + 1) y) octet long (All-take IsOctet (len + 1) y fits)
        (part_before_end len y (omega (arith, t.0)) t.1) (omega (arith, length-take (len + 1) y)));
    here = λ b.
        let b' : IsBeginning size (header len ++ take (len + 2) y) =
        subst (IsBeginning size) (take_past (header len) y (5 + len + 1) (len + 2) (omega arith))
        b in
        wrong_end len y t.0 t.2 (part_variable size len (take (len + 2) y) b');
  },
  refusal_end size (header len ++ y) (5 + len) (omega arith) (omega arith),
)

-- octets, sum and end are all there
pub tail_complete : (len : ℕ) (y : List ℕ) → IsTail len y Complete → take (len + 2) y
    ≡ checked (take len y)
tail_complete len y t =
    let a : take (len + 1) y ≡ take len y ++ get_or y len 0 ∷ [] =
    take_more y len 0 (omega (arith, t.0)) in
    let b : take (len + 1 + 1) y ≡ take (len + 1) y ++ get_or y (len + 1) 0 ∷ [] =
    take_more y (len + 1) 0 t.0 in
    let k : len + 2 ≡ len + 1 + 1 = omega arith in
    rw (k, b, a, t.1, t.2) (append_assoc (take len y) (sum (take len y) % 256 ∷ []) (0x16 ∷ []))

pub variable_whole : (size : LinkSize) (len c a : ℕ) (body : ArrayVec ℕ) (y : List ℕ) → len < 256
    → take len y ≡ user size c a body.items → IsTail len y Complete → FitsAddress size c a
    → All IsOctet body.items
    → IsFront size (header len ++ y) (Whole (Data c a body) (6 + len))
variable_whole size len c a body y octet parts t address_fits body_fits =
    let user_len : length (user size c a body.items) ≡ len = ap length (sym parts)
    ∙ length-take-le len y (omega (arith, t.0)) in (
      record {
        fits = (address_fits, body_fits, omega (arith, user_len));
        spelled =
            take_past (header len) y (6 + len) (len + 2) (omega arith)
            ∙ ap (λ (l : List ℕ). header len ++ l) (tail_complete len y t ∙ ap checked parts)
            ∙ ap (λ (n : ℕ). header n ++ checked (user size c a body.items)) (sym user_len);
      },
      omega (arith, t.0),
    )

pub octets_user : (size : LinkSize) (c a : ℕ) (body : List ℕ) → All IsOctet (user size c a body)
    → IsOctet c × All IsOctet body
octets_user One c a body fits = (
  All-head IsOctet c (a ∷ body) fits,
  All-tail IsOctet a body (All-tail IsOctet c (a ∷ body) fits),
)
octets_user Two c a body fits = (
  All-head IsOctet c (a % 256 ∷ a / 256 ∷ body) fits,
  All-tail IsOctet (a / 256) body (All-tail IsOctet (a % 256) (a / 256 ∷ body)
      (All-tail IsOctet c (a % 256 ∷ a / 256 ∷ body) fits)),
)

-- ---- the header of a variable frame

short_address : (size : LinkSize) → 1 + address_len size < 256
short_address One = omega arith
short_address Two = omega arith

pub header_1 : (size : LinkSize) → IsProperBeginning size (0x68 ∷ [])
header_1 size =
    let len : ℕ = 1 + address_len size in
    let octet : len < 256 = short_address size in
    proper_front size (0x68 ∷ []) (len ∷ len ∷ 0x68 ∷ []) (omega arith)
    (proper_header size len octet (omega arith))

pub header_2 : (size : LinkSize) (len : ℕ) → len < 256 → 1 + address_len size ≤ len
    → IsProperBeginning size (0x68 ∷ len ∷ [])
header_2 size len octet long = proper_front size (0x68 ∷ len ∷ []) (len ∷ 0x68 ∷ []) (omega arith)
    (proper_header size len octet long)

pub header_3 : (size : LinkSize) (len : ℕ) → len < 256 → 1 + address_len size ≤ len
    → IsProperBeginning size (0x68 ∷ len ∷ len ∷ [])
header_3 size len octet long = proper_front size (0x68 ∷ len ∷ len ∷ []) (0x68 ∷ []) (omega arith)
    (proper_header size len octet long)

pub length_small : (size : LinkSize) (len : ℕ) (z : List ℕ) → len < 1 + address_len size
    → IsFront size (0x68 ∷ len ∷ z) (Never 1 LengthSmall)
length_small size len z small = (
  record {
    within = omega arith;
    before = header_1 size;
    here = λ b. absurd (omega (arith, length_fits size len [] b));
  },
  (refusal_header size len z).0,
)

pub lengths_differ : (size : LinkSize) (len again : ℕ) (z : List ℕ) → len < 256
    → 1 + address_len size ≤ len
    → (again ≡ len → ⊥) → IsFront size (0x68 ∷ len ∷ again ∷ z) (Never 2 LengthsDiffer)
lengths_differ size len again z octet long differ = (
  record {
    within = omega arith;
    before = header_2 size len octet long;
    here = λ b. differ (sym (lengths_equal size len again [] b));
  },
  (refusal_header size len (again ∷ z)).1,
)

pub start_differs : (size : LinkSize) (len start : ℕ) (z : List ℕ) → len < 256
    → 1 + address_len size ≤ len
    → (start ≡ 0x68 → ⊥) → IsFront size (0x68 ∷ len ∷ len ∷ start ∷ z) (Never 3 SecondStart)
start_differs size len start z octet long differ = (
  record {
    within = omega arith;
    before = header_3 size len octet long;
    here = λ b. differ (second_start size len len start [] b);
  },
  (refusal_header size len (len ∷ start ∷ z)).2,
)

-- ---- the first octet

pub no_start : (size : LinkSize) (o : ℕ) (z : List ℕ) → (o ≡ 0xE5 → ⊥) → (o ≡ 0x10 → ⊥)
    → (o ≡ 0x68 → ⊥)
    → IsFront size (o ∷ z) (Never 0 Start)
no_start size o z a b d = (
  record { within = omega arith; before = proper_nil size; here = never_start size o [] a b d },
  refl,
)

pub single : (size : LinkSize) (z : List ℕ) → IsFront size (0xE5 ∷ z) (Whole Single 1)
single size z = (record { fits = tt; spelled = refl }, omega arith)

pub first_octet : (xs : List ℕ) (x : ℕ) (rest : List ℕ) → xs ≡ x ∷ rest → get_or xs 0 0 < 256
    → x < 256
first_octet xs x rest e lt = subst (λ (l : List ℕ). get_or l 0 0 < 256) e lt
