-- The computed front is the front.
use Rattle.std.proofs.Common.{◌≡◌, ℕ, ◌+◌, ◌%◌, ◌<◌, ◌≤◌, List, [], ◌∷◌, ◌++◌, length, get_or, take}
use Rattle.std.proofs.Common.{drop, sum, All, refl, sym, ap, subst, ◌∙◌, arith, inl, inr}
use Rattle.std.proofs.lemmas.Bool.{cases_eq, cases_lt, eq-eqb, ne_eqb, lt-ltb, le-ltb, ltb-true}
use Rattle.std.proofs.lemmas.Bool.{ltb-false}
use Rattle.std.proofs.lemmas.List.{length-drop, drop_more, drop_all, length-take, length-take-le}
use Rattle.std.proofs.lemmas.List.{length-append, get_or-take, get_or_append_left, take_at}
use Rattle.std.proofs.lemmas.List.{take-append-drop, take_all}
use Rattle.std.proofs.lemmas.List.Elements.{All-take, All-head, All-tail, All-get_or}
use Rattle.std.proofs.lemmas.List.Elements.{All-from_get_or}
use Rattle.std.proofs.lemmas.List.Sums.{prefix_len-le-length, prefix_len_passes, prefix_len_stops}
use Rattle.std.specs.List.{prefix_len}
use Rattle.arrayvec.specs.ArrayVec.{ArrayVec}
use Rattle.ft12.specs.declared.frame.LinkSize.{LinkSize}
use Rattle.ft12.specs.declared.frame.LinkSize.TheVariants.{One, Two}
use Rattle.ft12.specs.declared.frame.Frame.{Frame}
use Rattle.ft12.specs.declared.frame.Frame.TheVariants.{Fixed, Data}
use Rattle.ft12.specs.declared.frame.Why.{Why}
use Rattle.ft12.specs.declared.frame.Why.TheVariants.{Sum, End}
use Rattle.ft12.specs.declared.frame.Front.{Front}
use Rattle.ft12.specs.declared.frame.Front.TheVariants.{Whole, More, Never}
use Rattle.ft12.specs.declared.reading.Tail.TheVariants.{Complete, Incomplete, WrongSum, WrongEnd}
use Rattle.ft12.specs.Spelling.{address_len, checked, header, user, spelling, IsOctet, Fits}
use Rattle.ft12.specs.Reading.{IsFront, IsBeginning, IsProperBeginning}
use Rattle.ft12.specs.Tail.{IsTail}
use Rattle.ft12.specs.Fronts.{address_in, end_due, sum_due, checked_due, fixed_due, data_due}
use Rattle.ft12.specs.Fronts.{start_due, again_due, length_due, frame_due, is_octet, front_with}
use Rattle.ft12.specs.Fronts.{front_of}
use Rattle.ft12.proofs.Frames.{heads, tails, AreParts, parts_here, spelling_fits}
use Rattle.ft12.proofs.Beginnings.{proper_nil}
use Rattle.ft12.proofs.Exact.{one_front}
use Rattle.ft12.proofs.Returns.{fixed_more, fixed_sum, fixed_end, variable_more, variable_sum}
use Rattle.ft12.proofs.Returns.{variable_end, variable_whole, take_past, tail_complete, header_1}
use Rattle.ft12.proofs.Returns.{header_2, header_3, length_small, lengths_differ, start_differs}
use Rattle.ft12.proofs.Returns.{no_start, single}
use Rattle.ft12.proofs.Stream.{whole_longer, never_longer}

-- what is dropped begins with this octet
pub record IsSplit (at : ℕ) (y : List ℕ) (o : ℕ) (rest : List ℕ) : Type 0 where
  pub within : at < length y
  pub here : get_or y at 0 ≡ o
  pub after : drop (at + 1) y ≡ rest

split : (at : ℕ) (y : List ℕ) (o : ℕ) (rest : List ℕ) → drop at y ≡ o ∷ rest → IsSplit at y o rest
split at y o rest e =
    let within : at < length y = omega (arith, length-drop at y, ap length e) in
    let more : get_or y at 0 ∷ drop (at + 1) y ≡ o ∷ rest = sym (drop_more y at 0 within) ∙ e in
    record {
      within = within;
      here = heads (get_or y at 0) o _ _ more;
      after =
          tails (get_or y at 0) o _ _ more;
    }

-- whatever holds of the front for each way in which octets, their sum and the end octet stand holds
-- of the computed one
checked_is : (P : Front → Type 0) (place len : ℕ) (frame : Frame) (y : List ℕ)
    → (IsTail len y Incomplete → P More)
    → (IsTail len y WrongSum → P (Never (place + len) Sum))
    → (IsTail len y WrongEnd → P (Never (place + len + 1) End))
    → (IsTail len y Complete → P (Whole frame (place + len + 1 + 1)))
    → P (checked_due place len frame y)
checked_is P place len frame y more wrong_sum wrong_end complete = at_sum (drop len y) refl
  where
    at_end : (rest : List ℕ) → drop (len + 1) y ≡ rest → len < length y → get_or y len 0
        ≡ sum (take len y) % 256
        → P (end_due (place + len + 1) frame rest)
    at_end [] e long right = more (omega (arith, length-drop (len + 1) y, ap length e), λ lt. right)
    at_end (o ∷ rest) e long right =
        let s = split (len + 1) y o rest e in
        elim (cases_eq o 0x16) [
          | inl same ↦ rw (eq-eqb o 0x16 same) (complete (s.within, right, s.here ∙ same))
          | inr other ↦
              rw (ne_eqb o 0x16 other) (wrong_end (s.within, right, λ h. other (sym s.here ∙ h)))
        ]

    at_sum : (rest : List ℕ) → drop len y ≡ rest
        → P (sum_due (place + len) (sum (take len y) % 256) frame rest)
    at_sum [] e = more (
      omega (arith, length-drop len y, ap length e),
      λ lt. absurd (omega (arith, length-drop len y, ap length e, lt)),
    )
    at_sum (o ∷ rest) e =
        let s = split len y o rest e in
        elim (cases_eq o (sum (take len y) % 256)) [
          | inl same ↦ rw (eq-eqb o (sum (take len y) % 256) same)
              (at_end rest s.after s.within (s.here ∙ same))
          | inr other ↦ rw (ne_eqb o (sum (take len y) % 256) other)
              (wrong_sum (s.within, λ h. other (sym s.here ∙ h)))
        ]

address_front : (size : LinkSize) (len : ℕ) (y : List ℕ) → 1 + address_len size ≤ len
    → address_in size (take len y) ≡ address_in size y
address_front One len y long = get_or-take len y 1 0 (omega arith)
address_front Two len y long =
    let low : get_or (take len y) 1 0 ≡ get_or y 1 0 = get_or-take len y 1 0 (omega arith) in
    let high : get_or (take len y) 2 0 ≡ get_or y 2 0 = get_or-take len y 2 0 (omega arith) in
    rw (low, high) refl

parts_front : (size : LinkSize) (len : ℕ) (y : List ℕ) → All IsOctet y → 1 + address_len size ≤ len
    → len ≤ length y →
    AreParts size (take len y) (get_or y 0 0) (address_in size y)
    (drop (1 + address_len size) (take len y))
parts_front size len y fits long within =
    let here = parts_here size (take len y) (All-take IsOctet len y fits)
    (omega (arith, length-take-le len y within)) in
    subst (λ (c : ℕ). AreParts size (take len y) c (address_in size y)
    (drop (1 + address_len size) (take len y)))
    (get_or-take len y 0 0 (omega arith))
    (subst (λ (a : ℕ). AreParts size (take len y) (get_or (take len y) 0 0) a
    (drop (1 + address_len size) (take len y))) (address_front size len y long) here)

fixed_is : (size : LinkSize) (y : List ℕ) → All IsOctet y
    → IsFront size (0x10 ∷ y) (fixed_due size y)
fixed_is size y fits =
    let len : ℕ = 1 + address_len size in
    let frame : Frame = Fixed (get_or y 0 0) (address_in size y) in
    checked_is (IsFront size (0x10 ∷ y)) 1 len frame y (λ t. fixed_more size len y refl fits t)
    (λ t. fixed_sum size len y refl fits t)
    (λ t. subst (λ (p : ℕ). IsFront size (0x10 ∷ y) (Never p End)) (let e : 2 + len ≡ 1 + len + 1 =
    omega arith in
    e) (fixed_end size len y refl fits t))
    (λ t.
    let within : len ≤ length y = omega (arith, t.0) in
    let p = parts_front size len y fits (omega arith) within in
    let none : drop len (take len y) ≡ [] =
    drop_all len (take len y) (omega (arith, length-take-le len y within)) in
    let user_is : take len y ≡ user size (get_or y 0 0) (address_in size y) [] = p.parts
    ∙ ap (user size (get_or y 0 0) (address_in size y)) none in (
      record {
        fits = p.fits;
        spelled = take_past (0x10 ∷ []) y (1 + len + 1 + 1) (len + 2) (omega arith)
            ∙ ap (λ (l : List ℕ). 0x10 ∷ l) (tail_complete len y t ∙ ap checked user_is);
      },
      omega (arith, t.0),
    ))

data_is : (size : LinkSize) (len : ℕ) (y : List ℕ) → len < 256 → 1 + address_len size ≤ len
    → All IsOctet y
    → IsFront size (header len ++ y) (data_due size len y)
data_is size len y octet long fits =
    let body : ArrayVec ℕ = record { items = drop (1 + address_len size) (take len y) } in
    checked_is (IsFront size (header len ++ y)) 4 len (Data (get_or y 0 0) (address_in size y) body)
    y
    (λ t. variable_more size len y octet long fits t)
    (λ t. variable_sum size len y octet long fits t)
    (λ t. subst (λ (p : ℕ). IsFront size (header len ++ y) (Never p End)) (let e : 5 + len
    ≡ 4 + len + 1 =
    omega arith in e) (variable_end size len y octet long fits t))
    (λ t.
    let p = parts_front size len y fits long (omega (arith, t.0)) in
    subst
    (λ (n : ℕ). IsFront size (header len ++ y) (Whole (Data (get_or y 0 0) (address_in size y) body)
    n))
    (let e : 6 + len ≡ 4 + len + 1 + 1 = omega arith in e)
    (variable_whole size len (get_or y 0 0) (address_in size y) body y octet p.parts t p.fits
    p.body_fits))

start_is : (size : LinkSize) (len : ℕ) (y : List ℕ) → len < 256 → 1 + address_len size ≤ len
    → All IsOctet y
    → IsFront size (0x68 ∷ len ∷ len ∷ y) (start_due size len y)
start_is size len [] octet long fits = header_3 size len octet long
start_is size len (o ∷ y) octet long fits = elim (cases_eq o 0x68) [
  | inl same ↦
      rw (eq-eqb o 0x68 same) (rw same (data_is size len y octet long (All-tail IsOctet o y fits)))
  | inr other ↦ rw (ne_eqb o 0x68 other) (start_differs size len o y octet long other)
]

again_is : (size : LinkSize) (len : ℕ) (y : List ℕ) → len < 256 → 1 + address_len size ≤ len
    → All IsOctet y
    → IsFront size (0x68 ∷ len ∷ y) (again_due size len y)
again_is size len [] octet long fits = header_2 size len octet long
again_is size len (o ∷ y) octet long fits = elim (cases_eq o len) [
  | inl same ↦
      rw (eq-eqb o len same) (rw same (start_is size len y octet long (All-tail IsOctet o y fits)))
  | inr other ↦ rw (ne_eqb o len other) (lengths_differ size len o y octet long other)
]

length_is : (size : LinkSize) (y : List ℕ) → All IsOctet y
    → IsFront size (0x68 ∷ y) (length_due size y)
length_is size [] fits = header_1 size
length_is size (len ∷ y) fits = elim (cases_lt len (1 + address_len size)) [
  | inl small ↦ rw (lt-ltb len (1 + address_len size) small) (length_small size len y small)
  | inr long ↦ rw (le-ltb len (1 + address_len size) long)
      (again_is size len y (All-head IsOctet len y fits) long (All-tail IsOctet len y fits))
]

-- the computed front of octets
pub frame_is : (size : LinkSize) (x : List ℕ) → All IsOctet x → IsFront size x (frame_due size x)
frame_is size [] fits = proper_nil size
frame_is size (o ∷ y) fits = elim (cases_eq o 0xE5) [
  | inl same ↦ rw (eq-eqb o 0xE5 same) (rw same (single size y))
  | inr not_single ↦ elim (cases_eq o 0x10) [
    | inl same ↦ rw (ne_eqb o 0xE5 not_single, eq-eqb o 0x10 same)
        (rw same (fixed_is size y (All-tail IsOctet o y fits)))
    | inr not_fixed ↦ elim (cases_eq o 0x68) [
      | inl same ↦ rw (ne_eqb o 0xE5 not_single, ne_eqb o 0x10 not_fixed, eq-eqb o 0x68 same)
          (rw same (length_is size y (All-tail IsOctet o y fits)))
      | inr other ↦ rw (ne_eqb o 0xE5 not_single, ne_eqb o 0x10 not_fixed, ne_eqb o 0x68 other)
          (no_start size o y not_single not_fixed other)
    ]
  ]
]

-- ---- any numbers

passes : (x : List ℕ) → All IsOctet (take (prefix_len is_octet x) x)
passes x =
    let n : ℕ = prefix_len is_octet x in
    All-from_get_or IsOctet (take n x) 0 (λ i lt.
    let below : i < n = omega (arith, length-take n x, lt) in
    let at : get_or (take n x) i 0 ≡ get_or x i 0 = get_or-take n x i 0 below in
    omega (arith, at, ltb-true (get_or x i 0) 256 (prefix_len_passes is_octet x i 0 below)))

stops : (size : LinkSize) (x : List ℕ) → prefix_len is_octet x < length x
    → IsBeginning size (take (prefix_len is_octet x + 1) x) → ⊥
stops size x lt b =
    let n : ℕ = prefix_len is_octet x in
    let y : List ℕ = take (n + 1) x in
    let fits : All IsOctet (y ++ b.rest) = subst (All IsOctet) (sym b.line.spelled)
    (spelling_fits size b.frame b.line.fits) in
    let within : n < length (y ++ b.rest) =
    omega (arith, length-append y b.rest, length-take (n + 1) x, lt) in
    let small : get_or (y ++ b.rest) n 0 < 256 = All-get_or IsOctet (y ++ b.rest) n 0 within fits in
    let here : get_or (y ++ b.rest) n 0 ≡ get_or x n 0 =
    get_or_append_left y b.rest 0 n (omega (arith, length-take (n + 1) x, lt))
    ∙ get_or-take (n + 1) x n 0 (omega arith) in
    omega (arith, small, here, ltb-false (get_or x n 0) 256 (prefix_len_stops is_octet x 0 lt))

front_with_is : (size : LinkSize) (x : List ℕ) (f : Front)
    → IsFront size (take (prefix_len is_octet x) x) f
    → IsFront size x (front_with size x (prefix_len is_octet x) f)
front_with_is size x (Whole frame n) h =
    let count : ℕ = prefix_len is_octet x in
    subst (λ (l : List ℕ). IsFront size l (Whole frame n)) (take-append-drop count x)
    (whole_longer size (take count x) (drop count x) frame n h)
front_with_is size x (Never place why) h =
    let count : ℕ = prefix_len is_octet x in
    subst (λ (l : List ℕ). IsFront size l (Never place why)) (take-append-drop count x)
    (never_longer size (take count x) (drop count x) place why h)
front_with_is size x More h =
    let count : ℕ = prefix_len is_octet x in
    elim (cases_eq count (length x)) [
      | inl all ↦
          rw (eq-eqb count (length x) all)
          (subst (IsProperBeginning size) (take_all count x (omega arith)) h)
      | inr some ↦
          let lt : count < length x = omega (arith, prefix_len-le-length is_octet x, some) in
          rw (ne_eqb count (length x) some) (
            record {
              within = lt;
              before = h;
              here =
                  stops size x lt;
            },
            refl,
          )
    ]

pub front_is : (size : LinkSize) (x : List ℕ) → IsFront size x (front_of size x)
unfolding front_of
front_is size x = front_with_is size x (frame_due size (take (prefix_len is_octet x) x))
    (frame_is size (take (prefix_len is_octet x) x) (passes x))

-- ---- what the law says

pub front_of-nil : (size : LinkSize) → front_of size [] ≡ More
unfolding front_of
front_of-nil size = refl

pub front_of-whole : (size : LinkSize) (x y : List ℕ) (f : Frame) (n : ℕ) → front_of size x
    ≡ Whole f n
    → front_of size (x ++ y) ≡ Whole f n
front_of-whole size x y f n e =
    one_front size (x ++ y) (Whole f n) (front_of size (x ++ y))
    (whole_longer size x y f n (subst (IsFront size x) e (front_is size x)))
    (front_is size (x ++ y))

pub front_of-never : (size : LinkSize) (x y : List ℕ) (place : ℕ) (why : Why) → front_of size x
    ≡ Never place why
    → front_of size (x ++ y) ≡ Never place why
front_of-never size x y place why e =
    one_front size (x ++ y) (Never place why) (front_of size (x ++ y))
    (never_longer size x y place why (subst (IsFront size x) e (front_is size x)))
    (front_is size (x ++ y))

pub front_of-spelling : (size : LinkSize) (f : Frame) (more : List ℕ) → Fits size f
    → front_of size (spelling size f ++ more) ≡ Whole f (length (spelling size f))
front_of-spelling size f more fits =
    let x : List ℕ = spelling size f in
    one_front size (x ++ more) (Whole f (length x)) (front_of size (x ++ more)) (
      record { fits = fits; spelled = take_at x more (length x) refl },
      omega
          (arith, length-append x more),
    )
    (front_is size (x ++ more))
