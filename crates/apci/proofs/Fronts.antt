-- What each return of the readers claims.
use Rattle.std.proofs.Common.{◌≡◌, ℕ, zero, ◌+◌, ◌*◌, ◌-◌, ◌%◌, ◌/◌, ◌^◌, ◌<◌, ◌≤◌, List, [], ◌∷◌}
use Rattle.std.proofs.Common.{◌++◌, length, get_or, take, drop, All, Some, None, refl, sym, ap}
use Rattle.std.proofs.Common.{subst, ◌∙◌, append_assoc, arith, inl, inr}
use Rattle.std.proofs.lemmas.Bool.{cases_lt, eq-eqb, ne_eqb}
use Rattle.std.proofs.lemmas.List.{length-append, length-replicate, length-take-le}
use Rattle.std.proofs.lemmas.List.Elements.{All-head, All-tail, All-append, All-replicate, All-nil}
use Rattle.std.proofs.lemmas.List.Elements.{All-cons, All-take}
use Rattle.std.proofs.Math.Seq.{take-append-add}
use Rattle.std.proofs.Math.ListN.{replicate}
use Rattle.arrayvec.specs.ArrayVec.{ArrayVec}
use Rattle.apci.specs.declared.apdu.Uf.{Uf}
use Rattle.apci.specs.declared.apdu.Uf.TheVariants.{StartAct}
use Rattle.apci.specs.declared.apdu.Apdu.TheVariants.{I, S, U}
use Rattle.apci.specs.declared.apdu.Why.TheVariants.{Start, Length, Control, NotFour, Short}
use Rattle.apci.specs.declared.apdu.Front.TheVariants.{Whole, Never}
use Rattle.apci.specs.Spelling.{counter, function, contents, IsOctet}
use Rattle.apci.specs.Reading.{IsProperBeginning, IsMore, IsFront, function_of}
use Rattle.apci.proofs.Apdus.{function_again, odd_function, Opens, opens, starts, length_open}
use Rattle.apci.proofs.Apdus.{counter_again}

-- ---- how octets go on

pub proper_front : (x y : List ℕ) (o : ℕ) → IsProperBeginning (x ++ o ∷ y) → IsProperBeginning x
proper_front x y o p = record {
  apdu = p.apdu;
  next = o;
  rest = y ++ p.next ∷ p.rest;
  line = record {
    fits = p.line.fits;
    spelled = sym (append_assoc x (o ∷ y) (p.next ∷ p.rest))
        ∙ p.line.spelled;
  };
}

pub u_3 : (f : Uf) → IsProperBeginning (0x68 ∷ 4 ∷ function f ∷ 0 ∷ 0 ∷ [])
u_3 f = record { apdu = U f; next = 0; rest = []; line = record { fits = tt; spelled = refl } }

pub u_2 : (f : Uf) → IsProperBeginning (0x68 ∷ 4 ∷ function f ∷ 0 ∷ [])
u_2 f = proper_front (0x68 ∷ 4 ∷ function f ∷ 0 ∷ []) [] 0 (u_3 f)

pub u_1 : (f : Uf) → IsProperBeginning (0x68 ∷ 4 ∷ function f ∷ [])
u_1 f = proper_front (0x68 ∷ 4 ∷ function f ∷ []) [] 0 (u_2 f)

pub four : IsProperBeginning (0x68 ∷ 4 ∷ [])
four = proper_front (0x68 ∷ 4 ∷ []) [] (function StartAct) (u_1 StartAct)

pub start_alone : IsProperBeginning (0x68 ∷ [])
start_alone = proper_front (0x68 ∷ []) [] 4 four

pub nothing : IsProperBeginning []
nothing = proper_front [] [] 0x68 start_alone

pub s_3 : (low : ℕ) → low < 256 → low % 2 ≡ 0 → IsProperBeginning (0x68 ∷ 4 ∷ 1 ∷ 0 ∷ low ∷ [])
s_3 low octet even = record {
  apdu = S (low / 2 + 128 * 0);
  next = 0;
  rest = [];
  line = record {
    fits = omega arith;
    spelled = ap (λ (l : List ℕ). 0x68 ∷ 4 ∷ 1 ∷ 0 ∷ l)
        (sym (counter_again low 0 octet even (omega arith)));
  };
}

pub s_2 : IsProperBeginning (0x68 ∷ 4 ∷ 1 ∷ 0 ∷ [])
s_2 = proper_front (0x68 ∷ 4 ∷ 1 ∷ 0 ∷ []) [] 0 (s_3 0 (omega arith) refl)

pub s_1 : IsProperBeginning (0x68 ∷ 4 ∷ 1 ∷ [])
s_1 = proper_front (0x68 ∷ 4 ∷ 1 ∷ []) [] 0 s_2

-- an I format up to some octet of its ASDU
pub i_asdu : (len a b c d : ℕ) (asdu : List ℕ) → 13 ≤ len → len ≤ 253 → a % 2 ≡ 0 → c % 2 ≡ 0
    → All IsOctet (a ∷ b ∷ c ∷ d ∷ asdu) → length asdu + 4 < len
    → IsProperBeginning (0x68 ∷ len ∷ a ∷ b ∷ c ∷ d ∷ asdu)
i_asdu len a b c d asdu long short even_a even_c fits more =
    let octet_a : a < 256 = All-head IsOctet a (b ∷ c ∷ d ∷ asdu) fits in
    let fits_b = All-tail IsOctet a (b ∷ c ∷ d ∷ asdu) fits in
    let octet_b : b < 256 = All-head IsOctet b (c ∷ d ∷ asdu) fits_b in
    let fits_c = All-tail IsOctet b (c ∷ d ∷ asdu) fits_b in
    let octet_c : c < 256 = All-head IsOctet c (d ∷ asdu) fits_c in
    let fits_d = All-tail IsOctet c (d ∷ asdu) fits_c in
    let octet_d : d < 256 = All-head IsOctet d asdu fits_d in
    let left : ℕ = len - 5 - length asdu in
    let zeros : List ℕ = 0 ∷ replicate left 0 in
    let whole : List ℕ = asdu ++ zeros in
    let whole_len : length whole ≡ len - 4 =
    omega (arith, length-append asdu zeros, length-replicate left (zero)) in
    let spelled_len : len ≡ length (counter (a / 2 + 128 * b) ++ counter (c / 2 + 128 * d)
    ++ whole) =
    omega (arith, whole_len) in
    let ns = counter_again a b octet_a even_a octet_b in
    let nr = counter_again c d octet_c even_c octet_d in
    let made : ArrayVec ℕ = record { items = whole } in
    record {
      apdu = I (a / 2 + 128 * b) (c / 2 + 128 * d) made;
      next = 0;
      rest = replicate left 0;
      line = record {
        fits = (
          omega arith,
          omega arith,
          All-append IsOctet asdu zeros (All-tail IsOctet d asdu fits_d)
              (All-cons IsOctet 0 (replicate left 0) (omega arith)
              (All-replicate IsOctet left 0 (omega arith))),
          omega (arith, whole_len),
          omega (arith, whole_len),
        );
        spelled =
            ap (λ (l : List ℕ). 0x68 ∷ len ∷ (l ++ whole))
            (sym (ap (λ (l : List ℕ). l ++ counter (c / 2 + 128 * d)) ns
            ∙ ap (λ (l : List ℕ). a ∷ b ∷ l) nr))
            ∙ ap (λ (n : ℕ). 0x68 ∷ n ∷ (counter (a / 2 + 128 * b) ++ counter (c / 2 + 128 * d)
            ++ whole)) spelled_len;
      };
    }

-- an I format up to some octet after its first control octet
pub i_more : (len a : ℕ) (y : List ℕ) → 13 ≤ len → len ≤ 253 → a % 2 ≡ 0 → a < 256 → All IsOctet y
    → (1 < length y → get_or y 1 0 % 2 ≡ 0) → length y + 1 < len
    → IsProperBeginning (0x68 ∷ len ∷ a ∷ y)
i_more len a (b ∷ c ∷ d ∷ asdu) long short even octet fits even_c more =
    i_asdu len a b c d asdu long short even (even_c (omega arith))
    (All-cons IsOctet a (b ∷ c ∷ d ∷ asdu) octet fits)
    (omega arith)
i_more len a (b ∷ c ∷ []) long short even octet fits even_c more =
    proper_front (0x68 ∷ len ∷ a ∷ b ∷ c ∷ []) [] 0
    (i_asdu len a b c 0 [] long short even (even_c (omega arith))
    (All-append IsOctet (a ∷ b ∷ c ∷ []) (0 ∷ []) (All-cons IsOctet a (b ∷ c ∷ []) octet fits)
    (All-cons IsOctet 0 [] (omega arith) (All-nil IsOctet))) (omega arith))
i_more len a (b ∷ []) long short even octet fits even_c more =
    proper_front (0x68 ∷ len ∷ a ∷ b ∷ []) (0 ∷ []) 0 (i_asdu len a b 0 0 [] long short even refl
    (All-append IsOctet (a ∷ b ∷ []) (0 ∷ 0 ∷ []) (All-cons IsOctet a (b ∷ []) octet fits)
    (All-cons IsOctet 0 (0 ∷ []) (omega arith)
    (All-cons IsOctet 0 [] (omega arith) (All-nil IsOctet))))
    (omega arith))
i_more len a [] long short even octet fits even_c more =
    proper_front (0x68 ∷ len ∷ a ∷ []) (0 ∷ 0 ∷ []) 0 (i_asdu len a 0 0 0 [] long short even refl
    (All-append IsOctet (a ∷ []) (0 ∷ 0 ∷ 0 ∷ []) (All-cons IsOctet a [] octet fits)
    (All-cons IsOctet 0 (0 ∷ 0 ∷ []) (omega arith)
    (All-cons IsOctet 0 (0 ∷ []) (omega arith)
    (All-cons IsOctet 0 [] (omega arith) (All-nil IsOctet)))))
    (omega arith))

-- a length from 4 to 253
pub length_more : (len : ℕ) → 4 ≤ len → len ≤ 253 → IsMore (0x68 ∷ len ∷ [])
length_more len low high = elim (cases_lt len 5) [
  | inl lt ↦ let four_is : 4 ≡ len = omega arith in inl
      (subst (λ (n : ℕ). IsProperBeginning (0x68 ∷ n ∷ [])) four_is four)
  | inr le ↦ elim (cases_lt len 13) [
    | inl lt ↦ inr (record { len = len; low = le; high = omega arith; whole = refl })
    | inr long ↦ inl (proper_front (0x68 ∷ len ∷ []) [] 0
        (i_more len 0 [] long high refl (omega arith) (All-nil IsOctet) (λ lt. absurd (omega arith))
        (omega arith)))
  ]
]

-- ---- what decides against octets

even_apart : (n m : ℕ) → n % 2 ≡ 1 → n ≡ m % 128 * 2 → ⊥
even_apart n m odd e = absurd (omega arith)

pub no_start : (o : ℕ) (z : List ℕ) → (o ≡ 0x68 → ⊥) → IsFront (o ∷ z) (Never 0 Start)
no_start o z apart = (
  0,
  record { within = omega arith; before = inl nothing; here = λ h. apart (starts o [] h) },
  refl,
)

pub no_length : (len : ℕ) (z : List ℕ) → (4 ≤ len → len ≤ 253 → ⊥)
    → IsFront (0x68 ∷ len ∷ z) (Never 1 Length)
no_length len z apart = (
  1,
  record {
    within = omega arith;
    before = inl start_alone;
    here = λ h. let l = length_open 0x68 len [] h in apart l.0 l.1;
  },
  refl,
)

pub no_format : (len o : ℕ) (z : List ℕ) → 4 ≤ len → len ≤ 253 → o % 2 ≡ 1 → (o ≡ 1 → ⊥)
    → function_of o ≡ None
    → IsFront (0x68 ∷ len ∷ o ∷ z) (Never 2 Control)
no_format len o z low high odd not_s not_u = (
  2,
  record {
    within = omega arith;
    before = length_more len low high;
    here = λ h. elim (opens len o [] h) [
      | inl i ↦ even_apart o i.ns odd i.even
      | inr r ↦ elim r [
        | inl s ↦ not_s s.one
        | inr u ↦ (let e : None ≡ Some u.f = sym not_u ∙ ap function_of u.function
            ∙ function_again u.f in absurd cc)
      ]
    ];
  },
  rw (ne_eqb (o % 2) 0 (λ e. absurd (omega arith)), ne_eqb o 1 not_s, not_u) refl,
)

pub i_short : (len o : ℕ) (z : List ℕ) → 4 ≤ len → len < 13 → o % 2 ≡ 0
    → IsFront (0x68 ∷ len ∷ o ∷ z) (Never 1 Short)
i_short len o z low high even = (
  2,
  record {
    within = omega arith;
    before = length_more len low (omega arith);
    here = λ h. elim (opens len o [] h) [
      | inl i ↦ absurd (omega (arith, i.long))
      | inr r ↦ elim r [
        | inl s ↦ absurd (omega (arith, s.one))
        | inr u ↦ absurd (omega (arith, u.function, (odd_function u.f).0))
      ]
    ];
  },
  rw (eq-eqb (o % 2) 0 even) refl,
)

not_four : (len o : ℕ) → (len ≡ 4 → ⊥) → o % 2 ≡ 1 → Opens len o [] → ⊥
not_four len o apart odd h = elim h [
  | inl i ↦ even_apart o i.ns odd i.even
  | inr r ↦ elim r [ inl s ↦ apart s.four | inr u ↦ apart u.four ]
]

pub s_not_four : (len : ℕ) (z : List ℕ) → 4 ≤ len → len ≤ 253 → (len ≡ 4 → ⊥)
    → IsFront (0x68 ∷ len ∷ 1 ∷ z) (Never 1 NotFour)
s_not_four len z low high apart = (
  2,
  record {
    within = omega arith;
    before = length_more len low high;
    here = λ h. not_four len 1 apart refl (opens len 1 [] h);
  },
  refl,
)

pub u_not_four : (len : ℕ) (f : Uf) (z : List ℕ) → 4 ≤ len → len ≤ 253 → (len ≡ 4 → ⊥)
    → IsFront (0x68 ∷ len ∷ function f ∷ z) (Never 1 NotFour)
u_not_four len f z low high apart = (
  2,
  record {
    within = omega arith;
    before = length_more len low high;
    here = λ h. not_four len (function f) apart (odd_function f).0 (opens len (function f) [] h);
  },
  rw (
    ne_eqb (function f % 2) 0 (λ e. absurd (omega (arith, (odd_function f).0))),
    ne_eqb (function f) 1 (λ e. absurd (omega (arith, (odd_function f).1))),
    function_again f,
  ) refl,
)

pub s_second : (b : ℕ) (z : List ℕ) → (b ≡ 0 → ⊥) → IsFront (0x68 ∷ 4 ∷ 1 ∷ b ∷ z) (Never 3 Control)
s_second b z apart = (
  3,
  record {
    within = omega arith;
    before = inl s_1;
    here = λ h. elim (opens 4 1 (b ∷ []) h) [
      | inl i ↦ absurd (omega (arith, i.long))
      | inr r ↦ elim r [
        | inl s ↦ (let w : b ∷ s.rest ≡ 0 ∷ s.nr % 128 * 2 ∷ s.nr / 128 ∷ [] = s.whole in apart cc)
        | inr u ↦ absurd (omega (arith, u.function, (odd_function u.f).1))
      ]
    ];
  },
  refl,
)

pub s_third : (c : ℕ) (z : List ℕ) → c % 2 ≡ 1
    → IsFront (0x68 ∷ 4 ∷ 1 ∷ 0 ∷ c ∷ z) (Never 4 Control)
s_third c z odd = (
  4,
  record {
    within = omega arith;
    before = inl s_2;
    here = λ h. elim (opens 4 1 (0 ∷ c ∷ []) h) [
      | inl i ↦ absurd (omega (arith, i.long))
      | inr r ↦ elim r [
        | inl s ↦ (let w : 0 ∷ c ∷ s.rest ≡ 0 ∷ s.nr % 128 * 2 ∷ s.nr / 128 ∷ [] =
            s.whole in let e : c ≡ s.nr % 128 * 2 = cc in even_apart c s.nr odd e)
        | inr u ↦ absurd (omega (arith, u.function, (odd_function u.f).1))
      ]
    ];
  },
  refl,
)

-- a U format's next octets are 0
u_zero : (f : Uf) (z : List ℕ) → Opens 4 (function f) z → (rest : List ℕ)
    × (z ++ rest ≡ 0 ∷ 0 ∷ 0 ∷ [])
u_zero f z h = elim h [
  | inl i ↦ absurd (omega (arith, i.long))
  | inr r ↦ elim r [
    | inl s ↦ absurd (omega (arith, s.one, (odd_function f).1))
    | inr u ↦
        (u.rest, u.whole)
  ]
]

pub u_second : (f : Uf) (b : ℕ) (z : List ℕ) → (b ≡ 0 → ⊥)
    → IsFront (0x68 ∷ 4 ∷ function f ∷ b ∷ z) (Never 3 Control)
u_second f b z apart = (
  3,
  record {
    within = omega arith;
    before = inl (u_1 f);
    here = λ h.
        let r = u_zero f (b ∷ []) (opens 4 (function f) (b ∷ []) h) in
        let w : b ∷ r.0 ≡ 0 ∷ 0 ∷ 0 ∷ [] = r.1 in
        apart cc;
  },
  refl,
)

pub u_third : (f : Uf) (b : ℕ) (z : List ℕ) → (b ≡ 0 → ⊥)
    → IsFront (0x68 ∷ 4 ∷ function f ∷ 0 ∷ b ∷ z) (Never 4 Control)
u_third f b z apart = (
  4,
  record {
    within = omega arith;
    before = inl (u_2 f);
    here = λ h.
        let r = u_zero f (0 ∷ b ∷ []) (opens 4 (function f) (0 ∷ b ∷ []) h) in
        let w : 0 ∷ b ∷ r.0 ≡ 0 ∷ 0 ∷ 0 ∷ [] = r.1 in
        apart cc;
  },
  refl,
)

pub u_fourth : (f : Uf) (b : ℕ) (z : List ℕ) → (b ≡ 0 → ⊥)
    → IsFront (0x68 ∷ 4 ∷ function f ∷ 0 ∷ 0 ∷ b ∷ z) (Never 5 Control)
u_fourth f b z apart = (
  5,
  record {
    within = omega arith;
    before = inl (u_3 f);
    here = λ h.
        let r = u_zero f (0 ∷ 0 ∷ b ∷ []) (opens 4 (function f) (0 ∷ 0 ∷ b ∷ []) h) in
        let w : 0 ∷ 0 ∷ b ∷ r.0 ≡ 0 ∷ 0 ∷ 0 ∷ [] = r.1 in
        apart cc;
  },
  refl,
)

pub i_third : (len a : ℕ) (y : List ℕ) → 13 ≤ len → len ≤ 253 → a % 2 ≡ 0 → a < 256 → All IsOctet y
    → 1 < length y
    → get_or y 1 0 % 2 ≡ 1 → IsFront (0x68 ∷ len ∷ a ∷ y) (Never 4 Control)
i_third len a [] long short even octet fits some odd = absurd (omega arith)
i_third len a (b ∷ []) long short even octet fits some odd = absurd (omega arith)
i_third len a (b ∷ c ∷ z) long short even octet fits some odd = (
  4,
  record {
    within = omega arith;
    before = inl (i_more len a (b ∷ []) long short even octet
        (All-cons IsOctet b [] (All-head IsOctet b (c ∷ z) fits) (All-nil IsOctet))
        (λ lt. absurd (omega arith))
        (omega arith));
    here = λ h. elim (opens len a (b ∷ c ∷ []) h) [
      | inl i ↦ (let w : b ∷ c ∷ i.rest ≡ i.ns / 128 ∷ i.nr % 128 * 2 ∷ i.nr / 128 ∷ i.asdu =
          i.whole in let e : c ≡ i.nr % 128 * 2 = cc in even_apart c i.nr odd e)
      | inr r ↦ elim r [
        | inl s ↦ absurd (omega (arith, s.four))
        | inr u ↦ absurd (omega (arith, u.four))
      ]
    ];
  },
  refl,
)

pub octet_at_1 : (xs : List ℕ) (x y : ℕ) (rest : List ℕ) → xs ≡ x ∷ y ∷ rest → get_or xs 1 0 < 256
    → y < 256
octet_at_1 xs x y rest e lt = subst (λ (l : List ℕ). get_or l 1 0 < 256) e lt

pub i_whole : (len a ns nr : ℕ) (asdu : ArrayVec ℕ) (y : List ℕ) → 13 ≤ len → len ≤ 253
    → All IsOctet y
    → len ≤ length y + 1 → ns < 2 ^ 15 → nr < 2 ^ 15
    → counter ns ≡ a ∷ get_or y 0 0 ∷ [] → counter nr ≡ get_or y 1 0 ∷ get_or y 2 0 ∷ []
    → asdu.items ≡ take (len - 1 - 3) (drop 3 y)
    → IsFront (0x68 ∷ len ∷ a ∷ y) (Whole (I ns nr asdu) (2 + len))
i_whole len a ns nr asdu [] long short fits enough ns_fits nr_fits ns_is nr_is asdu_is =
    absurd (omega arith)
i_whole len a ns nr asdu (b ∷ []) long short fits enough ns_fits nr_fits ns_is nr_is asdu_is =
    absurd (omega arith)
i_whole len a ns nr asdu (b ∷ c ∷ []) long short fits enough ns_fits nr_fits ns_is nr_is asdu_is =
    absurd (omega arith)
i_whole len a ns nr asdu (b ∷ c ∷ d ∷ t) long short fits enough ns_fits nr_fits ns_is nr_is
    asdu_is =
    let k : ℕ = len - 1 - 3 in
    let fits_t =
    All-tail IsOctet d t (All-tail IsOctet c (d ∷ t) (All-tail IsOctet b (c ∷ d ∷ t) fits)) in
    let asdu_len : length asdu.items ≡ k = ap length asdu_is ∙ length-take-le k t (omega arith) in
    let head : List ℕ = 0x68 ∷ len ∷ a ∷ b ∷ c ∷ d ∷ [] in
    let count : 2 + len ≡ 6 + k = omega arith in
    let contents_are : contents (I ns nr asdu) ≡ a ∷ b ∷ c ∷ d ∷ asdu.items =
    ap (λ (l : List ℕ). l ++ counter nr ++ asdu.items) ns_is
    ∙ ap (λ (l : List ℕ). a ∷ b ∷ (l ++ asdu.items)) nr_is in
    let len_is : length (contents (I ns nr asdu)) ≡ len = ap length contents_are
    ∙ (let e : length (a ∷ b ∷ c ∷ d ∷ asdu.items) ≡ len = omega arith in e) in (
      record {
        fits = (
          ns_fits,
          nr_fits,
          subst (All IsOctet) (sym asdu_is) (All-take IsOctet k t fits_t),
          omega arith,
          omega arith,
        );
        spelled =
            ap (λ (n : ℕ). take n (head ++ t)) count ∙ take-append-add head t k
            ∙ ap (λ (l : List ℕ). 0x68 ∷ len ∷ a ∷ b ∷ c ∷ d ∷ l) (sym asdu_is)
            ∙ ap (λ (l : List ℕ). 0x68 ∷ len ∷ l) (sym contents_are)
            ∙ ap (λ (n : ℕ). 0x68 ∷ n ∷ contents (I ns nr asdu)) (sym len_is);
      },
      omega arith,
    )
