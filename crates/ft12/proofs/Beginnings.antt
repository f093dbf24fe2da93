-- Which octets begin a frame.
use Rattle.std.proofs.Common.{◌≡◌, ℕ, ◌+◌, ◌<◌, ◌≤◌, List, [], ◌∷◌, ◌++◌, length, All, refl, sym}
use Rattle.std.proofs.Common.{ap, subst, ◌∙◌, append_assoc, arith, inl, inr, ◌⊎◌}
use Rattle.std.proofs.lemmas.List.{length-append, nil_from_length}
use Rattle.std.proofs.lemmas.List.Elements.{All-nil}
use Rattle.ft12.specs.declared.frame.LinkSize.{LinkSize}
use Rattle.ft12.specs.declared.frame.Frame.{Frame}
use Rattle.ft12.specs.declared.frame.Frame.TheVariants.{Single, Fixed, Data}
use Rattle.ft12.specs.Spelling.{address_len, checked, header, user, spelling, IsOctet, Fits}
use Rattle.ft12.specs.Reading.{IsProperBeginning, IsBeginning}
use Rattle.ft12.proofs.Lists.{IsPart, IsPart-front, Completes, completed, length-checked}
use Rattle.ft12.proofs.Frames.{heads, parts_of, length-user}

cons_from : (xs : List ℕ) → 0 < length xs → (o : ℕ) × (rest : List ℕ) × (xs ≡ o ∷ rest)
cons_from [] lt = absurd (omega arith)
cons_from (o ∷ rest) lt = (o, rest, refl)

-- ---- what begins a frame, properly

pub proper_front : (size : LinkSize) (x y : List ℕ) → 0 < length y → IsProperBeginning size (x ++ y)
    → IsProperBeginning size x
proper_front size x y lt p =
    let first = cons_from y lt in
    record {
      frame = p.frame;
      next = first.0;
      rest = first.1 ++ p.next ∷ p.rest;
      line = record {
        fits = p.line.fits;
        spelled = sym (append_assoc x y (p.next ∷ p.rest)
            ∙ ap (λ (l : List ℕ). x ++ (l ++ p.next ∷ p.rest)) first.2) ∙ p.line.spelled;
      };
    }

pub beginning_from_proper : (size : LinkSize) (x : List ℕ) → IsProperBeginning size x
    → IsBeginning size x
beginning_from_proper size x p = record { frame = p.frame; rest = p.next ∷ p.rest; line = p.line }

pub beginning_front : (size : LinkSize) (x y : List ℕ) → IsBeginning size (x ++ y)
    → IsBeginning size x
beginning_front size x y b = record {
  frame = b.frame;
  rest = y ++ b.rest;
  line =
      record { fits = b.line.fits; spelled = sym (append_assoc x y b.rest) ∙ b.line.spelled };
}

pub proper_nil : (size : LinkSize) → IsProperBeginning size []
proper_nil size = record {
  frame = Single;
  next = 0xE5;
  rest = [];
  line =
      record { fits = tt; spelled = refl };
}

more_of : (len : ℕ) (y : List ℕ) (d : Completes len y) → length y < len + 2
    → (o : ℕ) × (rest : List ℕ) × (d.rest ≡ o ∷ rest)
more_of len y d short =
    cons_from d.rest
    (omega (arith, length-append y d.rest, ap length d.whole, length-checked d.user, d.long))

pub proper_fixed : (size : LinkSize) (y : List ℕ) → All IsOctet y → IsPart (1 + address_len size) y
    → length y < 1 + address_len size + 2 → IsProperBeginning size (0x10 ∷ y)
proper_fixed size y fits part short =
    let d = completed (1 + address_len size) y fits part in
    let p = parts_of size d.user d.octets (omega (arith, d.long)) in
    let none : p.body ≡ [] =
    nil_from_length p.body
    (omega (arith, d.long, ap length p.are.parts, length-user size p.c p.a p.body)) in
    let user_is : d.user ≡ user size p.c p.a [] = p.are.parts ∙ ap (user size p.c p.a) none in
    let more = more_of (1 + address_len size) y d short in
    record {
      frame = Fixed p.c p.a;
      next = more.0;
      rest = more.1;
      line = record {
        fits = p.are.fits;
        spelled = ap (λ (l : List ℕ). 0x10 ∷ (y ++ l)) (sym more.2)
            ∙ ap (λ (l : List ℕ). 0x10 ∷ l) (d.whole ∙ ap checked user_is);
      };
    }

pub proper_variable : (size : LinkSize) (len : ℕ) (y : List ℕ) → len < 256 → 1 + address_len size
    ≤ len → All IsOctet y
    → IsPart len y → length y < len + 2 → IsProperBeginning size (header len ++ y)
proper_variable size len y octet long fits part short =
    let d = completed len y fits part in
    let p = parts_of size d.user d.octets (omega (arith, d.long)) in
    let more = more_of len y d short in
    let user_len : length (user size p.c p.a p.body) ≡ len = ap length (sym p.are.parts) ∙ d.long in
    record {
      frame = Data p.c p.a (record { items = p.body });
      next = more.0;
      rest = more.1;
      line = record {
        fits = (p.are.fits, p.are.body_fits, omega (arith, user_len));
        spelled =
            ap (λ (l : List ℕ). header len ++ (y ++ l)) (sym more.2)
            ∙ ap (λ (l : List ℕ). header len ++ l) (d.whole ∙ ap checked p.are.parts)
            ∙ ap (λ (n : ℕ). header n ++ checked (user size p.c p.a p.body)) (sym user_len);
      };
    }

part_nil : (len : ℕ) → IsPart len []
part_nil len = record {
  short = omega arith;
  sum_is = λ lt. absurd (omega arith);
  end_is =
      λ lt. absurd (omega arith);
}

pub proper_header : (size : LinkSize) (len : ℕ) → len < 256 → 1 + address_len size ≤ len
    → IsProperBeginning size (header len)
proper_header size len octet long = proper_variable size len [] octet long (All-nil IsOctet)
    (part_nil len)
    (omega arith)

-- ---- what a beginning of a frame has

pub begins_start : (size : LinkSize) (f : Frame) (o : ℕ) (z : List ℕ) → o ∷ z ≡ spelling size f
    → (o ≡ 0xE5) ⊎ ((o ≡ 0x10) ⊎ (o ≡ 0x68))
begins_start size Single o z e = inl (heads _ _ _ _ e)
begins_start size (Fixed c a) o z e = inr (inl (heads _ _ _ _ e))
begins_start size (Data c a body) o z e = inr (inr (heads _ _ _ _ e))

begins_fixed : (size : LinkSize) (f : Frame) (y rest : List ℕ) → 0x10 ∷ (y ++ rest)
    ≡ spelling size f
    → IsPart (1 + address_len size) y
begins_fixed size Single y rest e = absurd (omega (arith, heads 0x10 0xE5 _ _ e))
begins_fixed size (Data c a body) y rest e = absurd (omega (arith, heads 0x10 0x68 _ _ e))
begins_fixed size (Fixed c a) y rest e =
    let tails : y ++ rest ≡ checked (user size c a []) = cc in
    let len : length (user size c a []) ≡ 1 + address_len size =
    omega (arith, length-user size c a []) in
    subst (λ (n : ℕ). IsPart n y) len (IsPart-front (user size c a []) y rest tails)

-- the rest of a variable frame
pub record IsVariable (size : LinkSize) (z : List ℕ) : Type 0 where
  pub octets : List ℕ
  pub long : 1 + address_len size ≤ length octets
  pub short : length octets < 256
  pub whole : z ≡ length octets ∷ length octets ∷ 0x68 ∷ checked octets

begins_variable : (size : LinkSize) (f : Frame) (z : List ℕ) → Fits size f
    → 0x68 ∷ z ≡ spelling size f
    → IsVariable size z
begins_variable size Single z fits e = absurd (omega (arith, heads 0x68 0xE5 _ _ e))
begins_variable size (Fixed c a) z fits e = absurd (omega (arith, heads 0x68 0x10 _ _ e))
begins_variable size (Data c a body) z fits e = record {
  octets = user size c a body.items;
  long = omega (arith, length-user size c a body.items);
  short = fits.2;
  whole = cc;
}

pub never_start : (size : LinkSize) (o : ℕ) (z : List ℕ) → (o ≡ 0xE5 → ⊥) → (o ≡ 0x10 → ⊥)
    → (o ≡ 0x68 → ⊥)
    → IsBeginning size (o ∷ z) → ⊥
never_start size o z a b c p = elim (begins_start size p.frame o (z ++ p.rest) p.line.spelled)
    [ inl h ↦ a h | inr q ↦ elim q [ inl h ↦ b h | inr h ↦ c h ] ]

pub part_fixed : (size : LinkSize) (y : List ℕ) → IsBeginning size (0x10 ∷ y)
    → IsPart (1 + address_len size) y
part_fixed size y p = begins_fixed size p.frame y p.rest p.line.spelled

pub length_fits : (size : LinkSize) (len : ℕ) (z : List ℕ) → IsBeginning size (0x68 ∷ len ∷ z)
    → 1 + address_len size ≤ len
length_fits size len z p =
    let v = begins_variable size p.frame _ p.line.fits p.line.spelled in
    let e : len ≡ length v.octets = heads len (length v.octets) _ _ v.whole in
    omega (arith, v.long)

pub lengths_equal : (size : LinkSize) (len again : ℕ) (z : List ℕ)
    → IsBeginning size (0x68 ∷ len ∷ again ∷ z)
    → len ≡ again
lengths_equal size len again z p =
    let v = begins_variable size p.frame _ p.line.fits p.line.spelled in
    let whole : len ∷ again ∷ (z ++ p.rest) ≡ length v.octets ∷ length v.octets ∷ 0x68
    ∷ checked v.octets = v.whole in
    cc

pub second_start : (size : LinkSize) (len again start : ℕ) (z : List ℕ)
    → IsBeginning size (0x68 ∷ len ∷ again ∷ start ∷ z) → start ≡ 0x68
second_start size len again start z p =
    let v = begins_variable size p.frame _ p.line.fits p.line.spelled in
    let whole : len ∷ again ∷ start ∷ (z ++ p.rest) ≡ length v.octets ∷ length v.octets ∷ 0x68
    ∷ checked v.octets =
    v.whole in
    cc

pub part_variable : (size : LinkSize) (len : ℕ) (y : List ℕ) → IsBeginning size (header len ++ y)
    → IsPart len y
part_variable size len y p =
    let v = begins_variable size p.frame _ p.line.fits p.line.spelled in
    let whole : len ∷ len ∷ 0x68 ∷ (y ++ p.rest) ≡ length v.octets ∷ length v.octets ∷ 0x68
    ∷ checked v.octets =
    v.whole in
    let len_is : length v.octets ≡ len = cc in
    let tails : y ++ p.rest ≡ checked v.octets = cc in
    subst (λ (n : ℕ). IsPart n y) len_is (IsPart-front v.octets y p.rest tails)
