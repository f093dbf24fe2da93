-- What each octet gives, and what a piece gives with it.
use Rattle.std.proofs.Common.{◌≡◌, ℕ, ◌+◌, ◌-◌, ◌^◌, min, ◌%◌, ◌<◌, ◌≤◌, List, [], ◌∷◌, ◌++◌}
use Rattle.std.proofs.Common.{length, get_or, take, drop, sum, All, true, sym, ap, subst, ◌∙◌}
use Rattle.std.proofs.Common.{append_assoc, arith, inl, inr}
use Rattle.std.proofs.lemmas.Bool.{cases_lt}
use Rattle.std.proofs.lemmas.List.{take_at, take_all, nil_from_length, get_or_at, get_or_push}
use Rattle.std.proofs.lemmas.List.{length-append, length_push, length-take-le, take-append-le}
use Rattle.std.proofs.lemmas.List.{take-append-drop}
use Rattle.std.proofs.lemmas.List.Elements.{All-append, All-cons, All-nil, All-push}
use Rattle.ft12.specs.declared.frame.LinkSize.{LinkSize}
use Rattle.ft12.specs.declared.frame.Frame.{Frame}
use Rattle.ft12.specs.declared.frame.Frame.TheVariants as frame
use Rattle.ft12.specs.declared.frame.Why.{Why}
use Rattle.ft12.specs.declared.frame.Why.TheVariants as why
use Rattle.ft12.specs.declared.frame.Front.TheVariants as front
use Rattle.ft12.specs.declared.reading.Tail.TheVariants.{Incomplete, WrongSum, WrongEnd}
use Rattle.ft12.specs.declared.stage.FrameKind.{FrameKind}
use Rattle.ft12.specs.declared.stage.FrameKind.TheVariants.{Fixed, Variable}
use Rattle.ft12.specs.declared.stage.FixedFields.{FixedFields}
use Rattle.ft12.specs.declared.stage.FixedFields.TheVariants as fields
use Rattle.ft12.specs.declared.stage.Summed.{Summed}
use Rattle.ft12.specs.declared.stage.DueOctet.{DueOctet}
use Rattle.ft12.specs.declared.stage.DueOctet.TheVariants as stage
use Rattle.ft12.specs.Spelling.{header, user, checked, IsOctet, FitsAddress, IsLineFrame}
use Rattle.ft12.specs.Reading.{IsProperBeginning, IsBeginning, IsFront}
use Rattle.ft12.specs.Tail.{IsTail}
use Rattle.ft12.specs.DueOctet.{fields_octets, IsFields, head, IsLen, IsSummed, summed_octets}
use Rattle.ft12.specs.DueOctet.{IsStage}
use Rattle.ft12.specs.DueOctet.{so_far, is_end}
use Rattle.ft12.specs.Assembly.{IsEndDue}
use Rattle.ft12.proofs.Beginnings.{proper_nil, beginning_from_proper, beginning_front}
use Rattle.ft12.proofs.Frames.{length-user, user_fits}
use Rattle.ft12.proofs.Returns.{header_1, header_2, header_3, fixed_more, fixed_sum, fixed_end}
use Rattle.ft12.proofs.Returns.{variable_more, variable_sum, variable_end}

-- ---- octets, sum and end after what stands before the control octet

any_more : (size : LinkSize) (kind : FrameKind) (len : ℕ) (y : List ℕ) → IsLen size kind len
    → All IsOctet y
    → IsTail len y Incomplete → IsProperBeginning size (head kind len ++ y)
any_more size Fixed len y l fits t = fixed_more size len y l fits t
any_more size Variable len y l fits t = variable_more size len y l.1 l.0 fits t

any_sum : (size : LinkSize) (kind : FrameKind) (len : ℕ) (y : List ℕ) → IsLen size kind len
    → All IsOctet y
    → IsTail len y WrongSum →
    IsFront size (head kind len ++ y) (front.Never (length (head kind len) + len) why.Sum)
any_sum size Fixed len y l fits t = fixed_sum size len y l fits t
any_sum size Variable len y l fits t = variable_sum size len y l.1 l.0 fits t

any_end : (size : LinkSize) (kind : FrameKind) (len : ℕ) (y : List ℕ) → IsLen size kind len
    → All IsOctet y
    → IsTail len y WrongEnd →
    IsFront size (head kind len ++ y) (front.Never (length (head kind len) + len + 1) why.End)
any_end size Fixed len y l fits t =
    let place : 2 + len ≡ 1 + len + 1 = omega arith in
    subst (λ (p : ℕ). IsFront size (0x10 ∷ y) (front.Never p why.End)) place
    (fixed_end size len y l fits t)
any_end size Variable len y l fits t =
    let place : 5 + len ≡ 4 + len + 1 = omega arith in
    subst (λ (p : ℕ). IsFront size (header len ++ y) (front.Never p why.End)) place
    (variable_end size len y l.1 l.0 fits t)

-- fewer octets than the length, or as many
pub user_more : (size : LinkSize) (kind : FrameKind) (len : ℕ) (u : List ℕ) → IsLen size kind len
    → All IsOctet u
    → length u ≤ len → IsProperBeginning size (head kind len ++ u)
user_more size kind len u l fits short =
    any_more size kind len u l fits (omega arith, λ lt. absurd (omega arith))

-- the octets and one more
at_sum : (u : List ℕ) (len o : ℕ) → length u ≡ len → (get_or (u ++ o ∷ []) len 0 ≡ o)
    × (take len (u ++ o ∷ []) ≡ u)
    × (length (u ++ o ∷ []) ≡ len + 1)
at_sum u len o e = (
  get_or_push u o 0 len e,
  take_at u (o ∷ []) len e,
  length_push u o
      ∙ ap (λ (n : ℕ). n + 1) e,
)

-- the octets, their sum and one more
pub record AtEnd (u : List ℕ) (len total o : ℕ) : Type 0 where
  pub sum_at : get_or (u ++ total ∷ o ∷ []) len 0 ≡ total
  pub end_at : get_or (u ++ total ∷ o ∷ []) (len + 1) 0 ≡ o
  pub front : take len (u ++ total ∷ o ∷ []) ≡ u
  pub long : length (u ++ total ∷ o ∷ []) ≡ len + 2

at_end : (u : List ℕ) (len total o : ℕ) → length u ≡ len → AtEnd u len total o
at_end u len total o e = record {
  sum_at = get_or_at u total (o ∷ []) 0 len e;
  end_at = ap (λ (l : List ℕ). get_or l (len + 1) 0) (sym (append_assoc u (total ∷ []) (o ∷ [])))
      ∙ get_or_push (u ++ total ∷ []) o 0 (len + 1) (length_push u total ∙ ap (λ (n : ℕ). n + 1) e);
  front = take_at u (total ∷ o ∷ []) len e;
  long = omega (arith, length-append u (total ∷ o ∷ []));
}

-- ---- after the octets that the sum is made of

octets_of : (size : LinkSize) (s : Summed) (kept : List ℕ) → IsSummed size s kept
    → All IsOctet (user size s.c s.a kept)
octets_of size s kept d = user_fits size s.c s.a kept d.fits d.octets

sum_fits : (size : LinkSize) (s : Summed) (kept : List ℕ) → IsSummed size s kept → s.sum < 256
sum_fits size s kept d = omega (arith, d.sum_is)

right_more : (size : LinkSize) (s : Summed) (kept : List ℕ) → IsSummed size s kept
    → IsProperBeginning size (head s.kind s.len ++ (user size s.c s.a kept ++ s.sum ∷ []))
right_more size s kept d =
    let u : List ℕ = user size s.c s.a kept in
    let at = at_sum u s.len s.sum d.all in
    any_more size s.kind s.len (u ++ s.sum ∷ []) d.len_fits
    (All-push IsOctet u s.sum (octets_of size s kept d) (sum_fits size s kept d))
    (omega (arith, at.2), λ lt. at.0 ∙ d.sum_is ∙ ap (λ (l : List ℕ). sum l % 256) (sym at.1))

pub sum_right : (size : LinkSize) (s : Summed) (kept : List ℕ) → IsSummed size s kept
    → IsProperBeginning size (summed_octets size s kept ++ s.sum ∷ [])
sum_right size s kept d = subst (IsProperBeginning size)
    (sym (append_assoc (head s.kind s.len) (user size s.c s.a kept) (s.sum ∷ [])))
    (right_more size s kept d)

pub sum_wrong : (size : LinkSize) (s : Summed) (kept : List ℕ) (o : ℕ) → IsSummed size s kept
    → o < 256
    → (o ≡ s.sum → ⊥) →
    IsFront size (summed_octets size s kept ++ o ∷ [])
    (front.Never (length (head s.kind s.len) + s.len) why.Sum)
sum_wrong size s kept o d octet apart =
    let u : List ℕ = user size s.c s.a kept in
    let at = at_sum u s.len o d.all in
    subst
    (λ (l : List ℕ). IsFront size l (front.Never (length (head s.kind s.len) + s.len) why.Sum))
    (sym (append_assoc (head s.kind s.len) u (o ∷ [])))
    (any_sum size s.kind s.len (u ++ o ∷ []) d.len_fits
    (All-push IsOctet u o (octets_of size s kept d) octet) (
      omega (arith, at.2),
      λ e. apart (sym at.0 ∙ e ∙ ap (λ (l : List ℕ). sum l % 256) at.1
          ∙ sym d.sum_is),
    ))

joined : (h u : List ℕ) (s o : ℕ) → ((h ++ u) ++ s ∷ []) ++ o ∷ [] ≡ h ++ (u ++ s ∷ o ∷ [])
joined h u s o = append_assoc (h ++ u) (s ∷ []) (o ∷ []) ∙ append_assoc h u (s ∷ o ∷ [])

sum_at_end : (size : LinkSize) (s : Summed) (kept : List ℕ) (o : ℕ) → IsSummed size s kept →
    get_or (user size s.c s.a kept ++ s.sum ∷ o ∷ []) s.len 0
    ≡ sum (take s.len (user size s.c s.a kept ++ s.sum ∷ o ∷ [])) % 256
sum_at_end size s kept o d =
    let at = at_end (user size s.c s.a kept) s.len s.sum o d.all in
    at.sum_at ∙ d.sum_is ∙ ap (λ (l : List ℕ). sum l % 256) (sym at.front)

pub end_wrong : (size : LinkSize) (s : Summed) (kept : List ℕ) (o : ℕ) → IsSummed size s kept
    → o < 256
    → (o ≡ 0x16 → ⊥) →
    IsFront size ((summed_octets size s kept ++ s.sum ∷ []) ++ o ∷ [])
    (front.Never (length (head s.kind s.len) + s.len + 1) why.End)
end_wrong size s kept o d octet apart =
    let u : List ℕ = user size s.c s.a kept in
    let at = at_end u s.len s.sum o d.all in
    let fits : All IsOctet (u ++ s.sum ∷ o ∷ []) =
    All-append IsOctet u (s.sum ∷ o ∷ []) (octets_of size s kept d)
    (All-cons IsOctet s.sum (o ∷ []) (sum_fits size s kept d)
    (All-cons IsOctet o [] octet (All-nil IsOctet))) in
    subst
    (λ (l : List ℕ). IsFront size l (front.Never (length (head s.kind s.len) + s.len + 1) why.End))
    (sym (joined (head s.kind s.len) u s.sum o))
    (any_end size s.kind s.len (u ++ s.sum ∷ o ∷ []) d.len_fits fits (
      omega (arith, at.long),
      sum_at_end size s kept o d,
      λ e. apart (sym at.end_at ∙ e),
    ))

-- with the end octet they are a whole frame
whole_by : (size : LinkSize) (kind : FrameKind) (len c a total : ℕ) (kept : List ℕ)
    → IsLen size kind len
    → FitsAddress size c a → All IsOctet kept → length (user size c a kept) ≡ len
    → total ≡ sum (user size c a kept) % 256
    → (frame : Frame)
    × IsLineFrame size frame (((head kind len ++ user size c a kept) ++ total ∷ []) ++ 0x16 ∷ [])
whole_by size Fixed len c a total kept long fits octets all sum_is =
    let none : kept ≡ [] =
    nil_from_length kept (omega (arith, length-user size c a kept, all, long)) in (
      frame.Fixed c a,
      record {
        fits = fits;
        spelled =
            joined (0x10 ∷ []) (user size c a kept) total 0x16
            ∙ ap (λ (t : ℕ). 0x10 ∷ user size c a kept ++ t ∷ 0x16 ∷ []) sum_is
            ∙ ap (λ (k : List ℕ). 0x10 ∷ checked (user size c a k)) none;
      },
    )
whole_by size Variable len c a total kept long fits octets all sum_is = (
  frame.Data c a (record { items = kept }),
  record {
    fits = (fits, octets, omega (arith, all, long.1));
    spelled =
        joined (header len) (user size c a kept) total 0x16
        ∙ ap (λ (t : ℕ). header len ++ (user size c a kept ++ t ∷ 0x16 ∷ [])) sum_is
        ∙ ap (λ (n : ℕ). header n ++ checked (user size c a kept)) (sym all);
  },
)

pub end_due : (size : LinkSize) (s : DueOctet) (kept : List ℕ) → IsStage size s kept
    → is_end s ≡ true
    → IsEndDue size (so_far size s kept)
end_due size (stage.End s) kept h e =
    let x : List ℕ = summed_octets size s kept ++ s.sum ∷ [] in
    let whole = whole_by size s.kind s.len s.c s.a s.sum kept h.len_fits h.fits h.octets h.all
    h.sum_is in
    let long : length (x ++ 0x16 ∷ []) ≡ length x + 1 = length_push x 0x16 in (
      whole.0,
      (
        subst (IsLineFrame size whole.0)
            (sym (take_all (length x + 1) (x ++ 0x16 ∷ []) (omega (arith, long)))) whole.1,
        omega (arith, long),
      ),
    )
end_due size stage.Start kept h e = let bad : ⊥ = cc in absurd bad
end_due size stage.Length kept h e = let bad : ⊥ = cc in absurd bad
end_due size (stage.LengthAgain len) kept h e = let bad : ⊥ = cc in absurd bad
end_due size (stage.SecondStart len) kept h e = let bad : ⊥ = cc in absurd bad
end_due size (stage.User s) kept h e = let bad : ⊥ = cc in absurd bad
end_due size (stage.Sum s) kept h e = let bad : ⊥ = cc in absurd bad

-- ---- what is kept is the beginning of a frame

fields_fit : (size : LinkSize) (f : FixedFields) (kept : List ℕ) → IsFields size f kept
    → All IsOctet (fields_octets size f kept)
fields_fit size fields.Nothing kept h = All-nil IsOctet
fields_fit size (fields.Control c) kept h = All-cons IsOctet c [] h.0 (All-nil IsOctet)
fields_fit size (fields.LowAddress c low) kept h = All-cons IsOctet c (low ∷ []) h.1
    (All-cons IsOctet low [] h.2 (All-nil IsOctet))
fields_fit size (fields.Address c a) kept h = user_fits size c a kept h.0 h.1

pub stage_more : (size : LinkSize) (s : DueOctet) (kept : List ℕ) → IsStage size s kept
    → IsProperBeginning size (so_far size s kept)
stage_more size stage.Start kept h = proper_nil size
stage_more size stage.Length kept h = header_1 size
stage_more size (stage.LengthAgain len) kept h = header_2 size len h.0.1 h.0.0
stage_more size (stage.SecondStart len) kept h = header_3 size len h.0.1 h.0.0
stage_more size (stage.User s) kept h =
    user_more size s.kind s.len (fields_octets size s.fields kept) h.len_fits
    (fields_fit size s.fields kept h.fields_fit) (omega (arith, h.short))
stage_more size (stage.Sum s) kept h = user_more size s.kind s.len (user size s.c s.a kept)
    h.len_fits
    (octets_of size s kept h) (omega (arith, h.all))
stage_more size (stage.End s) kept h = sum_right size s kept h

-- octets that come to begin no frame do so at the last of them
pub refused_here : (size : LinkSize) (x : List ℕ) (o place : ℕ) (w : Why) → IsProperBeginning size x
    → IsFront size (x ++ o ∷ []) (front.Never place w) → place ≡ length x
refused_here size x o place w p r = elim (cases_lt place (length x)) [
  | inl lt ↦
      let whole : IsBeginning size (take (place + 1) x ++ drop (place + 1) x) =
      subst (IsBeginning size) (sym (take-append-drop (place + 1) x))
      (beginning_from_proper size x p) in
      absurd
      (r.0.here
      (subst (IsBeginning size) (sym (take-append-le (place + 1) x (o ∷ []) (omega arith)))
      (beginning_front size (take (place + 1) x) (drop (place + 1) x) whole)))
  | inr le ↦ omega (arith, r.0.within, length_push x o)
]

-- how many octets were looked at when one begins no frame
pub counted_refusal : (size : LinkSize) (before piece x : List ℕ) (i o place : ℕ) (w : Why)
    (initial looked new : ℕ)
    → x ≡ before ++ take i piece → i < length piece →
    IsProperBeginning size x → IsFront size (x ++ o ∷ []) (front.Never place w)
    → looked ≡ min (initial + i) (2 ^ 64 - 1) → new ≡ min (looked + 1) (2 ^ 64 - 1) →
    new ≡ min (initial + (place + 1 - length before)) (2 ^ 64 - 1)
counted_refusal size before piece x i o place w initial looked new joined lt p r so_far counted =
    let place_is : place ≡ length before + i = refused_here size x o place w p r
    ∙ omega (
      arith,
      ap length joined,
      length-append before (take i piece),
      length-take-le i piece (omega arith),
    ) in
    omega (arith, place_is, so_far, counted)
