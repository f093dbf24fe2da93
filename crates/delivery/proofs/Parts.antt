-- Lists of which parts are beginnings.
use Rattle.std.proofs.Common.{◌≡◌, ℕ, zero, suc, ◌+◌, ◌≤◌, List, [], ◌∷◌, ◌++◌, inl, inr}
use Rattle.std.proofs.Common.{length, take, drop, refl, sym, ap, subst, ◌∙◌, append_assoc}
use Rattle.std.proofs.Common.{length-append, arith}
use Rattle.std.proofs.lemmas.Bool.{cases_lt}
use Rattle.std.proofs.lemmas.Grind.{flat_map-append}
use Rattle.std.proofs.lemmas.List.{append-nil, length-take-le, take-append-drop, take-append-le}
use Rattle.std.proofs.Math.ListN.{drop_of_length-le}
use Rattle.std.proofs.Math.Seq.{take-add}
use Rattle.std.specs.List.{flat_map}

-- the second begins with the first
pub record IsPart {A : Type 0} (part whole : List A) : Type 0 where
  pub more : List A
  pub is : whole ≡ part ++ more

-- a part of what a list begins with is what it begins with
pub part_begins : {A : Type 0} (xs ys zs : List A) → xs ++ ys ≡ take (length (xs ++ ys)) zs
    → xs ≡ take (length xs) zs
part_begins {A} [] ys zs h = refl
part_begins {A} (x ∷ xs) ys [] h = absurd (nothing h)
  where
    nothing : {l : List A} → x ∷ l ≡ [] → ⊥
    nothing e = cc
part_begins {A} (x ∷ xs) ys (z ∷ zs) h =
    let first : x ≡ z = cc in
    let rest : xs ++ ys ≡ take (length (xs ++ ys)) zs = cc in
    ap (λ (a : A). a ∷ xs) first ∙ ap (λ (l : List A). z ∷ l) (part_begins xs ys zs rest)

take_again : {A : Type 0} (n : ℕ) (xs : List A) → take (length (take n xs)) xs ≡ take n xs
take_again {A} zero xs = refl
take_again {A} (suc n) [] = refl
take_again {A} (suc n) (x ∷ xs) = ap (λ (l : List A). x ∷ l) (take_again n xs)

take_less : {A : Type 0} (n m : ℕ) (xs : List A) → n ≤ m → take n (take m xs) ≡ take n xs
take_less {A} zero m xs h = refl
take_less {A} (suc n) zero xs h = absurd (omega (arith, h))
take_less {A} (suc n) (suc m) [] h = refl
take_less {A} (suc n) (suc m) (x ∷ xs) h =
    ap (λ (l : List A). x ∷ l) (take_less n m xs (omega (arith, h)))

-- Elements are put at a place, and what stood there gives way. If all were a beginning, and so are
-- those from the place on, all are one.

module _ {A : Type 0} (n : ℕ) (xs old all : List A) (within : n ≤ length old) (was : old
    ≡ take (length old) all) (run : xs ≡ take (length xs) (drop n all)) where
  kept : take n old ≡ take n all
  kept = ap (λ (l : List A). take n l) was ∙ take_less n (length old) all within

  front : take n old ++ xs ≡ take (n + length xs) all
  front = ap (λ (l : List A). l ++ xs) kept ∙ ap (λ (l : List A). take n all ++ l) run
      ∙ sym (take-add n (length xs) all)

  pub put_run : take n old ++ (xs ++ drop (n + length xs) old)
      ≡ take (length (take n old ++ (xs ++ drop (n + length xs) old))) all
  put_run = elim (cases_lt (length old) (n + length xs)) [
    | inl less ↦ so (grown (omega (arith, less)))
    | inr most ↦ subst (λ (l : List A). l ≡ take (length l) all) (sym (same most)) was
  ]
    where
      grown : length old ≤ n + length xs → take n old ++ (xs ++ drop (n + length xs) old)
          ≡ take (n + length xs) all
      grown le = sym (append_assoc (take n old) xs (drop (n + length xs) old))
          ∙ ap (λ (l : List A). (take n old ++ xs) ++ l) (drop_of_length-le old le)
          ∙ append-nil (take n old ++ xs) ∙ front

      same : n + length xs ≤ length old → take n old ++ (xs ++ drop (n + length xs) old) ≡ old
      same le = sym (append_assoc (take n old) xs (drop (n + length xs) old))
          ∙ ap (λ (l : List A). l ++ drop (n + length xs) old) (front
          ∙ sym (take_less (n + length xs) (length old) all le)
          ∙ ap (λ (l : List A). take (n + length xs) l) (sym was))
          ∙ take-append-drop (n + length xs) old

      so : take n old ++ (xs ++ drop (n + length xs) old) ≡ take (n + length xs) all
          → take n old ++ (xs ++ drop (n + length xs) old)
          ≡ take (length (take n old ++ (xs ++ drop (n + length xs) old))) all
      so e = e ∙ sym (take_again (n + length xs) all)
          ∙ ap (λ (l : List A). take (length l) all) (sym e)

  pub put_length : n + length xs ≤ length (take n old ++ (xs ++ drop (n + length xs) old))
  put_length = omega (
    arith,
    length-append (take n old) (xs ++ drop (n + length xs) old),
    length-append xs (drop (n + length xs) old),
    length-take-le n old within,
  )

-- what a beginning of a part gives is no more than what the part gives
pub fewer : {A B : Type 0} (f : A → List B) (count : ℕ) (part more : List A) → count ≤ length part
    → length (flat_map f (take count (part ++ more))) ≤ length (flat_map f part)
fewer {A} {B} f count part more le =
    let e : flat_map f (take count (part ++ more)) ≡ flat_map f (take count part) =
    ap (λ (l : List A). flat_map f l) (take-append-le count part more le) in
    let whole : flat_map f (take count part) ++ flat_map f (drop count part) ≡ flat_map f part =
    sym (flat_map-append f (take count part) (drop count part))
    ∙ ap (λ (l : List A). flat_map f l) (take-append-drop count part) in
    omega (
      arith,
      ap (λ (l : List B). length l) e,
      ap (λ (l : List B). length l) whole,
      length-append (flat_map f (take count part)) (flat_map f (drop count part)),
    )
