-- Lists of which elements are struck out.
use Rattle.std.proofs.Common.{◌≡◌, ℕ, zero, suc, List, [], ◌∷◌, ◌++◌, inl, inr, map, take, refl, ap}
use Rattle.std.proofs.Common.{◌∙◌}
use Rattle.std.specs.List.{AllByRecursion}
use Rattle.delivery.specs.Merges.{IsSublist}

pub sub_skip : {A : Type 0} (xs ys : List A) (y : A) → IsSublist xs ys → IsSublist xs (y ∷ ys)
sub_skip {A} [] ys y h = tt
sub_skip {A} (x ∷ xs) ys y h = inr h

pub sub_all : {A : Type 0} (xs : List A) → IsSublist xs xs
sub_all {A} [] = tt
sub_all {A} (x ∷ xs) = inl (refl, sub_all xs)

pub sub_of_sub : {A : Type 0} (xs ys zs : List A) → IsSublist xs ys → IsSublist ys zs
    → IsSublist xs zs
sub_of_sub {A} [] ys zs h k = tt
sub_of_sub {A} (x ∷ xs) [] zs h k = absurd h
sub_of_sub {A} (x ∷ xs) (y ∷ ys) [] h k = absurd k
sub_of_sub {A} (x ∷ xs) (y ∷ ys) (z ∷ zs) h (inr k) = inr (sub_of_sub (x ∷ xs) (y ∷ ys) zs h k)
sub_of_sub {A} (x ∷ xs) (y ∷ ys) (z ∷ zs) (inl h) (inl k) =
    inl (h.0 ∙ k.0, sub_of_sub xs ys zs h.1 k.1)
sub_of_sub {A} (x ∷ xs) (y ∷ ys) (z ∷ zs) (inr h) (inl k) = inr (sub_of_sub (x ∷ xs) ys zs h k.1)

-- some elements more in front
pub sub_front : {A : Type 0} (front xs ys : List A) → IsSublist xs ys → IsSublist xs (front ++ ys)
sub_front {A} [] xs ys h = h
sub_front {A} (y ∷ front) xs ys h = sub_skip xs (front ++ ys) y (sub_front front xs ys h)

pub sub_append : {A : Type 0} (ws bs cs ds : List A) → IsSublist ws bs → IsSublist cs ds
    → IsSublist (ws ++ cs) (bs ++ ds)
sub_append {A} [] bs cs ds h k = sub_front bs cs ds k
sub_append {A} (x ∷ ws) [] cs ds h k = absurd h
sub_append {A} (x ∷ ws) (b ∷ bs) cs ds (inl h) k = inl (h.0, sub_append ws bs cs ds h.1 k)
sub_append {A} (x ∷ ws) (b ∷ bs) cs ds (inr h) k = inr (sub_append (x ∷ ws) bs cs ds h k)

pub sub_take : {A : Type 0} (n : ℕ) (xs : List A) → IsSublist (take n xs) xs
sub_take {A} zero xs = tt
sub_take {A} (suc n) [] = tt
sub_take {A} (suc n) (x ∷ xs) = inl (refl, sub_take n xs)

pub sub_prefix : {A : Type 0} (xs more : List A) → IsSublist xs (xs ++ more)
sub_prefix {A} [] more = tt
sub_prefix {A} (x ∷ xs) more = inl (refl, sub_prefix xs more)

pub all_of_sub : {A : Type 0} (P : A → Type 0) (xs ys : List A) → IsSublist xs ys
    → AllByRecursion P ys
    → AllByRecursion P xs
all_of_sub {A} P [] ys h k = tt
all_of_sub {A} P (x ∷ xs) [] h k = absurd h
all_of_sub {A} P (x ∷ xs) (y ∷ ys) (inl h) k = (subst_back h.0 k.0, all_of_sub P xs ys h.1 k.1)
  where
    subst_back : x ≡ y → P y → P x
    subst_back e p = rw e p
all_of_sub {A} P (x ∷ xs) (y ∷ ys) (inr h) k = all_of_sub P (x ∷ xs) ys h k.1

-- what is left of images are images of what is left
pub record IsImage {A B : Type 0} (f : A → B) (xs : List B) (ys : List A) : Type 0 where
  pub left : List A
  pub part : IsSublist left ys
  pub is : xs ≡ map f left

pub sub_of_map : {A B : Type 0} (f : A → B) (xs : List B) (ys : List A) → IsSublist xs (map f ys)
    → IsImage f xs ys
sub_of_map {A} {B} f [] ys h = record { left = []; part = tt; is = refl }
sub_of_map {A} {B} f (x ∷ xs) [] h = absurd h
sub_of_map {A} {B} f (x ∷ xs) (y ∷ ys) (inl h) =
    let rest : IsImage f xs ys = sub_of_map f xs ys h.1 in
    record {
      left = y ∷ rest.left;
      part = inl (refl, rest.part);
      is = ap (λ (b : B). b ∷ xs) h.0
          ∙ ap (λ (l : List B). f y ∷ l) rest.is;
    }
sub_of_map {A} {B} f (x ∷ xs) (y ∷ ys) (inr h) =
    let rest : IsImage f (x ∷ xs) ys = sub_of_map f (x ∷ xs) ys h in
    record { left = rest.left; part = sub_skip rest.left ys y rest.part; is = rest.is }

pub all_append : {X : Type 0} (P : X → Type 0) (xs ys : List X) → AllByRecursion P xs
    → AllByRecursion P ys
    → AllByRecursion P (xs ++ ys)
all_append {X} P [] ys h k = k
all_append {X} P (x ∷ xs) ys h k = (h.0, all_append P xs ys h.1 k)
