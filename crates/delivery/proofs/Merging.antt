-- The objects of reports, each tagged by its report's station, are a merge of the stations'
-- objects.
use Rattle.std.specs.Prelude.{◌==◌}
use Rattle.std.proofs.Common.{◌≡◌, ℕ, ◌<◌, Bool, true, false, List, [], ◌∷◌, ◌++◌, map, refl, ap}
use Rattle.std.proofs.Common.{◌∙◌, if◌then◌else◌}
use Rattle.std.specs.List.{flat_map, AllByRecursion}
use Rattle.std.proofs.lemmas.List.{map-append}
use Rattle.delivery.specs.Merges.{values_of, IsMerge}

-- the elements that a function makes of each value, with the value's number
abbrev tagged : {A B : Type 0} (f : A → List B) → List (ℕ × A) → List (ℕ × B)
tagged {A} {B} f [] = []
tagged {A} {B} f (x ∷ xs) = map (λ (y : B). (x.0, y)) (f x.1) ++ tagged f xs

untag : {B : Type 0} (i : ℕ) (ys : List B) → map (λ (x : ℕ × B). x.1) (map (λ (y : B). (i, y)) ys)
    ≡ ys
untag {B} i [] = refl
untag {B} i (y ∷ ys) = ap (λ (l : List B). y ∷ l) (untag i ys)

untagged : {A B : Type 0} (f : A → List B) (xs : List (ℕ × A))
    → map (λ (x : ℕ × B). x.1) (tagged f xs) ≡ flat_map (λ (x : ℕ × A). f x.1) xs
untagged {A} {B} f [] = refl
untagged {A} {B} f (x ∷ xs) =
    map-append (λ (x : ℕ × B). x.1) (map (λ (y : B). (x.0, y)) (f x.1)) (tagged f xs)
    ∙ ap (λ (l : List B). l ++ map (λ (x : ℕ × B). x.1) (tagged f xs)) (untag x.0 (f x.1))
    ∙ ap (λ (l : List B). f x.1 ++ l) (untagged f xs)

values_of-tags : {B : Type 0} (i j : ℕ) (ys : List B) (rest : List (ℕ × B)) →
    values_of i (map (λ (y : B). (j, y)) ys ++ rest) ≡ (if j == i then ys ++ values_of i rest
    else values_of i rest)
values_of-tags {B} i j [] rest = same (j == i)
  where
    same : (b : Bool) → values_of i rest ≡ (if b then values_of i rest else values_of i rest)
    same true = refl
    same false = refl
values_of-tags {B} i j (y ∷ ys) rest = go (j == i) (values_of-tags i j ys rest)
  where
    go : (b : Bool) → values_of i (map (λ (y : B). (j, y)) ys ++ rest)
        ≡ (if b then ys ++ values_of i rest else values_of i rest) →
        (if b then y ∷ values_of i (map (λ (y : B). (j, y)) ys ++ rest)
        else values_of i (map (λ (y : B). (j, y)) ys
        ++ rest))
        ≡ (if b then y ∷ (ys ++ values_of i rest) else values_of i rest)
    go true ih = ap (λ (l : List B). y ∷ l) ih
    go false ih = ih

values_tagged : {A B : Type 0} (f : A → List B) (i : ℕ) (xs : List (ℕ × A))
    → values_of i (tagged f xs) ≡ flat_map f (values_of i xs)
values_tagged {A} {B} f i [] = refl
values_tagged {A} {B} f i (x ∷ xs) = values_of-tags i x.0 (f x.1) (tagged f xs)
    ∙ go (x.0 == i) (values_tagged f i xs)
  where
    go : (b : Bool) → values_of i (tagged f xs) ≡ flat_map f (values_of i xs)
        → (if b then f x.1 ++ values_of i (tagged f xs) else values_of i (tagged f xs))
        ≡ flat_map f (if b then x.1 ∷ values_of i xs else values_of i xs)
    go true ih = ap (λ (l : List B). f x.1 ++ l) ih
    go false ih = ih

all_append : {X : Type 0} (P : X → Type 0) (xs ys : List X) → AllByRecursion P xs
    → AllByRecursion P ys
    → AllByRecursion P (xs ++ ys)
all_append {X} P [] ys h k = k
all_append {X} P (x ∷ xs) ys h k = (h.0, all_append P xs ys h.1 k)

owned_tags : {B : Type 0} (n j : ℕ) (ys : List B) → j < n
    → AllByRecursion (λ (x : ℕ × B). x.0 < n) (map (λ (y : B). (j, y)) ys)
owned_tags {B} n j [] h = tt
owned_tags {B} n j (y ∷ ys) h = (h, owned_tags n j ys h)

owned_tagged : {A B : Type 0} (f : A → List B) (n : ℕ) (xs : List (ℕ × A))
    → AllByRecursion (λ (x : ℕ × A). x.0 < n) xs
    → AllByRecursion (λ (x : ℕ × B). x.0 < n) (tagged f xs)
owned_tagged {A} {B} f n [] h = tt
owned_tagged {A} {B} f n (x ∷ xs) h =
    all_append (λ (x : ℕ × B). x.0 < n) (map (λ (y : B). (x.0, y)) (f x.1)) (tagged f xs)
    (owned_tags n x.0 (f x.1) h.0) (owned_tagged f n xs h.1)

pub merged_by : {A B : Type 0} (f : A → List B) (n : ℕ) (xs : List (ℕ × A))
    → AllByRecursion (λ (x : ℕ × A). x.0 < n) xs →
    IsMerge n (λ i. flat_map f (values_of i xs)) (flat_map (λ (x : ℕ × A). f x.1) xs)
merged_by {A} {B} f n xs h = record {
  owned = tagged f xs;
  all = untagged f xs;
  owners = owned_tagged f n xs h;
  each = λ i. values_tagged f i xs;
}
