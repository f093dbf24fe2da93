-- Lists in chunks, and how many there are.
use Rattle.std.proofs.Common.{◌≡◌, ℕ, zero, suc, ◌+◌, ◌-◌, ◌*◌, ◌<◌, ◌≤◌, List, [], ◌∷◌, ◌++◌}
use Rattle.std.proofs.Common.{length, take, drop, map, refl, sym, ap, ◌∙◌, arith, length-drop}
use Rattle.std.specs.List.{flat_map, AllByRecursion}
use Rattle.std.specs.Int.{div_ceil}
use Rattle.std.proofs.lemmas.Grind.{div_ceil_times}
use Rattle.std.proofs.lemmas.List.{map-append, take-append-drop}
use Rattle.asdu.specs.Translation.{chunks, in_chunks}
use Rattle.asdu.proofs.Counts.{div_ceil-is}

-- ---- How many

one_more : (k m n : ℕ) → 1 ≤ n → k * m < n - m + m → suc k * m < n + m
one_more zero m n more h = omega arith
one_more (suc k) m n more h = omega arith

div_ceil-step : (n m : ℕ) → 1 ≤ m → 1 ≤ n → div_ceil n m ≡ suc (div_ceil (n - m) m)
div_ceil-step n m some more =
    let there = div_ceil_times (n - m) m some in
    let k = div_ceil (n - m) m in
    let low : n - m ≤ k * m = there.0 in
    sym (div_ceil-is (suc k) m n some (omega arith) (one_more k m n more there.1))

div_ceil-zero : (m : ℕ) → 1 ≤ m → div_ceil 0 m ≡ 0
div_ceil-zero m some = sym (div_ceil-is 0 m 0 some (omega arith) (omega arith))

-- three times as many are three chunks at most
pub div_ceil-three : (n m : ℕ) → 1 ≤ m → n ≤ 3 * m → div_ceil n m ≤ 3
div_ceil-three n m some h = few (div_ceil n m) m n (div_ceil_times n m some).1 h
  where
    few : (k m n : ℕ) → k * m < n + m → n ≤ 3 * m → k ≤ 3
    few zero m n below h = omega arith
    few (suc zero) m n below h = omega arith
    few (suc (suc zero)) m n below h = omega arith
    few (suc (suc (suc zero))) m n below h = omega arith
    few (suc (suc (suc (suc k)))) m n below h = absurd (omega arith)

-- so many chunks of m are those of n items
pub record AreEnough (m k n : ℕ) : Type 0 where
  pub enough : n ≤ k * m
  pub tight : k * m < n + m

pub enough : (m n : ℕ) → 1 ≤ m → AreEnough m (div_ceil n m) n
enough m n some = let there = div_ceil_times n m some in
    record { enough = there.0; tight = there.1 }

pub enough-some : (m k n : ℕ) → AreEnough m (suc k) n → 1 ≤ n
enough-some m k n h = let tight = h.tight in omega arith

pub enough-drop : {X : Type 0} (m k : ℕ) (xs : List X) → AreEnough m (suc k) (length xs)
    → AreEnough m k (length (drop m xs))
enough-drop m k xs h =
    let fewer = length-drop m xs in
    let low = h.enough in
    let high = h.tight in
    record { enough = omega arith; tight = omega arith }

-- ---- The chunks

module _ {X : Type 0} where
  pub in_chunks-step : (m : ℕ) (xs : List X) → 1 ≤ m → 1 ≤ length xs
      → in_chunks m xs ≡ take m xs ∷ in_chunks m (drop m xs)
  in_chunks-step m xs some more =
      ap (λ k. chunks m k xs) (div_ceil-step (length xs) m some more)
      ∙ ap (λ n. take m xs ∷ chunks m (div_ceil n m) (drop m xs)) (sym (length-drop m xs))

  pub in_chunks-none : (m : ℕ) (xs : List X) → 1 ≤ m → length xs ≡ 0 → in_chunks m xs ≡ []
  in_chunks-none m xs some none =
      ap (λ k. chunks m k xs) (ap (λ n. div_ceil n m) none ∙ div_ceil-zero m some)

  pub length-chunks : (m k : ℕ) (xs : List X) → length (chunks m k xs) ≡ k
  length-chunks m zero xs = refl
  length-chunks m (suc k) xs = ap (λ n. suc n) (length-chunks m k (drop m xs))

  -- chunks joined are the list
  pub chunks-joined : {Y : Type 0} (f : X → Y) (m k : ℕ) (xs : List X) → AreEnough m k (length xs)
      → flat_map (λ ys. map f ys) (chunks m k xs) ≡ map f xs
  chunks-joined f m zero [] h = refl
  chunks-joined f m zero (x ∷ xs) h = absurd (let low = h.enough in omega arith)
  chunks-joined f m (suc k) xs h =
      ap (λ ys. map f (take m xs) ++ ys) (chunks-joined f m k (drop m xs) (enough-drop m k xs h))
      ∙ sym (map-append f (take m xs) (drop m xs)) ∙ ap (map f) (take-append-drop m xs)

  pub All-take : (P : X → Type 0) (m : ℕ) (xs : List X) → AllByRecursion P xs
      → AllByRecursion P (take m xs)
  All-take P zero xs h = tt
  All-take P (suc m) [] h = tt
  All-take P (suc m) (x ∷ xs) h = (h.0, All-take P m xs h.1)

  pub All-drop : (P : X → Type 0) (m : ℕ) (xs : List X) → AllByRecursion P xs
      → AllByRecursion P (drop m xs)
  All-drop P zero xs h = h
  All-drop P (suc m) [] h = tt
  All-drop P (suc m) (x ∷ xs) h = All-drop P m xs h.1
