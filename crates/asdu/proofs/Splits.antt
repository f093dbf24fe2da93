-- Objects that are left, cut in two.
use Rattle.std.proofs.Common.{◌≡◌, ℕ, zero, suc, ◌+◌, ◌-◌, ◌*◌, ◌≤◌, List, ◌∷◌, length, take, drop}
use Rattle.std.proofs.Common.{Option, Some, None, refl, sym, ap, ◌∙◌, arith, length-drop}
use Rattle.std.proofs.lemmas.List.{drop-drop, take_all}
use Rattle.byteorder.specs.Endian.{little_number}
use Rattle.elements.specs.declared.types.TypeId.{TypeId}
use Rattle.asdu.specs.Asdu.{content_len}
use Rattle.asdu.specs.Fields.{info_at, each_located, successive}
use Rattle.asdu.specs.Rest.{rest_at, rest_len, address_after}

take-each_located : (t : TypeId) (w k n : ℕ) (xs : List ℕ) → k ≤ n
    → take k (each_located t w n xs) ≡ each_located t w k xs
take-each_located t w zero n xs h = refl
take-each_located t w (suc k) zero xs h = absurd (omega arith)
take-each_located t w (suc k) (suc n) xs h =
    ap (λ is. info_at t (little_number w xs) (drop w xs) ∷ is)
    (take-each_located t w k n (drop (w + content_len t) xs) (omega arith))

take-successive : (t : TypeId) (a k n : ℕ) (xs : List ℕ) → k ≤ n → take k (successive t a n xs)
    ≡ successive t a k xs
take-successive t a zero n xs h = refl
take-successive t a (suc k) zero xs h = absurd (omega arith)
take-successive t a (suc k) (suc n) xs h =
    ap (λ is. info_at t a xs ∷ is) (take-successive t (suc a) k n (drop (content_len t) xs)
    (omega arith))

drop-each_located : (t : TypeId) (w k n : ℕ) (xs : List ℕ) → k ≤ n
    → drop k (each_located t w n xs) ≡ each_located t w (n - k) (drop (k * (w + content_len t)) xs)
drop-each_located t w zero n xs h =
    let all : n - 0 ≡ n = omega arith in
    let none : 0 * (w + content_len t) ≡ 0 = omega arith in
    rw (all, none) refl
drop-each_located t w (suc k) zero xs h = absurd (omega arith)
drop-each_located t w (suc k) (suc n) xs h =
    let step = w + content_len t in
    let left : suc n - suc k ≡ n - k = omega arith in
    let far : suc k * step ≡ step + k * step = omega arith in
    drop-each_located t w k n (drop step xs) (omega arith)
    ∙ ap (each_located t w (n - k)) (drop-drop (k * step) step xs)
    ∙ rw (left, far) refl

drop-successive : (t : TypeId) (a k n : ℕ) (xs : List ℕ) → k ≤ n
    → drop k (successive t a n xs) ≡ successive t (a + k) (n - k) (drop (k * content_len t) xs)
drop-successive t a zero n xs h =
    let all : n - 0 ≡ n = omega arith in
    let none : 0 * content_len t ≡ 0 = omega arith in
    let same : a + 0 ≡ a = omega arith in
    rw (all, none, same) refl
drop-successive t a (suc k) zero xs h = absurd (omega arith)
drop-successive t a (suc k) (suc n) xs h =
    let step = content_len t in
    let left : suc n - suc k ≡ n - k = omega arith in
    let far : suc k * step ≡ step + k * step = omega arith in
    let next : suc a + k ≡ a + suc k = omega arith in
    drop-successive t (suc a) k n (drop step xs) (omega arith)
    ∙ ap (successive t (suc a + k) (n - k)) (drop-drop (k * step) step xs)
    ∙ rw (left, far, next) refl

pub take-rest_at : (t : TypeId) (w : ℕ) (o : Option ℕ) (k n : ℕ) (xs : List ℕ) → k ≤ n
    → take k (rest_at t w o n xs) ≡ rest_at t w o k xs
take-rest_at t w None k n xs h = take-each_located t w k n xs h
take-rest_at t w (Some a) k n xs h = take-successive t a k n xs h

pub drop-rest_at : (t : TypeId) (w : ℕ) (o : Option ℕ) (k n : ℕ) (xs : List ℕ) → k ≤ n
    → drop k (rest_at t w o n xs)
    ≡ rest_at t w (address_after k o) (n - k) (drop (rest_len t w o k) xs)
drop-rest_at t w None k n xs h = drop-each_located t w k n xs h
drop-rest_at t w (Some a) k n xs h = drop-successive t a k n xs h

-- the same, in the words of the code
pub others_left : (t : TypeId) (w : ℕ) (o p : Option ℕ) (k m n : ℕ) (xs ys : List ℕ) → k ≤ n
    → p ≡ address_after k o
    → m ≡ rest_len t w o k → ys ≡ take (length xs - m) (drop m xs)
    → rest_at t w p (n - k) ys ≡ drop k (rest_at t w o n xs)
others_left t w o p k m n xs ys h e1 e2 e3 =
    let whole : ys ≡ drop m xs = e3
    ∙ take_all (length xs - m) (drop m xs) (omega (arith, length-drop m xs)) in
    rw (e1, whole, e2) (sym (drop-rest_at t w o k n xs h))
