-- The octets of objects, as they stand and as they are written.
use Rattle.std.proofs.Common.{◌≡◌, ℕ, zero, suc, ◌+◌, ◌-◌, ◌*◌, ◌≤◌, true, false, List, ◌++◌}
use Rattle.std.proofs.Common.{length, take, drop, Option, Some, None, refl, sym, ap, subst, ◌∙◌}
use Rattle.std.proofs.Common.{arith, append_assoc, length-append, length-drop}
use Rattle.std.specs.Prelude.{is_some}
use Rattle.std.proofs.lemmas.List.{length-take-le}
use Rattle.std.proofs.Math.Seq.{take-add}
use Rattle.byteorder.specs.Endian.{little_bytes, little_number}
use Rattle.byteorder.specs.Numbers.{length-bytes_low_first}
use Rattle.elements.specs.declared.types.TypeId.{TypeId}
use Rattle.elements.specs.Octets.{AreOctets}
use Rattle.asdu.specs.Asdu.{content_len}
use Rattle.asdu.specs.Fields.{each_located, successive}
use Rattle.asdu.specs.Rest.{rest_at, rest_len}
use Rattle.asdu.specs.Writing.{spelled_infos}
use Rattle.asdu.proofs.ObjectLists.{AreOctets-drop, content-info_at, located-info_at}

-- ---- Objects whose octets stay

located_text : (t : TypeId) (w n : ℕ) (xs : List ℕ) → n * (w + content_len t) ≤ length xs
    → AreOctets xs
    → spelled_infos w false (each_located t w n xs) ≡ take (n * (w + content_len t)) xs
located_text t w zero xs long all =
    let none : 0 * (w + content_len t) ≡ 0 = omega arith in
    sym (ap (λ n. take n xs) none)
located_text t w (suc n) xs long all =
    let step = w + content_len t in
    let far : step + n * step ≡ suc n * step = omega arith in
    let first = located-info_at t w xs (omega arith) all in
    let others = located_text t w n (drop step xs) (omega (arith, length-drop step xs))
    (AreOctets-drop step xs all) in
    ap (λ ys. ys ++ spelled_infos w false (each_located t w n (drop step xs))) first
    ∙ ap (λ ys. take step xs ++ ys) others ∙ sym (take-add step (n * step) xs)
    ∙ ap (λ k. take k xs) far

counted_text : (t : TypeId) (k a n : ℕ) (xs : List ℕ)
    → spelled_infos k true (successive t a n xs) ≡ take (n * content_len t) xs
counted_text t k a zero xs =
    let none : 0 * content_len t ≡ 0 = omega arith in
    sym (ap (λ n. take n xs) none)
counted_text t k a (suc n) xs =
    let step = content_len t in
    let far : step + n * step ≡ suc n * step = omega arith in
    ap (λ ys. ys ++ spelled_infos k true (successive t (suc a) n (drop step xs)))
    (content-info_at t a xs)
    ∙ ap (λ ys. take step xs ++ ys) (counted_text t k (suc a) n (drop step xs))
    ∙ sym (take-add step (n * step) xs) ∙ ap (λ j. take j xs) far

pub text_counted : (t : TypeId) (k w : ℕ) (o : Option ℕ) (n : ℕ) (xs : List ℕ) → is_some o ≡ true
    → spelled_infos k (is_some o) (rest_at t w o n xs) ≡ take (rest_len t w o n) xs
text_counted t k w None n xs counted = cc
text_counted t k w (Some a) n xs counted = counted_text t k a n xs

pub text_kept : (t : TypeId) (k w : ℕ) (o : Option ℕ) (n : ℕ) (xs : List ℕ) → w ≡ k → o ≡ None
    → rest_len t w o n ≤ length xs → AreOctets xs
    → spelled_infos k false (rest_at t w o n xs) ≡ take (rest_len t w o n) xs
text_kept t k w None n xs same mode long all =
    ap (λ j. spelled_infos j false (each_located t w n xs)) (sym same)
    ∙ located_text t w n xs long all
text_kept t k w (Some a) n xs same mode long all = cc

-- ---- Objects whose addresses change their size

-- what the loop begins with
pub resized-start : (t : TypeId) (w k m : ℕ) (o : Option ℕ) (n : ℕ) (xs out : List ℕ) → o ≡ None
    → rest_len t w o n ≤ length xs
    → length out + length (spelled_infos k false (rest_at t w o n xs)) ≤ m
    → (out ++ spelled_infos k false (each_located t w n xs)
    ≡ out ++ spelled_infos k false (rest_at t w o n xs))
    × (length out + length (spelled_infos k false (each_located t w n xs)) ≤ m)
    × (n * (w + content_len t) ≤ length xs)
resized-start t w k m None n xs out none long fits = (refl, fits, long)
resized-start t w k m (Some a) n xs out none long fits = cc

-- the octets of the first object are there
pub resized-first : (t : TypeId) (w n : ℕ) (xs : List ℕ) → 1 ≤ n → n * (w + content_len t)
    ≤ length xs
    → w + content_len t ≤ length xs
resized-first t w zero xs some long = absurd (omega arith)
resized-first t w (suc n) xs some long = omega arith

-- the first object, and the others
split : (t : TypeId) (w k n : ℕ) (xs : List ℕ)
    → spelled_infos k false (each_located t w (suc n) xs)
    ≡ little_bytes k (little_number w xs) ++ (take (content_len t) (drop w xs)
    ++ spelled_infos k false (each_located t w n (drop (w + content_len t) xs)))
split t w k n xs =
    let address = little_bytes k (little_number w xs) in
    let rest = spelled_infos k false (each_located t w n (drop (w + content_len t) xs)) in
    ap (λ ys. (address ++ ys) ++ rest) (content-info_at t (little_number w xs) (drop w xs))
    ∙ append_assoc address (take (content_len t) (drop w xs)) rest

-- and there is room for it
pub resized-room : (t : TypeId) (w k m n : ℕ) (xs out : List ℕ) → 1 ≤ n → n * (w + content_len t)
    ≤ length xs
    → length out + length (spelled_infos k false (each_located t w n xs)) ≤ m
    → length out + (k + content_len t) ≤ m
resized-room t w k m zero xs out some long fits = absurd (omega arith)
resized-room t w k m (suc n) xs out some long fits =
    let address = little_bytes k (little_number w xs) in
    let octets = take (content_len t) (drop w xs) in
    let rest = spelled_infos k false (each_located t w n (drop (w + content_len t) xs)) in
    let all = ap (λ ys. length ys) (split t w k n xs) in
    let first = length-append address (octets ++ rest) in
    let second = length-append octets rest in
    let fewer = length-drop w xs in
    let of_address = length-bytes_low_first 0 k (little_number w xs) in
    let of_octets = length-take-le (content_len t) (drop w xs) (omega arith) in
    omega arith

pub resized-step : (t : TypeId) (w k m n : ℕ) (xs ys zs out one two goal_text : List ℕ) → 1 ≤ n
    → n * (w + content_len t) ≤ length xs
    → length out + length (spelled_infos k false (each_located t w n xs)) ≤ m
    → out ++ spelled_infos k false (each_located t w n xs) ≡ goal_text
    → one ≡ out ++ little_bytes k (little_number w xs) → ys ≡ take (content_len t) (drop w xs)
    → zs ≡ drop (w + content_len t) xs → two ≡ one ++ ys
    → (two ++ spelled_infos k false (each_located t w (n - 1) zs) ≡ goal_text)
    × (length two + length (spelled_infos k false (each_located t w (n - 1) zs)) ≤ m)
    × ((n - 1) * (w + content_len t) ≤ length zs)
resized-step t w k m zero xs ys zs out one two goal_text some long fits text e1 e2 e3 e4 =
    absurd (omega arith)
resized-step t w k m (suc n) xs ys zs out one two goal_text some long fits text e1 e2 e3 e4 =
    let step = w + content_len t in
    let address = little_bytes k (little_number w xs) in
    let octets = take (content_len t) (drop w xs) in
    let rest = spelled_infos k false (each_located t w n (drop step xs)) in
    let less : suc n - 1 ≡ n = omega arith in
    let left : spelled_infos k false (each_located t w (suc n - 1) zs) ≡ rest =
    ap (λ j. spelled_infos k false (each_located t w j zs)) less
    ∙ ap (λ us. spelled_infos k false (each_located t w n us)) e3 in
    let written : two ≡ (out ++ address) ++ octets = e4 ∙ ap (λ us. us ++ ys) e1
    ∙ ap (λ us. (out ++ address) ++ us) e2 in
    let same : two ++ spelled_infos k false (each_located t w (suc n - 1) zs) ≡ out
    ++ spelled_infos k false (each_located t w (suc n) xs) =
    ap (λ us. two ++ us) left ∙ ap (λ us. us ++ rest) written
    ∙ append_assoc (out ++ address) octets rest ∙ append_assoc out address (octets ++ rest)
    ∙ ap (λ us. out ++ us) (sym (split t w k n xs)) in
    let after = spelled_infos k false (each_located t w (suc n - 1) zs) in
    let before = spelled_infos k false (each_located t w (suc n) xs) in
    let counts = ap (λ us. length us) same in
    let left_sum = length-append two after in
    let right_sum = length-append out before in
    let fewer = length-drop step xs in
    let there = ap (λ us. length us) e3 in (
      same ∙ text,
      omega arith,
      subst (λ j. j * step ≤ length zs) (sym less) (omega arith),
    )
