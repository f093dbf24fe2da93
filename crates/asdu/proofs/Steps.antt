-- One step over the objects that are left.
use Rattle.std.proofs.Common.{◌≡◌, ℕ, zero, suc, ◌+◌, ◌-◌, ◌≤◌, List, ◌∷◌, length, take, drop}
use Rattle.std.proofs.Common.{Option, Some, None, refl, ap, ◌∙◌, arith, length-drop}
use Rattle.std.proofs.lemmas.List.{drop-drop}
use Rattle.elements.specs.declared.types.TypeId.{TypeId}
use Rattle.elements.specs.Types.{row}
use Rattle.asdu.proofs.ObjectLists.{length-each_located, length-successive}
use Rattle.asdu.specs.Asdu.{Info, content_len}
use Rattle.asdu.specs.Fields.{tag_at, info_at}
use Rattle.asdu.specs.Rest.{rest_at, rest_len, address_len, next_address, following}
use Rattle.byteorder.specs.Endian.{little_number}

-- the parts of the first object make it
parts : (t : TypeId) (a b : ℕ) (el ys : List ℕ) (tag : Option (List ℕ)) → a ≡ b
    → el ≡ take (row t).size ys
    → tag ≡ tag_at (row t).tagged (drop (row t).size ys)
    → ◌≡◌ {A = Info} (record { address = a; element = el; tag = tag }) (info_at t b ys)
parts t a b el ys tag e1 e2 e3 = rw (e1, e2, e3) refl

pub rest_at-step : (t : TypeId) (w : ℕ) (o p : Option ℕ) (n a : ℕ) (xs ys zs el : List ℕ)
    (tag : Option (List ℕ))
    → 1 ≤ n → a ≡ next_address w o xs → ys ≡ drop (address_len w o) xs → el ≡ take (row t).size ys
    → tag ≡ tag_at (row t).tagged (drop (row t).size ys) → zs ≡ drop (content_len t) ys
    → p ≡ following o
    → ◌≡◌ {A = List Info} (rest_at t w o n xs) (record { address = a; element = el; tag = tag }
    ∷ rest_at t w p (n - 1) zs)
rest_at-step t w o p zero a xs ys zs el tag some e1 e2 e3 e4 e5 h = absurd (omega arith)
rest_at-step t w None p (suc n) a xs ys zs el tag some e1 e2 e3 e4 e5 h =
    let less : suc n - 1 ≡ n = omega arith in
    let here = parts t a (little_number w xs) el ys tag e1 e3 e4 in
    let after : zs ≡ drop (w + content_len t) xs = e5 ∙ ap (drop (content_len t)) e2
    ∙ drop-drop (content_len t) w xs in
    rw (h, less, here, after, e2) refl
rest_at-step t w (Some k) p (suc n) a xs ys zs el tag some e1 e2 e3 e4 e5 h =
    let less : suc n - 1 ≡ n = omega arith in
    let here = parts t a k el ys tag e1 e3 e4 in
    rw (h, less, here, e5, e2) refl

pub rest_len-step : (t : TypeId) (w : ℕ) (o p : Option ℕ) (n : ℕ) (xs ys zs : List ℕ) → 1 ≤ n
    → rest_len t w o n ≤ length xs → ys ≡ drop (address_len w o) xs → zs ≡ drop (content_len t) ys
    → p ≡ following o
    → rest_len t w p (n - 1) ≤ length zs
rest_len-step t w o p zero xs ys zs some long e1 e2 h = absurd (omega arith)
rest_len-step t w None p (suc n) xs ys zs some long e1 e2 h =
    let less : suc n - 1 ≡ n = omega arith in
    rw (h, less, e2, e1) (omega (arith, length-drop w xs, length-drop (content_len t) (drop w xs)))
rest_len-step t w (Some k) p (suc n) xs ys zs some long e1 e2 h =
    let less : suc n - 1 ≡ n = omega arith in
    rw (h, less, e2, e1) (omega (arith, length-drop (content_len t) xs))

pub length-rest_at : (t : TypeId) (w : ℕ) (o : Option ℕ) (n : ℕ) (xs : List ℕ)
    → length (rest_at t w o n xs) ≡ n
length-rest_at t w None n xs = length-each_located t w n xs
length-rest_at t w (Some a) n xs = length-successive t a n xs

-- the addresses that are left stay in range
pub following-in_range : (o p : Option ℕ) (n m : ℕ) → 1 ≤ n → ((a : ℕ) → o ≡ Some a → a + n ≤ m)
    → p ≡ following o
    → (b : ℕ) → p ≡ Some b → b + (n - 1) ≤ m
following-in_range None p n m some fits h b e = cc
following-in_range (Some a) p n m some fits h b e =
    let same : b ≡ suc a = cc in
    let low = fits a refl in
    omega arith
