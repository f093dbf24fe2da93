-- A frame with one octet changed is no frame.
use Rattle.std.proofs.Common.{◌≡◌, ℕ, zero, suc, ◌+◌, ◌*◌, ◌-◌, ◌%◌, ◌<◌, List, [], ◌∷◌, ◌++◌}
use Rattle.std.proofs.Common.{length, sum, All, refl, sym, ap, ◌∙◌, append_assoc, arith, inl, inr}
use Rattle.std.proofs.lemmas.Bool.{cases_lt}
use Rattle.std.proofs.lemmas.List.Elements.{All-nil, All-head, All-tail}
use Rattle.std.proofs.lemmas.List.Sums.{sum_by-cons}
use Rattle.ft12.specs.declared.frame.LinkSize.{LinkSize}
use Rattle.ft12.specs.declared.frame.Frame.{Frame}
use Rattle.ft12.specs.declared.frame.Frame.TheVariants.{Single, Fixed, Data}
use Rattle.ft12.specs.Spelling.{checked, header, user, spelling, IsOctet, FitsAddress, Fits}
use Rattle.ft12.specs.Spoiling.{spoilt}
use Rattle.ft12.proofs.Lists.{append_parts, length-checked}
use Rattle.ft12.proofs.Frames.{length-user, heads, tails, user_fits}

pub length-spoilt : (place : ℕ) (xs : List ℕ) → length (spoilt place xs) ≡ length xs
length-spoilt place [] = refl
length-spoilt zero (x ∷ xs) = omega arith
length-spoilt (suc place) (x ∷ xs) = omega (arith, length-spoilt place xs)

-- the sum goes up or down by an odd number less than 256
pub record IsOff (new old : ℕ) : Type 0 where
  pub octet : ℕ
  pub fits : octet < 256
  pub off : new + 2 * octet ≡ old + 255

sum-spoilt : (place : ℕ) (xs : List ℕ) → All IsOctet xs → place < length xs
    → IsOff (sum (spoilt place xs)) (sum xs)
sum-spoilt place [] fits lt = absurd (omega arith)
sum-spoilt zero (x ∷ xs) fits lt =
    let small : x < 256 = All-head IsOctet x xs fits in
    let old : sum (x ∷ xs) ≡ x + sum xs = sum_by-cons (λ n. n) x xs in
    let new : sum ((255 - x) ∷ xs) ≡ (255 - x) + sum xs = sum_by-cons (λ n. n) (255 - x) xs in
    record { octet = x; fits = small; off = omega arith }
sum-spoilt (suc place) (x ∷ xs) fits lt =
    let rest = sum-spoilt place xs (All-tail IsOctet x xs fits) (omega arith) in
    let old : sum (x ∷ xs) ≡ x + sum xs = sum_by-cons (λ n. n) x xs in
    let new : sum (x ∷ spoilt place xs) ≡ x + sum (spoilt place xs) =
    sum_by-cons (λ n. n) x (spoilt place xs) in
    record { octet = rest.octet; fits = rest.fits; off = omega (arith, rest.off) }

off_is_other : (new old : ℕ) → IsOff new old → new % 256 ≡ old % 256 → ⊥
off_is_other new old off e = omega (arith, off.fits, off.off)

spoilt_front : (place : ℕ) (u w : List ℕ) → place < length u → spoilt place (u ++ w)
    ≡ spoilt place u ++ w
spoilt_front place [] w lt = absurd (omega arith)
spoilt_front zero (x ∷ u) w lt = refl
spoilt_front (suc place) (x ∷ u) w lt =
    ap (λ (l : List ℕ). x ∷ l) (spoilt_front place u w (omega arith))

zero_add : (n : ℕ) → 0 + n ≡ n
zero_add n = omega arith

spoilt_back : (place : ℕ) (u w : List ℕ) → spoilt (length u + place) (u ++ w) ≡ u ++ spoilt place w
spoilt_back place [] w = ap (λ (p : ℕ). spoilt p w) (zero_add place)
spoilt_back place (x ∷ u) w =
    let e : length (x ∷ u) + place ≡ suc (length u + place) = omega arith in
    ap (λ (p : ℕ). spoilt p (x ∷ (u ++ w))) e ∙ ap (λ (l : List ℕ). x ∷ l) (spoilt_back place u w)

-- octets with their sum and end, one of them changed, are no octets of that number with their sum
-- and end
pub checked_spoilt : (place : ℕ) (u v rest more : List ℕ) → All IsOctet u → length u ≡ length v
    → place < length u + 2 →
    spoilt place (checked u) ++ rest ≡ checked v ++ more → ⊥
checked_spoilt place u v rest more fits len lt e = elim (cases_lt place (length u)) [
  | inl in_user ↦
      let at : spoilt place (checked u) ≡ spoilt place u ++ sum u % 256 ∷ 0x16 ∷ [] =
      spoilt_front place u (sum u % 256 ∷ 0x16 ∷ []) in_user in
      let whole : spoilt place u ++ (sum u % 256 ∷ 0x16 ∷ rest) ≡ v ++ (sum v % 256 ∷ 0x16 ∷ more) =
      sym (append_assoc (spoilt place u) (sum u % 256 ∷ 0x16 ∷ []) rest)
      ∙ ap (λ (l : List ℕ). l ++ rest) (sym at) ∙ e
      ∙ append_assoc v (sum v % 256 ∷ 0x16 ∷ []) more in
      let parts = append_parts (spoilt place u) v (sum u % 256 ∷ 0x16 ∷ rest) (sum v % 256 ∷ 0x16
      ∷ more)
      (omega (arith, length-spoilt place u, len)) whole in
      let sums : sum u % 256 ≡ sum v % 256 = heads (sum u % 256) (sum v % 256) _ _ parts.1 in
      let spoilt_sum : sum (spoilt place u) ≡ sum v = ap sum parts.0 in
      off_is_other (sum (spoilt place u)) (sum u) (sum-spoilt place u fits in_user)
      (ap (λ (n : ℕ). n % 256) spoilt_sum
      ∙ sym sums)
  | inr after ↦
      let split : place ≡ length u + (place - length u) = omega (arith, after) in
      let at : spoilt place (checked u) ≡ u ++ spoilt (place - length u) (sum u % 256 ∷ 0x16 ∷ []) =
      ap (λ (p : ℕ). spoilt p (checked u)) split
      ∙ spoilt_back (place - length u) u (sum u % 256 ∷ 0x16 ∷ []) in
      let whole : u ++ (spoilt (place - length u) (sum u % 256 ∷ 0x16 ∷ []) ++ rest) ≡ v
      ++ (sum v % 256 ∷ 0x16 ∷ more) =
      sym (append_assoc u (spoilt (place - length u) (sum u % 256 ∷ 0x16 ∷ [])) rest)
      ∙ ap (λ (l : List ℕ). l ++ rest) (sym at) ∙ e
      ∙ append_assoc v (sum v % 256 ∷ 0x16 ∷ []) more in
      let parts = append_parts u v _ _ len whole in
      last (place - length u) (sum u) (sum v) (ap sum parts.0) (omega (arith, lt, after)) parts.1
]
  where
    last : (at s t : ℕ) → s ≡ t → at < 2 → spoilt at (s % 256 ∷ 0x16 ∷ []) ++ rest
        ≡ t % 256 ∷ 0x16 ∷ more → ⊥
    last zero s t same lt e =
        let h : 255 - s % 256 ≡ t % 256 = heads (255 - s % 256) (t % 256) _ _ e in
        let h' : 255 - s % 256 ≡ s % 256 = h ∙ ap (λ (n : ℕ). n % 256) (sym same) in
        odd (s % 256) (mod_small s) h'
      where
        odd : (n : ℕ) → n < 256 → 255 - n ≡ n → ⊥
        odd n lt e = omega arith

        mod_small : (n : ℕ) → n % 256 < 256
        mod_small n = omega arith
    last (suc zero) s t same lt e =
        omega (arith, heads 0xE9 0x16 rest more (tails (s % 256) (t % 256) _ _ e))
    last (suc (suc at)) s t same lt e = omega arith

same_length : (size : LinkSize) (c a d b : ℕ) → length (user size c a [])
    ≡ length (user size d b [])
same_length size c a d b = omega (arith, length-user size c a [], length-user size d b [])

fixed_spoilt : (size : LinkSize) (c a place : ℕ) (g : Frame) (rest more : List ℕ)
    → FitsAddress size c a
    → place < length (spelling size (Fixed c a)) →
    spoilt place (spelling size (Fixed c a)) ++ rest ≡ spelling size g ++ more → ⊥
fixed_spoilt size c a zero Single rest more fits lt e = omega (arith, heads 0xEF 0xE5 _ _ e)
fixed_spoilt size c a zero (Fixed d b) rest more fits lt e = omega (arith, heads 0xEF 0x10 _ _ e)
fixed_spoilt size c a zero (Data d b body) rest more fits lt e =
    omega (arith, heads 0xEF 0x68 _ _ e)
fixed_spoilt size c a (suc place) Single rest more fits lt e = omega (arith, heads 0x10 0xE5 _ _ e)
fixed_spoilt size c a (suc place) (Data d b body) rest more fits lt e =
    omega (arith, heads 0x10 0x68 _ _ e)
fixed_spoilt size c a (suc place) (Fixed d b) rest more fits lt e =
    checked_spoilt place (user size c a []) (user size d b []) rest more
    (user_fits size c a [] fits (All-nil IsOctet))
    (same_length size c a d b)
    (omega (arith, lt, length-checked (user size c a []))) (tails 0x10 0x10 _ _ e)

odd_length : (m n : ℕ) → m < 256 → 255 - m ≡ n → m ≡ n → ⊥
odd_length m n small one two = omega arith

-- two frames of variable length, one of them with an octet changed
data_spoilt : (place : ℕ) (u v rest more : List ℕ) → All IsOctet u → length u < 256
    → place < length u + 6 →
    spoilt place (header (length u) ++ checked u) ++ rest ≡ (header (length v) ++ checked v) ++ more
    → ⊥
data_spoilt zero u v rest more fits small lt e = omega (arith, heads 0x97 0x68 _ _ e)
data_spoilt (suc zero) u v rest more fits small lt e =
    let a = tails 0x68 0x68 _ _ e in
    let one : 255 - length u ≡ length v = heads (255 - length u) (length v) _ _ a in
    let two : length u ≡ length v =
    heads (length u) (length v) _ _ (tails (255 - length u) (length v) _ _ a) in
    odd_length (length u) (length v) small one two
data_spoilt (suc (suc zero)) u v rest more fits small lt e =
    let a = tails 0x68 0x68 _ _ e in
    let one : length u ≡ length v = heads (length u) (length v) _ _ a in
    let two : 255 - length u ≡ length v =
    heads (255 - length u) (length v) _ _ (tails (length u) (length v) _ _ a) in
    odd_length (length u) (length v) small two one
data_spoilt (suc (suc (suc zero))) u v rest more fits small lt e =
    let a =
    tails (length u) (length v) _ _ (tails (length u) (length v) _ _ (tails 0x68 0x68 _ _ e)) in
    omega (arith, heads 0x97 0x68 _ _ a)
data_spoilt (suc (suc (suc (suc place)))) u v rest more fits small lt e =
    let a = tails 0x68 0x68 _ _ e in
    let lengths : length u ≡ length v = heads (length u) (length v) _ _ a in
    let b =
    tails 0x68 0x68 _ _ (tails (length u) (length v) _ _ (tails (length u) (length v) _ _ a)) in
    checked_spoilt place u v rest more fits lengths (omega (arith, lt)) b

data_other : (size : LinkSize) (place : ℕ) (u : List ℕ) (g : Frame) (rest more : List ℕ)
    → All IsOctet u
    → length u < 256 → place < length u + 6 →
    spoilt place (header (length u) ++ checked u) ++ rest ≡ spelling size g ++ more → ⊥
data_other size zero u Single rest more fits small lt e = omega (arith, heads 0x97 0xE5 _ _ e)
data_other size zero u (Fixed d b) rest more fits small lt e = omega (arith, heads 0x97 0x10 _ _ e)
data_other size (suc place) u Single rest more fits small lt e =
    omega (arith, heads 0x68 0xE5 _ _ e)
data_other size (suc place) u (Fixed d b) rest more fits small lt e =
    omega (arith, heads 0x68 0x10 _ _ e)
data_other size place u (Data d b body) rest more fits small lt e =
    data_spoilt place u (user size d b body.items) rest more fits small lt e

-- no spelling stands at the front of a spoilt one, nor the other way round
pub no_line : (size : LinkSize) (f g : Frame) (place : ℕ) (rest more : List ℕ) → Fits size f
    → place < length (spelling size f) →
    spoilt place (spelling size f) ++ rest ≡ spelling size g ++ more → ⊥
no_line size Single Single zero rest more fits lt e = omega (arith, heads 0x1A 0xE5 _ _ e)
no_line size Single (Fixed d b) zero rest more fits lt e = omega (arith, heads 0x1A 0x10 _ _ e)
no_line size Single (Data d b body) zero rest more fits lt e = omega (arith, heads 0x1A 0x68 _ _ e)
no_line size Single g (suc place) rest more fits lt e = omega (arith, lt)
no_line size (Fixed c a) g place rest more fits lt e =
    fixed_spoilt size c a place g rest more fits lt e
no_line size (Data c a body) g place rest more fits lt e =
    data_other size place (user size c a body.items) g rest more
    (user_fits size c a body.items fits.0 fits.1) fits.2
    (omega (arith, lt, length-checked (user size c a body.items))) e
