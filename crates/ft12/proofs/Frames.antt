-- Frames and their spellings: the parts that octets have, and that no spelling begins another.
use Rattle.std.proofs.Common.{◌≡◌, ℕ, ◌+◌, ◌*◌, ◌%◌, ◌/◌, ◌<◌, ◌≤◌, List, [], ◌∷◌, ◌++◌, length}
use Rattle.std.proofs.Common.{get_or, drop, sum, All, refl, ap, arith}
use Rattle.std.proofs.lemmas.List.Elements.{All-nil, All-cons, All-head, All-tail, All-append}
use Rattle.arrayvec.specs.ArrayVec.{ArrayVec}
use Rattle.ft12.specs.declared.frame.LinkSize.{LinkSize}
use Rattle.ft12.specs.declared.frame.LinkSize.TheVariants.{One, Two}
use Rattle.ft12.specs.declared.frame.Frame.{Frame}
use Rattle.ft12.specs.declared.frame.Frame.TheVariants.{Single, Fixed, Data}
use Rattle.ft12.specs.Spelling.{address_len, address, checked, user, spelling, IsOctet, FitsAddress}
use Rattle.ft12.specs.Spelling.{Fits}
use Rattle.ft12.specs.Fronts.{address_in}
use Rattle.ft12.proofs.Lists.{append_parts, length-checked}

pub length-user : (size : LinkSize) (c a : ℕ) (body : List ℕ)
    → length (user size c a body) ≡ 1 + address_len size + length body
length-user One c a body = omega arith
length-user Two c a body = omega arith

-- octets as their control octet, address and data
pub record AreParts (size : LinkSize) (octets : List ℕ) (c a : ℕ) (body : List ℕ) : Type 0 where
  pub parts : octets ≡ user size c a body
  pub fits : FitsAddress size c a
  pub body_fits : All IsOctet body

pub parts_here : (size : LinkSize) (z : List ℕ) → All IsOctet z → 1 + address_len size ≤ length z
    → AreParts size z (get_or z 0 0) (address_in size z) (drop (1 + address_len size) z)
parts_here One [] fits long = absurd (omega arith)
parts_here One (c ∷ []) fits long = absurd (omega arith)
parts_here One (c ∷ a ∷ body) fits long = record {
  parts = refl;
  fits = record {
    control = All-head IsOctet c (a ∷ body) fits;
    address =
        All-head IsOctet a body (All-tail IsOctet c (a ∷ body) fits);
  };
  body_fits = All-tail IsOctet a body (All-tail IsOctet c (a ∷ body) fits);
}
parts_here Two [] fits long = absurd (omega arith)
parts_here Two (c ∷ []) fits long = absurd (omega arith)
parts_here Two (c ∷ low ∷ []) fits long = absurd (omega arith)
parts_here Two (c ∷ low ∷ high ∷ body) fits long =
    let fits' = All-tail IsOctet c (low ∷ high ∷ body) fits in
    let low_fits : low < 256 = All-head IsOctet low (high ∷ body) fits' in
    let high_fits : high < 256 =
    All-head IsOctet high body (All-tail IsOctet low (high ∷ body) fits') in
    let low_is : (low + 256 * high) % 256 ≡ low = omega arith in
    let high_is : (low + 256 * high) / 256 ≡ high = omega arith in
    record {
      parts = rw (low_is, high_is) refl;
      fits = record {
        control = All-head IsOctet c (low ∷ high ∷ body) fits;
        address =
            omega arith;
      };
      body_fits = All-tail IsOctet high body (All-tail IsOctet low (high ∷ body) fits');
    }

-- what those octets are
pub record HasParts (size : LinkSize) (octets : List ℕ) : Type 0 where
  pub c : ℕ
  pub a : ℕ
  pub body : List ℕ
  pub are : AreParts size octets c a body

pub parts_of : (size : LinkSize) (octets : List ℕ) → All IsOctet octets → 1 + address_len size
    ≤ length octets
    → HasParts size octets
parts_of size octets fits long = record {
  c = get_or octets 0 0;
  a = address_in size octets;
  body = drop (1 + address_len size) octets;
  are = parts_here size octets fits long;
}

same_user : (size : LinkSize) (c a d b : ℕ) (x y : List ℕ) → user size c a x ≡ user size d b y
    → (c ≡ d) × (a ≡ b) × (x ≡ y)
same_user One c a d b x y e = (cc, cc, cc)
same_user Two c a d b x y e =
    let low : a % 256 ≡ b % 256 = cc in
    let high : a / 256 ≡ b / 256 = cc in
    (cc, omega arith, cc)

pub heads : (m n : ℕ) (x y : List ℕ) → m ∷ x ≡ n ∷ y → m ≡ n
heads m n x y e = cc

pub tails : (m n : ℕ) (x y : List ℕ) → m ∷ x ≡ n ∷ y → x ≡ y
tails m n x y e = cc

-- no spelling begins another, and no two values have one
pub one_spelling : (size : LinkSize) (f g : Frame) (x y : List ℕ) → spelling size f ++ x
    ≡ spelling size g ++ y
    → (f ≡ g) × (x ≡ y)
one_spelling size Single Single x y e = (refl, cc)
one_spelling size Single (Fixed d b) x y e = absurd (omega (arith, heads 0xE5 0x10 _ _ e))
one_spelling size Single (Data d b body) x y e = absurd (omega (arith, heads 0xE5 0x68 _ _ e))
one_spelling size (Fixed c a) Single x y e = absurd (omega (arith, heads 0x10 0xE5 _ _ e))
one_spelling size (Fixed c a) (Data d b body) x y e = absurd (omega (arith, heads 0x10 0x68 _ _ e))
one_spelling size (Data c a body) Single x y e = absurd (omega (arith, heads 0x68 0xE5 _ _ e))
one_spelling size (Data c a body) (Fixed d b) x y e = absurd (omega (arith, heads 0x68 0x10 _ _ e))
one_spelling size (Fixed c a) (Fixed d b) x y e =
    let u : List ℕ = user size c a [] in
    let v : List ℕ = user size d b [] in
    let tails : checked u ++ x ≡ checked v ++ y = cc in
    let len : length (checked u) ≡ length (checked v) =
    omega (
      arith,
      length-checked u,
      length-checked v,
      length-user size c a [],
      length-user size d b
          [],
    ) in
    let p = append_parts (checked u) (checked v) x y len tails in
    let q = append_parts u v (sum u % 256 ∷ 0x16 ∷ []) (sum v % 256 ∷ 0x16 ∷ [])
    (omega (arith, length-user size c a [], length-user size d b [])) p.0 in
    let s = same_user size c a d b [] [] q.0 in
    let s0 : c ≡ d = s.0 in
    let s1 : a ≡ b = s.1 in
    (cc, p.1)
one_spelling size (Data c a v) (Data d b w) x y e =
    let s : List ℕ = user size c a v.items in
    let t : List ℕ = user size d b w.items in
    let len : length s ≡ length t = cc in
    let tails : checked s ++ x ≡ checked t ++ y = cc in
    let p =
    append_parts (checked s) (checked t) x y (omega (arith, length-checked s, length-checked t))
    tails in
    let q = append_parts s t (sum s % 256 ∷ 0x16 ∷ []) (sum t % 256 ∷ 0x16 ∷ []) len p.0 in
    let r = same_user size c a d b v.items w.items q.0 in
    let r0 : c ≡ d = r.0 in
    let r1 : a ≡ b = r.1 in
    let r2 : v ≡ w = ap (λ (xs : List ℕ). let made : ArrayVec ℕ = record { items = xs } in
    made) r.2 in
    (cc, p.1)

-- ---- octets only

address_fits : (size : LinkSize) (c a : ℕ) → FitsAddress size c a → All IsOctet (address size a)
address_fits One c a fits = All-cons IsOctet a [] fits.address (All-nil IsOctet)
address_fits Two c a fits =
    let small : a < 65536 = fits.address in
    All-cons IsOctet (a % 256) (a / 256 ∷ []) (omega arith)
    (All-cons IsOctet (a / 256) [] (omega (arith, small)) (All-nil IsOctet))

pub user_fits : (size : LinkSize) (c a : ℕ) (body : List ℕ) → FitsAddress size c a
    → All IsOctet body
    → All IsOctet (user size c a body)
user_fits size c a body fits octets =
    All-append IsOctet (c ∷ address size a) body (All-cons IsOctet c (address size a) fits.control
    (address_fits size c a fits)) octets

checked_fits : (u : List ℕ) → All IsOctet u → All IsOctet (checked u)
checked_fits u fits =
    All-append IsOctet u (sum u % 256 ∷ 0x16 ∷ []) fits
    (All-cons IsOctet (sum u % 256) (0x16 ∷ []) (omega arith)
    (All-cons IsOctet 0x16 [] (omega arith) (All-nil IsOctet)))

-- a spelling has octets only
pub spelling_fits : (size : LinkSize) (f : Frame) → Fits size f → All IsOctet (spelling size f)
spelling_fits size Single fits = All-cons IsOctet 0xE5 [] (omega arith) (All-nil IsOctet)
spelling_fits size (Fixed c a) fits = All-cons IsOctet 0x10 (checked (user size c a []))
    (omega arith)
    (checked_fits (user size c a []) (user_fits size c a [] fits (All-nil IsOctet)))
spelling_fits size (Data c a body) fits =
    let u : List ℕ = user size c a body.items in
    let rest : All IsOctet (0x68 ∷ checked u) = All-cons IsOctet 0x68 (checked u) (omega arith)
    (checked_fits u (user_fits size c a body.items fits.0 fits.1)) in
    All-cons IsOctet 0x68 (length u ∷ length u ∷ 0x68 ∷ checked u) (omega arith)
    (All-cons IsOctet (length u) (length u ∷ 0x68 ∷ checked u) fits.2
    (All-cons IsOctet (length u) (0x68 ∷ checked u) fits.2 rest))
