-- The pieces that an ASDU is cut into.
use Rattle.std.proofs.Common.{◌≡◌, ℕ, zero, suc, ◌+◌, ◌*◌, ◌/◌, ◌^◌, ◌<◌, ◌≤◌, Bool, true, false}
use Rattle.std.proofs.Common.{List, [], ◌∷◌, ◌++◌, length, Option, Some, None, refl, sym, ap, subst}
use Rattle.std.proofs.Common.{◌∙◌, arith, append_assoc, length-append}
use Rattle.std.specs.Prelude.{is_some}
use Rattle.std.specs.List.{AllByRecursion}
use Rattle.std.proofs.Math.Nat.{div-mul-le_self}
use Rattle.byteorder.specs.Endian.{little_bytes}
use Rattle.elements.specs.declared.types.TypeId.{TypeId}
use Rattle.elements.specs.Types.{row}
use Rattle.elements.specs.Octets.{AreOctets}
use Rattle.asdu.specs.Sizes.{ca_len, ioa_len, header_len}
use Rattle.asdu.specs.declared.sizes.CauseSize.{CauseSize}
use Rattle.asdu.specs.declared.sizes.CauseSize.TheVariants as causes
use Rattle.asdu.specs.declared.sizes.CaSize.{CaSize}
use Rattle.asdu.specs.declared.sizes.CaSize.TheVariants as cas
use Rattle.asdu.specs.declared.sizes.IoaSize.{IoaSize}
use Rattle.asdu.specs.declared.sizes.IoaSize.TheVariants as ioas
use Rattle.asdu.specs.declared.sizes.Sizes.{Sizes}
use Rattle.asdu.specs.Asdu.{Info, AsduValue, FitsSizes, IsAsdu, IsInfo, AreInOrder, IsOriginator}
use Rattle.asdu.specs.Asdu.{content_len, body, vsq, header, spelled, originator_octets}
use Rattle.asdu.specs.Refusals.{body_len}
use Rattle.asdu.specs.Fields.{each_located}
use Rattle.asdu.specs.Rest.{rest_at, rest_len}
use Rattle.asdu.specs.Writing.{with_infos, carried, carried_originator, header_of, lead}
use Rattle.asdu.specs.Writing.{spelled_infos}
use Rattle.asdu.specs.Translation.{piece_size}
use Rattle.asdu.proofs.ObjectLists.{AreInfos-each_located, AreInfos-successive}
use Rattle.asdu.proofs.ObjectLists.{AreSuccessive-successive}
use Rattle.asdu.proofs.Steps.{length-rest_at}
use Rattle.asdu.proofs.Spelling.{length-header, length-body}

-- ---- Headers

-- an originator that isn't carried has no octets
carried-octets : (c : CauseSize) (o : ℕ) → originator_octets c (carried_originator c o)
    ≡ originator_octets c o
carried-octets causes.One o = refl
carried-octets causes.Two o = refl

pub header-is : (s : Sizes) (v : AsduValue) (n k q d o ca : ℕ) (old one two new : List ℕ)
    → k ≡ (row v.kind).code
    → q ≡ vsq v.sequence n → d ≡ v.cause → o ≡ v.originator → ca ≡ v.ca
    → one ≡ old ++ (k ∷ q ∷ d ∷ [])
    → two ≡ one ++ originator_octets s.cause o → new ≡ two ++ little_bytes (ca_len s.ca) ca
    → new ≡ old ++ header_of s (carried s v) n
header-is s v n k q d o ca old one two new e1 e2 e3 e4 e5 e6 e7 e8 =
    let front = k ∷ q ∷ d ∷ [] in
    let originator = originator_octets s.cause o in
    let address = little_bytes (ca_len s.ca) ca in
    let text : new ≡ old ++ (k ∷ q ∷ d ∷ (originator ++ address)) =
    e8 ∙ ap (λ ys. ys ++ address) (e7 ∙ ap (λ ys. ys ++ originator) e6)
    ∙ append_assoc (old ++ front) originator address
    ∙ append_assoc old front (originator ++ address) in
    let same = carried-octets s.cause v.originator in
    text ∙ rw (e1, e2, e3, e4, e5, same) refl

-- ---- Objects in other sizes

-- an address of fewer octets fits three
wider : (ioa : IoaSize) (a : ℕ) → a < 256 ^ ioa_len ioa → a < 256 ^ 3
wider ioas.One a h = omega arith
wider ioas.Two a h = omega arith
wider ioas.Three a h = h

IsInfo-wider : (t : TypeId) (ioa : IoaSize) (i : Info) → IsInfo t (ioa_len ioa) i → IsInfo t 3 i
IsInfo-wider t ioa i h = record {
  address = wider ioa i.address h.address;
  size = h.size;
  octets = h.octets;
  tag =
      h.tag;
}

pub AreInfos-wider : (t : TypeId) (ioa : IoaSize) (is : List Info)
    → AllByRecursion (IsInfo t (ioa_len ioa)) is
    → AllByRecursion (IsInfo t 3) is
AreInfos-wider t ioa [] h = tt
AreInfos-wider t ioa (i ∷ is) h = (IsInfo-wider t ioa i h.0, AreInfos-wider t ioa is h.1)

pub AreInfos-rest_at : (t : TypeId) (ioa : IoaSize) (o : Option ℕ) (n : ℕ) (xs : List ℕ)
    → rest_len t (ioa_len ioa) o n ≤ length xs → ((a : ℕ) → o ≡ Some a → a + n ≤ 16777216)
    → AreOctets xs
    → AllByRecursion (IsInfo t 3) (rest_at t (ioa_len ioa) o n xs)
AreInfos-rest_at t ioa None n xs enough fits all =
    AreInfos-wider t ioa (each_located t (ioa_len ioa) n xs)
    (AreInfos-each_located t (ioa_len ioa) n xs enough all)
AreInfos-rest_at t ioa (Some a) n xs enough fits all =
    AreInfos-successive t 3 a n xs (fits a refl) enough all

pub AreInOrder-rest_at : (t : TypeId) (w : ℕ) (o : Option ℕ) (n : ℕ) (xs : List ℕ)
    → AreInOrder (is_some o) (rest_at t w o n xs)
AreInOrder-rest_at t w None n xs = tt
AreInOrder-rest_at t w (Some a) zero xs = tt
AreInOrder-rest_at t w (Some a) (suc n) xs = AreSuccessive-successive t a (suc n) xs

IsOriginator-two : (c : CauseSize) (o : ℕ) → IsOriginator c o → o < 256
IsOriginator-two causes.One o h = omega arith
IsOriginator-two causes.Two o h = h

pub ca-two : (c : CaSize) (n : ℕ) → n < 256 ^ ca_len c → n < 256 ^ 2
ca-two cas.One n h = omega arith
ca-two cas.Two n h = h

IsOriginator-carried : (c : CauseSize) (o : ℕ) → o < 256 → IsOriginator c (carried_originator c o)
IsOriginator-carried causes.One o h = refl
IsOriginator-carried causes.Two o h = h

pub FitsSizes-with_infos : (s z : Sizes) (v : AsduValue) (is : List Info) → FitsSizes s v
    → v.ca < 256 ^ ca_len z.ca
    → 1 ≤ length is → length is ≤ 127 → AllByRecursion (IsInfo v.kind (ioa_len z.ioa)) is
    → AreInOrder v.sequence is
    → FitsSizes z (with_infos (carried z v) is)
FitsSizes-with_infos s z v is h ca some most infos order = record {
  some = some;
  most = most;
  cause = h.cause;
  originator =
      IsOriginator-carried z.cause v.originator
      (IsOriginator-two s.cause v.originator h.originator);
  ca = ca;
  infos = infos;
  order = order;
}

-- ---- The text of a piece

pub lead-spelled_infos : (t : TypeId) (z w : ℕ) (o : Option ℕ) (n : ℕ) (xs : List ℕ) → 1 ≤ n
    → lead z o ++ spelled_infos z (is_some o) (rest_at t w o n xs)
    ≡ body z (is_some o) (rest_at t w o n xs)
lead-spelled_infos t z w o zero xs some = absurd (omega arith)
lead-spelled_infos t z w None (suc n) xs some = refl
lead-spelled_infos t z w (Some a) (suc n) xs some = refl

-- a piece fits
pub body_len-piece : (t : TypeId) (b : Bool) (n : ℕ) → n ≤ piece_size t b → body_len t 3 b n ≤ 243
body_len-piece t false n h =
    let most = div-mul-le_self 243 (3 + content_len t) in
    let below : n * (3 + content_len t) ≤ 243 / (3 + content_len t) * (3 + content_len t) =
    grind arith in
    omega arith
body_len-piece t true n h =
    let most = div-mul-le_self 240 (content_len t) in
    let fewer : n ≤ 240 / content_len t = omega arith in
    let below : n * content_len t ≤ 240 / content_len t * content_len t = grind arith in
    omega arith

pub piece_size-few : (t : TypeId) (b : Bool) (n : ℕ) → n ≤ piece_size t b → n ≤ 127
piece_size-few t false n h = let fits = body_len-piece t false n h in omega arith
piece_size-few t true n h = omega arith

-- the octets before the first content, step by step
begun : (head first text none one two : List ℕ) → none ≡ [] → one ≡ none ++ head
    → two ≡ one ++ first
    → two ++ text ≡ head ++ (first ++ text)
begun head first text none one two e1 e2 e3 = rw (e3, e2, e1) (append_assoc head first text)

-- what the loop of `spell` begins with
pub spell-start : (z : Sizes) (v : AsduValue) (t : TypeId) (w : ℕ) (o : Option ℕ) (n m : ℕ)
    (xs : List ℕ) (b : Bool)
    (js : List Info) (none one two : List ℕ) → b ≡ is_some o → js ≡ rest_at t w o n xs → none ≡ []
    → one ≡ none ++ header_of z v n → two ≡ one ++ lead (ioa_len z.ioa) o → 1 ≤ n
    → AllByRecursion (IsInfo t (ioa_len z.ioa)) (rest_at t w o n xs)
    → header_len z + body_len t (ioa_len z.ioa) (is_some o) n ≤ m
    → (two ++ spelled_infos (ioa_len z.ioa) b js ≡ header_of z v n
    ++ (lead (ioa_len z.ioa) o ++ spelled_infos (ioa_len z.ioa) b (rest_at t w o n xs)))
    × (length two + length (spelled_infos (ioa_len z.ioa) b js) ≤ m)
spell-start z v t w o n m xs b js none one two mode left e1 e2 e3 some infos room =
    let k = ioa_len z.ioa in
    let is = rest_at t w o n xs in
    let text = spelled_infos k (is_some o) is in
    let count = length-rest_at t w o n xs in
    let first : two ++ text ≡ header_of z v n ++ (lead k o ++ text) =
    begun (header_of z v n) (lead k o) text none one two e1 e2 e3 in
    let long = length-body t k (is_some o) is (rw count some) infos in
    let counted : body_len t k (is_some o) (length is) ≡ body_len t k (is_some o) n =
    ap (body_len t k (is_some o)) count in
    let same : length (lead k o ++ text) ≡ length (body k (is_some o) is) =
    ap length (lead-spelled_infos t k w o n xs some) in
    let all = ap length first in
    let front = length-header z v.kind v.sequence n v.cause v.originator v.ca in
    let left_sum = length-append two text in
    let right_sum = length-append (header_of z v n) (lead k o ++ text) in
    rw (mode, left) (first, omega arith)

-- the words of `spell`
pub spell-spells : (s z : Sizes) (v : AsduValue) (t : TypeId) (w : ℕ) (o : Option ℕ) (n : ℕ)
    (xs out : List ℕ)
    → FitsSizes s v → v.ca < 256 ^ ca_len z.ca → t ≡ v.kind → is_some o ≡ v.sequence → 1 ≤ n
    → n ≤ 127
    → AllByRecursion (IsInfo v.kind (ioa_len z.ioa)) (rest_at t w o n xs)
    → out ≡ header_of z (carried z v) n ++ (lead (ioa_len z.ioa) o
    ++ spelled_infos (ioa_len z.ioa) (is_some o) (rest_at t w o n xs))
    → IsAsdu z (with_infos (carried z v) (rest_at t w o n xs)) out
spell-spells s z v t w o n xs out h ca kind mode some most infos e =
    let is = rest_at t w o n xs in
    let count : length is ≡ n = length-rest_at t w o n xs in
    let P : Bool → Type 0 = λ b. AreInOrder b is in
    record {
      value = FitsSizes-with_infos s z v is h ca (rw count some) (rw count most) infos
          (subst P mode (AreInOrder-rest_at t w o n xs));
      octets =
          e
          ∙ ap (λ ys. header_of z (carried z v) n ++ ys) (lead-spelled_infos t (ioa_len z.ioa) w o n
          xs some
          ∙ ap (λ b. body (ioa_len z.ioa) b is) mode)
          ∙ ap (λ m. header_of z (carried z v) m ++ body (ioa_len z.ioa) v.sequence is) (sym count);
    }

-- objects whose addresses fit other sizes
pub AreInfos-fitting : (t : TypeId) (w z : ℕ) (is : List Info) → AllByRecursion (IsInfo t w) is
    → AllByRecursion (λ i. i.address < 256 ^ z) is → AllByRecursion (IsInfo t z) is
AreInfos-fitting t w z [] h fits = tt
AreInfos-fitting t w z (i ∷ is) h fits = (
  record { address = fits.0; size = h.0.size; octets = h.0.octets; tag = h.0.tag },
  AreInfos-fitting t w z is h.1 fits.1,
)

pub length-spelled : (z : Sizes) (u : AsduValue) → 1 ≤ length u.infos
    → AllByRecursion (IsInfo u.kind (ioa_len z.ioa)) u.infos
    → length (spelled z u) ≡ header_len z + body_len u.kind (ioa_len z.ioa) u.sequence
    (length u.infos)
length-spelled z u some infos =
    let n = length u.infos in
    let head = header z u.kind u.sequence n u.cause u.originator u.ca in
    let text = body (ioa_len z.ioa) u.sequence u.infos in
    let front = length-header z u.kind u.sequence n u.cause u.originator u.ca in
    let back = length-body u.kind (ioa_len z.ioa) u.sequence u.infos some infos in
    length-append head text ∙ omega (arith, front, back)

-- ---- The same sizes

carried-same : (c : CauseSize) (o : ℕ) → IsOriginator c o → carried_originator c o ≡ o
carried-same causes.One o h = sym h
carried-same causes.Two o h = refl

same_text : (z : Sizes) (v : AsduValue) (o : ℕ) (is : List Info) → o ≡ v.originator → is ≡ v.infos
    → spelled z (record v { originator = o; infos = is }) ≡ spelled z v
same_text z v o is e1 e2 = rw (e1, e2) refl

-- in its own sizes an ASDU has its own octets
pub again : (s z : Sizes) (v : AsduValue) (is : List Info) (xs out : List ℕ) → s ≡ z → IsAsdu s v xs
    → is ≡ v.infos
    → IsAsdu z (with_infos (carried z v) is) out → out ≡ xs
again s z v is xs out same source objects h =
    let P : Sizes → Type 0 = λ y. IsAsdu y v xs in
    let read = subst P same source in
    h.octets ∙ same_text z v (carried_originator z.cause v.originator) is
    (carried-same z.cause v.originator read.value.originator) objects ∙ sym read.octets
