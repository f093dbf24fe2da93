-- The pieces of a report carry its objects octet by octet.
use Rattle.std.specs.Prelude.{slice_index, if◌then◌else◌}
use Rattle.std.specs.Int.{byte_at, div_ceil}
use Rattle.std.specs.List.{flat_map, AllByRecursion}
use Rattle.std.proofs.Common.{◌≡◌, ℕ, zero, suc, ◌+◌, ◌*◌, ◌%◌, ◌^◌, ◌<◌, ◌≤◌, Bool, true}
use Rattle.std.proofs.Common.{false, Option, Some, None, List, [], ◌∷◌, ◌++◌, length, take, drop}
use Rattle.std.proofs.Common.{map, refl, ap, sym, subst, ◌∙◌, arith, length-append}
use Rattle.std.proofs.lemmas.List.{take-append-drop}
use Rattle.std.proofs.lemmas.List.Concat.{flat_map-append}
use Rattle.byteorder.specs.Endian.{little_bytes}
use Rattle.elements.specs.Types.{row}
use Rattle.elements.specs.declared.types.TypeId.{TypeId}
use Rattle.asdu.specs.declared.sizes.CauseSize.{CauseSize}
use Rattle.asdu.specs.declared.sizes.CauseSize.TheVariants as causes
use Rattle.asdu.specs.declared.sizes.CaSize.{CaSize}
use Rattle.asdu.specs.declared.sizes.CaSize.TheVariants as cas
use Rattle.asdu.specs.declared.sizes.IoaSize.{IoaSize}
use Rattle.asdu.specs.declared.sizes.IoaSize.TheVariants as ioas
use Rattle.asdu.specs.declared.sizes.Sizes.{Sizes}
use Rattle.asdu.specs.Sizes.{ca_len, header_len, ioa_len, tcp}
use Rattle.asdu.specs.Asdu.{AsduValue, Info, IsAsdu, IsInfo, IsTag, AreSuccessive, AreInOrder}
use Rattle.asdu.specs.Asdu.{IsOriginator, body, content, header, located, originator_octets}
use Rattle.asdu.specs.Asdu.{tag_octets, vsq}
use Rattle.asdu.specs.Layout.{address_octets, common_address_place, content_octets, objects_place}
use Rattle.asdu.specs.Layout.{object_address_at}
use Rattle.asdu.specs.Translation.{IsPiece, chunks, in_chunks, piece_size, piece_with}
use Rattle.asdu.specs.Translation.{report_pieces}
use Rattle.asdu.proofs.Chunks.{AreEnough, enough, enough-drop, enough-some, All-drop}
use Rattle.asdu.proofs.Counts.{piece_size-some}
use Rattle.asdu.proofs.OctetPlaces.{place-is}
use Rattle.asdu.proofs.Pieces.{AreInfos-wider, piece_size-few}
use Rattle.asdu.proofs.Spelling.{IsRead-spelled}
use Rattle.delivery.specs.Answers.{cause_in_two, common_address_in_two, object_address_in_three}
use Rattle.delivery.specs.Bodies.{wide_objects, BeginAt}

-- ---- lists

front : (n : ℕ) (a b : List ℕ) → length a ≡ n → take n (a ++ b) ≡ a
front n a b e = ap (λ (k : ℕ). take k (a ++ b)) (sym e) ∙ all a
  where
    all : (xs : List ℕ) → take (length xs) (xs ++ b) ≡ xs
    all [] = refl
    all (x ∷ xs) = ap (λ (ys : List ℕ). x ∷ ys) (all xs)

back : (n : ℕ) (a b : List ℕ) → length a ≡ n → drop n (a ++ b) ≡ b
back n a b e = ap (λ (k : ℕ). drop k (a ++ b)) (sym e) ∙ all a
  where
    all : (xs : List ℕ) → drop (length xs) (xs ++ b) ≡ b
    all [] = refl
    all (x ∷ xs) = all xs

-- chunks, joined
joined : (g : Info → List ℕ) (m k : ℕ) (xs : List Info) → AreEnough m k (length xs)
    → flat_map (λ (ys : List Info). flat_map g ys) (chunks m k xs) ≡ flat_map g xs
joined g m zero [] h = refl
joined g m zero (x ∷ xs) h = absurd (let low = h.enough in omega arith)
joined g m (suc k) xs h =
    ap (λ (ys : List ℕ). flat_map g (take m xs) ++ ys)
    (joined g m k (drop m xs) (enough-drop m k xs h))
    ∙ sym (flat_map-append g (take m xs) (drop m xs))
    ∙ ap (λ (ys : List Info). flat_map g ys) (take-append-drop m xs)

-- ---- one object

content_is : (t : TypeId) (w : ℕ) (i : Info) → IsInfo t w i → length (content i) ≡ content_octets t
content_is t w i h =
    length-append i.element (tag_octets i.tag)
    ∙ ap (λ (n : ℕ). n + length (tag_octets i.tag)) h.size
    ∙ ap (λ (n : ℕ). (row t).size + n) (by (row t).tagged i.tag h.tag)
  where
    by : (b : Bool) (o : Option (List ℕ)) → IsTag b o
        → length (tag_octets o) ≡ (if b then 7 else 0)
    by true None g = absurd g
    by true (Some x) g = g.0
    by false None g = refl
    by false (Some x) g = absurd g

second : (n : ℕ) → n < 256 ^ 1 → 0 ≡ byte_at 1 n
second n h = omega (arith, h)

third : (n : ℕ) → n < 256 ^ 2 → 0 ≡ byte_at 2 n
third n h = omega (arith, h)

small : (n : ℕ) → n < 256 ^ 1 → n < 256 ^ 2
small n h = omega (arith, h)

alike : (x y y' z z' : ℕ) → y ≡ y' → z ≡ z' → x ∷ y ∷ z ∷ [] ≡ x ∷ y' ∷ z' ∷ []
alike x y y' z z' e f = cc

wide_address : (w : IoaSize) (a : ℕ) (x r : List ℕ) → a < 256 ^ ioa_len w
    → object_address_in_three w 0 ((little_bytes (ioa_len w) a ++ x) ++ r) ≡ little_bytes 3 a
wide_address ioas.One a x r h =
    alike (byte_at 0 a) 0 (byte_at 1 a) 0 (byte_at 2 a) (second a h) (third a (small a h))
wide_address ioas.Two a x r h =
    alike (byte_at 0 a) (byte_at 1 a) (byte_at 1 a) 0 (byte_at 2 a) refl (third a h)
wide_address ioas.Three a x r h = refl

behind : (w : IoaSize) (a : ℕ) (x r : List ℕ)
    → drop (address_octets w) ((little_bytes (ioa_len w) a ++ x) ++ r) ≡ x ++ r
behind ioas.One a x r = refl
behind ioas.Two a x r = refl
behind ioas.Three a x r = refl

-- ---- all objects, each with its address

module _ (w : IoaSize) (t : TypeId) where
  abbrev narrow : List Info → List ℕ
  narrow is = flat_map (located (ioa_len w)) is

  wide : (is : List Info) → AllByRecursion (IsInfo t (ioa_len w)) is
      → wide_objects w (content_octets t) (length is) (narrow is) ≡ flat_map (located 3) is
  wide [] h = refl
  wide (i ∷ is) h =
      let c : ℕ = content_octets t in
      let rest : List ℕ = narrow is in
      let whole : List ℕ = (little_bytes (ioa_len w) i.address ++ content i) ++ rest in
      let long : length (content i) ≡ c = content_is t (ioa_len w) i h.0 in
      let left : drop (address_octets w) whole ≡ content i ++ rest =
      behind w i.address (content i) rest in
      ap (λ (ys : List ℕ). ys ++ (take c (drop (address_octets w) whole)
      ++ wide_objects w c (length is) (drop c (drop (address_octets w) whole))))
      (wide_address w i.address (content i) rest h.0.address)
      ∙ ap (λ (ys : List ℕ). little_bytes 3 i.address ++ (take c ys
      ++ wide_objects w c (length is) (drop c ys))) left
      ∙ ap (λ (ys : List ℕ). little_bytes 3 i.address ++ (ys
      ++ wide_objects w c (length is) (drop c (content i ++ rest)))) (front c (content i) rest long)
      ∙ ap (λ (ys : List ℕ). little_bytes 3 i.address ++ (content i
      ++ wide_objects w c (length is) ys)) (back c (content i) rest long)
      ∙ ap (λ (ys : List ℕ). little_bytes 3 i.address ++ (content i ++ ys)) (wide is h.1)

-- ---- the octets of a piece

-- by its SQ
abbrev form : AsduValue → Bool → List Info → List ℕ
form u b is = header tcp u.kind b (length is) u.cause u.originator u.ca ++ body 3 b is

apart_body : (u : AsduValue) (b : Bool) → b ≡ false → (is : List Info)
    → drop 6 (form u b is) ≡ flat_map (located 3) is
apart_body u b e is = ap (λ (c : Bool). body 3 c is) e

together_body : (u : AsduValue) (b : Bool) → b ≡ true → (is : List Info)
    → drop 9 (form u b is) ≡ flat_map content is
together_body u b e is = ap (λ (c : Bool). drop 9 (form u c is)) e ∙ by is
  where
    by : (js : List Info) → drop 9 (form u true js) ≡ flat_map content js
    by [] = refl
    by (j ∷ js) = refl

apart_bodies : (u : AsduValue) → u.sequence ≡ false → (cs : List (List Info))
    → flat_map (λ (piece : List ℕ). drop 6 piece) (map (piece_with u) cs)
    ≡ flat_map (λ (is : List Info). flat_map (located 3) is) cs
apart_bodies u e [] = refl
apart_bodies u e (c ∷ cs) =
    ap (λ (ys : List ℕ). ys ++ flat_map (λ (piece : List ℕ). drop 6 piece) (map (piece_with u) cs))
    (apart_body u u.sequence e c)
    ∙ ap (λ (ys : List ℕ). flat_map (located 3) c ++ ys) (apart_bodies u e cs)

together_bodies : (u : AsduValue) → u.sequence ≡ true → (cs : List (List Info))
    → flat_map (λ (piece : List ℕ). drop 9 piece) (map (piece_with u) cs)
    ≡ flat_map (λ (is : List Info). flat_map content is) cs
together_bodies u e [] = refl
together_bodies u e (c ∷ cs) =
    ap (λ (ys : List ℕ). ys ++ flat_map (λ (piece : List ℕ). drop 9 piece) (map (piece_with u) cs))
    (together_body u u.sequence e c)
    ∙ ap (λ (ys : List ℕ). flat_map content c ++ ys) (together_bodies u e cs)

-- ---- where the pieces begin

successive : (m a : ℕ) (is : List Info) → AreSuccessive a is
    → AreSuccessive (a + length (take m is)) (drop m is)
successive zero a is h =
    let same : a ≡ a + 0 = omega arith in
    subst (λ (n : ℕ). AreSuccessive n is) same h
successive (suc m) a [] h = tt
successive (suc m) a (i ∷ is) h =
    let same : suc a + length (take m is) ≡ a + suc (length (take m is)) = omega arith in
    subst (λ (n : ℕ). AreSuccessive n (drop m is)) same (successive m (suc a) is h.1)

first_address : (u : AsduValue) (b : Bool) → b ≡ true → (i : Info) (is : List Info)
    → i.address < 256 ^ 3 → object_address_at ioas.Three 6 (form u b (i ∷ is)) ≡ i.address
first_address u b e i is h =
    ap (λ (c : Bool). object_address_at ioas.Three 6 (form u c (i ∷ is))) e
    ∙ octets i.address h
  where
    octets : (n : ℕ) → n < 256 ^ 3
        → byte_at 0 n + 256 * byte_at 1 n + 65536 * byte_at 2 n ≡ n
    octets n low = omega (arith, low)

number : (u : AsduValue) (b : Bool) → b ≡ true → (is : List Info) → length is ≤ 127
    → slice_index (form u b is) 1 % 128 ≡ length is
number u b e is few =
    ap (λ (c : Bool). ((if c then 128 else 0) + length is) % 128) e ∙ omega (arith, few)

few_taken : (m : ℕ) (is : List Info) → length (take m is) ≤ m
few_taken zero is = omega arith
few_taken (suc m) [] = omega arith
few_taken (suc m) (i ∷ is) = (let few : length (take m is) ≤ m = few_taken m is in
    omega (arith, few))

begin : (u : AsduValue) → u.sequence ≡ true → (m k a : ℕ) (is : List Info) → 1 ≤ m → m ≤ 127
    → AreEnough m k (length is) → AreSuccessive a is → AllByRecursion (IsInfo u.kind 3) is
    → BeginAt a (map (piece_with u) (chunks m k is))
begin u e m zero a is some most h s all = tt
begin u e m (suc k) a [] some most h s all =
    absurd (let one : 1 ≤ 0 = enough-some m k 0 h in omega (arith, one))
begin u e zero (suc k) a (i ∷ is) some most h s all = absurd (omega (arith, some))
begin u e (suc m) (suc k) a (i ∷ is) some most h s all =
    let few : length (take m is) ≤ m = few_taken m is in
    let count : slice_index (piece_with u (i ∷ take m is)) 1 % 128
    ≡ length (take (suc m) (i ∷ is)) =
    number u u.sequence e (i ∷ take m is) (omega (arith, few, most)) in (
      first_address u u.sequence e i (take m is) all.0.address ∙ s.0,
      subst (λ (n : ℕ). BeginAt (a + n) (map (piece_with u) (chunks (suc m) k (drop m is))))
          (sym count)
          (begin u e (suc m) k (a + length (take (suc m) (i ∷ is))) (drop m is) some most
          (enough-drop (suc m) k (i ∷ is) h) (successive (suc m) a (i ∷ is) s)
          (All-drop (IsInfo u.kind 3) (suc m) (i ∷ is) all)),
    )

-- ---- cause, originator and common address

four : (d o o' n n1 n1' : ℕ) → o ≡ o' → n1 ≡ n1'
    → d ∷ o ∷ n ∷ n1 ∷ [] ≡ d ∷ o' ∷ n ∷ n1' ∷ []
four d o o' n n1 n1' e f = cc

abbrev heading : CauseSize → CaSize → (k q d o n : ℕ) → List ℕ → List ℕ
heading c a k q d o n rest =
    k ∷ q ∷ d ∷ ((originator_octets c o ++ little_bytes (ca_len a) n) ++ rest)

head_of : (c : CauseSize) (a : CaSize) (k q d o n : ℕ) (rest : List ℕ) → IsOriginator c o
    → n < 256 ^ ca_len a
    → cause_in_two c (heading c a k q d o n rest)
    ++ common_address_in_two a (common_address_place c) (heading c a k q d o n rest)
    ≡ d ∷ o ∷ byte_at 0 n ∷ byte_at 1 n ∷ []
head_of causes.One cas.One k q d o n rest ho hn =
    four d 0 o (byte_at 0 n) 0 (byte_at 1 n) (sym ho) (second n hn)
head_of causes.One cas.Two k q d o n rest ho hn =
    four d 0 o (byte_at 0 n) (byte_at 1 n) (byte_at 1 n) (sym ho) refl
head_of causes.Two cas.One k q d o n rest ho hn =
    four d o o (byte_at 0 n) 0 (byte_at 1 n) refl (second n hn)
head_of causes.Two cas.Two k q d o n rest ho hn = refl

-- ---- the report

pieces_are : (u : AsduValue)
    → report_pieces u ≡ map (piece_with u) (in_chunks (piece_size u.kind u.sequence) u.infos)
unfolding report_pieces
pieces_are u = refl

module _ (sizes : Sizes) (u : AsduValue) (report : List ℕ) (is : IsAsdu sizes u report) where
  -- what stands behind its header
  rest : drop (objects_place sizes.cause sizes.ca) report
      ≡ body (ioa_len sizes.ioa) u.sequence u.infos
  rest =
      ap (λ (n : ℕ). drop n report) (sym (place-is sizes.cause sizes.ca))
      ∙ ap (λ (xs : List ℕ). drop (header_len sizes) xs) is.octets
      ∙ (IsRead-spelled sizes u is.value).rest

  abbrev most : ℕ
  most = piece_size u.kind u.sequence

  fits : AreEnough most (div_ceil (length u.infos) most) (length u.infos)
  fits = enough most (length u.infos) (piece_size-some u.kind u.sequence)

  pub carried_apart : u.sequence ≡ false → (n : ℕ) → length u.infos ≡ n
      → flat_map (λ (piece : List ℕ). drop 6 piece) (report_pieces u)
      ≡ wide_objects sizes.ioa (content_octets u.kind) n
      (drop (objects_place sizes.cause sizes.ca) report)
  carried_apart e n count =
      ap (λ (ps : List (List ℕ)). flat_map (λ (piece : List ℕ). drop 6 piece) ps) (pieces_are u)
      ∙ apart_bodies u e (in_chunks most u.infos)
      ∙ joined (located 3) most (div_ceil (length u.infos) most) u.infos fits
      ∙ sym (wide sizes.ioa u.kind u.infos is.value.infos)
      ∙ ap (λ (xs : List ℕ). wide_objects sizes.ioa (content_octets u.kind) (length u.infos) xs)
      (sym (rest ∙ ap (λ (b : Bool). body (ioa_len sizes.ioa) b u.infos) e))
      ∙ ap (λ (k : ℕ). wide_objects sizes.ioa (content_octets u.kind) k
      (drop (objects_place sizes.cause sizes.ca) report)) count

  -- with SQ 1
  behind_first : (w : IoaSize) (js : List Info) → 1 ≤ length js
      → drop (address_octets w) (body (ioa_len w) true js) ≡ flat_map content js
  behind_first w [] some = absurd (omega (arith, some))
  behind_first ioas.One (j ∷ js) some = refl
  behind_first ioas.Two (j ∷ js) some = refl
  behind_first ioas.Three (j ∷ js) some = refl

  pub carried_together : u.sequence ≡ true
      → flat_map (λ (piece : List ℕ). drop 9 piece) (report_pieces u)
      ≡ drop (address_octets sizes.ioa) (drop (objects_place sizes.cause sizes.ca) report)
  carried_together e =
      ap (λ (ps : List (List ℕ)). flat_map (λ (piece : List ℕ). drop 9 piece) ps) (pieces_are u)
      ∙ together_bodies u e (in_chunks most u.infos)
      ∙ joined content most (div_ceil (length u.infos) most) u.infos fits
      ∙ sym (behind_first sizes.ioa u.infos is.value.some)
      ∙ ap (λ (xs : List ℕ). drop (address_octets sizes.ioa) xs)
      (sym (rest ∙ ap (λ (b : Bool). body (ioa_len sizes.ioa) b u.infos) e))

  in_order : (b : Bool) → b ≡ true → (i : Info) (js : List Info) → AreInOrder b (i ∷ js)
      → AreSuccessive i.address (i ∷ js)
  in_order true e i js h = h
  in_order false e i js h = absurd (no e)
    where
      no : false ≡ true → ⊥
      no f = cc

  pub begins : u.sequence ≡ true → (i : Info) (js : List Info) → u.infos ≡ i ∷ js
      → BeginAt i.address (report_pieces u)
  begins e i js first =
      subst (λ (ps : List (List ℕ)). BeginAt i.address ps) (sym (pieces_are u))
      (begin u e most (div_ceil (length u.infos) most) i.address u.infos
      (piece_size-some u.kind u.sequence)
      (piece_size-few u.kind u.sequence most (omega arith)) fits
      (subst (λ (l : List Info). AreSuccessive i.address l) (sym first)
      (in_order u.sequence e i js
      (subst (λ (l : List Info). AreInOrder u.sequence l) first is.value.order)))
      (AreInfos-wider u.kind sizes.ioa u.infos is.value.infos))

  pub some_first : (js : List Info) → 1 ≤ length js → (i : Info) × (ks : List Info)
      × (js ≡ i ∷ ks)
  some_first [] some = absurd (omega (arith, some))
  some_first (j ∷ js) some = (j, js, refl)

  -- ---- the header of a piece

  pub headed : (piece : List ℕ) → IsPiece u piece
      → take 4 (drop 2 piece)
      ≡ cause_in_two sizes.cause report
      ++ common_address_in_two sizes.ca (common_address_place sizes.cause) report
  headed piece h =
      ap (λ (xs : List ℕ). take 4 (drop 2 xs)) h.spells.octets
      ∙ sym (head_of sizes.cause sizes.ca (row u.kind).code (vsq u.sequence (length u.infos))
      u.cause u.originator u.ca (body (ioa_len sizes.ioa) u.sequence u.infos) is.value.originator
      is.value.ca)
      ∙ ap (λ (xs : List ℕ). cause_in_two sizes.cause xs
      ++ common_address_in_two sizes.ca (common_address_place sizes.cause) xs) (sym is.octets)
