-- Each octet of a spelling stands where the standard has it.
use Rattle.std.proofs.Common.{◌≡◌, ℕ, zero, suc, ◌+◌, ◌*◌, ◌/◌, ◌%◌, ◌^◌, ◌<◌, ◌≤◌, Bool, true}
use Rattle.std.proofs.Common.{false}
use Rattle.std.proofs.Common.{List, [], ◌∷◌, ◌++◌, length, drop, Option, Some, None, refl, sym, ap}
use Rattle.std.proofs.Common.{subst, ◌∙◌, arith, append_assoc, length-append}
use Rattle.std.specs.Prelude.{slice_get, slice_index, is_some}
use Rattle.std.specs.Int.{byte_at, bytes_low_first}
use Rattle.std.specs.List.{flat_map, AllByRecursion}
use Rattle.std.proofs.lemmas.List.{drop_at, drop-drop, get_or-drop, get_or_append_left}
use Rattle.byteorder.specs.Endian.{little_bytes, little_number}
use Rattle.byteorder.specs.Numbers.{little_number-reads_back, length-bytes_low_first}
use Rattle.elements.specs.declared.types.TypeId.{TypeId}
use Rattle.elements.specs.declared.types.TypeId.TheVariants.{MSpNa1, MDpNa1, MStNa1, MBoNa1, MMeNa1}
use Rattle.elements.specs.declared.types.TypeId.TheVariants.{MMeNb1, MMeNc1, MItNa1, MSpTb1, MDpTb1}
use Rattle.elements.specs.declared.types.TypeId.TheVariants.{MStTb1, MBoTb1, MMeTd1, MMeTe1, MMeTf1}
use Rattle.elements.specs.declared.types.TypeId.TheVariants.{MItTb1, MEiNa1, CScNa1, CDcNa1, CRcNa1}
use Rattle.elements.specs.declared.types.TypeId.TheVariants.{CSeNa1, CSeNb1, CIcNa1, CScTa1, CDcTa1}
use Rattle.elements.specs.declared.types.TypeId.TheVariants.{CRcTa1, CSeTa1, CSeTb1}
use Rattle.elements.specs.Types.{row}
use Rattle.elements.specs.Octets.{AreOctets}
use Rattle.asdu.specs.declared.sizes.CauseSize.{CauseSize}
use Rattle.asdu.specs.declared.sizes.CauseSize.TheVariants as causes
use Rattle.asdu.specs.declared.sizes.CaSize.{CaSize}
use Rattle.asdu.specs.declared.sizes.CaSize.TheVariants as cas
use Rattle.asdu.specs.declared.sizes.IoaSize.{IoaSize}
use Rattle.asdu.specs.declared.sizes.IoaSize.TheVariants as ioas
use Rattle.asdu.specs.declared.sizes.Sizes.{Sizes}
use Rattle.asdu.specs.Sizes.{ca_len, cause_len, ioa_len, header_len}
use Rattle.asdu.specs.Asdu.{AsduValue, Info, IsAsdu, IsInfo, IsTag, AreSuccessive, tag_octets}
use Rattle.asdu.specs.Asdu.{content, content_len, located, body, AreInOrder, IsOriginator, vsq}
use Rattle.asdu.specs.Asdu.{originator_octets, header, spelled}
use Rattle.asdu.specs.Fields.{number_at}
use Rattle.asdu.specs.Refusals.{body_len}
use Rattle.asdu.specs.Layout.{objects_place, address_octets, content_octets, object_address_at}
use Rattle.asdu.specs.Layout.{StandFrom, HasContentAt, StandsApart, StandsInSequence}
use Rattle.asdu.proofs.ObjectLists.{length-content}
use Rattle.asdu.proofs.Spelling.{IsRead-spelled, IsWhole-spelled}

-- ---- Sizes

pub place-is : (c : CauseSize) (a : CaSize) → 2 + cause_len c + ca_len a ≡ objects_place c a
place-is causes.One cas.One = refl
place-is causes.One cas.Two = refl
place-is causes.Two cas.One = refl
place-is causes.Two cas.Two = refl

pub width-is : (w : IoaSize) → ioa_len w ≡ address_octets w
width-is ioas.One = refl
width-is ioas.Two = refl
width-is ioas.Three = refl

octet-is : (place j : ℕ) (xs : List ℕ) → slice_index (drop place xs) j ≡ slice_index xs (place + j)
octet-is place j xs = get_or-drop place xs j 0

first-is : (place : ℕ) (xs : List ℕ) → slice_index (drop place xs) 0 ≡ slice_index xs place
first-is place xs =
    let here : place + 0 ≡ place = omega arith in octet-is place 0 xs ∙ ap (slice_index xs) here

one-is : (place : ℕ) (xs : List ℕ)
    → slice_index xs place ≡ slice_index (drop place xs) 0 + 256 * 0
one-is place xs = omega (arith, first-is place xs)

two-is : (place : ℕ) (xs : List ℕ) → slice_index xs place + 256 * slice_index xs (place + 1)
    ≡ slice_index (drop place xs) 0 + 256 * (slice_index (drop place xs) 1 + 256 * 0)
two-is place xs = omega (arith, first-is place xs, octet-is place 1 xs)

three-is : (place : ℕ) (xs : List ℕ)
    → slice_index xs place + 256 * slice_index xs (place + 1) + 65536 * slice_index xs (place + 2)
    ≡ slice_index (drop place xs) 0
    + 256 * (slice_index (drop place xs) 1 + 256 * (slice_index (drop place xs) 2 + 256 * 0))
three-is place xs =
    omega (arith, first-is place xs, octet-is place 1 xs, octet-is place 2 xs)

pub address-is : (w : IoaSize) (place : ℕ) (xs : List ℕ)
    → object_address_at w place xs ≡ little_number (ioa_len w) (drop place xs)
address-is ioas.One place xs = one-is place xs
address-is ioas.Two place xs = two-is place xs
address-is ioas.Three place xs = three-is place xs

-- ---- Contents

pub has_tag : (b : Bool) (o : Option (List ℕ)) → IsTag b o → is_some o ≡ b
has_tag true None h = absurd h
has_tag true (Some octets) h = refl
has_tag false None h = refl
has_tag false (Some octets) h = absurd h

tag_size : (b : Bool) (o : Option (List ℕ)) → IsTag b o → (tag : List ℕ) → o ≡ Some tag
    → length tag ≡ 7
tag_size true None h tag e = absurd h
tag_size true (Some octets) h tag e = let same : octets ≡ tag = cc in
    ap (λ xs. length xs) (sym same) ∙ h.0
tag_size false None h tag e = cc
tag_size false (Some octets) h tag e = absurd h

-- what begins what is left behind a place stands from it on
stands : (place : ℕ) (octets rest xs : List ℕ) → drop place xs ≡ octets ++ rest
    → StandFrom place octets xs
stands place octets rest xs h j within =
    sym (get_or-drop place xs j 0) ∙ ap (λ ys. slice_index ys j) h
    ∙ get_or_append_left octets rest 0 j within

content_stands : (t : TypeId) (w place : ℕ) (i : Info) (rest xs : List ℕ) → IsInfo t w i
    → drop place xs ≡ content i ++ rest → HasContentAt t place xs i
content_stands t w place i rest xs h there =
    let apart = there ∙ append_assoc i.element (tag_octets i.tag) rest in
    let behind : drop (place + (row t).size) xs ≡ tag_octets i.tag ++ rest =
    sym (drop-drop (row t).size place xs) ∙ ap (drop (row t).size) apart
    ∙ drop_at i.element (tag_octets i.tag ++ rest) (row t).size h.size in
    record {
      size = h.size;
      element = stands place i.element (tag_octets i.tag ++ rest) xs apart;
      tagged = has_tag (row t).tagged i.tag h.tag;
      tag_size = tag_size (row t).tagged i.tag h.tag;
      tag = λ tag e. stands (place + (row t).size) tag rest xs (behind
          ∙ ap (λ o. tag_octets o ++ rest) e);
    }

-- ---- Objects of one length

module _ (f : Info → List ℕ) (step : ℕ) where
  -- the octets of the object behind k others
  kth : (is : List Info) (k : ℕ) (i : Info)
      → AllByRecursion (λ i. length (f i) ≡ step) is → slice_get is k ≡ Some i
      → (rest : List ℕ) × (drop (k * step) (flat_map f is) ≡ f i ++ rest)
  kth [] k i all e = cc
  kth (j ∷ js) zero i all e =
      let same : j ≡ i = cc in
      let none : 0 * step ≡ 0 = omega arith in (
        flat_map f js,
        ap (λ n. drop n (flat_map f (j ∷ js))) none ∙ ap (λ o. f o ++ flat_map f js) same,
      )
  kth (j ∷ js) (suc k) i all e =
      let far : suc k * step ≡ step + k * step = omega arith in
      let later = kth js k i all.1 e in (
        later.0,
        ap (λ n. drop n (flat_map f (j ∷ js))) far
            ∙ sym (drop-drop (k * step) step (flat_map f (j ∷ js)))
            ∙ ap (drop (k * step)) (drop_at (f j) (flat_map f js) step all.0) ∙ later.1,
      )

-- what each object has
of_each : (P : Info → Type 0) (is : List Info) (k : ℕ) (i : Info) → AllByRecursion P is
    → slice_get is k ≡ Some i → P i
of_each P [] k i all e = cc
of_each P (j ∷ js) zero i all e = let same : j ≡ i = cc in subst P same all.0
of_each P (j ∷ js) (suc k) i all e = of_each P js k i all.1 e

located_length : (t : TypeId) (w : ℕ) (is : List Info) → AllByRecursion (IsInfo t w) is
    → AllByRecursion (λ i. length (located w i) ≡ w + content_len t) is
located_length t w [] h = tt
located_length t w (i ∷ is) h =
    let here = length-content t w i h.0 in
    let address = length-bytes_low_first 0 w i.address in
    let first = length-append (little_bytes w i.address) (content i) in
    (omega arith, located_length t w is h.1)

contents_length : (t : TypeId) (w : ℕ) (is : List Info) → AllByRecursion (IsInfo t w) is
    → AllByRecursion (λ i. length (content i) ≡ content_len t) is
contents_length t w [] h = tt
contents_length t w (i ∷ is) h = (length-content t w i h.0, contents_length t w is h.1)

successive_kth : (a : ℕ) (is : List Info) (k : ℕ) (i : Info) → AreSuccessive a is
    → slice_get is k ≡ Some i → a + k ≡ i.address
successive_kth a [] k i order e = cc
successive_kth a (j ∷ js) zero i order e =
    let same : j ≡ i = cc in
    let here = ap (λ o. o.address) same in
    omega (arith, order.0)
successive_kth a (j ∷ js) (suc k) i order e =
    let later = successive_kth (suc a) js k i order.1 e in omega arith

-- ---- The two forms

-- what stands behind the header
behind : (s : Sizes) (u : AsduValue) (xs : List ℕ) → IsAsdu s u xs
    → drop (objects_place s.cause s.ca) xs ≡ body (ioa_len s.ioa) u.sequence u.infos
behind s u xs h =
    let place : header_len s ≡ objects_place s.cause s.ca = place-is s.cause s.ca in
    ap (λ n. drop n xs) (sym place) ∙ ap (drop (header_len s)) h.octets
    ∙ (IsRead-spelled s u h.value).rest

pub apart : (s : Sizes) (u : AsduValue) (xs : List ℕ) → IsAsdu s u xs → u.sequence ≡ false
    → (k : ℕ) (i : Info) → slice_get u.infos k ≡ Some i
    → StandsApart s.ioa u.kind (objects_place s.cause s.ca
    + k * (address_octets s.ioa + content_octets u.kind)) xs i
apart s u xs h mode k i e =
    let w = ioa_len s.ioa in
    let step = w + content_len u.kind in
    let place = objects_place s.cause s.ca + k * step in
    let info = of_each (IsInfo u.kind w) u.infos k i h.value.infos e in
    let found = kth (located w) step u.infos k i
    (located_length u.kind w u.infos h.value.infos) e in
    let there : drop place xs ≡ located w i ++ found.0 =
    sym (drop-drop (k * step) (objects_place s.cause s.ca) xs)
    ∙ ap (drop (k * step)) (behind s u xs h ∙ ap (λ b. body w b u.infos) mode)
    ∙ found.1 in
    let here = there ∙ append_assoc (little_bytes w i.address) (content i) found.0 in
    let long = length-bytes_low_first 0 w i.address in
    let address : little_number w (drop place xs) ≡ i.address =
    ap (little_number w) here
    ∙ little_number-reads_back w i.address (content i ++ found.0) info.address in
    let after : drop (place + w) xs ≡ content i ++ found.0 =
    sym (drop-drop w place xs) ∙ ap (drop w) here
    ∙ drop_at (little_bytes w i.address) (content i ++ found.0) w long in
    let width = width-is s.ioa in
    record {
      address = rw (← width) (address-is s.ioa place xs ∙ address);
      content = rw (← width) (content_stands u.kind w (place + w) i found.0 xs info after);
    }

sequence_at : (t : TypeId) (w place : ℕ) (is : List Info) (k : ℕ) (i : Info) (xs : List ℕ)
    → AllByRecursion (IsInfo t w) is → AreInOrder true is
    → drop place xs ≡ body w true is → slice_get is k ≡ Some i
    → (little_number w (drop place xs) + k ≡ i.address)
    × ((rest : List ℕ) × (drop (place + w + k * content_len t) xs ≡ content i ++ rest))
sequence_at t w place [] k i xs all order there e = cc
sequence_at t w place (j ∷ js) k i xs all order there e =
    let address = little_bytes w j.address in
    let contents = flat_map content (j ∷ js) in
    let first : little_number w (drop place xs) ≡ j.address =
    ap (little_number w) there ∙ little_number-reads_back w j.address contents all.0.address in
    let found = kth content (content_len t) (j ∷ js) k i (contents_length t w (j ∷ js) all) e in
    let after : drop (place + w) xs ≡ contents =
    sym (drop-drop w place xs) ∙ ap (drop w) there
    ∙ drop_at address contents w (length-bytes_low_first 0 w j.address) in (
      ap (λ n. n + k) first ∙ successive_kth j.address (j ∷ js) k i order e,
      (
        found.0,
        sym (drop-drop (k * content_len t) (place + w) xs)
            ∙ ap (drop (k * content_len t)) after ∙ found.1,
      ),
    )

pub together : (s : Sizes) (u : AsduValue) (xs : List ℕ) → IsAsdu s u xs → u.sequence ≡ true
    → (k : ℕ) (i : Info) → slice_get u.infos k ≡ Some i
    → StandsInSequence s.ioa u.kind k (objects_place s.cause s.ca) xs i
together s u xs h mode k i e =
    let w = ioa_len s.ioa in
    let place = objects_place s.cause s.ca in
    let info = of_each (IsInfo u.kind w) u.infos k i h.value.infos e in
    let order = subst (λ b. AreInOrder b u.infos) mode h.value.order in
    let there = behind s u xs h ∙ ap (λ b. body w b u.infos) mode in
    let found = sequence_at u.kind w place u.infos k i xs h.value.infos order there e in
    let width = width-is s.ioa in
    record {
      address = ap (λ n. n + k) (address-is s.ioa place xs) ∙ found.0;
      content = rw (← width) (content_stands u.kind w (place + w + k * content_len u.kind) i
          found.1.0 xs info found.1.1);
    }

-- ---- How many there are

whole : (s : Sizes) (u : AsduValue) (xs : List ℕ) → IsAsdu s u xs
    → length xs ≡ header_len s + body_len u.kind (ioa_len s.ioa) u.sequence (length u.infos)
whole s u xs h =
    let r = IsRead-spelled s u h.value in
    let all = (IsWhole-spelled s u h.value).whole in
    ap (λ ys. length ys) h.octets ∙ all
    ∙ ap (λ b. header_len s
    + body_len u.kind (ioa_len s.ioa) b (number_at (spelled s u))) r.sequence
    ∙ ap (λ n. header_len s + body_len u.kind (ioa_len s.ioa) u.sequence n) r.number

pub apart_length : (s : Sizes) (u : AsduValue) (xs : List ℕ) → IsAsdu s u xs → u.sequence ≡ false
    → length xs ≡ objects_place s.cause s.ca
    + length u.infos * (address_octets s.ioa + content_octets u.kind)
apart_length s u xs h mode =
    let all = whole s u xs h
    ∙ ap (λ b. header_len s + body_len u.kind (ioa_len s.ioa) b (length u.infos)) mode in
    rw (← place-is s.cause s.ca, ← width-is s.ioa) all

pub together_length : (s : Sizes) (u : AsduValue) (xs : List ℕ) → IsAsdu s u xs
    → u.sequence ≡ true
    → length xs ≡ objects_place s.cause s.ca + address_octets s.ioa
    + length u.infos * content_octets u.kind
together_length s u xs h mode =
    let all = whole s u xs h
    ∙ ap (λ b. header_len s + body_len u.kind (ioa_len s.ioa) b (length u.infos)) mode in
    let place = place-is s.cause s.ca in
    let width = width-is s.ioa in
    omega arith

-- ---- Octets

octets-append : (xs ys : List ℕ) → AreOctets xs → AreOctets ys → AreOctets (xs ++ ys)
octets-append [] ys all more = more
octets-append (x ∷ xs) ys all more = λ i. elim i as (λ j. slice_index (x ∷ xs ++ ys) j < 256)
    [ zero ↦ all 0 | suc j ↦ octets-append xs ys (λ k. all (suc k)) more j ]

octets-cons : (x : ℕ) (xs : List ℕ) → x < 256 → AreOctets xs → AreOctets (x ∷ xs)
octets-cons x xs first all = λ i. elim i as (λ j. slice_index (x ∷ xs) j < 256)
    [ zero ↦ first | suc j ↦ all j ]

below : (n : ℕ) → n % 256 < 256
below n = omega arith

byte_at-below : (j x : ℕ) → byte_at j x < 256
byte_at-below zero x = below x
byte_at-below (suc j) x = below (x / 256 ^ suc j)

octets-number : (j n x : ℕ) → AreOctets (bytes_low_first j n x)
octets-number j zero x = λ i. omega arith
octets-number j (suc n) x =
    octets-cons (byte_at j x) (bytes_low_first (suc j) n x) (byte_at-below j x)
    (octets-number (suc j) n x)

octets-tag : (b : Bool) (o : Option (List ℕ)) → IsTag b o → AreOctets (tag_octets o)
octets-tag true None h = absurd h
octets-tag true (Some octets) h = h.1
octets-tag false None h = λ i. omega arith
octets-tag false (Some octets) h = absurd h

octets-content : (t : TypeId) (w : ℕ) (i : Info) → IsInfo t w i → AreOctets (content i)
octets-content t w i h =
    octets-append i.element (tag_octets i.tag) h.octets (octets-tag (row t).tagged i.tag h.tag)

octets-contents : (t : TypeId) (w : ℕ) (is : List Info) → AllByRecursion (IsInfo t w) is
    → AreOctets (flat_map content is)
octets-contents t w [] h = λ i. omega arith
octets-contents t w (i ∷ is) h =
    octets-append (content i) (flat_map content is) (octets-content t w i h.0)
    (octets-contents t w is h.1)

octets-each : (t : TypeId) (w : ℕ) (is : List Info) → AllByRecursion (IsInfo t w) is
    → AreOctets (flat_map (located w) is)
octets-each t w [] h = λ i. omega arith
octets-each t w (i ∷ is) h =
    octets-append (located w i) (flat_map (located w) is)
    (octets-append (little_bytes w i.address) (content i) (octets-number 0 w i.address)
    (octets-content t w i h.0)) (octets-each t w is h.1)

octets-body : (t : TypeId) (w : ℕ) (b : Bool) (is : List Info) → AllByRecursion (IsInfo t w) is
    → AreOctets (body w b is)
octets-body t w false is h = octets-each t w is h
octets-body t w true [] h = λ i. omega arith
octets-body t w true (i ∷ is) h =
    octets-append (little_bytes w i.address) (flat_map content (i ∷ is))
    (octets-number 0 w i.address) (octets-contents t w (i ∷ is) h)

octets-originator : (c : CauseSize) (o : ℕ) → IsOriginator c o
    → AreOctets (originator_octets c o)
octets-originator causes.One o h = λ i. omega arith
octets-originator causes.Two o h = octets-cons o [] h (λ i. omega arith)

octets-vsq : (b : Bool) (n : ℕ) → n ≤ 127 → vsq b n < 256
octets-vsq true n h = omega arith
octets-vsq false n h = omega arith

code-high : (t : TypeId) → (row t).code < 256
code-high MSpNa1 = omega arith
code-high MDpNa1 = omega arith
code-high MStNa1 = omega arith
code-high MBoNa1 = omega arith
code-high MMeNa1 = omega arith
code-high MMeNb1 = omega arith
code-high MMeNc1 = omega arith
code-high MItNa1 = omega arith
code-high MSpTb1 = omega arith
code-high MDpTb1 = omega arith
code-high MStTb1 = omega arith
code-high MBoTb1 = omega arith
code-high MMeTd1 = omega arith
code-high MMeTe1 = omega arith
code-high MMeTf1 = omega arith
code-high MItTb1 = omega arith
code-high MEiNa1 = omega arith
code-high CScNa1 = omega arith
code-high CDcNa1 = omega arith
code-high CRcNa1 = omega arith
code-high CSeNa1 = omega arith
code-high CSeNb1 = omega arith
code-high CIcNa1 = omega arith
code-high CScTa1 = omega arith
code-high CDcTa1 = omega arith
code-high CRcTa1 = omega arith
code-high CSeTa1 = omega arith
code-high CSeTb1 = omega arith

pub octets : (s : Sizes) (u : AsduValue) (xs : List ℕ) → IsAsdu s u xs → AreOctets xs
octets s u xs h =
    let v = h.value in
    let address = octets-number 0 (ca_len s.ca) u.ca in
    let of_cause = octets-originator s.cause u.originator v.originator in
    let tail = octets-append (originator_octets s.cause u.originator)
    (little_bytes (ca_len s.ca) u.ca) of_cause address in
    let second = octets-vsq u.sequence (length u.infos) v.most in
    let three =
    octets-cons u.cause (originator_octets s.cause u.originator ++ little_bytes (ca_len s.ca) u.ca)
    v.cause tail in
    let two = octets-cons (vsq u.sequence (length u.infos))
    (u.cause ∷ (originator_octets s.cause u.originator ++ little_bytes (ca_len s.ca) u.ca)) second
    three in
    let head = octets-cons (row u.kind).code (vsq u.sequence (length u.infos) ∷ u.cause
    ∷ (originator_octets s.cause u.originator ++ little_bytes (ca_len s.ca) u.ca))
    (code-high u.kind) two in
    subst (λ ys. AreOctets ys) (sym h.octets)
    (octets-append (header s u.kind u.sequence (length u.infos) u.cause u.originator u.ca)
    (body (ioa_len s.ioa) u.sequence u.infos) head
    (octets-body u.kind (ioa_len s.ioa) u.sequence u.infos v.infos))

-- ---- What stays
