-- A station's answer to a command goes on octet by octet, and bears the tag of its command.
use Rattle.std.specs.Prelude.{◌==◌, ◌&&◌, nat_le, slice_index, map}
use Rattle.std.specs.Int.{byte_at}
use Rattle.std.specs.List.{flat_map, AllByRecursion}
use Rattle.std.proofs.Common.{◌≡◌, ℕ, ◌+◌, ◌^◌, ◌<◌, ◌≤◌, ◌⊎◌, inl, inr, Bool, true, false}
use Rattle.std.proofs.Common.{Some, List, [], ◌∷◌, ◌++◌, length, drop, refl, ap, sym}
use Rattle.std.proofs.Common.{subst, ◌∙◌, arith, length-append}
use Rattle.std.proofs.lemmas.Bool.{le-leb, lt-leb, ne_eqb}
use Rattle.std.proofs.lemmas.List.{append-nil, length-map}
use Rattle.byteorder.specs.Endian.{little_bytes}
use Rattle.elements.specs.declared.tag.Cp56.{Cp56}
use Rattle.elements.specs.declared.types.TypeId.{TypeId}
use Rattle.elements.specs.Octets.{AreOctets}
use Rattle.elements.specs.Types.{row}
use Rattle.asdu.specs.declared.sizes.CauseSize.{CauseSize}
use Rattle.asdu.specs.declared.sizes.CauseSize.TheVariants as causes
use Rattle.asdu.specs.declared.sizes.CaSize.{CaSize}
use Rattle.asdu.specs.declared.sizes.CaSize.TheVariants as cas
use Rattle.asdu.specs.declared.sizes.IoaSize.{IoaSize}
use Rattle.asdu.specs.declared.sizes.IoaSize.TheVariants as ioas
use Rattle.asdu.specs.declared.sizes.Sizes.{Sizes}
use Rattle.asdu.specs.Sizes.{ca_len, ioa_len, tcp}
use Rattle.asdu.specs.Asdu.{AsduValue, Info, IsAsdu, IsInfo, IsTag, IsOriginator, FitsSizes}
use Rattle.asdu.specs.Asdu.{content, body, vsq, spelled, originator_octets}
use Rattle.asdu.specs.InformationObjects.{InformationObject, object_in, value_objects, objects_of}
use Rattle.asdu.specs.Layout.{common_address_place, objects_place, address_octets}
use Rattle.asdu.specs.Tagging.{is_plain_command, with_tag, tagged_type, tagged}
use Rattle.asdu.specs.Translation.{IsPiece}
use Rattle.asdu.specs.Writing.{with_infos}
use Rattle.gateway.specs.Tags.{bears_tag, IsTaggedAs, AreTagged}
use Rattle.gateway.specs.Works.{IsPassedOn}
use Rattle.delivery.specs.Answers.{cause_in_two, common_address_in_two, object_address_in_three}
use Rattle.delivery.specs.Answers.{answer_form}

-- ---- the octets of an ASDU with one object

abbrev raw : CauseSize → CaSize → IoaSize → (k q d o n m : ℕ) → List ℕ → List ℕ
raw c a w k q d o n m rest =
    k ∷ q ∷ d ∷ ((originator_octets c o ++ little_bytes (ca_len a) n)
    ++ (little_bytes (ioa_len w) m ++ rest))

abbrev form : CauseSize → CaSize → IoaSize → List ℕ → List ℕ
form c a w xs =
    slice_index xs 0 ∷ slice_index xs 1
    ∷ (cause_in_two c xs
    ++ (common_address_in_two a (common_address_place c) xs
    ++ (object_address_in_three w (objects_place c a) xs
    ++ drop (objects_place c a + address_octets w) xs)))

-- the octets of the widest sizes
abbrev listed : (k q d o n0 n1 m0 m1 m2 : ℕ) → List ℕ → List ℕ
listed k q d o n0 n1 m0 m1 m2 rest =
    k ∷ q ∷ d ∷ o ∷ n0 ∷ n1 ∷ m0 ∷ m1 ∷ m2 ∷ rest

alike : (k q d o o' n0 n1 n1' m0 m1 m1' m2 m2' : ℕ) (rest : List ℕ) → o ≡ o' → n1 ≡ n1'
    → m1 ≡ m1' → m2 ≡ m2'
    → listed k q d o n0 n1 m0 m1 m2 rest ≡ listed k q d o' n0 n1' m0 m1' m2' rest
alike k q d o o' n0 n1 n1' m0 m1 m1' m2 m2' rest e1 e2 e3 e4 = cc

-- a number of one octet, or of two, has zeros behind
second : (n : ℕ) → n < 256 ^ 1 → 0 ≡ byte_at 1 n
second n h = omega (arith, h)

third : (n : ℕ) → n < 256 ^ 2 → 0 ≡ byte_at 2 n
third n h = omega (arith, h)

small : (n : ℕ) → n < 256 ^ 1 → n < 256 ^ 2
small n h = omega (arith, h)

one_of : (c : CauseSize) (a : CaSize) (w : IoaSize) (k q d o n m : ℕ) (rest : List ℕ)
    → IsOriginator c o → n < 256 ^ ca_len a → m < 256 ^ ioa_len w
    → form c a w (raw c a w k q d o n m rest)
    ≡ raw causes.Two cas.Two ioas.Three k q d o n m rest
one_of causes.One cas.One ioas.One k q d o n m rest ho hn hm =
    alike k q d 0 o (byte_at 0 n) 0 (byte_at 1 n) (byte_at 0 m) 0 (byte_at 1 m) 0 (byte_at 2 m) rest
    (sym ho) (second n hn) (second m hm) (third m (small m hm))
one_of causes.One cas.One ioas.Two k q d o n m rest ho hn hm =
    alike k q d 0 o (byte_at 0 n) 0 (byte_at 1 n) (byte_at 0 m) (byte_at 1 m) (byte_at 1 m) 0
    (byte_at 2 m) rest
    (sym ho) (second n hn) refl (third m hm)
one_of causes.One cas.One ioas.Three k q d o n m rest ho hn hm =
    alike k q d 0 o (byte_at 0 n) 0 (byte_at 1 n) (byte_at 0 m) (byte_at 1 m) (byte_at 1 m)
    (byte_at 2 m) (byte_at 2 m) rest
    (sym ho) (second n hn) refl refl
one_of causes.One cas.Two ioas.One k q d o n m rest ho hn hm =
    alike k q d 0 o (byte_at 0 n) (byte_at 1 n) (byte_at 1 n) (byte_at 0 m) 0 (byte_at 1 m) 0
    (byte_at 2 m) rest
    (sym ho) refl (second m hm) (third m (small m hm))
one_of causes.One cas.Two ioas.Two k q d o n m rest ho hn hm =
    alike k q d 0 o (byte_at 0 n) (byte_at 1 n) (byte_at 1 n) (byte_at 0 m) (byte_at 1 m)
    (byte_at 1 m) 0 (byte_at 2 m) rest
    (sym ho) refl refl (third m hm)
one_of causes.One cas.Two ioas.Three k q d o n m rest ho hn hm =
    alike k q d 0 o (byte_at 0 n) (byte_at 1 n) (byte_at 1 n) (byte_at 0 m) (byte_at 1 m)
    (byte_at 1 m) (byte_at 2 m) (byte_at 2 m) rest
    (sym ho) refl refl refl
one_of causes.Two cas.One ioas.One k q d o n m rest ho hn hm =
    alike k q d o o (byte_at 0 n) 0 (byte_at 1 n) (byte_at 0 m) 0 (byte_at 1 m) 0 (byte_at 2 m) rest
    refl (second n hn) (second m hm) (third m (small m hm))
one_of causes.Two cas.One ioas.Two k q d o n m rest ho hn hm =
    alike k q d o o (byte_at 0 n) 0 (byte_at 1 n) (byte_at 0 m) (byte_at 1 m) (byte_at 1 m) 0
    (byte_at 2 m) rest
    refl (second n hn) refl (third m hm)
one_of causes.Two cas.One ioas.Three k q d o n m rest ho hn hm =
    alike k q d o o (byte_at 0 n) 0 (byte_at 1 n) (byte_at 0 m) (byte_at 1 m) (byte_at 1 m)
    (byte_at 2 m) (byte_at 2 m) rest
    refl (second n hn) refl refl
one_of causes.Two cas.Two ioas.One k q d o n m rest ho hn hm =
    alike k q d o o (byte_at 0 n) (byte_at 1 n) (byte_at 1 n) (byte_at 0 m) 0 (byte_at 1 m) 0
    (byte_at 2 m) rest
    refl refl (second m hm) (third m (small m hm))
one_of causes.Two cas.Two ioas.Two k q d o n m rest ho hn hm =
    alike k q d o o (byte_at 0 n) (byte_at 1 n) (byte_at 1 n) (byte_at 0 m) (byte_at 1 m)
    (byte_at 1 m) 0 (byte_at 2 m) rest
    refl refl refl (third m hm)
one_of causes.Two cas.Two ioas.Three k q d o n m rest ho hn hm = refl

-- one object stands alike with SQ 0 and SQ 1
body_one : (w : ℕ) (b : Bool) (i : Info)
    → body w b (i ∷ []) ≡ little_bytes w i.address ++ content i
body_one w false i = append-nil (little_bytes w i.address ++ content i)
body_one w true i = ap (λ ys. little_bytes w i.address ++ ys) (append-nil (content i))

abbrev raw_of : Sizes → AsduValue → Info → List ℕ
raw_of s v i = raw s.cause s.ca s.ioa (row v.kind).code (vsq v.sequence 1) v.cause v.originator
    v.ca i.address (content i)

spelled_one : (s : Sizes) (v : AsduValue) (i : Info)
    → spelled s (with_infos v (i ∷ [])) ≡ raw_of s v i
spelled_one s v i = ap (λ ys. (row v.kind).code ∷ vsq v.sequence 1 ∷ v.cause
    ∷ ((originator_octets s.cause v.originator ++ little_bytes (ca_len s.ca) v.ca) ++ ys))
    (body_one (ioa_len s.ioa) v.sequence i)

pub one_form : (s : Sizes) (v : AsduValue) (i : Info) (xs : List ℕ) → v.infos ≡ i ∷ []
    → IsAsdu s v xs → answer_form s xs ≡ spelled tcp (with_infos v (i ∷ []))
one_form s v i xs one h =
    let P : List Info → Type 0 = λ is. AllByRecursion (IsInfo v.kind (ioa_len s.ioa)) is in
    let info : IsInfo v.kind (ioa_len s.ioa) i = (subst P one h.value.infos).0 in
    ap (λ ys. answer_form s ys) (h.octets ∙ ap (λ is. spelled s (with_infos v is)) one
    ∙ spelled_one s v i)
    ∙ one_of s.cause s.ca s.ioa (row v.kind).code (vsq v.sequence 1) v.cause v.originator v.ca
    i.address (content i) h.value.originator h.value.ca info.address
    ∙ sym (spelled_one tcp v i)

-- ---- the pieces of an answer

pub single : (is : List Info) → length is ≡ 1 → (i : Info) × (is ≡ i ∷ [])
single [] h = absurd (omega (arith, h))
single (i ∷ []) h = (i, refl)
single (i ∷ j ∷ is) h = absurd (omega (arith, h))

-- what `asdu` says of ASDUs and their objects
abbrev pub ObjectsLaw : Type 0
ObjectsLaw = (s : Sizes) (u : AsduValue) (xs : List ℕ) → IsAsdu s u xs
    → objects_of s xs ≡ value_objects u

same_infos : (v : AsduValue) (is : List Info) (j : Info)
    → map (object_in v) is ≡ object_in v j ∷ [] → is ≡ j ∷ []
same_infos v [] j e = cc
same_infos v (i ∷ []) j e = ap (λ x. x ∷ []) (one first)
  where
    first : object_in v i ≡ object_in v j
    first = cc

    one : object_in v i ≡ object_in v j → i ≡ j
    one e = ap (λ (o : InformationObject).
        let made : Info = record { address = o.address; element = o.element; tag = o.tag } in
        made) e
same_infos v (i ∷ k ∷ is) j e = cc

module _ (objects : ObjectsLaw) (v : AsduValue) where
  objects_are : (xs : List ℕ) (h : IsPiece v xs) → objects_of tcp xs ≡ map (object_in v) h.infos
  objects_are xs h = objects tcp (with_infos v h.infos) xs h.spells

  some_objects : (xs : List ℕ) → IsPiece v xs → 1 ≤ length (objects_of tcp xs)
  some_objects xs h = omega (
    arith,
    ap length (objects_are xs h)
        ∙ length-map h.infos (object_in v),
    h.spells.value.some,
  )

  pub alone : (i : Info) (pieces : List (List ℕ))
      → AllByRecursion (λ piece. IsPiece v piece) pieces
      → flat_map (λ piece. objects_of tcp piece) pieces ≡ object_in v i ∷ []
      → pieces ≡ spelled tcp (with_infos v (i ∷ [])) ∷ []
  alone i [] h e = cc
  alone i (p ∷ []) h e =
      let infos : h.0.infos ≡ i ∷ [] = same_infos v h.0.infos i (sym (objects_are p h.0)
      ∙ sym (append-nil (objects_of tcp p)) ∙ e) in
      ap (λ x. x ∷ []) (h.0.spells.octets ∙ ap (λ is. spelled tcp (with_infos v is)) infos)
  alone i (p ∷ q ∷ ps) h e =
      let rest : List InformationObject = flat_map (λ piece. objects_of tcp piece) ps in
      absurd (omega (
        arith,
        some_objects p h.0,
        some_objects q h.1.0,
        ap length e,
        length-append (objects_of tcp p) (objects_of tcp q ++ rest),
        length-append (objects_of tcp q) rest,
      ))

pub one_piece : ObjectsLaw → (s : Sizes) (v : AsduValue) (report : List ℕ)
    (pieces : List (List ℕ)) → IsPassedOn s v report pieces → length v.infos ≡ 1
    → pieces ≡ answer_form s report ∷ []
one_piece objects s v report pieces h n =
    let o = single v.infos n in
    alone objects v o.0 pieces h.each (h.joined ∙ objects s v report h.value
    ∙ ap (λ is. map (object_in v) is) o.1)
    ∙ ap (λ x. x ∷ []) (sym (one_form s v o.0 report o.1 h.value))

-- ---- the tag

-- what `asdu` says of types 45 to 49
abbrev pub PlainLaw : Type 0
PlainLaw = (t : TypeId)
    → is_plain_command t ≡ (nat_le 45 (row t).code && nat_le (row t).code 49)

-- and of a tag
abbrev pub TagLaw : Type 0
TagLaw = (s : Sizes) (tag : List ℕ) (v : AsduValue) → FitsSizes s v → length v.infos ≡ 1
    → is_plain_command v.kind ≡ true → length tag ≡ 7 → AreOctets tag
    → spelled s (tagged tag v)
    ≡ ((slice_index (spelled s v) 0 + 13) ∷ drop 1 (spelled s v)) ++ tag

tag_is : (b : Bool) (octets : List ℕ) → IsTag b (Some octets)
    → (length octets ≡ 7) × AreOctets octets
tag_is true octets h = h
tag_is false octets h = absurd h

bears : PlainLaw → (u : AsduValue) → 45 ≤ (row u.kind).code → (row u.kind).code ≤ 49
    → length u.infos ≡ 1 → (is_plain_command u.kind ≡ true) × (bears_tag u ≡ true)
bears law u low high one =
    let first = le-leb 45 (row u.kind).code low in
    let last = le-leb (row u.kind).code 49 high in
    let plain : is_plain_command u.kind ≡ true = law u.kind ∙ rw (first, last) refl in
    (plain, rw (plain, one) refl)

pub with_the_tag : PlainLaw → TagLaw → (tag : Cp56) (u : AsduValue) (x y : List ℕ)
    → IsAsdu tcp u x → IsTaggedAs (bears_tag u) tag u x y → 45 ≤ (row u.kind).code
    → (row u.kind).code ≤ 49 → length u.infos ≡ 1
    → y ≡ (slice_index x 0 + 13) ∷ (drop 1 x ++ tag.0)
with_the_tag plain law tag u x y h k low high one =
    let is = bears plain u low high one in
    let made : IsAsdu tcp (tagged tag.0 u) y = subst (λ b. IsTaggedAs b tag u x y) is.1 k in
    let o = single u.infos one in
    let P : List Info → Type 0 =
    λ is. AllByRecursion (IsInfo (tagged_type u.kind) 3) (map (with_tag tag.0) is) in
    let infos = subst P o.1 made.value.infos in
    let seven = tag_is (row (tagged_type u.kind)).tagged tag.0 infos.0.tag in
    made.octets ∙ law tcp tag.0 u h.value one is.0 seven.0 seven.1
    ∙ ap (λ ys. (slice_index ys 0 + 13) ∷ (drop 1 ys ++ tag.0)) (sym h.octets)

pub without_tag_by : (b : Bool) (tag : Cp56) (u : AsduValue) (x y : List ℕ) → b ≡ false
    → IsTaggedAs b tag u x y → y ≡ x
without_tag_by true tag u x y is h = cc
without_tag_by false tag u x y is h = h

pub other_type : PlainLaw → (u : AsduValue)
    → ((row u.kind).code < 45) ⊎ (49 < (row u.kind).code) → bears_tag u ≡ false
other_type law u (inl low) = rw (law u.kind, lt-leb 45 (row u.kind).code low) refl
other_type law u (inr high) =
    by_first (nat_le 45 (row u.kind).code) refl
  where
    by_first : (b : Bool) → nat_le 45 (row u.kind).code ≡ b → bears_tag u ≡ false
    by_first true e = rw (law u.kind, e, lt-leb (row u.kind).code 49 high) refl
    by_first false e = rw (law u.kind, e) refl

pub more : (u : AsduValue) → 2 ≤ length u.infos → bears_tag u ≡ false
more u h = by_type (is_plain_command u.kind) refl
  where
    many : (length u.infos == 1) ≡ false
    many = ne_eqb (length u.infos) 1 (λ e. omega (arith, e, h))

    by_type : (b : Bool) → is_plain_command u.kind ≡ b → bears_tag u ≡ false
    by_type true e = rw (e, many) refl
    by_type false e = rw e refl

pub as_they_are : (tag : Cp56) (plain pieces : List (List ℕ)) → AreTagged (Some tag) plain pieces
    → 2 ≤ length plain → pieces ≡ plain
as_they_are tag [] pieces h n = absurd (omega (arith, n))
as_they_are tag (x ∷ []) pieces h n = absurd (omega (arith, n))
as_they_are tag (x ∷ y ∷ plain) pieces h n = h
