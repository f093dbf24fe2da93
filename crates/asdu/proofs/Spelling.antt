-- Octets are accepted exactly if they spell an ASDU, which is then the one that is read of them.
use Rattle.std.proofs.Common.{◌≡◌, ℕ, zero, suc, ◌+◌, ◌*◌, ◌%◌, ◌^◌, ◌<◌, ◌≤◌, Bool, true, false}
use Rattle.std.proofs.Common.{not, cond, ◌&&◌, ltb, leb, eqb, List, [], ◌∷◌, ◌++◌, length, take}
use Rattle.std.proofs.Common.{drop, Option, Some, None, refl, sym, ap, ◌∙◌, arith, append_assoc}
use Rattle.std.proofs.Common.{length-append, length-drop}
use Rattle.std.specs.Prelude.{slice_index}
use Rattle.std.specs.List.{flat_map, AllByRecursion}
use Rattle.std.proofs.lemmas.List.{drop_at, take-append-drop, append-nil}
use Rattle.std.proofs.lemmas.Bool.{ltb-false, le-ltb, eqb-true, eq-eqb, le-leb}
use Rattle.std.proofs.lemmas.Bool.Decides.{nat_tests}
use Rattle.std.proofs.Math.Seq.{take-add}
use Rattle.byteorder.specs.Endian.{little_bytes, little_number}
use Rattle.byteorder.specs.Numbers.{little_number-reads_back, length-bytes_low_first}
use Rattle.byteorder.specs.Numbers.{little_from-lt}
use Rattle.elements.specs.declared.types.TypeId.{TypeId}
use Rattle.elements.specs.Types.{row, type_of}
use Rattle.elements.proofs.TypeCodes.{code-type_of}
use Rattle.elements.specs.Octets.{AreOctets}
use Rattle.elements.specs.OctetLemmas.{little_bytes-little_number}
use Rattle.asdu.specs.Sizes.{cause_len, ca_len, ioa_len, header_len}
use Rattle.asdu.specs.declared.sizes.CauseSize.{CauseSize}
use Rattle.asdu.specs.declared.sizes.CauseSize.TheVariants as causes
use Rattle.asdu.specs.declared.sizes.Sizes.{Sizes}
use Rattle.asdu.specs.Asdu.{Info, AsduValue, FitsSizes, IsAsdu, IsInfo, AreSuccessive, AreInOrder}
use Rattle.asdu.specs.Asdu.{IsOriginator, content_len, content, located, body, vsq, header, spelled}
use Rattle.asdu.specs.Asdu.{originator_octets}
use Rattle.asdu.specs.Refusals.{body_len, refusal, typed_refusal, body_refusal}
use Rattle.asdu.specs.Fields.{originator_at, ca_at, first_address, number_at, is_sequence}
use Rattle.asdu.specs.Fields.{each_located, successive, infos_at, value_at}
use Rattle.asdu.proofs.ObjectLists.{AreOctets-drop, length-content, each_located-again}
use Rattle.asdu.proofs.ObjectLists.{successive-again, length-each_located, length-successive}
use Rattle.asdu.proofs.ObjectLists.{flat_map-each_located, flat_map-successive}
use Rattle.asdu.proofs.ObjectLists.{AreInfos-each_located, AreInfos-successive}
use Rattle.asdu.proofs.ObjectLists.{AreSuccessive-successive}

-- ---- The objects

length-each : (t : TypeId) (w : ℕ) (is : List Info) → AllByRecursion (IsInfo t w) is
    → length (flat_map (located w) is) ≡ length is * (w + content_len t)
length-each t w [] h = omega arith
length-each t w (i ∷ is) h =
    let others = length-each t w is h.1 in
    let here = length-content t w i h.0 in
    let address = length-bytes_low_first 0 w i.address in
    let first = length-append (little_bytes w i.address) (content i) in
    let all = length-append (located w i) (flat_map (located w) is) in
    omega arith

length-contents : (t : TypeId) (w : ℕ) (is : List Info) → AllByRecursion (IsInfo t w) is
    → length (flat_map content is) ≡ length is * content_len t
length-contents t w [] h = omega arith
length-contents t w (i ∷ is) h =
    let others = length-contents t w is h.1 in
    let here = length-content t w i h.0 in
    let all = length-append (content i) (flat_map content is) in
    omega arith

pub length-body : (t : TypeId) (w : ℕ) (b : Bool) (is : List Info) → 1 ≤ length is
    → AllByRecursion (IsInfo t w) is
    → length (body w b is) ≡ body_len t w b (length is)
length-body t w false is some h = length-each t w is h
length-body t w true [] some h = absurd (omega arith)
length-body t w true (i ∷ is) some h =
    let address = length-bytes_low_first 0 w i.address in
    let all = length-append (little_bytes w i.address) (flat_map content (i ∷ is)) in
    let contents = length-contents t w (i ∷ is) h in
    omega arith

pub body_again : (t : TypeId) (w : ℕ) (b : Bool) (is : List Info) → AllByRecursion (IsInfo t w) is
    → AreInOrder b is
    → infos_at t w b (length is) (body w b is) ≡ is
body_again t w false is h order =
    ap (each_located t w (length is)) (sym (append-nil (flat_map (located w) is)))
    ∙ each_located-again t w is [] h
body_again t w true [] h order = refl
body_again t w true (i ∷ is) h order =
    let address = little_bytes w i.address in
    let contents = flat_map content (i ∷ is) in
    let number : little_number w (address ++ contents) ≡ i.address =
    little_number-reads_back w i.address contents h.0.address in
    let after : drop w (address ++ contents) ≡ contents =
    drop_at address contents w (length-bytes_low_first 0 w i.address) in
    ap (λ a. successive t a (suc (length is)) (drop w (address ++ contents))) number
    ∙ ap (successive t i.address (suc (length is))) (after ∙ sym (append-nil contents))
    ∙ successive-again t w i.address (i ∷ is) [] order h

pub body-infos_at : (t : TypeId) (w : ℕ) (b : Bool) (n : ℕ) (xs : List ℕ) → 1 ≤ n
    → length xs ≡ body_len t w b n
    → AreOctets xs → body w b (infos_at t w b n xs) ≡ xs
body-infos_at t w false n xs some long all = flat_map-each_located t w n xs long all
body-infos_at t w true zero xs some long all = absurd (omega arith)
body-infos_at t w true (suc n) xs some long all =
    let address = little_bytes-little_number w xs (omega arith) all in
    let contents = flat_map-successive t (little_number w xs) (suc n) (drop w xs)
    (omega (arith, length-drop w xs)) in
    ap (λ ys. ys ++ flat_map content (successive t (little_number w xs) (suc n) (drop w xs)))
    address
    ∙ ap (λ ys. take w xs ++ ys) contents
    ∙ take-append-drop w xs

-- the last address of a row of objects
last_address : (t : TypeId) (w a : ℕ) (is : List Info) → 1 ≤ length is → AreSuccessive a is
    → AllByRecursion (IsInfo t w) is → a + length is ≤ 256 ^ w
last_address t w a [] some order h = absurd (omega arith)
last_address t w a (i ∷ []) some order h = omega (arith, order.0, h.0.address)
last_address t w a (i ∷ j ∷ js) some order h =
    let rest = last_address t w (suc a) (j ∷ js) (omega arith) order.1 h.1 in
    omega arith

-- ---- The header

length-originator : (c : CauseSize) (o : ℕ) → length (originator_octets c o) + 1 ≡ cause_len c
length-originator causes.One o = refl
length-originator causes.Two o = refl

pub length-header : (s : Sizes) (t : TypeId) (b : Bool) (n cause o ca : ℕ)
    → length (header s t b n cause o ca) ≡ header_len s
length-header s t b n cause o ca =
    let tail = length-append (originator_octets s.cause o) (little_bytes (ca_len s.ca) ca) in
    let first = length-originator s.cause o in
    let second = length-bytes_low_first 0 (ca_len s.ca) ca in
    omega arith

vsq-number : (b : Bool) (n : ℕ) → n ≤ 127 → vsq b n % 128 ≡ n
vsq-number true n h = omega arith
vsq-number false n h = omega arith

vsq-sequence : (b : Bool) (n : ℕ) → n ≤ 127 → leb 128 (vsq b n) ≡ b
vsq-sequence true n h = le-leb 128 (vsq true n) (omega arith)
vsq-sequence false n h = grind (arith, nat_tests)

vsq-again : (v : ℕ) → v < 256 → vsq (leb 128 v) (v % 128) ≡ v
vsq-again v h = grind (arith, nat_tests)

originator_again : (c : CauseSize) (a b d o : ℕ) (rest : List ℕ) → IsOriginator c o
    → originator_at c (a ∷ b ∷ d ∷ (originator_octets c o ++ rest)) ≡ o
originator_again causes.One a b d o rest h = sym h
originator_again causes.Two a b d o rest h = refl

IsOriginator-originator_at : (c : CauseSize) (xs : List ℕ) → AreOctets xs
    → IsOriginator c (originator_at c xs)
IsOriginator-originator_at causes.One xs all = refl
IsOriginator-originator_at causes.Two xs all = all 3

-- the octets before the common address
front_again : (c : CauseSize) (a b d o : ℕ) (rest : List ℕ)
    → drop (2 + cause_len c) (a ∷ b ∷ d ∷ (originator_octets c o ++ rest)) ≡ rest
front_again causes.One a b d o rest = refl
front_again causes.Two a b d o rest = refl

take-front : (c : CauseSize) (xs : List ℕ) → 2 + cause_len c ≤ length xs
    → take (2 + cause_len c) xs ≡ slice_index xs 0 ∷ slice_index xs 1 ∷ slice_index xs 2
    ∷ originator_octets c (originator_at c xs)
take-front causes.One [] h = absurd (omega arith)
take-front causes.One (a ∷ []) h = absurd (omega arith)
take-front causes.One (a ∷ b ∷ []) h = absurd (omega arith)
take-front causes.Two [] h = absurd (omega arith)
take-front causes.Two (a ∷ []) h = absurd (omega arith)
take-front causes.Two (a ∷ b ∷ []) h = absurd (omega arith)
take-front causes.One (a ∷ b ∷ d ∷ xs) h = refl
take-front causes.Two (a ∷ b ∷ d ∷ []) h = absurd (omega arith)
take-front causes.Two (a ∷ b ∷ d ∷ o ∷ xs) h = refl

-- ---- What is accepted

-- octets of type t with no fault
pub record IsWhole (s : Sizes) (t : TypeId) (xs : List ℕ) : Type 0 where
  pub some : 1 ≤ number_at xs
  pub whole : length xs ≡ header_len s + body_len t (ioa_len s.ioa) (is_sequence xs) (number_at xs)
  pub last : is_sequence xs ≡ true → first_address s xs + number_at xs ≤ 256 ^ ioa_len s.ioa

pub body_len-low : (t : TypeId) (w : ℕ) (b : Bool) (n : ℕ) → 1 ≤ n → w ≤ body_len t w b n
body_len-low t w false zero h = absurd (omega arith)
body_len-low t w false (suc n) h = omega arith
body_len-low t w true n h = omega arith

no_fault : (a b c : Bool) → cond {A = Option ℕ} a (Some 3) (cond b (Some 4) (cond c (Some 5) None))
    ≡ None
    → (a ≡ false) × (b ≡ false) × (c ≡ false)
no_fault true b c h = cc
no_fault false true c h = cc
no_fault false false true h = cc
no_fault false false false h = (refl, refl, refl)

not-false : (b : Bool) → not b ≡ false → b ≡ true
not-false true h = refl
not-false false h = cc

and-false : (a b : Bool) → (a && b) ≡ false → a ≡ true → b ≡ false
and-false true b h e = h
and-false false b h e = cc

and-not : (a b : Bool) → (a ≡ true → b ≡ false) → (a && b) ≡ false
and-not true b h = h refl
and-not false b h = refl

eqb-zero : (n : ℕ) → eqb n 0 ≡ false → 1 ≤ n
eqb-zero n h = grind (arith, nat_tests)

zero-eqb : (n : ℕ) → 1 ≤ n → eqb n 0 ≡ false
zero-eqb n h = grind (arith, nat_tests)

IsWhole-none : (s : Sizes) (t : TypeId) (xs : List ℕ) → body_refusal s t xs ≡ None → IsWhole s t xs
IsWhole-none s t xs h =
    let parts = no_fault (eqb (number_at xs) 0)
    (not
    (eqb (length xs) (header_len s + body_len t (ioa_len s.ioa) (is_sequence xs) (number_at xs))))
    (is_sequence xs && ltb (256 ^ ioa_len s.ioa) (first_address s xs + number_at xs)) h in
    record {
      some = eqb-zero (number_at xs) parts.0;
      whole =
          eqb-true (length xs) (header_len s + body_len t (ioa_len s.ioa) (is_sequence xs)
          (number_at xs))
          (not-false _ parts.1);
      last = λ e. ltb-false (256 ^ ioa_len s.ioa) (first_address s xs + number_at xs)
          (and-false (is_sequence xs)
          (ltb (256 ^ ioa_len s.ioa) (first_address s xs + number_at xs)) parts.2 e);
    }

none-IsWhole : (s : Sizes) (t : TypeId) (xs : List ℕ) → IsWhole s t xs → body_refusal s t xs ≡ None
none-IsWhole s t xs h =
    let some = zero-eqb (number_at xs) h.some in
    let whole =
    eq-eqb (length xs) (header_len s + body_len t (ioa_len s.ioa) (is_sequence xs) (number_at xs))
    h.whole
    in
    let last =
    and-not (is_sequence xs) (ltb (256 ^ ioa_len s.ioa) (first_address s xs + number_at xs))
    (λ e. le-ltb (256 ^ ioa_len s.ioa) (first_address s xs + number_at xs) (h.last e)) in
    rw (some, whole, last) refl

two_faults : (b : Bool) → cond {A = Option ℕ} b (Some 1) (Some 2) ≡ None → ⊥
two_faults true h = cc
two_faults false h = cc

second_fault : (b : Bool) (r : Option ℕ) → cond b (Some 1) r ≡ None → r ≡ None
second_fault true r h = cc
second_fault false r h = h

accepted-by : (s : Sizes) (o : Option TypeId) (xs : List ℕ) → type_of (slice_index xs 0) ≡ o
    → cond (ltb (length xs) (header_len s + ioa_len s.ioa)) (Some 1) (typed_refusal s o xs) ≡ None
    → (t : TypeId) × (type_of (slice_index xs 0) ≡ Some t) × IsWhole s t xs
accepted-by s None xs named h =
    absurd (two_faults (ltb (length xs) (header_len s + ioa_len s.ioa)) h)
accepted-by s (Some t) xs named h = (
  t,
  named,
  IsWhole-none s t xs (second_fault (ltb (length xs) (header_len s + ioa_len s.ioa))
      (body_refusal s t xs) h),
)

-- a type that is known, and no fault
pub accepted : (s : Sizes) (xs : List ℕ) → refusal s xs ≡ None
    → (t : TypeId) × (type_of (slice_index xs 0) ≡ Some t) × IsWhole s t xs
accepted s xs h = accepted-by s (type_of (slice_index xs 0)) xs refl h

pub refusal-none : (s : Sizes) (t : TypeId) (xs : List ℕ) → type_of (slice_index xs 0) ≡ Some t
    → IsWhole s t xs
    → refusal s xs ≡ None
refusal-none s t xs named h =
    let low = body_len-low t (ioa_len s.ioa) (is_sequence xs) (number_at xs) h.some in
    let room = le-ltb (length xs) (header_len s + ioa_len s.ioa) (omega (arith, h.whole)) in
    rw (room, named) (none-IsWhole s t xs h)

-- ---- What was read is spelled

pub length-infos_at : (t : TypeId) (w : ℕ) (b : Bool) (n : ℕ) (xs : List ℕ)
    → length (infos_at t w b n xs) ≡ n
length-infos_at t w false n xs = length-each_located t w n xs
length-infos_at t w true n xs = length-successive t (little_number w xs) n (drop w xs)

AreInfos-infos_at : (t : TypeId) (w : ℕ) (b : Bool) (n : ℕ) (xs : List ℕ) → length xs
    ≡ body_len t w b n
    → (b ≡ true → little_number w xs + n ≤ 256 ^ w) → AreOctets xs
    → AllByRecursion (IsInfo t w) (infos_at t w b n xs)
AreInfos-infos_at t w false n xs long fits all = AreInfos-each_located t w n xs (omega arith) all
AreInfos-infos_at t w true n xs long fits all =
    AreInfos-successive t w (little_number w xs) n (drop w xs) (fits refl)
    (omega (arith, length-drop w xs))
    (AreOctets-drop w xs all)

AreInOrder-infos_at : (t : TypeId) (w : ℕ) (b : Bool) (n : ℕ) (xs : List ℕ)
    → AreInOrder b (infos_at t w b n xs)
AreInOrder-infos_at t w false n xs = tt
AreInOrder-infos_at t w true zero xs = tt
AreInOrder-infos_at t w true (suc n) xs = AreSuccessive-successive t (little_number w xs) (suc n)
    (drop w xs)

same_header : {a b v w : ℕ} {ys zs : List ℕ} (d : ℕ) (os : List ℕ) → a ≡ b → v ≡ w → ys ≡ zs
    → a ∷ v ∷ d ∷ (os ++ ys) ≡ b ∷ w ∷ d ∷ (os ++ zs)
same_header d os e1 e2 e3 = rw (e1, e2, e3) refl

header-read : (s : Sizes) (t : TypeId) (xs : List ℕ) → type_of (slice_index xs 0) ≡ Some t
    → header_len s ≤ length xs
    → AreOctets xs → header s t (is_sequence xs) (number_at xs) (slice_index xs 2)
    (originator_at s.cause xs)
    (ca_at s xs) ≡ take (header_len s) xs
header-read s t xs named long all =
    let code = code-type_of (slice_index xs 0) t named in
    let count = vsq-again (slice_index xs 1) (all 1) in
    let address = little_bytes-little_number (ca_len s.ca) (drop (2 + cause_len s.cause) xs)
    (omega (arith, length-drop (2 + cause_len s.cause) xs))
    (AreOctets-drop (2 + cause_len s.cause) xs all) in
    let front = take-front s.cause xs (omega arith) in
    same_header (slice_index xs 2) (originator_octets s.cause (originator_at s.cause xs)) code count
    address
    ∙ ap (λ ys. ys ++ take (ca_len s.ca) (drop (2 + cause_len s.cause) xs)) (sym front)
    ∙ sym (take-add (2 + cause_len s.cause) (ca_len s.ca) xs)

pub IsAsdu-value_at : (s : Sizes) (t : TypeId) (xs : List ℕ) → type_of (slice_index xs 0) ≡ Some t
    → IsWhole s t xs
    → AreOctets xs → IsAsdu s (value_at s t xs) xs
IsAsdu-value_at s t xs named h all =
    let w = ioa_len s.ioa in
    let n = number_at xs in
    let b = is_sequence xs in
    let rest = drop (header_len s) xs in
    let count = length-infos_at t w b n rest in
    let long : length rest ≡ body_len t w b n =
    omega (arith, length-drop (header_len s) xs, h.whole) in
    let octets = AreOctets-drop (header_len s) xs all in
    record {
      value = record {
        some = rw count h.some;
        most = rw count (omega arith);
        cause = all 2;
        originator = IsOriginator-originator_at s.cause xs all;
        ca = little_from-lt 0 (ca_len s.ca) (drop (2 + cause_len s.cause) xs)
            (AreOctets-drop (2 + cause_len s.cause) xs all);
        infos = AreInfos-infos_at t w b n rest long h.last octets;
        order = AreInOrder-infos_at t w b n rest;
      };
      octets =
          sym (take-append-drop (header_len s) xs)
          ∙ ap (λ ys. ys ++ rest) (sym (header-read s t xs named (omega (arith, h.whole)) all))
          ∙ ap (λ ys. header s t b n (slice_index xs 2) (originator_at s.cause xs) (ca_at s xs)
          ++ ys)
          (sym (body-infos_at t w b n rest h.some long octets))
          ∙ ap (λ m. header s t b m (slice_index xs 2) (originator_at s.cause xs) (ca_at s xs)
          ++ body w b (infos_at t w b n rest)) (sym count);
    }

-- ---- What is spelled is read

abbrev value : TypeId → Bool → ℕ → ℕ → ℕ → List Info → AsduValue
value t b d o k is = record {
  kind = t;
  sequence = b;
  cause = d;
  originator = o;
  ca = k;
  infos =
      is;
}

same_value : (t : TypeId) (b c : Bool) (d o p k l : ℕ) (is js : List Info) → b ≡ c → o ≡ p → k ≡ l
    → is ≡ js
    → value t b d o k is ≡ value t c d p l js
same_value t b c d o p k l is js e1 e2 e3 e4 = rw (e1, e2, e3, e4) refl

-- what is read of a spelling
pub record IsRead (s : Sizes) (u : AsduValue) : Type 0 where
  pub number : number_at (spelled s u) ≡ length u.infos
  pub sequence : is_sequence (spelled s u) ≡ u.sequence
  pub originator : originator_at s.cause (spelled s u) ≡ u.originator
  pub ca : ca_at s (spelled s u) ≡ u.ca
  pub rest : drop (header_len s) (spelled s u) ≡ body (ioa_len s.ioa) u.sequence u.infos

pub IsRead-spelled : (s : Sizes) (u : AsduValue) → FitsSizes s u → IsRead s u
IsRead-spelled s u h =
    let w = ioa_len s.ioa in
    let n = length u.infos in
    let code = (row u.kind).code in
    let v = vsq u.sequence n in
    let text = body w u.sequence u.infos in
    let address = little_bytes (ca_len s.ca) u.ca in
    let regroup : spelled s u ≡ code ∷ v ∷ u.cause
    ∷ (originator_octets s.cause u.originator ++ (address ++ text)) =
    ap (λ ys. code ∷ v ∷ u.cause ∷ ys) (append_assoc (originator_octets s.cause u.originator)
    address text) in
    record {
      number = vsq-number u.sequence n h.most;
      sequence = vsq-sequence u.sequence n h.most;
      originator = ap (originator_at s.cause) regroup
          ∙ originator_again s.cause code v u.cause u.originator (address
          ++ text) h.originator;
      ca = ap (ca_at s) regroup
          ∙ ap (little_number (ca_len s.ca)) (front_again s.cause code v u.cause u.originator
          (address ++ text))
          ∙ little_number-reads_back (ca_len s.ca) u.ca text h.ca;
      rest = drop_at (header s u.kind u.sequence n u.cause u.originator u.ca) text (header_len s)
          (length-header s u.kind u.sequence n u.cause u.originator u.ca);
    }

first-body : (t : TypeId) (w : ℕ) (is : List Info) → 1 ≤ length is → AllByRecursion (IsInfo t w) is
    → AreInOrder true is → little_number w (body w true is) + length is ≤ 256 ^ w
first-body t w [] some h order = absurd (omega arith)
first-body t w (i ∷ is) some h order =
    let number : little_number w (little_bytes w i.address ++ flat_map content (i ∷ is))
    ≡ i.address =
    little_number-reads_back w i.address (flat_map content (i ∷ is)) h.0.address in
    let last = last_address t w i.address (i ∷ is) some order h in
    omega arith

-- the same, of either kind of body
first-body_if : (t : TypeId) (w : ℕ) (b : Bool) (is : List Info) → 1 ≤ length is
    → AllByRecursion (IsInfo t w) is
    → AreInOrder b is → b ≡ true → little_number w (body w b is) + length is ≤ 256 ^ w
first-body_if t w true is some h order e = first-body t w is some h order
first-body_if t w false is some h order e = cc

pub IsWhole-spelled : (s : Sizes) (u : AsduValue) → FitsSizes s u → IsWhole s u.kind (spelled s u)
IsWhole-spelled s u h =
    let r = IsRead-spelled s u h in
    let w = ioa_len s.ioa in
    let n = length u.infos in
    let head = header s u.kind u.sequence n u.cause u.originator u.ca in
    let text = body w u.sequence u.infos in
    let front = length-header s u.kind u.sequence n u.cause u.originator u.ca in
    let back = length-body u.kind w u.sequence u.infos h.some h.infos in
    let whole : length (head ++ text) ≡ header_len s + body_len u.kind w u.sequence n =
    length-append head text
    ∙ omega (arith, front, back) in
    record {
      some = rw r.number h.some;
      whole = rw (r.number, r.sequence) whole;
      last = λ e. rw (r.number, r.rest) (first-body_if u.kind w u.sequence u.infos h.some h.infos
          h.order
          (sym r.sequence ∙ e));
    }

pub value_at-spelled : (s : Sizes) (u : AsduValue) → FitsSizes s u → value_at s u.kind (spelled s u)
    ≡ u
value_at-spelled s u h =
    let r = IsRead-spelled s u h in
    let w = ioa_len s.ioa in
    let infos : infos_at u.kind w (is_sequence (spelled s u)) (number_at (spelled s u))
    (drop (header_len s) (spelled s u)) ≡ u.infos =
    rw (r.number, r.sequence, r.rest) (body_again u.kind w u.sequence u.infos h.infos h.order) in
    same_value u.kind (is_sequence (spelled s u)) u.sequence u.cause
    (originator_at s.cause (spelled s u)) u.originator
    (ca_at s (spelled s u)) u.ca (infos_at u.kind w (is_sequence (spelled s u))
    (number_at (spelled s u))
    (drop (header_len s) (spelled s u))) u.infos r.sequence r.originator r.ca infos
