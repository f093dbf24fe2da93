-- The machine's functions read the octets as the standard says.
use Rattle.std.proofs.Common.{◌≡◌, ℕ, suc, ◌+◌, ◌-◌, ◌%◌, ◌<◌, ◌≤◌, ◌&&◌, ◌||◌, Bool, true, false}
use Rattle.std.proofs.Common.{not, List, [], ◌∷◌, length, take, drop, slice_index, refl, sym, subst}
use Rattle.std.proofs.Common.{ap, ◌∙◌, arith, rules}
use Rattle.std.specs.Prelude.{◌==◌, Option, Some, None, if◌then◌else◌, nat_lt, nat_le}
use Rattle.std.specs.List.{list_any}
use Rattle.std.proofs.lemmas.Bool.{and_parts, eqb-true, ltb-true, leb-true}
use Rattle.std.proofs.lemmas.List.{length-drop, get_or-drop}
use Rattle.elements.specs.Types.{row}
use Rattle.asdu.specs.Asdu.{AsduValue, Info}
use Rattle.asdu.specs.Sizes.{tcp}
use Rattle.asdu.specs.Fields.{ca_at, first_address}
use Rattle.asdu.specs.declared.sizes.Sizes.{Sizes}
use Rattle.command.specs.declared.content.CommandElement.{CommandElement}
use Rattle.command.specs.declared.content.CommandElement.TheVariants.{Octet, SetPoint}
use Rattle.command.specs.declared.station.StationInfo.{StationInfo}
use Rattle.command.specs.Standard.{common_address, object_address, has_tag, plain_type, operates}
use Rattle.command.specs.Standard.{tag_length, tag_of, element_part, whole_length, is_fresh}
use Rattle.command.specs.Standard.{not_fresh, is_process_type, is_activation, is_deactivating}
use Rattle.command.specs.Standard.{last_octet, selects, executes, have_one_target, are_equal}
use Rattle.command.specs.Standard.{apart_from_select, have_one_element, is_test, have_one_test_bit}
use Rattle.command.specs.Standard.{is_positive_confirmation, is_negative_confirmation, is_object_of}
use Rattle.command.specs.Standard.{is_only_object_of, confirms_command, refuses_command}
use Rattle.command.specs.Standard.{is_for_each, is_for_station, must_be_selected, station_of}
use Rattle.command.specs.Standard.{first_cause, malformed, may_operate, not_permitted, names_object}
use Rattle.command.specs.Standard.{cause_of_fault}
use Rattle.command.specs.Octets.{negative}
use Rattle.command.specs.Command.{is_process_command, is_tagged, line_kind, is_set_point}
use Rattle.command.specs.Command.{element_len, tag_len, command_len, element_at, element_octets}
use Rattle.command.specs.Command.{command_at, qualifier, without_select, is_select, is_execute}
use Rattle.command.specs.Command.{is_permitted}
use Rattle.command.specs.Selection.{target_of, same_target, same_element, same_test}
use Rattle.command.specs.Tags.{is_recent, is_stale}
use Rattle.elements.specs.TimeTag.{verdict_of}
use Rattle.elements.specs.declared.tag.Verdict.{Verdict}
use Rattle.elements.specs.declared.tag.Verdict.TheVariants as verdicts
use Rattle.command.specs.Stations.{is_global, is_addressed, is_known, is_guarded, station_number}
use Rattle.command.specs.Judging.{is_object, is_single, form_fault, fault}
use Rattle.command.specs.Mirrors.{is_con, element_of, target_at}
use Rattle.command.proofs.Machine.{is_element, names_one, confirms, negates}
use Rattle.command.proofs.Spelled.{element_front}

-- ---- truth values

and_right_true : (a : Bool) → (a && true) ≡ a
and_right_true true = refl
and_right_true false = refl

and_right_false : (a : Bool) → (a && false) ≡ false
and_right_false true = refl
and_right_false false = refl

three : (p q r : Bool) → (p && q && r) ≡ (p && (q && (r && true)))
three true true true = refl
three true true false = refl
three true false r = refl
three false q r = refl

-- ---- octets

pub types_read : (n : ℕ) → is_process_command n ≡ is_process_type n
types_read n = grind arith

pub tagged_read : (n : ℕ) → is_tagged n ≡ has_tag n
tagged_read n = grind arith

pub kind_read : (n : ℕ) → line_kind n ≡ plain_type n
kind_read n = ap (λ (b : Bool). if b then n - 13 else n) (tagged_read n)

tag_len_read : (n : ℕ) → tag_len n ≡ tag_length n
tag_len_read n = ap (λ (b : Bool). if b then 7 else 0) (tagged_read n)

length_read : (n : ℕ) → command_len n ≡ whole_length n
length_read n = ap (λ (k : ℕ). 9 + element_len k + tag_len n) (kind_read n)
    ∙ ap (λ (m : ℕ). 9 + element_len (plain_type n) + m) (tag_len_read n)

pub operates_read : (xs : List ℕ) → is_process_command (line_kind (slice_index xs 0)) ≡ operates xs
operates_read xs = types_read (line_kind (slice_index xs 0))
    ∙ ap is_process_type (kind_read (slice_index xs 0))

interrogation_read : (n : ℕ) → (line_kind n == 100) ≡ (n == 100)
interrogation_read n = by (is_tagged n) refl
  where
    by : (b : Bool) → is_tagged n ≡ b → ((if b then n - 13 else n) == 100) ≡ (n == 100)
    by true e =
        let p : _ = and_parts (nat_le 58 n) (nat_le n 62) e in
        let low : 58 ≤ n = leb-true 58 n p.0 in
        let high : n ≤ 62 = leb-true n 62 p.1 in
        grind (arith, low, high)
    by false e = refl

pub positive_read : (c : ℕ) → is_con false c ≡ is_positive_confirmation c
positive_read c = by_sign (nat_le 64 (c % 128)) refl
  where
    by_sign : (b : Bool) → nat_le 64 (c % 128) ≡ b → (c % 64 == 7 && (if b then false else true))
        ≡ (c % 128 == 7)
    by_sign true e = and_right_false (c % 64 == 7)
        ∙ sym (let high : 64 ≤ c % 128 = leb-true 64 (c % 128) e in
        grind (arith, high))
    by_sign false e = and_right_true (c % 64 == 7)
        ∙ ap (λ (n : ℕ). n == 7) (let low : c % 128 < 64 =
        grind (arith, e) in omega (arith, low))

pub negative_read : (c : ℕ) → is_con true c ≡ is_negative_confirmation c
negative_read c = by_sign (nat_le 64 (c % 128)) refl
  where
    up : (n m : ℕ) → m ≡ 64 + n → (n == 7) ≡ (m == 71)
    up n m e = grind (arith, e)

    by_sign : (b : Bool) → nat_le 64 (c % 128) ≡ b → (c % 64 == 7 && (if b then true else false))
        ≡ (c % 128 == 71)
    by_sign true e = and_right_true (c % 64 == 7) ∙ up (c % 64) (c % 128) (let high : 64 ≤ c % 128 =
        leb-true 64 (c % 128) e in omega (arith, high))
    by_sign false e = and_right_false (c % 64 == 7)
        ∙ sym (let low : c % 128 < 64 = grind (arith, e) in
        grind (arith, low))

pub tests_read : (xs ys : List ℕ) → same_test (slice_index xs 2) (slice_index ys 2)
    ≡ have_one_test_bit xs ys
tests_read xs ys = by (is_test (slice_index xs 2)) (is_test (slice_index ys 2))
  where
    by : (x y : Bool) → (if x then y else not y) ≡ (x && y || not x && not y)
    by true true = refl
    by true false = refl
    by false true = refl
    by false false = refl

pub address_read : (xs : List ℕ) → ca_at tcp xs ≡ common_address xs
address_read xs = omega (arith, get_or-drop 4 xs 0 0, get_or-drop 4 xs 1 0)

pub object_read : (xs : List ℕ) → first_address tcp xs ≡ object_address xs
object_read xs = omega (arith, get_or-drop 6 xs 0 0, get_or-drop 6 xs 1 0, get_or-drop 6 xs 2 0)

pub targets_read : (xs ys : List ℕ)
    → same_target (target_of (command_at xs)) (target_of (command_at ys))
    ≡ have_one_target xs ys
targets_read xs ys = by _ _ (ca_at tcp xs) (ca_at tcp ys) (first_address tcp xs)
    (first_address tcp ys)
    (kind_read (slice_index xs 0)) (kind_read (slice_index ys 0)) (address_read xs)
    (address_read ys) (object_read xs)
    (object_read ys)
  where
    by : (j k a b c d : ℕ) → j ≡ plain_type (slice_index xs 0) → k ≡ plain_type (slice_index ys 0)
        → a ≡ common_address xs → b ≡ common_address ys → c ≡ object_address xs
        → d ≡ object_address ys →
        (j == k && a == b && c == d) ≡ have_one_target xs ys
    by j k a b c d m n e f g h = rw (m, n, e, f, g, h) refl

pub objects_read : (xs : List ℕ) (v : AsduValue) (i : Info)
    → same_target (target_of (command_at xs)) (target_at v i) ≡ is_object_of xs v i
objects_read xs v i = by _ (ca_at tcp xs) (first_address tcp xs) (kind_read (slice_index xs 0))
    (address_read xs)
    (object_read xs)
  where
    by : (k a c : ℕ) → k ≡ plain_type (slice_index xs 0) → a ≡ common_address xs
        → c ≡ object_address xs
        → (k == (row v.kind).code && a == v.ca && c == i.address) ≡ is_object_of xs v i
    by k a c m e g = rw (m, e, g) refl

-- ---- elements

pub apart_read : (e f : CommandElement) → nat_lt (qualifier f) 128 ≡ true
    → same_element (without_select e) f ≡ are_equal (apart_from_select (element_octets e))
    (apart_from_select (element_octets f))
apart_read (Octet x) (Octet y) h =
    let same : y % 128 ≡ y = (let less : y < 128 = ltb-true y 128 h in omega (arith, less)) in
    sym (and_right_true (x % 128 == y % 128) ∙ ap (λ (n : ℕ). x % 128 == n) same)
apart_read (SetPoint a b c) (SetPoint x y z) h =
    let same : z % 128 ≡ z = (let less : z < 128 = ltb-true z 128 h in omega (arith, less)) in
    ap (λ (n : ℕ). a == x && b == y && c % 128 == n) (sym same)
    ∙ three (a == x) (b == y) (c % 128 == z % 128)
apart_read (Octet x) (SetPoint a b c) h = sym (and_right_false (x % 128 == a))
apart_read (SetPoint a b c) (Octet x) h = sym (and_right_false (a == x % 128))

pub element_read : (e : CommandElement) (ys : List ℕ) → is_element e (element_of ys)
    ≡ are_equal (element_octets e) ys
element_read (Octet x) [] = refl
element_read (Octet x) (y ∷ []) = sym (and_right_true (x == y))
element_read (Octet x) (y ∷ z ∷ []) = sym (and_right_false (x == y))
element_read (Octet x) (y ∷ z ∷ u ∷ []) = sym (and_right_false (x == y))
element_read (Octet x) (y ∷ z ∷ u ∷ w ∷ ys) = sym (and_right_false (x == y))
element_read (SetPoint a b c) [] = refl
element_read (SetPoint a b c) (y ∷ []) = sym (and_right_false (a == y))
element_read (SetPoint a b c) (y ∷ z ∷ []) =
    sym (ap (λ (t : Bool). a == y && t) (and_right_false (b == z))
    ∙ and_right_false (a == y))
element_read (SetPoint a b c) (y ∷ z ∷ u ∷ []) = three (a == y) (b == z) (c == u)
element_read (SetPoint a b c) (y ∷ z ∷ u ∷ w ∷ ys) =
    sym (ap (λ (t : Bool). a == y && (b == z && t)) (and_right_false (c == u))
    ∙ (ap (λ (t : Bool). a == y && t) (and_right_false (b == z)) ∙ and_right_false (a == y)))

-- ---- stations

for_one : (ca n : ℕ) (e : Bool) → (e || n == ca) ≡ (ca == n || e)
for_one ca n true = by (ca == n)
  where
    by : (b : Bool) → true ≡ (b || true)
    by true = refl
    by false = refl
for_one ca n false = by (ca == n) refl
  where
    turned : (n == ca) ≡ (ca == n)
    turned = grind arith

    by : (b : Bool) → (ca == n) ≡ b → (n == ca) ≡ (b || false)
    by true e = turned ∙ e
    by false e = turned ∙ e

pub stations_read : (xs : List ℕ) (station : StationInfo)
    → is_addressed (command_at xs) station ≡ is_for_station xs station
stations_read xs station = by (line_kind (slice_index xs 0) == 100) (ca_at tcp xs)
    (interrogation_read (slice_index xs 0)) (address_read xs)
  where
    by : (b : Bool) (ca : ℕ) → b ≡ (slice_index xs 0 == 100) → ca ≡ common_address xs
        → (b && ca == 65535 || station.ca == ca) ≡ is_for_station xs station
    by b ca m e = rw (m, e) (for_one (common_address xs) station.ca (is_for_each xs))

or_right_true : (a : Bool) → true ≡ (a || true)
or_right_true true = refl
or_right_true false = refl

regrouped : (a b c : Bool) → (a || (b || c)) ≡ (a || b || c)
regrouped true b c = refl
regrouped false b c = refl

known_read : (xs : List ℕ) (ca : ℕ) (e : Bool) → (stations : List StationInfo)
    → (e || is_known stations ca) ≡ (list_any (λ station. ca == station.ca || e) stations || e)
known_read xs ca true [] = refl
known_read xs ca false [] = refl
known_read xs ca true (station ∷ stations) = or_right_true (ca == station.ca || true
    || list_any (λ station. ca == station.ca || true) stations)
known_read xs ca false (station ∷ stations) =
    ap (λ (b : Bool). b || is_known stations ca) (for_one ca station.ca false)
    ∙ (ap (λ (b : Bool). (ca == station.ca || false) || b) (known_read xs ca false stations)
    ∙ regrouped (ca == station.ca || false) (list_any (λ station. ca == station.ca || false)
    stations) false)

pub addressees_read : (xs : List ℕ) (stations : List StationInfo)
    → (is_global (slice_index xs 0) (ca_at tcp xs) || is_known stations (ca_at tcp xs))
    ≡ (list_any (is_for_station xs) stations || is_for_each xs)
addressees_read xs stations = by (ca_at tcp xs) (address_read xs)
  where
    by : (ca : ℕ) → ca ≡ common_address xs
        → (slice_index xs 0 == 100 && ca == 65535 || is_known stations ca)
        ≡ (list_any (is_for_station xs) stations || is_for_each xs)
    by ca e = rw e (known_read xs (common_address xs) (is_for_each xs) stations)

guard_read : (ca : ℕ) (stations : List StationInfo)
    → list_any (λ (station : StationInfo). station.ca == ca
    && station.select) stations
    ≡ list_any (λ (station : StationInfo). ca == station.ca && station.select) stations
guard_read ca [] = refl
guard_read ca (station ∷ stations) =
    let turned : (station.ca == ca) ≡ (ca == station.ca) = grind arith in
    rw (turned, guard_read ca stations) refl

pub guards_read : (xs : List ℕ) (stations : List StationInfo)
    → is_guarded stations (command_at xs) ≡ must_be_selected stations xs
guards_read xs stations = by (ca_at tcp xs) (address_read xs)
  where
    by : (ca : ℕ) → ca ≡ common_address xs → list_any (λ (station : StationInfo). station.ca == ca
        && station.select) stations ≡ must_be_selected stations xs
    by ca e = rw e (guard_read (common_address xs) stations)

pub numbers_read : (xs : List ℕ) (stations : List StationInfo)
    → station_number (command_at xs).ca stations ≡ station_of stations xs
numbers_read xs stations = by (ca_at tcp xs) (address_read xs) stations
  where
    turned : (n m : ℕ) → (n == m) ≡ (m == n)
    turned n m = grind arith

    more : (n : ℕ) → n + 1 ≡ suc n
    more n = omega arith

    by : (ca : ℕ) → ca ≡ common_address xs → (stations : List StationInfo)
        → station_number ca stations ≡ station_of stations xs
    by ca e [] = refl
    by ca e (station ∷ stations) =
        rw (by ca e stations, turned station.ca ca, e, more (station_of stations xs)) refl

-- ---- faults

-- what stands behind the object address
behind : (xs : List ℕ) → length xs ≡ command_len (slice_index xs 0)
    → length xs ≡ 9 + (element_len (line_kind (slice_index xs 0)) + tag_length (slice_index xs 0))
behind xs whole = by (element_len (line_kind (slice_index xs 0))) (tag_len (slice_index xs 0))
    (tag_length (slice_index xs 0)) (tag_len_read (slice_index xs 0)) whole
  where
    by : (n t u : ℕ) → t ≡ u → length xs ≡ 9 + n + t → length xs ≡ 9 + (n + u)
    by n t u e h = omega (arith, e, h)

pub last_read : (xs : List ℕ) → length xs ≡ command_len (slice_index xs 0)
    → qualifier (command_at xs).element ≡ last_octet xs
last_read xs whole = by (is_set_point (line_kind (slice_index xs 0))) refl
  where
    place : (n m t l : ℕ) → n ≡ m → l ≡ 9 + (n + t) → l - 1 - t ≡ 8 + m
    place n m t l e h = omega (arith, e, h)

    len : (b : Bool) → is_set_point (line_kind (slice_index xs 0)) ≡ b
        → element_len (line_kind (slice_index xs 0)) ≡ (if b then 3 else 1)
    len b e = ap (λ (c : Bool). if c then 3 else 1) e

    by : (b : Bool) → is_set_point (line_kind (slice_index xs 0)) ≡ b
        → qualifier (element_at (line_kind (slice_index xs 0)) (drop 9 xs))
        ≡ slice_index xs (length xs - 1 - tag_length (slice_index xs 0))
    by true e =
        let last : length xs - 1 - tag_length (slice_index xs 0) ≡ 11 =
        place (element_len (line_kind (slice_index xs 0))) 3 (tag_length (slice_index xs 0))
        (length xs)
        (len true e) (behind xs whole) in
        ap
        (λ (b : Bool). qualifier (if b then SetPoint (slice_index (drop 9 xs) 0)
        (slice_index (drop 9 xs) 1)
        (slice_index (drop 9 xs) 2) else Octet (slice_index (drop 9 xs) 0))) e
        ∙ (get_or-drop 9 xs 2 0 ∙ ap (λ (n : ℕ). slice_index xs n) (sym last))
    by false e =
        let last : length xs - 1 - tag_length (slice_index xs 0) ≡ 9 =
        place (element_len (line_kind (slice_index xs 0))) 1 (tag_length (slice_index xs 0))
        (length xs)
        (len false e) (behind xs whole) in
        ap
        (λ (b : Bool). qualifier (if b then SetPoint (slice_index (drop 9 xs) 0)
        (slice_index (drop 9 xs) 1)
        (slice_index (drop 9 xs) 2) else Octet (slice_index (drop 9 xs) 0))) e
        ∙ (get_or-drop 9 xs 0 0 ∙ ap (λ (n : ℕ). slice_index xs n) (sym last))

states_read : (q : ℕ) → (q % 4 == 1 || q % 4 == 2) ≡ not (q % 4 == 0 || q % 4 == 3)
states_read q = grind arith

permits_read : (k q : ℕ)
    → (if k == 46 || k == 47 then (q % 4 == 1 || q % 4 == 2) else (if k == 100 then nat_le 20 q
    && nat_le q 36 else true)) ≡
    (if k == 100 then nat_lt 19 q && nat_lt q 37
    else not ((k == 46 || k == 47) && (q % 4 == 0 || q % 4 == 3)))
permits_read k q = by (k == 46 || k == 47) (k == 100) refl refl
  where
    not_both : (k == 46 || k == 47) ≡ true → (k == 100) ≡ true → ⊥
    not_both e f = let no : false ≡ true = subst (λ (n : ℕ). (n == 46 || n == 47) ≡ true)
        (eqb-true k 100 f) e in
        search (rules, no)

    by : (a b : Bool) → (k == 46 || k == 47) ≡ a → (k == 100) ≡ b
        → (if a then (q % 4 == 1 || q % 4 == 2) else (if b then nat_le 20 q && nat_le q 36
        else true))
        ≡ (if b then nat_lt 19 q && nat_lt q 37 else not (a && (q % 4 == 0 || q % 4 == 3)))
    by true true e f = absurd (not_both e f)
    by true false e f = states_read q
    by false true e f = grind arith
    by false false e f = refl

pub permitted_read : (xs : List ℕ) → length xs ≡ command_len (slice_index xs 0)
    → is_permitted (command_at xs) ≡ may_operate xs
permitted_read xs whole =
    permits_read (line_kind (slice_index xs 0)) (qualifier (command_at xs).element)
    ∙ (ap (λ (q : ℕ). if line_kind (slice_index xs 0) == 100 then nat_lt 19 q
    && nat_lt q 37
    else not ((line_kind (slice_index xs 0) == 46 || line_kind (slice_index xs 0) == 47)
    && (q % 4 == 0 || q % 4 == 3))) (last_read xs whole)
    ∙ ap (λ (k : ℕ). if k == 100 then nat_lt 19 (last_octet xs)
    && nat_lt (last_octet xs) 37 else not ((k == 46 || k == 47)
    && (last_octet xs % 4 == 0 || last_octet xs % 4 == 3))) (kind_read (slice_index xs 0)))

neither : (a b : Bool) → (not a && not b) ≡ not (a || b)
neither true b = refl
neither false b = refl

above_zero : (n : ℕ) → not (n == 0) ≡ nat_lt 0 n
above_zero n = grind arith

named_read : (sizes : Sizes) (xs : List ℕ)
    → is_object sizes (slice_index xs 0) (first_address tcp xs)
    ≡ names_object sizes xs
named_read sizes xs = by (first_address tcp xs) (object_read xs)
  where
    by : (a : ℕ) → a ≡ object_address xs → is_object sizes (slice_index xs 0) a
        ≡ names_object sizes xs
    by a e = rw (e, above_zero (object_address xs)) refl

number_low : (v : ℕ) (b : Bool) → nat_le 128 v ≡ b → (v == 1) ≡ false → (b || not (v % 128 == 1))
    ≡ true
number_low v true e h = refl
number_low v false e h = grind (arith, e, h)

number_at_once : (v : ℕ) (b : Bool) → (v == 1) ≡ b → (nat_le 128 v || not (v % 128 == 1)) ≡ not b
number_at_once v true e = subst (λ (n : ℕ). (nat_le 128 n || not (n % 128 == 1)) ≡ false)
    (sym (eqb-true v 1 e)) refl
number_at_once v false e = number_low v (nat_le 128 v) refl e

not_both : (a b c : Bool) → a ≡ not b → (a || not c) ≡ not (b && c)
not_both a true c h = rw h refl
not_both a false c h = rw h refl

pub single_read : (xs : List ℕ) → (malformed xs).applies ≡ not (is_single xs)
single_read xs =
    ap (λ (n : ℕ). (nat_le 128 (slice_index xs 1) || not (slice_index xs 1 % 128 == 1))
    || not (length xs == n))
    (sym (length_read (slice_index xs 0)))
    ∙ not_both _ (slice_index xs 1 == 1) (length xs == command_len (slice_index xs 0))
    (number_at_once (slice_index xs 1) (slice_index xs 1 == 1) refl)

-- ---- ages

within_read : (a b most : ℕ) → nat_le (a - b) most ≡ nat_le a (b + most)
within_read a b most = grind arith

recent_read : (most : ℕ) (wall : Option ℕ) (v : Verdict) → is_recent most wall v
    ≡ is_fresh most wall v
recent_read most None v = refl
recent_read most (Some wall) (verdicts.Good instant) =
    rw (within_read wall instant most, within_read instant wall most) refl
recent_read most (Some wall) verdicts.MarkedInvalid = refl
recent_read most (Some wall) verdicts.OutOfRange = refl
recent_read most (Some wall) verdicts.NoSuchDay = refl
recent_read most (Some wall) verdicts.WrongWeekday = refl

stale_read : (most : ℕ) (wall : Option ℕ) (xs : List ℕ) → is_stale most wall xs
    ≡ (not_fresh most wall xs).applies
stale_read most wall xs =
    ap (λ (b : Bool). b && is_activation xs && not (is_recent most wall (verdict_of (tag_of xs))))
    (tagged_read (slice_index xs 0))
    ∙ ap (λ (b : Bool). has_tag (slice_index xs 0) && is_activation xs && not b)
    (recent_read most wall (verdict_of (tag_of xs)))

form_read : (age : ℕ) (wall : Option ℕ) (xs : List ℕ) → form_fault age wall xs
    ≡ first_cause (malformed xs ∷ not_permitted xs ∷ not_fresh age wall xs ∷ [])
form_read age wall xs = by (slice_index xs 1 == 1) (length xs == command_len (slice_index xs 0))
    refl
    ∙ ap (λ (b : Bool). if b then Some (negative xs)
    else first_cause (not_permitted xs ∷ not_fresh age wall xs ∷ []))
    (sym (single_read xs))
  where
    by : (a b : Bool) → (length xs == command_len (slice_index xs 0)) ≡ b →
        (if not (a && b) then Some (negative xs)
        else (if not (is_permitted (command_at xs)) then Some
        (negative xs) else (if is_stale age wall xs then Some (negative xs) else None))) ≡
        (if not (a && b) then Some (negative xs)
        else first_cause (not_permitted xs ∷ not_fresh age wall xs ∷ []))
    by false b f = refl
    by true false f = refl
    by true true f =
        ap (λ (p : Bool). if not p then Some (negative xs) else
        (if is_stale age wall xs then Some (negative xs) else None))
        (permitted_read xs (eqb-true (length xs) (command_len (slice_index xs 0)) f))
        ∙ ap (λ (p : Bool). if not (may_operate xs) then Some (negative xs) else
        (if p then Some (negative xs) else None)) (stale_read age wall xs)

pub faults_read : (sizes : Sizes) (stations : List StationInfo) (age : ℕ) (wall : Option ℕ)
    (xs : List ℕ)
    → fault sizes stations age wall xs ≡ cause_of_fault sizes stations age wall xs
faults_read sizes stations age wall xs = by _ _ _ _ _ (operates_read xs)
    (neither (is_activation xs) (is_deactivating xs)) (addressees_read xs stations)
    (named_read sizes xs)
    (form_read age wall xs)
  where
    by : (t c a o : Bool) (f : Option ℕ) → t ≡ operates xs
        → c ≡ not (is_activation xs || is_deactivating xs)
        → a ≡ (list_any (is_for_station xs) stations || is_for_each xs) → o ≡ names_object sizes xs
        →
        f ≡ first_cause (malformed xs ∷ not_permitted xs ∷ not_fresh age wall xs ∷ []) →
        (if not (t || slice_index xs 0 == 100) then Some 44 else
        (if c then Some 45 else (if not a then Some 46 else (if not o then Some 47 else f))))
        ≡ cause_of_fault sizes stations age wall xs
    by t c a o f e1 e2 e3 e4 e5 = rw (e1, e2, e3, e4, e5) refl

-- ---- if nothing is wrong with the command

pub record IsGood (xs : List ℕ) : Type 0 where
  pub cause : (is_activation xs || is_deactivating xs) ≡ true
  pub whole : length xs ≡ command_len (slice_index xs 0)

pub none_left : (a : Bool) (n : ℕ) (rest : Option ℕ) → (if a then Some n else rest) ≡ None
    → (a ≡ false) × (rest ≡ None)
none_left true n rest h = cc
none_left false n rest h = (refl, h)

pub held_up : (a : Bool) → not a ≡ false → a ≡ true
held_up true h = refl
held_up false h = sym h

pub good_read : (sizes : Sizes) (stations : List StationInfo) (age : ℕ) (wall : Option ℕ)
    (xs : List ℕ)
    → cause_of_fault sizes stations age wall xs ≡ None → IsGood xs
good_read sizes stations age wall xs h =
    let a : _ = none_left _ 44 _ h in
    let b : _ = none_left _ 45 _ a.1 in
    let c : _ = none_left _ 46 _ b.1 in
    let d : _ = none_left _ 47 _ c.1 in
    let e : _ = none_left (malformed xs).applies (negative xs) _ d.1 in
    let f : _ = and_parts (slice_index xs 1 == 1) (length xs == command_len (slice_index xs 0))
    (held_up (is_single xs) (sym (single_read xs) ∙ e.0)) in
    record {
      cause = held_up (is_activation xs || is_deactivating xs) b.0;
      whole =
          eqb-true (length xs) (command_len (slice_index xs 0)) f.1;
    }

pub good : (sizes : Sizes) (stations : List StationInfo) (age : ℕ) (wall : Option ℕ) (xs : List ℕ)
    → fault sizes stations age wall xs ≡ None → IsGood xs
good sizes stations age wall xs h =
    good_read sizes stations age wall xs (sym (faults_read sizes stations age wall xs)
    ∙ h)

-- no activation is a deactivation
pub activates : (xs : List ℕ) → (is_activation xs || is_deactivating xs) ≡ true
    → not (is_deactivating xs) ≡ is_activation xs
activates xs h = by (is_activation xs) (is_deactivating xs) refl refl h
  where
    by : (a d : Bool) → (slice_index xs 2 % 64 == 6) ≡ a → (slice_index xs 2 % 64 == 8) ≡ d
        → (a || d) ≡ true
        → not d ≡ a
    by true true e f g = grind (arith, e, f)
    by true false e f g = refl
    by false true e f g = refl
    by false false e f g = sym g

turned : (d p q : Bool) (a : Bool) → not d ≡ a → (not d && p && q) ≡ (p && a && q)
turned d true q a h = rw h (by a)
  where
    by : (a : Bool) → (a && true && q) ≡ (a && q)
    by true = refl
    by false = refl
turned d false q a h = ap (λ (b : Bool). b && q) (and_right_false (not d))

pub executes_read : (xs : List ℕ) → IsGood xs → is_execute (command_at xs) ≡ executes xs
executes_read xs g =
    turned (is_deactivating xs) (is_process_command (line_kind (slice_index xs 0)))
    (nat_lt (qualifier (command_at xs).element) 128) (is_activation xs) (activates xs g.cause)
    ∙ rw (operates_read xs, last_read xs g.whole) refl

pub selects_read : (xs : List ℕ) → IsGood xs → is_select (command_at xs) ≡ selects xs
selects_read xs g =
    turned (is_deactivating xs) (is_process_command (line_kind (slice_index xs 0)))
    (nat_le 128 (qualifier (command_at xs).element)) (is_activation xs) (activates xs g.cause)
    ∙ rw (operates_read xs, last_read xs g.whole) refl

spelled_element : (xs : List ℕ) → IsGood xs → element_octets (command_at xs).element
    ≡ element_part xs
spelled_element xs g = by (element_len (line_kind (slice_index xs 0)))
    (tag_length (slice_index xs 0))
    (behind xs g.whole) (λ h. element_front (line_kind (slice_index xs 0)) (drop 9 xs) h)
  where
    by : (n t : ℕ) → length xs ≡ 9 + (n + t) → (n ≤ length (drop 9 xs)
        → element_octets (command_at xs).element ≡ take n (drop 9 xs))
        → element_octets (command_at xs).element ≡ take (length xs - 9 - t) (drop 9 xs)
    by n t h front =
        let enough : n ≤ length (drop 9 xs) = omega (arith, length-drop 9 xs, h) in
        let same : length xs - 9 - t ≡ n = omega (arith, h) in
        rw same (front enough)

pub elements_read : (xs ys : List ℕ) → IsGood xs → IsGood ys → is_execute (command_at ys) ≡ true
    → same_element (without_select (command_at xs).element) (command_at ys).element
    ≡ have_one_element xs ys
elements_read xs ys g h x =
    let low : nat_lt (qualifier (command_at ys).element) 128 ≡ true =
    (and_parts (not (is_deactivating ys) && is_process_command (line_kind (slice_index ys 0)))
    (nat_lt (qualifier (command_at ys).element) 128) x).1 in
    apart_read (command_at xs).element (command_at ys).element low
    ∙ (ap (λ (us : List ℕ). are_equal (apart_from_select us)
    (apart_from_select (element_octets (command_at ys).element))) (spelled_element xs g)
    ∙ ap (λ (us : List ℕ). are_equal (apart_from_select (element_part xs)) (apart_from_select us))
    (spelled_element ys h))

-- ---- what a station answers

only_read : (xs : List ℕ) → IsGood xs → (v : AsduValue) (is : List Info)
    → names_one (command_at xs) v is ≡ is_only_object_of xs v is
only_read xs g v [] = refl
only_read xs g v (i ∷ []) =
    ap (λ (b : Bool). b && is_element (command_at xs).element (element_of i.element))
    (objects_read xs v i)
    ∙ ap (λ (b : Bool). is_object_of xs v i && b) (element_read (command_at xs).element i.element
    ∙ ap (λ (us : List ℕ). are_equal us i.element) (spelled_element xs g))
only_read xs g v (i ∷ j ∷ is) = refl

apart_signs : (c : ℕ) → is_positive_confirmation c ≡ true → is_negative_confirmation c ≡ false
apart_signs c h = grind (arith, eqb-true (c % 128) 7 h)

positive_first : (c : ℕ) (o : Bool) → (not (is_con true c) && is_con false c && o)
    ≡ (is_positive_confirmation c && o)
positive_first c o = by (is_positive_confirmation c) refl
  where
    by : (b : Bool) → is_positive_confirmation c ≡ b → (not (is_con true c) && is_con false c && o)
        ≡ (b && o)
    by true e = rw (negative_read c, positive_read c, apart_signs c e, e) refl
    by false e = rw (positive_read c, e, and_right_false (not (is_con true c))) refl

pub confirms_read : (xs : List ℕ) → IsGood xs → (v : AsduValue) → confirms (command_at xs) v
    ≡ confirms_command xs v
confirms_read xs g v = positive_first v.cause (names_one (command_at xs) v v.infos)
    ∙ ap (λ (b : Bool). is_positive_confirmation v.cause && b) (only_read xs g v v.infos)

any_read : (xs : List ℕ) (v : AsduValue) (is : List Info)
    → list_any (λ i. same_target (target_of (command_at xs)) (target_at v i)) is
    ≡ list_any (is_object_of xs v) is
any_read xs v [] = refl
any_read xs v (i ∷ is) = rw (objects_read xs v i, any_read xs v is) refl

pub refuses_read : (xs : List ℕ) (v : AsduValue) → negates (target_of (command_at xs)) v
    ≡ refuses_command xs v
refuses_read xs v =
    ap (λ (b : Bool). b && list_any (λ i. same_target (target_of (command_at xs)) (target_at v i))
    v.infos)
    (negative_read v.cause) ∙ ap (λ (b : Bool). is_negative_confirmation v.cause && b)
    (any_read xs v v.infos)
