-- What the octets of a command say is the same whatever its numbers are.
use Rattle.std.proofs.Common.{◌≡◌, ℕ, zero, suc, ◌-◌, ◌%◌, ◌^◌, ◌<◌, ◌≤◌, ◌⊎◌, inl, inr}
use Rattle.std.proofs.Common.{◌++◌, Bool, true, false, not, List, [], ◌∷◌, refl, sym, ap, ◌∙◌}
use Rattle.std.proofs.Common.{arith}
use Rattle.std.specs.Prelude.{◌==◌, ◌&&◌, ◌||◌, nat_lt, nat_le, slice_get, Some, length}
use Rattle.std.specs.Prelude.{if◌then◌else◌}
use Rattle.std.specs.List.{list_any}
use Rattle.std.proofs.lemmas.List.Folds.{list_any-append}
use Rattle.std.proofs.lemmas.Bool.Decides.{leb_tells}
use Rattle.std.proofs.lemmas.Bool.{eq-eqb, eqb-true, and_parts, lt-ltb, le-ltb, le-leb}
use Rattle.elements.specs.Types.{row}
use Rattle.asdu.specs.Asdu.{AsduValue, Info}
use Rattle.asdu.specs.Sizes.{ioa_len}
use Rattle.asdu.specs.declared.sizes.Sizes.{Sizes}
use Rattle.command.specs.declared.station.StationInfo.{StationInfo}
use Rattle.command.specs.Standard.{plain_type, is_for_station, is_for_each, station_of}
use Rattle.command.specs.Standard.{unknown_station, unknown_object, refuses_command}
use Rattle.command.specs.Standard.{is_negative_confirmation, is_object_of, malformed, has_tag}
use Rattle.command.specs.Standard.{is_process_type, unknown_type, must_be_selected, wants_select}
use Rattle.command.specs.Numbers.{Numbers, command_with, address_of, object_of, AddressesAreRead}
use Rattle.command.specs.Numbers.{ObjectsAreRead, TargetsAreCompared, ElementsAreRead}
use Rattle.command.specs.Numbers.{ActsAreRead, FormsAreRead}

-- ---- tests

unequal : (a b : ℕ) → (a ≡ b → ⊥) → (a == b) ≡ false
unequal a b other = go (a == b) refl
  where
    go : (t : Bool) → (a == b) ≡ t → (a == b) ≡ false
    go true is = absurd (other (eqb-true a b is))
    go false is = is

or_right : (a b : Bool) → b ≡ true → (a || b) ≡ true
or_right true b is = refl
or_right false b is = is

or_left : (a b : Bool) → a ≡ true → (a || b) ≡ true
or_left true b is = refl
or_left false b is = cc

pub both_true : (a b : Bool) → a ≡ true → b ≡ true → (a && b) ≡ true
both_true true b p is = is
both_true false b p is = cc

pub both_false : (a b : Bool) → b ≡ false → (a && b) ≡ false
both_false true b is = is
both_false false b is = refl

-- ---- common addresses

own : (kind : ℕ) (n : Numbers) (rest : List ℕ) (station : StationInfo)
    → address_of n ≡ station.ca
    → is_for_station (command_with kind n rest) station ≡ true
own kind n rest station is = or_left (address_of n == station.ca) _
    (eq-eqb (address_of n) station.ca is)

for_each : (n : Numbers) (rest : List ℕ) → n.ca_low ≡ 255 → n.ca_high ≡ 255
    → is_for_each (command_with 100 n rest) ≡ true
for_each n rest low high = eq-eqb (address_of n) 65535 (omega (arith, low, high))

each : (n : Numbers) (rest : List ℕ) (station : StationInfo) → n.ca_low ≡ 255 → n.ca_high ≡ 255
    → is_for_station (command_with 100 n rest) station ≡ true
each n rest station low high =
    or_right (address_of n == station.ca) (is_for_each (command_with 100 n rest))
    (for_each n rest low high)

no_other : (kind : ℕ) (n : Numbers) (rest : List ℕ) (station : StationInfo)
    → (address_of n ≡ station.ca → ⊥)
    → (kind ≡ 100 → address_of n ≡ 65535 → ⊥)
    → is_for_station (command_with kind n rest) station ≡ false
no_other kind n rest station apart not_all =
    let own : (address_of n == station.ca) ≡ false = unequal (address_of n) station.ca apart in
    rw own (go (kind == 100) (address_of n == 65535) refl refl)
  where
    go : (a b : Bool) → (kind == 100) ≡ a → (address_of n == 65535) ≡ b
        → ((kind == 100) && (address_of n == 65535)) ≡ false
    go false b is other = rw is refl
    go true false is other = rw (is, other) refl
    go true true is other =
        absurd (not_all (eqb-true kind 100 is) (eqb-true (address_of n) 65535 other))

any_is : (stations : List StationInfo) (k : ℕ) (station : StationInfo) (p : StationInfo → Bool)
    → slice_get stations k ≡ Some station
    → p station ≡ true
    → list_any p stations ≡ true
any_is [] k station p at is = cc
any_is (st ∷ sts) zero station p at is =
    or_left (p st) (list_any p sts) ((let same : st ≡ station = cc in ap p same) ∙ is)
any_is (st ∷ sts) (suc k) station p at is =
    or_right (p st) (list_any p sts) (any_is sts k station p at is)

known : (stations : List StationInfo) (k kind : ℕ) (n : Numbers) (rest : List ℕ)
    (station : StationInfo)
    → slice_get stations k ≡ Some station
    → address_of n ≡ station.ca
    → (unknown_station stations (command_with kind n rest)).applies ≡ false
known stations k kind n rest station at is =
    ap (λ (b : Bool). not (b || is_for_each (command_with kind n rest)))
    (any_is stations k station (is_for_station (command_with kind n rest)) at
    (own kind n rest station is))

all_known : (stations : List StationInfo) (n : Numbers) (rest : List ℕ) → n.ca_low ≡ 255
    → n.ca_high ≡ 255
    → (unknown_station stations (command_with 100 n rest)).applies ≡ false
all_known stations n rest low high =
    ap not (or_right (list_any (is_for_station (command_with 100 n rest)) stations)
    (is_for_each (command_with 100 n rest)) (for_each n rest low high))

first : (stations : List StationInfo) (k kind : ℕ) (n : Numbers) (rest : List ℕ)
    (station : StationInfo)
    → slice_get stations k ≡ Some station
    → address_of n ≡ station.ca
    → ((j : ℕ) (other : StationInfo) → j < k → slice_get stations j ≡ Some other
    → address_of n ≡ other.ca
    → ⊥)
    → station_of stations (command_with kind n rest) ≡ k
first [] k kind n rest station at is none = cc
first (st ∷ sts) zero kind n rest station at is none =
    let same : st.ca ≡ station.ca = ap (λ (o : StationInfo). o.ca) (let e : st ≡ station = cc in
    e) in
    let own : (address_of n == st.ca) ≡ true = eq-eqb (address_of n) st.ca (is ∙ sym same) in
    rw own refl
first (st ∷ sts) (suc k) kind n rest station at is none =
    let other : (address_of n == st.ca) ≡ false =
    unequal (address_of n) st.ca (none 0 st (omega arith) refl) in
    rw other (ap suc (first sts k kind n rest station at is
    (λ j it less there same. none (suc j) it (omega (arith, less)) there same)))

guarded : (stations : List StationInfo) (k kind : ℕ) (n : Numbers) (rest : List ℕ)
    (station : StationInfo)
    → slice_get stations k ≡ Some station
    → address_of n ≡ station.ca
    → station.select ≡ true
    → must_be_selected stations (command_with kind n rest) ≡ true
guarded stations k kind n rest station at is asks =
    any_is stations k station (wants_select (command_with kind n rest)) at
    (both_true (address_of n == station.ca) station.select (eq-eqb (address_of n) station.ca is)
    asks)

unguarded : (stations : List StationInfo) (kind : ℕ) (n : Numbers) (rest : List ℕ)
    → ((k : ℕ) (station : StationInfo) → slice_get stations k ≡ Some station
    → address_of n ≡ station.ca
    → station.select ≡ false)
    → must_be_selected stations (command_with kind n rest) ≡ false
unguarded [] kind n rest free = refl
unguarded (st ∷ sts) kind n rest free =
    let others : must_be_selected sts (command_with kind n rest) ≡ false =
    unguarded sts kind n rest (λ k station at is. free (suc k) station at is) in
    rw others (by (address_of n == st.ca) refl)
  where
    by : (b : Bool) → (address_of n == st.ca) ≡ b → ((b && st.select) || false) ≡ false
    by true is = rw (free 0 st refl (eqb-true (address_of n) st.ca is)) refl
    by false is = refl

pub addresses_hold : AddressesAreRead
addresses_hold = record {
  own = own;
  each = each;
  no_other = no_other;
  known = known;
  all_known = all_known;
  first = first;
  guarded = guarded;
  unguarded = unguarded;
}

-- ---- object addresses

named : (sizes : Sizes) (kind : ℕ) (n : Numbers) (rest : List ℕ) → (kind ≡ 100 → ⊥)
    → 0 < object_of n
    → object_of n < 256 ^ ioa_len sizes.ioa
    → (unknown_object sizes (command_with kind n rest)).applies ≡ false
named sizes kind n rest apart some small =
    let a : (kind == 100) ≡ false = unequal kind 100 apart in
    let b : nat_lt 0 (object_of n) ≡ true = lt-ltb 0 (object_of n) some in
    let c : nat_lt (object_of n) (256 ^ ioa_len sizes.ioa) ≡ true =
    lt-ltb (object_of n) (256 ^ ioa_len sizes.ioa) small in
    rw (a, b, c) refl

zero_object : (sizes : Sizes) (kind : ℕ) (n : Numbers) (rest : List ℕ) → (kind ≡ 100 → ⊥)
    → object_of n ≡ 0
    → (unknown_object sizes (command_with kind n rest)).applies ≡ true
zero_object sizes kind n rest apart none =
    let a : (kind == 100) ≡ false = unequal kind 100 apart in
    let b : nat_lt 0 (object_of n) ≡ false = le-ltb 0 (object_of n) (omega (arith, none)) in
    rw (a, b) refl

past : (sizes : Sizes) (kind : ℕ) (n : Numbers) (rest : List ℕ) → (kind ≡ 100 → ⊥)
    → 256 ^ ioa_len sizes.ioa ≤ object_of n
    → (unknown_object sizes (command_with kind n rest)).applies ≡ true
past sizes kind n rest apart high =
    let a : (kind == 100) ≡ false = unequal kind 100 apart in
    let c : nat_lt (object_of n) (256 ^ ioa_len sizes.ioa) ≡ false =
    le-ltb (object_of n) (256 ^ ioa_len sizes.ioa) high in
    rw (a, c) (go (nat_lt 0 (object_of n)))
  where
    go : (b : Bool) → not (b && false) ≡ true
    go true = refl
    go false = refl

station_object : (sizes : Sizes) (n : Numbers) (rest : List ℕ) → object_of n ≡ 0
    → (unknown_object sizes (command_with 100 n rest)).applies ≡ false
station_object sizes n rest none =
    let a : (object_of n == 0) ≡ true = eq-eqb (object_of n) 0 none in
    rw a refl

other_object : (sizes : Sizes) (n : Numbers) (rest : List ℕ) → 0 < object_of n
    → (unknown_object sizes (command_with 100 n rest)).applies ≡ true
other_object sizes n rest some =
    let a : (object_of n == 0) ≡ false =
    unequal (object_of n) 0 (λ e. absurd (omega (arith, e, some))) in
    rw a refl

pub objects_hold : ObjectsAreRead
objects_hold = record {
  named = named;
  zero = zero_object;
  past = past;
  station = station_object;
  other = other_object;
}

-- ---- targets

pub three_equal : (a b c d e f : ℕ) → a ≡ b → c ≡ d → e ≡ f
    → ((a == b) && (c == d) && (e == f)) ≡ true
three_equal a b c d e f x y z =
    let p : (a == b) ≡ true = eq-eqb a b x in
    let q : (c == d) ≡ true = eq-eqb c d y in
    let r : (e == f) ≡ true = eq-eqb e f z in
    rw (p, q, r) refl

pub three_only : (a b c d e f : ℕ) → ((a == b) && (c == d) && (e == f)) ≡ true
    → (a ≡ b) × (c ≡ d) × (e ≡ f)
three_only a b c d e f is = go (a == b) (c == d) (e == f) refl refl refl is
  where
    go : (p q r : Bool) → (a == b) ≡ p → (c == d) ≡ q → (e == f) ≡ r → (p && q && r) ≡ true
        → (a ≡ b) × (c ≡ d) × (e ≡ f)
    go true true true x y z is = (eqb-true a b x, eqb-true c d y, eqb-true e f z)
    go false q r x y z is = cc
    go true false r x y z is = cc
    go true true false x y z is = cc

refused : (xs : List ℕ) (v : AsduValue) (before behind : List Info) (i : Info)
    → is_negative_confirmation v.cause ≡ true
    → v.infos ≡ before ++ i ∷ behind
    → is_object_of xs v i ≡ true
    → refuses_command xs v ≡ true
refused xs v before behind i negative at is =
    let among : list_any (is_object_of xs v) v.infos ≡ true =
    ap (list_any (is_object_of xs v)) at
    ∙ list_any-append (is_object_of xs v) before (i ∷ behind)
    ∙ or_right (list_any (is_object_of xs v) before) (list_any (is_object_of xs v) (i ∷ behind))
    (or_left (is_object_of xs v i) (list_any (is_object_of xs v) behind) is) in
    rw (negative, among) refl

only_refused : (xs : List ℕ) (v : AsduValue) → refuses_command xs v ≡ true
    → (v.cause % 128 ≡ 71) × (list_any (is_object_of xs v) v.infos ≡ true)
only_refused xs v is =
    let parts = and_parts (v.cause % 128 == 71) (list_any (is_object_of xs v) v.infos) is in
    (eqb-true (v.cause % 128) 71 parts.0, parts.1)

pub targets_hold : TargetsAreCompared
targets_hold = record {
  equal = λ j k n m r s x y z. three_equal (plain_type j) (plain_type k) (address_of n)
      (address_of m) (object_of n) (object_of m) x y z;
  only_equal = λ j k n m r s is. three_only (plain_type j) (plain_type k) (address_of n)
      (address_of m) (object_of n) (object_of m) is;
  answered = λ k n r v i x y z. three_equal (plain_type k) (row v.kind).code (address_of n) v.ca
      (object_of n) i.address x y z;
  only_answered = λ k n r v i is. three_only (plain_type k) (row v.kind).code (address_of n) v.ca
      (object_of n) i.address is;
  refused = refused;
  only_refused = only_refused;
}

-- ---- elements

one_equal : (x y : ℕ) → x % 128 ≡ y % 128 → ((x % 128 == y % 128) && true) ≡ true
one_equal x y is = (let p : (x % 128 == y % 128) ≡ true = eq-eqb (x % 128) (y % 128) is in
    rw p refl)

one_only : (x y : ℕ) → ((x % 128 == y % 128) && true) ≡ true → x % 128 ≡ y % 128
one_only x y is = eqb-true (x % 128) (y % 128) (and_parts (x % 128 == y % 128) true is).0

point_equal : (a b x c d y : ℕ) → a ≡ c → b ≡ d → x % 128 ≡ y % 128
    → ((a == c) && ((b == d) && ((x % 128 == y % 128) && true))) ≡ true
point_equal a b x c d y e f g =
    let p : (a == c) ≡ true = eq-eqb a c e in
    let q : (b == d) ≡ true = eq-eqb b d f in
    let r : (x % 128 == y % 128) ≡ true = eq-eqb (x % 128) (y % 128) g in
    rw (p, q, r) refl

point_only : (a b x c d y : ℕ)
    → ((a == c) && ((b == d) && ((x % 128 == y % 128) && true))) ≡ true
    → (a ≡ c) × (b ≡ d) × (x % 128 ≡ y % 128)
point_only a b x c d y is =
    let first = and_parts (a == c) _ is in
    let second = and_parts (b == d) _ first.1 in
    (eqb-true a c first.0, eqb-true b d second.0, one_only x y second.1)

permitted : (x : ℕ) → (x % 4 ≡ 1) ⊎ (x % 4 ≡ 2) → not (not ((x % 4 == 0) || (x % 4 == 3))) ≡ false
permitted x (inl is) = rw is refl
permitted x (inr is) = rw is refl

forbidden : (x : ℕ) → (x % 4 ≡ 0) ⊎ (x % 4 ≡ 3) → not (not ((x % 4 == 0) || (x % 4 == 3))) ≡ true
forbidden x (inl is) = rw is refl
forbidden x (inr is) = rw is refl

group : (x : ℕ) → 20 ≤ x → x ≤ 36 → not (nat_lt 19 x && nat_lt x 37) ≡ false
group x low high =
    let p : nat_lt 19 x ≡ true = lt-ltb 19 x (omega (arith, low)) in
    let q : nat_lt x 37 ≡ true = lt-ltb x 37 (omega (arith, high)) in
    rw (p, q) refl

below : (x : ℕ) → x < 20 → not (nat_lt 19 x && nat_lt x 37) ≡ true
below x low = (let p : nat_lt 19 x ≡ false = le-ltb 19 x (omega (arith, low)) in rw p refl)

above : (x : ℕ) → 36 < x → not (nat_lt 19 x && nat_lt x 37) ≡ true
above x high =
    let p : nat_lt 19 x ≡ true = lt-ltb 19 x (omega (arith, high)) in
    let q : nat_lt x 37 ≡ false = le-ltb x 37 (omega (arith, high)) in
    rw (p, q) refl

pub elements_hold : ElementsAreRead
elements_hold = record {
  single = λ n m x y. (one_equal x y, one_only x y);
  double = λ n m x y. (one_equal x y, one_only x y);
  step = λ n m x y. (one_equal x y, one_only x y);
  normalised = λ n m a b x c d y. (point_equal a b x c d y, point_only a b x c d y);
  scaled = λ n m a b x c d y. (point_equal a b x c d y, point_only a b x c d y);
  tagged_single = λ t n m x y. (one_equal x y, one_only x y);
  tagged_double = λ t n m x y. (one_equal x y, one_only x y);
  tagged_step = λ t n m x y. (one_equal x y, one_only x y);
  tagged_normalised = λ t n m a b x c d y. (point_equal a b x c d y, point_only a b x c d y);
  tagged_scaled = λ t n m a b x c d y. (point_equal a b x c d y, point_only a b x c d y);
  double_states = λ n x. (permitted x, forbidden x);
  step_states = λ n x. (permitted x, forbidden x);
  tagged_double_states = λ t n x. (permitted x, forbidden x);
  tagged_step_states = λ t n x. (permitted x, forbidden x);
  single_states = λ n x. refl;
  values = λ n a b x. refl;
  scaled_values = λ n a b x. refl;
  tagged_single_states = λ t n x. refl;
  tagged_values = λ t n a b x. refl;
  tagged_scaled_values = λ t n a b x. refl;
  tags = λ t kind n x. refl;
  tags_of_values = λ t kind n a b x. refl;
  groups = λ n x low high. group x low high;
  below = λ n x low. below x low;
  above = λ n x high. above x high;
}

-- ---- acts

lower : (x : ℕ) → x < 128 → nat_le 128 x ≡ false
lower x low = grind (arith, low)

upper : (x : ℕ) → 128 ≤ x → nat_lt x 128 ≡ false
upper x high = le-ltb x 128 high

acts : (c x : ℕ)
    → (c % 64 ≡ 6 → x < 128
    → (((c % 64 == 6) && nat_lt x 128) ≡ true) × (((c % 64 == 6) && nat_le 128 x) ≡ false))
    × (c % 64 ≡ 6 → 128 ≤ x
    → (((c % 64 == 6) && nat_le 128 x) ≡ true) × (((c % 64 == 6) && nat_lt x 128) ≡ false))
    × ((c % 64 ≡ 6 → ⊥)
    → (((c % 64 == 6) && nat_lt x 128) ≡ false) × (((c % 64 == 6) && nat_le 128 x) ≡ false))
acts c x = (
  λ six low.
      (let p : (c % 64 == 6) ≡ true = eq-eqb (c % 64) 6 six in
      let q : nat_lt x 128 ≡ true = lt-ltb x 128 low in
      let r : nat_le 128 x ≡ false = lower x low in
      (rw (p, q) refl, rw (p, r) refl)),
  λ six high.
      (let p : (c % 64 == 6) ≡ true = eq-eqb (c % 64) 6 six in
      let q : nat_le 128 x ≡ true = le-leb 128 x high in
      let r : nat_lt x 128 ≡ false = upper x high in
      (rw (p, q) refl, rw (p, r) refl)),
  λ other. (let p : (c % 64 == 6) ≡ false = unequal (c % 64) 6 other in (rw p refl, rw p refl)),
)

pub six : (c : ℕ) → c % 64 ≡ 6
    → ((c % 64 == 6) ≡ true) × ((c % 64 == 8) ≡ false)
    × (not ((c % 64 == 6) || (c % 64 == 8)) ≡ false)
six c is =
    let p : (c % 64 == 6) ≡ true = eq-eqb (c % 64) 6 is in
    let q : (c % 64 == 8) ≡ false =
    unequal (c % 64) 8 (λ e. absurd (omega (arith, is, e))) in
    (p, q, rw p refl)

pub eight : (c : ℕ) → c % 64 ≡ 8
    → ((c % 64 == 6) ≡ false) × ((c % 64 == 8) ≡ true)
    × (not ((c % 64 == 6) || (c % 64 == 8)) ≡ false)
eight c is =
    let p : (c % 64 == 6) ≡ false =
    unequal (c % 64) 6 (λ e. absurd (omega (arith, is, e))) in
    let q : (c % 64 == 8) ≡ true = eq-eqb (c % 64) 8 is in
    (p, q, rw (p, q) refl)

neither : (c : ℕ) → (c % 64 ≡ 6 → ⊥) → (c % 64 ≡ 8 → ⊥)
    → not ((c % 64 == 6) || (c % 64 == 8)) ≡ true
neither c a b =
    let p : (c % 64 == 6) ≡ false = unequal (c % 64) 6 a in
    let q : (c % 64 == 8) ≡ false = unequal (c % 64) 8 b in
    rw (p, q) refl

alike : (a b : ℕ) → ((a < 128) × (b < 128)) ⊎ ((128 ≤ a) × (128 ≤ b))
    → (nat_le 128 a && nat_le 128 b || not (nat_le 128 a) && not (nat_le 128 b)) ≡ true
alike a b (inl low) =
    let p : nat_le 128 a ≡ false = lower a low.0 in
    let q : nat_le 128 b ≡ false = lower b low.1 in
    rw (p, q) refl
alike a b (inr high) =
    let p : nat_le 128 a ≡ true = le-leb 128 a high.0 in
    let q : nat_le 128 b ≡ true = le-leb 128 b high.1 in
    rw (p, q) refl

unlike : (a b : ℕ) → ((a < 128) × (128 ≤ b)) ⊎ ((128 ≤ a) × (b < 128))
    → (nat_le 128 a && nat_le 128 b || not (nat_le 128 a) && not (nat_le 128 b)) ≡ false
unlike a b (inl is) =
    let p : nat_le 128 a ≡ false = lower a is.0 in
    let q : nat_le 128 b ≡ true = le-leb 128 b is.1 in
    rw (p, q) refl
unlike a b (inr is) =
    let p : nat_le 128 a ≡ true = le-leb 128 a is.0 in
    let q : nat_le 128 b ≡ false = lower b is.1 in
    rw (p, q) refl

pub acts_hold : ActsAreRead
acts_hold = record {
  single = λ n x. acts n.cause x;
  double = λ n x. acts n.cause x;
  step = λ n x. acts n.cause x;
  normalised = λ a b n x. acts n.cause x;
  scaled = λ a b n x. acts n.cause x;
  tagged_single = λ t n x. acts n.cause x;
  tagged_double = λ t n x. acts n.cause x;
  tagged_step = λ t n x. acts n.cause x;
  tagged_normalised = λ t a b n x. acts n.cause x;
  tagged_scaled = λ t a b n x. acts n.cause x;
  interrogation = λ n rest. (refl, refl);
  activation = λ kind n rest is. six n.cause is;
  deactivation = λ kind n rest is. eight n.cause is;
  other_cause = λ kind n rest a b. neither n.cause a b;
  tests = λ j k n m r s is. alike n.cause m.cause is;
  no_test = λ j k n m r s is. unlike n.cause m.cause is;
  types = λ j k n m r s is. eq-eqb j k is;
  only_types = λ j k n m r s is. eqb-true j k is;
}

-- ---- forms

-- nine octets stand before
abbrev behind : ℕ → ℕ
behind a = suc (suc (suc (suc (suc (suc (suc (suc (suc a))))))))

form : (a b : ℕ) → (a ≡ b → not (behind a == behind b) ≡ false)
    × ((a ≡ b → ⊥) → not (behind a == behind b) ≡ true)
form a b = (
  λ same.
      (let p : (behind a == behind b) ≡ true =
      eq-eqb (behind a) (behind b) (ap (λ x. behind x) same) in
      rw p refl),
  λ other.
      (let p : (behind a == behind b) ≡ false =
      unequal (behind a) (behind b) (λ e. other (omega (arith, e))) in
      rw p refl),
)

pub no_tag : (kind : ℕ) → ((58 ≤ kind) × (kind ≤ 62) → ⊥) → has_tag kind ≡ false
no_tag kind other =
    let a : (kind == 58) ≡ false = unequal kind 58 (λ e. other (omega (arith, e), omega (arith, e)))
    in
    let b : (kind == 59) ≡ false = unequal kind 59 (λ e. other (omega (arith, e), omega (arith, e)))
    in
    let c : (kind == 60) ≡ false = unequal kind 60 (λ e. other (omega (arith, e), omega (arith, e)))
    in
    let d : (kind == 61) ≡ false = unequal kind 61 (λ e. other (omega (arith, e), omega (arith, e)))
    in
    let f : (kind == 62) ≡ false = unequal kind 62 (λ e. other (omega (arith, e), omega (arith, e)))
    in
    rw (a, b, c, d, f) refl

no_process : (kind : ℕ) → ((45 ≤ kind) × (kind ≤ 49) → ⊥) → is_process_type kind ≡ false
no_process kind other =
    let a : (kind == 45) ≡ false = unequal kind 45 (λ e. other (omega (arith, e), omega (arith, e)))
    in
    let b : (kind == 46) ≡ false = unequal kind 46 (λ e. other (omega (arith, e), omega (arith, e)))
    in
    let c : (kind == 47) ≡ false = unequal kind 47 (λ e. other (omega (arith, e), omega (arith, e)))
    in
    let d : (kind == 48) ≡ false = unequal kind 48 (λ e. other (omega (arith, e), omega (arith, e)))
    in
    let f : (kind == 49) ≡ false = unequal kind 49 (λ e. other (omega (arith, e), omega (arith, e)))
    in
    rw (a, b, c, d, f) refl

other_types : (kind : ℕ) (rest : List ℕ) → ((45 ≤ kind) × (kind ≤ 49) → ⊥)
    → ((58 ≤ kind) × (kind ≤ 62) → ⊥)
    → (kind ≡ 100 → ⊥)
    → (unknown_type (kind ∷ rest)).applies ≡ true
other_types kind rest process tagged interrogates =
    ap (λ (b : Bool). not (is_process_type (if b then kind - 13 else kind) || kind == 100))
    (no_tag kind tagged)
    ∙ ap (λ (b : Bool). not (b || kind == 100)) (no_process kind process)
    ∙ ap not (unequal kind 100 interrogates)

not_one : (kind number : ℕ) (rest : List ℕ) → (number ≡ 1 → ⊥)
    → (malformed (kind ∷ number ∷ rest)).applies ≡ true
not_one kind number rest other = by (leb_tells 128 number)
  where
    by : ((nat_le 128 number ≡ true) × (128 ≤ number))
        ⊎ ((nat_le 128 number ≡ false) × (number < 128))
        → (malformed (kind ∷ number ∷ rest)).applies ≡ true
    by (inl high) = rw high.0 refl
    by (inr low) =
        let q : (number % 128 == 1) ≡ false =
        unequal (number % 128) 1 (λ e. other (omega (arith, e, low.1))) in
        rw (low.0, q) refl

pub forms_hold : FormsAreRead
forms_hold = record {
  single = λ n rest. (refl, (form (length rest) 1).0, (form (length rest) 1).1);
  double = λ n rest. (refl, (form (length rest) 1).0, (form (length rest) 1).1);
  step = λ n rest. (refl, (form (length rest) 1).0, (form (length rest) 1).1);
  normalised = λ n rest. (refl, (form (length rest) 3).0, (form (length rest) 3).1);
  scaled = λ n rest. (refl, (form (length rest) 3).0, (form (length rest) 3).1);
  tagged_single = λ n rest. (refl, (form (length rest) 8).0, (form (length rest) 8).1);
  tagged_double = λ n rest. (refl, (form (length rest) 8).0, (form (length rest) 8).1);
  tagged_step = λ n rest. (refl, (form (length rest) 8).0, (form (length rest) 8).1);
  tagged_normalised = λ n rest. (refl, (form (length rest) 10).0, (form (length rest) 10).1);
  tagged_scaled = λ n rest. (refl, (form (length rest) 10).0, (form (length rest) 10).1);
  interrogation = λ n rest. (refl, (form (length rest) 1).0, (form (length rest) 1).1);
  other_types = other_types;
  not_one = not_one;
}
