-- What the rules say of a command whatever its numbers are (IEC 60870-5-101, 7.2.3 to 7.2.6 and
-- 7.3.2): each octet of a command with one object is given here, in the sizes of IEC 60870-5-104.
use Rattle.std.specs.Prelude.{◌≡◌, ℕ, ◌+◌, ◌*◌, ◌-◌, ◌%◌, ◌^◌, ◌<◌, ◌≤◌, ◌⊎◌, true, false, List, []}
use Rattle.std.specs.Prelude.{◌∷◌, ◌++◌, length, slice_get, Option, Some, None}
use Rattle.std.specs.List.{list_any}
use Rattle.elements.specs.Types.{row}
use Rattle.asdu.specs.Asdu.{AsduValue, Info}
use Rattle.asdu.specs.Sizes.{ioa_len}
use Rattle.asdu.specs.declared.sizes.Sizes.{Sizes}
use Rattle.command.specs.declared.station.StationInfo.{StationInfo}
use Rattle.command.specs.Standard.{plain_type, have_one_target, have_one_element, is_object_of}
use Rattle.command.specs.Standard.{is_for_station, station_of, IsFresh, unknown_station}
use Rattle.command.specs.Standard.{unknown_object, not_permitted, not_fresh, refuses_command}
use Rattle.command.specs.Standard.{is_negative_confirmation, executes, selects, is_activation}
use Rattle.command.specs.Standard.{is_deactivating, unknown_cause, have_one_test_bit}
use Rattle.command.specs.Standard.{have_one_type, unknown_type, malformed, confirms_command}
use Rattle.command.specs.Standard.{negative_of, cause_of_fault, must_be_selected, tag_of}
use Rattle.command.specs.Judging.{judged}
use Rattle.command.specs.Calls.{run}
use Rattle.command.specs.Examples.{sizes, stations, execute, confirmed_at_moments}

-- cause octet, originator, common address and object address, each low octet first
pub record Numbers : Type 0 where
  pub cause : ℕ
  pub originator : ℕ
  pub ca_low : ℕ
  pub ca_high : ℕ
  pub low : ℕ
  pub middle : ℕ
  pub high : ℕ

-- a command of this type with one object; its element and its tag follow
abbrev pub command_with : (kind : ℕ) → Numbers → List ℕ → List ℕ
command_with kind n rest =
    kind ∷ 1 ∷ n.cause ∷ n.originator ∷ n.ca_low ∷ n.ca_high ∷ n.low ∷ n.middle ∷ n.high ∷ rest

abbrev pub address_of : Numbers → ℕ
address_of n = n.ca_low + 256 * n.ca_high

abbrev pub object_of : Numbers → ℕ
object_of n = n.low + 256 * n.middle + 65536 * n.high

-- the seven octets of a time tag
pub record Tag : Type 0 where
  pub a : ℕ
  pub b : ℕ
  pub c : ℕ
  pub d : ℕ
  pub e : ℕ
  pub f : ℕ
  pub g : ℕ

abbrev pub seven : Tag → List ℕ
seven t = t.a ∷ t.b ∷ t.c ∷ t.d ∷ t.e ∷ t.f ∷ t.g ∷ []

-- ---- Common addresses (7.2.4)

-- A command is for each station with its common address, and an interrogation to 65535 for all. Of
-- several stations the first counts.
pub record AddressesAreRead : Type 0 where
  pub own : (kind : ℕ) (n : Numbers) (rest : List ℕ) (station : StationInfo) →
      address_of n ≡ station.ca → is_for_station (command_with kind n rest) station ≡ true
  pub each : (n : Numbers) (rest : List ℕ) (station : StationInfo) → n.ca_low ≡ 255 →
      n.ca_high ≡ 255 → is_for_station (command_with 100 n rest) station ≡ true
  pub no_other : (kind : ℕ) (n : Numbers) (rest : List ℕ) (station : StationInfo) →
      (address_of n ≡ station.ca → ⊥) → (kind ≡ 100 → address_of n ≡ 65535 → ⊥) →
      is_for_station (command_with kind n rest) station ≡ false
  pub known : (stations : List StationInfo) (k kind : ℕ) (n : Numbers) (rest : List ℕ)
      (station : StationInfo) → slice_get stations k ≡ Some station →
      address_of n ≡ station.ca →
      (unknown_station stations (command_with kind n rest)).applies ≡ false
  pub all_known : (stations : List StationInfo) (n : Numbers) (rest : List ℕ) →
      n.ca_low ≡ 255 → n.ca_high ≡ 255 →
      (unknown_station stations (command_with 100 n rest)).applies ≡ false
  pub first : (stations : List StationInfo) (k kind : ℕ) (n : Numbers) (rest : List ℕ)
      (station : StationInfo) → slice_get stations k ≡ Some station →
      address_of n ≡ station.ca →
      ((j : ℕ) (other : StationInfo) → j < k → slice_get stations j ≡ Some other →
      address_of n ≡ other.ca → ⊥) → station_of stations (command_with kind n rest) ≡ k
  -- a select is needed if the settings of a station with its address ask for one, and only then
  pub guarded : (stations : List StationInfo) (k kind : ℕ) (n : Numbers) (rest : List ℕ)
      (station : StationInfo) → slice_get stations k ≡ Some station →
      address_of n ≡ station.ca → station.select ≡ true →
      must_be_selected stations (command_with kind n rest) ≡ true
  pub unguarded : (stations : List StationInfo) (kind : ℕ) (n : Numbers) (rest : List ℕ) →
      ((k : ℕ) (station : StationInfo) → slice_get stations k ≡ Some station →
      address_of n ≡ station.ca → station.select ≡ false) →
      must_be_selected stations (command_with kind n rest) ≡ false

-- ---- Object addresses (7.2.5)

-- an interrogation is of object 0, any other command of an object that the line can name
pub record ObjectsAreRead : Type 0 where
  pub named : (sizes : Sizes) (kind : ℕ) (n : Numbers) (rest : List ℕ) → (kind ≡ 100 → ⊥) →
      0 < object_of n → object_of n < 256 ^ ioa_len sizes.ioa →
      (unknown_object sizes (command_with kind n rest)).applies ≡ false
  pub zero : (sizes : Sizes) (kind : ℕ) (n : Numbers) (rest : List ℕ) → (kind ≡ 100 → ⊥) →
      object_of n ≡ 0 → (unknown_object sizes (command_with kind n rest)).applies ≡ true
  pub past : (sizes : Sizes) (kind : ℕ) (n : Numbers) (rest : List ℕ) → (kind ≡ 100 → ⊥) →
      256 ^ ioa_len sizes.ioa ≤ object_of n →
      (unknown_object sizes (command_with kind n rest)).applies ≡ true
  pub station : (sizes : Sizes) (n : Numbers) (rest : List ℕ) → object_of n ≡ 0 →
      (unknown_object sizes (command_with 100 n rest)).applies ≡ false
  pub other : (sizes : Sizes) (n : Numbers) (rest : List ℕ) → 0 < object_of n →
      (unknown_object sizes (command_with 100 n rest)).applies ≡ true

-- ---- Targets

-- A select and an execute have one target if they have equal types on the line, common addresses
-- and object addresses. So have a command and an object of an answer.
pub record TargetsAreCompared : Type 0 where
  pub equal : (j k : ℕ) (n m : Numbers) (r s : List ℕ) → plain_type j ≡ plain_type k →
      address_of n ≡ address_of m → object_of n ≡ object_of m →
      have_one_target (command_with j n r) (command_with k m s) ≡ true
  pub only_equal : (j k : ℕ) (n m : Numbers) (r s : List ℕ) →
      have_one_target (command_with j n r) (command_with k m s) ≡ true →
      (plain_type j ≡ plain_type k) × (address_of n ≡ address_of m) × (object_of n ≡ object_of m)
  pub answered : (k : ℕ) (n : Numbers) (r : List ℕ) (v : AsduValue) (i : Info) →
      plain_type k ≡ (row v.kind).code → address_of n ≡ v.ca → object_of n ≡ i.address →
      is_object_of (command_with k n r) v i ≡ true
  pub only_answered : (k : ℕ) (n : Numbers) (r : List ℕ) (v : AsduValue) (i : Info) →
      is_object_of (command_with k n r) v i ≡ true →
      (plain_type k ≡ (row v.kind).code) × (address_of n ≡ v.ca) × (object_of n ≡ i.address)
  -- a negative confirmation refuses it, whatever objects stand before its own and behind it
  pub refused : (xs : List ℕ) (v : AsduValue) (before behind : List Info) (i : Info) →
      is_negative_confirmation v.cause ≡ true → v.infos ≡ before ++ i ∷ behind →
      is_object_of xs v i ≡ true → refuses_command xs v ≡ true
  -- and nothing else does: an activation con with P/N 1 that has its object
  pub only_refused : (xs : List ℕ) (v : AsduValue) → refuses_command xs v ≡ true →
      (v.cause % 128 ≡ 71) × (list_any (is_object_of xs v) v.infos ≡ true)

-- ---- Elements (7.2.6.15 to 7.2.6.17, 7.2.6.22 and 7.2.6.39)

-- one octet: all but S/E counts
abbrev pub HasOneOctet : (kind : ℕ) → (ℕ → List ℕ) → Type 0
HasOneOctet kind rest =
    (n m : Numbers) (x y : ℕ) →
    (x % 128 ≡ y % 128
    → have_one_element (command_with kind n (rest x)) (command_with kind m (rest y)) ≡ true)
    × (have_one_element (command_with kind n (rest x)) (command_with kind m (rest y)) ≡ true
    → x % 128 ≡ y % 128)

-- the value of a set point and its QOS: all but S/E counts
abbrev pub HasSetPoint : (kind : ℕ) → (ℕ → ℕ → ℕ → List ℕ) → Type 0
HasSetPoint kind rest =
    (n m : Numbers) (a b x c d y : ℕ) →
    (a ≡ c → b ≡ d → x % 128 ≡ y % 128
    → have_one_element (command_with kind n (rest a b x)) (command_with kind m (rest c d y)) ≡ true)
    × (have_one_element (command_with kind n (rest a b x)) (command_with kind m (rest c d y)) ≡ true
    → (a ≡ c) × (b ≡ d) × (x % 128 ≡ y % 128))

-- states 1 and 2 are permitted, 0 and 3 aren't, whatever the other bits are
abbrev pub HasTwoStates : (kind : ℕ) → (ℕ → List ℕ) → Type 0
HasTwoStates kind rest =
    (n : Numbers) (x : ℕ) →
    ((x % 4 ≡ 1) ⊎ (x % 4 ≡ 2)
    → (not_permitted (command_with kind n (rest x))).applies ≡ false)
    × ((x % 4 ≡ 0) ⊎ (x % 4 ≡ 3)
    → (not_permitted (command_with kind n (rest x))).applies ≡ true)

abbrev pub one_octet : ℕ → List ℕ
one_octet x = x ∷ []

abbrev pub set_point : ℕ → ℕ → ℕ → List ℕ
set_point a b x = a ∷ b ∷ x ∷ []

abbrev pub one_octet_tagged : Tag → ℕ → List ℕ
one_octet_tagged t x = x ∷ seven t

abbrev pub set_point_tagged : Tag → ℕ → ℕ → ℕ → List ℕ
set_point_tagged t a b x = a ∷ b ∷ x ∷ seven t

pub record ElementsAreRead : Type 0 where
  pub single : HasOneOctet 45 one_octet
  pub double : HasOneOctet 46 one_octet
  pub step : HasOneOctet 47 one_octet
  pub normalised : HasSetPoint 48 set_point
  pub scaled : HasSetPoint 49 set_point
  pub tagged_single : (t : Tag) → HasOneOctet 58 (one_octet_tagged t)
  pub tagged_double : (t : Tag) → HasOneOctet 59 (one_octet_tagged t)
  pub tagged_step : (t : Tag) → HasOneOctet 60 (one_octet_tagged t)
  pub tagged_normalised : (t : Tag) → HasSetPoint 61 (set_point_tagged t)
  pub tagged_scaled : (t : Tag) → HasSetPoint 62 (set_point_tagged t)
  pub double_states : HasTwoStates 46 one_octet
  pub step_states : HasTwoStates 47 one_octet
  pub tagged_double_states : (t : Tag) → HasTwoStates 59 (one_octet_tagged t)
  pub tagged_step_states : (t : Tag) → HasTwoStates 60 (one_octet_tagged t)
  pub single_states : (n : Numbers) (x : ℕ) →
      (not_permitted (command_with 45 n (one_octet x))).applies ≡ false
  pub values : (n : Numbers) (a b x : ℕ) →
      (not_permitted (command_with 48 n (set_point a b x))).applies ≡ false
  pub scaled_values : (n : Numbers) (a b x : ℕ) →
      (not_permitted (command_with 49 n (set_point a b x))).applies ≡ false
  pub tagged_single_states : (t : Tag) (n : Numbers) (x : ℕ) →
      (not_permitted (command_with 58 n (one_octet_tagged t x))).applies ≡ false
  pub tagged_values : (t : Tag) (n : Numbers) (a b x : ℕ) →
      (not_permitted (command_with 61 n (set_point_tagged t a b x))).applies ≡ false
  pub tagged_scaled_values : (t : Tag) (n : Numbers) (a b x : ℕ) →
      (not_permitted (command_with 62 n (set_point_tagged t a b x))).applies ≡ false
  -- the tag is what follows the element
  pub tags : (t : Tag) (kind : ℕ) (n : Numbers) (x : ℕ) →
      tag_of (command_with kind n (one_octet_tagged t x)) ≡ seven t
  pub tags_of_values : (t : Tag) (kind : ℕ) (n : Numbers) (a b x : ℕ) →
      tag_of (command_with kind n (set_point_tagged t a b x)) ≡ seven t
  -- 20 asks the station, and 21 to 36 its groups
  pub groups : (n : Numbers) (x : ℕ) → 20 ≤ x → x ≤ 36 →
      (not_permitted (command_with 100 n (one_octet x))).applies ≡ false
  pub below : (n : Numbers) (x : ℕ) → x < 20 →
      (not_permitted (command_with 100 n (one_octet x))).applies ≡ true
  pub above : (n : Numbers) (x : ℕ) → 36 < x →
      (not_permitted (command_with 100 n (one_octet x))).applies ≡ true

-- ---- Acts (7.2.3, 7.2.6.15 to 7.2.6.17 and 7.2.6.39: activation, deactivation, S/E)

-- An activation (6) with S/E 0 executes and one with S/E 1 selects, whatever the other bits are. No
-- other cause does either.
abbrev pub HasActs : (kind : ℕ) → (ℕ → List ℕ) → Type 0
HasActs kind rest =
    (n : Numbers) (x : ℕ) →
    (n.cause % 64 ≡ 6 → x < 128
    → (executes (command_with kind n (rest x)) ≡ true)
    × (selects (command_with kind n (rest x)) ≡ false))
    × (n.cause % 64 ≡ 6 → 128 ≤ x
    → (selects (command_with kind n (rest x)) ≡ true)
    × (executes (command_with kind n (rest x)) ≡ false))
    × ((n.cause % 64 ≡ 6 → ⊥)
    → (executes (command_with kind n (rest x)) ≡ false)
    × (selects (command_with kind n (rest x)) ≡ false))

pub record ActsAreRead : Type 0 where
  pub single : HasActs 45 one_octet
  pub double : HasActs 46 one_octet
  pub step : HasActs 47 one_octet
  pub normalised : (a b : ℕ) → HasActs 48 (set_point a b)
  pub scaled : (a b : ℕ) → HasActs 49 (set_point a b)
  pub tagged_single : (t : Tag) → HasActs 58 (one_octet_tagged t)
  pub tagged_double : (t : Tag) → HasActs 59 (one_octet_tagged t)
  pub tagged_step : (t : Tag) → HasActs 60 (one_octet_tagged t)
  pub tagged_normalised : (t : Tag) (a b : ℕ) → HasActs 61 (set_point_tagged t a b)
  pub tagged_scaled : (t : Tag) (a b : ℕ) → HasActs 62 (set_point_tagged t a b)
  -- an interrogation has no S/E
  pub interrogation : (n : Numbers) (rest : List ℕ) →
      (executes (command_with 100 n rest) ≡ false)
      × (selects (command_with 100 n rest) ≡ false)
  -- 6 asks for something and 8 takes it back; other causes are unknown
  pub activation : (kind : ℕ) (n : Numbers) (rest : List ℕ) → n.cause % 64 ≡ 6 →
      (is_activation (command_with kind n rest) ≡ true)
      × (is_deactivating (command_with kind n rest) ≡ false)
      × ((unknown_cause (command_with kind n rest)).applies ≡ false)
  pub deactivation : (kind : ℕ) (n : Numbers) (rest : List ℕ) → n.cause % 64 ≡ 8 →
      (is_activation (command_with kind n rest) ≡ false)
      × (is_deactivating (command_with kind n rest) ≡ true)
      × ((unknown_cause (command_with kind n rest)).applies ≡ false)
  pub other_cause : (kind : ℕ) (n : Numbers) (rest : List ℕ) → (n.cause % 64 ≡ 6 → ⊥) →
      (n.cause % 64 ≡ 8 → ⊥) → (unknown_cause (command_with kind n rest)).applies ≡ true
  -- the test bit is bit 7 of the cause octet: select and execute have the same
  pub tests : (j k : ℕ) (n m : Numbers) (r s : List ℕ) →
      ((n.cause < 128) × (m.cause < 128)) ⊎ ((128 ≤ n.cause) × (128 ≤ m.cause)) →
      have_one_test_bit (command_with j n r) (command_with k m s) ≡ true
  pub no_test : (j k : ℕ) (n m : Numbers) (r s : List ℕ) →
      ((n.cause < 128) × (128 ≤ m.cause)) ⊎ ((128 ≤ n.cause) × (m.cause < 128)) →
      have_one_test_bit (command_with j n r) (command_with k m s) ≡ false
  -- and the same type, with a tag or without
  pub types : (j k : ℕ) (n m : Numbers) (r s : List ℕ) → j ≡ k →
      have_one_type (command_with j n r) (command_with k m s) ≡ true
  pub only_types : (j k : ℕ) (n m : Numbers) (r s : List ℕ) →
      have_one_type (command_with j n r) (command_with k m s) ≡ true → j ≡ k

-- ---- Forms (7.2.2 and 7.3.2)

-- A command of this type, which the gateway knows, is well-formed if so many octets follow its
-- object address, and only then.
abbrev pub HasForm : (kind count : ℕ) → Type 0
HasForm kind count =
    (n : Numbers) (rest : List ℕ) →
    ((unknown_type (command_with kind n rest)).applies ≡ false)
    × (length rest ≡ count → (malformed (command_with kind n rest)).applies ≡ false)
    × ((length rest ≡ count → ⊥) → (malformed (command_with kind n rest)).applies ≡ true)

-- a command has one octet behind its address and a set point three; a tag has seven more
pub record FormsAreRead : Type 0 where
  pub single : HasForm 45 1
  pub double : HasForm 46 1
  pub step : HasForm 47 1
  pub normalised : HasForm 48 3
  pub scaled : HasForm 49 3
  pub tagged_single : HasForm 58 8
  pub tagged_double : HasForm 59 8
  pub tagged_step : HasForm 60 8
  pub tagged_normalised : HasForm 61 10
  pub tagged_scaled : HasForm 62 10
  pub interrogation : HasForm 100 1
  -- All other types are unknown, whatever follows.
  pub other_types : (kind : ℕ) (rest : List ℕ) → ((45 ≤ kind) × (kind ≤ 49) → ⊥) →
      ((58 ≤ kind) × (kind ≤ 62) → ⊥) → (kind ≡ 100 → ⊥) →
      (unknown_type (kind ∷ rest)).applies ≡ true
  -- No command is well-formed whose variable structure qualifier isn't 1 (SQ 0, one object),
  -- whatever its type is and whatever follows: its cause, its addresses, its elements.
  pub not_one : (kind number : ℕ) (rest : List ℕ) → (number ≡ 1 → ⊥) →
      (malformed (kind ∷ number ∷ rest)).applies ≡ true

-- ---- Confirmations (7.2.3: activation con)

-- An answer with one object confirms this command if it has cause 7 without P/N, and the type
-- without a tag, the addresses and the element that the command has. No other does.
abbrev pub HasConfirmation : (kind plain : ℕ) → (rest element : List ℕ) → Type 0
HasConfirmation kind plain rest element =
    (n : Numbers) (v : AsduValue) (i : Info) → v.infos ≡ i ∷ [] →
    (v.cause % 128 ≡ 7 → plain ≡ (row v.kind).code → address_of n ≡ v.ca →
    object_of n ≡ i.address → element ≡ i.element
    → confirms_command (command_with kind n rest) v ≡ true)
    × (confirms_command (command_with kind n rest) v ≡ true
    → (v.cause % 128 ≡ 7) × (plain ≡ (row v.kind).code) × (address_of n ≡ v.ca)
    × (object_of n ≡ i.address) × (element ≡ i.element))

pub record ConfirmationsAreRead : Type 0 where
  pub single : (x : ℕ) → HasConfirmation 45 45 (one_octet x) (one_octet x)
  pub double : (x : ℕ) → HasConfirmation 46 46 (one_octet x) (one_octet x)
  pub step : (x : ℕ) → HasConfirmation 47 47 (one_octet x) (one_octet x)
  pub normalised : (a b x : ℕ) → HasConfirmation 48 48 (set_point a b x) (set_point a b x)
  pub scaled : (a b x : ℕ) → HasConfirmation 49 49 (set_point a b x) (set_point a b x)
  pub tagged_single : (t : Tag) (x : ℕ) →
      HasConfirmation 58 45 (one_octet_tagged t x) (one_octet x)
  pub tagged_double : (t : Tag) (x : ℕ) →
      HasConfirmation 59 46 (one_octet_tagged t x) (one_octet x)
  pub tagged_step : (t : Tag) (x : ℕ) →
      HasConfirmation 60 47 (one_octet_tagged t x) (one_octet x)
  pub tagged_normalised : (t : Tag) (a b x : ℕ) →
      HasConfirmation 61 48 (set_point_tagged t a b x) (set_point a b x)
  pub tagged_scaled : (t : Tag) (a b x : ℕ) →
      HasConfirmation 62 49 (set_point_tagged t a b x) (set_point a b x)
  pub interrogation : (x : ℕ) → HasConfirmation 100 100 (one_octet x) (one_octet x)
  -- nor does an answer with no object, or with several
  pub no_object : (xs : List ℕ) (v : AsduValue) → v.infos ≡ [] → confirms_command xs v ≡ false
  pub several : (xs : List ℕ) (v : AsduValue) (i j : Info) (more : List Info) →
      v.infos ≡ i ∷ j ∷ more → confirms_command xs v ≡ false

-- ---- Causes of negative answers (7.2.3: 44 to 47, and activation con and deactivation con)

-- each rule that comes before the form of a command lets it pass
pub record IsKnown (sizes : Sizes) (stations : List StationInfo) (xs : List ℕ) : Type 0 where
  pub kind : (unknown_type xs).applies ≡ false
  pub cause : (unknown_cause xs).applies ≡ false
  pub station : (unknown_station stations xs).applies ≡ false
  pub object : (unknown_object sizes xs).applies ≡ false

pub record CausesAreGiven : Type 0 where
  -- 7 answers an activation and 9 a deactivation
  pub activation : (kind : ℕ) (n : Numbers) (rest : List ℕ) → n.cause % 64 ≡ 6 →
      negative_of (command_with kind n rest) ≡ 7
  pub deactivation : (kind : ℕ) (n : Numbers) (rest : List ℕ) → n.cause % 64 ≡ 8 →
      negative_of (command_with kind n rest) ≡ 9
  -- 44 stands before 45, 45 before 46, 46 before 47, and 47 before these
  pub unknown_types : (sizes : Sizes) (stations : List StationInfo) (most : ℕ) (wall : Option ℕ)
      (xs : List ℕ) → (unknown_type xs).applies ≡ true →
      cause_of_fault sizes stations most wall xs ≡ Some 44
  pub unknown_causes : (sizes : Sizes) (stations : List StationInfo) (most : ℕ) (wall : Option ℕ)
      (xs : List ℕ) → (unknown_type xs).applies ≡ false → (unknown_cause xs).applies ≡ true →
      cause_of_fault sizes stations most wall xs ≡ Some 45
  pub unknown_stations : (sizes : Sizes) (stations : List StationInfo) (most : ℕ)
      (wall : Option ℕ) (xs : List ℕ) → (unknown_type xs).applies ≡ false →
      (unknown_cause xs).applies ≡ false → (unknown_station stations xs).applies ≡ true →
      cause_of_fault sizes stations most wall xs ≡ Some 46
  pub unknown_objects : (sizes : Sizes) (stations : List StationInfo) (most : ℕ)
      (wall : Option ℕ) (xs : List ℕ) → (unknown_type xs).applies ≡ false →
      (unknown_cause xs).applies ≡ false → (unknown_station stations xs).applies ≡ false →
      (unknown_object sizes xs).applies ≡ true →
      cause_of_fault sizes stations most wall xs ≡ Some 47
  pub forms : (sizes : Sizes) (stations : List StationInfo) (most : ℕ) (wall : Option ℕ)
      (kind : ℕ) (n : Numbers) (rest : List ℕ) →
      IsKnown sizes stations (command_with kind n rest) →
      (malformed (command_with kind n rest)).applies ≡ true →
      (n.cause % 64 ≡ 6
      → cause_of_fault sizes stations most wall (command_with kind n rest) ≡ Some 7)
      × (n.cause % 64 ≡ 8
      → cause_of_fault sizes stations most wall (command_with kind n rest) ≡ Some 9)

-- ---- Times (this gateway's own profile)

-- A select that came at a moment and was confirmed at another lets its execute through: less than
-- select_ms from the select to the confirmation, and less than that from there on.
pub record TimesAreKept : Type 0 where
  pub passes : (select_ms max_age_ms came con now : ℕ) → con - came < select_ms →
      now - con < select_ms →
      (judged execute now None
      (run stations sizes select_ms max_age_ms (confirmed_at_moments came con)).state).0
      ≡ None
  -- and a fresh tag is never too old
  pub fresh : (max_age_ms : ℕ) (wall : Option ℕ) (xs : List ℕ) → IsFresh max_age_ms wall xs →
      (not_fresh max_age_ms wall xs).applies ≡ false
  -- an activation with any other tag is
  pub stale : (max_age_ms : ℕ) (wall : Option ℕ) (kind : ℕ) (n : Numbers) (rest : List ℕ) →
      58 ≤ kind → kind ≤ 62 → n.cause % 64 ≡ 6 →
      (IsFresh max_age_ms wall (command_with kind n rest) → ⊥) →
      (not_fresh max_age_ms wall (command_with kind n rest)).applies ≡ true
  -- but no command without one: types 58 to 62 alone have a tag
  pub untagged : (max_age_ms : ℕ) (wall : Option ℕ) (kind : ℕ) (rest : List ℕ) →
      ((58 ≤ kind) × (kind ≤ 62) → ⊥) → (not_fresh max_age_ms wall (kind ∷ rest)).applies ≡ false
  -- nor is a deactivation, whatever its tag and the wall say
  pub deactivation : (max_age_ms : ℕ) (wall : Option ℕ) (kind : ℕ) (n : Numbers)
      (rest : List ℕ) → n.cause % 64 ≡ 8 →
      (not_fresh max_age_ms wall (command_with kind n rest)).applies ≡ false
