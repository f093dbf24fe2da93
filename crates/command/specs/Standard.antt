-- What the standard says of the octets of a command and of a station's answer to it (IEC
-- 60870-5-101, 7.2 and 7.3.2, in the sizes of IEC 60870-5-104: two octets of cause, two of common
-- address, three of object address, each low octet first). Nothing of the machine is borrowed here:
-- laws say that its functions read the same.
use Rattle.std.specs.Prelude.{◌≡◌, ◌≢◌, ℕ, suc, ◌+◌, ◌*◌, ◌-◌, ◌%◌, ◌^◌, ◌≤◌, Bool, true, false}
use Rattle.std.specs.Prelude.{not, ◌&&◌, ◌||◌, ◌==◌, nat_lt, nat_le, if◌then◌else◌, List, [], ◌∷◌}
use Rattle.std.specs.Prelude.{length, take, drop, slice_index, Option, Some, None}
use Rattle.std.specs.List.{list_any}
use Rattle.elements.specs.Types.{row}
use Rattle.elements.specs.TimeTag.{verdict_of}
use Rattle.elements.specs.declared.tag.Verdict.{Verdict}
use Rattle.elements.specs.declared.tag.Verdict.TheVariants.{Good}
use Rattle.asdu.specs.Asdu.{AsduValue, Info}
use Rattle.asdu.specs.Sizes.{ioa_len}
use Rattle.asdu.specs.declared.sizes.Sizes.{Sizes}
use Rattle.command.specs.declared.station.StationInfo.{StationInfo}

-- ---- A command from the control centre

-- 7.2.4 and 7.2.5
abbrev pub common_address : List ℕ → ℕ
common_address xs = slice_index xs 4 + 256 * slice_index xs 5

abbrev pub object_address : List ℕ → ℕ
object_address xs = slice_index xs 6 + 256 * slice_index xs 7 + 65536 * slice_index xs 8

-- 7.3.2: single, double and step command, normalized and scaled set point
abbrev pub is_process_type : ℕ → Bool
is_process_type octet = octet == 45 || octet == 46 || octet == 47 || octet == 48 || octet == 49

-- IEC 60870-5-104, 8: types 58 to 62 are types 45 to 49, in this order, with CP56Time2a behind the
-- element
abbrev pub has_tag : ℕ → Bool
has_tag octet = octet == 58 || octet == 59 || octet == 60 || octet == 61 || octet == 62

-- the type of the command without its tag, as it goes to the line
abbrev pub plain_type : ℕ → ℕ
plain_type octet = if has_tag octet then octet - 13 else octet

abbrev pub operates : List ℕ → Bool
operates xs = is_process_type (plain_type (slice_index xs 0))

-- 7.2.6.18: CP56Time2a has seven octets
abbrev pub tag_length : ℕ → ℕ
tag_length octet = if has_tag octet then 7 else 0

-- the octets of the tag, which stand last
abbrev pub tag_of : List ℕ → List ℕ
tag_of xs = drop (length xs - 7) xs

abbrev pub tag_if_any : List ℕ → Option (List ℕ)
tag_if_any xs = if has_tag (slice_index xs 0) then Some (tag_of xs) else None

-- the octets of the element: behind the object address, up to the tag
abbrev pub element_part : List ℕ → List ℕ
element_part xs = take (length xs - 9 - tag_length (slice_index xs 0)) (drop 9 xs)

-- 7.2.3: 6 is activation and 8 deactivation, in bits 5 to 0
abbrev pub is_activation : List ℕ → Bool
is_activation xs = slice_index xs 2 % 64 == 6

abbrev pub is_deactivating : List ℕ → Bool
is_deactivating xs = slice_index xs 2 % 64 == 8

-- SCO, DCO, RCO (7.2.6.15 to 7.2.6.17), QOS (7.2.6.39), QOI (7.2.6.22): the last octet of the
-- element
abbrev pub last_octet : List ℕ → ℕ
last_octet xs = slice_index xs (length xs - 1 - tag_length (slice_index xs 0))

-- S/E is bit 7 of that octet: 1 selects, 0 executes
abbrev pub selects : List ℕ → Bool
selects xs = operates xs && is_activation xs && nat_le 128 (last_octet xs)

abbrev pub executes : List ℕ → Bool
executes xs = operates xs && is_activation xs && nat_lt (last_octet xs) 128

-- equal type on the line, common address and object address
abbrev pub have_one_target : List ℕ → List ℕ → Bool
have_one_target xs ys =
    plain_type (slice_index xs 0) == plain_type (slice_index ys 0)
    && common_address xs == common_address ys && object_address xs == object_address ys

-- equal type as received: both with a tag, or both without
abbrev pub have_one_type : List ℕ → List ℕ → Bool
have_one_type xs ys = slice_index xs 0 == slice_index ys 0

abbrev pub are_equal : List ℕ → List ℕ → Bool
are_equal [] [] = true
are_equal (x ∷ xs) (y ∷ ys) = x == y && are_equal xs ys
are_equal [] (y ∷ ys) = false
are_equal (x ∷ xs) [] = false

-- the octets of an element with S/E 0
abbrev pub apart_from_select : List ℕ → List ℕ
apart_from_select [] = []
apart_from_select (x ∷ []) = x % 128 ∷ []
apart_from_select (x ∷ y ∷ ys) = x ∷ apart_from_select (y ∷ ys)

-- equal elements, apart from S/E
abbrev pub have_one_element : List ℕ → List ℕ → Bool
have_one_element xs ys =
    are_equal (apart_from_select (element_part xs)) (apart_from_select (element_part ys))

-- 7.2.3: the test bit is bit 7 of the cause octet
abbrev pub is_test : ℕ → Bool
is_test cause = nat_le 128 cause

-- both are tests, or neither is
abbrev pub have_one_test_bit : List ℕ → List ℕ → Bool
have_one_test_bit xs ys =
    is_test (slice_index xs 2) && is_test (slice_index ys 2)
    || not (is_test (slice_index xs 2)) && not (is_test (slice_index ys 2))

-- ---- A station's answer to a command

-- 7.2.3: cause 7 is activation confirmation; P/N is bit 6; the test bit, bit 7, is no matter
abbrev pub is_positive_confirmation : ℕ → Bool
is_positive_confirmation cause = cause % 128 == 7

abbrev pub is_negative_confirmation : ℕ → Bool
is_negative_confirmation cause = cause % 128 == 64 + 7

-- the object is the command's: equal type on the line, common address and object address
abbrev pub is_object_of : List ℕ → AsduValue → Info → Bool
is_object_of xs v i =
    plain_type (slice_index xs 0) == (row v.kind).code
    && common_address xs == v.ca && object_address xs == i.address

-- the one object is the command's, with its element
abbrev pub is_only_object_of : List ℕ → AsduValue → List Info → Bool
is_only_object_of xs v [] = false
is_only_object_of xs v (i ∷ []) = is_object_of xs v i && are_equal (element_part xs) i.element
is_only_object_of xs v (i ∷ j ∷ is) = false

-- it confirms the command
abbrev pub confirms_command : List ℕ → AsduValue → Bool
confirms_command xs v = is_positive_confirmation v.cause && is_only_object_of xs v v.infos

-- it refuses the command, alone or among others
abbrev pub refuses_command : List ℕ → AsduValue → Bool
refuses_command xs v = is_negative_confirmation v.cause && list_any (is_object_of xs v) v.infos

-- ---- Stations (this gateway's own profile: a station has one common address, and the settings say
-- whether a command has to be selected)

-- 7.2.4: 65535 is each station, here for interrogations (type 100) alone
abbrev pub is_for_each : List ℕ → Bool
is_for_each xs = slice_index xs 0 == 100 && common_address xs == 65535

abbrev pub is_for_station : List ℕ → StationInfo → Bool
is_for_station xs station = common_address xs == station.ca || is_for_each xs

abbrev pub wants_select : List ℕ → StationInfo → Bool
wants_select xs station = common_address xs == station.ca && station.select

abbrev pub must_be_selected : List StationInfo → List ℕ → Bool
must_be_selected stations xs = list_any (wants_select xs) stations

-- how many stations stand before the first with its common address
abbrev pub station_of : List StationInfo → List ℕ → ℕ
station_of [] xs = 0
station_of (station ∷ stations) xs =
    if common_address xs == station.ca then 0 else suc (station_of stations xs)

-- ---- The age of a command with a tag (this gateway's own profile)

-- these instants are at most so many ms apart
abbrev pub are_near : ℕ → ℕ → ℕ → Bool
are_near most a b = nat_le a (b + most) && nat_le b (a + most)

-- the tag is good, the wall is known (ms since 1970-01-01), and its instant is near it
abbrev pub is_fresh : ℕ → Option ℕ → Verdict → Bool
is_fresh most (Some wall) (Good instant) = are_near most wall instant
is_fresh most wall verdict = false

-- the same, as a statement on the octets
pub record IsFresh (most : ℕ) (wall : Option ℕ) (xs : List ℕ) : Type 0 where
  pub instant : ℕ
  pub good : verdict_of (tag_of xs) ≡ Good instant
  pub clock : ℕ
  pub known : wall ≡ Some clock
  pub not_old : clock ≤ instant + most
  pub not_ahead : instant ≤ clock + most

-- ---- What is wrong with a command (7.2.3: causes 44 to 47, and P/N 1 with 7 and 9; that negative
-- answers are given so, and in this order, is this gateway's own profile)

-- when a rule applies, and the cause of the answer that it gives
pub record Rule : Type 0 where
  pub applies : Bool
  pub cause : ℕ

-- the cause that the first rule that applies gives, if one does
abbrev pub first_cause : List Rule → Option ℕ
first_cause [] = None
first_cause (r ∷ rs) = if r.applies then Some r.cause else first_cause rs

-- 7 confirms an activation and 9 a deactivation
abbrev pub negative_of : List ℕ → ℕ
negative_of xs = if is_activation xs then 7 else 9

-- An own answer: the ASDU that came, with another cause, P/N 1 and the test bit that it had
-- (7.2.3).
pub record IsRefusal (cause : ℕ) (xs a : List ℕ) : Type 0 where
  pub same_length : length a ≡ length xs
  pub same_octets : (k : ℕ) → k ≢ 2 → slice_index a k ≡ slice_index xs k
  pub new_cause : slice_index a 2 % 64 ≡ cause
  pub negative : nat_le 64 (slice_index a 2 % 128) ≡ true
  pub test : is_test (slice_index a 2) ≡ is_test (slice_index xs 2)

-- the type is none of 45 to 49, 58 to 62 and 100
abbrev pub unknown_type : List ℕ → Rule
unknown_type xs = record { applies = not (operates xs || slice_index xs 0 == 100); cause = 44 }

-- the cause is neither activation nor deactivation
abbrev pub unknown_cause : List ℕ → Rule
unknown_cause xs = record { applies = not (is_activation xs || is_deactivating xs); cause = 45 }

-- the common address is no station's, and not the global one of an interrogation
abbrev pub unknown_station : List StationInfo → List ℕ → Rule
unknown_station stations xs = record {
  applies = not (list_any (is_for_station xs) stations || is_for_each xs);
  cause = 46;
}

-- an interrogation is of object 0, any other command of one that the line can name
abbrev pub names_object : Sizes → List ℕ → Bool
names_object sizes xs =
    if slice_index xs 0 == 100 then object_address xs == 0
    else nat_lt 0 (object_address xs) && nat_lt (object_address xs) (256 ^ ioa_len sizes.ioa)

abbrev pub unknown_object : Sizes → List ℕ → Rule
unknown_object sizes xs = record { applies = not (names_object sizes xs); cause = 47 }

-- a set point has two octets of a value before its QOS, any other command one octet (7.3.2)
abbrev pub element_length : ℕ → ℕ
element_length octet = if octet == 48 || octet == 49 then 3 else 1

-- header, address, element and tag
abbrev pub whole_length : ℕ → ℕ
whole_length octet = 9 + element_length (plain_type octet) + tag_length octet

-- SQ, bit 7 of the variable structure qualifier, is 1, or the number in its bits 6 to 0 isn't 1
-- (7.2.2), or the length isn't that of such a command
abbrev pub malformed : List ℕ → Rule
malformed xs = record {
  applies =
      (nat_le 128 (slice_index xs 1) || not (slice_index xs 1 % 128 == 1))
      || not (length xs == whole_length (slice_index xs 0));
  cause = negative_of xs;
}

-- QOI is 20 for the station and 21 to 36 for its groups (7.2.6.22). A double or step command's
-- state is in bits 1 and 0, and 0 and 3 are not permitted there (7.2.6.16 and 7.2.6.17).
abbrev pub may_operate : List ℕ → Bool
may_operate xs =
    if plain_type (slice_index xs 0) == 100
    then nat_lt 19 (last_octet xs) && nat_lt (last_octet xs) 37
    else not ((plain_type (slice_index xs 0) == 46 || plain_type (slice_index xs 0) == 47)
    && (last_octet xs % 4 == 0 || last_octet xs % 4 == 3))

abbrev pub not_permitted : List ℕ → Rule
not_permitted xs = record { applies = not (may_operate xs); cause = negative_of xs }

-- an activation with a tag that isn't fresh
abbrev pub not_fresh : ℕ → Option ℕ → List ℕ → Rule
not_fresh max_age_ms wall xs = record {
  applies =
      has_tag (slice_index xs 0) && is_activation xs
      && not (is_fresh max_age_ms wall (verdict_of (tag_of xs)));
  cause = negative_of xs;
}

-- the rules of the command alone, which came at this wall moment, in their order
abbrev pub own_rules : Sizes → List StationInfo → ℕ → Option ℕ → List ℕ → List Rule
own_rules sizes stations max_age_ms wall xs =
    unknown_type xs ∷ unknown_cause xs ∷ unknown_station stations xs ∷ unknown_object sizes xs
    ∷ malformed xs ∷ not_permitted xs ∷ not_fresh max_age_ms wall xs ∷ []

-- the cause of the answer that the command gets for what it is itself; none if nothing is wrong
-- with it
abbrev pub cause_of_fault : Sizes → List StationInfo → ℕ → Option ℕ → List ℕ → Option ℕ
cause_of_fault sizes stations max_age_ms wall xs =
    first_cause (own_rules sizes stations max_age_ms wall xs)
