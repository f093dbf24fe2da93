-- Select before operate on a log, by what became of commands (IEC 60870-5-101, 6.8 and 7.2.6: S/E).
-- How long a selection lasts, and what ends it, is this gateway's own profile. Nothing here is
-- borrowed from what `command` keeps of selections.
use Rattle.std.specs.Prelude.{◌≡◌, ◌⊎◌, ◌<◌, ◌-◌, ◌%◌, ◌&&◌, ℕ, true, false, List, [], ◌∷◌, ◌++◌}
use Rattle.std.specs.Prelude.{length, None}
use Rattle.std.specs.List.{list_any, AllByRecursion}
use Rattle.asdu.specs.Asdu.{AsduValue}
use Rattle.command.specs.Standard.{cause_of_fault, confirms_command, executes, have_one_element}
use Rattle.command.specs.Standard.{have_one_target, have_one_test_bit, have_one_type}
use Rattle.command.specs.Standard.{is_deactivating, is_object_of, selects, station_of}
use Rattle.command.specs.History.{History, HistoryEntry, Judged, Sent, Accepted, Mirrored, Ended}
use Rattle.command.specs.History.{forwarded_to, sent_count}
use Rattle.gateway.specs.Reports.{Setup}
use Rattle.delivery.specs.Refusing.{StaysOnLine}

-- ---- What ends a selection

module _ (p : Setup) (xs : List ℕ) where
  -- It ends the selection of the object of xs. An execute or a deactivation of that object comes
  -- with which nothing is wrong, whatever becomes of it. Or a station refuses it, by an activation
  -- con with P/N 1 (7.2.3). Or the connection ends.
  abbrev pub EndsSelection : HistoryEntry → Type 0
  EndsSelection (Judged now wall ys answer) =
      (cause_of_fault p.sizes p.stations p.max_age_ms wall ys ≡ None)
      × (have_one_target xs ys ≡ true) × ((executes ys ≡ true) ⊎ (is_deactivating ys ≡ true))
  EndsSelection (Mirrored now v) = (v.cause % 128 ≡ 71)
      × (list_any (is_object_of xs v) v.infos ≡ true)
  EndsSelection Ended = Unit {0}
  EndsSelection entry = ⊥

-- none of these is a select of the object of xs that was forwarded
abbrev pub SelectsNothing : (xs : List ℕ) → History → Type 0
SelectsNothing xs [] = Unit {0}
SelectsNothing xs (Judged now wall ys None ∷ h) =
    ((selects ys && have_one_target xs ys) ≡ false) × SelectsNothing xs h
SelectsNothing xs (entry ∷ h) = SelectsNothing xs h

-- ---- What selects

-- The select ys came at this moment, behind these, and the execute xs comes now. What became of
-- commands since then begins with what went to the station of ys before it. Then ys went out,
-- behind all that were forwarded to that station before it, and the station accepted it. Then a
-- station confirmed it, less than select_ms after it had come and less than select_ms before now.
-- The two have one type as received, one element apart from S/E, and one test bit.
pub record IsSelectedBy (p : Setup) (ys : List ℕ) (came : ℕ) (behind : History)
    (since earlier : History) (xs : List ℕ) (now : ℕ) : Type 0 where
  pub received : have_one_type ys xs ≡ true
  pub element : have_one_element ys xs ≡ true
  pub test : have_one_test_bit ys xs ≡ true
  pub later : History
  pub between : History
  pub stood : History
  pub waited : History
  pub octets : List ℕ
  pub con : ℕ
  pub answer : AsduValue
  pub are : since ≡ later ++ Mirrored con answer ∷ (between ++ Accepted (station_of p.stations ys)
      ∷ (stood ++ Sent (station_of p.stations ys) octets ∷ waited))
  pub in_turn : sent_count p.sizes p.stations p.select_ms p.max_age_ms (station_of p.stations ys)
      (waited ++ behind)
      ≡ length (forwarded_to p.sizes p.stations p.select_ms p.max_age_ms (station_of p.stations ys)
      earlier)
  pub confirms : confirms_command ys answer ≡ true
  pub in_time : con - came < p.select_ms
  pub lasts : now - con < p.select_ms

-- ---- What doesn't matter

-- It is no matter of the object of xs. It is a command to another object, forwarded or not, or an
-- answer of a station in which that object isn't, or it is on a line. The connection goes on.
abbrev pub IsApart : (xs : List ℕ) → HistoryEntry → Type 0
IsApart xs (Judged now wall ys answer) = have_one_target xs ys ≡ false
IsApart xs (Mirrored now v) = list_any (is_object_of xs v) v.infos ≡ false
IsApart xs Ended = ⊥
IsApart xs entry = Unit {0}

-- The select ys was forwarded, went out in its turn, was accepted by its station and confirmed in
-- time. All else that became of commands before, in between and behind is no matter of the object
-- of the execute xs.
pub record IsThrough (p : Setup) (ys xs : List ℕ) (came con now : ℕ) (answer : AsduValue)
    (later between stood waited behind earlier : History) : Type 0 where
  pub selecting : selects ys ≡ true
  pub target : have_one_target xs ys ≡ true
  pub received : have_one_type ys xs ≡ true
  pub element : have_one_element ys xs ≡ true
  pub test : have_one_test_bit ys xs ≡ true
  pub apart_waited : AllByRecursion (IsApart xs) waited
  pub apart_stood : AllByRecursion (IsApart xs) stood
  pub apart_between : AllByRecursion (IsApart xs) between
  pub apart_later : AllByRecursion (IsApart xs) later
  pub in_turn : sent_count p.sizes p.stations p.select_ms p.max_age_ms (station_of p.stations ys)
      (waited ++ behind)
      ≡ length (forwarded_to p.sizes p.stations p.select_ms p.max_age_ms (station_of p.stations ys)
      earlier)
  pub on_line : StaysOnLine (station_of p.stations ys) stood
  pub confirms : confirms_command ys answer ≡ true
  pub in_time : con - came < p.select_ms
  pub lasts : now - con < p.select_ms
