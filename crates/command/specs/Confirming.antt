-- Which calls make a selection: a select comes and is forwarded, goes out in its turn, stands on
-- the
-- line until its station accepts it, and is confirmed in time (select before operate: IEC
-- 60870-5-101, 6.8; the times, and what ends it, are this gateway's own profile).
use Rattle.std.specs.Prelude.{◌≡◌, ℕ, ◌-◌, ◌<◌, ◌⊎◌, ◌==◌, ◌&&◌, ◌||◌, not, nat_lt, Bool, true}
use Rattle.std.specs.Prelude.{false}
use Rattle.std.specs.Prelude.{List, [], ◌∷◌, length, Option, None, is_none}
use Rattle.asdu.specs.Asdu.{AsduValue}
use Rattle.asdu.specs.declared.sizes.Sizes.{Sizes}
use Rattle.command.specs.declared.station.StationInfo.{StationInfo}
use Rattle.command.specs.Standard.{station_of, must_be_selected, selects, refuses_command}
use Rattle.command.specs.Standard.{have_one_target, have_one_type, have_one_element}
use Rattle.command.specs.Standard.{have_one_test_bit, confirms_command, cause_of_fault}
use Rattle.command.specs.Standard.{is_deactivating, executes}
use Rattle.command.specs.Judging.{judged}
use Rattle.command.specs.State.{octets_waiting}
use Rattle.command.specs.History.{sent_count, forwarded_to}
use Rattle.command.specs.Calls.{Call, Judge, PutOnLine, Accept, Busy, Lose, Mirror, Cut, Run, run}

-- select and execute have equal types as received, addresses and test bits, and equal elements
-- apart from S/E
pub record IsSelectOf (ys xs : List ℕ) : Type 0 where
  pub target : have_one_target xs ys ≡ true
  pub received : have_one_type ys xs ≡ true
  pub element : have_one_element ys xs ≡ true
  pub test : have_one_test_bit ys xs ≡ true

-- These calls are `begin`, or go on from there by calls of which none ends it. (`ends` looks at a
-- call and at those before it.)
abbrev pub GoOn : (ends : Call → List Call → Bool) → (begin : List Call) → List Call → Type 0
GoOn ends begin [] = begin ≡ []
GoOn ends begin (call ∷ earlier) =
    (begin ≡ call ∷ earlier) ⊎ ((ends call earlier ≡ false) × GoOn ends begin earlier)

module _ (stations : List StationInfo) (sizes : Sizes) (select_ms max_age_ms : ℕ) where
  abbrev after : List Call → Run
  after calls = run stations sizes select_ms max_age_ms calls

  -- The call ends each selection of the target of xs (type on the line, common address and object
  -- address): the connection ends; another select of it is forwarded; an execute or a deactivation
  -- of it comes with which nothing is wrong, whatever becomes of that; or a station refuses it.
  abbrev pub ends_selection : List ℕ → Call → List Call → Bool
  ends_selection xs Cut earlier = true
  ends_selection xs (Judge ys now wall) earlier =
      (is_none (judged ys now wall (after earlier).state).0
      && (must_be_selected stations ys && selects ys)
      && have_one_target xs ys)
      || ((is_none (cause_of_fault sizes stations max_age_ms wall ys) && have_one_target xs ys)
      && (is_deactivating ys || executes ys))
  ends_selection xs (Mirror v now) earlier = refuses_command xs v
  ends_selection xs _ earlier = false

  -- What stands on the line of station k is accepted, refused as busy or given up, or another
  -- command goes out to it.
  abbrev pub clears_line : ℕ → Call → List Call → Bool
  clears_line k (Accept j) earlier = k == j
  clears_line k (Busy j) earlier = k == j
  clears_line k (Lose j) earlier = k == j
  clears_line k (PutOnLine j) earlier =
      k == j && not (is_none (octets_waiting j (after earlier).state))
  clears_line k _ earlier = false

  -- A station confirms the select ys, which came at this moment, in time.
  abbrev pub confirms_in_time : (ys : List ℕ) (came : ℕ) → Call → Bool
  confirms_in_time ys came (Mirror v con) = confirms_command ys v && nat_lt (con - came) select_ms
  confirms_in_time ys came _ = false

  -- The execute xs, which comes now behind these calls, has its select among them. Since then
  -- nothing ended its selection, whatever else lies between.
  pub record IsExchanged (calls : List Call) (xs : List ℕ) (now : ℕ) : Type 0 where
    -- the select is forwarded
    pub select : List ℕ
    pub came : ℕ
    pub wall : Option ℕ
    pub earlier : List Call
    pub selecting : selects select ≡ true
    pub is_its : IsSelectOf select xs
    pub forwarded : (judged select came wall (after earlier).state).0 ≡ None
    -- it waits until those that were forwarded to its station before it went out
    pub waiting : List Call
    pub waits : GoOn (ends_selection xs) (Judge select came wall ∷ earlier) waiting
    pub in_turn : sent_count sizes stations select_ms max_age_ms (station_of stations select)
        (after waiting).history
        ≡ length (forwarded_to sizes stations select_ms max_age_ms (station_of stations select)
        (after earlier).history)
    -- it goes out, and stands on the line
    pub on_line : List Call
    pub stands : GoOn (λ call before. ends_selection xs call before
        || clears_line (station_of stations select) call before)
        (PutOnLine (station_of stations select) ∷ waiting) on_line
    -- the station accepts it there
    pub accepted : List Call
    pub awaits : GoOn (ends_selection xs) (Accept (station_of stations select) ∷ on_line) accepted
    -- and confirms it in time, for the last time then
    pub answer : AsduValue
    pub con : ℕ
    pub confirms : confirms_command select answer ≡ true
    pub confirmed_in_time : con - came < select_ms
    pub lasts : GoOn (λ call before. ends_selection xs call before
        || confirms_in_time select came call) (Mirror answer con ∷ accepted) calls
    -- and the execute comes in time
    pub in_time : now - con < select_ms
