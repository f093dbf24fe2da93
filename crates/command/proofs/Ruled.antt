-- The judgement is that of the first rule that applies.
use Rattle.std.proofs.Common.{◌≡◌, ℕ, ◌+◌, ◌&&◌, ◌||◌, Bool, true, false, not, List, [], ◌∷◌, ◌++◌}
use Rattle.std.proofs.Common.{refl, sym, ap, ◌∙◌, arith}
use Rattle.std.specs.Prelude.{Option, Some, None, if◌then◌else◌, option_map, nat_le, nat_lt}
use Rattle.std.specs.Prelude.{count_by, fold}
use Rattle.command.specs.declared.content.Command.{Command}
use Rattle.command.specs.declared.station.StationInfo.{StationInfo}
use Rattle.command.specs.Standard.{Rule, first_cause, own_rules, is_for_station}
use Rattle.command.specs.Octets.{answer, negative}
use Rattle.command.specs.Command.{command_at, is_deactivation, is_select, is_process_command}
use Rattle.command.specs.Command.{qualifier}
use Rattle.command.specs.Stations.{is_guarded, is_addressed}
use Rattle.command.specs.State.{State}
use Rattle.command.specs.Judging.{judged, by_fault, fault, admitted, placed, lacks_selection}
use Rattle.command.specs.Judging.{lacks_place, ends_selection, without_selection}
use Rattle.command.specs.Rules.{not_selected, no_place, rules_for}
use Rattle.command.proofs.ReadAlike.{IsGood, good, stations_read, guards_read, executes_read}
use Rattle.command.proofs.ReadAlike.{selects_read, faults_read}

-- ---- what is kept

no_select_at : (a p e s : Bool) → (e && s) ≡ false → (a || (not a && p && e)) ≡ true
    → (not a && p && s) ≡ false
no_select_at true p e s h g = refl
no_select_at false true true s h g = h
no_select_at false true false s h g = cc
no_select_at false false e s h g = refl

apart : (q : ℕ) → (nat_lt q 128 && nat_le 128 q) ≡ false
apart q = grind arith

-- what ends a selection is no select
no_select : (c : Command) → ends_selection c ≡ true → is_select c ≡ false
no_select c h = no_select_at (is_deactivation c) (is_process_command c.kind)
    (nat_lt (qualifier c.element) 128)
    (nat_le 128 (qualifier c.element)) (apart (qualifier c.element)) h

off : (g p : Bool) → p ≡ false → (g && p) ≡ false
off true p h = h
off false p h = refl

pub place_left : (c : Command) (s : State) (e : Bool) → ends_selection c ≡ e
    → lacks_place c (if e then without_selection c s else s) ≡ lacks_place c s
place_left c s false h = refl
place_left c s true h = rw (off (is_guarded s.stations c) (is_select c) (no_select c h)) refl

abbrev pub or_else : Option ℕ → Option ℕ → Option ℕ
or_else None o = o
or_else (Some cause) o = Some cause

abbrev given : List ℕ → Option ℕ → Option (List ℕ)
given xs o = option_map (λ cause. answer cause xs) o

placed_is : (xs : List ℕ) (c : Command) (now : ℕ) (s t : State) (b : Bool) → lacks_place c t ≡ b
    → (placed xs c now t).0 ≡ given xs (if b then Some (negative xs) else None)
placed_is xs c now s t true h = rw h refl
placed_is xs c now s t false h = rw h refl

admitted_is : (xs : List ℕ) (c : Command) (now : ℕ) (s : State) (b : Bool) → lacks_selection c now s
    ≡ b →
    (admitted xs c now s).0
    ≡ given xs (if b then Some (negative xs) else (if lacks_place c s then Some (negative xs)
    else None))
admitted_is xs c now s true h = rw h refl
admitted_is xs c now s false h =
    rw h (placed_is xs c now s (if ends_selection c then without_selection c s
    else s) (lacks_place c s)
    (place_left c s (ends_selection c) refl))

-- ---- the rules of what is kept

pub more_rules : (xs : List Rule) (ys : List Rule) → first_cause (xs ++ ys)
    ≡ or_else (first_cause xs) (first_cause ys)
more_rules [] ys = refl
more_rules (r ∷ xs) ys = by (more_rules xs ys) r.applies
  where
    by : first_cause (xs ++ ys) ≡ or_else (first_cause xs) (first_cause ys) → (b : Bool)
        → (if b then Some r.cause else first_cause (xs ++ ys))
        ≡ or_else (if b then Some r.cause else first_cause xs) (first_cause ys)
    by rest true = refl
    by rest false = rest

abbrev count_from : (StationInfo → Bool) → ℕ → List StationInfo → ℕ
count_from p n stations = fold (λ (a : ℕ) (station : StationInfo). a + (if p station then 1 else 0))
    n stations

counts_from : (xs : List ℕ) (n : ℕ) (stations : List StationInfo)
    → count_from (is_addressed (command_at xs)) n stations
    ≡ count_from (is_for_station xs) n stations
counts_from xs n [] = refl
counts_from xs n (station ∷ stations) =
    counts_from xs (n + (if is_addressed (command_at xs) station then 1 else 0)) stations
    ∙ ap (λ (b : Bool). count_from (is_for_station xs) (n + (if b then 1 else 0)) stations)
    (stations_read xs station)

pub counts_read : (xs : List ℕ) (stations : List StationInfo)
    → count_by (is_addressed (command_at xs)) stations ≡ count_by (is_for_station xs) stations
counts_read xs stations = counts_from xs 0 stations

pub lacks_read : (xs : List ℕ) (now : ℕ) (s : State) → IsGood xs
    → lacks_selection (command_at xs) now s ≡ (not_selected xs now s).applies
lacks_read xs now s g = rw (guards_read xs s.stations, executes_read xs g) refl

pub places_read : (xs : List ℕ) (s : State) → IsGood xs → lacks_place (command_at xs) s
    ≡ (no_place xs s).applies
places_read xs s g = rw (counts_read xs s.stations, guards_read xs s.stations, selects_read xs g)
    refl

kept_rules : (xs : List ℕ) (now : ℕ) (s : State) → IsGood xs
    → (admitted xs (command_at xs) now s).0
    ≡ given xs (first_cause (not_selected xs now s ∷ no_place xs s ∷ []))
kept_rules xs now s g = admitted_is xs (command_at xs) now s (lacks_selection (command_at xs) now s)
    refl
    ∙ rw (lacks_read xs now s g, places_read xs s g) refl

by_own : (xs : List ℕ) (now : ℕ) (wall : Option ℕ) (s : State) (o : Option ℕ)
    → fault s.sizes s.stations s.max_age_ms wall xs ≡ o
    → (by_fault o xs now s).0
    ≡ given xs (or_else o (first_cause (not_selected xs now s ∷ no_place xs s ∷ [])))
by_own xs now wall s (Some cause) e = refl
by_own xs now wall s None e = kept_rules xs now s (good s.sizes s.stations s.max_age_ms wall xs e)

pub first_rule : (xs : List ℕ) (now : ℕ) (wall : Option ℕ) (s : State)
    → (judged xs now wall s).0
    ≡ option_map (λ cause. answer cause xs) (first_cause (rules_for xs now wall s))
first_rule xs now wall s =
    by_own xs now wall s (fault s.sizes s.stations s.max_age_ms wall xs) refl
    ∙ ap
    (λ (o : Option ℕ). given xs
    (or_else o (first_cause (not_selected xs now s ∷ no_place xs s ∷ []))))
    (faults_read s.sizes s.stations s.max_age_ms wall xs)
    ∙ ap (λ (o : Option ℕ). given xs o)
    (sym (more_rules (own_rules s.sizes s.stations s.max_age_ms wall xs) (not_selected xs now s
    ∷ no_place xs s
    ∷ [])))
