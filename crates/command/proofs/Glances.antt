-- What was seen of a state is judged as the state is.
use Rattle.std.proofs.Common.{◌≡◌, ℕ, ◌+◌, ◌&&◌, ◌||◌, Bool, true, false, not, List, [], ◌∷◌, ◌++◌}
use Rattle.std.proofs.Common.{length, map, refl, sym, ap, ◌∙◌, arith, length-append}
use Rattle.std.specs.Prelude.{Option, Some, None, count_by, is_some, nat_lt, nat_le, if◌then◌else◌}
use Rattle.std.specs.List.{filter_map, list_any, cons_option}
use Rattle.std.proofs.lemmas.List.{length-map, map-append}
use Rattle.command.specs.Command.{command_at, is_execute, is_deactivation}
use Rattle.command.specs.Selection.{advanced, lets_through, is_live, same_target, target_of}
use Rattle.command.specs.Stations.{is_addressed, is_guarded}
use Rattle.command.specs.State.{State}
use Rattle.command.specs.Judging.{fault, by_fault, judged, admitted, placed, copies, others}
use Rattle.command.specs.Judging.{ends_selection, without_selection, lacks_selection, lacks_place}
use Rattle.command.specs.Judging.{makes_selection, selection_of, forwarded}
use Rattle.asdu.specs.declared.sizes.Sizes.{Sizes}
use Rattle.command.specs.declared.station.StationInfo.{StationInfo}
use Rattle.command.specs.declared.refusal.Refusal.TheVariants as refusal
use Rattle.command.specs.Refusals.{Seen, settled, settled_stage, glance_of, refusal_of, rule_by}
use Rattle.command.specs.Refusals.{admission_rule, place_rule, seen_by, seen_admitted, seen_placed}
use Rattle.command.specs.Refusals.{seen_forwarded, seen_ended, seen_others, seen_lacks_selection}
use Rattle.command.specs.Refusals.{seen_lacks_place, seen_selection}
use Rattle.command.specs.Restored.{HasSettings}
use Rattle.command.specs.declared.content.Command.{Command}
use Rattle.command.specs.declared.refusal.Refusal.{Refusal}
use Rattle.command.specs.declared.selection.Selection.{Selection}
use Rattle.command.specs.declared.selection.SelectStage.{SelectStage}
use Rattle.command.specs.declared.selection.SelectStage.TheVariants.{Queued, Sent, Accepted, Live}
use Rattle.command.specs.declared.selection.Sign.TheVariants as sign
use Rattle.command.proofs.Kept.{copies_count}

-- a select that waits lets nothing through, however long it waits
live_alike : (ms now : ℕ) (stage : SelectStage) → is_live ms now (settled_stage stage)
    ≡ is_live ms now stage
live_alike ms now (Queued ahead) = refl
live_alike ms now Sent = refl
live_alike ms now Accepted = refl
live_alike ms now (Live since) = refl

through_alike : (ms now : ℕ) (c : Command) (z : Selection) → lets_through ms c now (settled z)
    ≡ lets_through ms c now z
through_alike ms now c z = rw (live_alike ms now z.stage) refl

any_alike : (ms now : ℕ) (c : Command) (zs : List Selection)
    → list_any (lets_through ms c now) (map settled zs) ≡ list_any (lets_through ms c now) zs
any_alike ms now c [] = refl
any_alike ms now c (z ∷ zs) =
    ap (λ b. b || list_any (lets_through ms c now) (map settled zs)) (through_alike ms now c z)
    ∙ ap (λ b. lets_through ms c now z || b) (any_alike ms now c zs)

-- the selections of other targets
others_by : (b : Bool) (z : Selection) (zs ys : List Selection) → ys ≡ map settled zs
    → cons_option (if b then None else Some (settled z)) ys
    ≡ map settled (cons_option (if b then None else Some z) zs)
others_by true z zs ys e = e
others_by false z zs ys e = ap (λ ws. settled z ∷ ws) e

others_alike : (ms : ℕ) (c : Command) (zs : List Selection)
    → filter_map (advanced ms (sign.Over (target_of c))) (map settled zs)
    ≡ map settled (filter_map (advanced ms (sign.Over (target_of c))) zs)
others_alike ms c [] = refl
others_alike ms c (z ∷ zs) = others_by (same_target (target_of z.command) (target_of c)) z
    (filter_map (advanced ms (sign.Over (target_of c))) zs) _ (others_alike ms c zs)

-- a forwarded command
waiting_alike : (xs : List ℕ) (s : State)
    → length (s.waiting ++ copies s.sizes xs 0 s.stations)
    ≡ length s.waiting + count_by (is_addressed (command_at xs)) s.stations
waiting_alike xs s = omega (
  arith,
  length-append s.waiting (copies s.sizes xs 0 s.stations),
  copies_count s.sizes xs 0 s.stations,
)

abbrev seen : ℕ → List Selection → Seen
seen n zs = record { waiting = n; selections = zs }

forwarded_by : (xs : List ℕ) (now : ℕ) (s : State) (m : Bool)
    → makes_selection s.stations (command_at xs) ≡ m
    → seen_forwarded s (command_at xs) now (glance_of s)
    ≡ glance_of (forwarded xs (command_at xs) now s)
forwarded_by xs now s true e = rw e (
    ap (λ zs. seen (length s.waiting + count_by (is_addressed (command_at xs)) s.stations)
    (zs ++ seen_selection s (command_at xs) now ∷ []))
    (others_alike s.select_ms (command_at xs) s.selections)
    ∙ ap (λ n. seen n (map settled (others (command_at xs) s) ++ seen_selection s (command_at xs)
    now ∷ []))
    (sym (waiting_alike xs s))
    ∙ ap (λ zs. seen (length (s.waiting ++ copies s.sizes xs 0 s.stations)) zs)
    (sym (map-append settled (others (command_at xs) s) (selection_of (command_at xs) now s ∷ []))))
forwarded_by xs now s false e =
    rw e (ap (λ n. seen n (map settled s.selections)) (sym (waiting_alike xs s)))

-- the places
lacks_alike : (c : Command) (s : State) → seen_lacks_place s c (glance_of s) ≡ lacks_place c s
lacks_alike c s =
    let len : length (seen_others s c (glance_of s)) ≡ length (others c s) =
    ap length (others_alike s.select_ms c s.selections) ∙ length-map (others c s) settled in
    ap (λ n. nat_lt 64 (length s.waiting + count_by (is_addressed c) s.stations)
    || (makes_selection s.stations c && nat_le 16 n)) len

Placed : List ℕ → ℕ → State → Type 0
Placed xs now s = seen_placed s (command_at xs) now (glance_of s)
    ≡ (place_rule (command_at xs) s, glance_of (placed xs (command_at xs) now s).1)

placed_by : (xs : List ℕ) (now : ℕ) (s : State) (b : Bool) → lacks_place (command_at xs) s ≡ b
    → Placed xs now s
unfolding Placed
placed_by xs now s true e = rw (lacks_alike (command_at xs) s ∙ e) (rw e refl)
placed_by xs now s false e = rw (lacks_alike (command_at xs) s ∙ e) (rw e
    (ap (λ g. (none, g)) (forwarded_by xs now s (makes_selection s.stations (command_at xs)) refl)))
  where
    none : Option Refusal
    none = None

-- an execute, or a deactivation, ends the selection of its target
ended_by : (c : Command) (s : State) (b : Bool) → ends_selection c ≡ b
    → seen_ended s c (glance_of s) ≡ glance_of (if ends_selection c then without_selection c s
    else s)
ended_by c s true e =
    rw e (ap (λ zs. seen (length s.waiting) zs) (others_alike s.select_ms c s.selections))
ended_by c s false e = rw e refl

ended_alike : (c : Command) (s : State)
    → seen_ended s c (glance_of s) ≡ glance_of (if ends_selection c then without_selection c s
    else s)
ended_alike c s = ended_by c s (ends_selection c) refl

-- what an execute or a deactivation leaves has the same settings
placed_after : (xs : List ℕ) (now : ℕ) (s : State) (b : Bool)
    → seen_placed s (command_at xs) now (glance_of (if b then without_selection (command_at xs) s
    else s))
    ≡ (
      place_rule (command_at xs) (if b then without_selection (command_at xs) s else s),
      glance_of (placed xs (command_at xs) now (if b then without_selection (command_at xs) s
          else s)).1,
    )
unfolding Placed
placed_after xs now s true =
    let t : State = without_selection (command_at xs) s in
    placed_by xs now t (lacks_place (command_at xs) t) refl
placed_after xs now s false = placed_by xs now s (lacks_place (command_at xs) s) refl

lacking_alike : (c : Command) (now : ℕ) (s : State) → seen_lacks_selection s c now (glance_of s)
    ≡ lacks_selection c now s
lacking_alike c now s =
    ap (λ b. is_guarded s.stations c && is_execute c && not b)
    (any_alike s.select_ms now c s.selections)

-- who lacks a selection is an execute, and ends one
ends_by : (guarded execute selected deactivation : Bool) → (guarded && execute && selected) ≡ true
    → (deactivation || execute) ≡ true
ends_by true true selected true e = refl
ends_by true true selected false e = refl
ends_by true false selected deactivation e = absurd (let no : ⊥ = cc in no)
ends_by false execute selected deactivation e = absurd (let no : ⊥ = cc in no)

Admitted : List ℕ → ℕ → State → Type 0
Admitted xs now s = seen_admitted s (command_at xs) now (glance_of s)
    ≡ (admission_rule (command_at xs) now s, glance_of (admitted xs (command_at xs) now s).1)

admitted_by : (xs : List ℕ) (now : ℕ) (s : State) (b : Bool) → lacks_selection (command_at xs) now s
    ≡ b
    → Admitted xs now s
unfolding Admitted
admitted_by xs now s true e =
    let ends : ends_selection (command_at xs) ≡ true =
    ends_by (is_guarded s.stations (command_at xs)) (is_execute (command_at xs)) _
    (is_deactivation (command_at xs)) e in
    rw (lacking_alike (command_at xs) now s ∙ e) (rw e (
    ap (λ g. (lacking, g)) (ended_alike (command_at xs) s
    ∙ ap (λ b. glance_of (if b then without_selection (command_at xs) s else s)) ends)))
  where
    lacking : Option Refusal
    lacking = Some refusal.NotSelected
admitted_by xs now s false e =
    rw (lacking_alike (command_at xs) now s ∙ e) (rw e (
    ap (λ g. seen_placed s (command_at xs) now g) (ended_alike (command_at xs) s)
    ∙ placed_after xs now s (ends_selection (command_at xs))))

judged_by : (xs : List ℕ) (now : ℕ) (wall : Option ℕ) (s : State) (f : Option ℕ)
    → seen_by f xs now wall s (glance_of s)
    ≡ (rule_by f xs now wall s, glance_of (by_fault f xs now s).1)
unfolding Admitted
judged_by xs now wall s (Some cause) = refl
judged_by xs now wall s None = admitted_by xs now s (lacks_selection (command_at xs) now s) refl

-- another state with the same settings may be asked
asked_of : List StationInfo → Sizes → ℕ → ℕ → State
asked_of stations sizes select_ms max_age_ms = record {
  stations = stations;
  sizes = sizes;
  select_ms = select_ms;
  max_age_ms = max_age_ms;
  waiting = [];
  lines = [];
  selections = [];
  sendings = [];
  answers = [];
}

answer_at : List ℕ → ℕ → Option ℕ → Seen → List StationInfo → Sizes → ℕ → ℕ → Option Refusal × Seen
answer_at xs now wall g stations sizes select_ms max_age_ms =
    seen_by (fault sizes stations max_age_ms wall xs) xs now wall
    (asked_of stations sizes select_ms max_age_ms) g

settings_alike : (xs : List ℕ) (now : ℕ) (wall : Option ℕ) (g : Seen) (t s : State)
    → HasSettings t.stations t.sizes t.select_ms t.max_age_ms s
    → answer_at xs now wall g t.stations t.sizes t.select_ms t.max_age_ms
    ≡ answer_at xs now wall g s.stations s.sizes s.select_ms s.max_age_ms
settings_alike xs now wall g t s same =
    ap (λ x. answer_at xs now wall g x t.sizes t.select_ms t.max_age_ms) (sym same.same_stations)
    ∙ ap (λ x. answer_at xs now wall g s.stations x t.select_ms t.max_age_ms) (sym same.same_sizes)
    ∙ ap (λ x. answer_at xs now wall g s.stations s.sizes x t.max_age_ms) (sym same.same_select_ms)
    ∙ ap (λ x. answer_at xs now wall g s.stations s.sizes s.select_ms x) (sym same.same_max_age_ms)

-- the answer with the settings of a state is that of the state
seen_by_of : (xs : List ℕ) (now : ℕ) (wall : Option ℕ) (s : State) (f : Option ℕ)
    → seen_by f xs now wall (asked_of s.stations s.sizes s.select_ms s.max_age_ms) (glance_of s)
    ≡ (rule_by f xs now wall s, glance_of (by_fault f xs now s).1)
unfolding asked_of
seen_by_of xs now wall s (Some cause) = refl
seen_by_of xs now wall s None = judged_by xs now wall s None

seen_of : (xs : List ℕ) (now : ℕ) (wall : Option ℕ) (s : State)
    → answer_at xs now wall (glance_of s) s.stations s.sizes s.select_ms s.max_age_ms
    ≡ (refusal_of xs now wall s, glance_of (judged xs now wall s).1)
unfolding answer_at
seen_of xs now wall s = seen_by_of xs now wall s (fault s.sizes s.stations s.max_age_ms wall xs)

-- by the settings of another state the same answer comes
another : (xs : List ℕ) (now : ℕ) (wall : Option ℕ) (g : Seen) (t : State) (f : Option ℕ)
    → seen_by f xs now wall t g
    ≡ seen_by f xs now wall (asked_of t.stations t.sizes t.select_ms t.max_age_ms) g
unfolding asked_of
another xs now wall g t (Some cause) = refl
another xs now wall g t None = refl

pub judged_by_another : (xs : List ℕ) (now : ℕ) (wall : Option ℕ) (g : Seen) (t s : State)
    → HasSettings t.stations t.sizes t.select_ms t.max_age_ms s → g ≡ glance_of s
    → seen_by (fault t.sizes t.stations t.max_age_ms wall xs) xs now wall t g
    ≡ (refusal_of xs now wall s, glance_of (judged xs now wall s).1)
unfolding answer_at
judged_by_another xs now wall g t s same is =
    another xs now wall g t (fault t.sizes t.stations t.max_age_ms wall xs)
    ∙ (settings_alike xs now wall g t s same
    ∙ (ap (λ h. answer_at xs now wall h s.stations s.sizes s.select_ms s.max_age_ms) is
    ∙ seen_of xs now wall s))

-- ---- there is a rule exactly if there is an answer

placing : (xs : List ℕ) (c : Command) (now : ℕ) (s : State) (b : Bool) → lacks_place c s ≡ b
    → is_some (place_rule c s) ≡ is_some (placed xs c now s).0
placing xs c now s true e = rw e refl
placing xs c now s false e = rw e refl

admitting : (xs : List ℕ) (c : Command) (now : ℕ) (s : State) (b : Bool) → lacks_selection c now s
    ≡ b
    → is_some (admission_rule c now s) ≡ is_some (admitted xs c now s).0
admitting xs c now s true e = rw e refl
admitting xs c now s false e = rw e (let t : State = if ends_selection c then without_selection c s
    else s in
    placing xs c now t (lacks_place c t) refl)

logged_by : (xs : List ℕ) (now : ℕ) (wall : Option ℕ) (s : State) (f : Option ℕ)
    → is_some (rule_by f xs now wall s) ≡ is_some (by_fault f xs now s).0
logged_by xs now wall s (Some cause) = refl
logged_by xs now wall s None =
    admitting xs (command_at xs) now s (lacks_selection (command_at xs) now s) refl

pub rules_are_answers : (xs : List ℕ) (now : ℕ) (wall : Option ℕ) (s : State)
    → is_some (refusal_of xs now wall s) ≡ is_some (judged xs now wall s).0
rules_are_answers xs now wall s =
    logged_by xs now wall s (fault s.sizes s.stations s.max_age_ms wall xs)
