-- Runs over a simulated line: what their ends say.
use Rattle.std.proofs.Common.{◌≡◌, ℕ, ◌+◌, ◌≤◌, List, [], ◌∷◌, length, nat_le, true, Option, Some}
use Rattle.std.proofs.Common.{inr, refl, subst, sym, ◌∙◌, arith}
use Rattle.std.proofs.lemmas.List.{length-append}
use Rattle.std.specs.Io.KnownBytes.{Appends}
use Rattle.std.specs.Prelude.{Result, Ok, Err, IfOk}
use Rattle.gateway.specs.Agrees.{Follows, Rests}
use Rattle.gateway.specs.Config.{Settings}
use Rattle.gateway.specs.Log.{Log, Came, Went, events_of}
use Rattle.gateway.specs.Runs.{MoreEvents, UnlessDevice}
use Rattle.gateway.specs.declared.runs.End.{End}
use Rattle.gateway.specs.declared.runs.End.TheVariants.{Turns, Finished}
use Rattle.gateway.specs.Reports.{Setup}
use Rattle.gateway.specs.Setups.{setup_of}
use Rattle.gateway.specs.State.{State}
use Rattle.gateway.specs.Traffic.{IsFaithful}
use Rattle.traces.specs.Pouring.{IsBegun}
use Rattle.traces.proofs.Poured.{appends_none}
use Rattle.traces.specs.Actions.{lines_of_actions}
use Rattle.sim.specs.declared.directive.Directive.{Directive}
use Rattle.sim.specs.declared.fault.SimFault.{SimFault}
use Rattle.sim.specs.declared.fault.SimFault.TheVariants.{NoMemory, Write}
use Rattle.sim.specs.Calls.{calls_in}
use Rattle.sim.specs.Lives.{Plan, plan_of}
use Rattle.sim.specs.Losses.{turns_of}
use Rattle.sim.specs.Played.{IsPlayed, Stands, Simulated, fresh_run, has_ended}
use Rattle.sim.specs.Runs.{IsRun, IsStopped}
use Rattle.sim.specs.Simulations.{IsClosedBy, IsSimulation}

-- what is promised of each end but that of a device
pub at_turns : (end : End) (P : Type 0) → end ≡ Turns → UnlessDevice end P → P
at_turns end P is promised = subst (λ (e : End). UnlessDevice e P) is promised

pub at_finish : (end : End) (P : Type 0) → end ≡ Finished → UnlessDevice end P → P
at_finish end P is promised = subst (λ (e : End). UnlessDevice e P) is promised

length-events : (log : Log) → length (events_of log) ≡ calls_in log
length-events [] = refl
length-events (Came now event ∷ log) = let so_far : length (events_of log) ≡ calls_in log =
    length-events log in
    omega (arith, length-append (events_of log) (Came now event ∷ []))
length-events (Went now action ∷ log) = length-events log

-- after so many more events than none there were so many calls
turns_calls : (n : ℕ) (log : Log) → MoreEvents n (Some []) (Some log) → calls_in log ≡ n
turns_calls n log more =
    let logged : Some (length (events_of log)) ≡ Some (0 + n) = more in
    let same : length (events_of log) ≡ 0 + n = cc in
    omega (arith, length-events log)

pub run_turns : (n m : ℕ) (old log : Log) → n ≡ m → old ≡ [] → MoreEvents n (Some old) (Some log)
    → calls_in log ≡ m
run_turns n m old log e none more =
    turns_calls n log (subst (λ (l : Log). MoreEvents n (Some l) (Some log)) none more)
    ∙ e

le_of : (a b : ℕ) → nat_le a b ≡ true → a ≤ b
le_of a b e = grind arith

-- a run that has ended has had all its calls
pub ended_calls : (s : Simulated) → has_ended s ≡ true → Stands s.plan s.log s.stations s.standing
    → calls_in s.log ≡ turns_of s.plan.directives
ended_calls s over k =
    let most : s.standing.call ≤ turns_of s.plan.directives = k.in_turns in
    let least : turns_of s.plan.directives ≤ s.standing.call =
    le_of (turns_of s.plan.directives) s.standing.call over in
    let calls : s.standing.call ≡ calls_in s.log = k.call in
    omega arith

-- a gateway that may begin with an empty log may begin with this port
pub at_first_call : (p : Setup) (s : State) (plan : Plan) (sim : Simulated) → sim ≡ fresh_run plan
    → Follows p s (Some []) → Follows p s (Some sim.log) × Rests p (Some sim.log)
at_first_call p s plan sim is begins = (
  subst (λ (x : Simulated). Follows p s (Some x.log)) (sym is) begins,
  subst (λ (x : Simulated). Rests p (Some x.log)) (sym is) tt,
)

-- at first nothing was printed
pub begun_blank : (known : Option (List ℕ)) (sim : Simulated) (plan : Plan) → sim ≡ fresh_run plan
    → Appends known known (lines_of_actions sim.poured)
begun_blank known sim plan is =
    subst (λ (s : Simulated). Appends known known (lines_of_actions s.poured)) (sym is)
    (appends_none known)

-- what is promised if there is no error
pub at_ok : {T E : Type 0} (r : Result T E) (x : T) (P : T → Type 0) → r ≡ Ok x → IfOk r P → P x
at_ok (Ok y) x P is h = let same : y ≡ x = cc in subst P same h
at_ok (Err e) x P is h = cc

-- a run that stopped before its end
pub stopped : (c : Settings) (ds : List Directive) (s : Simulated) (old new : Option (List ℕ))
    → s.plan ≡ plan_of c ds
    → Stands s.plan s.log s.stations s.standing → IsFaithful (setup_of c) s.log
    → IsBegun old new (lines_of_actions s.log) → IsStopped c ds old new
stopped c ds s old new plan k faithful begun =
    let most : s.standing.call ≤ turns_of s.plan.directives = k.in_turns in
    record {
      log = s.log;
      stations = s.stations;
      answers = k.answers;
      played = subst (λ (q : Plan). IsPlayed q s.log k.answers s.stations) plan k.played;
      calls = subst (λ (n : ℕ). n ≤ turns_of ds) k.call
          (subst (λ (q : Plan). s.standing.call ≤ turns_of q.directives) plan most);
      faithful = faithful;
      text = begun;
    }

-- one that came to its end
pub ended : (c : Settings) (ds : List Directive) (log : Log) (closing : List ℕ)
    (old new : Option (List ℕ))
    (r : Result (Unit {0}) SimFault) → IsRun c ds log closing
    → IsClosedBy old new (lines_of_actions log) closing r
    → IsSimulation c ds old new r
ended c ds log closing old new (Ok done) run h =
    record { log = log; closing = closing; run = run; text = h }
ended c ds log closing old new (Err Write) run h = record {
  log = log;
  closing = closing;
  run =
      run;
  text = h;
}
ended c ds log closing old new (Err NoMemory) run h = inr (record {
  log = log;
  stations = run.stations;
  answers = run.answers;
  played = run.played;
  calls = let same : calls_in log ≡ turns_of ds = run.calls in omega arith;
  faithful = run.faithful;
  text = h;
})
