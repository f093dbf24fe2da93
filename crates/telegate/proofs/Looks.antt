-- What a run that has gone on shows: what was tended, and at which gateway.
use Rattle.std.proofs.Common.{◌≡◌, ◌⊎◌, ◌<◌, ◌≤◌, ◌+◌, ℕ, Option, Some, None, Result, inl, inr}
use Rattle.std.proofs.Common.{refl, sym, subst}
use Rattle.std.proofs.Common.{arith}
use Rattle.std.proofs.lemmas.Bool.{cases_lt}
use Rattle.gateway.specs.Agrees.{Follows, Rests}
use Rattle.gateway.specs.Log.{Log}
use Rattle.gateway.specs.Reports.{Setup}
use Rattle.gateway.specs.Runs.{MoreEvents}
use Rattle.gateway.specs.State.{State}
use Rattle.live.specs.declared.watched.Failure.{Failure}
use Rattle.live.specs.declared.watched.Notice.{Notice}
use Rattle.status.specs.Looking.{looked, turned_after}
use Rattle.status.specs.Looks.{Look}
use Rattle.status.specs.declared.lookout.Lookout.{Lookout}
use Rattle.status.specs.declared.streams.Stream.{Ghosts}
use Rattle.telegate.specs.Turns.{AllLooked, AreShown, HasGoneOn, HasServed, HaveLooked}
use Rattle.telegate.specs.Turns.{RunStanding, TakesEvent, Begun, Turned, shown_to}
use Rattle.telegate.proofs.Turning.{no_events_yet, one_more_event}

-- by so many events, and the gateway still follows the log
gone_on : {P F : Type 0} (log : P → Option Log) (script : P → F)
    (tends : P → State → P → Option Notice → Type 0) (first : RunStanding P) (n : ℕ)
    (last : RunStanding P) → HasGoneOn log script tends first n last
    → MoreEvents n (log first.port) (log last.port)
    × ((p : Setup) → Follows p first.gateway (log first.port) → Rests p (log first.port)
    → Follows p last.gateway (log last.port) × Rests p (log last.port))
gone_on log script tends first _ _ Begun = (no_events_yet (log first.port), λ p f r. (f, r))
gone_on log script tends first _ _ (Turned n before taken after h t l) =
    let b = gone_on log script tends first n before h in (
      subst (MoreEvents (n + 1) (log first.port)) (sym l.quiet)
          (one_more_event n (log first.port) (log before.port) (log taken.port) b.0 t.one),
      λ p f r.
          let was = b.1 p f r in
          let is = t.follows p was.0 was.1 in (
            subst (λ s. Follows p s (log after.port)) (sym l.same)
                (subst (Follows p taken.gateway) (sym l.quiet) is.0),
            subst (Rests p) (sym l.quiet) is.1,
          ),
    )

-- behind the event that came last
looked_last : {P F : Type 0} (log : P → Option Log) (script : P → F)
    (tends : P → State → P → Option Notice → Type 0) (first : RunStanding P) (n : ℕ)
    (before taken after : RunStanding P) → HasGoneOn log script tends first n before
    → TakesEvent log script before taken → HaveLooked log tends taken after
    → AllLooked log tends first (n + 1)
looked_last log script tends first n before taken after h t l =
    let b = gone_on log script tends first n before h in
    record {
      at = taken;
      behind = after;
      looked = l;
      come = one_more_event n (log first.port) (log before.port) (log taken.port) b.0 t.one;
      follows = λ p f r. let was = b.1 p f r in (t.follows p was.0 was.1).0;
    }

looked_behind : {P F : Type 0} (log : P → Option Log) (script : P → F)
    (tends : P → State → P → Option Notice → Type 0) (first : RunStanding P) (n : ℕ)
    (last : RunStanding P) → HasGoneOn log script tends first n last → (k : ℕ) → k < n
    → AllLooked log tends first (k + 1)
looked_behind log script tends first _ _ Begun k less =
    let none : ⊥ = omega (arith, less) in absurd none
looked_behind log script tends first _ _ (Turned n before taken after h t l) k less =
    go (looked_behind log script tends first n before h k) (cases_lt k n)
  where
    go : (k < n → AllLooked log tends first (k + 1)) → (k < n) ⊎ (n ≤ k)
        → AllLooked log tends first (k + 1)
    go earlier (inl below) = earlier below
    go earlier (inr past) =
        let so_many : n ≡ k = omega (arith, past, less) in
        subst (λ m. AllLooked log tends first (m + 1)) so_many
        (looked_last log script tends first n before taken after h t l)

pub looked_behind_each : {P F : Type 0} (log : P → Option Log) (script : P → F)
    (tends : P → State → P → Option Notice → Type 0) (first last : RunStanding P) (n k : ℕ)
    → HasGoneOn log script tends first n last → k < n → AllLooked log tends first (k + 1)
looked_behind_each log script tends first last n k h less =
    looked_behind log script tends first n last h k less

-- visitors for whom there is a listener are shown the run
pub shown_there : {D S : Type 0} {streams : Ghosts S} (l : Look)
    (before after : Option (Lookout D S streams)) (b a : Lookout D S streams)
    → before ≡ Some b → after ≡ Some a → a.turned ≡ turned_after b.turned l.watch.moment
    → a.shown ≡ record (looked b.turned l.gateway l.watch l.notice b.shown) { peer = a.shown.peer }
    → AreShown l (shown_to before) (shown_to after)
shown_there l before after b a was is turned shown =
    subst (λ o. AreShown l (shown_to o) (shown_to after)) (sym was)
    (subst (λ o. AreShown l (shown_to (Some b)) (shown_to o)) (sym is)
    (record { turned = a.turned; shown = a.shown }, refl, turned, shown))

-- and if there is none, there is none afterwards
pub none_shown : {D S : Type 0} {streams : Ghosts S} (l : Look)
    (before after : Option (Lookout D S streams)) → before ≡ None → after ≡ before
    → AreShown l (shown_to before) (shown_to after)
none_shown l before after none same =
    subst (λ o. AreShown l (shown_to before) (shown_to o)) (sym same)
    (subst (λ o. AreShown l (shown_to o) (shown_to o)) (sym none) refl)

-- a first standing under another name
pub served_from : {P F E : Type 0} (log : P → Option Log) (script : P → F)
    (tends : P → State → P → Option Notice → Type 0) (failure : P → Option Failure)
    (first from last : RunStanding P) (ended : Result (Unit {0}) E) → first ≡ from
    → HasServed log script tends failure first last ended
    → HasServed log script tends failure from last ended
served_from log script tends failure first from last ended same served =
    subst (λ stood. HasServed log script tends failure stood last ended) same served
