-- A life behind others.
use Rattle.std.proofs.Common.{◌≡◌, ◌∙◌, inl, inr, ℕ, Bool, List, [], ◌∷◌, ◌++◌, Option, Some}
use Rattle.std.proofs.Common.{refl, sym, ap, subst}
use Rattle.std.specs.List.{AllByRecursion}
use Rattle.gateway.specs.Agrees.{Follows, Rests}
use Rattle.gateway.specs.Config.{Settings}
use Rattle.gateway.specs.Log.{Log}
use Rattle.gateway.specs.Reports.{Setup}
use Rattle.gateway.specs.Restored.{IsSavable}
use Rattle.gateway.specs.Setups.{setup_of}
use Rattle.gateway.specs.State.{State, IsBetweenSteps}
use Rattle.live.specs.Ends.{Fixture, LiveEnds}
use Rattle.live.specs.declared.watched.Notice.{Notice}
use Rattle.record.specs.Recording.{AreAgreed, Recorded, RecordedFixture, Recording, all_passed}
use Rattle.record.specs.Recording.{behind}
use Rattle.sqlite_disk.specs.declared.Disk.{Ghosts}
use Rattle.state.specs.Both.{Both}
use Rattle.state.specs.Deeds.{Deeds, AreRight, MayBe, Received, Appended, Synced, Begun as BegunLog}
use Rattle.state.specs.Deeds.{GivenUp, PutOut, heads, passed}
use Rattle.state.specs.Keeping.{Keeping, UnlookedFixture}
use Rattle.state.specs.Origins.{IsNew}
use Rattle.state.specs.Returns.{HasReturned}
use Rattle.state.specs.Standings.{Renews}
use Rattle.state.specs.Stores.{head}
use Rattle.state.specs.declared.beginning.Origin.{Origin}
use Rattle.telegate.specs.ManyLives.{ComesBehind, HasKeptOn, IsHeadIn, IsHeadUpTo, IsLastOfLives}
use Rattle.telegate.specs.ManyLives.{IsUpTo, First, Behind, OfTheFirst, OfOneBegun, OfTheNext}
use Rattle.telegate.specs.Served.{log_of_kept, script_of_kept, tends_of_kept}
use Rattle.telegate.specs.Turns.{HasGoneOn, HaveLooked, RunStanding, TakesEvent}
use Rattle.telegate.specs.Turns.{Begun, Turned, log_in_life, script_in_life, tends_in_life}

-- what is recorded is what has passed, so that the log of all lives is known by the port's
passed_all : (before : Log) (pen : Recording) (port known : Log) → AreAgreed pen (Some port)
    → port ≡ known → pen.before ≡ before
    → all_passed pen (Some port) ≡ Some (known ++ before)
passed_all before pen port known agreed same earlier =
    ap (behind pen.before) agreed
    ∙ (ap (λ (log : Log). Some (log ++ pen.before)) same
    ∙ ap (λ (log : Log). Some (known ++ log)) earlier)

-- a log that is begun at a look, or not
renewed : (p : Setup) (before : Log) (old new : Deeds) (state : State)
    → AllByRecursion (IsHeadUpTo p before) (heads old) → IsHeadUpTo p before (state, passed old)
    → Renews old state new → AllByRecursion (IsHeadUpTo p before) (heads new)
renewed p before old new state all now (inl begun) =
    subst (λ (d : Deeds). AllByRecursion (IsHeadUpTo p before) (heads d)) (sym begun) (now, all)
renewed p before old new state all now (inr lost) =
    subst (λ (d : Deeds). AllByRecursion (IsHeadUpTo p before) (heads d)) (sym lost.1) all

module _ (S : Type 0) (p : Setup) (before : Log) where
  abbrev Kept : Type 0
  Kept = RunStanding (Recorded (Keeping (Both LiveEnds S)))

  -- the logs that were begun by then begin with states that are up to what had passed
  abbrev AreUpTo : Kept → Type 0
  AreUpTo s = AllByRecursion (IsHeadUpTo p before) (heads s.port.port.ends.deeds)

  -- the state at a look is up to what has passed at the port, behind the lives before
  up_to : (at after : Kept) → at.port.pen.before ≡ before
      → HaveLooked (log_in_life log_of_kept) (tends_in_life log_of_kept tends_of_kept) at after
      → Follows p at.gateway (log_in_life log_of_kept at.port)
      → Rests p (log_in_life log_of_kept at.port)
      → IsUpTo p (passed at.port.port.ends.deeds ++ before) at.gateway
  up_to at after earlier look follows rests =
      let logged = passed_all before at.port.pen at.port.port.ends.port.log
      (passed at.port.port.ends.deeds) look.tended.2 look.tended.0.passed earlier in (
        subst (Follows p at.gateway) logged follows,
        subst (Rests p) logged rests,
      )

  looked_up_to : (at after : Kept) → at.port.pen.before ≡ before → AreUpTo at
      → HaveLooked (log_in_life log_of_kept) (tends_in_life log_of_kept tends_of_kept) at after
      → Follows p at.gateway (log_in_life log_of_kept at.port)
      → Rests p (log_in_life log_of_kept at.port) → AreUpTo after
  looked_up_to at after earlier all look follows rests =
      let tended = look.tended.0 in
      let now = up_to at after earlier look follows rests in
      let looked : AllByRecursion (IsHeadUpTo p before) (heads tended.looked.ends.deeds) =
      elim tended.looks.looks [
        | inl same ↦ subst (λ (k : Keeping (Both LiveEnds S)).
            AllByRecursion (IsHeadUpTo p before) (heads k.ends.deeds)) (sym same) all
        | inr renews ↦ renewed p before at.port.port.ends.deeds tended.looked.ends.deeds at.gateway
            all now
            renews
      ] in
      subst (λ (k : Keeping (Both LiveEnds S)).
      AllByRecursion (IsHeadUpTo p before) (heads k.ends.deeds)) (sym tended.after) looked

  -- one event later
  taken_up_to : (at taken : Kept)
      → TakesEvent (log_in_life log_of_kept) (script_in_life script_of_kept) at taken
      → at.port.pen.before ≡ before → AreUpTo at
      → Follows p at.gateway (log_in_life log_of_kept at.port)
      → Rests p (log_in_life log_of_kept at.port)
      → (taken.port.pen.before ≡ before) × AreUpTo taken
      × Follows p taken.gateway (log_in_life log_of_kept taken.port)
      × Rests p (log_in_life log_of_kept taken.port)
  taken_up_to at taken t earlier all follows rests =
      let is = t.follows p follows rests in
      let begun : heads taken.port.port.ends.deeds ≡ heads at.port.port.ends.deeds =
      ap (λ (f : RecordedFixture (UnlookedFixture Fixture)). f.port.heads)
      t.fixed in (
        ap (λ (f : RecordedFixture (UnlookedFixture Fixture)). f.before) t.fixed ∙ earlier,
        subst (AllByRecursion (IsHeadUpTo p before)) (sym begun) all,
        is.0,
        is.1,
      )

  -- so it stays as long as the run goes on
  gone_up_to : (first : Kept) (n : ℕ) (last : Kept)
      → HasGoneOn (log_in_life log_of_kept) (script_in_life script_of_kept)
      (tends_in_life log_of_kept tends_of_kept) first n last
      → first.port.pen.before ≡ before → AreUpTo first
      → Follows p first.gateway (log_in_life log_of_kept first.port)
      → Rests p (log_in_life log_of_kept first.port)
      → (last.port.pen.before ≡ before) × AreUpTo last
      × Follows p last.gateway (log_in_life log_of_kept last.port)
      × Rests p (log_in_life log_of_kept last.port)
  gone_up_to first _ _ Begun earlier all follows rests = (earlier, all, follows, rests)
  gone_up_to first _ _ (Turned n at taken after h t l) earlier all follows rests =
      let was = gone_up_to first n at h earlier all follows rests in
      let is = taken_up_to at taken t was.0 was.1 was.2 was.3 in (
        ap (λ (r : Recording). r.before) l.tended.1 ∙ is.0,
        looked_up_to taken after is.0 is.1 l is.2 is.3,
        subst (λ s. Follows p s (log_in_life log_of_kept after.port)) (sym l.same)
            (subst (Follows p taken.gateway) (sym l.quiet) is.2),
        subst (Rests p) (sym l.quiet) is.3,
      )

begun_up_to : (p : Setup) (before : Log) (state gateway : State) (deeds : Deeds)
    → IsUpTo p before gateway
    → state ≡ gateway → Renews [] state deeds
    → AllByRecursion (IsHeadUpTo p before) (heads deeds)
begun_up_to p before state gateway deeds up same renews =
    renewed p before [] deeds state tt (subst (IsUpTo p before) (sym same) up) renews

-- the logs that a run has begun by now, and where the run stands
module _ (S : Type 0) (p : Setup) (origin : Origin) (events : ℕ)
    (now : RunStanding (Recorded (Keeping (Both LiveEnds S)))) where
  gone_all : HasKeptOn origin events now → IsUpTo p origin.before.entries origin.gateway
      → (now.port.pen.before ≡ origin.before.entries) × AreUpTo S p origin.before.entries now
      × Follows p now.gateway (log_in_life log_of_kept now.port)
      × Rests p (log_in_life log_of_kept now.port)
  gone_all gone up =
      let begun : IsUpTo p origin.before.entries gone.first.gateway =
      subst (IsUpTo p origin.before.entries) (sym gone.begun.0) up in
      gone_up_to S p origin.before.entries gone.first events now gone.on gone.behind
      (begun_up_to p origin.before.entries gone.first.gateway origin.gateway
      gone.first.port.port.ends.deeds up gone.begun.0 gone.begun.1)
      (subst (Follows p gone.first.gateway) (sym gone.empty) begun.0)
      (subst (Rests p) (sym gone.empty) begun.1)

  pub heads_up_to : HasKeptOn origin events now → IsUpTo p origin.before.entries origin.gateway
      → (head : State × Log) → IsHeadIn origin now head
      → IsHeadUpTo p origin.before.entries head
  heads_up_to gone up _ OfTheFirst = up
  heads_up_to gone up _ (OfOneBegun head earlier newest) =
      let all = (gone_all gone up).1 in
      (subst (AllByRecursion (IsHeadUpTo p origin.before.entries)) newest all).0
  heads_up_to gone up _ (OfTheNext next) =
      let was = gone_all gone up in
      let is = taken_up_to S p origin.before.entries now next.taken next.takes was.0 was.1 was.2
      was.3 in
      up_to S p origin.before.entries next.taken next.after is.0 next.looks is.2 is.3

-- The newest log

newest_head : (deeds : Deeds) (newest : State × Log) (earlier : List (State × Log))
    → heads deeds ≡ newest ∷ earlier → head deeds ≡ Some newest.0
newest_head [] newest earlier is = absurd (cc)
newest_head (Received event ∷ deeds) newest earlier is = newest_head deeds newest earlier is
newest_head (Appended event ∷ deeds) newest earlier is = newest_head deeds newest earlier is
newest_head (Synced ∷ deeds) newest earlier is = newest_head deeds newest earlier is
newest_head (BegunLog state ∷ deeds) newest earlier is =
    let both : (state, passed deeds) ≡ newest = cc in
    ap (λ (h : State × Log). Some h.0) both
newest_head (GivenUp fault loss ∷ deeds) newest earlier is = newest_head deeds newest earlier is
newest_head (PutOut action ∷ deeds) newest earlier is = newest_head deeds newest earlier is

-- a log that was begun, and that each deed might be done
pub readable : (bears : Bool) (deeds : Deeds) (newest : State × Log) (earlier : List (State × Log))
    → AreRight bears deeds → heads deeds ≡ newest ∷ earlier → IsBetweenSteps newest.0
    → IsSavable newest.0
readable bears [] newest earlier right is = absurd (cc)
readable bears (Received event ∷ deeds) newest earlier right is =
    readable bears deeds newest earlier right.1 is
readable bears (Appended event ∷ deeds) newest earlier right is =
    readable bears deeds newest earlier right.1 is
readable bears (Synced ∷ deeds) newest earlier right is =
    readable bears deeds newest earlier right.1 is
readable bears (BegunLog state ∷ deeds) newest earlier right is =
    let both : (state, passed deeds) ≡ newest = cc in
    subst (λ (h : State × Log). IsBetweenSteps h.0 → IsSavable h.0) both right.0
readable bears (GivenUp fault loss ∷ deeds) newest earlier right is =
    readable bears deeds newest earlier right.1 is
readable bears (PutOut action ∷ deeds) newest earlier right is =
    readable bears deeds newest earlier right.1 is

-- The next life

module _ (S : Type 0) {D : Type 0} (g : Ghosts D) (c : Settings)
    (between : (s : State) (log : Log) → Follows (setup_of c) s (Some log) → IsBetweenSteps s) where
  pub returns : (this next : Origin) (b : ComesBehind S g c this next)
      → IsUpTo (setup_of c) this.before.entries this.gateway
      → HasReturned c (b.head.1 ++ this.before.entries) b.deeds next
  returns this next b up =
      let log = b.head.1 ++ this.before.entries in
      let at = heads_up_to S (setup_of c) this b.events b.now b.gone up b.head b.in_run in
      (b.left c log next b.begun).1 b.says b.head.0
      (newest_head b.deeds b.head b.earlier b.newest) (b.readable (between b.head.0 log at.0)) at.0
      at.1

  pub last_up_to : (o : Origin) → IsLastOfLives S g c o
      → IsUpTo (setup_of c) o.before.entries o.gateway
  last_up_to _ (First origin new) = (
    subst (λ (log : Log). Follows (setup_of c) origin.gateway (Some log)) (sym new.before)
        new.follows,
    subst (λ (log : Log). Rests (setup_of c) (Some log)) (sym new.before) tt,
  )
  last_up_to _ (Behind this next earlier b) =
      let returned = returns this next b (last_up_to this earlier) in
      (returned.follows, returned.rests)
