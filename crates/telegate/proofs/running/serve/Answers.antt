use Rattle.std.proofs.Common.{◌≡◌, rules, refl, ◌∙◌, ap, subst, sym, arith}
use Rattle.gateway.specs.Runs.{AtMostEvents}
use Rattle.runlog.specs.Logging.{Book, Closes, LoggedFixture}
use Rattle.runlog.specs.Watching.{Watching}
use Rattle.telegate.specs.Turns.{HasGoneOn, Begun, Turned, InATurn, WithoutEnd}
use Rattle.telegate.specs.Turns.{shown_to, stands}
use Rattle.status.specs.Looking.{looked, turned_after}
use Rattle.status.specs.Looks.{Look}
use Rattle.telegate.proofs.Looks.{none_shown, shown_there}
use Rattle.telegate.proofs.Turning.{lasting_logged, no_events_yet, one_more_event}
use Rattle.telegate.proofs.running.serve.Goals as goal
use Rattle.telegate.proofs.running.serve.Goals.{in-Some, in_default}

pub turning-init : goal.turning-init
turning-init g c = record {
  healthy = refl;
  fixed = refl;
  looked = refl;
  more = no_events_yet _;
  faithful = λ p follows rests. (follows, rests);
  shown = λ p follows rests some. let none : ⊥ = omega (arith, some) in absurd none;
  on = Begun;
}

pub turning-preserved : goal.turning-preserved
turning-preserved g c =
    let logs = c.look-notice.ensures.log in
    let ran = c.in-Turns.ensures in
    let look : Look = record {
      gateway = c.drive_on.new.gateway;
      watch = c.look-notice.new.self.logger.watching;
      notice = c.look-notice.result;
    } in
    record {
      healthy =
          search (rules, c.look-notice.ensures.failed, ran.device, c.turning.invariant.healthy);
      more =
          rw logs (one_more_event c.turning.counter _ _ _ c.turning.invariant.more
          (ran.turns refl));
      fixed =
          c.look-notice.ensures.lasting
          ∙ (lasting_logged g.P.Port.script g.P.Watched.lasting g.met.P.Watched.lasts _ _
          c.drive_on.new.port.logger c.turning.run_log.logger ran.script
          ∙ c.turning.invariant.fixed);
      faithful = λ p begins rests. let h = c.turning.invariant.faithful p begins rests in
          rw logs (ran.kept p h.0 h.1, ran.rests p h.0 h.1);
      looked = search (rules, c.turning.invariant.looked);
      shown = λ p begins rests some. let h = c.turning.invariant.faithful p begins rests in
          rw logs (ran.faithful p h.0 h.1);
      on = Turned c.turning.counter _ _ _ c.turning.invariant.on (record {
        one = ran.turns refl;
        fixed = ap (λ (f : LoggedFixture _). f.port) ran.script;
        follows = λ p follows rests. (ran.kept p follows rests, ran.rests p follows rests);
        shown = refl;
      }) (record {
        notice = c.look-notice.result;
        same = refl;
        quiet = logs;
        tended = c.look-notice.ensures.tends;
        logged = c.look-notice.ensures.logs;
        shown = elim c.match-lookout.branch [
          | in-Some w ↦
              let watch = w.watch.ensures ∙ ap (λ (b : Book). b.watching) w.logger.ensures in
              let shown = w.in-Some.lookout in
              shown_there look _ _ shown w.look.new.self w.in-Some.is w.lookout-is
              (w.look.ensures.turned
              ∙ ap (λ (v : Watching). turned_after shown.turned v.moment) watch)
              (subst (λ (v : Watching). w.look.new.self.shown
              ≡ record (looked shown.turned c.drive_on.new.gateway v c.look-notice.result
              shown.shown) { peer = w.look.new.self.shown.peer }) watch w.look.ensures.shown)
          | in_default w ↦ none_shown look _ _ w.in_default.is w.lookout-is
        ];
      });
    }

pub returns-in-Finished-clause-served : goal.returns-in-Finished-clause-served
returns-in-Finished-clause-served g c = (
  c.drive_on.new.gateway,
  InATurn c.turning.counter _ _ c.turning.invariant.on (record {
    few = subst (AtMostEvents 1 (g.P.Port.log c.turning.run_log.port))
        (ap g.P.Port.log (sym c.close.ensures.passes)) c.drive_on.ensures.most;
    fixed = ap g.P.Port.script c.close.ensures.passes
        ∙ ap (λ (f : LoggedFixture _). f.port) c.drive_on.ensures.script;
    between = c.drive_on.new.port.logger;
    closes = subst (λ q. Closes c.drive_on.new.port.logger (g.P.Watched.failure q)
        c.drive_on.new.gateway c.close.new.self.logger) (sym c.close.ensures.passes)
        c.close.ensures.closes;
    shown = refl;
  }),
)

pub returns-in-Device-clause-served : goal.returns-in-Device-clause-served
returns-in-Device-clause-served g c = (
  c.drive_on.new.gateway,
  InATurn c.turning.counter _ _ c.turning.invariant.on (record {
    few = subst (AtMostEvents 1 (g.P.Port.log c.turning.run_log.port))
        (ap g.P.Port.log (sym c.close-in-Device.ensures.passes)) c.drive_on.ensures.most;
    fixed = ap g.P.Port.script c.close-in-Device.ensures.passes
        ∙ ap (λ (f : LoggedFixture _). f.port) c.drive_on.ensures.script;
    between = c.drive_on.new.port.logger;
    closes = subst (λ q. Closes c.drive_on.new.port.logger (g.P.Watched.failure q)
        c.drive_on.new.gateway c.close-in-Device.new.self.logger)
        (sym c.close-in-Device.ensures.passes) c.close-in-Device.ensures.closes;
    shown = refl;
  }),
)

pub returns-clause-served : goal.returns-clause-served
returns-clause-served g c =
    let all_used : c.turning.counter ≡ 18446744073709551615 =
    omega (arith, c.turning-test.false, c.turning.auto.counter-end) in
    let first = stands c.args.gateway c.args.run_log.now.port c.args.run_log.now.logger
    (shown_to c.args.lookout.now) in
    let last = stands c.turning.gateway c.turning.run_log.port c.turning.run_log.logger
    (shown_to c.turning.lookout) in (
      c.turning.gateway,
      WithoutEnd (subst (λ n. HasGoneOn g.P.Port.log g.P.Port.script g.P.Watched.tends first n
          last) all_used c.turning.invariant.on),
    )

pub returns-in-Finished-clause-lasting : goal.returns-in-Finished-clause-lasting
returns-in-Finished-clause-lasting g c =
    lasting_logged g.P.Port.script g.P.Watched.lasting g.met.P.Watched.lasts _ _
    c.close.new.self.logger c.turning.run_log.logger
    (c.close.ensures.script ∙ c.drive_on.ensures.script) ∙ c.turning.invariant.fixed

pub returns-in-Device-clause-lasting : goal.returns-in-Device-clause-lasting
returns-in-Device-clause-lasting g c =
    lasting_logged g.P.Port.script g.P.Watched.lasting g.met.P.Watched.lasts _ _
    c.close-in-Device.new.self.logger c.turning.run_log.logger
    (c.close-in-Device.ensures.script ∙ c.drive_on.ensures.script) ∙ c.turning.invariant.fixed
