use Rattle.std.proofs.Common.{rules, ◌+◌, Option, IfSome, refl, sym, subst, ◌∙◌}
use Rattle.gateway.specs.Accounts.{IsAccounted}
use Rattle.gateway.specs.Agrees.{Follows}
use Rattle.gateway.specs.Log.{Log}
use Rattle.gateway.specs.Runs.{UnlessDevice, MoreEvents}
use Rattle.gateway.specs.Traffic.{IsFaithful, HasRested}
use Rattle.traces.specs.Actions.{lines_of_actions}
use Rattle.traces.specs.Pouring.{IsPoured}
use Rattle.traces.proofs.Ends.{at_turns, turns_joined}
use Rattle.traces.proofs.driving.drive_printed.Goals as goal

pub returns-in_default-clause-faithful : goal.returns-in_default-clause-faithful
returns-in_default-clause-faithful g c = λ p begins rested.
    subst (λ (logged : Option Log). IfSome logged (IsFaithful p)) (sym c.pour-is_whole.ensures.log)
    (c.drive_on-end.ensures.faithful p (c.parts.invariant.kept p begins rested)
    (c.parts.invariant.rests p begins rested))

pub returns-in_default-clause-rests : goal.returns-in_default-clause-rests
returns-in_default-clause-rests g c = λ p begins rested.
    subst (λ (logged : Option Log). UnlessDevice c.drive_on-end.result
    (IfSome logged (HasRested p)))
    (sym c.pour-is_whole.ensures.log)
    (c.drive_on-end.ensures.rests p (c.parts.invariant.kept p begins rested)
    (c.parts.invariant.rests p begins rested))

pub returns-in_default-clause-kept : goal.returns-in_default-clause-kept
returns-in_default-clause-kept g c = λ p begins rested.
    subst (λ (logged : Option Log). UnlessDevice c.drive_on-end.result
    (Follows p c.drive_on-end.new.gateway logged))
    (sym c.pour-is_whole.ensures.log)
    (c.drive_on-end.ensures.kept p (c.parts.invariant.kept p begins rested)
    (c.parts.invariant.rests p begins rested))

pub returns-in_default-clause-accounts : goal.returns-in_default-clause-accounts
returns-in_default-clause-accounts g c = λ p begins rested.
    subst (λ (logged : Option Log). UnlessDevice c.drive_on-end.result (IfSome logged
    (IsAccounted p c.drive_on-end.new.gateway)))
    (sym c.pour-is_whole.ensures.log)
    (c.drive_on-end.ensures.accounts p (c.parts.invariant.kept p begins rested)
    (c.parts.invariant.rests p begins rested))

pub returns-in_default-clause-course : goal.returns-in_default-clause-course
returns-in_default-clause-course g c = c.pour-is_whole.ensures.course
    ∙ g.met.P.Paged.course_stays c.drive_on-end.new.port c.parts.port c.drive_on-end.ensures.script
    ∙ c.parts.invariant.course

pub returns-in_default-clause-all : goal.returns-in_default-clause-all
returns-in_default-clause-all g c = c.pour-is_whole.ensures.log ∙ c.pour-is_whole.ensures.all

pub returns-in_default-clause-poured : goal.returns-in_default-clause-poured
returns-in_default-clause-poured g c = λ before poured.
    c.pour-is_whole.ensures.poured before
    (subst (λ (log : Log). IsPoured c.parts.is_whole before (g.W.Write.contents c.parts.out)
    (lines_of_actions log))
    (sym (g.met.P.Paged.poured_stays c.drive_on-end.new.port c.parts.port
    c.drive_on-end.ensures.script))
    (c.parts.invariant.poured before poured))

pub parts-preserved : goal.parts-preserved
parts-preserved g c =
    let end = c.drive_on-end.result in
    let port = c.drive_on-end.new.port in
    let old = g.P.Port.log c.args.port.now in
    record {
      within = search rules;
      more = subst (λ (logged : Option Log). MoreEvents (c.parts.done + 256) old logged)
          (sym c.pour-is_whole.ensures.log)
          (turns_joined c.parts.done 256 (c.parts.done + 256) old (g.P.Port.log c.parts.port)
          (g.P.Port.log port) refl
          c.parts.invariant.more (c.drive_on-end.ensures.turns c.in-Turns.is));
      kept = λ p begins rested. subst (λ (logged : Option Log). Follows p c.drive_on-end.new.gateway
          logged)
          (sym c.pour-is_whole.ensures.log)
          (at_turns end (Follows p c.drive_on-end.new.gateway (g.P.Port.log port)) c.in-Turns.is
          (c.drive_on-end.ensures.kept p (c.parts.invariant.kept p begins rested)
          (c.parts.invariant.rests p begins rested)));
      rests = λ p begins rested. subst (λ (logged : Option Log). IfSome logged (HasRested p))
          (sym c.pour-is_whole.ensures.log)
          (at_turns end (IfSome (g.P.Port.log port) (HasRested p)) c.in-Turns.is
          (c.drive_on-end.ensures.rests p (c.parts.invariant.kept p begins rested)
          (c.parts.invariant.rests p begins rested)));
      course = c.pour-is_whole.ensures.course
          ∙ g.met.P.Paged.course_stays port c.parts.port c.drive_on-end.ensures.script
          ∙ c.parts.invariant.course;
      healthy = search rules;
      poured = λ before poured. c.pour-is_whole.ensures.poured before
          (subst (λ (log : Log). IsPoured c.parts.is_whole before (g.W.Write.contents c.parts.out)
          (lines_of_actions log))
          (sym (g.met.P.Paged.poured_stays port c.parts.port c.drive_on-end.ensures.script))
          (c.parts.invariant.poured before poured));
      unwatched = search rules;
    }

pub returns-clause-faithful : goal.returns-clause-faithful
returns-clause-faithful g c = λ p begins rested.
    subst (λ (logged : Option Log). IfSome logged (IsFaithful p))
    (sym c.pour-is_whole-2.ensures.log)
    (c.drive_on-end-2.ensures.faithful p (c.parts.invariant.kept p begins rested)
    (c.parts.invariant.rests p begins rested))

pub returns-clause-rests : goal.returns-clause-rests
returns-clause-rests g c = λ p begins rested.
    subst (λ (logged : Option Log). UnlessDevice c.drive_on-end-2.result
    (IfSome logged (HasRested p)))
    (sym c.pour-is_whole-2.ensures.log)
    (c.drive_on-end-2.ensures.rests p (c.parts.invariant.kept p begins rested)
    (c.parts.invariant.rests p begins rested))

pub returns-clause-kept : goal.returns-clause-kept
returns-clause-kept g c = λ p begins rested.
    subst (λ (logged : Option Log). UnlessDevice c.drive_on-end-2.result
    (Follows p c.drive_on-end-2.new.gateway logged))
    (sym c.pour-is_whole-2.ensures.log)
    (c.drive_on-end-2.ensures.kept p (c.parts.invariant.kept p begins rested)
    (c.parts.invariant.rests p begins rested))

pub returns-clause-accounts : goal.returns-clause-accounts
returns-clause-accounts g c = λ p begins rested.
    subst (λ (logged : Option Log). UnlessDevice c.drive_on-end-2.result (IfSome logged
    (IsAccounted p c.drive_on-end-2.new.gateway)))
    (sym c.pour-is_whole-2.ensures.log)
    (c.drive_on-end-2.ensures.accounts p (c.parts.invariant.kept p begins rested)
    (c.parts.invariant.rests p begins rested))

pub returns-clause-course : goal.returns-clause-course
returns-clause-course g c = c.pour-is_whole-2.ensures.course
    ∙ g.met.P.Paged.course_stays c.drive_on-end-2.new.port c.parts.port
    c.drive_on-end-2.ensures.script
    ∙ c.parts.invariant.course

pub returns-clause-all : goal.returns-clause-all
returns-clause-all g c = c.pour-is_whole-2.ensures.log ∙ c.pour-is_whole-2.ensures.all

pub returns-clause-poured : goal.returns-clause-poured
returns-clause-poured g c = λ before poured.
    c.pour-is_whole-2.ensures.poured before
    (subst (λ (log : Log). IsPoured c.parts.is_whole before (g.W.Write.contents c.parts.out)
    (lines_of_actions log))
    (sym (g.met.P.Paged.poured_stays c.drive_on-end-2.new.port c.parts.port
    c.drive_on-end-2.ensures.script))
    (c.parts.invariant.poured before poured))
