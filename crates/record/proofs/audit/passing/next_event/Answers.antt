use Rattle.std.proofs.Common.{◌≡◌, ◌+◌, ℕ, [], ◌∷◌, ap, sym, ◌∙◌, refl, subst, arith}
use Rattle.std.specs.Option.{option_copied}
use Rattle.traces.specs.Fields.{parts_after}
use Rattle.record.specs.Passing.{IsKind, Passes}
use Rattle.record.proofs.LineLemmas.{one_line}
use Rattle.record.proofs.PassingLemmas.{event_next, passes_action, passes_neither}
use Rattle.record.proofs.audit.passing.next_event.Goals as goal
use Rattle.record.proofs.audit.passing.next_event.Goals.{in-Action, in-Neither}

pub kind_of-requires : goal.kind_of-requires
kind_of-requires c = one_line c.in-Some.text.now c.cut.result.0.now _ c.cut.ensures

pub returns-in-Event : goal.returns-in-Event
returns-in-Event c =
    let left = parts_after 10 (option_copied c.passing.left) in
    let rest = parts_after 10 (option_copied c.cut.result.1) in
    let is : left ≡ c.cut.result.0.now ∷ rest =
    ap (λ l. parts_after 10 (option_copied l)) c.in-Some.is ∙ c.cut.ensures in
    event_next (parts_after 10 (option_copied c.args.lines)) left rest c.cut.result.0.now
    c.args.before c.passing.number
    c.args.before.events c.passing.actions c.passing.invariant.passes is c.in-Event.next
    c.kind_of.new.buf
    (option_copied c.cut.result.1) refl c.in-Event.ensures c.passing.invariant.few

pub passing-preserved : goal.passing-preserved
passing-preserved c =
    let lines = parts_after 10 (option_copied c.args.lines) in
    let left = parts_after 10 (option_copied c.passing.left) in
    let rest = parts_after 10 (option_copied c.cut.result.1) in
    let line = c.cut.result.0.now in
    let buf = c.kind_of.new.buf in
    let is : left ≡ line ∷ rest = ap (λ l. parts_after 10 (option_copied l)) c.in-Some.is
    ∙ c.cut.ensures in
    elim c.match-kind_of.branch [
      | in-Action w ↦ record {
        passes = subst (λ (a : ℕ). Passes [] lines c.args.before rest
            (record { lines = c.passing.number + 1; events = c.args.before.events; actions = a }))
            (sym w.actions-is)
            (passes_action lines left rest line c.args.before c.passing.number c.args.before.events
            c.passing.actions
            c.passing.invariant.passes is (subst (IsKind line buf) w.in-Action.is
            c.kind_of.ensures));
        few = omega (arith, w.actions-is, c.passing.invariant.few);
      }
      | in-Neither w ↦ record {
        passes = subst (λ (a : ℕ). Passes [] lines c.args.before rest
            (record { lines = c.passing.number + 1; events = c.args.before.events; actions = a }))
            (sym w.actions-is)
            (passes_neither lines left rest line c.args.before c.passing.number c.args.before.events
            c.passing.actions
            c.passing.invariant.passes is buf (subst (IsKind line buf) w.in-Neither.is
            c.kind_of.ensures));
        few = omega (arith, w.actions-is, c.passing.invariant.few);
      }
    ]
