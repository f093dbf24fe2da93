use Rattle.std.proofs.Common.{◌≡◌, ◌+◌, ℕ, List, sym, subst, arith}
use Rattle.std.proofs.lemmas.List.{take_rest}
use Rattle.traces.specs.Event.{event_in}
use Rattle.traces.specs.FirstLines.{event_behind, first_fields, first_line, later_lines}
use Rattle.traces.proofs.FirstLineLemmas.{moment_here, no_number_here, no_space_here}
use Rattle.traces.proofs.event.moment.Goals as goal
use Rattle.traces.proofs.event.moment.Goals.{else-end-text-via-then-end-text+else-text-end-eq32}
use Rattle.traces.proofs.event.moment.Goals.{else-end-text-via-else-end-text}

pub returns-in_err-now : goal.returns-in_err-now
returns-in_err-now c =
    rw c.from_residual.ensures (no_number_here c.args.text.now c.in_err-now.ensures)

pub returns-then-text-end-eq32 : goal.returns-then-text-end-eq32
returns-then-text-end-eq32 c =
    let text = c.args.text.now in
    let now = c.in_ok-now.now in
    let end = c.in_ok-now.end in
    subst
    (λ (rest : List ℕ). (event_in (first_line text) ≡ event_behind now (first_fields rest))
    × (later_lines text ≡ later_lines rest))
    (sym (take_rest text (end + 1)))
    (moment_here text now end c.in_ok-now.ensures c.if-end-text.true c.if-text-end-eq32.true)

pub returns-else-end-text : goal.returns-else-end-text
returns-else-end-text c =
    elim c.else-end-text.branch [
      | else-end-text-via-then-end-text+else-text-end-eq32 w ↦
          no_space_here c.args.text.now c.in_ok-now.now c.in_ok-now.end c.in_ok-now.ensures
          (λ lt. w.if-text-end-eq32.false)
      | else-end-text-via-else-end-text w ↦
          no_space_here c.args.text.now c.in_ok-now.now c.in_ok-now.end c.in_ok-now.ensures
          (λ lt. absurd (omega (arith, lt, w.if-end-text.false)))
    ]
