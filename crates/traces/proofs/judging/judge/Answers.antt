use Rattle.std.proofs.Common.{rules, ◌+◌, length, subst, ap, sym, ◌∙◌}
use Rattle.std.specs.Option.{option_copied}
use Rattle.traces.specs.Fields.{parts_after}
use Rattle.traces.specs.FirstLines.{IsFirstLine}
use Rattle.traces.specs.Trace.{lines_of}
use Rattle.traces.proofs.ProgressLemmas.{judged_next}
use Rattle.traces.proofs.judging.judge.Goals as goal
use Rattle.traces.proofs.judging.judge.Goals.{in-Skipped, in-Event+in-Some-judged}

pub loop-number-preserved : goal.loop-number-preserved
loop-number-preserved c =
    let text = c.in-Some.text.now in
    let left = option_copied c.loop-number.left in
    let m = c.args.first + length (lines_of c.args.text.now) in
    elim c.match-first_line.branch [
      | in-Skipped w ↦
          let found = subst (IsFirstLine text) w.in-Skipped.is c.first_line.ensures in
          record {
            counted =
                judged_next c.loop-number.number m left (option_copied c.match-first_line.left) text
                (ap option_copied c.in-Some.is) (found.1
                ∙ ap (λ rest. parts_after 10 (option_copied rest)) (sym w.left-is))
                c.loop-number.invariant.counted;
            wrong = search rules;
          }
      | in-Event+in-Some-judged w ↦
          let found = subst (IsFirstLine text) w.in-Event.is c.first_line.ensures in
          record {
            counted =
                judged_next c.loop-number.number m left (option_copied c.match-first_line.left) text
                (ap option_copied c.in-Some.is) (found.2 ∙ w.in-Some-judged.ensures.rest
                ∙ ap (λ rest. parts_after 10 (option_copied rest)) (sym w.left-is))
                c.loop-number.invariant.counted;
            wrong = search rules;
          }
    ]
