use Rattle.std.proofs.Common.{None, Some, ap, inl, inr, is_some, ◌∙◌}
use Rattle.telegate.specs.Ran.{answer_to}
use Rattle.telegate.proofs.RanLemmas.{begins_weaker, by_over}
use Rattle.telegate.proofs.living.run_out.Goals as goal

pub returns-in-Ok : goal.returns-in-Ok
returns-in-Ok g c =
    inr (by_over c.in-Ok.over _ _ _ _ c.in-Ok.ensures.lived c.ended_of.ensures
    (λ run lived ends. record {
      left = record {
        port = run.run_log.port.port;
        pen = run.run_log.port.pen;
        book = run.run_log.logger;
        is_shown = is_some run.lookout;
        bears_loss = None;
        stops = 0;
      };
      ended = run.ended;
      lived = lived;
      answered = c.answer_to.ensures ∙ ap answer_to ends;
    })
    (λ run lived ends. record {
      left = record {
        port = run.run_log.port.port.ends.port;
        pen = run.run_log.port.pen;
        book = run.run_log.logger;
        is_shown = is_some run.lookout;
        bears_loss = Some run.run_log.port.port.bears_loss;
        stops = run.run_log.port.port.stops;
      };
      ended = run.ended;
      lived = begins_weaker _ _ _ _ _ _ _ _ lived (λ o begun. begun.0);
      answered = c.answer_to.ensures ∙ ap answer_to ends;
    }))

pub returns-in-Err : goal.returns-in-Err
returns-in-Err g c = inl (c.in-Err.ensures.fault, c.in-Err.ensures.none)
