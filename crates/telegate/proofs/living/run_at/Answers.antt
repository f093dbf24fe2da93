use Rattle.std.proofs.Common.{None, Some, ap, is_some}
use Rattle.telegate.proofs.RanLemmas.{lived_anew, lived_kept}
use Rattle.telegate.proofs.living.run_at.Goals as goal

pub returns-in_ok-run_anew-in-None-clause-lived : goal.returns-in_ok-run_anew-in-None-clause-lived
returns-in_ok-run_anew-in-None-clause-lived g c =
    let run = c.in_ok-run_anew-in-None.field-0 in
    lived_anew _ c.args.config.now c.args.wishes _ _ (record {
      port = run.run_log.port.port;
      pen = run.run_log.port.pen;
      book = run.run_log.logger;
      is_shown = is_some run.lookout;
      bears_loss = None;
      stops = 0;
    }) run.ended c.in-None.is c.in_ok-run_anew-in-None.ensures.asked
    c.in_ok-run_anew-in-None.ensures.before
    c.in_ok-run_anew-in-None.ensures.lived c.in_ok-run_anew-in-None.ensures.device
    c.in_ok-run_anew-in-None.ensures.wished

pub returns-in_ok-run_kept-in-Some-clause-lived : goal.returns-in_ok-run_kept-in-Some-clause-lived
returns-in_ok-run_kept-in-Some-clause-lived g c =
    let run = c.in_ok-run_kept-in-Some.field-0 in
    lived_kept _ c.args.config.now c.args.wishes _ _ c.in-Some.directory (record {
      port = run.run_log.port.port.ends.port;
      pen = run.run_log.port.pen;
      book = run.run_log.logger;
      is_shown = is_some run.lookout;
      bears_loss = Some run.run_log.port.port.bears_loss;
      stops = run.run_log.port.port.stops;
    }) run.ended c.in-Some.is c.in_ok-run_kept-in-Some.ensures.lived
    c.in_ok-run_kept-in-Some.ensures.device c.in_ok-run_kept-in-Some.ensures.wished
    (ap Some c.in_ok-run_kept-in-Some.ensures.bears)
