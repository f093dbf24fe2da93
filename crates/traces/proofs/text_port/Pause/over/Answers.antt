use Rattle.traces.proofs.ProgressLemmas.{begun}
use Rattle.traces.proofs.text_port.Pause.over.Goals as goal

pub invariant_of-result : goal.invariant_of-result
invariant_of-result c = begun c.args.text.now (record {
  started = c.self.inside.is_started;
  log = c.self.inside.page.log;
  poured = c.self.inside.page.poured;
  page = c.self.inside.page.lines;
  failed = c.self.inside.failures;
}) c.log.result.entries c.log.ensures
