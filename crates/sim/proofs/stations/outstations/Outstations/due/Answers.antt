use Rattle.std.proofs.Common.{ap, sym, ◌∙◌, arith}
use Rattle.sim.specs.Exchanges.{OutstationsState}
use Rattle.sim.specs.Reporting.{due_in}
use Rattle.sim.proofs.Reporting.{due_here, due_past}
use Rattle.sim.proofs.stations.outstations.Outstations.due.Goals as goal

pub returns-then-line-len-clause-value : goal.returns-then-line-len-clause-value
returns-then-line-len-clause-value c =
    sym (due_past c.args.passed c.args.line c.self.inside.cues.items
    (omega (arith, c.if-line-len.true, c.len.ensures, c.self.inside.cues.ok.0)))
    ∙ ap (λ (s : OutstationsState). due_in c.args.passed c.args.line s.cues) c.self.view_is

pub returns-clause-value : goal.returns-clause-value
returns-clause-value c =
    c.due.ensures
    ∙ (sym (due_here c.args.passed c.args.line c.self.inside.cues.items c.index.result.now
    (omega (arith, c.if-line-len.false, c.len.ensures, c.self.inside.cues.ok.0)) c.index.ensures)
    ∙ ap (λ (s : OutstationsState). due_in c.args.passed c.args.line s.cues) c.self.view_is)
