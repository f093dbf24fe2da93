use Rattle.std.proofs.Common.{◌∙◌, ap}
use Rattle.asdu.specs.InformationObjects.{is_passed_on}
use Rattle.asdu.proofs.Related.{passed, kept}
use Rattle.asdu.proofs.unit.Asdu.is_passed_on.Goals as goal

pub returns-clause-passed : goal.returns-clause-passed
returns-clause-passed c = passed c.args.self.now c.is_report.result (c.is_report.ensures
    ∙ ap (is_passed_on c.args.self.now.kind) c.cause.ensures)

pub returns-clause-kept : goal.returns-clause-kept
returns-clause-kept c = kept c.args.self.now c.is_report.result (c.is_report.ensures
    ∙ ap (is_passed_on c.args.self.now.kind) c.cause.ensures)
