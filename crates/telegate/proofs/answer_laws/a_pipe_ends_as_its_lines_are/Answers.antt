use Rattle.telegate.proofs.PipeLaw.{ends_faulty, ends_good}
use Rattle.telegate.proofs.answer_laws.a_pipe_ends_as_its_lines_are.Goals as goal

pub returns-clause-good : goal.returns-clause-good
returns-clause-good c = ends_good

pub returns-clause-faulty : goal.returns-clause-faulty
returns-clause-faulty c = ends_faulty
