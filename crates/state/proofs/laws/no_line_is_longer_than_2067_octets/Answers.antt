use Rattle.state.proofs.LineLemmas.{longest, short_line}
use Rattle.state.proofs.laws.no_line_is_longer_than_2067_octets.Goals as goal

pub returns-clause-short : goal.returns-clause-short
returns-clause-short c = short_line

pub returns-clause-longest : goal.returns-clause-longest
returns-clause-longest c = longest
