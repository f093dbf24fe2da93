use Rattle.std.proofs.Common.{◌==◌}
use Rattle.traces.proofs.LineLemmas.{found_first, found_within}
use Rattle.traces.proofs.lines.far_place.Goals as goal

pub returns-clause-first : goal.returns-clause-first
returns-clause-first c =
    found_first (λ b. b == c.args.separator) c.args.text.now c.memchr.result c.memchr.ensures

pub returns-clause-within : goal.returns-clause-within
returns-clause-within c =
    found_within (λ b. b == c.args.separator) c.args.text.now c.memchr.result c.memchr.ensures
