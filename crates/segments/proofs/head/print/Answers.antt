use Rattle.std.proofs.Common.{◌∙◌, ap, length, slice_index, List, ℕ}
use Rattle.segments.proofs.HeadLemmas.{head_length, head_first}
use Rattle.segments.proofs.head.print.Goals as goal

pub returns-clause-octets : goal.returns-clause-octets
returns-clause-octets c = ap length c.in_ok-row.ensures ∙ head_length c.args.head.now

pub returns-clause-first : goal.returns-clause-first
returns-clause-first c =
    ap (λ (l : List ℕ). slice_index l 0) c.in_ok-row.ensures ∙ head_first c.args.head.now
