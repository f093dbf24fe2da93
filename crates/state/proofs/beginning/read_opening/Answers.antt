use Rattle.std.proofs.Common.{Err, drop, ap, ◌∙◌}
use Rattle.statetext.specs.Text.{lines_in}
use Rattle.state.proofs.UnreadLemmas.{err_of, head_wrong}
use Rattle.state.proofs.beginning.read_opening.Goals as goal

pub returns-in_err-next_octets-clause-wrong : goal.returns-in_err-next_octets-clause-wrong
returns-in_err-next_octets-clause-wrong g c =
    err_of _ c.from_residual.result c.in_err-next_octets.field-0.0
    c.from_residual.ensures.1
    (λ wrong some clean state.
    head_wrong (g.D.Disk.seen c.checkpoint.new.self.newest) c.in-Some.checkpoint.text.items
    c.in-Some.checkpoint.head
    (lines_in (drop c.new-lines.result.at c.new-lines.result.text.items))
    c.in-Some.ensures.fits
    (c.in-Some.ensures.found clean) (ap lines_in c.new-lines.ensures)
    (c.next_octets.ensures.none (c.in_err-next_octets.was ∙ ap Err wrong)) state)
