use Rattle.std.proofs.Common.{subst, length, List, ℕ, ◌≤◌}
use Rattle.link.proofs.Fits.{any_line}
use Rattle.link.proofs.master.carrying.fits_any_line.Goals as goal

pub returns : goal.returns
returns c = λ size other h.
    any_line size other c.args.command.now
    (subst (λ (x : List ℕ). length x ≤ 12) c.octets-octets.ensures.octets
    c.octets-octets.ensures.small) h
