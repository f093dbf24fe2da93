use Rattle.std.proofs.Common.{sym, subst}
use Rattle.statetext.specs.Text.{IsWhole}
use Rattle.statetext.proofs.TextLemmas.{whole_none}
use Rattle.statetext.proofs.sheet.TextSheet.new.Goals as goal

pub invariant_of-result : goal.invariant_of-result
invariant_of-result g c = record { whole = subst IsWhole (sym c.requires) whole_none }
