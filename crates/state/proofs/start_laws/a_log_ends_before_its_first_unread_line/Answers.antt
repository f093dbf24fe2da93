use Rattle.std.proofs.Common.{refl}
use Rattle.state.proofs.LogEnds.{no_more, one_more}
use Rattle.state.proofs.start_laws.a_log_ends_before_its_first_unread_line.Goals as goal

pub returns : goal.returns
returns c = record {
  none = refl;
  each = one_more;
  unread = no_more;
}
