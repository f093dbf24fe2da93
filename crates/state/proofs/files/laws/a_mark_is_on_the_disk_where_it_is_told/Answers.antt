use Rattle.state.proofs.NameCalls.{marked}
use Rattle.state.proofs.files.laws.a_mark_is_on_the_disk_where_it_is_told.Goals as goal

pub returns : goal.returns
returns c = marked
