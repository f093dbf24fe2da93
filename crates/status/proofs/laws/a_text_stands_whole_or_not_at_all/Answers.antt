use Rattle.std.proofs.Common.{[], arith}
use Rattle.status.specs.TextPage.{put}
use Rattle.status.proofs.Sheets.{text_with_room, text_without_room}
use Rattle.status.proofs.laws.a_text_stands_whole_or_not_at_all.Goals as goal

pub returns-clause-whole : goal.returns-clause-whole
unfolding put
returns-clause-whole c room text le = text_with_room room text [] (omega arith)

pub returns-clause-none : goal.returns-clause-none
unfolding put
returns-clause-none c room text lt = text_without_room room text [] (omega arith) (omega arith)
