use Rattle.std.proofs.Common.{sym}
use Rattle.status.proofs.WordLemmas.{put_nothing}
use Rattle.status.proofs.texts.put_syncs.Goals as goal

pub returns-then-syncs-eq0 : goal.returns-then-syncs-eq0
returns-then-syncs-eq0 c = rw c.if-syncs-eq0.true (sym (put_nothing c.args.page.now))
