use Rattle.std.proofs.Common.{◌≡◌, drop}
use Rattle.status.specs.TextPage.{put}
use Rattle.status.specs.Words.{escaped}
use Rattle.status.proofs.words.put_escaped.Given as goal

abbrev pub invariant-loop-octet : goal.invariant-loop-octet
invariant-loop-octet l =
    put (escaped l.marks (drop l.octet-index l.octet-items)) l.page
    ≡ put (escaped l.marks l.fn.text) l.fn.page
