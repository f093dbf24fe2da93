use Rattle.std.proofs.Common.{◌≡◌, ◌-◌, length, replicate}
use Rattle.status.specs.TextPage.{put}
use Rattle.status.proofs.words.put_right.Given as goal

abbrev pub invariant-loop : goal.invariant-loop
invariant-loop l =
    put (replicate (l.width - l.counter) 32) l.page ≡ put (replicate (l.width - length l.digits) 32)
    l.fn.page
