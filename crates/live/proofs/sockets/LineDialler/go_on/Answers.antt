use Rattle.std.proofs.Common.{◌∙◌}
use Rattle.live.proofs.Reaches.{in_time, too_late}
use Rattle.live.proofs.sockets.LineDialler.go_on.Goals as goal

pub returns-then-is_in_time-clause-goes_on : goal.returns-then-is_in_time-clause-goes_on
returns-then-is_in_time-clause-goes_on g c =
    in_time _ _ _ _ c.is_in_time.ensures.shown c.if-is_in_time.true

pub returns-clause-goes_on : goal.returns-clause-goes_on
returns-clause-goes_on g c =
    too_late _ _ _ _ _ _ _ _ c.is_in_time.ensures.shown c.if-is_in_time.false
    (c.is_in_time.ensures.connecting ∙ c.requires) c.connect_next.ensures.tries
