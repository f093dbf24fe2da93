use Rattle.std.proofs.Common.{◌-◌, length}
use Rattle.record.proofs.Sending.{IsSoFar}
use Rattle.record.proofs.capture.wire.put_frames.Given as goal

abbrev pub invariant-frames : goal.invariant-frames
invariant-frames l =
    IsSoFar l.size l.octets l.end l.micros l.initial.is_awaited l.initial.page l.page l.is_awaited

abbrev pub decreases-frames : goal.decreases-frames
decreases-frames l = length l.octets - l.end
