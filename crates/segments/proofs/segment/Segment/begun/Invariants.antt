use Rattle.std.proofs.Common.{[], drop, take}
use Rattle.segments.proofs.segment.Segment.begun.Given as goal

abbrev pub ghost-of : goal.ghost-of
ghost-of g a = record {
  body = drop 87 (take a._end (g.D.Disk.seen a._file.now));
  writes = [];
  lines = [];
}
