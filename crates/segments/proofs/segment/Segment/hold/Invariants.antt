use Rattle.std.proofs.Common.{◌++◌}
use Rattle.segments.proofs.segment.Segment.hold.Given as goal

abbrev pub ghost-next : goal.ghost-next
ghost-next g a = record {
  body = a.self.now.has.body;
  writes = a.self.now.has.writes;
  lines = a.self.now.has.lines ++ a._octets.now;
}
