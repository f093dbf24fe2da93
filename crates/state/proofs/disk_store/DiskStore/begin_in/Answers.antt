use Rattle.std.proofs.Common.{arith}
use Rattle.state.proofs.LogLemmas.{begun_counted}
use Rattle.state.proofs.disk_store.DiskStore.begin_in.Goals as goal

pub invariant_of-current : goal.invariant_of-current
invariant_of-current g c = record {
  own = c.in-Ok.ensures.number;
  counted = begun_counted _ _ _ _ c.in-Ok.ensures.writes.0 c.in-Ok.ensures.writes.1;
  room = omega (arith, c.in-Ok.ensures.room, c.in-Ok.ensures.octets);
  sound = c.in-Some-mended.ensures.sound;
  older = c.in-Some-mended.ensures.older;
}

pub write_segment-segment-requires-clause-backed :
    goal.write_segment-segment-requires-clause-backed
write_segment-segment-requires-clause-backed g c clean clean' =
    c.in-Some.ensures.backed clean _
    (c.requires.backed (c.in-Some.ensures.clean clean) clean')

pub mended-requires-clause-older : goal.mended-requires-clause-older
mended-requires-clause-older g c clean =
    c.in-Some.ensures.older clean _ (c.requires.older (c.in-Some.ensures.clean clean))
