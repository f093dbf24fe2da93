use Rattle.std.proofs.Common.{IsTrue, refl, subst, sym}
use Rattle.state.specs.Sights.{IsSight}
use Rattle.state.proofs.Looked.{aside_of, distrusted_by, sight_of, whole_seen}
use Rattle.state.proofs.looking.look_behind.Goals as goal

pub returns-in-Ok-clause-sight : goal.returns-in-Ok-clause-sight
returns-in-Ok-clause-sight g c is_stale first second placed trusted untrusted =
    let e = c.would_go_on-goes_on.ensures in
    subst (IsSight g.K.Lineage.log is_stale first second) (sym c.with_log.ensures)
    (sight_of g.K.Lineage.log is_stale c.would_go_on-goes_on.result first second
    (g.D.Disk.seen c.args.start.newest) (g.D.Disk.seen c.args.start.other) c.args.start.side
    c.with_past.result c.in-Ok.seen placed c.in-Ok.ensures.side c.in-Ok.ensures.log
    c.with_past.ensures.past c.with_past.ensures.trusted c.requires.newest
    (λ on. c.requires.sure (e.trusted on))
    (λ on. whole_seen g.K.Lineage.log (g.D.Disk.seen c.args.start.newest) c.in-Ok.seen
    c.in-Ok.ensures.log (e.whole on).0 (e.whole on).1)
    (λ on. trusted (e.trusted on))
    (λ off. distrusted_by c.args.is_trusted is_stale g.K.Lineage.log
    (g.D.Disk.seen c.args.start.newest) (g.D.Disk.seen c.args.start.other) c.in-Ok.seen
    c.in-Ok.ensures.log untrusted (e.others off)))

pub returns-in-Err-Wrong-clause-sight : goal.returns-in-Err-Wrong-clause-sight
returns-in-Err-Wrong-clause-sight g c is_stale first second placed trusted untrusted =
    subst (IsSight g.K.Lineage.log is_stale first second) (sym c.without_log.ensures)
    (record {
      side = c.args.start.side;
      newest = g.D.Disk.seen c.args.start.newest;
      other = g.D.Disk.seen c.args.start.other;
      placed = placed;
      begins = aside_of (IsTrue (g.D.Disk.is_clean c.args.start.newest))
          (g.D.Disk.seen c.args.start.newest) (g.D.Disk.seen c.args.start.other)
          c.args.start.checkpoint c.args.start.at c.requires.found c.args.start.stands
          (c.requires.honest _) c.requires.backed
          (c.in-Err-Wrong.ensures.wrong c.in-Err-Wrong.field-0-is c.requires.found);
      shown = refl;
    })
