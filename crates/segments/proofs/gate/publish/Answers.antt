use Rattle.std.proofs.Common.{◌∙◌, arith, lit<}
use Rattle.segments.proofs.CrashLemmas.{all_shut, behind_shut, ok_of, on_ok}
use Rattle.segments.proofs.SegmentLemmas.{first_one, publish_crash, publish_mixed, publish_seen}
use Rattle.segments.proofs.SegmentLemmas.{still_shut}
use Rattle.segments.proofs.gate.publish.Goals as goal

pub returns-in_err-done-3-clause-crash : goal.returns-in_err-done-3-clause-crash
returns-in_err-done-3-clause-crash g c =
    let r = c.requires in
    publish_crash c.args.head.now _ _ _ _ r.head r.first r.within c.write_at.ensures.others
    (ok_of c.done.result c.write_at.result _ c.done.ensures c.in_ok-done.was
    c.write_at.ensures.written)
    (ok_of c.done-2.result c.sync.result _ c.done-2.ensures c.in_ok-done-2.was
    c.sync.ensures.durable)
    c.write_at-2.ensures.crash

pub returns-clause-written : goal.returns-clause-written
returns-clause-written g c =
    let r = c.requires in
    on_ok c.done-4.result (c.sync-2.ensures.seen ∙
    publish_seen c.args.head.now _ _ _ _ r.head r.first r.within c.write_at.ensures.others
    (ok_of c.done.result c.write_at.result _ c.done.ensures c.in_ok-done.was
    c.write_at.ensures.written) c.sync.ensures.seen
    c.write_at-2.ensures.others
    (ok_of c.done-3.result c.write_at-2.result _ c.done-3.ensures c.in_ok-done-3.was
    c.write_at-2.ensures.written))

pub returns-clause-crash : goal.returns-clause-crash
returns-clause-crash g c left may =
    let r = c.requires in
    publish_crash c.args.head.now _ _ _ _ r.head r.first r.within c.write_at.ensures.others
    (ok_of c.done.result c.write_at.result _ c.done.ensures c.in_ok-done.was
    c.write_at.ensures.written)
    (ok_of c.done-2.result c.sync.result _ c.done-2.ensures c.in_ok-done-2.was
    c.sync.ensures.durable)
    c.write_at-2.ensures.crash left (c.sync-2.ensures.crash left may)

pub returns-in_err-done-clause-mixed : goal.returns-in_err-done-clause-mixed
returns-in_err-done-clause-mixed g c mixing =
    let r = c.requires in
    all_shut _ _ (behind_shut 1 _ _ _ c.write_at.ensures.crash (lit< tt) r.long r.shut)

pub returns-in_err-done-2-clause-mixed : goal.returns-in_err-done-2-clause-mixed
returns-in_err-done-2-clause-mixed g c mixing =
    let r = c.requires in
    all_shut _ _ (still_shut 1 _ _ _ _ c.write_at.ensures.crash c.sync.ensures.crash (lit< tt)
    r.long r.shut).shut

pub returns-in_err-done-3-clause-mixed : goal.returns-in_err-done-3-clause-mixed
returns-in_err-done-3-clause-mixed g c mixing =
    let r = c.requires in
    let still = still_shut 1 _ _ _ _ c.write_at.ensures.crash c.sync.ensures.crash (lit< tt) r.long
    r.shut in
    publish_mixed c.args.head.now _ _ _ r.head r.first still.long still.shut
    (c.write_at-2.ensures.mixed (mixing _) (omega (arith, first_one c.args.head.now r.head)))
    (publish_crash c.args.head.now _ _ _ _ r.head r.first r.within c.write_at.ensures.others
    (ok_of c.done.result c.write_at.result _ c.done.ensures c.in_ok-done.was
    c.write_at.ensures.written)
    (ok_of c.done-2.result c.sync.result _ c.done-2.ensures c.in_ok-done-2.was
    c.sync.ensures.durable)
    c.write_at-2.ensures.crash)

pub returns-clause-mixed : goal.returns-clause-mixed
returns-clause-mixed g c mixing left may =
    let r = c.requires in
    let still = still_shut 1 _ _ _ _ c.write_at.ensures.crash c.sync.ensures.crash (lit< tt) r.long
    r.shut in
    publish_mixed c.args.head.now _ _ _ r.head r.first still.long still.shut
    (c.write_at-2.ensures.mixed (mixing _) (omega (arith, first_one c.args.head.now r.head)))
    (publish_crash c.args.head.now _ _ _ _ r.head r.first r.within c.write_at.ensures.others
    (ok_of c.done.result c.write_at.result _ c.done.ensures c.in_ok-done.was
    c.write_at.ensures.written)
    (ok_of c.done-2.result c.sync.result _ c.done-2.ensures c.in_ok-done-2.was
    c.sync.ensures.durable)
    c.write_at-2.ensures.crash) left (c.sync-2.ensures.crash left may)
