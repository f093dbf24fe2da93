use Rattle.std.proofs.Common.{lit<}
use Rattle.segments.proofs.CrashLemmas.{all_shut, shut_old, cut_shut, held_first, held_some}
use Rattle.segments.proofs.CrashLemmas.{ok_of, on_ok}
use Rattle.segments.proofs.gate.shut.Goals as goal

pub returns-in_err-done-clause-crash : goal.returns-in_err-done-clause-crash
returns-in_err-done-clause-crash g c mixing =
    shut_old _ _ (c.write_at.ensures.mixed mixing (lit< tt))

pub returns-in_err-done-2-clause-crash : goal.returns-in_err-done-2-clause-crash
returns-in_err-done-2-clause-crash g c mixing left may =
    shut_old _ _ (c.write_at.ensures.mixed mixing (lit< tt)) left (c.sync.ensures.crash left may)

pub returns-clause-shut : goal.returns-clause-shut
returns-clause-shut g c =
    let holds = ok_of c.done.result c.write_at.result _ c.done.ensures c.in_ok-done.was
    c.write_at.ensures.written (lit< tt) in
    let only = ok_of c.done-2.result c.sync.result _ c.done-2.ensures c.in_ok-done-2.was
    c.sync.ensures.durable in
    on_ok c.done-3.result (cut_shut 87 _ _ _ only (held_some _ _ holds (lit< tt)) (lit< tt)
    (held_first _ _ holds (lit< tt)) c.set_len.ensures.crash)

pub returns-clause-crash : goal.returns-clause-crash
returns-clause-crash g c mixing =
    let holds = ok_of c.done.result c.write_at.result _ c.done.ensures c.in_ok-done.was
    c.write_at.ensures.written (lit< tt) in
    let only = ok_of c.done-2.result c.sync.result _ c.done-2.ensures c.in_ok-done-2.was
    c.sync.ensures.durable in
    all_shut _ _ (cut_shut 87 _ _ _ only (held_some _ _ holds (lit< tt)) (lit< tt)
    (held_first _ _ holds (lit< tt)) c.set_len.ensures.crash)
