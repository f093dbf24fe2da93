use Rattle.std.proofs.Common.{inl, sym, subst}
use Rattle.telegate.proofs.ReplayLemmas.{replayed_held}
use Rattle.telegate.proofs.shell.replay_file.Goals as goal

pub returns-in-Ok : goal.returns-in-Ok
returns-in-Ok g c =
    let has = g.H.Host.has c.args.host.now c.args.name.now in
    inl (replayed_held c.args.asked.now.config.now c.args.asked.now.manner has
    c.args.asked.now.closing c.as_slice.result.now
    (g.W.Write.contents c.args.out.now) (g.W.Write.contents c.replay_text-in-Ok.new.out)
    c.replay_text-in-Ok.result
    (subst has (sym c.as_slice.ensures.value) c.in-Ok.ensures.read) c.replay_text-in-Ok.ensures)
