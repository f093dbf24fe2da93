use Rattle.std.specs.Prelude.{◌++◌}
use Rattle.state.proofs.replaying.Repeater.log.Given as goal

abbrev pub ghost-known : goal.ghost-known
ghost-known g a = a._news.now.entries ++ g.K.ReplayScript.log
