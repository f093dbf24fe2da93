use Rattle.telegate.proofs.CheckLemmas.{good_live, good_plain}
use Rattle.telegate.proofs.check.judge.Goals as goal

pub returns-in-Ok : goal.returns-in-Ok
returns-in-Ok c = good_live c.args.live c.args.config.now c.in-Ok.read c.if-live.true
    c.in-Ok.ensures

pub returns-in-Ok-read_config : goal.returns-in-Ok-read_config
returns-in-Ok-read_config c =
    good_plain c.args.live c.args.config.now c.in-Ok-read_config._settings c.if-live.false
    c.in-Ok-read_config.ensures
