use Rattle.std.proofs.Common.{inl}
use Rattle.telegate.specs.Playing.{ArePlayedBy}
use Rattle.telegate.proofs.PlayLemmas.{unscripted, unset}
use Rattle.telegate.proofs.RunLemmas.{as_err}
use Rattle.telegate.proofs.host.SystemHost.play.Goals as goal

pub returns-in_err-settings : goal.returns-in_err-settings
returns-in_err-settings g c =
    as_err (ArePlayedBy c.args.config.now c.args.script.now) c.from_residual.result
    c.in_err-settings.field-0.0 c.from_residual.ensures.1
    (unset c.args.config.now c.args.script.now c.in_err-settings.field-0.0
    c.in_err-settings.ensures)

pub returns-in_err-scenario : goal.returns-in_err-scenario
returns-in_err-scenario g c =
    as_err (ArePlayedBy c.args.config.now c.args.script.now)
    c.from_residual-in_err-scenario.result c.in_err-scenario.field-0.0
    c.from_residual-in_err-scenario.ensures.1
    (unscripted c.args.config.now c.args.script.now c.in_err-scenario.field-0.0
    (c.in_ok-settings.settings, c.in_ok-settings.places, c.in_ok-settings.ensures)
    c.in_err-scenario.ensures.scenario)

pub returns : goal.returns
returns g c =
    inl (record {
      set = (c.in_ok-settings.settings, c.in_ok-settings.places, c.in_ok-settings.ensures);
      played = c.play_at.ensures;
    })
