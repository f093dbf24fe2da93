use Rattle.sim.proofs.BothReadings.{scenario_fits}
use Rattle.sim.proofs.stations.reading.read_scenario.Goals as goal

pub returns : goal.returns
returns c =
    scenario_fits c.args.config.now c.line.result.now c.line.ensures c.read_cues-cues.result
    c.read_script.result c.read_cues-cues.ensures c.read_script.ensures.fits
    c.joined.result c.joined.ensures
