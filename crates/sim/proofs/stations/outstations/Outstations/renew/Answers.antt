use Rattle.std.proofs.Common.{ap, ◌∙◌}
use Rattle.link.specs.Secondary.{fresh_station}
use Rattle.sim.specs.Exchanges.{OutstationsState}
use Rattle.sim.proofs.Reporting.{station_changed}
use Rattle.sim.proofs.stations.outstations.Outstations.renew.Goals as goal

pub returns : goal.returns
returns c =
    station_changed _ _ c.self.view_is c.args.station
    (λ _. fresh_station c.args.self.now.size c.args.address) c.index_mut.result.now c.new.result
    c.requires.here c.index_mut.ensures.value
    (c.new.ensures ∙ ap (λ (s : OutstationsState). fresh_station s.size c.args.address)
    c.self.view_is)
