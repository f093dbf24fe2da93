use Rattle.std.proofs.Common.{◌≡◌, drop}
use Rattle.gateway.specs.Reports.{index_of}
use Rattle.sim.proofs.Places.{place_from, addresses_of}
use Rattle.sim.proofs.tallies.index_of.Given as goal

abbrev pub invariant-loop-index : goal.invariant-loop-index
invariant-loop-index l = place_from l.address (addresses_of (drop l.index l.stations)) l.index
    ≡ index_of l.address (addresses_of l.stations)
