use Rattle.std.proofs.Common.{◌≡◌, map, take}
use Rattle.link.specs.Primary.{station_down}
use Rattle.link.proofs.master.Master.new.Given as goal

abbrev pub invariant-loop-address : goal.invariant-loop-address
invariant-loop-address l = l.stations.items ≡ map station_down (take l.address-index l.addresses)
