use Rattle.std.proofs.Common.{rules, ◌≡◌, Some, Ok, sym}
use Rattle.toml.specs.View.{table_view}
use Rattle.settings.specs.Keys.{whole_of}
use Rattle.settings.specs.Stations.{ca_row}
use Rattle.settings.proofs.stations.read_common_address.Goals as goal

-- the number that was read is that of the row
pub returns-clause-value : goal.returns-clause-value
returns-clause-value c =
    let read : whole_of (ca_row c.args.size) (Some (table_view c.args.table.now))
    ≡ Ok c.in_ok-ca.ca =
    rw (← c.greatest_common_address.ensures.value) (sym c.in_ok-ca.ensures.value) in
    rw read (search (rules, c.distinct.ensures.value, c.has_common_address.ensures))
