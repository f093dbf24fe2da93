-- What an `Asdu` stands for.
use Rattle.asdu.specs.Asdu.{AsduValue}
use Rattle.asdu.specs.Fields.{value_at}
use Rattle.asdu.specs.declared.unit.Asdu.{Asdu}

-- the ASDU that its octets are
abbrev pub value_of : Asdu → AsduValue
value_of a = value_at a.sizes a.kind a.octets.now
