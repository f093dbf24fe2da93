-- The table is held against the definition at each of its places, by computing.
use Rattle.std.proofs.Common.{refl, arith}
use Rattle.traces.specs.declared.octets.TheConstants.{VALUES}
use Rattle.traces.proofs.OctetLemmas.{agrees_at, value_is, value_or_none}
use Rattle.traces.proofs.octets.value_of.Goals as goal

pub returns : goal.returns
returns c =
    value_is c.args.octet _ (agrees_at VALUES value_or_none 256 refl c.args.octet (omega arith))
