-- The table is held against the definition at each of its places, by computing.
use Rattle.std.proofs.Common.{refl, arith}
use Rattle.traces.specs.declared.octets.TheConstants.{HIGH_VALUES}
use Rattle.traces.proofs.OctetLemmas.{agrees_at, high_is, high_or_none}
use Rattle.traces.proofs.octets.high_value_of.Goals as goal

pub returns : goal.returns
returns c =
    high_is c.args.octet _ (agrees_at HIGH_VALUES high_or_none 256 refl c.args.octet (omega arith))
