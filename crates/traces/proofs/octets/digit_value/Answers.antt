use Rattle.traces.proofs.OctetLemmas.{value_by_arithmetic}
use Rattle.traces.proofs.octets.digit_value.Goals as goal

pub returns-clause-value : goal.returns-clause-value
returns-clause-value c = value_by_arithmetic c.args.octet
