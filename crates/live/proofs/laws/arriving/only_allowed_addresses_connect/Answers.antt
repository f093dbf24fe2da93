use Rattle.live.proofs.Allowed.{kept_out, put_out}
use Rattle.live.proofs.laws.arriving.only_allowed_addresses_connect.Goals as goal

pub returns-clause-events : goal.returns-clause-events
returns-clause-events c = kept_out

pub returns-clause-put : goal.returns-clause-put
returns-clause-put c = put_out
