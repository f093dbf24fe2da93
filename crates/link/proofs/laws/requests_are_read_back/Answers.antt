use Rattle.link.proofs.ReadingBack.{read_back, front_back}
use Rattle.link.proofs.laws.requests_are_read_back.Goals as goal

pub returns-clause-whole : goal.returns-clause-whole
returns-clause-whole c =
    λ size address request within fits. read_back c.front_is_computed.ensures.spelled size address
    request within fits

pub returns-clause-front : goal.returns-clause-front
returns-clause-front c =
    λ size address request within fits. front_back c.front_is_computed.ensures.spelled size address
    request within fits
