use Rattle.ft12.specs.Fronts.{front_of}
use Rattle.link.proofs.Waiting.{sending_fits, sending_carried, sending_octets, sending_alone}
use Rattle.link.proofs.laws.requests_wait_their_turn.Goals as goal

pub returns-clause-fit : goal.returns-clause-fit
returns-clause-fit c = λ settings addresses p e may_poll waiting s carried t is.
    sending_fits (front_of settings.size) settings addresses p e may_poll waiting s carried t is

pub returns-clause-carried : goal.returns-clause-carried
returns-clause-carried c = λ settings addresses p e may_poll waiting carries t.
    sending_carried (front_of settings.size) settings addresses p e may_poll waiting carries t

pub returns-clause-octets : goal.returns-clause-octets
returns-clause-octets c = λ settings addresses p e s t. sending_octets
    (front_of settings.size) settings addresses p e s t

pub returns-clause-alone : goal.returns-clause-alone
returns-clause-alone c = λ settings addresses p e may_poll waiting s x t is latest out.
    sending_alone (front_of settings.size) settings addresses p e may_poll waiting s x t is latest
    out
