use Rattle.gateway.specs.Reports.{address_at, exchanges_with}
use Rattle.gateway.specs.Setups.{setup_of}
use Rattle.delivery.proofs.NoRestart.{none_asked}
use Rattle.delivery.proofs.OneLife.{none_given_up}
use Rattle.delivery.proofs.laws.silence_is_no_reset.Goals as goal

pub returns-clause-held : goal.returns-clause-held
returns-clause-held c = λ p log i f within hold never stands spared.
    c.silence_is_no_reset.ensures p.link (address_at p.addresses i) (exchanges_with p i log) hold
    (f.links i within) never stands spared

pub returns-clause-one_life : goal.returns-clause-one_life
returns-clause-one_life c = none_given_up

pub returns-clause-none_asked : goal.returns-clause-none_asked
returns-clause-none_asked c = λ settings log i rules faithful one.
    none_asked (setup_of settings) log i
    (c.logs_keep_turns.ensures settings log rules faithful) one
