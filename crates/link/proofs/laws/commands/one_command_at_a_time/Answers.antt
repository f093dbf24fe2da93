use Rattle.ft12.specs.Fronts.{front_of}
use Rattle.link.proofs.Turning.{free_where}
use Rattle.link.proofs.UnderWay.{none_under_way}
use Rattle.link.proofs.laws.commands.one_command_at_a_time.Goals as goal

pub returns : goal.returns
returns c = λ settings addresses p e may_poll waiting s t sent command free.
    none_under_way (front_of settings.size) settings addresses p e s.station t
    (free_where p may_poll waiting s sent) free
