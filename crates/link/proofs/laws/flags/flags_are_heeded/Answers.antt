use Rattle.std.proofs.Common.{sym, ap}
use Rattle.ft12.specs.Fronts.{front_of}
use Rattle.link.specs.Flags.{Flags}
use Rattle.link.proofs.Heeding.{sending_heeds}
use Rattle.link.proofs.laws.flags.flags_are_heeded.Goals as goal

pub returns-clause-acd : goal.returns-clause-acd
returns-clause-acd c = λ settings addresses p e station t. ap (λ (f : Flags). f.acd)
    (sym (t.flags station))

pub returns-clause-dfc : goal.returns-clause-dfc
returns-clause-dfc c = λ settings addresses p e station t. ap (λ (f : Flags). f.dfc)
    (sym (t.flags station))

pub returns-clause-heeds : goal.returns-clause-heeds
returns-clause-heeds c = λ settings addresses p e may_poll waiting s t sent new.
    sending_heeds (front_of settings.size) settings addresses p e may_poll waiting s t sent new
