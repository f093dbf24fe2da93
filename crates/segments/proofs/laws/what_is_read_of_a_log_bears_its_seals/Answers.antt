use Rattle.std.proofs.Common.{drop, take}
use Rattle.statetext.specs.Sealed.{end_in, writes_in}
use Rattle.statetext.proofs.Torn.{read_stands}
use Rattle.segments.proofs.Crashes.{lines_stand, none_passed}
use Rattle.segments.proofs.laws.what_is_read_of_a_log_bears_its_seals.Goals as goal

pub returns-clause-writes : goal.returns-clause-writes
returns-clause-writes c = λ begins file sealed.
    let stands = read_stands (take 87 file) (drop begins file) in (
      writes_in (take 87 file) (drop begins file),
      drop (end_in (take 87 file) (drop begins file)) (drop begins file),
      stands.0,
      stands.1,
      lines_stand begins file sealed,
    )

pub returns-clause-none : goal.returns-clause-none
returns-clause-none c = λ begins file before behind place within few sealed undamaged few' stands.
    none_passed begins place file before behind within few sealed undamaged few' stands
