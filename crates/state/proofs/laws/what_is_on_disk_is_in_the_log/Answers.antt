use Rattle.std.proofs.Common.{refl}
use Rattle.state.proofs.Histories.{all_appended, all_arrived, all_on_disk, all_written}
use Rattle.state.proofs.laws.what_is_on_disk_is_in_the_log.Goals as goal

pub returns : goal.returns
returns c = record {
  appended = all_appended;
  on_disk = all_on_disk;
  behind = all_written;
  arrived = all_arrived;
  waits = λ deeds event. refl;
  synced = λ deeds. refl;
}
