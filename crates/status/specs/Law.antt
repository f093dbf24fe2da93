-- Words of the laws of a judgement (this gateway's own profile).
use Rattle.std.specs.Prelude.{◌≡◌, ◌≢◌, ◌+◌, ◌*◌, ◌<◌, ◌≤◌, true, false, None, length}
use Rattle.std.specs.List.{AllByRecursion, list_any}
use Rattle.status.specs.Judge.{may_answer}
use Rattle.status.specs.declared.snapshot.Keeping.TheVariants.{NotKept}
use Rattle.status.specs.declared.snapshot.LinkState.TheVariants.{Silent, Down}
use Rattle.status.specs.declared.snapshot.StationView.{StationView}
use Rattle.status.specs.declared.snapshot.Snapshot.{Snapshot}

-- reports don't get through, or would be lost
pub data IsTrouble (s : Snapshot) : Type 0 where
  LineLost : s.line.is_there ≡ false → s.line.since_ms + 60000 ≤ s.now_ms → IsTrouble s
  NoCentre : s.centre.peer ≡ None → IsTrouble s
  QueueFull : s.queue.places < s.queue.taken + 3 → IsTrouble s
  NotOnDisk : s.keeping ≡ NotKept → IsTrouble s
  NoneAnswers : 0 < length s.stations.now → list_any may_answer s.stations.now ≡ false
      → IsTrouble s

-- it isn't said that the station doesn't answer
pub record Answers (station : StationView) : Type 0 where
  pub not_silent : station.standing ≢ Silent
  pub not_down : station.standing ≢ Down

pub record IsWell (s : Snapshot) : Type 0 where
  pub line : s.line.is_there ≡ true
  pub centre : s.centre.peer ≢ None
  pub free : s.queue.taken + 3 ≤ s.queue.places
  pub half : s.queue.taken * 2 ≤ s.queue.places
  pub kept : s.keeping ≢ NotKept
  pub stations : AllByRecursion Answers s.stations.now
