-- What a port with a store beside it is to its callers (profile).
use Rattle.live.specs.declared.syncs.SyncTimes.{SyncTimes}
use Rattle.live.specs.declared.watched.EndsSight.{EndsSight}
use Rattle.state.specs.Deeds.{Deeds}

pub record Both (P S : Type 0) : Type 0 where
  pub port : P
  pub store : S
  pub deeds : Deeds

-- Such a sight shows the port, but for the syncs, which are those of the store beside it.
pub record ShowsBoth {P : Type 0} (shows : P → EndsSight → Type 0) (ends : P) (sight : EndsSight)
    : Type 0 where
  pub of_port : SyncTimes
  pub port : shows ends (record sight { syncs = of_port })
