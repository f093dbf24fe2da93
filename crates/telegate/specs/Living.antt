-- What a live run came to (profile).
use Rattle.std.specs.Prelude.{◌≡◌, Bool, false, OnOk, Some, Result}
use Rattle.gateway.specs.Config.{Settings}
use Rattle.gateway.specs.Setups.{setup_of}
use Rattle.live.specs.Ends.{LiveEnds, fixed_of}
use Rattle.live.specs.Runs.{BeginsSo, HasPassed, IsInRun}
use Rattle.live.specs.declared.allow_list.AllowList.{AllowList}
use Rattle.record.specs.Recording.{Recording, all_passed}
use Rattle.telegate.specs.Running.{HasEnded, HasRunFaithfully, IsRecorded}

-- The port is that of a run with these settings and this allow list, which goes on after a restart
-- or not.
abbrev pub IsPortOf : Settings → AllowList → (goes_on : Bool) → LiveEnds → Type 0
IsPortOf settings allow_list goes_on port = fixed_of port ≡ record {
  allow_list = allow_list;
  answer_ms = settings.line.answer_ms;
  goes_on = goes_on;
}

-- Nothing has happened at it but by its events and actions since the run began. Its log begins with
-- the wall clock, and then, if the run goes on, with the cut of the connection of then. It has what
-- passed at the ends, from the first octet on.
pub record IsPortOfRun (settings : Settings) (allow_list : AllowList) (goes_on : Bool)
    (port : LiveEnds) : Type 0 where
  pub fixed : IsPortOf settings allow_list goes_on port
  pub run : IsInRun port
  pub begins : BeginsSo port
  pub passed : HasPassed port

-- A live run is over. What passed at its port, behind the lives before, keeps every promise of a
-- gateway with these settings, and so does what is written of it. A port between real ends has
-- always another event, so it ended well only once all turns that can be counted were used up.
pub record HasLived {E : Type 0} (settings : Settings) (allow_list : AllowList) (goes_on : Bool)
    (port : LiveEnds) (pen : Recording) (ended : Result (Unit {0}) E) : Type 0 where
  pub port_is : IsPortOfRun settings allow_list goes_on port
  pub over : OnOk ended (HasEnded false (Some pen.before) (all_passed pen (Some port.log)))
  pub faithful : HasRunFaithfully (setup_of settings) (all_passed pen (Some port.log)) ended
  pub recorded : IsRecorded (setup_of settings) pen ended
