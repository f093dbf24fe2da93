-- What became of outstations that were to be played (this gateway's own profile).
use Rattle.std.specs.Prelude.{◌⊎◌, ℕ, List, Result, Ok, Err}
use Rattle.gateway.specs.Config.{Settings}
use Rattle.settings.specs.Settings.{IsLiveReadOfText}
use Rattle.settings.specs.declared.live.LiveSettings.{LiveSettings}
use Rattle.sim.specs.declared.stations.scenario.Scenario.{Scenario}
use Rattle.telegate.specs.declared.fault.Fault.{Fault}
use Rattle.telegate.specs.declared.fault.Fault.TheVariants.{Config, Script, Device, NoMemory}

-- they were played, or the listener or the clock can't be had, or memory was refused
abbrev pub ArePlayed : Result (Unit {0}) Fault → Type 0
ArePlayed (Ok done) = Unit {0}
ArePlayed (Err Device) = Unit {0}
ArePlayed (Err NoMemory) = Unit {0}
ArePlayed (Err _) = ⊥

-- the settings of a live run are free of faults
abbrev pub AreSet : (config : List ℕ) → Type 0
AreSet config =
    (settings : Settings) × (places : LiveSettings)
    × IsLiveReadOfText config (Ok (settings, places))

-- settings and script are free of faults, and this is answered
pub record AreStaged (config : List ℕ) (answer : Result (Unit {0}) Fault) : Type 0 where
  pub set : AreSet config
  pub played : ArePlayed answer

-- a file is refused by its first fault, the settings before the script, and nothing is played
abbrev pub AreRefused : (config : List ℕ) → Result (Unit {0}) Fault → Type 0
AreRefused config (Ok done) = ⊥
AreRefused config (Err (Config why)) = IsLiveReadOfText config (Err why)
AreRefused config (Err (Script n)) = AreSet config
AreRefused config (Err NoMemory) = Unit {0}
AreRefused config (Err _) = ⊥

abbrev pub ArePlayedBy : (config text : List ℕ) → Result (Unit {0}) Fault → Type 0
ArePlayedBy config text answer = AreStaged config answer ⊎ AreRefused config answer

-- the script of a text is read, or is refused
abbrev pub IsRead : Result Scenario Fault → Type 0
IsRead (Ok scenario) = Unit {0}
IsRead (Err (Script n)) = Unit {0}
IsRead (Err NoMemory) = Unit {0}
IsRead (Err _) = ⊥
