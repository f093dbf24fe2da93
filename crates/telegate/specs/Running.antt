-- What the command that runs live answers (this gateway's own profile).
use Rattle.std.specs.Prelude.{◌≡◌, ◌⊎◌, ℕ, ◌+◌, ◌++◌, Bool, true, false, List, [], Option, Some}
use Rattle.std.specs.Prelude.{None, IfSome, Result, Ok, Err, MatchResult}
use Rattle.gateway.specs.Config.{Settings}
use Rattle.gateway.specs.Log.{Log}
use Rattle.gateway.specs.Reports.{Setup}
use Rattle.gateway.specs.Runs.{MoreEvents}
use Rattle.gateway.specs.Traffic.{IsFaithful, HasRested}
use Rattle.record.specs.Recording.{Recording, text_of}
use Rattle.settings.specs.Settings.{IsLiveReadOfText}
use Rattle.settings.specs.declared.live.LiveSettings.{LiveSettings}
use Rattle.telegate.specs.declared.fault.Fault.{Fault}
use Rattle.telegate.specs.declared.fault.Fault.TheVariants.{Config, NoMemory}
use Rattle.traces.specs.Printed.{lines_of_log}

-- settings are refused by the first fault
abbrev pub IsLiveConfigFault : List ℕ → Fault → Type 0
IsLiveConfigFault config (Config why) = IsLiveReadOfText config (Err why)
IsLiveConfigFault config NoMemory = Unit {0}
IsLiveConfigFault config _ = ⊥

abbrev pub IsReadLiveConfig : List ℕ → Result (Settings × LiveSettings) Fault → Type 0
IsReadLiveConfig config result =
    MatchResult result (λ c. IsLiveReadOfText config (Ok c)) (IsLiveConfigFault config)

-- How often the device of a run failed before and after it: a run that is done had no failure, and
-- one that has stopped had one.
abbrev pub HasRun : {A E : Type 0} → ℕ → ℕ → Result A E → Type 0
HasRun before after result = MatchResult result (λ _. after ≡ before) (λ _. after ≡ before + 1)

-- The port had no more events, or all turns that can be counted were used up.
abbrev pub HasEnded : Bool → (before after : Option Log) → Type 0
HasEnded ended before after = (ended ≡ true) ⊎ MoreEvents 18446744073709551615 before after

-- What a log of the run shows, if it is known, keeps every promise of such a gateway. If the device
-- didn't fail, nothing that may be sent is left.
abbrev pub IsRunFaithful : Setup → Option Log → Type 0
IsRunFaithful p shown = IfSome shown (IsFaithful p)

abbrev pub HasRunFaithfully : {A E : Type 0} → Setup → Option Log → Result A E → Type 0
HasRunFaithfully p shown result =
    MatchResult result (λ _. IsRunFaithful p shown × IfSome shown (HasRested p))
    (λ _. IsRunFaithful p shown)

-- What a run leaves on its record: the text is the lines of a log, which, behind the lives before,
-- and with what passed once the record was over, keeps every promise. Until it is over nothing
-- passed unwritten.
pub record IsRecordOf {A E : Type 0} (p : Setup) (before : Log) (is_over : Bool) (text : List ℕ)
    (missed : Log) (result : Result A E) : Type 0 where
  pub log : Log
  pub lines : text ≡ lines_of_log log
  pub whole : is_over ≡ false → missed ≡ []
  pub faithful : HasRunFaithfully p (Some ((missed ++ log) ++ before)) result

-- if the text, and what passed unwritten, are known
abbrev pub IsTextOf : {A E : Type 0} → Setup → (before : Log) → (is_over : Bool)
    → (text : Option (List ℕ)) → (missed : Option Log) → Result A E → Type 0
IsTextOf p before is_over None missed result = Unit {0}
IsTextOf p before is_over (Some text) None result = Unit {0}
IsTextOf p before is_over (Some text) (Some missed) result =
    IsRecordOf p before is_over text missed result

abbrev pub IsRecorded : {A E : Type 0} → Setup → Recording → Result A E → Type 0
IsRecorded p r result = IsTextOf p r.before r.is_over (text_of r) r.missed result
