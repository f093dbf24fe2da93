-- What the audit of a recorded run answers (this gateway's own profile).
use Rattle.std.specs.Prelude.{◌≡◌, ◌⊎◌, ℕ, codes, List, [], ◌∷◌, ◌++◌, Result, Ok, Err, MatchResult}
use Rattle.std.specs.Fmt.{decimal}
use Rattle.gateway.specs.Log.{Log}
use Rattle.record.specs.Audit.{IsAudit, IsUnfit, IsWrongLine}
use Rattle.record.specs.declared.audit.RecordFault.{RecordFault}
use Rattle.record.specs.declared.audit.RecordFault.TheVariants as faults
use Rattle.record.specs.declared.audit.Comparison.{Comparison}
use Rattle.record.specs.declared.audit.Comparison.TheVariants.{Same, Differs, LeftOut}
use Rattle.gateway.specs.Config.{Settings}
use Rattle.settings.specs.Settings.{IsReadOfText}
use Rattle.telegate.specs.declared.answer.CommandAnswer.{CommandAnswer}
use Rattle.telegate.specs.declared.fault.Fault.{Fault}
use Rattle.telegate.specs.declared.fault.Fault.TheVariants.{Config, Record, Unfit, Unread, NoMemory}

abbrev pub comparison_line : Comparison → List ℕ
comparison_line (Same events actions) =
    codes "same, " ++ decimal events ++ codes " events, " ++ decimal actions ++ codes " actions"
    ++ 10 ∷ []
comparison_line (Differs number) = codes "line " ++ decimal number ++ codes " differs" ++ 10 ∷ []
comparison_line (LeftOut number) =
    codes "line " ++ decimal number
    ++ codes ": lines are left out here; those before it are the same" ++ 10 ∷ []

abbrev pub comparison_status : Comparison → ℕ
comparison_status (Same events actions) = 0
comparison_status (Differs number) = 1
comparison_status (LeftOut number) = 1

pub record IsComparisonAnswer (comparison : Comparison) (answer : CommandAnswer) : Type 0 where
  pub text : answer.text.items ≡ comparison_line comparison
  pub status : answer.status ≡ comparison_status comparison

abbrev pub IsMemory : Fault → Type 0
IsMemory NoMemory = Unit {0}
IsMemory _ = ⊥

-- a text whose octets may be these was audited by settings of these octets, behind this log, and
-- the comparison answered
pub record IsAuditAnswer (config : List ℕ) (past : Log) (has : List ℕ → Type 0)
    (answer : CommandAnswer) : Type 0 where
  pub settings : Settings
  pub text : List ℕ
  pub comparison : Comparison
  pub read_config : IsReadOfText config (Ok settings)
  pub is : has text
  pub audited : IsAudit settings past text comparison
  pub answered : IsComparisonAnswer comparison answer

-- why a command stops whose record has no comparison
abbrev pub fault_of_lem : RecordFault → Fault
fault_of_lem (faults.Line n) = Record n
fault_of_lem (faults.Unfit n) = Unfit n
fault_of_lem faults.Unread = Unread
fault_of_lem faults.NoMemory = NoMemory

-- Settings are judged before the record.
abbrev pub IsAuditFault : List ℕ → (has : List ℕ → Type 0) → Fault → Type 0
IsAuditFault config has (Config why) = IsReadOfText config (Err why)
IsAuditFault config has (Record n) =
    ((s : Settings) × IsReadOfText config (Ok s))
    × ((text : List ℕ) × has text × IsWrongLine text n)
IsAuditFault config has (Unfit n) =
    (s : Settings) × IsReadOfText config (Ok s)
    × ((text : List ℕ) × has text × IsUnfit s text n)
IsAuditFault config has Unread = Unit {0}
IsAuditFault config has NoMemory = Unit {0}
IsAuditFault config has _ = ⊥

abbrev pub IsAuditedBy : List ℕ → (past : Log) → (has : List ℕ → Type 0)
    → Result CommandAnswer Fault → Type 0
IsAuditedBy config past has result =
    MatchResult result (IsAuditAnswer config past has) (IsAuditFault config has)
