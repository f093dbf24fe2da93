-- The answer to an audit.
use Rattle.std.specs.Prelude.{ℕ, List, Option, Result, Ok, Err, MatchResult}
use Rattle.record.specs.Audit.{IsAudit, IsAuditFault, OfGiven}
use Rattle.record.specs.declared.audit.RecordFault.{RecordFault}
use Rattle.record.specs.declared.audit.RecordFault.TheVariants as faults
use Rattle.record.specs.declared.audit.Comparison.{Comparison}
use Rattle.gateway.specs.Config.{Settings}
use Rattle.gateway.specs.Log.{Log}
use Rattle.settings.specs.Settings.{IsReadOfText}
use Rattle.telegate.specs.Audits.{IsComparisonAnswer, IsMemory, IsAuditedBy, fault_of_lem}
use Rattle.telegate.specs.Audits as audits
use Rattle.telegate.specs.Source.{Gives}
use Rattle.telegate.specs.declared.answer.CommandAnswer.{CommandAnswer}
use Rattle.telegate.specs.declared.fault.Fault.{Fault}
use Rattle.telegate.specs.declared.fault.Fault.TheVariants.{Unread, NoMemory}

module _ (config : List ℕ) (past : Log) (has : List ℕ → Type 0) (settings : Settings)
    (known : Option (List ℕ))
    (read : IsReadOfText config (Ok settings)) (holds : (octets : List ℕ) → Gives known octets
    → has octets) where
  -- the answer to the command, if its files were read
  pub audited : (comparison : Comparison) (r : Result CommandAnswer Fault)
      → OfGiven known (λ text. IsAudit settings past text comparison)
      → MatchResult r (IsComparisonAnswer comparison) IsMemory → IsAuditedBy config past has r
  audited comparison (Ok answer) found answered = record {
    settings = settings;
    text = found.text;
    comparison = comparison;
    read_config = read;
    is = holds found.text found.given;
    audited = found.so;
    answered = answered;
  }
  audited comparison (Err NoMemory) found answered = tt
  audited comparison (Err other) found answered = absurd answered

  -- or there is no comparison
  pub unaudited : (fault : RecordFault) → IsAuditFault settings known fault
      → audits.IsAuditFault config has (fault_of_lem fault)
  unaudited (faults.Line n) wrong =
      ((settings, read), (wrong.text, holds wrong.text wrong.given, wrong.so))
  unaudited (faults.Unfit n) wrong =
      (settings, read, (wrong.text, holds wrong.text wrong.given, wrong.so))
  unaudited faults.Unread wrong = tt
  unaudited faults.NoMemory wrong = tt
