-- The answer to a capture.
use Rattle.std.proofs.Common.{◌≡◌, ℕ, List, Option, inl, inr, subst}
use Rattle.std.specs.Prelude.{Ok, Err}
use Rattle.record.specs.Texts.{IsCaptureFault, IsCaptured}
use Rattle.record.specs.declared.capture.whole.CaptureFault.{CaptureFault}
use Rattle.record.specs.declared.capture.whole.CaptureFault.TheVariants as faults
use Rattle.record.proofs.WholeLemmas.{captured_as}
use Rattle.ft12.specs.declared.frame.LinkSize.{LinkSize}
use Rattle.gateway.specs.Config.{Settings}
use Rattle.settings.specs.Settings.{IsReadOfText}
use Rattle.telegate.specs.Captures.{IsCapturedBy, IsFaultOfCapture, fault_of_capture}
use Rattle.telegate.specs.Parts.{IsWant}
use Rattle.telegate.specs.Source.{Gives}
use Rattle.telegate.specs.declared.fault.Fault.{Fault}
use Rattle.telegate.specs.declared.fault.Fault.TheVariants.{Unread, NoMemory}
use Rattle.telegate.proofs.Kept.{keeps_same}

-- a record can't be read, or memory was refused, before anything was written
pub unopened : (config : List ℕ) (has : List ℕ → Type 0) (known : Option (List ℕ))
    (fault : Fault) → IsWant fault → IsCapturedBy config has known known (Err fault)
unopened config has known NoMemory want = inl (keeps_same known)
unopened config has known Unread want = inl (keeps_same known)
unopened config has known other want = absurd want

module _ (config : List ℕ) (has : List ℕ → Type 0) (settings : Settings) (size : LinkSize)
    (known : Option (List ℕ)) (old new : Option (List ℕ)) (read : IsReadOfText config (Ok settings))
    (holds : (octets : List ℕ) → Gives known octets → has octets)
    (same : size ≡ settings.line.link) where
  -- the capture was written
  pub captured : IsCaptured size (Gives known) old new (Ok tt)
      → IsCapturedBy config has old new (Ok tt)
  captured h = record {
    settings = settings;
    read_config = read;
    so = subst (λ (s : LinkSize). IsCaptured s has old new (Ok tt)) same
        (captured_as size (Gives known) has old new (Ok tt) holds h);
  }

  -- or it was not
  pub uncaptured : (fault : CaptureFault) → IsCaptureFault size (Gives known) old new fault
      → IsFaultOfCapture config has old new (fault_of_capture fault)
  uncaptured fault h = by fault (subst (λ (s : LinkSize). IsCaptured s has old new (Err fault)) same
      (captured_as size (Gives known) has old new (Err fault) holds h))
    where
      by : (fault : CaptureFault) → IsCaptureFault settings.line.link has old new fault
          → IsFaultOfCapture config has old new (fault_of_capture fault)
      by (faults.Line n) so = record { settings = settings; read_config = read; so = so }
      by faults.Unread so = inr (record { settings = settings; read_config = read; so = so })
      by faults.Unwritten so = record { settings = settings; read_config = read; so = so }
      by faults.NoMemory so = inr (record { settings = settings; read_config = read; so = so })
