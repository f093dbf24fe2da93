-- What came of the capture of a recorded run (this gateway's own profile).
use Rattle.std.specs.Prelude.{◌⊎◌, ℕ, List, Option, Result, Ok, Err, MatchResult}
use Rattle.std.specs.Io.KnownBytes.{Keeps}
use Rattle.record.specs.Texts.{IsPartly, IsWhole, IsWrongRecord}
use Rattle.record.specs.declared.capture.whole.CaptureFault.{CaptureFault}
use Rattle.record.specs.declared.capture.whole.CaptureFault.TheVariants as faults
use Rattle.gateway.specs.Config.{Settings}
use Rattle.ft12.specs.declared.frame.LinkSize.{LinkSize}
use Rattle.settings.specs.Settings.{IsReadOfText}
use Rattle.telegate.specs.declared.fault.Fault.{Fault}
use Rattle.telegate.specs.declared.fault.Fault.TheVariants.{Config, Record, Device, Unread}
use Rattle.telegate.specs.declared.fault.Fault.TheVariants.{NoMemory}

-- why a command stops whose record has no whole capture
abbrev pub fault_of_capture : CaptureFault → Fault
fault_of_capture (faults.Line n) = Record n
fault_of_capture faults.Unread = Unread
fault_of_capture faults.Unwritten = Device
fault_of_capture faults.NoMemory = NoMemory

-- the settings are free of faults, and this holds of a line with their link addresses
pub record OfSettings (config : List ℕ) (IsSo : LinkSize → Type 0) : Type 0 where
  pub settings : Settings
  pub read_config : IsReadOfText config (Ok settings)
  pub so : IsSo settings.line.link

-- The capture of the lines before the first wrong one was written, or a beginning of it. Settings
-- are judged before the record, and before anything is written.
abbrev pub IsFaultOfCapture : (config : List ℕ) → (has : List ℕ → Type 0)
    → (old new : Option (List ℕ)) → Fault → Type 0
IsFaultOfCapture config has old new (Config why) = IsReadOfText config (Err why) × Keeps old new
IsFaultOfCapture config has old new (Record n) =
    OfSettings config (λ size. IsWrongRecord size has n old new)
IsFaultOfCapture config has old new Device =
    OfSettings config (λ size. IsPartly size has old new)
IsFaultOfCapture config has old new Unread =
    Keeps old new ⊎ OfSettings config (λ size. IsPartly size has old new)
IsFaultOfCapture config has old new NoMemory =
    Keeps old new ⊎ OfSettings config (λ size. IsPartly size has old new)
IsFaultOfCapture config has old new _ = ⊥

-- the capture of a record whose octets may be these was written
abbrev pub IsCapturedBy : (config : List ℕ) → (has : List ℕ → Type 0) → (old new : Option (List ℕ))
    → Result (Unit {0}) Fault → Type 0
IsCapturedBy config has old new result =
    MatchResult result (λ done. OfSettings config (λ size. IsWhole size has old new))
    (IsFaultOfCapture config has old new)
