-- The ends of runs, and of their parts.
use Rattle.std.proofs.Common.{◌≡◌, ◌⊎◌}
use Rattle.gateway.specs.Log.{Log}
use Rattle.gateway.specs.Reports.{Setup}
use Rattle.gateway.specs.Traffic.{IsFaithful}

-- what was printed keeps every promise, or nothing was
module _ {W : Type 0} (first : W) (Begins : Setup → Type 0) where
  abbrev pub SoFar : (out : W) → (poured : Log) → Type 0
  SoFar out poured = (out ≡ first) ⊎ ((p : Setup) → Begins p → IsFaithful p poured)
