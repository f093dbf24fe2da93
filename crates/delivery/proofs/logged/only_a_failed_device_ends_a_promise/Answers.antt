use Rattle.std.proofs.Common.{◌≡◌, Option, refl}
use Rattle.std.specs.Prelude.{IfSome}
use Rattle.gateway.specs.Log.{Log}
use Rattle.gateway.specs.Reports.{Setup}
use Rattle.gateway.specs.Runs.{UnlessDevice}
use Rattle.gateway.specs.Traffic.{HasRested}
use Rattle.gateway.specs.declared.runs.End.{End}
use Rattle.gateway.specs.declared.runs.End.TheVariants.{Finished, Turns, Device}
use Rattle.delivery.proofs.logged.only_a_failed_device_ends_a_promise.Goals as goal

promised : (end : End) (p : Setup) (log : Option Log) → (end ≡ Device → ⊥)
    → UnlessDevice end (IfSome log (HasRested p)) → IfSome log (HasRested p)
promised Finished p log other holds = holds
promised Turns p log other holds = holds
promised Device p log other holds = absurd (other refl)

pub returns : goal.returns
returns c = record {
  promised = λ end p log other holds. promised end p log other holds;
  told = (refl, refl, refl, refl, refl);
}
