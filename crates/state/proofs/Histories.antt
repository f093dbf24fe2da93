-- What holds of each history, deed by deed.
use Rattle.std.proofs.Common.{◌≡◌, ◌+◌, ◌-◌, ◌<◌, Bool, true, false, [], ◌∷◌, ◌++◌, None, Some}
use Rattle.std.proofs.Common.{refl, sym}
use Rattle.std.proofs.Common.{ap, ◌∙◌, ◌⊎◌, inl, inr, arith}
use Rattle.std.specs.Option.{is_some}
use Rattle.gateway.specs.Log.{Log, LogEntry}
use Rattle.state.specs.Deeds.{Deed, Deeds, AreRight, IsAllOnDisk, IsSafe, MayBe, Received, Appended}
use Rattle.state.specs.Deeds.{Synced, Begun, GivenUp, PutOut, IsInTime, appended, arrived, is_kept}
use Rattle.state.specs.Deeds.{loss_of}
use Rattle.state.specs.declared.loss.Loss.TheVariants.{Marked}
use Rattle.state.specs.Deeds.{moment_of, oldest, on_disk, span, waiting, written}
use Rattle.state.specs.Keeping.{IsOrderly}
use Rattle.state.specs.Stores.{led_to_head, safe}
use Rattle.state.specs.declared.standing.Standing.{Standing}

-- a deed might be done when it was
pub might_be : (bears : Bool) (later earlier : Deeds) (deed : Deed)
    → AreRight bears (later ++ deed ∷ earlier)
    → MayBe bears deed earlier
might_be bears [] earlier deed right = right.0
might_be bears (other ∷ later) earlier deed right = might_be bears later earlier deed right.1

safely : (bears : Bool) (action : LogEntry) (deeds : Deeds) → MayBe bears (PutOut action) deeds
    → IsSafe deeds
safely bears action deeds (inl disk) = inl disk
safely bears action deeds (inr lost) = inr lost.0

strictly : (action : LogEntry) (deeds : Deeds) → MayBe false (PutOut action) deeds
    → IsAllOnDisk deeds
strictly action deeds (inl disk) = disk
strictly action deeds (inr lost) = let no : false ≡ true = lost.1 in absurd (cc)

pub put_safely : (bears : Bool) (later earlier : Deeds) (action : LogEntry)
    → AreRight bears (later ++ PutOut action ∷ earlier) → IsSafe earlier
put_safely bears later earlier action right =
    safely bears action earlier (might_be bears later earlier _ right)

pub put_strictly : (later earlier : Deeds) (action : LogEntry)
    → AreRight false (later ++ PutOut action ∷ earlier) → IsAllOnDisk earlier
put_strictly later earlier action right =
    strictly action earlier (might_be false later earlier _ right)

-- how long the first of those that wait was there when the last came
oldest_is : (newest first : LogEntry) (between : Log) → oldest newest (between ++ first ∷ [])
    ≡ moment_of first
oldest_is newest first [] = refl
oldest_is newest first (event ∷ between) = oldest_is event first between

in_time : (earlier : Deeds) → IsInTime earlier → loss_of earlier ≡ None
    → span (waiting earlier) < 1000
in_time earlier (inl lost) none =
    let no : false ≡ true = sym (ap is_some none) ∙ lost in absurd (cc)
in_time earlier (inr soon) none = soon

pub waits_shortly : (bears : Bool) (later earlier : Deeds) (event first last : LogEntry)
    (between : Log)
    → AreRight bears (later ++ Received event ∷ earlier) → loss_of earlier ≡ None
    → waiting earlier ≡ last ∷ (between ++ first ∷ [])
    → moment_of last < moment_of first + 1000
waits_shortly bears later earlier event first last between right none waits =
    let soon = in_time earlier (might_be bears later earlier _ right) none in
    let span_is : span (waiting earlier) ≡ moment_of last - moment_of first =
    ap span waits ∙ ap (λ n. moment_of last - n) (oldest_is last first between) in
    omega (arith, soon, span_is)

pub all_appended : (deeds : Deeds) → appended deeds ≡ written deeds ++ led_to_head deeds
all_appended [] = refl
all_appended (Received event ∷ deeds) = all_appended deeds
all_appended (Appended event ∷ deeds) = ap (λ log. event ∷ log) (all_appended deeds)
all_appended (Synced ∷ deeds) = all_appended deeds
all_appended (Begun state ∷ deeds) = refl
all_appended (GivenUp fault loss ∷ deeds) = all_appended deeds
all_appended (PutOut action ∷ deeds) = all_appended deeds

pub all_on_disk : (deeds : Deeds) → on_disk deeds ≡ safe deeds ++ led_to_head deeds
all_on_disk [] = refl
all_on_disk (Received event ∷ deeds) = all_on_disk deeds
all_on_disk (Appended event ∷ deeds) = all_on_disk deeds
all_on_disk (Synced ∷ deeds) = all_appended deeds
all_on_disk (Begun state ∷ deeds) = refl
all_on_disk (GivenUp fault loss ∷ deeds) = all_on_disk deeds
all_on_disk (PutOut action ∷ deeds) = all_on_disk deeds

pub all_written : (deeds : Deeds) → written deeds ≡ waiting deeds ++ safe deeds
all_written [] = refl
all_written (Received event ∷ deeds) = all_written deeds
all_written (Appended event ∷ deeds) = ap (λ log. event ∷ log) (all_written deeds)
all_written (Synced ∷ deeds) = refl
all_written (Begun state ∷ deeds) = refl
all_written (GivenUp fault loss ∷ deeds) = all_written deeds
all_written (PutOut action ∷ deeds) = all_written deeds

-- the events that were received, each in its order
pub all_arrived : (later earlier : Deeds) (event : LogEntry)
    → arrived (later ++ Received event ∷ earlier) ≡ arrived later ++ event ∷ arrived earlier
all_arrived [] earlier event = refl
all_arrived (Received other ∷ later) earlier event =
    ap (λ log. other ∷ log) (all_arrived later earlier event)
all_arrived (Appended other ∷ later) earlier event = all_arrived later earlier event
all_arrived (Synced ∷ later) earlier event = all_arrived later earlier event
all_arrived (Begun state ∷ later) earlier event = all_arrived later earlier event
all_arrived (GivenUp fault loss ∷ later) earlier event = all_arrived later earlier event
all_arrived (PutOut action ∷ later) earlier event = all_arrived later earlier event

-- if they are on the disk
on_it : (deeds : Deeds) → IsAllOnDisk deeds
    → (is_kept deeds ≡ true) × (arrived deeds ≡ safe deeds ++ led_to_head deeds)
on_it deeds disk = (disk.0, sym disk.1 ∙ all_on_disk deeds)

pub put_on_disk : (later earlier : Deeds) (action : LogEntry)
    → AreRight false (later ++ PutOut action ∷ earlier)
    → (is_kept earlier ≡ true) × (arrived earlier ≡ safe earlier ++ led_to_head earlier)
put_on_disk later earlier action right = on_it earlier (put_strictly later earlier action right)

pub put_if_borne : (later earlier : Deeds) (action : LogEntry)
    → AreRight true (later ++ PutOut action ∷ earlier)
    → ((is_kept earlier ≡ true) × (arrived earlier ≡ safe earlier ++ led_to_head earlier))
    ⊎ (loss_of earlier ≡ Some Marked)
put_if_borne later earlier action right = elim (put_safely true later earlier action right) [
  | inl disk ↦ inl (on_it earlier disk)
  | inr lost ↦ inr lost
]

-- what a keeper says of its history
kept_or_borne : (bears : Bool) (action : LogEntry) (deeds : Deeds)
    → MayBe bears (PutOut action) deeds
    → ((is_kept deeds ≡ true) × (arrived deeds ≡ safe deeds ++ led_to_head deeds))
    ⊎ ((loss_of deeds ≡ Some Marked) × (bears ≡ true))
kept_or_borne bears action deeds (inl disk) = inl (on_it deeds disk)
kept_or_borne bears action deeds (inr lost) = inr lost

pub put_by_keeper : (bears : Bool) (standing : Standing) (later earlier : Deeds) (action : LogEntry)
    → IsOrderly bears standing (later ++ PutOut action ∷ earlier)
    → ((is_kept earlier ≡ true) × (arrived earlier ≡ safe earlier ++ led_to_head earlier))
    ⊎ ((loss_of earlier ≡ Some Marked) × (bears ≡ true))
put_by_keeper bears standing later earlier action orderly =
    kept_or_borne bears action earlier (might_be bears later earlier _ orderly.right)
