-- A close shuts the connection.
use Rattle.std.proofs.Common.{◌≡◌, ◌≢◌, ℕ, None, [], false, refl, ap, ◌∙◌}
use Rattle.gateway.specs.Log.{Closed}
use Rattle.session.specs.declared.kinds.Close.{Close}
use Rattle.session.specs.declared.kinds.Close.TheVariants as close
use Rattle.live.specs.Ends.{LiveEnds, LogsPut, closed_by}

Shut : LiveEnds → Type 0
Shut e = (e.connection ≡ None) × (e.held ≡ []) × (e.is_cut_due ≡ false)

shut_by : (cause : Close) (e : LiveEnds) → cause ≢ close.Replaced → Shut (closed_by cause e)
unfolding Shut
shut_by close.Grammar e other = (refl, refl, refl)
shut_by close.SendNumber e other = (refl, refl, refl)
shut_by close.ReceiveNumber e other = (refl, refl, refl)
shut_by close.Stopped e other = (refl, refl, refl)
shut_by close.Timeout e other = (refl, refl, refl)
shut_by close.OwnAnswers e other = (refl, refl, refl)
shut_by close.Replaced e other = absurd (other refl)

pub shut : (old new : LiveEnds) (moment : ℕ) (cause : Close) → LogsPut old moment (Closed cause) new
    → cause ≢ close.Replaced → (new.connection ≡ None) × (new.held ≡ []) × (new.is_cut_due ≡ false)
unfolding Shut
shut old new moment cause l other =
    let here = shut_by cause old other in
    let done = l.puts.done in (
      ap (λ (e : LiveEnds). e.connection) done ∙ here.0,
      ap (λ (e : LiveEnds). e.held) done ∙ here.1,
      ap (λ (e : LiveEnds). e.is_cut_due) done ∙ here.2,
    )
