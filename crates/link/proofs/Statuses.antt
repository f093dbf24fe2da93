-- What may be said to the requests that start a link, and what is ready behind them.
use Rattle.std.specs.Prelude.{◌==◌}
use Rattle.std.proofs.Common.{◌≡◌, ℕ, suc, ◌≤◌, ◌&&◌, ◌||◌, ◌%◌, nat_lt, Bool, true, false}
use Rattle.std.proofs.Common.{Option}
use Rattle.std.proofs.Common.{Some, None, refl, ap, subst, ◌∙◌, arith, if◌then◌else◌}
use Rattle.std.proofs.lemmas.Bool.{leb-true}
use Rattle.link.specs.Answers.{Frame, Single, Fixed, Data, Service, Asked, Status, Reset, Counted}
use Rattle.link.specs.Answers.{Answer, Ready, Confirmed, Busy, Report, NoData, Unable, answer_of}
use Rattle.link.specs.Answers.{comes_from}
use Rattle.link.specs.Procedure.{LinkSettings, Link, Down, Held}
use Rattle.link.specs.Procedure.{after_answer, after_silence, held, has_repeats, missed_so_far}
use Rattle.link.specs.Turns.{Phase, Over}
use Rattle.link.specs.Primary.{phase_after}
use Rattle.link.specs.Visits.{Left}
use Rattle.link.proofs.Visiting.{Awaits}
use Rattle.link.proofs.Visiting.{HasPlan, IsReady, over, starting, serving}
use Rattle.link.specs.Procedure.{Available, Next, Probed, probed_so_far, is_kept, spent_silence}
use Rattle.link.specs.Procedure.{short_silence}

-- what may be said to the requests that start a link
abbrev pub SaysToStatus : Option Answer → Type 0
SaysToStatus None = Unit {0}
SaysToStatus (Some Ready) = Unit {0}
SaysToStatus (Some Unable) = Unit {0}
SaysToStatus (Some answer) = ⊥

record FitsStatus (m : Option Answer) : Type 0 where
  pub fits : SaysToStatus m

either_status : (b : Bool) (m n : Option Answer) → FitsStatus m → FitsStatus n
    → FitsStatus (if b then m else n)
either_status true m n p q = p
either_status false m n p q = q

no_status : FitsStatus None
no_status = record { fits = tt }

ready_status : FitsStatus (Some Ready)
ready_status = record { fits = tt }

unable_status : FitsStatus (Some Unable)
unable_status = record { fits = tt }

status_fits : (a : ℕ) (frame : Frame) → FitsStatus (answer_of a Status frame)
status_fits a Single = no_status
status_fits a (Fixed control address) =
    either_status (comes_from a control address) _ _
    (either_status (control % 16 == 11) _ _ ready_status
    (either_status ((control % 16 == 14) || (control % 16 == 15)) _ _ unable_status no_status))
    no_status
status_fits a (Data control address body) = either_status (comes_from a control address
    && (control % 16 == 8)) _ _ no_status no_status

over_after : (answer : Answer) → phase_after answer Over ≡ Over
over_after Ready = refl
over_after Confirmed = refl
over_after Busy = refl
over_after (Report asdu) = refl
over_after NoData = refl
over_after Unable = refl

served_ready : (settings : LinkSettings) (answer : Answer) (phase : Phase) (link : Link)
    (left : Left)
    → HasPlan settings.burst phase left.plan →
    IsReady settings false (phase_after answer phase) link left
served_ready settings Unable phase link left plan = over refl refl
served_ready settings Ready phase link left plan = serving plan (λ again. cc)
served_ready settings Confirmed phase link left plan = serving plan (λ again. cc)
served_ready settings Busy phase link left plan = serving plan (λ again. cc)
served_ready settings (Report asdu) phase link left plan = serving plan (λ again. cc)
served_ready settings NoData phase link left plan = serving plan (λ again. cc)

pub answered_ready : (settings : LinkSettings) (a : ℕ) (request : Asked) (frame : Frame)
    (answer : Answer) (phase : Phase)
    (link : Link) (left : Left) →
    answer_of a request frame ≡ Some answer → Awaits settings request phase link left →
    IsReady settings false (phase_after answer phase) (after_answer request answer link) left
answered_ready settings a Status frame answer phase link left is aw =
    go answer (subst (λ (m : Option Answer). FitsStatus m) is (status_fits a frame)).fits
  where
    ready : (link : Link) → Awaits settings Status phase link left
        → IsReady settings false phase (after_answer Status Ready link) left
    ready Down aw = starting aw.0 aw.1
    ready Available aw = starting aw.0 aw.1
    ready (Next fcb) aw = starting aw.0 aw.1
    ready (Held fcb service silence) aw = over aw refl

    go : (answer : Answer) → SaysToStatus (Some answer)
        → IsReady settings false (phase_after answer phase) (after_answer Status answer link) left
    go Ready fits = ready link aw
    go Unable fits = over refl refl
    go other fits = absurd fits
answered_ready settings a Reset frame answer phase link left is aw =
    over (ap (λ (f : Phase). phase_after answer f) aw ∙ over_after answer) refl
answered_ready settings a (Counted fcb service) frame answer phase link left is aw =
    served_ready settings answer phase (after_answer (Counted fcb service) answer link) left aw.0

held_repeats : (settings : LinkSettings) (fcb : Bool) (service : Service) (missed : ℕ)
    (probed : Probed)
    → has_repeats settings (held settings fcb service missed probed) ≡ true →
    (missed_so_far (held settings fcb service missed probed) ≡ missed)
    × (missed ≤ settings.retries)
held_repeats settings fcb service missed probed =
    go (nat_lt settings.retries missed) (is_kept settings probed)
  where
    go : (b hold : Bool) →
        has_repeats settings (if b then (if hold then Held fcb service
        (spent_silence settings probed) else Down) else Held fcb
        service (short_silence missed probed)) ≡ true →
        (missed_so_far (if b then (if hold then Held fcb service (spent_silence settings probed)
        else Down) else Held fcb
        service (short_silence missed probed)) ≡ missed)
        × (missed ≤ settings.retries)
    go true true e = cc
    go true false e = cc
    go false hold e = (refl, leb-true missed settings.retries e)

pub missed_ready : (settings : LinkSettings) (request : Asked) (phase : Phase) (link : Link)
    (left : Left)
    → Awaits settings request phase link left →
    IsReady settings (has_repeats settings (after_silence settings request true link))
    (if has_repeats settings (after_silence settings request true link) then phase else Over)
    (after_silence settings request true link) left
missed_ready settings Status phase Down left aw = over refl refl
missed_ready settings Status phase Available left aw = over refl refl
missed_ready settings Status phase (Next fcb) left aw = over refl refl
missed_ready settings Status phase (Held fcb service silence) left aw = over refl refl
missed_ready settings Reset phase link left aw = over refl refl
missed_ready settings (Counted fcb service) phase link left aw =
    go (has_repeats settings (held settings fcb service (suc (missed_so_far link))
    (probed_so_far link))) refl
  where
    go : (b : Bool) → has_repeats settings (held settings fcb service (suc (missed_so_far link))
        (probed_so_far link)) ≡ b →
        IsReady settings b (if b then phase
        else Over) (held settings fcb service (suc (missed_so_far link)) (probed_so_far link)) left
    go false e = over refl refl
    go true e =
        let h = held_repeats settings fcb service (suc (missed_so_far link)) (probed_so_far link)
        e in
        serving aw.0 (λ again. record {
          left_over = e;
          more = omega (arith, h.0, h.1);
          enough =
              omega (arith, h.0, aw.1);
        })
