-- A frame without fault is taken, and its ASDU judged with the wall clock of the state before.
use Rattle.std.proofs.Common.{◌≡◌, Bool, true, false, refl, ap, sym, ◌∙◌, subst, inr, Option, Some}
use Rattle.std.proofs.Common.{None}
use Rattle.std.specs.Prelude.{if◌then◌else◌}
use Rattle.apci.specs.declared.apdu.Apdu.{Apdu}
use Rattle.apci.specs.declared.apdu.Apdu.TheVariants as apdus
use Rattle.session.specs.declared.kinds.Close.{Close}
use Rattle.session.specs.declared.kinds.Close.TheVariants.{OwnAnswers}
use Rattle.session.specs.declared.kinds.Close.TheVariants as closes
use Rattle.session.specs.declared.kinds.Taken.TheVariants as taken
use Rattle.session.specs.Session.{outcome_of, is_close}
use Rattle.gateway.specs.Serial.{judged, has_place}
use Rattle.gateway.specs.State.{State, wall_now, with_serial, received, framed}
use Rattle.gateway.specs.Steps.{Judged}

by_place : (b : Bool) (s t : State) (f : Apdu) (o : Option Close)
    → has_place f s.moment (wall_now s) s.serial.commands ≡ b
    → is_close (outcome_of s.centre.session f) ≡ false
    → t ≡ framed f s → o ≡ (if b then None else Some OwnAnswers) → Judged s f o t
by_place true s t f o place passes after is = subst (λ x. Judged s f x t) (sym is)
    (record { passes = passes; place = place; after = after })
by_place false s t f o place passes after is = subst (λ x. Judged s f x t) (sym is)
    (inr (refl, record { passes = passes; place = place; after = after }))

pub taken_judged : (s m t : State) (f : Apdu) (o : Option Close)
    → is_close (outcome_of s.centre.session f) ≡ false
    → m ≡ received f s →
    t ≡ with_serial (judged f m.moment (wall_now m) m.serial) m
    → o ≡ (if has_place f m.moment (wall_now m) m.serial.commands then None else Some OwnAnswers)
    → Judged s f o t
taken_judged s m t f o passes is after close =
    by_place (has_place f s.moment (wall_now s) s.serial.commands) s t f o refl passes
    (after ∙ ap (λ (x : State). with_serial (judged f x.moment (wall_now x) x.serial) x) is)
    (close ∙ ap (λ (x : State). if has_place f x.moment (wall_now x) x.serial.commands then None
    else Some OwnAnswers)
    is)

-- a frame that leads to nothing has no ASDU, and there is nothing to judge
pub nothing_judged : (s m : State) (f : Apdu) → outcome_of s.centre.session f ≡ taken.Nothing
    → m ≡ received f s
    → Judged s f None m
nothing_judged s m (apdus.I ns nr asdu) passes is = absurd (leads _ _ _ passes)
  where
    leads : (stopped other late : Bool)
        → (if stopped then taken.Close closes.Stopped
        else (if other then taken.Close closes.SendNumber
        else (if late then taken.Close closes.ReceiveNumber else taken.Asdu))) ≡ taken.Nothing → ⊥
    leads true other late e = cc
    leads false true late e = cc
    leads false false true e = cc
    leads false false false e = cc
nothing_judged s m (apdus.S nr) passes is =
    taken_judged s m m (apdus.S nr) None (ap is_close passes) is refl refl
nothing_judged s m (apdus.U function) passes is =
    taken_judged s m m (apdus.U function) None (ap is_close passes) is refl refl
