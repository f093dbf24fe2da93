-- What a restart makes of the works.
use Rattle.std.proofs.Common.{◌≡◌, ℕ, zero, suc, Bool, true, false, refl, ap, ◌∙◌, length}
use Rattle.std.specs.Prelude.{if◌then◌else◌}
use Rattle.link.specs.Carried.{awaits_command}
use Rattle.gateway.specs.Carried.{link_given_up, command_given_up, commands_given_up_upto}
use Rattle.gateway.specs.Carried.{without_commands}
use Rattle.gateway.specs.Works.{Works, link_given_up_works}
use Rattle.gateway.specs.Works.{commands_given_up_works_upto, restarted_works, unasked_works}
use Rattle.gateway.specs.Works.{settled_works, done_works}
use Rattle.gateway.specs.Works.{doubted_works}
use Rattle.gateway.specs.Carried.{doubted_serial}

-- what each link that is given up keeps is kept by a restart
pub kept_over : (P : Works → Type 0)
    → ((station : ℕ) (w : Works) → P w → P (link_given_up_works station w))
    → ((w : Works) → P w → P (doubted_works w)) → (w : Works) → P w
    → P (restarted_works w)
kept_over P one doubts w h = doubts _ (upto (length w.serial.line.stations))
  where
    by_awaited : (b : Bool) (station : ℕ) (w : Works) → P w
        → P (if b then link_given_up_works station w else w)
    by_awaited true station w h = one station w h
    by_awaited false station w h = h

    upto : (count : ℕ) → P (commands_given_up_works_upto count w)
    upto zero = h
    upto (suc k) =
        let so_far : Works = commands_given_up_works_upto k w in
        by_awaited (awaits_command so_far.serial.line k) k so_far (upto k)

-- the line's side is that of a gateway that gives up each command without an answer
pub restarted_serial : (w : Works) → (restarted_works w).serial ≡ without_commands w.serial
restarted_serial w = ap doubted_serial (upto (length w.serial.line.stations))
  where
    one : (b : Bool) (station : ℕ) (w : Works)
        → (if b then link_given_up_works station w else w).serial
        ≡ (if b then link_given_up station w.serial else w.serial)
    one true station w = refl
    one false station w = refl

    upto : (count : ℕ)
        → (commands_given_up_works_upto count w).serial ≡ commands_given_up_upto count w.serial
    upto zero = refl
    upto (suc k) =
        let so_far : Works = commands_given_up_works_upto k w in
        one (awaits_command so_far.serial.line k) k so_far ∙ ap (command_given_up k) (upto k)

pub restarted_due : (w : Works) → (restarted_works w).is_due ≡ w.is_due
restarted_due w = kept_over (λ v. v.is_due ≡ w.is_due) (λ station v h. h) (λ v h. h) w refl

pub restarted_silent : (w : Works) → (restarted_works w).serial.silent ≡ w.serial.silent
restarted_silent w = kept_over (λ v. v.serial.silent ≡ w.serial.silent) (λ station v h. h)
    (λ v h. h) w refl

pub restarted_gap : (w : Works) → (restarted_works w).serial.gap ≡ w.serial.gap
restarted_gap w = kept_over (λ v. v.serial.gap ≡ w.serial.gap) (λ station v h. h) (λ v h. h) w refl

-- the step before leaves nothing due
pub done_due : (at : ℕ) (room : Bool) (w : Works) → (done_works at room w).is_due ≡ false
done_due at room w = by_due w.is_due refl
  where
    by_due : (b : Bool) → w.is_due ≡ b
        → (if b then unasked_works at room (settled_works at w) else w).is_due ≡ false
    by_due true e = refl
    by_due false e = e
