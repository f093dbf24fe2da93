-- A sign that concerns no selection changes none.
use Rattle.std.proofs.Common.{◌≡◌, ℕ, ◌&&◌, ◌||◌, Bool, true, false, not, List, [], ◌∷◌, refl, sym}
use Rattle.std.proofs.Common.{ap, ◌∙◌}
use Rattle.std.specs.Prelude.{◌==◌, Option, Some, if◌then◌else◌}
use Rattle.std.specs.List.{filter_map, list_any, cons_option}
use Rattle.command.specs.Selection.{advanced, after_sending, after_acceptance, after_loss, heeds}
use Rattle.command.specs.Selection.{is_accepted}
use Rattle.command.specs.State.{State, heeded}
use Rattle.command.specs.declared.selection.Selection.{Selection}
use Rattle.command.specs.declared.selection.SelectStage.{SelectStage}
use Rattle.command.specs.declared.selection.SelectStage.TheVariants.{Queued, Sent, Accepted, Live}
use Rattle.command.specs.declared.selection.Sign.{Sign}
use Rattle.command.specs.declared.selection.Sign.TheVariants as sign

-- a step of the line changes nothing of a selection that its station accepted
accepted_stays : (f : SelectStage → Selection → Option Selection)
    → ((z : Selection) → f Accepted z ≡ Some z)
    → ((since : ℕ) (z : Selection) → f (Live since) z ≡ Some z)
    → (z : Selection) (here : Bool) (stage : SelectStage)
    → (here && not (is_accepted stage)) ≡ false → (if here then f stage z else Some z) ≡ Some z
accepted_stays f at live z false stage e = refl
accepted_stays f at live z true (Queued ahead) e = absurd (let no : ⊥ = cc in no)
accepted_stays f at live z true Sent e = absurd (let no : ⊥ = cc in no)
accepted_stays f at live z true Accepted e = at z
accepted_stays f at live z true (Live since) e = live since z

pub unheeded_stays : (ms : ℕ) (what : Sign) (z : Selection) → heeds ms what z ≡ false
    → advanced ms what z ≡ Some z
unheeded_stays ms (sign.Sending station) z e =
    accepted_stays after_sending (λ z. refl) (λ since z. refl) z (z.station == station) z.stage e
unheeded_stays ms (sign.Acceptance station) z e =
    accepted_stays after_acceptance (λ z. refl) (λ since z. refl) z (z.station == station) z.stage e
unheeded_stays ms (sign.Loss station) z e =
    accepted_stays after_loss (λ z. refl) (λ since z. refl) z (z.station == station) z.stage e
unheeded_stays ms (sign.Over target) z e = rw e refl
unheeded_stays ms (sign.Con target element now) z e = rw e refl
unheeded_stays ms (sign.Time now) z e = rw e refl

neither : (a b : Bool) → (a || b) ≡ false → (a ≡ false) × (b ≡ false)
neither true b e = absurd (let no : ⊥ = cc in no)
neither false b e = (refl, e)

unheeded : (ms : ℕ) (what : Sign) (zs : List Selection) → list_any (heeds ms what) zs ≡ false
    → filter_map (advanced ms what) zs ≡ zs
unheeded ms what [] e = refl
unheeded ms what (z ∷ zs) e =
    let parts = neither (heeds ms what z) (list_any (heeds ms what) zs) e in
    ap (λ (o : Option Selection). cons_option o (filter_map (advanced ms what) zs))
    (unheeded_stays ms what z parts.0)
    ∙ ap (λ (ys : List Selection). z ∷ ys) (unheeded ms what zs parts.1)

pub unheeded_logged : (what : Sign) (s : State) → list_any (heeds s.select_ms what) s.selections
    ≡ false
    → s ≡ heeded what s
unheeded_logged what s e =
    ap (λ (zs : List Selection). record s { selections = zs })
    (sym (unheeded s.select_ms what s.selections e))
