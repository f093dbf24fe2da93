-- What a start logs, note by note.
use Rattle.std.proofs.Common.{◌≡◌, ◌++◌, ℕ, Bool, List, [], ◌∷◌, Option, Some, None, map, subst}
use Rattle.std.proofs.Common.{sym}
use Rattle.runlog.specs.Logging.{Book}
use Rattle.runlog.specs.declared.note.Note.{Note}
use Rattle.state.specs.declared.beginning.Origin.{Origin}
use Rattle.state.specs.declared.start.Beginning.{Beginning}
use Rattle.state.specs.StartNotes.{note_of, note_of_damage, note_of_given_up, note_of_settings}
use Rattle.telegate.specs.Law.{LogsAll}
use Rattle.telegate.specs.Logged.{LogsBeginning, LogsGap, LogsNoteIf, note_if_on}

-- a note, if there is one
abbrev pub notes_in : Option Note → List Note
notes_in None = []
notes_in (Some note) = note ∷ []

one_more : (note : Option Note) (notes : List Note) (old mid new : Book)
    → LogsNoteIf note old mid → LogsAll notes mid new → LogsAll (notes_in note ++ notes) old new
one_more None notes old mid new same others =
    subst (λ (book : Book). LogsAll notes book new) same others
one_more (Some note) notes old mid new logs others = (mid, logs, others)

no_gap : (moment : Option ℕ) (old new : Book) → LogsGap moment None old new → new ≡ old
no_gap None old new same = same
no_gap (Some moment) old new same = same

-- all that is logged if no gap is reported
pub logs_start : (o : Origin) (damage : Option ℕ) (beginning : Beginning) (moved : Bool)
    (moment : Option ℕ) (old new : Book) → LogsBeginning o old new → o.damage ≡ damage
    → o.beginning ≡ beginning → o.is_moved ≡ moved → o.moment ≡ moment → o.gap ≡ None
    → LogsAll (notes_in (note_of_damage damage) ++ (notes_in (note_of beginning)
    ++ (notes_in (note_of_settings moved)
    ++ (notes_in (note_if_on moment o.gateway) ++ map note_of_given_up o.given_up.items)))) old new
logs_start o damage beginning moved moment old new logs is_hurt is_so is_moved is_at none =
    let given_up : List Note = map note_of_given_up o.given_up.items in
    let gap : LogsGap o.moment None logs.named new =
    subst (λ (g : Option (ℕ × ℕ)). LogsGap o.moment g logs.named new) none logs.gap in
    one_more (note_of_damage damage) (notes_in (note_of beginning)
    ++ (notes_in (note_of_settings moved)
    ++ (notes_in (note_if_on moment o.gateway) ++ given_up))) old logs.told new
    (subst (λ (d : Option ℕ). LogsNoteIf (note_of_damage d) old logs.told) is_hurt logs.damage)
    (one_more (note_of beginning) (notes_in (note_of_settings moved)
    ++ (notes_in (note_if_on moment o.gateway) ++ given_up)) logs.told logs.begun new
    (subst (λ (b : Beginning). LogsNoteIf (note_of b) logs.told logs.begun) is_so logs.begins)
    (one_more (note_of_settings moved) (notes_in (note_if_on moment o.gateway) ++ given_up)
    logs.begun logs.moved new
    (subst (λ (b : Bool). LogsNoteIf (note_of_settings b) logs.begun logs.moved) is_moved
    logs.settings)
    (one_more (note_if_on moment o.gateway) given_up logs.moved logs.noted new
    (subst (λ (m : Option ℕ). LogsNoteIf (note_if_on m o.gateway) logs.moved logs.noted) is_at
    logs.goes_on)
    (subst (λ (book : Book). LogsAll given_up logs.noted book)
    (sym (no_gap o.moment logs.named new gap)) logs.gives_up))))
