-- What a live run begins with.
use Rattle.std.proofs.Common.{◌≡◌, ◌++◌, ℕ, List, [], Option, Some, None, refl, sym, ap, subst, ◌∙◌}
use Rattle.gateway.specs.Log.{Log}
use Rattle.record.specs.Recording.{Recording, added, log_of, logged_behind, logged_first}
use Rattle.record.specs.Written.{IsText, IsWritten}
use Rattle.telegate.specs.Sites.{IsNew}

empty_text : IsText []
empty_text = record { lines = refl; printable = tt }

-- nothing is written on a new sheet
pub new_is_written : (taken : Option (List ℕ)) (missed : Option Log) → IsNew taken missed
    → IsWritten taken
new_is_written None missed new = tt
new_is_written (Some text) missed new = subst IsText (sym new.0) empty_text

pub added_nothing : (taken : Option (List ℕ)) (missed : Option Log) → IsNew taken missed
    → IsWritten (added taken [])
added_nothing None missed new = tt
added_nothing (Some text) missed new =
    subst (λ (t : List ℕ). IsText (t ++ [])) (sym new.0) empty_text

written_nothing : (taken : Option (List ℕ)) (missed : Option Log) → IsNew taken missed
    → logged_first (logged_behind (added taken []) missed) (Some []) ≡ Some []
written_nothing None missed new = refl
written_nothing (Some text) None new = refl
written_nothing (Some text) (Some log) new = rw (new.0, new.1)

-- so its record has an empty log, or none
pub new_has_nothing : (r : Recording) → IsNew r.taken r.missed → r.held ≡ []
    → logged_first (log_of r) (Some []) ≡ Some []
new_has_nothing r new none =
    ap (λ held. logged_first (logged_behind (added r.taken held) r.missed) (Some [])) none
    ∙ written_nothing r.taken r.missed new
