use Rattle.std.proofs.Common.{◌≡◌, ◌⊎◌, ◌∷◌, List, Some, codes, false, inl, inr, true}
use Rattle.state.specs.FileNames.{HasMark, Kept, Made, NameStep, New, Sought, Stale, Synced}
use Rattle.state.proofs.NameCalls.{same_calls}
use Rattle.state.proofs.files.laws.a_mark_is_made_where_there_is_none.Goals as goal

found : (before after : List NameStep) → HasMark (Some before) (Some after)
    → (after ≡ Sought (codes "kept") (Some true) ∷ before)
    ⊎ ((after ≡ Sought (codes "stale") (Some true) ∷ Sought (codes "kept") (Some false) ∷ before)
    ⊎ (after ≡ Synced true ∷ Made (codes "kept") true ∷ Sought (codes "stale") (Some false)
    ∷ Sought (codes "kept") (Some false) ∷ before))
found before after (Kept is) = inl (same_calls after _ is)
found before after (Stale is) = inr (inl (same_calls after _ is))
found before after (New is) = inr (inr (same_calls after _ is))

pub returns : goal.returns
returns c = found
