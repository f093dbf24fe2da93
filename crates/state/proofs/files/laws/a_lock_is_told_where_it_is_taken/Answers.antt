use Rattle.std.proofs.Common.{◌≡◌, ◌∷◌, List, Some, false, inl, inr, true}
use Rattle.state.specs.FileNames.{IsLockTaken, Locked, NameStep}
use Rattle.state.proofs.NameCalls.{kept_before}
use Rattle.state.proofs.files.laws.a_lock_is_told_where_it_is_taken.Goals as goal

told : (after : List NameStep) → IsLockTaken false (Some after)
    → (earlier : List NameStep) × (after ≡ Locked (Some true) ∷ earlier)
told after (inl never) = absurd (cc)
told after (inr (earlier, is)) =
    let k = kept_before earlier (Locked (Some true)) after is in (k.0, k.2)

pub returns : goal.returns
returns c = told
