-- Both files that couldn't be read have other names, and a mark is taken away.
use Rattle.std.proofs.Common.{◌≡◌, ◌∙◌, ap, ℕ, Bool, true, false, [], ◌++◌, codes}
use Rattle.std.specs.Prelude.{IfOk, Result, Ok, Err, Some}
use Rattle.state.specs.FileNames.{AreRenamed, HasNoneBeside, IsRenamed, Renamed, Sought, Steps}
use Rattle.state.specs.FileNames.{Synced, Taken, answer_of, is_done, noted}
use Rattle.state.specs.FileNames.{unread_name}

pub both_renamed : {A E : Type 0} (n : ℕ) (before between later after : Steps)
    → IsRenamed (codes "segments") (unread_name n ++ []) before between
    → IsRenamed (codes "segments-wal") (unread_name n ++ codes "-wal") between later
    → (synced : Result A E) → after ≡ noted later (Synced (is_done synced))
    → IfOk synced (λ _. AreRenamed n before after)
both_renamed n before between later after first second (Ok x) last =
    (between, later, first, second, last)
both_renamed n before between later after first second (Err fault) last = tt

pub taken_beside : {A E F : Type 0} (before looked between after : Steps) (b : Bool)
    → b ≡ true → (had : Result Bool F) → had ≡ Ok b
    → looked ≡ noted before (Sought (codes "stale") (answer_of had))
    → (renamed : Result Bool F) (was_there : Bool) → renamed ≡ Ok was_there
    → between ≡ noted looked (Renamed (codes "stale") (codes "kept") (answer_of renamed))
    → (synced : Result A E) → after ≡ noted between (Synced (is_done synced))
    → IfOk synced (λ _. HasNoneBeside before after)
taken_beside before looked between after false never had has first renamed was_there is second
    synced last = absurd (cc)
taken_beside before looked between after true there had has first renamed was_there is second
    (Err fault) last = tt
taken_beside before looked between after true there had has first renamed was_there is second
    (Ok x) last =
    let sought : looked ≡ noted before (Sought (codes "stale") (Some true)) =
    first ∙ ap (λ r. noted before (Sought (codes "stale") (answer_of r))) has in
    let named : between ≡ noted (noted before (Sought (codes "stale") (Some true)))
    (Renamed (codes "stale") (codes "kept") (Some was_there)) =
    second ∙ ap (λ r. noted looked (Renamed (codes "stale") (codes "kept") (answer_of r))) is
    ∙ ap (λ s. noted s (Renamed (codes "stale") (codes "kept") (Some was_there))) sought in
    Taken was_there (last ∙ ap (λ s. noted s (Synced true)) named)
