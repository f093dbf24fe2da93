-- What the calls that were noted are.
use Rattle.std.proofs.Common.{◌≡◌, ◌∙◌, ◌<◌, ◌≤◌, ℕ, Bool, true, false, List, [], ◌∷◌, ◌++◌, Some}
use Rattle.std.proofs.Common.{None, codes}
use Rattle.std.proofs.Common.{ap, refl, sym}
use Rattle.std.specs.Fmt.{decimal}
use Rattle.std.proofs.lemmas.List.{append-nil}
use Rattle.state.specs.FileNames.{IsMarkedAs, IsPutAside, NameStep, Renamed, Sought, Steps}
use Rattle.state.specs.FileNames.{Synced, noted, unread_name}

pub same_calls : (one two : List NameStep) → Some one ≡ Some two → one ≡ two
same_calls one two is = cc

pub marked : (from to : List ℕ) (before after : List NameStep)
    → IsMarkedAs from to (Some before) (Some after) → (was_there : Bool) × (after
    ≡ Synced true ∷ Sought to (Some true) ∷ Renamed from to (Some was_there) ∷ before)
marked from to before after is = (is.0, same_calls after _ is.1)

-- if calls are kept behind another one, they are kept before it
pub kept_before : (steps : Steps) (step : NameStep) (after : List NameStep)
    → Some after ≡ noted steps step
    → (calls : List NameStep) × (steps ≡ Some calls) × (after ≡ step ∷ calls)
kept_before None step after is = absurd (cc)
kept_before (Some calls) step after is = (calls, refl, same_calls after (step ∷ calls) is)

pub aside : (after : List NameStep) → IsPutAside (Some after) → (n : ℕ) × (1 ≤ n) × (n ≤ 9)
    × (first : Bool) × (second : Bool) × (earlier : List NameStep)
    × (after ≡ Synced true
    ∷ Renamed (codes "segments-wal") ((codes "unread-" ++ decimal n) ++ codes "-wal") (Some second)
    ∷ Renamed (codes "segments") (codes "unread-" ++ decimal n) (Some first) ∷ earlier)
    × (n < 9 → (front : List NameStep)
    × (earlier ≡ Sought ((codes "unread-" ++ decimal n) ++ codes "-wal") (Some false)
    ∷ Sought (codes "unread-" ++ decimal n) (Some false) ∷ front))
aside after put =
    let (n, sought, one, nine, free, both) = put in
    let (between, then, first, second, last) = both in
    let a = kept_before then (Synced true) after last in
    let b = kept_before between (Renamed (codes "segments-wal") (unread_name n ++ codes "-wal")
    (Some second.0)) a.0 (sym a.1 ∙ second.1) in
    let c = kept_before sought (Renamed (codes "segments") (unread_name n ++ []) (Some first.0)) b.0
    (sym b.1 ∙ first.1) in (
      n,
      one,
      nine,
      first.0,
      second.0,
      c.0,
      a.2 ∙ ap (λ (l : List NameStep). Synced true ∷ l) (b.2
          ∙ ap (λ (l : List NameStep). Renamed (codes "segments-wal")
          (unread_name n ++ codes "-wal") (Some second.0) ∷ l) (c.2
          ∙ ap (λ (name : List ℕ). Renamed (codes "segments") name (Some first.0) ∷ c.0)
          (append-nil (unread_name n)))),
      λ (below : n < 9).
          let (earlier, both_free) = free below in
          let e = kept_before (noted earlier (Sought (unread_name n) (Some false)))
          (Sought (unread_name n ++ codes "-wal") (Some false)) c.0 (sym c.1 ∙ both_free) in
          let d = kept_before earlier (Sought (unread_name n) (Some false)) e.0 (sym e.1) in (
            d.0,
            e.2 ∙ ap (λ (l : List NameStep).
                Sought (unread_name n ++ codes "-wal") (Some false) ∷ l) d.2,
          ),
    )
