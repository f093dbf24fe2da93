-- What the laws say of the station that was asked, of what passes a run that is watched, and of
-- APDUs that come (this gateway's own profile, docs/STATUS.md and docs/LOG.md).
use Rattle.std.specs.Prelude.{◌≡◌, ◌&&◌, ℕ, false, not, List, ◌∷◌, ◌++◌, Some}
use Rattle.std.specs.Prelude.{None}
use Rattle.std.specs.List.{AllByRecursion}
use Rattle.runlog.specs.Logging.{Book}
use Rattle.runlog.specs.Passing.{Passed, passed}
use Rattle.runlog.specs.Watching.{Watching, heard_if}
use Rattle.runlog.specs.declared.note.LogLine.{LogLine}
use Rattle.runlog.specs.declared.traffic.Traffic.{Traffic}

-- none of these stations has this link address
abbrev pub NoneHas : (address : ℕ) → List Traffic → Type 0
NoneHas address ts = AllByRecursion (λ (t : Traffic). t.address ≡ address → ⊥) ts

-- In place of this station stands that one, and all others stay.
abbrev pub IsInPlace : (before behind : List Traffic) → (t : Traffic) → Watching → Type 0
IsInPlace before behind t w = w.traffic ≡ before ++ t ∷ behind

-- somebody looks, or a log goes on
abbrev pub IsWatched : Book → Type 0
IsWatched b = (b.is_over && not b.is_watching) ≡ false

-- What passed is known to those who look, and so is its line, if it has one. That is handed over if
-- the log goes on.
pub record IsFollowed (p : Passed) (old new : Book) : Type 0 where
  pub known : new.watching ≡ heard_if (passed p old.watching).1 (passed p old.watching).0
  pub line : (l : LogLine) (before : List LogLine) → (passed p old.watching).1 ≡ Some l
      → old.is_over ≡ false → old.handed ≡ Some before → new.handed ≡ Some (l ∷ before)
  pub none : (passed p old.watching).1 ≡ None → new.handed ≡ old.handed
