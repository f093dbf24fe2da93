-- What is done to the names of files in a directory (this gateway's own profile).
use Rattle.std.specs.Prelude.{◌≡◌, ◌⊎◌, ℕ, ◌<◌, ◌≤◌, Bool, true, false, List, [], ◌∷◌, ◌++◌, codes}
use Rattle.std.specs.Prelude.{Option}
use Rattle.std.specs.Prelude.{Some, None, Result, Ok, Err}
use Rattle.std.specs.Fmt.{decimal}

-- A call that was made, and what the system answered: whether the file was there, or that the call
-- failed.
pub data NameStep : Type 0 where
  Renamed : (from to : List ℕ) → (was_there : Option Bool) → NameStep
  Sought : (name : List ℕ) → (is_there : Option Bool) → NameStep
  Made : (name : List ℕ) → (is_made : Bool) → NameStep
  Synced : (is_done : Bool) → NameStep
  Locked : (is_taken : Option Bool) → NameStep
  Compared : (is_copy : Option Bool) → NameStep
  Recorded : (is_done : Bool) → NameStep

-- the calls so far, the newest first, if they are kept
abbrev pub Steps : Type 0
Steps = Option (List NameStep)

-- with one call more
abbrev pub noted : Steps → NameStep → Steps
noted None step = None
noted (Some before) step = Some (step ∷ before)

abbrev pub answer_of : {A E : Type 0} → Result A E → Option A
answer_of (Ok answer) = Some answer
answer_of (Err fault) = None

abbrev pub is_done : {A E : Type 0} → Result A E → Bool
is_done (Ok answer) = true
is_done (Err fault) = false

-- The directory was locked before, or the latest call has locked it.
abbrev pub IsLockTaken : (was_locked : Bool) → (after : Steps) → Type 0
IsLockTaken was_locked after =
    (was_locked ≡ true) ⊎ ((earlier : Steps) × (after ≡ noted earlier (Locked (Some true))))

-- A mark is made: one name is replaced by another, then a file of that name is there, and then the
-- names are synced.
abbrev pub IsMarkedAs : (from to : List ℕ) → (before after : Steps) → Type 0
IsMarkedAs from to before after =
    (was_there : Bool)
    × (after ≡ noted (noted (noted before (Renamed from to (Some was_there)))
    (Sought to (Some true))) (Synced true))

-- The mark is made in the second place: a file of its name is there, and then the names are synced.
abbrev pub IsMarkedBeside : (before after : Steps) → Type 0
IsMarkedBeside before after =
    after ≡ noted (noted before (Made (codes "stale") true)) (Synced true)

-- The mark is taken away behind a note of which files stand here: that is on the disk before.
abbrev pub IsMadeGood : (before after : Steps) → Type 0
IsMadeGood before after =
    IsMarkedAs (codes "stale") (codes "kept") (noted before (Recorded true)) after

-- No mark stands there: there was none, or it got another name, and then the names were synced.
pub data HasNoneBeside (before after : Steps) : Type 0 where
  Absent : after ≡ noted before (Sought (codes "stale") (Some false)) → HasNoneBeside before after
  Taken : (was_there : Bool) → after ≡ noted (noted (noted before
      (Sought (codes "stale") (Some true)))
      (Renamed (codes "stale") (codes "kept") (Some was_there))) (Synced true)
      → HasNoneBeside before after

-- A file that says that the state is good stands there, or one that says that it isn't. If none
-- stood there, the first is made, and the names are synced.
pub data HasMark (before after : Steps) : Type 0 where
  Kept : after ≡ noted before (Sought (codes "kept") (Some true)) → HasMark before after
  Stale : after ≡ noted (noted before (Sought (codes "kept") (Some false)))
      (Sought (codes "stale") (Some true)) → HasMark before after
  New : after ≡ noted (noted (noted (noted before (Sought (codes "kept") (Some false)))
      (Sought (codes "stale") (Some false))) (Made (codes "kept") true)) (Synced true)
      → HasMark before after

-- the name under which a file that couldn't be read is kept
abbrev pub unread_name : ℕ → List ℕ
unread_name n = codes "unread-" ++ decimal n

-- a file got this name, if it was there
abbrev pub IsRenamed : (from to : List ℕ) → (before after : Steps) → Type 0
IsRenamed from to before after =
    (was_there : Bool) × (after ≡ noted before (Renamed from to (Some was_there)))

-- both files got the names with this number, and then the names were synced
abbrev pub AreRenamed : (number : ℕ) → (before after : Steps) → Type 0
AreRenamed n before after =
    (between then : Steps) × IsRenamed (codes "segments") (unread_name n ++ []) before between
    × IsRenamed (codes "segments-wal") (unread_name n ++ codes "-wal") between then
    × (after ≡ noted then (Synced true))

-- no file has one of the names with this number
abbrev pub IsFree : (number : ℕ) → (after : Steps) → Type 0
IsFree n after =
    (earlier : Steps)
    × (after ≡ noted (noted earlier (Sought (unread_name n) (Some false)))
    (Sought (unread_name n ++ codes "-wal") (Some false)))

-- Both files got names with a number from 1 to 9. Unless that is 9, no file had either name.
abbrev pub IsPutAside : (after : Steps) → Type 0
IsPutAside after =
    (n : ℕ) × (sought : Steps) × (1 ≤ n) × (n ≤ 9) × (n < 9 → IsFree n sought)
    × AreRenamed n sought after
