-- Why a directory isn't opened (this gateway's own profile).
use Rattle.std.specs.Prelude.{◌≡◌, ℕ, List, codes}
use Rattle.std.specs.IoError.{error_kind}
use Rattle.std.specs.declared.io.ErrorKind.{ErrorKind}
use Rattle.std.specs.declared.io.ErrorKind.TheVariants.{AlreadyExists, OutOfMemory}
use Rattle.sqlite_std_file.specs.declared.pair.OpenError.{OpenError}
use Rattle.sqlite_std_file.specs.declared.pair.OpenError.TheVariants as openings
use Rattle.state.specs.declared.folder.FolderFault.{FolderFault}
use Rattle.state.specs.declared.folder.FolderFault.TheVariants.{InUse, NoMemory, Unusable}

-- the file of this name can't be used, for this cause
abbrev pub IsUnusable : (name : List ℕ) → ErrorKind → FolderFault → Type 0
IsUnusable name cause (Unusable place why) = (place.now ≡ name) × (why ≡ cause)
IsUnusable name cause fault = ⊥

-- and want of memory is told as that
abbrev pub IsFaultAt : (name : List ℕ) → ErrorKind → FolderFault → Type 0
IsFaultAt name OutOfMemory fault = fault ≡ NoMemory
IsFaultAt name cause fault = IsUnusable name cause fault

-- The two files of a log aren't opened, of which the one of this name can't be used. It may be that
-- another process has them, or that a journal stands there, which only its database can play back.
abbrev pub IsRefusal : (name : List ℕ) → OpenError → FolderFault → Type 0
IsRefusal name openings.Busy fault = fault ≡ InUse
IsRefusal name openings.HotJournal fault =
    IsUnusable (codes "segments-journal") AlreadyExists fault
IsRefusal name openings.OutOfMemory fault = fault ≡ NoMemory
IsRefusal name (openings.Io error) fault = IsFaultAt name (error_kind error) fault
