-- The words for what the system answers (those of the standard library's errors).
use Rattle.std.specs.Prelude.{ℕ, List, Bool, true, false, not, bytes_eq, Option, Some, None, codes}
use Rattle.std.specs.declared.io.ErrorKind.{ErrorKind}
use Rattle.std.specs.declared.io.ErrorKind.TheVariants as kind

abbrev pub cause_words : ErrorKind → List ℕ
cause_words kind.NotFound = codes "entity not found"
cause_words kind.PermissionDenied = codes "permission denied"
cause_words kind.ConnectionRefused = codes "connection refused"
cause_words kind.ConnectionReset = codes "connection reset"
cause_words kind.HostUnreachable = codes "host unreachable"
cause_words kind.NetworkUnreachable = codes "network unreachable"
cause_words kind.ConnectionAborted = codes "connection aborted"
cause_words kind.NotConnected = codes "not connected"
cause_words kind.AddrInUse = codes "address in use"
cause_words kind.AddrNotAvailable = codes "address not available"
cause_words kind.NetworkDown = codes "network down"
cause_words kind.BrokenPipe = codes "broken pipe"
cause_words kind.AlreadyExists = codes "entity already exists"
cause_words kind.WouldBlock = codes "operation would block"
cause_words kind.NotADirectory = codes "not a directory"
cause_words kind.IsADirectory = codes "is a directory"
cause_words kind.DirectoryNotEmpty = codes "directory not empty"
cause_words kind.ReadOnlyFilesystem = codes "read-only filesystem or storage medium"
cause_words kind.FilesystemLoop = codes "filesystem loop or indirection limit (e.g. symlink loop)"
cause_words kind.StaleNetworkFileHandle = codes "stale network file handle"
cause_words kind.InvalidInput = codes "invalid input parameter"
cause_words kind.InvalidData = codes "invalid data"
cause_words kind.TimedOut = codes "timed out"
cause_words kind.WriteZero = codes "write zero"
cause_words kind.StorageFull = codes "no storage space"
cause_words kind.NotSeekable = codes "seek on unseekable file"
cause_words kind.QuotaExceeded = codes "quota exceeded"
cause_words kind.FileTooLarge = codes "file too large"
cause_words kind.ResourceBusy = codes "resource busy"
cause_words kind.ExecutableFileBusy = codes "executable file busy"
cause_words kind.Deadlock = codes "deadlock"
cause_words kind.CrossesDevices = codes "cross-device link or rename"
cause_words kind.TooManyLinks = codes "too many links"
cause_words kind.InvalidFilename = codes "invalid filename"
cause_words kind.ArgumentListTooLong = codes "argument list too long"
cause_words kind.Interrupted = codes "operation interrupted"
cause_words kind.Unsupported = codes "unsupported"
cause_words kind.UnexpectedEof = codes "unexpected end of file"
cause_words kind.OutOfMemory = codes "out of memory"
cause_words kind.InProgress = codes "in progress"
cause_words kind.Other = codes "other error"
cause_words kind.Uncategorized = codes "input or output error"

-- why the line can't be reached: a host or a path may not be known
abbrev pub line_cause_words : ErrorKind → List ℕ
line_cause_words kind.NotFound = codes "name unknown"
line_cause_words kind.Uncategorized = codes "name unknown"
line_cause_words cause = cause_words cause

-- another cause than the one that was told, in words
abbrev pub is_news : (cause told : Option ErrorKind) → Bool
is_news None told = false
is_news (Some cause) None = true
is_news (Some cause) (Some told) =
    not (bytes_eq (line_cause_words cause) (line_cause_words told))
