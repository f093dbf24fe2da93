-- What is read into memory (this gateway's own profile).
use Rattle.std.specs.Prelude.{◌≡◌, ℕ, List, ◌++◌, Option, IfSome}
use Rattle.sqlite_disk.specs.Memory.{memory_bytes}
use Rattle.sqlite_disk.specs.declared.memory.Memory.{Memory}

-- all that a reader had left stands behind what stood there, if that is known
abbrev pub IsCopied : (left : Option (List ℕ)) → (before after : Memory) → Type 0
IsCopied left before after =
    IfSome left (λ octets. memory_bytes after ≡ memory_bytes before ++ octets)
