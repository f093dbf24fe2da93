-- The text of an address.
use Rattle.std.proofs.Common.{◌≡◌, ℕ, List, ◌++◌, Option, IfOk, Result, Ok, Err}
use Rattle.std.specs.declared.net.ip_addr.IpAddr.{IpAddr}
use Rattle.status.specs.Looking.{IsPeerText}

pub is_written : {X Y : Type 0} (r : Result X Y) (peer : Option IpAddr) (old new words : List ℕ)
    → IsPeerText peer words → IfOk r (λ _. new ≡ old ++ words)
    → IfOk r (λ _. (w : List ℕ) × IsPeerText peer w × (new ≡ old ++ w))
is_written (Ok x) peer old new words says is = (words, says, is)
is_written (Err y) peer old new words says is = tt
