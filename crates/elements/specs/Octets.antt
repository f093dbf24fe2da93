-- Lists of octets, numbers low octet first.
use Rattle.std.specs.Prelude.{ℕ, ◌<◌, List, slice_index}

-- each item is an octet
abbrev pub AreOctets : List ℕ → Type 0
AreOctets xs = (i : ℕ) → slice_index xs i < 256
