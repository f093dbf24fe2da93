-- What no start doubts (profile).
use Rattle.std.specs.Prelude.{ℕ, List}
use Rattle.segments.specs.Starts.{IsSound}

-- it isn't so that the file has what no crash leaves
abbrev pub IsUndoubted : List ℕ → Type 0
IsUndoubted file = (IsSound file → ⊥) → ⊥

abbrev pub AreUndoubted : (List ℕ → Type 0) → Type 0
AreUndoubted outcomes = (c : List ℕ) → outcomes c → IsUndoubted c
