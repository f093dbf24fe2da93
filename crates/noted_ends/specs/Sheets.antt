-- What a sheet in memory took, which notes it as entries of a log (profile).
use Rattle.std.specs.Prelude.{ℕ, List, [], ◌∷◌, ◌++◌}
use Rattle.gateway.specs.Log.{Log, Went, LineOut}

-- the texts that it took, one behind another
abbrev pub text_in : Log → List ℕ
text_in [] = []
text_in (Went now (LineOut text) ∷ log) = text_in log ++ text
text_in (entry ∷ log) = text_in log
