-- The text of a file, of which a part is held in memory (profile).
use Rattle.std.specs.Prelude.{ℕ, List, ◌++◌, take}

-- what stands in the file up to a place, and what is held
abbrev pub text_in : ℕ → List ℕ → List ℕ → List ℕ
text_in stored file page = take stored file ++ page
