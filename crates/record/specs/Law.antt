-- Words of the laws of a record (this gateway's own profile).
use Rattle.std.specs.Prelude.{◌≡◌, ℕ, Bool, true, false, List}
use Rattle.record.specs.Recording.{Recording, text_of, added}

-- If the record goes on, its text is the one before and this behind it. If it is over, it is the
-- one before.
abbrev pub grows_by : (is_over : Bool) → (old : Recording) → List ℕ → (new : Recording) → Type 0
grows_by true old line new = text_of new ≡ text_of old
grows_by false old line new = text_of new ≡ added (text_of old) line
