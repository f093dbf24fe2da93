-- What a stream answers, and what it notes of it (this gateway's own profile).
use Rattle.std.specs.Prelude.{◌≡◌, ℕ, ◌≤◌, List, [], ◌∷◌, take, Bool, Option, Some, None}
use Rattle.live.specs.declared.ends.Got.{Got}
use Rattle.live.specs.declared.ends.Got.TheVariants.{Octets, Quiet, Gone}

-- octets are at least one, and within the buffer
abbrev pub FitsBuffer : Got → Type 0
FitsBuffer (Octets len) = (1 ≤ len) × (len ≤ 1024)
FitsBuffer Quiet = Unit {0}
FitsBuffer Gone = Unit {0}

-- what happens at a stream: a look, at which it gave octets, was quiet, or was gone; so many octets
-- dropped that had come; or octets put on it, and whether it took them
pub data Happening : Type 0 where
  Gave : (octets : List ℕ) → Happening
  WasQuiet : Happening
  WasGone : Happening
  Dropped : (count : ℕ) → Happening
  Wrote : (octets : List ℕ) → (taken : Bool) → Happening

-- a look that found this; its octets are the front of the buffer
abbrev pub looked : Got → (buf : List ℕ) → Happening
looked (Octets len) buf = Gave (take len buf)
looked Quiet buf = WasQuiet
looked Gone buf = WasGone

-- what has happened at a stream, the newest first, if it notes that
abbrev pub StreamHistory : Type 0
StreamHistory = Option (List Happening)

-- One more. A stream that notes nothing goes on noting nothing.
abbrev pub noted : StreamHistory → Happening → StreamHistory
noted None new = None
noted (Some before) new = Some (new ∷ before)

-- nothing has happened yet
abbrev pub IsNew : StreamHistory → Type 0
IsNew None = Unit {0}
IsNew (Some before) = before ≡ []

-- whether each look at a listener accepted a connection, the newest first, if the listener notes
-- that
abbrev pub Attempts : Type 0
Attempts = Option (List Bool)

abbrev pub attempted : Attempts → Bool → Attempts
attempted None here = None
attempted (Some before) here = Some (here ∷ before)
