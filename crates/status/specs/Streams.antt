-- What a stream gives and takes, and what it keeps of it (this gateway's own profile).
use Rattle.std.specs.Prelude.{◌≡◌, ℕ, ◌≤◌, Bool, true, false, List, [], ◌∷◌, ◌++◌, take, Option}
use Rattle.std.specs.Prelude.{Some, None}
use Rattle.status.specs.declared.streams.StreamLook.{StreamLook}
use Rattle.status.specs.declared.streams.StreamLook.TheVariants as got
use Rattle.status.specs.declared.streams.Took.{Took}
use Rattle.status.specs.declared.streams.Took.TheVariants as took

-- octets are at least one, and within the buffer
abbrev pub FitsBuffer : StreamLook → Type 0
FitsBuffer (got.Octets len) = (1 ≤ len) × (len ≤ 1024)
FitsBuffer got.Quiet = Unit {0}
FitsBuffer got.Gone = Unit {0}

-- the octets that a look found
abbrev pub got_of : StreamLook → (buf : List ℕ) → List ℕ
got_of (got.Octets len) buf = take len buf
got_of got.Quiet buf = []
got_of got.Gone buf = []

abbrev pub took_count : Took → ℕ
took_count (took.Octets count) = count
took_count took.Nothing = 0

-- octets in the order in which they passed, if they are kept
abbrev pub Passed : Type 0
Passed = Option (List ℕ)

-- with more; what keeps none goes on keeping none
abbrev pub more_passed : Passed → List ℕ → Passed
more_passed None octets = None
more_passed (Some before) octets = Some (before ++ octets)

-- nothing has passed yet
abbrev pub IsNew : Passed → Type 0
IsNew None = Unit {0}
IsNew (Some before) = before ≡ []

-- what a stream was called for, and what it answered
pub data StreamCall : Type 0 where
  Looked : StreamLook → StreamCall
  Handed : Took → StreamCall
  Finished : StreamCall

-- the calls of a stream, the newest first, if it keeps them
abbrev pub Calls : Type 0
Calls = Option (List StreamCall)

abbrev pub called : Calls → StreamCall → Calls
called None call = None
called (Some before) call = Some (call ∷ before)

-- whether somebody had come at each look, the newest first, if that is kept
abbrev pub Arrivals : Type 0
Arrivals = Option (List Bool)

abbrev pub arrived : Arrivals → (is_there : Bool) → Arrivals
arrived None is_there = None
arrived (Some before) is_there = Some (is_there ∷ before)

-- the other end isn't there any more
abbrev pub is_over : StreamCall → Bool
is_over (Looked (got.Octets len)) = false
is_over (Looked got.Quiet) = false
is_over (Looked got.Gone) = true
is_over (Handed (took.Octets count)) = false
is_over (Handed took.Nothing) = true
is_over Finished = false
