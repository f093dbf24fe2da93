-- How often it is told that nobody can be accepted (this gateway's own profile).
use Rattle.std.specs.Prelude.{◌≡◌, ◌≢◌, List, [], ◌∷◌, Bool, true, false, Option, Ok, Err}
use Rattle.std.specs.Prelude.{option_map}
use Rattle.std.specs.IoError.{error_kind}
use Rattle.std.specs.declared.io.Error.{Error}
use Rattle.std.specs.declared.io.ErrorKind.{ErrorKind}
use Rattle.std.specs.declared.io.ErrorKind.TheVariants.{ConnectionAborted, Interrupted}
use Rattle.std.specs.declared.io.ErrorKind.TheVariants.{WouldBlock}
use Rattle.live.specs.Arrivals.{Arrival, Arrivals, Ends, arrived}

-- the faults that were told, the newest first, if the listener notes them
abbrev pub ToldFaults : Type 0
ToldFaults = Option (List Error)

abbrev pub one_more_told : Error → ToldFaults → ToldFaults
one_more_told fault told = option_map (λ before. fault ∷ before) told

-- by such a fault nobody can be accepted; else nobody waits, who came has gone again, or a signal
-- broke the call off
abbrev pub is_shut_by : ErrorKind → Bool
is_shut_by WouldBlock = false
is_shut_by Interrupted = false
is_shut_by ConnectionAborted = false
is_shut_by kind = true

-- what was told, and whether it was since somebody came last
pub record Telling : Type 0 where
  pub told : ToldFaults
  pub is_shut : Bool

-- It is told of this fault, unless it was told since somebody came.
abbrev pub told_unless : Bool → Error → Telling → Telling
told_unless true fault t = t
told_unless false fault t = record { told = one_more_told fault t.told; is_shut = true }

abbrev pub told_where : Bool → Error → Telling → Telling
told_where true fault t = told_unless t.is_shut fault t
told_where false fault t = t

-- what is told at an answer of the system
abbrev pub told_at : Arrival → Telling → Telling
told_at (Ok comer) t = record t { is_shut = false }
told_at (Err fault) t = told_where (is_shut_by (error_kind fault)) fault t

-- at these answers, the newest first
abbrev pub told_by : List Arrival → Telling → Telling
told_by [] t = t
told_by (answer ∷ before) t = told_at answer (told_by before t)

-- A look at a listener that had these answers before told so much at its own.
pub record Tells (old : Arrivals) (before : Telling) (new : Arrivals) (after : Telling)
    : Type 0 where
  pub answers : List Arrival
  pub asked : new ≡ arrived answers old
  pub told : after ≡ told_by answers before

-- By this fault nobody can be accepted, as with too few descriptors.
abbrev pub ShutsOut : Error → Type 0
ShutsOut fault = (error_kind fault ≢ WouldBlock) × Ends (Err fault)

-- nobody came
abbrev pub IsNoComer : Arrival → Type 0
IsNoComer (Ok comer) = ⊥
IsNoComer (Err fault) = Unit {0}
