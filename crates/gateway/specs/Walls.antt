-- The wall clock, as the log gives it: milliseconds since 1970-01-01 UTC, which go on with the
-- moments (profile).
use Rattle.std.specs.Io.Iter.{u64_saturate}
use Rattle.std.specs.Prelude.{◌≡◌, ℕ, ◌+◌, ◌-◌, [], ◌∷◌, ◌++◌, Option, Some, None, option_map}
use Rattle.gateway.specs.declared.walls.Wall.{Wall}
use Rattle.gateway.specs.Log.{Log, WallIs, Came, latest}

-- what the latest event of the wall clock gave, and its moment
abbrev pub last_wall : Log → Option Wall
last_wall [] = None
last_wall (Came now (WallIs number) ∷ log) =
    Some (record { moment = latest (Came now (WallIs number) ∷ log); number = number })
last_wall (entry ∷ log) = last_wall log

-- At a later moment it is that number and the milliseconds since, a number of 64 bits that stays at
-- its greatest. Nothing is known of it before it was given.
abbrev pub wall_of : Option Wall → (at : ℕ) → Option ℕ
wall_of logged at = option_map (λ w. u64_saturate (w.number + (at - w.moment))) logged

-- as the log gives it, at this moment
abbrev pub wall_on : Log → (at : ℕ) → Option ℕ
wall_on log at = wall_of (last_wall log) at

-- no event of the log gave the wall clock
abbrev pub HasNoWall : Log → Type 0
HasNoWall [] = Unit {0}
HasNoWall (Came now (WallIs number) ∷ log) = ⊥
HasNoWall (entry ∷ log) = HasNoWall log

-- An event of the log gave the wall clock, and by the latest such event it shows this at that
-- moment: the number that the event gave and the milliseconds since, in 64 bits.
pub record ShowsAt (log : Log) (at clock : ℕ) : Type 0 where
  pub since : Log
  pub now : ℕ
  pub number : ℕ
  pub before : Log
  pub logged : log ≡ since ++ Came now (WallIs number) ∷ before
  pub latest_logged : HasNoWall since
  pub shows : clock
      ≡ u64_saturate (number + (at - latest (Came now (WallIs number) ∷ before)))
