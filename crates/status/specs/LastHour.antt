-- What the law of the last hour speaks of: looks at the queue, the newest one first, which numbers
-- they leave, and how old these are (this gateway's own profile, docs/STATUS.md).
use Rattle.std.specs.Prelude.{ℕ, List, [], ◌∷◌}
use Rattle.std.specs.Prelude.{None}
use Rattle.status.specs.Hour.{Samples, noted}

-- a look: its moment, in ms of the run, and how many places of the queue were taken then
pub record QueueLook : Type 0 where
  pub moment : ℕ
  pub taken : ℕ

-- the numbers after these looks, of which none stood before
abbrev pub after : List QueueLook → Samples
after [] = record { numbers = []; noted_ms = None }
after (look ∷ looks) = noted look.moment look.taken (after looks)
