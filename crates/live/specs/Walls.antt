-- When the wall clock is given (this gateway's own profile): at first, and again when a second has
-- passed since. In between the ends are looked at, however long the gateway stalls.
use Rattle.std.specs.Prelude.{ℕ, ◌-◌, nat_le, Bool, true, false, Option, Some, None}
use Rattle.gateway.specs.declared.ports.Next.{Next}
use Rattle.gateway.specs.declared.ports.Next.TheVariants as next
use Rattle.live.specs.declared.walled.Walled.{Walled}

abbrev pub never_given : Walled
never_given = record { given = None; has_looked = false }

abbrev pub given_at_moment : ℕ → Walled
given_at_moment now = record { given = Some now; has_looked = false }

abbrev pub is_due_since : Option ℕ → (has_looked : Bool) → (now : ℕ) → Bool
is_due_since None has_looked now = true
is_due_since (Some given) false now = false
is_due_since (Some given) true now = nat_le 1000 (now - given)

abbrev pub is_wall_due : Walled → (now : ℕ) → Bool
is_wall_due w now = is_due_since w.given w.has_looked now

-- the event gives the wall clock
abbrev pub is_wall : Next → Bool
is_wall (next.Wall now number) = true
is_wall (next.Line now len) = false
is_wall (next.Open now) = false
is_wall (next.Bytes now len) = false
is_wall (next.Cut now) = false
is_wall (next.Tick now) = false
is_wall next.Done = false
is_wall next.Fault = false
