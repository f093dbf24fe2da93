-- Lists of commands that wait for the line (this gateway's own profile).
use Rattle.std.specs.Prelude.{ℕ, nat_lt, List, [], ◌∷◌, ◌++◌, length, position, remove, Option}
use Rattle.std.specs.Prelude.{if◌then◌else◌}
use Rattle.runlog.specs.Orders.{goes_out_as}
use Rattle.runlog.specs.declared.order.Order.{Order}

-- the place of the oldest, as it came, that goes out to the line so
abbrev pub come : (sent : Order) → List Order → Option ℕ
come o os = position (goes_out_as o) os

-- the place of the oldest that went out, which came so
abbrev pub sent : (came : Order) → List Order → Option ℕ
sent o os = position (λ sent. goes_out_as sent o) os

-- one more, as far as there is place
abbrev pub one_behind : Order → List Order → List Order
one_behind o os = if nat_lt (length os) 64 then os ++ o ∷ [] else os

abbrev pub without : (place : ℕ) → List Order → List Order
without place os = if nat_lt place (length os) then remove os place else os
