-- Commands that were put on the line and have no outcome yet.
use Rattle.std.specs.Prelude.{ℕ, ◌&&◌, Bool, List, None}
use Rattle.link.specs.Delivery.{pending_after, is_command_pending}
use Rattle.link.specs.Exchanges.{Exchange}
use Rattle.link.specs.Procedure.{LinkSettings, Down, link_after, is_up}

-- By these exchanges with a station its link is up, and the latest service is a command that has no
-- outcome yet.
abbrev pub is_under_way : LinkSettings → (station : ℕ) → List Exchange → Bool
is_under_way settings station xs =
    is_up (link_after settings station Down xs)
    && is_command_pending (pending_after station None xs)
