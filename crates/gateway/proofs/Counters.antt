-- The counters of 15 bits against the counts.
use Rattle.std.proofs.Common.{◌≡◌, ℕ, ◌+◌, ◌-◌, ◌%◌, ◌<◌, ◌≤◌, arith}
use Rattle.session.specs.History.{reached}

-- so many frames of count stay unacknowledged by nr
abbrev pub left_of : ℕ → ℕ → ℕ
left_of nr count = (count % 32768 + (32768 - nr % 32768)) % 32768

pub reached-valid : (acknowledged unacknowledged nr : ℕ) → unacknowledged < 32768 →
    left_of nr (acknowledged + unacknowledged) ≤ unacknowledged →
    reached acknowledged nr + left_of nr (acknowledged + unacknowledged)
    ≡ acknowledged + unacknowledged
reached-valid a u nr small valid = omega arith

pub reached-invalid : (acknowledged unacknowledged nr : ℕ) → unacknowledged < 32768 →
    unacknowledged < left_of nr (acknowledged + unacknowledged) →
    acknowledged + unacknowledged < reached acknowledged nr
reached-invalid a u nr small invalid = omega arith
