-- What a monitor makes of the table for a terminal (the exit status of a Nagios plugin).
use Rattle.std.specs.Prelude.{ℕ, List, codes, nat_eq, if◌then◌else◌}
use Rattle.std.specs.List.{starts_with}

abbrev pub exit_status : List ℕ → ℕ
exit_status table =
    if starts_with nat_eq table (codes "OK: ") then 0
    else if starts_with nat_eq table (codes "WARNING: ") then 1
    else if starts_with nat_eq table (codes "CRITICAL: ") then 2 else 3
