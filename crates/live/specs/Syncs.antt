-- How long syncs of a state take (this gateway's own profile).
use Rattle.std.specs.Prelude.{ℕ, ◌+◌, ◌-◌, ◌^◌, min, max, nat_lt, if◌then◌else◌}
use Rattle.live.specs.declared.syncs.SyncTimes.{SyncTimes}

-- before the first sync
abbrev pub no_sync : SyncTimes
no_sync = record { latest_ms = 0; count = 0; last_ms = 0; longest_ms = 0 }

-- A sync took so many ms: one below 100 isn't counted.
abbrev pub sync_noted : (ms : ℕ) → SyncTimes → SyncTimes
sync_noted ms s = if nat_lt ms 100 then record s { latest_ms = ms } else record {
  latest_ms = ms;
  count = min (s.count + 1) (2 ^ 64 - 1);
  last_ms = ms;
  longest_ms = max s.longest_ms ms;
}
