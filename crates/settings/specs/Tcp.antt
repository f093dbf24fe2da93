-- The settings of the table `tcp` (this gateway's own profile), which may be missing: each key in
-- its order, up to the first that is wrong.
use Rattle.std.specs.Prelude.{ℕ, codes, ◌-◌, Option, Some, Result, Ok}
use Rattle.toml.specs.Data.{Members}
use Rattle.settings.specs.Faults.{Path, ◌>>=◌}
use Rattle.settings.specs.Keys.{row, whole_of}
use Rattle.gateway.specs.declared.settings.TcpSettings.{TcpSettings}

-- the values of the table
pub record Tcp : Type 0 where
  pub k : ℕ
  pub w : ℕ
  pub t1_ms : ℕ
  pub t2_ms : ℕ
  pub t3_ms : ℕ
  pub select_ms : ℕ
  pub max_age_ms : ℕ

abbrev pub tcp_of : TcpSettings → Tcp
tcp_of t = record {
  k = t.k;
  w = t.w;
  t1_ms = t.t1_ms;
  t2_ms = t.t2_ms;
  t3_ms = t.t3_ms;
  select_ms = t.select_ms;
  max_age_ms = t.max_age_ms;
}

-- t2 is below t1, also if one of them has its default
abbrev pub tcp_settings : Option Members → Result Tcp Path
tcp_settings t = do
  k ← whole_of (row (codes "k") (codes "tcp.k") 1 32767 (Some 12)) t
  w ← whole_of (row (codes "w") (codes "tcp.w") 1 32767 (Some 8)) t
  t1 ← whole_of (row (codes "t1_ms") (codes "tcp.t1_ms") 2 255000 (Some 15000)) t
  t2 ← whole_of (row (codes "t2_ms") (codes "tcp.t2_ms") 1 (t1 - 1) (Some 10000)) t
  t3 ← whole_of (row (codes "t3_ms") (codes "tcp.t3_ms") 1 86400000 (Some 20000)) t
  s ← whole_of (row (codes "select_ms") (codes "tcp.select_ms") 1 600000 (Some 30000)) t
  a ← whole_of (row (codes "max_age_ms") (codes "tcp.max_age_ms") 1 3600000 (Some 10000)) t
  Ok (record {
    k = k;
    w = w;
    t1_ms = t1;
    t2_ms = t2;
    t3_ms = t3;
    select_ms = s;
    max_age_ms = a;
  })
