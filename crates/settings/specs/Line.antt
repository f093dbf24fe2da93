-- The settings of the table `line` (this gateway's own profile): each key in its order, up to the
-- first that is wrong.
use Rattle.std.specs.Prelude.{ℕ, codes, List, ◌==◌, if◌then◌else◌, Option, Some, None, Result, Ok}
use Rattle.std.specs.Prelude.{Err}
use Rattle.std.specs.Str.{bytes_eq}
use Rattle.toml.specs.Data.{Data, Members, as_str}
use Rattle.ft12.specs.declared.frame.LinkSize.{LinkSize}
use Rattle.ft12.specs.declared.frame.LinkSize.TheVariants as link
use Rattle.asdu.specs.declared.sizes.Sizes.{Sizes}
use Rattle.asdu.specs.declared.sizes.CauseSize.{CauseSize}
use Rattle.asdu.specs.declared.sizes.CauseSize.TheVariants as cause
use Rattle.asdu.specs.declared.sizes.CaSize.{CaSize}
use Rattle.asdu.specs.declared.sizes.CaSize.TheVariants as ca
use Rattle.asdu.specs.declared.sizes.IoaSize.{IoaSize}
use Rattle.asdu.specs.declared.sizes.IoaSize.TheVariants as ioa
use Rattle.settings.specs.Faults.{Path, ◌>>=◌}
use Rattle.settings.specs.Keys.{given_at, row, whole_of}
use Rattle.settings.specs.declared.line.Waits.{Waits}
use Rattle.gateway.specs.declared.settings.LineSettings.{LineSettings}
use Rattle.gateway.specs.declared.settings.Silence.{Silence}
use Rattle.gateway.specs.declared.settings.Silence.TheVariants.{Hold, Reset}

-- the sizes that numbers of octets name
abbrev pub link_size : ℕ → LinkSize
link_size n = if n == 1 then link.One else link.Two

abbrev pub cause_size : ℕ → CauseSize
cause_size n = if n == 1 then cause.One else cause.Two

abbrev pub ca_size : ℕ → CaSize
ca_size n = if n == 1 then ca.One else ca.Two

abbrev pub ioa_size : ℕ → IoaSize
ioa_size n = if n == 1 then ioa.One else if n == 2 then ioa.Two else ioa.Three

-- what silence of a station does, as the word of `line.silence` says; the default is "hold"
abbrev pub silence_word : Option (List ℕ) → Result Silence Path
silence_word None = Err (codes "line.silence")
silence_word (Some word) =
    if bytes_eq word (codes "hold") then Ok Hold
    else if bytes_eq word (codes "reset") then Ok Reset
    else Err (codes "line.silence")

abbrev pub silence_of : Option Data → Result Silence Path
silence_of None = Ok Hold
silence_of (Some d) = silence_word (as_str d)

-- the values of the table
pub record Line : Type 0 where
  pub link : LinkSize
  pub sizes : Sizes
  pub answer_ms : ℕ
  pub retries : ℕ
  pub silence : Silence
  pub burst : ℕ
  pub queue : ℕ

abbrev pub line_of : LineSettings → Line
line_of l = record {
  link = l.link;
  sizes = l.sizes;
  answer_ms = l.answer_ms;
  retries = l.retries;
  silence = l.silence;
  burst = l.burst;
  queue = l.queue;
}

-- the sizes of an ASDU
abbrev pub sizes_of : Option Members → Result Sizes Path
sizes_of t = do
  c ← whole_of (row (codes "cause") (codes "line.cause") 1 2 None) t
  a ← whole_of (row (codes "ca") (codes "line.ca") 1 2 None) t
  i ← whole_of (row (codes "ioa") (codes "line.ioa") 1 3 None) t
  Ok (record { cause = cause_size c; ca = ca_size a; ioa = ioa_size i })

-- how long an answer is waited for, and what follows if none comes
abbrev pub waits_of : Option Members → Result Waits Path
waits_of t = do
  m ← whole_of (row (codes "answer_ms") (codes "line.answer_ms") 1 60000 (Some 200)) t
  r ← whole_of (row (codes "retries") (codes "line.retries") 0 10 (Some 3)) t
  h ← silence_of (given_at (codes "silence") t)
  Ok (record { answer_ms = m; retries = r; silence = h })

abbrev pub line_settings : Option Members → Result Line Path
line_settings t = do
  l ← whole_of (row (codes "link") (codes "line.link") 1 2 None) t
  s ← sizes_of t
  w ← waits_of t
  b ← whole_of (row (codes "burst") (codes "line.burst") 1 255 (Some 8)) t
  q ← whole_of (row (codes "queue") (codes "line.queue") 3 65535 (Some 1000)) t
  Ok (record {
    link = link_size l;
    sizes = s;
    answer_ms = w.answer_ms;
    retries = w.retries;
    silence = w.silence;
    burst = b;
    queue = q;
  })
