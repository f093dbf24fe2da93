-- How long requests have gone out to a stream that gives nothing (this gateway's own profile).
use Rattle.std.specs.Prelude.{ℕ, ◌+◌, ◌-◌, ◌*◌, min, nat_le, Bool, Option, Some, None}
use Rattle.live.specs.declared.silence.Silence.{Silence}

-- octets came, so that the next silence is borne for 30 s
abbrev pub no_silence : Silence
no_silence = record { asked = None; counted = 0; patience = 30000 }

-- between two requests 5 s count at the most
abbrev pub step_of : (asked : Option ℕ) → (now : ℕ) → ℕ
step_of None now = 0
step_of (Some last) now = min 5000 (now - last)

abbrev pub counted_by : (counted : ℕ) → (asked : Option ℕ) → (now : ℕ) → ℕ
counted_by counted asked now = min 240000 (counted + step_of asked now)

-- a request goes out at this moment
abbrev pub asked_at : (now : ℕ) → Silence → Silence
asked_at now s = record s { asked = Some now; counted = counted_by s.counted s.asked now }

-- it is borne no longer
abbrev pub is_over : Silence → Bool
is_over s = nat_le s.patience s.counted

-- a stream was reached
abbrev pub begun_anew : Silence → Silence
begun_anew s = record s { asked = None; counted = 0 }

-- the stream was closed for it, so that the next one's is borne for twice as long, up to 240 s
abbrev pub borne_longer : Silence → Silence
borne_longer s = record s { patience = min 240000 (2 * s.patience) }
