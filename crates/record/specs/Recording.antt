-- The text of a record (this gateway's own profile).
use Rattle.gateway.specs.Log.{Log, with_news}
use Rattle.gateway.specs.Ports.{logged_by}
use Rattle.gateway.specs.declared.ports.Next.{Next}
use Rattle.traces.specs.Printed.{lines_of_log}
use Rattle.record.specs.Written.{log_in, IsWritten}
use Rattle.std.specs.Prelude.{◌≡◌, ℕ, Bool, true, false, List, [], ◌++◌, Option, Some, None, IfSome}
use Rattle.std.specs.Prelude.{if◌then◌else◌}

-- a text with another one behind it, if the text is given
abbrev pub added : Option (List ℕ) → List ℕ → Option (List ℕ)
added None more = None
added (Some text) more = Some (text ++ more)

-- what passed in the lives before, in which the gateway came to be as it is; what the sheet took,
-- if it says that; the lines that are held back until the next event is asked for; whether a record
-- was wished at all, which never changes; whether the record is over, since none was wished, the
-- sheet took no more, or memory ran out; and what passed unwritten, if the sheet says that
pub record Recording : Type 0 where
  pub before : Log
  pub taken : Option (List ℕ)
  pub held : List ℕ
  pub is_wished : Bool
  pub is_over : Bool
  pub missed : Option Log

-- the text of the record: what was taken, and what is held
abbrev pub text_of : Recording → Option (List ℕ)
text_of r = added r.taken r.held

-- what a text logs, and what passed unwritten, the newest first
abbrev pub logged_behind : Option (List ℕ) → Option Log → Option Log
logged_behind None missed = None
logged_behind (Some text) None = None
logged_behind (Some text) (Some missed) = Some (missed ++ log_in text)

abbrev pub log_of : Recording → Option Log
log_of r = logged_behind (text_of r) r.missed

-- what always holds of a record: its text is the lines of a log, until it is over nothing passed
-- unwritten, and one that wasn't wished is over
pub record IsKept (r : Recording) : Type 0 where
  pub written : IsWritten (text_of r)
  pub whole : r.is_over ≡ false → IfSome r.missed (λ log. log ≡ [])
  pub idle : r.is_wished ≡ false → r.is_over ≡ true

-- what is fixed of a port that is recorded: what is of the port inside, what passed before, and
-- whether a record was wished
pub record RecordedFixture (F : Type 0) : Type 0 where
  pub port : F
  pub before : Log
  pub is_wished : Bool

abbrev pub recorded_fixture : {F : Type 0} → F → Recording → RecordedFixture F
recorded_fixture port r = record { port = port; before = r.before; is_wished = r.is_wished }

-- the first of two logs that is given
abbrev pub logged_first : Option Log → Option Log → Option Log
logged_first None other = other
logged_first (Some log) other = Some log

-- what passed in the lives before, and then in this one
abbrev pub behind : (before : Log) → (this : Option Log) → Option Log
behind before None = None
behind before (Some log) = Some (log ++ before)

-- the same, if this life is known by its record, or else by its port
abbrev pub all_passed : Recording → (port : Option Log) → Option Log
all_passed r port = behind r.before (logged_first (log_of r) port)

-- a port that is recorded, and what is recorded of it
pub record Recorded (P : Type 0) : Type 0 where
  pub port : P
  pub pen : Recording

abbrev pub recorded : {P : Type 0} → P → Recording → Recorded P
recorded port pen = record { port = port; pen = pen }

-- if both say what passed, they say the same
abbrev pub AreAgreed : Recording → (port : Option Log) → Type 0
AreAgreed r port = IfSome port (λ log. logged_first (log_of r) (Some log) ≡ Some log)

-- nothing is written any more once the record is over
abbrev pub unless_over : Recording → Recording → Recording
unless_over old new = if old.is_over then old else new

-- the sheet takes what is held, or the record is over
abbrev pub given : (taken : Bool) → Recording → Recording
given true r = record r { taken = added r.taken r.held; held = [] }
given false r = record r { is_over = true }

-- the sheet was given what is held
pub record Gives (old new : Recording) : Type 0 where
  pub taken : Bool
  pub done : new ≡ unless_over old (given taken old)

-- what passes once the record is over isn't written
abbrev pub passed : Log → Recording → Recording
passed news r = record r { missed = with_news r.missed news }

-- lines are held, or there is no memory for them, and the record is over
abbrev pub held_or_over : (has_memory : Bool) → List ℕ → Recording → Recording
held_or_over true lines r = record r { held = r.held ++ lines }
held_or_over false lines r = record r { is_over = true }

-- the lines of what passed are held, or the record is over
abbrev pub held_by : (has_memory : Bool) → Log → Recording → Recording
held_by true news r = held_or_over true (lines_of_log news) r
held_by false news r = passed news (held_or_over false (lines_of_log news) r)

-- this passed, and was written down unless the record is over
pub record Notes (old : Recording) (news : Log) (new : Recording) : Type 0 where
  pub has_memory : Bool
  pub done : new ≡ (if old.is_over then passed news old else held_by has_memory news old)

-- an event was written down, and the sheet was given what is held
pub record Receives (old : Recording) (next : Next) (buf : List ℕ) (new : Recording) : Type 0 where
  pub noted : Recording
  pub notes : Notes old (logged_by next buf) noted
  pub gives : Gives noted new

-- an action was written down, if it went out
abbrev pub Puts : (has_gone : Bool) → Recording → Log → Recording → Type 0
Puts true old news new = Notes old news new
Puts false old news new = new ≡ old
