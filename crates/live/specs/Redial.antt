-- A stream that is reached again when it has gone (this gateway's own profile).
use Rattle.std.specs.Prelude.{◌≡◌, ℕ, ◌+◌, ◌-◌, ◌*◌, min, nat_le, List, ◌∷◌, Bool, true, false}
use Rattle.std.specs.Prelude.{Option}
use Rattle.std.specs.Prelude.{IfSome, None, Some, is_some}
use Rattle.live.specs.OctetStreams.{StreamHistory, Dropped, WasGone, Wrote, noted, IsNew, Attempts}
use Rattle.live.specs.OctetStreams.{attempted}
use Rattle.live.specs.Timing.{Moments, read_at}
use Rattle.live.specs.Ends.{read_open}
use Rattle.live.specs.Silence.{asked_at, begun_anew, borne_longer, is_over, no_silence}
use Rattle.live.specs.declared.silence.Silence.{Silence}
use Rattle.live.specs.declared.redial.Dialled.{Dialled}
use Rattle.live.specs.declared.redial.Dialled.TheVariants.{Reached, Pending, Failed}
use Rattle.live.specs.declared.ends.Got.{Got}
use Rattle.live.specs.declared.ends.Got.TheVariants.{Octets, Quiet, Gone}
use Rattle.live.specs.declared.ends.Presence.{Presence}
use Rattle.live.specs.declared.ends.Presence.TheVariants.{Away, Silent, There, Receiving}

-- a call of a dialler, and whether it reached a stream: to begin a try, or to ask what has become
-- of
-- the one that goes on
pub data DialCall : Type 0 where
  Dialed : (reached : Bool) → DialCall
  Asked : (reached : Bool) → DialCall

-- the calls of a dialler, the newest first, if it notes them
abbrev pub DialCalls : Type 0
DialCalls = Option (List DialCall)

abbrev pub dial_noted : DialCalls → DialCall → DialCalls
dial_noted None call = None
dial_noted (Some before) call = Some (call ∷ before)

-- how often a dialler has waited, if it notes that
abbrev pub Pauses : Type 0
Pauses = Option ℕ

abbrev pub paused : Pauses → Pauses
paused None = None
paused (Some count) = Some (count + 1)

abbrev pub is_reached : {A : Type 0} → Dialled A → Bool
is_reached (Reached stream) = true
is_reached Pending = false
is_reached (Failed cause) = false

-- Whether each try that ended reached a stream, the dialler's calls, how often it has waited, what
-- the clock gave, what happened at the stream, if there is one, and at one that was found gone,
-- until the next look, when the last try began, whether it goes on, how long after it the next one
-- begins, in ms, how long requests have gone out for nothing, and what is known of the stream.
pub record Redial : Type 0 where
  pub tries : Attempts
  pub calls : DialCalls
  pub pauses : Pauses
  pub clock : Moments
  pub stream : Option StreamHistory
  pub gone : Option StreamHistory
  pub tried : Option ℕ
  pub is_trying : Bool
  pub wait : ℕ
  pub silence : Silence
  pub presence : Presence

-- a try that ended is noted
abbrev pub ended : {A : Type 0} → Attempts → Dialled A → Attempts
ended tries (Reached stream) = attempted tries true
ended tries Pending = tries
ended tries (Failed cause) = attempted tries false

-- this holds of the stream that was reached, if one was
abbrev pub IfReached : {A : Type 0} → Dialled A → (A → Type 0) → Type 0
IfReached (Reached stream) Holds = Holds stream
IfReached Pending Holds = Unit {0}
IfReached (Failed cause) Holds = Unit {0}

-- a try begins at once, and then so long after the last one began; none while one goes on
abbrev pub is_due_by : (is_trying : Bool) → Option ℕ → (wait now : ℕ) → Bool
is_due_by true tried wait now = false
is_due_by false None wait now = true
is_due_by false (Some last) wait now = nat_le wait (now - last)

abbrev pub is_due : Redial → ℕ → Bool
is_due r now = is_due_by r.is_trying r.tried r.wait now

-- twice as long, up to 30 s
abbrev pub grown : ℕ → ℕ
grown wait = min 30000 (2 * wait)

-- the clock gives this moment, and a stream that was found gone before is let go
abbrev pub clock_read_at : ℕ → Redial → Redial
clock_read_at now r = record r { clock = read_at r.clock now; gone = None }

-- what has become of a try of such a stream
abbrev pub dialled_map : {A B : Type 0} → (A → B) → Dialled A → Dialled B
dialled_map f (Reached stream) = Reached (f stream)
dialled_map f Pending = Pending
dialled_map f (Failed cause) = Failed cause

-- what is known of a stream that was just reached
abbrev pub known_reached : Presence → Presence
known_reached Silent = Silent
known_reached before = There

-- A stream that is reached is there; if it gives nothing the next try is farther away.
abbrev pub settled : Dialled StreamHistory → Redial → Redial
settled (Reached stream) r = record r {
  stream = Some stream;
  is_trying = false;
  wait = grown r.wait;
  silence = begun_anew r.silence;
  presence = known_reached r.presence;
}
settled Pending r = record r { is_trying = true }
settled (Failed cause) r = record r { is_trying = false; presence = Away (Some cause) }

-- by such a call
abbrev pub answered : (call : Bool → DialCall) → Dialled StreamHistory → Redial → Redial
answered call answer r = settled answer (record r {
  tries = ended r.tries answer;
  calls = dial_noted r.calls (call (is_reached answer));
})

pub record IsTryAnswered (call : Bool → DialCall) (old new : Redial) : Type 0 where
  pub answer : Dialled StreamHistory
  pub is_new : IfReached answer IsNew
  pub done : new ≡ answered call answer old

-- if one is due it begins
abbrev pub begun_by : Bool → ℕ → Dialled StreamHistory → Redial → Redial
begun_by false now answer r = r
begun_by true now answer r = answered Dialed answer (record r { tried = Some now })

-- if one goes on, it is asked what has become of it
abbrev pub tried_by : (is_trying : Bool) → ℕ → Dialled StreamHistory → Redial → Redial
tried_by true now answer r = answered Asked answer r
tried_by false now answer r = begun_by (is_due r now) now answer r

pub record IsTriedOn (now : ℕ) (old new : Redial) : Type 0 where
  pub answer : Dialled StreamHistory
  pub is_new : IfReached answer IsNew
  pub done : new ≡ tried_by old.is_trying now answer old

-- a stream that has gone is quiet
abbrev pub quieted : Got → Got
quieted (Octets len) = Octets len
quieted Quiet = Quiet
quieted Gone = Quiet

-- once it has given octets the next try follows within a second again
abbrev pub known_by : Got → Redial → Redial
known_by (Octets len) r = record r { wait = 1000; silence = no_silence; presence = Receiving }
known_by Quiet r = r
known_by Gone r = record r { presence = Away None }

-- the stream that was found gone
abbrev pub gone_by : StreamHistory → Got → (before : Option StreamHistory) → Option StreamHistory
gone_by stream Gone before = Some (noted stream WasGone)
gone_by stream got before = before

-- one that has given nothing for too long is closed, and kept until the next look
abbrev pub closed_by : Bool → Redial → Redial
closed_by false r = r
closed_by true r = record r {
  stream = None;
  gone = r.stream;
  silence = borne_longer r.silence;
  presence = Silent;
}

abbrev pub is_closed : Got → Silence → Bool
is_closed Quiet s = is_over s
is_closed got s = false

-- it has waited once more
abbrev pub waited : Redial → Redial
waited r = record r { pauses = paused r.pauses }

-- A look: at the stream, if there is one, which is none any more if it has gone. Else it is tried
-- to reach one, and waited once.
abbrev pub looked_by : Option StreamHistory → ℕ → Dialled StreamHistory → Got → (buf : List ℕ)
    → Redial
    → Got × Redial
looked_by None now answer got buf r =
    (Quiet, waited (tried_by r.is_trying now answer (clock_read_at now r)))
looked_by (Some stream) now answer got buf r = (
  quieted got,
  closed_by (is_closed got r.silence) (known_by got (record r {
    stream = read_open stream got buf;
    gone = gone_by stream got r.gone;
  })),
)

pub record IsRedialled (old : Redial) (got : Got) (buf : List ℕ) (new : Redial) : Type 0 where
  pub now : ℕ
  pub answer : Dialled StreamHistory
  pub is_new : IfReached answer IsNew
  pub found : Got
  pub looked : (got, new) ≡ looked_by old.stream now answer found buf old

-- so many octets that have come are dropped, if there is a stream
abbrev pub dropped_by : Option StreamHistory → (count : ℕ) → Redial → ℕ × Redial
dropped_by None count r = (0, r)
dropped_by (Some stream) count r =
    (count, record r { stream = Some (noted stream (Dropped count)) })

pub record HasDropped (old : Redial) (count : ℕ) (new : Redial) : Type 0 where
  pub waiting : ℕ
  pub dropped : (count, new) ≡ dropped_by old.stream waiting old

-- Octets are put on the stream, if there is one; else they aren't taken. The clock gives this
-- moment behind that.
abbrev pub put_by : Option StreamHistory → List ℕ → Bool → (now : ℕ) → Redial → Bool × Redial
put_by None octets taken now r = (false, r)
put_by (Some stream) octets taken now r = (
  taken,
  record r {
    clock = read_at r.clock now;
    stream = Some (noted stream (Wrote octets taken));
    silence = asked_at now r.silence;
  },
)

pub record IsPut (old : Redial) (octets : List ℕ) (is_taken : Bool) (new : Redial) : Type 0 where
  pub taken : Bool
  pub now : ℕ
  pub put : (is_taken, new) ≡ put_by old.stream octets taken now old

-- A try begins at this moment, by one call of the dialler.
abbrev pub BeginsTry : (now : ℕ) → (old new : Redial) → Type 0
BeginsTry now old new = (new.tried ≡ Some now)
    × IfSome old.calls (λ before. new.calls ≡ Some (Dialed (is_some new.stream) ∷ before))
