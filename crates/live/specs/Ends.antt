-- The ends of a live run, and what its port does with them (this gateway's own profile).
use Rattle.std.specs.Prelude.{ℕ, ◌+◌, ◌-◌, ◌^◌, ◌≤◌, min, nat_le, ◌⊎◌, List, [], ◌∷◌, ◌++◌, length}
use Rattle.std.specs.Prelude.{take, Bool, true, false, not, ◌&&◌, ◌||◌, Option, Some, None, IfSome}
use Rattle.std.specs.Prelude.{◌≡◌, nat_lt, if◌then◌else◌}
use Rattle.gateway.specs.Log.{Log, Went, Output, LineOut, TcpOut, Closed, GapOut}
use Rattle.gateway.specs.Ports.{logged_by}
use Rattle.gateway.specs.declared.ports.Next.{Next}
use Rattle.gateway.specs.declared.ports.Next.TheVariants as next
use Rattle.session.specs.declared.kinds.Close.{Close}
use Rattle.session.specs.declared.kinds.Close.TheVariants.{Replaced}
use Rattle.std.specs.declared.net.ip_addr.IpAddr.{IpAddr}
use Rattle.live.specs.AllowLists.{Allows, AreStrangers, Refusals, refusing}
use Rattle.live.specs.declared.allow_list.AllowList.{AllowList}
use Rattle.live.specs.OctetStreams.{looked, Dropped, WasGone, Wrote, StreamHistory, noted, IsNew}
use Rattle.live.specs.OctetStreams.{Attempts, attempted}
use Rattle.live.specs.declared.ends.Got.{Got}
use Rattle.live.specs.declared.ends.Got.TheVariants.{Octets, Quiet, Gone}
use Rattle.live.specs.Streams.{ends_frame}
use Rattle.live.specs.Timing.{Moments, read_at, moment_at, is_behind, is_awaited, line_looked_at}
use Rattle.live.specs.Timing.{asked_at, told_at}
use Rattle.live.specs.Walls.{is_wall_due, given_at_moment, never_given}
use Rattle.live.specs.declared.timing.Timing.{Timing}
use Rattle.live.specs.declared.walled.Walled.{Walled}
use Rattle.live.specs.declared.found.SourceEvent.{SourceEvent}
use Rattle.live.specs.declared.found.SourceEvent.TheVariants as found
use Rattle.live.specs.declared.source.EventSource.{EventSource}
use Rattle.live.specs.declared.source.EventSource.TheVariants.{Listener, Connection, Line}
use Rattle.live.specs.declared.ends.Presence.{Presence}
use Rattle.live.specs.declared.ends.CutCause.{CutCause}
use Rattle.live.specs.declared.ends.CutCause.TheVariants as cause
use Rattle.live.specs.declared.watched.Failure.{Failure}
use Rattle.live.specs.declared.watched.Failure.TheVariants as failure

-- who is at the other end of a connection, and what has happened at its stream
pub record Peer : Type 0 where
  pub address : IpAddr
  pub stream : StreamHistory

-- nothing has happened at the stream, and the address is allowed
pub record IsAllowedPeer (allow_list : AllowList) (peer : Peer) : Type 0 where
  pub is_new : IsNew peer.stream
  pub allows : Allows allow_list peer.address

-- Who may connect; what happened at the line, and whether it is there, if it says that; what
-- happened at the connection, if there is one, and at the listener, and whom that refused; octets
-- of that connection that came and haven't been given; what happened at the stream of a connection
-- that was found gone, until the ends are looked at again; what the clock gave; the source that is
-- looked at first; whether a write to the connection failed, so that a cut is due; whether the run
-- goes on after a restart; why the latest connection that was cut was cut; how often the line was
-- gone; how many of its octets were dropped before requests; what decides the moment of an event;
-- what the wall clock showed, and when it was given last; and the log, the newest entry first.
pub record LiveEnds : Type 0 where
  pub allow_list : AllowList
  pub line : StreamHistory
  pub presence : Option Presence
  pub connection : Option Peer
  pub held : List ℕ
  pub gone : Option StreamHistory
  pub listener : Attempts
  pub refusals : Refusals
  pub clock : Moments
  pub first : EventSource
  pub is_cut_due : Bool
  pub goes_on : Bool
  pub why_cut : CutCause
  pub failed : ℕ
  pub late : ℕ
  pub timing : Timing
  pub walls : Moments
  pub walled : Walled
  pub log : Log

-- the ends when a run begins, before anything has come; an answer is awaited for so long, in ms
abbrev pub begun_with : AllowList → (line : StreamHistory) → Option Presence
    → (listener : Attempts) → Refusals → (clock walls : Moments) → (answer_ms : ℕ) → LiveEnds
begun_with allow_list line presence listener refusals clock walls answer_ms = record {
  allow_list = allow_list;
  line = line;
  presence = presence;
  connection = None;
  held = [];
  gone = None;
  listener = listener;
  refusals = refusals;
  clock = clock;
  first = Listener;
  is_cut_due = false;
  goes_on = false;
  why_cut = cause.Gone;
  failed = 0;
  late = 0;
  timing = record { answer_ms = answer_ms; looked = 0; request = None };
  walls = walls;
  walled = never_given;
  log = [];
}

-- what is fixed of a port from its start: who may connect, how long an answer is awaited, in ms,
-- and whether the run goes on after a restart
pub record Fixture : Type 0 where
  pub allow_list : AllowList
  pub answer_ms : ℕ
  pub goes_on : Bool

abbrev pub fixed_of : LiveEnds → Fixture
fixed_of e = record {
  allow_list = e.allow_list;
  answer_ms = e.timing.answer_ms;
  goes_on =
      e.goes_on;
}

-- the sources in their round
abbrev pub after : EventSource → EventSource
after Listener = Connection
after Connection = Line
after Line = Listener

-- what the ends answer in one round, each if it is looked at: who connects, with what happened at
-- the stream so far; who is refused, the newest first; and whether the line is there then, if it
-- says that
pub record Answers : Type 0 where
  pub peer : Option Peer
  pub refused : List IpAddr
  pub connection : Got
  pub line : Got
  pub presence : Option Presence

-- a new connection is found
abbrev pub of_peer : Option Peer → Option SourceEvent
of_peer None = None
of_peer (Some peer) = Some found.Open

-- what a look at the connection finds
abbrev pub of_connection : Got → Option SourceEvent
of_connection (Octets len) = Some (found.Bytes len)
of_connection Quiet = None
of_connection Gone = Some found.Cut

abbrev pub of_open : Option Peer → Got → Option SourceEvent
of_open None got = None
of_open (Some peer) got = of_connection got

-- what a look at the line finds
abbrev pub of_line : Got → Option SourceEvent
of_line (Octets len) = Some (found.Line len)
of_line Quiet = None
of_line Gone = Some found.Fault

-- what is found at a source, if anything is
abbrev pub found_at : EventSource → Answers → LiveEnds → Option SourceEvent
found_at Listener answers ends = of_peer answers.peer
found_at Connection answers ends = of_open ends.connection answers.connection
found_at Line answers ends = of_line answers.line

-- who connects takes the place of the connection that was, with its octets
abbrev pub accepted : Option Peer → LiveEnds → LiveEnds
accepted None ends = record ends { listener = attempted ends.listener false }
accepted (Some peer) ends =
    record ends { listener = attempted ends.listener true; connection = Some peer; held = [] }

-- these were refused
abbrev pub turned_away : (refused : List IpAddr) → LiveEnds → LiveEnds
turned_away refused ends = record ends { refusals = refusing refused ends.refusals }

-- a connection that is gone is none any more
abbrev pub read_open : StreamHistory → Got → (buf : List ℕ) → Option StreamHistory
read_open stream (Octets len) buf = Some (noted stream (looked (Octets len) buf))
read_open stream Quiet buf = Some (noted stream (looked Quiet buf))
read_open stream Gone buf = None

abbrev pub at_address : IpAddr → Option StreamHistory → Option Peer
at_address address None = None
at_address address (Some stream) = Some (record { address = address; stream = stream })

abbrev pub read_from : Option Peer → Got → (buf : List ℕ) → Option Peer
read_from None got buf = None
read_from (Some peer) got buf = at_address peer.address (read_open peer.stream got buf)

-- a connection that is gone is cut for that reason
abbrev pub why_by_look : Option Peer → Got → CutCause → CutCause
why_by_look (Some peer) Gone why = cause.Gone
why_by_look _ got why = why

-- its stream is the one that was found gone
abbrev pub gone_by : Option Peer → Got → (before : Option StreamHistory) → Option StreamHistory
gone_by (Some peer) Gone before = Some (noted peer.stream WasGone)
gone_by _ got before = before

-- the ends after a look at the connection
abbrev pub peer_read : Option Peer → Got → (buf : List ℕ) → LiveEnds → LiveEnds
peer_read peer got buf ends = record ends {
  connection = read_from peer got buf;
  why_cut = why_by_look peer got ends.why_cut;
  gone = gone_by peer got ends.gone;
}

-- a line that is gone has failed once more
abbrev pub failed_by : Got → ℕ → ℕ
failed_by (Octets len) failed = failed
failed_by Quiet failed = failed
failed_by Gone failed = failed + 1

-- the ends after a look at a source, before which the clock gave this moment, and after which the
-- buffer has this
abbrev pub looked_at : EventSource → ℕ → Answers → (buf : List ℕ) → LiveEnds → LiveEnds
looked_at Listener begun answers buf ends =
    accepted answers.peer (turned_away answers.refused ends)
looked_at Connection begun answers buf ends =
    peer_read ends.connection answers.connection buf ends
looked_at Line begun answers buf ends = record ends {
  line = noted ends.line (looked answers.line buf);
  presence = answers.presence;
  failed = failed_by answers.line ends.failed;
  timing = line_looked_at begun ends.timing;
}

-- if something is found, the next round begins after its source
abbrev pub next_round : EventSource → Option SourceEvent → LiveEnds → LiveEnds
next_round source None ends = ends
next_round source (Some f) ends = record ends { first = after source }

-- A look at a source, and the others if it finds nothing.
abbrev pub unless_found : Option SourceEvent → LiveEnds → (LiveEnds → Option SourceEvent × LiveEnds)
    → Option SourceEvent × LiveEnds
unless_found None ends others = others ends
unless_found (Some f) ends others = (Some f, ends)

abbrev pub look : EventSource → ℕ → Answers → (buf : List ℕ) → LiveEnds
    → (LiveEnds → Option SourceEvent × LiveEnds)
    → Option SourceEvent × LiveEnds
look source begun answers buf ends others =
    let f = found_at source answers ends in
    unless_found f (next_round source f (looked_at source begun answers buf ends)) others

-- no other is looked at
abbrev pub nothing_more : LiveEnds → Option SourceEvent × LiveEnds
nothing_more ends = (None, ends)

-- The sources are looked at in turn, beginning with `first`, until something is found; the next
-- round begins after that source. The buffer has what the last look put there.
abbrev pub round : ℕ → Answers → (buf : List ℕ) → LiveEnds → Option SourceEvent × LiveEnds
round begun answers buf ends =
    look ends.first begun answers buf ends
    (λ e. look (after ends.first) begun answers buf e
    (λ e. look (after (after ends.first)) begun answers buf e nothing_more))

-- octets that are held come before any look, as an event of the connection
abbrev pub held_by : (held : List ℕ) → ℕ → Answers → (buf : List ℕ) → LiveEnds → Option SourceEvent
    × LiveEnds
held_by [] begun answers buf ends = round begun answers buf ends
held_by (octet ∷ octets) begun answers buf ends = (
  Some (found.Bytes (length (octet ∷ octets))),
  record ends { held = []; first = after Connection },
)

-- If the moment of an event would be too far behind the clock, only the line is looked at.
abbrev pub sources_by : Bool → ℕ → Answers → (buf : List ℕ) → LiveEnds → Option SourceEvent
    × LiveEnds
sources_by true begun answers buf ends = look Line begun answers buf ends nothing_more
sources_by false begun answers buf ends = held_by ends.held begun answers buf ends

-- a cut that is due comes before any source is looked at, as an event of the connection, which is
-- no more
abbrev pub turn_by : Bool → ℕ → Answers → (buf : List ℕ) → LiveEnds → Option SourceEvent × LiveEnds
turn_by true begun answers buf ends = (
  Some found.Cut,
  record ends {
    connection = None;
    held = [];
    first = after Connection;
    is_cut_due = false;
  },
)
turn_by false begun answers buf ends =
    sources_by (is_behind ends.timing begun) begun answers buf ends

abbrev pub turn : ℕ → Answers → (buf : List ℕ) → LiveEnds → Option SourceEvent × LiveEnds
turn begun answers buf ends = turn_by ends.is_cut_due begun answers buf ends

-- the buffer begins with the octets that were held, if they are given
abbrev pub IsFront : (is_cut_due is_behind : Bool) → (held buf : List ℕ) → Type 0
IsFront true is_behind held buf = Unit {0}
IsFront false true held buf = Unit {0}
IsFront false false held buf = take (length held) buf ≡ held

-- octets of the line that end as a frame does
abbrev pub brings_frame : Option SourceEvent → (buf : List ℕ) → Bool
brings_frame (Some (found.Line len)) buf = ends_frame (take len buf)
brings_frame _ buf = false

-- Octets of the connection that would bear a moment too far behind the clock are held: they are
-- given once no moment is that far behind.
abbrev pub taken_by : Bool → (buf : List ℕ) → Option SourceEvent → LiveEnds → Option SourceEvent
    × LiveEnds
taken_by true buf (Some (found.Bytes len)) ends = (None, record ends { held = take len buf })
taken_by true buf f ends = (f, ends)
taken_by false buf f ends = (f, ends)

-- only a line that is gone is a failure
-- what has failed of a port whose line was gone so often
abbrev pub failure_of : (failed : ℕ) → Option Failure
failure_of failed = if nat_lt 0 failed then Some failure.Line else None

abbrev pub faults_in : Option SourceEvent → ℕ
faults_in None = 0
faults_in (Some found.Open) = 0
faults_in (Some (found.Bytes len)) = 0
faults_in (Some found.Cut) = 0
faults_in (Some (found.Line len)) = 0
faults_in (Some found.Fault) = 1

-- octets that were found are at least one, and within the buffer
abbrev pub FitsFound : SourceEvent → Type 0
FitsFound found.Open = Unit {0}
FitsFound (found.Bytes len) = (1 ≤ len) × (len ≤ 1024)
FitsFound found.Cut = Unit {0}
FitsFound (found.Line len) = (1 ≤ len) × (len ≤ 1024)
FitsFound found.Fault = Unit {0}

-- what was found, as an event; if nothing was, only time passed
abbrev pub event_at : ℕ → Option SourceEvent → Next
event_at now None = next.Tick now
event_at now (Some found.Open) = next.Open now
event_at now (Some (found.Bytes len)) = next.Bytes now len
event_at now (Some found.Cut) = next.Cut now
event_at now (Some (found.Line len)) = next.Line now len
event_at now (Some found.Fault) = next.Fault

-- what was found, and the ends after it, are those of a turn in which the ends answered so
pub record IsTurn (begun : ℕ) (old : LiveEnds) (f : Option SourceEvent) (buf : List ℕ)
    (new : LiveEnds)
    : Type 0 where
  pub answers : Answers
  pub peer : IfSome answers.peer (IsAllowedPeer old.allow_list)
  pub strangers : AreStrangers old.allow_list answers.refused
  pub front : IsFront old.is_cut_due (is_behind old.timing begun) old.held buf
  pub turned : (f, new) ≡ turn begun answers buf old

-- the clock gives this moment
abbrev pub clock_read_at : ℕ → LiveEnds → LiveEnds
clock_read_at now ends = record ends { clock = read_at ends.clock now }

-- what was found when the clock was read again, as an event
pub record GivesEvent (now : ℕ) (old : LiveEnds) (f : Option SourceEvent) (event : Next)
    (buf : List ℕ)
    (new : LiveEnds) : Type 0 where
  pub taken : Option SourceEvent
  pub ends : (taken, new) ≡ taken_by (is_behind old.timing now) buf f old
  pub given : event ≡ event_at (told_at new.timing (brings_frame taken buf) now) taken

-- the wall clock shows this, and is given at this moment of the clock
abbrev pub wall_given_at : (now shown : ℕ) → LiveEnds → LiveEnds
wall_given_at now shown ends = record ends {
  walls = read_at ends.walls shown;
  walled = given_at_moment now;
}

-- It is given as it stood at the moment that is due, which may be behind the clock.
pub record GivesWall (now : ℕ) (old : LiveEnds) (event : Next) (new : LiveEnds) : Type 0 where
  pub shown : ℕ
  pub ends : new ≡ wall_given_at now shown old
  pub given :
      event ≡ next.Wall (moment_at old.timing now) (shown - (now - moment_at old.timing now))

-- If the wall clock is due, it is given, and no end is looked at.
pub record TurnsToWall (old : LiveEnds) (event : Next) (new : LiveEnds) : Type 0 where
  pub begun : ℕ
  pub due : is_wall_due old.walled begun ≡ true
  pub given : GivesWall begun (clock_read_at begun old) event new

-- the ends are looked at, and the stream that was found gone before is let go
abbrev pub looking : LiveEnds → LiveEnds
looking ends = record ends { walled = record ends.walled { has_looked = true }; gone = None }

-- Behind a round that found nothing a tick is due if 100 ms have passed since the first round
-- began, if the time of the exchange has ended since then, or if the wall clock is due.
abbrev pub is_tick_due : (first : ℕ) → (was_awaited : Bool) → (now : ℕ) → LiveEnds → Bool
is_tick_due first was_awaited now ends =
    nat_le 100 (now - first)
    || (was_awaited && not (is_awaited ends.timing) || is_wall_due ends.walled now)

-- So many rounds of looks, the first of which began at this moment, that found nothing, and behind
-- none of which a tick was due. Behind each the clock was read, and the next begins then.
pub data QuietRounds (start : LiveEnds) (first : ℕ) : (count begun : ℕ) → LiveEnds → Type 0 where
  NoRound : QuietRounds start first 0 first start
  OneRound : (count begun now : ℕ) → (before found : LiveEnds) → (buf : List ℕ)
      → QuietRounds start first count begun before → IsTurn begun before None buf found
      → is_tick_due first (is_awaited start.timing) now found ≡ false
      → QuietRounds start first (count + 1) now (clock_read_at now found)

-- The last round found something, or a tick is due behind it, or it is the 201st.
abbrev pub IsLast : (is_due : Bool) → (count : ℕ) → Option SourceEvent → Type 0
IsLast is_due count None = (is_due ≡ true) ⊎ (count ≡ 200)
IsLast is_due count (Some f) = Unit {0}

-- The ends were looked at round by round from `first` on, up to a last round, behind which the
-- clock gave `now`.
pub record LooksOn (first : ℕ) (old : LiveEnds) (now : ℕ) (f : Option SourceEvent) (buf : List ℕ)
    (new : LiveEnds) : Type 0 where
  pub count : ℕ
  pub begun : ℕ
  pub before : LiveEnds
  pub quiet : QuietRounds old first count begun before
  pub found : LiveEnds
  pub turn : IsTurn begun before f buf found
  pub last : IsLast (is_tick_due first (is_awaited old.timing) now found) count f
  pub done : new ≡ clock_read_at now found

-- If it isn't due, the clock is read before the looks and after them, and what was found is an
-- event of the moment that is due.
pub record TurnsToEnds (old : LiveEnds) (event : Next) (buf : List ℕ) (new : LiveEnds) : Type
    0 where
  pub first : ℕ
  pub due : is_wall_due old.walled first ≡ false
  pub now : ℕ
  pub f : Option SourceEvent
  pub found : LiveEnds
  pub looks : LooksOn first (looking (clock_read_at first old)) now f buf found
  pub given : GivesEvent now found f event buf new

abbrev pub Turns : LiveEnds → Next → (buf : List ℕ) → LiveEnds → Type 0
Turns old event buf new = TurnsToWall old event new ⊎ TurnsToEnds old event buf new

-- with this log
abbrev pub as_logged : Log → LiveEnds → LiveEnds
as_logged log ends = record ends { log = log }

-- The ends turned so, and the log has what the event brings. Its octets are the front of the
-- buffer.
pub record LogsTurn (old : LiveEnds) (event : Next) (buf : List ℕ) (new : LiveEnds) : Type 0 where
  pub turns : Turns old event buf (as_logged old.log new)
  pub logged : new.log ≡ logged_by event buf ++ old.log

-- a connection that didn't take what was written to it is cut for that reason
abbrev pub why_by_write : (taken : Bool) → CutCause → CutCause
why_by_write true why = why
why_by_write false why = cause.NotTaken

-- the ends after octets for the connection: they are dropped if there is none, and if a cut is due
abbrev pub written_open : Bool → List ℕ → Bool → Option Peer → LiveEnds → LiveEnds
written_open true octets taken peer ends = ends
written_open false octets taken None ends = ends
written_open false octets taken (Some peer) ends =
    record ends {
      connection = Some (record peer { stream = noted peer.stream (Wrote octets taken) });
      is_cut_due = not taken;
      why_cut = why_by_write taken ends.why_cut;
    }

-- octets for the connection were put out so, taken or not
pub record IsWritten (old : LiveEnds) (octets : List ℕ) (new : LiveEnds) : Type 0 where
  pub taken : Bool
  pub done : new ≡ written_open old.is_cut_due octets taken old.connection old

-- A close ends the connection, and with it its octets and a cut that was due. That of a connection
-- which another has replaced has nothing more to end.
abbrev pub closed_by : Close → LiveEnds → LiveEnds
closed_by Replaced ends = ends
closed_by _ ends = record ends { connection = None; held = []; is_cut_due = false }

-- so many octets more, as far as 64 bits count
abbrev pub more : (count late : ℕ) → ℕ
more count late = min (late + count) (2 ^ 64 - 1)

-- The ends after an action of this moment, by whether the stream that it goes to took the octets. A
-- write to the connection that failed makes a cut due, one to the line loses a request. Before a
-- request is written so many octets that came from the line are dropped, and once it is written the
-- clock is read.
abbrev pub after_action : ℕ → Output → ℕ → Bool → (late : ℕ) → LiveEnds → LiveEnds
after_action moment (LineOut octets) written taken late ends = record ends {
  line = noted (noted ends.line (Dropped late)) (Wrote octets taken);
  late = more late ends.late;
  clock = read_at ends.clock written;
  timing = asked_at moment written ends.timing;
}
after_action moment (TcpOut octets) written taken late ends =
    written_open ends.is_cut_due octets taken ends.connection ends
after_action moment (Closed cause) written taken late ends = closed_by cause ends
after_action moment (GapOut station session) written taken late ends = ends

-- the action was put out so
pub record PutsOut (old : LiveEnds) (moment : ℕ) (action : Output) (new : LiveEnds) : Type 0 where
  pub written : ℕ
  pub taken : Bool
  pub late : ℕ
  pub done : new ≡ after_action moment action written taken late old

-- the action was put out so, and the log has it
pub record LogsPut (old : LiveEnds) (moment : ℕ) (action : Output) (new : LiveEnds) : Type 0 where
  pub puts : PutsOut old moment action (as_logged old.log new)
  pub logged : new.log ≡ Went moment action ∷ old.log
