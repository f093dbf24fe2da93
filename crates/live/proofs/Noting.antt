-- Ends that note what happens at them go on noting it.
use Rattle.std.proofs.Common.{◌≡◌, ℕ, Bool, true, false, List, Option, Some, None, is_some, refl}
use Rattle.std.proofs.Common.{ap, ◌∙◌}
use Rattle.gateway.specs.Log.{Output}
use Rattle.live.specs.Timing.{Moments, read_at}
use Rattle.live.specs.OctetStreams.{Happening, Dropped, StreamHistory, noted, Attempts, attempted}
use Rattle.live.specs.OctetStreams.{Wrote}
use Rattle.live.specs.Ends.{LiveEnds, Peer, Answers, PutsOut, as_logged, looked_at, accepted}
use Rattle.live.specs.Ends.{turned_away}
use Rattle.live.specs.Ends.{after_action}
use Rattle.live.specs.Passed.{LiveRun, Begun, Turned, Put, NotesStill}
use Rattle.live.proofs.Apart.{Apart, apart_by, clock_of, clock_apart}
use Rattle.live.proofs.Rounds.{Aside, turn_still}
use Rattle.live.specs.declared.source.EventSource.{EventSource}
use Rattle.live.specs.declared.source.EventSource.TheVariants.{Listener, Connection, Line}
use Rattle.live.proofs.Beside.{action_beside}

-- one more keeps it noted
noted_still : (h : StreamHistory) (new : Happening) → is_some (noted h new) ≡ is_some h
noted_still None new = refl
noted_still (Some before) new = refl

attempted_still : (v : Attempts) (here : Bool) → is_some (attempted v here) ≡ is_some v
attempted_still None here = refl
attempted_still (Some before) here = refl

read_still : (given : Moments) (now : ℕ) → is_some (read_at given now) ≡ is_some given
read_still None now = refl
read_still (Some before) now = refl

abbrev notes_line : LiveEnds → Bool
notes_line e = is_some e.line

abbrev notes_listener : LiveEnds → Bool
notes_listener e = is_some e.listener

abbrev notes_clock : LiveEnds → Bool
notes_clock e = is_some e.clock

abbrev notes_walls : LiveEnds → Bool
notes_walls e = is_some e.walls

line_at_listener : (v : Option Peer) (e : LiveEnds) → notes_line (accepted v e) ≡ notes_line e
line_at_listener None e = refl
line_at_listener (Some peer) e = refl

line_looked : (s : EventSource) (t : ℕ) (a : Answers) (buf : List ℕ) (e : LiveEnds)
    → notes_line (looked_at s t a buf e) ≡ notes_line e
line_looked Listener t a buf e = line_at_listener a.peer (turned_away a.refused e)
line_looked Connection t a buf e = refl
line_looked Line t a buf e = noted_still e.line _

line_aside : Aside notes_line
line_aside =
    let apart : Apart notes_line = record {
      looked = line_looked;
      moved = λ s e. refl;
      ended = λ e s. refl;
      given = λ e s. refl;
      kept = λ e held. refl;
    } in
    record { apart = apart; read = λ now e. refl }

listener_at_listener : (v : Option Peer) (e : LiveEnds) → notes_listener (accepted v e)
    ≡ notes_listener e
listener_at_listener None e = attempted_still e.listener false
listener_at_listener (Some peer) e = attempted_still e.listener true

listener_looked : (s : EventSource) (t : ℕ) (a : Answers) (buf : List ℕ) (e : LiveEnds)
    → notes_listener (looked_at s t a buf e) ≡ notes_listener e
listener_looked Listener t a buf e = listener_at_listener a.peer (turned_away a.refused e)
listener_looked Connection t a buf e = refl
listener_looked Line t a buf e = refl

listener_aside : Aside notes_listener
listener_aside =
    let apart : Apart notes_listener = record {
      looked = listener_looked;
      moved = λ s e. refl;
      ended = λ e s. refl;
      given = λ e s. refl;
      kept = λ e held. refl;
    } in
    record { apart = apart; read = λ now e. refl }

clock_aside : Aside notes_clock
clock_aside =
    record { apart = apart_by clock_of clock_apart is_some; read = λ now e. read_still e.clock now }

walls_at_listener : (v : Option Peer) (e : LiveEnds) → notes_walls (accepted v e) ≡ notes_walls e
walls_at_listener None e = refl
walls_at_listener (Some peer) e = refl

walls_looked : (s : EventSource) (t : ℕ) (a : Answers) (buf : List ℕ) (e : LiveEnds)
    → notes_walls (looked_at s t a buf e) ≡ notes_walls e
walls_looked Listener t a buf e = walls_at_listener a.peer (turned_away a.refused e)
walls_looked Connection t a buf e = refl
walls_looked Line t a buf e = refl

walls_aside : Aside notes_walls
walls_aside =
    let apart : Apart notes_walls = record {
      looked = walls_looked;
      moved = λ s e. refl;
      ended = λ e s. refl;
      given = λ e s. refl;
      kept = λ e held. refl;
    } in
    record { apart = apart; read = λ now e. refl }

-- an action
action_still : (moment : ℕ) (action : Output) (written : ℕ) (taken : Bool) (late : ℕ) (e : LiveEnds)
    → NotesStill e (after_action moment action written taken late e)
action_still moment action written taken late e = record {
  line = action_beside notes_line (λ e. refl) (λ moment octets written taken late e.
      noted_still (noted e.line (Dropped late)) (Wrote octets taken)
      ∙ noted_still e.line (Dropped late))
      moment action written taken late e;
  listener = action_beside notes_listener (λ e. refl)
      (λ moment octets written taken late e. refl) moment action written taken late e;
  clock = action_beside notes_clock (λ e. refl)
      (λ moment octets written taken late e. read_still e.clock written) moment action written taken
      late e;
  walls = action_beside notes_walls (λ e. refl)
      (λ moment octets written taken late e. refl) moment action written taken late e;
}

put_still : (old new : LiveEnds) (moment : ℕ) (action : Output) → PutsOut old moment action new
    → NotesStill old new
put_still old new moment action p =
    let still = action_still moment action p.written p.taken p.late old in
    record {
      line = ap notes_line p.done ∙ still.line;
      listener = ap notes_listener p.done ∙ still.listener;
      clock = ap notes_clock p.done ∙ still.clock;
      walls = ap notes_walls p.done ∙ still.walls;
    }

-- and so a run
pub still : (start end : LiveEnds) → LiveRun start end → NotesStill start end
still start _ Begun = record { line = refl; listener = refl; clock = refl; walls = refl }
still start _ (Turned before end event buf run l) =
    let s = still start before run in
    record {
      line = turn_still notes_line line_aside (λ e now shown. refl) before
          (as_logged before.log end) event buf l.turns
          (λ e. refl) ∙ s.line;
      listener = turn_still notes_listener listener_aside (λ e now shown. refl) before
          (as_logged before.log end) event buf l.turns
          (λ e. refl) ∙ s.listener;
      clock = turn_still notes_clock clock_aside (λ e now shown. refl) before
          (as_logged before.log end) event buf l.turns
          (λ e. refl) ∙ s.clock;
      walls = turn_still notes_walls walls_aside (λ e now shown. read_still e.walls shown) before
          (as_logged before.log end) event buf l.turns
          (λ e. refl) ∙ s.walls;
    }
still start _ (Put before end moment action run l) =
    let s = still start before run in
    let t = put_still before (as_logged before.log end) moment action l.puts in
    record {
      line = t.line ∙ s.line;
      listener = t.listener ∙ s.listener;
      clock = t.clock ∙ s.clock;
      walls = t.walls ∙ s.walls;
    }
