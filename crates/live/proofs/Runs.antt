-- A run from its beginning on: what stays of it, and what its log begins with.
use Rattle.std.proofs.Common.{◌≡◌, ℕ, true, false, Bool, not, ◌||◌, List, [], ◌∷◌, ◌++◌, All}
use Rattle.std.proofs.Common.{Option, Some, None, take, refl, sym, ap, subst, ◌∙◌, inl, inr}
use Rattle.std.specs.Prelude.{is_some}
use Rattle.std.proofs.lemmas.Bool.{and_from, and_parts}
use Rattle.std.proofs.lemmas.List.Elements.{All-head, All-tail}
use Rattle.gateway.specs.Log.{Log, LogEntry, Came, Went, LineIn, Opened, TcpIn, CutOff}
use Rattle.gateway.specs.Log.{Ticked, WallIs, Output}
use Rattle.gateway.specs.Ports.{logged_by}
use Rattle.gateway.specs.declared.ports.Next.{Next}
use Rattle.gateway.specs.declared.ports.Next.TheVariants as next
use Rattle.live.specs.AllowLists.{Refusals}
use Rattle.live.specs.Ends.{Fixture, LiveEnds, LogsPut, LogsTurn, Turns, as_logged, begun_with}
use Rattle.live.specs.Ends.{fixed_of}
use Rattle.live.specs.OctetStreams.{Attempts, IsNew, StreamHistory}
use Rattle.live.specs.Passed.{HasNoAttempts, LiveRun, Begun, Turned, Put}
use Rattle.live.specs.Runs.{BeginsSo, HasPassed, IsInRun, IsStart, ShowsRun, WallFirst, all_actions}
use Rattle.live.specs.Runs.{begins_by_wall, is_action, may_be_first, wall_first}
use Rattle.live.specs.Sights.{ShowsEnds}
use Rattle.live.specs.Timing.{Moments}
use Rattle.live.specs.Walls.{is_due_since, is_wall, never_given}
use Rattle.live.specs.declared.allow_list.AllowList.{AllowList}
use Rattle.live.specs.declared.ends.CutCause.TheVariants.{Restarted}
use Rattle.live.specs.declared.ends.Presence.{Presence}
use Rattle.live.specs.declared.walled.Walled.{Walled}
use Rattle.live.specs.declared.watched.EndsSight.{EndsSight}
use Rattle.live.proofs.Cuts.{may_be_next, none_by, one_by, run_cuts_first}
use Rattle.live.proofs.Failures.{failed_where_gone}
use Rattle.live.proofs.Fixed.{next_fixed, put_fixed}
use Rattle.live.proofs.Late.{late}
use Rattle.live.proofs.Passed.{passed}
use Rattle.live.proofs.WaitsTimed.{put_walled}
use Rattle.live.proofs.Walls.{wall_of}

-- an event, and an action, more
pub turned_on : (old new : LiveEnds) (event : Next) (buf : List ℕ) → LogsTurn old event buf new
    → IsInRun old → IsInRun new
turned_on old new event buf l r =
    record { start = r.start; new = r.new; run = Turned old new event buf r.run l }

pub put_on : (old new : LiveEnds) (moment : ℕ) (action : Output) → LogsPut old moment action new
    → IsInRun old → IsInRun new
put_on old new moment action l r =
    record { start = r.start; new = r.new; run = Put old new moment action r.run l }

pub started : (ends : LiveEnds) → IsStart ends → IsInRun ends
started ends s = record { start = ends; new = s; run = Begun }

-- the start of a run that begins anew, and of one that goes on
pub start_anew : (allow_list : AllowList) (line : StreamHistory) (presence : Option Presence)
    (listener : Attempts) (refusals : Refusals) (clock walls : Moments) (answer_ms : ℕ)
    → IsNew line → HasNoAttempts listener
    → IsStart (begun_with allow_list line presence listener refusals clock walls answer_ms)
start_anew allow_list line presence listener refusals clock walls answer_ms new unasked = record {
  log = refl;
  line = new;
  listener = unasked;
  connection = refl;
  held = refl;
  cut = refl;
  walled = refl;
  failed = refl;
  late = refl;
}

pub start_on : (old : LiveEnds) → IsStart old
    → IsStart (record old { is_cut_due = true; goes_on = true; why_cut = Restarted })
start_on old s = record {
  log = s.log;
  line = s.line;
  listener = s.listener;
  connection = s.connection;
  held = s.held;
  cut = refl;
  walled = s.walled;
  failed = s.failed;
  late = s.late;
}

-- an event that isn't the wall clock comes only if that was given before
given_by : (given : Option ℕ) (has_looked : Bool) (now : ℕ)
    → is_due_since given has_looked now ≡ false → not (is_some given) ≡ true → false ≡ true
given_by None has_looked now undue none = sym undue
given_by (Some t) has_looked now undue none = none

dark_by : (old new : LiveEnds) (event : Next) (buf : List ℕ) → Turns old event buf new
    → is_wall event ≡ false → not (is_some old.walled.given) ≡ true → false ≡ true
dark_by old new event buf (inl t) dark none = sym dark ∙ wall_of old new event buf t
dark_by old new event buf (inr t) dark none =
    given_by old.walled.given old.walled.has_looked t.first t.due none

wall_given : (old new : LiveEnds) (event : Next) (buf : List ℕ) → LogsTurn old event buf new
    → is_wall event ≡ false → not (is_some old.walled.given) ≡ true → false ≡ true
wall_given old new event buf l dark none =
    dark_by old (as_logged old.log new) event buf l.turns dark none

one_more : (entry : LogEntry) (log : Log) (before now : Option ℕ)
    → begins_by_wall before log ≡ true
    → (not (is_some before) ≡ true → may_be_first entry ≡ true)
    → (is_action entry ≡ true → not (is_some before) ≡ true → not (is_some now) ≡ true)
    → begins_by_wall now (entry ∷ log) ≡ true
one_more entry log before now so may_be stays =
    one_by (wall_first log) (all_actions log) (may_be_first entry) (is_action entry)
    (not (is_some before)) (not (is_some now)) so may_be stays

other_more : (old new : LiveEnds) (event : Next) (buf : List ℕ) (entry : LogEntry)
    → LogsTurn old event buf new → begins_by_wall old.walled.given old.log ≡ true
    → is_wall event ≡ false → begins_by_wall new.walled.given (entry ∷ old.log) ≡ true
other_more old new event buf entry l so dark =
    one_more entry old.log old.walled.given new.walled.given so
    (λ none. let no : false ≡ true = wall_given old new event buf l dark none in absurd (cc))
    (λ is none. let no : false ≡ true = wall_given old new event buf l dark none in absurd (cc))

none_more : (old new : LiveEnds) (event : Next) (buf : List ℕ) → LogsTurn old event buf new
    → begins_by_wall old.walled.given old.log ≡ true → is_wall event ≡ false
    → begins_by_wall new.walled.given old.log ≡ true
none_more old new event buf l so dark =
    none_by (wall_first old.log) (all_actions old.log) (not (is_some old.walled.given))
    (not (is_some new.walled.given)) so
    (λ none. let no : false ≡ true = wall_given old new event buf l dark none in absurd (cc))

event_so : (old new : LiveEnds) (event : Next) (buf : List ℕ) → LogsTurn old event buf new
    → begins_by_wall old.walled.given old.log ≡ true
    → begins_by_wall new.walled.given (logged_by event buf ++ old.log) ≡ true
event_so old new (next.Wall now number) buf l so =
    one_more (Came now (WallIs number)) old.log old.walled.given new.walled.given so
    (λ none. refl) (λ is none. let no : false ≡ true = is in absurd (cc))
event_so old new (next.Cut now) buf l so =
    other_more old new (next.Cut now) buf (Came now CutOff) l so refl
event_so old new (next.Line now len) buf l so =
    other_more old new (next.Line now len) buf (Came now (LineIn (take len buf))) l so refl
event_so old new (next.Open now) buf l so =
    other_more old new (next.Open now) buf (Came now Opened) l so refl
event_so old new (next.Bytes now len) buf l so =
    other_more old new (next.Bytes now len) buf (Came now (TcpIn (take len buf))) l so refl
event_so old new (next.Tick now) buf l so =
    other_more old new (next.Tick now) buf (Came now Ticked) l so refl
event_so old new next.Done buf l so = none_more old new next.Done buf l so refl
event_so old new next.Fault buf l so = none_more old new next.Fault buf l so refl

run_by_wall : (start end : LiveEnds) → begins_by_wall start.walled.given start.log ≡ true
    → LiveRun start end → begins_by_wall end.walled.given end.log ≡ true
run_by_wall start _ so Begun = so
run_by_wall start _ so (Turned before end event buf run l) =
    let P : Log → Type 0 = λ k. begins_by_wall end.walled.given k ≡ true in
    subst P (sym l.logged) (event_so before end event buf l (run_by_wall start before so run))
run_by_wall start _ so (Put before end moment action run l) =
    let P : Log → Type 0 = λ k. begins_by_wall end.walled.given k ≡ true in
    let still : before.walled ≡ end.walled = sym (put_walled before end moment action l) in
    let Q : Walled → Type 0 = λ w. not (is_some w.given) ≡ true in
    subst P (sym l.logged)
    (one_more (Went moment action) before.log before.walled.given end.walled.given
    (run_by_wall start before so run) (λ none. refl) (λ is none. subst Q still none))

-- what it means that a log begins with the wall clock
all_act : (log : Log) → All (λ entry. is_action entry ≡ true) log → all_actions log ≡ true
all_act [] all = refl
all_act (entry ∷ log) all =
    let Acts : LogEntry → Type 0 = λ e. is_action e ≡ true in
    and_from (is_action entry) (all_actions log) (All-head Acts entry log all)
    (all_act log (All-tail Acts entry log all))

pub meant : (log : Log) → wall_first log ≡ true → WallFirst log
meant [] first [] before now event is all = absurd (cc)
meant [] first (x ∷ later) before now event is all = absurd (cc)
meant (entry ∷ log) first [] before now event is all =
    let head : entry ≡ Came now event = cc in
    let tail : log ≡ before = cc in
    let parts = and_parts (wall_first log) (not (all_actions log) || may_be_first entry) first in
    let P : Log → Type 0 = λ k. all_actions k ≡ true in
    let Q : LogEntry → Type 0 = λ e. may_be_first e ≡ true in
    subst Q head (may_be_next (all_actions log) (may_be_first entry) parts.1
    (subst P (sym tail) (all_act before all)))
meant (entry ∷ log) first (x ∷ later) before now event is all =
    let tail : log ≡ later ++ (Came now event ∷ before) = cc in
    let parts = and_parts (wall_first log) (not (all_actions log) || may_be_first entry) first in
    meant log parts.0 later before now event tail all

wall_by : (w : Walled) (log : Log) → w ≡ never_given → log ≡ []
    → begins_by_wall w.given log ≡ true
wall_by w log is none = rw (is, none) refl

pub run_begins_with_wall : (start end : LiveEnds) → start.log ≡ [] → start.walled ≡ never_given
    → LiveRun start end → WallFirst end.log
run_begins_with_wall start end none never run =
    meant end.log (and_parts (wall_first end.log)
    (not (all_actions end.log) || not (is_some end.walled.given))
    (run_by_wall start end (wall_by start.walled start.log never none) run)).0

-- what is fixed of a port stays so in a run
pub turned_fixed : (old new : LiveEnds) (event : Next) (buf : List ℕ) → LogsTurn old event buf new
    → fixed_of new ≡ fixed_of old
turned_fixed old new event buf l =
    next_fixed old (as_logged old.log new) new event buf new.log l.turns refl

pub placed_fixed : (old new : LiveEnds) (moment : ℕ) (action : Output)
    → LogsPut old moment action new
    → fixed_of new ≡ fixed_of old
placed_fixed old new moment action l =
    put_fixed old (as_logged old.log new) new moment action new.log l.puts refl

pub run_fixed : (start end : LiveEnds) → LiveRun start end → fixed_of end ≡ fixed_of start
run_fixed start _ Begun = refl
run_fixed start _ (Turned before end event buf run l) =
    turned_fixed before end event buf l ∙ run_fixed start before run
run_fixed start _ (Put before end moment action run l) =
    placed_fixed before end moment action l ∙ run_fixed start before run

goes_on_of : Fixture → Bool
goes_on_of f = f.goes_on

run_goes_on : (start end : LiveEnds) → LiveRun start end → end.goes_on ≡ start.goes_on
unfolding goes_on_of
run_goes_on start end run = ap goes_on_of (run_fixed start end run)

pub begins_so : (ends : LiveEnds) → IsInRun ends → BeginsSo ends
begins_so ends r = record {
  wall = run_begins_with_wall r.start ends r.new.log r.new.walled r.run;
  cut = λ on. run_cuts_first r.start ends r.new.log
      (r.new.cut ∙ (sym (run_goes_on r.start ends r.run) ∙ on)) r.run;
}

pub passed_so : (ends : LiveEnds) → IsInRun ends → HasPassed ends
passed_so ends r = record {
  log = passed r.start ends (record {
    log = r.new.log;
    line = r.new.line;
    listener = r.new.listener;
    connection = r.new.connection;
  }) r.run;
  late = late r.start ends r.new.late r.new.line r.run;
  failed = failed_where_gone r.start ends r.new.failed r.new.line r.run;
}

pub shown_so : (ends : LiveEnds) (sight : EndsSight) → IsInRun ends → ShowsEnds ends sight
    → ShowsRun ends sight
shown_so ends sight r shows = record {
  shows = shows;
  run = r;
  begins = begins_so ends r;
  passed = passed_so ends r;
}
