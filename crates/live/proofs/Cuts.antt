-- A cut that is due comes next, and the log of a run in which one was due at first cuts first.
use Rattle.std.proofs.Common.{◌≡◌, ℕ, true, false, Bool, not, ◌&&◌, ◌||◌, List, [], ◌∷◌, ◌++◌, All}
use Rattle.std.proofs.Common.{take, refl, sym, ap, subst, ◌∙◌, inl, inr, Option, Some, None}
use Rattle.std.proofs.lemmas.Bool.{and_from, and_parts}
use Rattle.std.proofs.lemmas.List.Elements.{All-head, All-tail}
use Rattle.gateway.specs.Log.{Log, LogEntry, Came, Went, Input, LineIn, Opened, TcpIn, CutOff}
use Rattle.gateway.specs.Log.{Ticked, WallIs, Restarted, Output, LineOut, TcpOut, Closed, GapOut}
use Rattle.gateway.specs.Ports.{logged_by}
use Rattle.gateway.specs.declared.ports.Next.{Next}
use Rattle.gateway.specs.declared.ports.Next.TheVariants as next
use Rattle.session.specs.declared.kinds.Close.TheVariants as close
use Rattle.live.specs.Cuts.{CutsFirst, all_leave_due, begins_so, cuts_first, is_next_of_due}
use Rattle.live.specs.Cuts.{is_wall_in, leaves_due, shuts_nothing}
use Rattle.live.specs.Ends.{LiveEnds, LogsPut, LogsTurn, Peer, Turns, as_logged, written_open}
use Rattle.live.specs.Law.{IsLost, is_cut}
use Rattle.live.specs.Passed.{LiveRun, Begun, Turned, Put}
use Rattle.live.specs.Walls.{is_wall}
use Rattle.live.proofs.Reasons.{reasoned}
use Rattle.live.proofs.Walls.{of_ends}

pub comes_next : (old new : LiveEnds) (event : Next) (buf : List ℕ) → LogsTurn old event buf new
    → old.is_cut_due ≡ true → is_wall event ≡ false → is_cut event ≡ true
comes_next old new event buf l due dark = (reasoned old new event buf l).next due dark

-- the wall clock leaves it as it is
due_of : LiveEnds → Bool
due_of e = e.is_cut_due

kept_by : (old new : LiveEnds) (event : Next) (buf : List ℕ) → Turns old event buf new
    → is_wall event ≡ true → new.is_cut_due ≡ old.is_cut_due
unfolding due_of
kept_by old new event buf (inl t) wall = ap due_of t.given.ends
kept_by old new event buf (inr t) wall =
    let no : false ≡ true = sym (of_ends old new event buf t) ∙ wall in absurd (cc)

pub kept : (old new : LiveEnds) (event : Next) (buf : List ℕ) → LogsTurn old event buf new
    → is_wall event ≡ true → new.is_cut_due ≡ old.is_cut_due
kept old new event buf l wall = kept_by old (as_logged old.log new) event buf l.turns wall

-- so does an action that shuts nothing
pub put_due : (old new : LiveEnds) (moment : ℕ) (action : Output) → LogsPut old moment action new
    → old.is_cut_due ≡ true → shuts_nothing action ≡ true → new.is_cut_due ≡ true
unfolding due_of
put_due old new moment (LineOut octets) l due stays = ap due_of l.puts.done ∙ due
put_due old new moment (TcpOut octets) l due stays =
    ap due_of l.puts.done
    ∙ (ap (λ b. due_of (written_open b octets l.puts.taken old.connection old)) due ∙ due)
put_due old new moment (Closed close.Replaced) l due stays = ap due_of l.puts.done ∙ due
put_due old new moment (Closed close.Grammar) l due stays = absurd (cc)
put_due old new moment (Closed close.SendNumber) l due stays = absurd (cc)
put_due old new moment (Closed close.ReceiveNumber) l due stays = absurd (cc)
put_due old new moment (Closed close.Stopped) l due stays = absurd (cc)
put_due old new moment (Closed close.Timeout) l due stays = absurd (cc)
put_due old new moment (Closed close.OwnAnswers) l due stays = absurd (cc)
put_due old new moment (GapOut station session) l due stays = ap due_of l.puts.done ∙ due

-- a cut comes to be due by octets that the stream of the open connection didn't take
lost_octets : (octets : List ℕ) (taken : Bool) (c : Option Peer) (old new : LiveEnds)
    → new.is_cut_due ≡ (written_open false octets taken c old).is_cut_due
    → new.connection ≡ (written_open false octets taken c old).connection
    → old.is_cut_due ≡ false → new.is_cut_due ≡ true → IsLost c (TcpOut octets) new.connection
lost_octets octets taken None old new due conn free is =
    let no : true ≡ false = sym is ∙ (due ∙ free) in absurd (cc)
lost_octets octets true (Some peer) old new due conn free is =
    let no : true ≡ false = sym is ∙ due in absurd (cc)
lost_octets octets false (Some peer) old new due conn free is = conn

pub lost_by : (old new : LiveEnds) (moment : ℕ) (action : Output) → LogsPut old moment action new
    → old.is_cut_due ≡ false → new.is_cut_due ≡ true
    → IsLost old.connection action new.connection
unfolding due_of
lost_by old new moment (LineOut octets) l free is =
    let no : true ≡ false = sym is ∙ (ap due_of l.puts.done ∙ free) in absurd (cc)
lost_by old new moment (TcpOut octets) l free is =
    let p = l.puts in
    let written = p.done
    ∙ ap (λ b. written_open b octets p.taken old.connection old) free in
    lost_octets octets p.taken old.connection old new (ap due_of written)
    (ap (λ (e : LiveEnds). e.connection) written) free is
lost_by old new moment (Closed close.Replaced) l free is =
    let no : true ≡ false = sym is ∙ (ap due_of l.puts.done ∙ free) in absurd (cc)
lost_by old new moment (Closed close.Grammar) l free is =
    let no : true ≡ false = sym is ∙ ap due_of l.puts.done in absurd (cc)
lost_by old new moment (Closed close.SendNumber) l free is =
    let no : true ≡ false = sym is ∙ ap due_of l.puts.done in absurd (cc)
lost_by old new moment (Closed close.ReceiveNumber) l free is =
    let no : true ≡ false = sym is ∙ ap due_of l.puts.done in absurd (cc)
lost_by old new moment (Closed close.Stopped) l free is =
    let no : true ≡ false = sym is ∙ ap due_of l.puts.done in absurd (cc)
lost_by old new moment (Closed close.Timeout) l free is =
    let no : true ≡ false = sym is ∙ ap due_of l.puts.done in absurd (cc)
lost_by old new moment (Closed close.OwnAnswers) l free is =
    let no : true ≡ false = sym is ∙ ap due_of l.puts.done in absurd (cc)
lost_by old new moment (GapOut station session) l free is =
    let no : true ≡ false = sym is ∙ (ap due_of l.puts.done ∙ free) in absurd (cc)

-- One entry more: whether those before cut first, whether all of them leave a cut due, whether this
-- one may follow them and leaves it due, and whether one is due before and behind it.
pub one_by : (cuts all may leaves before now : Bool) → (cuts && (not all || before)) ≡ true
    → (before ≡ true → may ≡ true) → (leaves ≡ true → before ≡ true → now ≡ true)
    → ((cuts && (not all || may)) && (not (leaves && all) || now)) ≡ true
one_by false all may leaves before now so may_be stays = absurd (cc)
one_by true false may true before now so may_be stays = refl
one_by true false may false before now so may_be stays = refl
one_by true true may leaves false now so may_be stays = absurd (cc)
one_by true true false leaves true now so may_be stays =
    let no : false ≡ true = may_be refl in absurd (cc)
one_by true true true true true now so may_be stays = stays refl refl
one_by true true true false true now so may_be stays = refl

one_more : (entry : LogEntry) (log : Log) (before now : Bool)
    → begins_so true before log ≡ true → (before ≡ true → is_next_of_due entry ≡ true)
    → (leaves_due entry ≡ true → before ≡ true → now ≡ true)
    → begins_so true now (entry ∷ log) ≡ true
one_more entry log before now so may_be stays =
    one_by (cuts_first log) (all_leave_due log) (is_next_of_due entry) (leaves_due entry) before now
    so may_be stays

-- and none more
pub none_by : (cuts all before now : Bool) → (cuts && (not all || before)) ≡ true
    → (before ≡ true → now ≡ true) → (cuts && (not all || now)) ≡ true
none_by false all before now so stays = absurd (cc)
none_by true false before now so stays = refl
none_by true true false now so stays = absurd (cc)
none_by true true true now so stays = stays refl

-- an event that is no cut comes only if none is due
other_more : (old new : LiveEnds) (event : Next) (buf : List ℕ) (entry : LogEntry)
    → LogsTurn old event buf new → begins_so true old.is_cut_due old.log ≡ true
    → is_wall event ≡ false → is_cut event ≡ false
    → begins_so true new.is_cut_due (entry ∷ old.log) ≡ true
other_more old new event buf entry l so dark other =
    one_more entry old.log old.is_cut_due new.is_cut_due so
    (λ due. let no : false ≡ true = sym other ∙ comes_next old new event buf l due dark in
    absurd (cc))
    (λ leaves due. let no : false ≡ true = sym other ∙ comes_next old new event buf l due dark in
    absurd (cc))

none_more : (old new : LiveEnds) (event : Next) (buf : List ℕ)
    → LogsTurn old event buf new → begins_so true old.is_cut_due old.log ≡ true
    → is_wall event ≡ false → is_cut event ≡ false
    → begins_so true new.is_cut_due old.log ≡ true
none_more old new event buf l so dark other =
    none_by (cuts_first old.log) (all_leave_due old.log) old.is_cut_due new.is_cut_due so
    (λ due. let no : false ≡ true = sym other ∙ comes_next old new event buf l due dark in
    absurd (cc))

event_so : (old new : LiveEnds) (event : Next) (buf : List ℕ) → LogsTurn old event buf new
    → begins_so true old.is_cut_due old.log ≡ true
    → begins_so true new.is_cut_due (logged_by event buf ++ old.log) ≡ true
event_so old new (next.Wall now number) buf l so =
    one_more (Came now (WallIs number)) old.log old.is_cut_due new.is_cut_due so (λ due. refl)
    (λ leaves due. kept old new (next.Wall now number) buf l refl ∙ due)
event_so old new (next.Cut now) buf l so =
    one_more (Came now CutOff) old.log old.is_cut_due new.is_cut_due so (λ due. refl)
    (λ leaves due. let no : false ≡ true = leaves in absurd (cc))
event_so old new (next.Line now len) buf l so =
    other_more old new (next.Line now len) buf (Came now (LineIn (take len buf))) l so refl refl
event_so old new (next.Open now) buf l so =
    other_more old new (next.Open now) buf (Came now Opened) l so refl refl
event_so old new (next.Bytes now len) buf l so =
    other_more old new (next.Bytes now len) buf (Came now (TcpIn (take len buf))) l so refl refl
event_so old new (next.Tick now) buf l so =
    other_more old new (next.Tick now) buf (Came now Ticked) l so refl refl
event_so old new next.Done buf l so = none_more old new next.Done buf l so refl refl
event_so old new next.Fault buf l so = none_more old new next.Fault buf l so refl refl

-- a turn, and an action
pub turned_so : (goes_on : Bool) (old new : LiveEnds) (event : Next) (buf : List ℕ)
    → LogsTurn old event buf new → begins_so goes_on old.is_cut_due old.log ≡ true
    → begins_so goes_on new.is_cut_due new.log ≡ true
turned_so false old new event buf l so = refl
turned_so true old new event buf l so =
    let P : Log → Type 0 = λ k. begins_so true new.is_cut_due k ≡ true in
    subst P (sym l.logged) (event_so old new event buf l so)

pub put_so : (goes_on : Bool) (old new : LiveEnds) (moment : ℕ) (action : Output)
    → LogsPut old moment action new → begins_so goes_on old.is_cut_due old.log ≡ true
    → begins_so goes_on new.is_cut_due new.log ≡ true
put_so false old new moment action l so = refl
put_so true old new moment action l so =
    let P : Log → Type 0 = λ k. begins_so true new.is_cut_due k ≡ true in
    subst P (sym l.logged)
    (one_more (Went moment action) old.log old.is_cut_due new.is_cut_due so (λ due. refl)
    (λ leaves due. put_due old new moment action l due leaves))

run_so : (start end : LiveEnds) → begins_so true start.is_cut_due start.log ≡ true
    → LiveRun start end → begins_so true end.is_cut_due end.log ≡ true
run_so start _ so Begun = so
run_so start _ so (Turned before end event buf run l) =
    turned_so true before end event buf l (run_so start before so run)
run_so start _ so (Put before end moment action run l) =
    put_so true before end moment action l (run_so start before so run)

-- what it means that a log cuts first
all_leave : (log : Log) → All (λ entry. leaves_due entry ≡ true) log → all_leave_due log ≡ true
all_leave [] all = refl
all_leave (entry ∷ log) all =
    let Leaves : LogEntry → Type 0 = λ e. leaves_due e ≡ true in
    and_from (leaves_due entry) (all_leave_due log) (All-head Leaves entry log all)
    (all_leave log (All-tail Leaves entry log all))

cut_of : (now : ℕ) (event : Input) → is_next_of_due (Came now event) ≡ true
    → is_wall_in event ≡ false → event ≡ CutOff
cut_of now (LineIn octets) may_be dark = absurd (cc)
cut_of now Opened may_be dark = absurd (cc)
cut_of now (TcpIn octets) may_be dark = absurd (cc)
cut_of now CutOff may_be dark = refl
cut_of now Ticked may_be dark = absurd (cc)
cut_of now (WallIs number) may_be dark = absurd (cc)
cut_of now Restarted may_be dark = absurd (cc)

pub may_be_next : (all may : Bool) → (not all || may) ≡ true → all ≡ true → may ≡ true
may_be_next true may so is = so
may_be_next false may so is = absurd (cc)

pub meant : (log : Log) → cuts_first log ≡ true → CutsFirst log
meant [] cuts [] before now event is all dark = absurd (cc)
meant [] cuts (x ∷ later) before now event is all dark = absurd (cc)
meant (entry ∷ log) cuts [] before now event is all dark =
    let head : entry ≡ Came now event = cc in
    let tail : log ≡ before = cc in
    let parts = and_parts (cuts_first log) (not (all_leave_due log) || is_next_of_due entry) cuts in
    let P : Log → Type 0 = λ k. all_leave_due k ≡ true in
    let Q : LogEntry → Type 0 = λ e. is_next_of_due e ≡ true in
    cut_of now event (subst Q head (may_be_next (all_leave_due log) (is_next_of_due entry) parts.1
    (subst P (sym tail) (all_leave before all)))) dark
meant (entry ∷ log) cuts (x ∷ later) before now event is all dark =
    let tail : log ≡ later ++ (Came now event ∷ before) = cc in
    let parts = and_parts (cuts_first log) (not (all_leave_due log) || is_next_of_due entry) cuts in
    meant log parts.0 later before now event tail all dark

begins_by : (goes_on due : Bool) (log : Log) → goes_on ≡ true → due ≡ true → log ≡ []
    → begins_so goes_on due log ≡ true
begins_by goes_on due log on is none = rw (on, is, none) refl

pub run_cuts_first : (start end : LiveEnds) → start.log ≡ [] → start.is_cut_due ≡ true
    → LiveRun start end → CutsFirst end.log
run_cuts_first start end none due run =
    let so = run_so start end (begins_by true start.is_cut_due start.log refl due none) run in
    meant end.log
    (and_parts (cuts_first end.log) (not (all_leave_due end.log) || end.is_cut_due) so).0

-- which event says what the wall clock shows
pub wall_of : (event : Input) → is_wall_in event ≡ true → (shown : ℕ) × (event ≡ WallIs shown)
wall_of (LineIn octets) is = absurd (cc)
wall_of Opened is = absurd (cc)
wall_of (TcpIn octets) is = absurd (cc)
wall_of CutOff is = absurd (cc)
wall_of Ticked is = absurd (cc)
wall_of (WallIs number) is = (number, refl)
wall_of Restarted is = absurd (cc)
