-- The history of the open connection, as the log goes on and the session is called.
use Rattle.std.proofs.Common.{◌≡◌, ℕ, ◌<◌, ◌&&◌, Bool, true, false, List, [], ◌∷◌, ◌++◌, length}
use Rattle.std.proofs.Common.{refl, ap, sym, ◌∙◌, subst, Option, Some, None, cond}
use Rattle.std.specs.Prelude.{is_none, not, nat_lt, ◌==◌, ◌⊎◌}
use Rattle.std.specs.List.{flat_map}
use Rattle.std.proofs.lemmas.List.{append-nil}
use Rattle.std.proofs.lemmas.Bool.{cond-true, and_from}
use Rattle.apci.specs.declared.apdu.Apdu.{Apdu}
use Rattle.apci.specs.declared.apdu.Apdu.TheVariants.{I, S, U}
use Rattle.apci.specs.declared.apdu.Uf.{Uf}
use Rattle.apci.specs.declared.apdu.Uf.TheVariants.{StartAct, StartCon, StopAct, StopCon, TestAct}
use Rattle.apci.specs.declared.apdu.Uf.TheVariants.{TestCon}
use Rattle.apci.specs.Spelling.{spelling, Fits}
use Rattle.apci.specs.Reading.{IsMore}
use Rattle.session.specs.declared.kinds.FrameOrigin.{FrameOrigin}
use Rattle.session.specs.declared.kinds.Taken.{Taken}
use Rattle.session.specs.declared.kinds.Taken.TheVariants.{Nothing, Asdu, Close as Closes}
use Rattle.session.specs.Session as session
use Rattle.session.specs.Session.{Session, Due, is_close, outcome_of, may_send, confirmed, pulled}
use Rattle.session.specs.Session.{timed_out, refuses}
use Rattle.session.specs.History as talk
use Rattle.session.specs.History.{History, confirmation_of, frame_due, has_timed_out}
use Rattle.session.specs.Runs.{Settings, Call, Take, Send, Confirm, Pull, Open, Cut, Run, run}
use Rattle.session.specs.Runs.{logged}
use Rattle.session.specs.Runs.{gone, may_take, after_call}
use Rattle.session.specs.Rules.{KeepsRules}
use Rattle.session.specs.Ends.{IsConfirmed, after_confirm, after_pull}
use Rattle.gateway.specs.Log.{Log, LineIn, Opened, TcpIn, CutOff, Ticked, WallIs, Restarted, Came}
use Rattle.gateway.specs.Log.{Went, LineOut, TcpOut, Closed, GapOut, latest}
use Rattle.gateway.specs.Walls.{wall_on}
use Rattle.gateway.specs.Streams.{spelled}
use Rattle.gateway.specs.Frames.{data_frames}
use Rattle.gateway.specs.Connections.{Channel, present}
use Rattle.gateway.specs.Objects.{monitor_objects}
use Rattle.link.specs.LineLaws.{LineLaws}
use Rattle.gateway.specs.Reports.{Setup, address_at, exchanges_of, taken_objects}
use Rattle.gateway.specs.Works.{has_lacked_place}
use Rattle.gateway.specs.Course.{Course, first_course, came_frames, kind_of, logged_sent}
use Rattle.gateway.specs.Course.{with_frame}
use Rattle.gateway.specs.Course.{with_sent, IsFlushed, IsUntouched, HasBegun, MayTake, TakesFrames}
use Rattle.gateway.specs.Course.{IsTouched, HasAsked, HasTakenAll, IsNext, Runs}
use Rattle.gateway.specs.Conversation.{KeepsRulesSoFar}
use Rattle.gateway.proofs.Reached.{kept_commands}
use Rattle.gateway.specs.Phases.{IsTaking}
use Rattle.command.specs.CommandLaws.{CommandLaws}
use Rattle.session.specs.SessionLaws.{SessionLaws}
use Rattle.gateway.specs.Passing.{PassingLaws}
use Rattle.gateway.specs.Agrees.{Talks, IsTimely}

-- A frame more is taken

taken_more : (p : Setup) (log : Log) (now : ℕ) (before c : Course) (f : Apdu)
    → MayTake p log now f c
    → TakesFrames p log now before c
    → TakesFrames p log now before (with_frame p f now (wall_on log now) c)
taken_more p log now before c f may k = record {
  frames = f ∷ k.frames;
  taken =
      ap (with_frame p f now (wall_on log now)) k.taken;
  each = (subst (MayTake p log now f) k.taken may, k.each);
  rest =
      may.rest;
  joined = may.joined;
}

-- when octets of the connection come nothing is taken of the line, whatever the moment
bytes_taken : LineLaws → (p : Setup) (log : Log) (now : ℕ) (octets : List ℕ)
    → taken_objects p (Came now (TcpIn octets) ∷ log) ≡ taken_objects p log
bytes_taken laws p log now octets =
    ap (λ (reports : List (ℕ × List ℕ)). flat_map (λ report. monitor_objects p.sizes report.1)
    reports)
    (laws.due_reports p.link.size (address_at p.addresses) p.link.answer_ms
    (latest (Came now (TcpIn octets) ∷ log))
    (exchanges_of p log))

pub may_at : LineLaws → (p : Setup) (log : Log) (now other moment : ℕ) (octets : List ℕ) (f : Apdu)
    (c : Course)
    → MayTake p (Came now (TcpIn octets) ∷ log) moment f c
    → MayTake p (Came other (TcpIn octets) ∷ log) moment f c
may_at laws p log now other moment octets f c may = record {
  fits = may.fits;
  rest = may.rest;
  joined = may.joined;
  rules = may.rules;
  placed = may.placed;
  flushed = λ transferring room.
      let all = may.flushed transferring room in
      record {
        objects = all.objects ∙ ap length (bytes_taken laws p log now octets
            ∙ sym (bytes_taken laws p log other octets));
        answers = all.answers;
      };
  undue = may.undue;
}

-- frames are taken only of octets
runs_more : LineLaws → (p : Setup) (log : Log) (c : Course) (f : Apdu) → IsTaking log
    → MayTake p log (latest log) f c
    → Runs p log c → Runs p log (with_frame p f (latest log) (wall_on log (latest log)) c)
runs_more laws p [] c f takes may k = absurd takes
runs_more laws p (Came now (LineIn octets) ∷ log) c f takes may k = absurd takes
runs_more laws p (Came now Opened ∷ log) c f takes may k = absurd takes
runs_more laws p (Came now (TcpIn octets) ∷ log) c f takes may k = (
  k.0,
  k.1,
  k.2,
  k.3,
  k.4,
  taken_more p _ _ _ c f (may_at laws p log now (latest (Came now (TcpIn octets) ∷ log))
      (latest (Came now (TcpIn octets) ∷ log)) octets f c may) k.5,
)
runs_more laws p (Came now CutOff ∷ log) c f takes may k = absurd takes
runs_more laws p (Came now Ticked ∷ log) c f takes may k = absurd takes
runs_more laws p (Came now (WallIs number) ∷ log) c f takes may k = absurd takes
runs_more laws p (Came now Restarted ∷ log) c f takes may k = absurd takes
runs_more laws p (Went now (LineOut octets) ∷ log) c f takes may k = absurd takes
runs_more laws p (Went now (TcpOut octets) ∷ log) c f takes may k =
    (k.0, k.1, k.2, k.3, taken_more p (Went now (TcpOut octets) ∷ log) _ k.1 c f may k.4)
runs_more laws p (Went now (Closed cause) ∷ log) c f takes may k = absurd takes
runs_more laws p (Went now (GapOut station session) ∷ log) c f takes may k = absurd takes

-- The calls

-- a run that ends like this
abbrev pub at : Session → History → Run
at s h = record { session = s; history = h }

logged_came : (o : Taken) (f : Apdu) (now : ℕ) → is_close o ≡ false → logged o f now
    ≡ talk.Came f now
logged_came Nothing f now goes = refl
logged_came Asdu f now goes = refl
logged_came (Closes cause) f now goes = cc

takes : (s : Session) (h : History) (f : Apdu) (now : ℕ) → session.is_open s ≡ true → IsConfirmed s
    → is_close (outcome_of s f) ≡ false → after_call (Take f now) (at s h)
    ≡ at (session.taken f now s) (talk.Came f now ∷ h)
takes s h f now on ready goes =
    cond-true (may_take s) (at (session.taken f now s) (logged (outcome_of s f) f now ∷ h)) (at s h)
    (and_from (session.is_open s) (is_none (confirmed s).0) on (ap is_none ready))
    ∙ ap (λ x. at (session.taken f now s) (x ∷ h)) (logged_came (outcome_of s f) f now goes)

pub sends : (s : Session) (h : History) (asdu : List ℕ) (kind : FrameOrigin) (now : ℕ) → may_send s
    ≡ true
    → kind_of asdu ≡ kind → after_call (Send kind now) (at s h)
    ≡ at (session.sent kind now s)
    (logged_sent (I s.next_sent s.next_received (record { items = asdu })) now h)
sends s h asdu kind now may is =
    cond-true (may_send s)
    (at (session.sent kind now s) (talk.Sent s.next_sent s.next_received kind now ∷ h))
    (at s h) may
    ∙ ap (λ k. at (session.sent kind now s) (talk.Sent s.next_sent s.next_received k now ∷ h))
    (sym is)

-- a frame that bears no ASDU
abbrev pub HasNoData : Apdu → Type 0
HasNoData f = (put : List Apdu) → data_frames (f ∷ put) ≡ data_frames put

pub plain : (f : Apdu) (now : ℕ) (h : History) → HasNoData f → logged_sent f now h ≡ talk.Went f now
    ∷ h
plain (I ns nr asdu) now h none = let no : data_frames (I ns nr asdu ∷ []) ≡ [] = none [] in cc
plain (S nr) now h none = refl
plain (U u) now h none = refl

-- and it is next if it is a confirmation, or all has gone out
pub next_plain : (p : Setup) (log : Log) (c : Course) (f : Apdu) → HasNoData f
    → (confirmation_of c.talk ≡ Some f) ⊎ ((confirmation_of c.talk ≡ None) × IsFlushed p log c
    × HasBegun log c)
    → IsNext p log f c
next_plain p log c (I ns nr asdu) none h = let no : data_frames (I ns nr asdu ∷ []) ≡ [] =
    none [] in cc
next_plain p log c (S nr) none h = h
next_plain p log c (U u) none h = h

pub confirms : (s t : Session) (h : History) (f : Apdu) (now : ℕ) → HasNoData f
    → ◌≡◌ {A = Due} (Some f, t) (confirmed s) → after_call (Confirm now) (at s h)
    ≡ at t (logged_sent f now h)
confirms s t h f now none e = ap (λ (d : Due). gone d now (at s h)) (sym e)
    ∙ ap (at t) (sym (plain f now h none))

pub pulls : (s t : Session) (h : History) (f : Apdu) (now : ℕ) → HasNoData f
    → ◌≡◌ {A = Due} (Some f, t) (pulled now s)
    → after_call (Pull now) (at s h) ≡ at t (logged_sent f now h)
pulls s t h f now none e = ap (λ (d : Due). gone d now (at s h)) (sym e)
    ∙ ap (at t) (sym (plain f now h none))

-- The session and the log

pub same_came : (f : Apdu) (now : ℕ) (h : History) → came_frames (logged_sent f now h)
    ≡ came_frames h
same_came (I ns nr asdu) now h = refl
same_came (S nr) now h = refl
same_came (U u) now h = refl

pub kept_talk : (p : Setup) (s : Session) (log : Log) (c : Course) → Talks p s log c
    → KeepsRulesSoFar p log
kept_talk p s log c k = record {
  course = c;
  runs = k.course_runs;
  rules = subst (λ (r : Run). KeepsRules p.session r.history) k.called
      (k.laws.rules p.session k.calls k.timely.range);
  commands = kept_commands p k.command_laws k.passing_laws log c k.course_runs;
}

-- the octets received begin with the frames
abbrev pub Begins : Channel → Course → Type 0
Begins octets c = (rest : List ℕ) × (octets.received ≡ spelled (came_frames c.talk) ++ rest)

-- what is said once one call more is made keeps the rules
ruled : (p : Setup) (s t : Session) (log : Log) (c : Course) (call : Call) (now moment : ℕ)
    (said : ℕ
    → History) (k : Talks p s log c) → moment ≡ now → after_call call (at s c.talk)
    ≡ at t (said moment)
    → KeepsRules p.session (said now)
ruled p s t log c call now moment said k clock made =
    subst (λ m. KeepsRules p.session (said m)) clock
    (subst (λ (r : Run). KeepsRules p.session r.history) (ap (after_call call) k.called
    ∙ made) (k.laws.rules p.session (call ∷ k.calls) k.timely.range))

-- a frame goes out
pub talk_out : (p : Setup) (s t : Session) (log : Log) (c : Course) (now moment : ℕ) (f : Apdu)
    (call : Call)
    (k : Talks p s log c) → Fits f → moment ≡ latest log → IsNext p log f c
    → has_lacked_place c.works.history ≡ false → IsTouched log c ⊎ HasAsked p log c
    → after_call call (at s c.talk) ≡ at t (logged_sent f moment c.talk) → Begins (present log) c →
    Talks p t (Went now (TcpOut (spelling f)) ∷ log) (with_sent f moment c)
talk_out p s t log c now moment f call k fits clock next placed turn made b = record {
  timely = k.timely;
  laws = k.laws;
  command_laws = k.command_laws;
  passing_laws = k.passing_laws;
  line_laws = k.line_laws;
  calls = call ∷ k.calls;
  called = ap (after_call call) k.called ∙ made;
  course_runs = (
    c,
    with_sent f moment c,
    k.course_runs,
    record {
      frame = f;
      fits = fits;
      spelled_so = refl;
      rules =
          ruled p s t log c call (latest log) moment (λ m. logged_sent f m c.talk) k clock made;
      next = next;
      placed = placed;
      turn = turn;
      put = ap (λ m. with_sent f m c) clock;
    },
    record {
      frames = [];
      taken = refl;
      each = tt;
      rest = b.0;
      joined = b.1
          ∙ ap (λ xs. spelled xs ++ b.0) (sym (same_came f moment c.talk));
    },
  );
}

-- a frame is taken
pub talk_received : (p : Setup) (s : Session) (log : Log) (c : Course) (moment : ℕ) (f : Apdu)
    (rest : List ℕ)
    (k : Talks p s log c) → IsTaking log → moment ≡ latest log → session.is_open s ≡ true
    → IsConfirmed s → Fits f
    → refuses s f ≡ false → has_lacked_place c.works.history ≡ false → IsFlushed p log c
    → IsUntouched log c ⊎ (frame_due p.session.w p.session.t2 p.session.t3 (latest log) c.talk
    ≡ None)
    → (present log).received ≡ spelled (f ∷ came_frames c.talk) ++ rest →
    Talks p (session.taken f moment s) log (with_frame p f moment (wall_on log moment) c)
talk_received p s log c moment f rest k taking clock on ready fits goes placed flushed undue
    joined =
    record {
      timely = k.timely;
      laws = k.laws;
      command_laws = k.command_laws;
      passing_laws = k.passing_laws;
      line_laws = k.line_laws;
      calls = Take f moment ∷ k.calls;
      called = ap (after_call (Take f moment)) k.called ∙ takes s c.talk f moment on ready goes;
      course_runs = subst (λ m. Runs p log (with_frame p f m (wall_on log m) c)) (sym clock)
          (runs_more k.line_laws p log c f taking (record {
            fits = fits;
            rest = rest;
            joined = joined;
            rules = ruled p s (session.taken f moment s) log c (Take f moment) (latest log) moment
                (λ m. talk.Came f m
                ∷ c.talk) k clock (takes s c.talk f moment on ready goes);
            placed = placed;
            flushed = flushed;
            undue = undue;
          }) k.course_runs);
    }

-- the same of another log, if nothing was said
pub talk_on : (p : Setup) (s t : Session) (old new : Log) (c d : Course) (k : Talks p s old c)
    → t ≡ s
    → d.talk ≡ c.talk → Runs p new d → Talks p t new d
talk_on p s t old new c d k same said is = record {
  timely = k.timely;
  laws = k.laws;
  command_laws = k.command_laws;
  passing_laws = k.passing_laws;
  line_laws = k.line_laws;
  calls = k.calls;
  called = k.called ∙ ap (λ x. at x c.talk) (sym same) ∙ ap (λ h. at t h) (sym said);
  course_runs = is;
}

-- all that came is taken
pub all_taken : (log : Log) (c : Course) (so_far : List ℕ)
    → (present log).received ≡ spelled (came_frames c.talk) ++ (so_far ++ []) → IsMore so_far
    → HasTakenAll (present log) c.talk
all_taken log c so_far joined waits = record {
  rest = so_far;
  joined = joined
      ∙ ap (λ x. spelled (came_frames c.talk) ++ x) (append-nil so_far);
  more = waits;
}

-- the connection ends
pub talk_cut : (p : Setup) (s t : Session) (old new : Log) (c d : Course) → Talks p s old c → t ≡ s
    → d.talk ≡ []
    → Runs p new d → Talks p (session.closed t) new d
talk_cut p s t old new c d k same said is = record {
  timely = k.timely;
  laws = k.laws;
  command_laws = k.command_laws;
  passing_laws = k.passing_laws;
  line_laws = k.line_laws;
  calls = Cut ∷ k.calls;
  called = ap (after_call Cut) k.called ∙ ap (λ x. at (session.closed x) []) (sym same)
      ∙ ap (λ h. at (session.closed t) h) (sym said);
  course_runs = is;
}

-- a connection begins
pub talk_open : (p : Setup) (s t : Session) (old new : Log) (c d : Course) (moment : ℕ)
    → Talks p s old c → t ≡ s
    → d.talk ≡ talk.Opened moment ∷ [] → Runs p new d
    → Talks p (session.opened moment (session.closed t)) new d
talk_open p s t old new c d moment k same said is = record {
  timely = k.timely;
  laws = k.laws;
  command_laws = k.command_laws;
  passing_laws = k.passing_laws;
  line_laws = k.line_laws;
  calls = Open moment ∷ Cut ∷ k.calls;
  called = ap (λ r. after_call (Open moment) (after_call Cut r)) k.called
      ∙ ap (λ x. at (session.opened moment (session.closed x)) (talk.Opened moment ∷ [])) (sym same)
      ∙ ap (λ h. at (session.opened moment (session.closed t)) h) (sym said);
  course_runs = is;
}

-- at the start
pub talk_first : (p : Setup) → IsTimely p.session → SessionLaws → CommandLaws → PassingLaws
    → LineLaws
    → Talks p (session.new_session p.session.k p.session.w p.session.t1 p.session.t2 p.session.t3)
    [] (first_course p)
talk_first p timely laws command_laws passing_laws line_laws = record {
  timely = timely;
  laws = laws;
  command_laws =
      command_laws;
  passing_laws = passing_laws;
  line_laws = line_laws;
  calls = [];
  called = refl;
  course_runs = refl;
}

-- What the session answers is what the history makes due.

pub confirmed_by : (p : Setup) (s : Session) (log : Log) (c : Course) (k : Talks p s log c)
    → (confirmed s).0 ≡ confirmation_of c.talk
confirmed_by p s log c k = subst (λ (r : Run). (confirmed r.session).0 ≡ confirmation_of r.history)
    k.called
    (k.laws.confirm p.session k.calls k.timely.range)

pub due_by : (p : Setup) (s : Session) (log : Log) (c : Course) (k : Talks p s log c) (now : ℕ)
    → (pulled now s).0 ≡ frame_due p.session.w p.session.t2 p.session.t3 now c.talk
due_by p s log c k now = subst (λ (r : Run). (pulled now r.session).0
    ≡ frame_due p.session.w p.session.t2 p.session.t3 now r.history) k.called
    (k.laws.dues p.session k.calls k.timely.range now)

pub may_by : (p : Setup) (s : Session) (log : Log) (c : Course) (k : Talks p s log c)
    → may_send s
    ≡ (talk.is_started c.talk && nat_lt (length (talk.still_unacknowledged c.talk)) p.session.k)
may_by p s log c k = subst (λ (r : Run). may_send r.session
    ≡ (talk.is_started r.history && nat_lt (length (talk.still_unacknowledged r.history))
    p.session.k)) k.called
    (k.laws.may_send p.session k.calls k.timely.range)

pub late_by : (p : Setup) (s : Session) (log : Log) (c : Course) (k : Talks p s log c) (now : ℕ)
    → timed_out now s ≡ has_timed_out p.session.t1 now c.talk
late_by p s log c k now = subst (λ (r : Run). timed_out now r.session
    ≡ has_timed_out p.session.t1 now r.history) k.called
    (k.laws.t1 p.session k.calls k.timely.range now)

-- t1 stays

either_way : (b : Bool) (x y : Due) (P : Due → Type 0) → P x → P y → P (cond b x y)
either_way true x y P h k = h
either_way false x y P h k = k

either_session : (b : Bool) (x y : Session) (n : ℕ) → x.t1 ≡ n → y.t1 ≡ n → (cond b x y).t1 ≡ n
either_session true x y n h k = h
either_session false x y n h k = k

replied_t1 : (r : Option Uf) (s : Session) → (session.replied r s).1.t1 ≡ s.t1
replied_t1 None s = either_way (session.is_stopping s && length s.unacknowledged == 0) _ _
    (λ d. d.1.t1
    ≡ s.t1) refl refl
replied_t1 (Some u) s = refl

pub confirm_t1 : (s : Session) → (after_confirm s).t1 ≡ s.t1
confirm_t1 s = either_way (not (session.is_open s)) _ _ (λ d. d.1.t1 ≡ s.t1) refl
    (either_way (session.is_stopping s && nat_lt 0 s.unconfirmed) _ _ (λ d. d.1.t1 ≡ s.t1) refl
    (replied_t1 s.reply s))

pub pull_t1 : (now : ℕ) (s : Session) → (after_pull now s).t1 ≡ s.t1
pull_t1 now s = either_way (not (session.is_open s)) _ _ (λ d. d.1.t1 ≡ s.t1) refl
    (either_way (session.is_s_due now s) _ _ (λ d. d.1.t1 ≡ s.t1) refl
    (either_way (session.is_test_due now s) _ _ (λ d. d.1.t1 ≡ s.t1) refl refl))

after_frame_t1 : (f : Apdu) (now : ℕ) (s : Session) → (session.after_frame f now s).t1 ≡ s.t1
after_frame_t1 (I ns nr asdu) now s = refl
after_frame_t1 (S nr) now s = refl
after_frame_t1 (U StartAct) now s = refl
after_frame_t1 (U StartCon) now s = refl
after_frame_t1 (U StopAct) now s = refl
after_frame_t1 (U StopCon) now s = refl
after_frame_t1 (U TestAct) now s = refl
after_frame_t1 (U TestCon) now s = refl

either_run : (b : Bool) (x y : Run) (n : ℕ) → x.session.t1 ≡ n → y.session.t1 ≡ n
    → (cond b x y).session.t1 ≡ n
either_run true x y n h k = h
either_run false x y n h k = k

call_t1 : (call : Call) (r : Run) → (after_call call r).session.t1 ≡ r.session.t1
call_t1 (Open now) r = refl
call_t1 Cut r = refl
call_t1 (Take f now) r =
    either_run (may_take r.session)
    (at (session.taken f now r.session) (logged (outcome_of r.session f) f now
    ∷ r.history)) r r.session.t1
    (either_session (refuses r.session f) _ _ r.session.t1 refl (after_frame_t1 f now _)) refl
call_t1 (Send kind now) r = either_run (may_send r.session)
    (at (session.sent kind now r.session) (talk.Sent r.session.next_sent r.session.next_received
    kind now ∷ r.history))
    r r.session.t1 refl refl
call_t1 (Confirm now) r = confirm_t1 r.session
call_t1 (Pull now) r = pull_t1 now r.session

run_t1 : (p : Settings) (calls : List Call) → (run p calls).session.t1 ≡ p.t1
run_t1 p [] = refl
run_t1 p (call ∷ calls) = call_t1 call (run p calls) ∙ run_t1 p calls

pub patient : (p : Setup) (s : Session) (log : Log) (c : Course) → Talks p s log c → 0 < s.t1
patient p s log c k =
    subst (λ n. 0 < n) (sym (ap (λ (r : Run). r.session.t1) (sym k.called)
    ∙ run_t1 p.session k.calls)) k.timely.patient
