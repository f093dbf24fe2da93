-- The commands of a course are what calls made, at the moments of the log, which never fall; and
-- what each call keeps the course keeps.
use Rattle.std.specs.Prelude.{if◌then◌else◌, min}
use Rattle.std.proofs.Common.{◌≡◌, ℕ, zero, suc, length, ◌≤◌, Bool, true, false, List, [], ◌∷◌}
use Rattle.std.proofs.Common.{Option, Some, None}
use Rattle.std.proofs.Common.{refl, ap, sym, subst, le_refl, le_trans}
use Rattle.std.proofs.Math.Nat.{le-max_left}
use Rattle.asdu.specs.Asdu.{AsduValue}
use Rattle.apci.specs.declared.apdu.Apdu.{Apdu}
use Rattle.apci.specs.declared.apdu.Apdu.TheVariants.{I, S, U}
use Rattle.apci.specs.Spelling.{Fits}
use Rattle.link.specs.declared.outcome.Outcome.{Outcome}
use Rattle.link.specs.declared.outcome.Outcome.TheVariants as outcome
use Rattle.session.specs.declared.kinds.Close.{Close}
use Rattle.session.specs.declared.kinds.Close.TheVariants.{Grammar, SendNumber, ReceiveNumber}
use Rattle.session.specs.declared.kinds.Close.TheVariants.{Stopped, Timeout, OwnAnswers, Replaced}
use Rattle.command.specs.State.{has_answer_place}
use Rattle.command.specs.Judging.{judged}
use Rattle.command.specs.Calls as calls
use Rattle.command.specs.Calls.{Call, Judge, PutOnLine, Accept, Busy, Lose, Mirror, Own, SendOwn}
use Rattle.command.specs.Calls.{Cut, Due, Run, run, first_run, after_call, after_answer}
use Rattle.command.specs.Calls.{after_sending, NeverFall}
use Rattle.gateway.specs.Objects.{has_objects}
use Rattle.gateway.specs.Log.{Log, LogEntry, Input, LineIn, Opened, TcpIn, CutOff, Ticked, WallIs}
use Rattle.gateway.specs.Log.{Restarted}
use Rattle.gateway.specs.Log.{Came, Went, LineOut, TcpOut, Closed, GapOut, latest, last_moment}
use Rattle.gateway.specs.Streams.{AllFit}
use Rattle.gateway.specs.Connections.{present}
use Rattle.gateway.specs.Reports.{Setup}
use Rattle.gateway.specs.Serial.{listed, refusals, is_first_command}
use Rattle.gateway.specs.Works.{Works, tasks_of, kept_own, is_command_report, mirrored_works}
use Rattle.gateway.specs.Works.{LearnsReport, LearnsOf, received_works, answered_works}
use Rattle.gateway.specs.Works.{unless_silent_works}
use Rattle.gateway.specs.Works.{settled_works, unasked_works, done_works, put_first}
use Rattle.gateway.specs.Works.{link_given_up_works, command_given_up_works}
use Rattle.gateway.specs.Works.{commands_given_up_works_upto, restarted_works}
use Rattle.link.specs.Carried.{awaits_command}
use Rattle.gateway.specs.Course.{Course, with_frames, with_sent, closed_course, IsLeft}
use Rattle.gateway.specs.Course.{AreTaken, room_in, Runs}
use Rattle.gateway.proofs.Waiting.{IsFitCall}

-- frames that are taken fit
pub taken_fit : (p : Setup) (log : Log) (now : ℕ) (frames : List Apdu) (c : Course)
    → AreTaken p log now frames c
    → AllFit frames
taken_fit p log now [] c h = tt
taken_fit p log now (frame ∷ older) c h = (h.0.fits, taken_fit p log now older c h.1)

-- calls that leave these commands, the latest not past this moment
pub record IsCalled (p : Setup) (at : ℕ) (r : Run) : Type 0 where
  pub made : List Call
  pub leave : run p.stations p.sizes p.select_ms p.max_age_ms made ≡ r
  pub rise : NeverFall made
  pub past : calls.latest made ≤ at

abbrev pub IsMade : Setup → ℕ → Works → Type 0
IsMade p at w = IsCalled p at (tasks_of w)

later : (p : Setup) (at soon : ℕ) (r : Run) → at ≤ soon → IsCalled p at r → IsCalled p soon r
later p at soon r h c = record {
  made = c.made;
  leave = c.leave;
  rise = c.rise;
  past =
      le_trans c.past h;
}

-- a call at this moment, or at none; the ASDU of a judgement is octets
pub record IsAt (at : ℕ) (call : Call) : Type 0 where
  pub when : (n : ℕ) → n ≤ at → (n ≤ calls.moment_of call n) × (calls.moment_of call n ≤ at)
  pub octets : IsFitCall call

pub called_more : (p : Setup) (at : ℕ) (call : Call) (r : Run) → IsAt at call → IsCalled p at r
    → IsCalled p at (after_call call r)
called_more p at call r when c = record {
  made = call ∷ c.made;
  leave = ap (after_call call) c.leave;
  rise = ((when.when (calls.latest c.made) c.past).0, c.rise);
  past = (when.when (calls.latest c.made) c.past).1;
}

-- whatever calls at this moment keep, a part of a step keeps
module _ (p : Setup) (at : ℕ) (Q : Run → Type 0) (one : (call : Call) (r : Run) → IsAt at call → Q r
    → Q (after_call call r)) where
  -- at no moment, and at this one
  still : (n : ℕ) → n ≤ at → (n ≤ n) × (n ≤ at)
  still n h = (le_refl n, h)

  now_is : (n : ℕ) → n ≤ at → (n ≤ at) × (at ≤ at)
  now_is n h = (h, le_refl at)

  keep : (xs : List (List ℕ)) (r : Run) → Q r → Q (kept_own xs r)
  keep [] r c = c
  keep (x ∷ xs) r c = go (has_answer_place r.state) here (keep xs next here)
    where
      next : Run
      next = after_call (Own x) r

      here : Q next
      here = one (Own x) r (record { when = still; octets = tt }) c

      go : (b : Bool) → Q next → Q (kept_own xs next) → Q (if b then kept_own xs next else next)
      go true here all = all
      go false here all = here

  -- An answer is learnt

  mirror : (running : Bool) (v : AsduValue) (pieces : List (List ℕ)) (w : Works) → Q (tasks_of w)
      → Q (tasks_of (mirrored_works at running v pieces w))
  mirror false v pieces w c = one (Mirror v at) (tasks_of w) (record { when = now_is; octets = tt })
      c
  mirror true v pieces w c = keep pieces (after_call (Mirror v at) (tasks_of w))
      (one (Mirror v at) (tasks_of w) (record { when = now_is; octets = tt }) c)

  report : (running b : Bool) (asdu : List ℕ) (w z : Works) → LearnsReport p at running b asdu w z
      → Q (tasks_of w)
      → Q (tasks_of z)
  report running false asdu w z is c = subst (λ (w : Works). Q (tasks_of w)) (sym is) c
  report running true asdu w z is c = subst (λ (w : Works). Q (tasks_of w)) (sym is.5)
      (mirror running is.0 is.2 w c)

  learn : (running : Bool) (o : Outcome) (w z : Works) → LearnsOf p at running o w z
      → Q (tasks_of w) → Q (tasks_of z)
  learn running outcome.None w z is c = subst (λ (w : Works). Q (tasks_of w)) (sym is) c
  learn running (outcome.Started k) w z is c = subst (λ (w : Works). Q (tasks_of w)) (sym is) c
  learn running (outcome.StartedGap k session) w z is c =
      subst (λ (w : Works). Q (tasks_of w)) (sym is) c
  learn running (outcome.Empty k) w z is c = subst (λ (w : Works). Q (tasks_of w)) (sym is) c
  learn running (outcome.Accepted k) w z is c = subst (λ (w : Works). Q (tasks_of w)) (sym is)
      (one (Accept k) (tasks_of w) (record { when = still; octets = tt }) c)
  learn running (outcome.Down k) w z is c = subst (λ (w : Works). Q (tasks_of w)) (sym is)
      (one (Lose k) (tasks_of w) (record { when = still; octets = tt }) c)
  learn running (outcome.Busy k) w z is c =
      subst (λ (w : Works). Q (tasks_of w)) (sym is) (keep (refusals k w.serial)
      (after_call (Busy k) (tasks_of w))
      (one (Busy k) (tasks_of w) (record { when = still; octets = tt }) c))
  learn running (outcome.Report k asdu) w z is c = report running
      (is_command_report p.sizes asdu.items) asdu.items w z is c

  -- Frames come and go

  receive : (frame : Apdu) (wall : Option ℕ) (w : Works) → Fits frame → Q (tasks_of w)
      → Q (tasks_of (received_works frame at wall w))
  receive (S nr) wall w fits c = c
  receive (U u) wall w fits c = c
  receive (I ns nr asdu) wall w fits c =
      let soon : Run = after_call (Judge asdu.items at wall) (tasks_of w) in
      keep (listed (judged asdu.items at wall w.serial.commands).0) soon
      (one (Judge asdu.items at wall) (tasks_of w) (record { when = now_is; octets = fits.2 }) c)

  pub receive_all : (frames : List Apdu) (wall : Option ℕ) (c : Course) → AllFit frames
      → Q (tasks_of c.works)
      → Q (tasks_of (with_frames p frames at wall c).works)
  receive_all [] wall c fit made = made
  receive_all (frame ∷ frames) wall c fit made =
      receive frame wall (with_frames p frames at wall c).works fit.0
      (receive_all frames wall c fit.1 made)

  pub send : (frame : Apdu) (now : ℕ) (c : Course) → Q (tasks_of c.works)
      → Q (tasks_of (with_sent frame now c).works)
  send (S nr) now c made = made
  send (U u) now c made = made
  send (I ns nr asdu) now c made = go (has_objects asdu.items)
    where
      go : (b : Bool) → Q (tasks_of (if b then c.works else answered_works c.works))
      go true = made
      go false = one SendOwn (tasks_of c.works) (record { when = still; octets = tt }) made

  -- A step is done

  pub silence : (o : Option ℕ) (w : Works) → Q (tasks_of w)
      → Q (tasks_of (unless_silent_works o w))
  silence None w c = c
  silence (Some k) w c = one (Lose k) (tasks_of w) (record { when = still; octets = tt }) c

  pub settle : (w : Works) → Q (tasks_of w) → Q (tasks_of (settled_works at w))
  settle w c = one (Due at) (tasks_of (unless_silent_works w.serial.silent w))
      (record { when = now_is; octets = tt }) (silence w.serial.silent w c)

  pub finish : (room : Bool) (w : Works) → Q (tasks_of w) → Q (tasks_of (done_works at room w))
  finish room w c = go w.is_due
    where
      go : (b : Bool) → Q (tasks_of (if b then unasked_works at room (settled_works at w) else w))
      go true = settle w c
      go false = c

  pub put : (b : Bool) (k : ℕ) (r : Run) → Q r → Q (put_first b k r)
  put false k r c = c
  put true k r c = one (PutOnLine k) r (record { when = still; octets = tt }) c

  given_up_one : (k : ℕ) (w : Works) → Q (tasks_of w) → Q (tasks_of (command_given_up_works k w))
  given_up_one k w c = go (awaits_command w.serial.line k)
    where
      go : (b : Bool) → Q (tasks_of (if b then link_given_up_works k w else w))
      go true = one (Lose k) (tasks_of w) (record { when = still; octets = tt }) c
      go false = c

  given_up_all : (count : ℕ) (w : Works) → Q (tasks_of w)
      → Q (tasks_of (commands_given_up_works_upto count w))
  given_up_all zero w c = c
  given_up_all (suc k) w c =
      given_up_one k (commands_given_up_works_upto k w) (given_up_all k w c)

  restart : (w : Works) → Q (tasks_of w) → Q (tasks_of (restarted_works w))
  restart w c = given_up_all (length w.serial.line.stations) w c

  cut : (w : Works) → Q (tasks_of w) → Q (after_call Cut (tasks_of w))
  cut w c = one Cut (tasks_of w) (record { when = still; octets = tt }) c

  pub close : (cause : Close) (is_open : Bool) (c : Course) → Q (tasks_of c.works)
      → Q (tasks_of (closed_course p cause is_open at c).works)
  close Replaced is_open c made = made
  close Timeout is_open c made = cut (settled_works at c.works) (settle c.works made)
  close Grammar is_open c made = cut c.works made
  close SendNumber is_open c made = cut c.works made
  close ReceiveNumber is_open c made = cut c.works made
  close Stopped is_open c made = cut c.works made
  close OwnAnswers is_open c made = cut c.works made

-- a step's entry is its moment's
module _ (p : Setup) (P : Log → Run → Type 0) (one : (log : Log) (call : Call) (r : Run)
    → IsAt (latest log) call
    → P log r → P log (after_call call r)) (next : (entry : LogEntry) (log : Log) (r : Run)
    → P log r
    → P (entry ∷ log) r) where
  abbrev So : Log → Course → Type 0
  So log c = P log (tasks_of c.works)

  left_so : (log : Log) (now : ℕ) (event : Input) (before after : Course)
      → IsLeft p log before after → So log before
      → So (Came now event ∷ log) after
  left_so log now event before after left h =
      next (Came now event) log (tasks_of after.works)
      (subst (So log) (sym left.is) (finish p (latest log) (P log) (one log) (room_in p log before)
      before.works h))

  pub all_so : P [] (first_run p.stations p.sizes p.select_ms p.max_age_ms)
      → (log : Log) (c : Course) → Runs p log c
      → So log c
  all_so start [] c r = subst (So []) (sym r) start
  all_so start (Came now Ticked ∷ log) c r = subst (So (Came now Ticked ∷ log)) (sym r.5)
      (left_so log now Ticked r.0 r.1 r.4 (all_so start log r.0 r.2))
  all_so start (Came now (WallIs number) ∷ log) c r = subst (So (Came now (WallIs number) ∷ log))
      (sym r.5)
      (left_so log now (WallIs number) r.0 r.1 r.4 (all_so start log r.0 r.2))
  all_so start (Came now Restarted ∷ log) c r =
      let new : Log = Came now Restarted ∷ log in
      subst (So new) (sym r.5.1) (cut p (latest new) (P new) (one new) (restarted_works r.1.works)
      (restart p (latest new) (P new) (one new) r.1.works
      (left_so log now Restarted r.0 r.1 r.4 (all_so start log r.0 r.2))))
  all_so start (Came now (LineIn octets) ∷ log) c r =
      let new : Log = Came now (LineIn octets) ∷ log in
      subst (So new) (sym r.5.2) (learn p (latest new) (P new) (one new) _ _ _ r.5.0 r.5.1
      (left_so log now (LineIn octets) r.0 r.1 r.4 (all_so start log r.0 r.2)))
  all_so start (Came now (TcpIn octets) ∷ log) c r =
      let new : Log = Came now (TcpIn octets) ∷ log in
      subst (So new) (sym r.5.taken) (receive_all p (latest new) (P new) (one new) r.5.frames _ _
      (taken_fit p (Came (latest new) (TcpIn octets) ∷ log) (latest new) r.5.frames _ r.5.each)
      (left_so log now (TcpIn octets) r.0 r.1 r.4 (all_so start log r.0 r.2)))
  all_so start (Came now Opened ∷ log) c r =
      let new : Log = Came now Opened ∷ log in
      subst (So new) (sym r.5) (cut p (latest new) (P new) (one new) r.1.works
      (left_so log now Opened r.0 r.1 r.4 (all_so start log r.0 r.2)))
  all_so start (Came now CutOff ∷ log) c r =
      let new : Log = Came now CutOff ∷ log in
      subst (So new) (sym r.5) (cut p (latest new) (P new) (one new) r.1.works
      (left_so log now CutOff r.0 r.1 r.4 (all_so start log r.0 r.2)))
  all_so start (Went now (LineOut octets) ∷ log) c r =
      let new : Log = Went now (LineOut octets) ∷ log in
      let ready : P new (tasks_of (settled_works (latest log) r.0.works)) =
      next (Went now (LineOut octets)) log (tasks_of (settled_works (latest log) r.0.works))
      (settle p (latest log) (P log) (one log) r.0.works (all_so start log r.0 r.1)) in
      subst (So new) (sym r.2.is)
      (put p (latest new) (P new) (one new) (is_first_command
      (settled_works (latest log) r.0.works).serial.line r.2.request) r.2.request.station
      (tasks_of (settled_works (latest log) r.0.works)) ready)
  all_so start (Went now (GapOut station session) ∷ log) c r =
      subst (So (Went now (GapOut station session) ∷ log)) (sym r.2.is)
      (next (Went now (GapOut station session)) log (tasks_of r.0.works) (all_so start log r.0 r.1))
  all_so start (Went now (TcpOut octets) ∷ log) c r =
      let new : Log = Went now (TcpOut octets) ∷ log in
      let sent : So new r.1 =
      subst (So new) (sym r.3.put) (send p (latest new) (P new) (one new) r.3.frame (latest log)
      r.0
      (next (Went now (TcpOut octets)) log (tasks_of r.0.works) (all_so start log r.0 r.2))) in
      subst (So new) (sym r.4.taken) (receive_all p (latest new) (P new) (one new) r.4.frames _ r.1
      (taken_fit p new (latest new) r.4.frames r.1 r.4.each) sent)
  all_so start (Went now (Closed cause) ∷ log) c r =
      let new : Log = Went now (Closed cause) ∷ log in
      subst (So new) (sym r.2) (close p (latest new) (P new) (one new) cause (present log).is_open
      r.0
      (next (Went now (Closed cause)) log (tasks_of r.0.works) (all_so start log r.0 r.1)))

-- Calls whose moments never fall

next_called : (p : Setup) (entry : LogEntry) (log : Log) (r : Run) → IsCalled p (latest log) r
    → IsCalled p (latest (entry ∷ log)) r
next_called p (Went now action) log r c = c
next_called p (Came now event) log r c = later p (latest log) (latest (Came now event ∷ log)) r
    (le-max_left (latest log) (min now last_moment)) c

pub all_made : (p : Setup) (log : Log) (c : Course) → Runs p log c → IsMade p (latest log) c.works
all_made p = all_so p (λ log r. IsCalled p (latest log) r)
    (λ log call r when c. called_more p (latest log) call r when c) (next_called p)
    (record { made = []; leave = refl; rise = tt; past = le_refl 0 })
