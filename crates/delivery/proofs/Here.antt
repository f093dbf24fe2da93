-- What was judged since the latest connection was over has come on the open one.
use Rattle.std.proofs.Common.{◌≡◌, ℕ, Bool, true, false, List, [], ◌∷◌, ◌++◌}
use Rattle.std.proofs.Common.{Option, Some, None, refl, ap, sym, ◌∙◌, subst}
use Rattle.std.specs.Prelude.{if◌then◌else◌}
use Rattle.asdu.specs.Asdu.{AsduValue}
use Rattle.apci.specs.declared.apdu.Apdu.{Apdu}
use Rattle.apci.specs.declared.apdu.Apdu.TheVariants.{I, S, U}
use Rattle.link.specs.Exchanges.{Sending}
use Rattle.link.specs.declared.outcome.Outcome.{Outcome}
use Rattle.link.specs.declared.outcome.Outcome.TheVariants as outcome
use Rattle.session.specs.declared.kinds.Close.{Close}
use Rattle.session.specs.declared.kinds.Close.TheVariants.{Grammar, SendNumber, ReceiveNumber}
use Rattle.session.specs.declared.kinds.Close.TheVariants.{Stopped, Timeout, OwnAnswers, Replaced}
use Rattle.command.specs.declared.waiting.Waiting.{Waiting}
use Rattle.command.specs.State.{has_answer_place, first_answer, oldest_for}
use Rattle.command.specs.Judging.{judged}
use Rattle.command.specs.Calls.{Run, Judge, Busy, Mirror, Own, after_call, after_answer}
use Rattle.command.specs.Calls.{after_sending}
use Rattle.gateway.specs.Objects.{has_objects}
use Rattle.gateway.specs.Log.{Log, LineIn, Opened, TcpIn, CutOff, Ticked, WallIs, Restarted, Came}
use Rattle.gateway.specs.Log.{Went, LineOut, TcpOut, Closed, GapOut, latest}
use Rattle.gateway.specs.Connections.{present}
use Rattle.gateway.specs.Reports.{Setup}
use Rattle.gateway.specs.Serial.{listed, refusals, is_first_command}
use Rattle.gateway.specs.Works.{Works, tasks_of, kept_own, is_command_report}
use Rattle.gateway.specs.Works.{mirrored_works, LearnsReport, LearnsOf, received_works}
use Rattle.gateway.specs.Works.{answered_works, unless_silent_works, settled_works}
use Rattle.gateway.specs.Works.{unasked_works, done_works, put_first, asked_works}
use Rattle.gateway.specs.Course.{Course, came_frames, with_frames, with_sent, closed_course, IsLeft}
use Rattle.gateway.specs.Course.{room_in, Runs}
use Rattle.delivery.specs.Commands.{judged_here, asdus_in}

abbrev here : Works → List (List ℕ)
here w = judged_here w.history

-- What came of an exchange

kept : (xs : List (List ℕ)) (r : Run)
    → judged_here (kept_own xs r).history ≡ judged_here r.history
kept [] r = refl
kept (x ∷ xs) r = by_room (has_answer_place r.state) (kept xs next)
  where
    next : Run
    next = after_call (Own x) r

    by_room : (b : Bool) → judged_here (kept_own xs next).history ≡ judged_here r.history
        → judged_here (if b then kept_own xs next else next).history ≡ judged_here r.history
    by_room true e = e
    by_room false e = refl

mirrored : (at : ℕ) (running : Bool) (v : AsduValue) (pieces : List (List ℕ)) (w : Works)
    → here (mirrored_works at running v pieces w) ≡ here w
mirrored at true v pieces w = kept pieces (after_call (Mirror v at) (tasks_of w))
mirrored at false v pieces w = refl

reported : (p : Setup) (at : ℕ) (running b : Bool) (report : List ℕ) (w z : Works)
    → LearnsReport p at running b report w z → here z ≡ here w
reported p at running true report w z is = ap here is.5 ∙ mirrored at running is.0 is.2 w
reported p at running false report w z is = ap here is

learnt : (p : Setup) (at : ℕ) (running : Bool) (o : Outcome) (w z : Works)
    → LearnsOf p at running o w z → here z ≡ here w
learnt p at running outcome.None w z is = ap here is
learnt p at running (outcome.Started station) w z is = ap here is
learnt p at running (outcome.StartedGap station session) w z is = ap here is
learnt p at running (outcome.Empty station) w z is = ap here is
learnt p at running (outcome.Accepted station) w z is = ap here is
learnt p at running (outcome.Down station) w z is = ap here is
learnt p at running (outcome.Busy station) w z is =
    ap here is ∙ kept (refusals station w.serial) (after_call (Busy station) (tasks_of w))
learnt p at running (outcome.Report station asdu) w z is =
    reported p at running (is_command_report p.sizes asdu.items) asdu.items w z is

-- A step

settled : (at : ℕ) (w : Works) → here (settled_works at w) ≡ here w
settled at w = by_silent w.serial.silent
  where
    by_silent : (o : Option ℕ) → here (unless_silent_works o w) ≡ here w
    by_silent None = refl
    by_silent (Some k) = refl

done : (at : ℕ) (room : Bool) (w : Works) → here (done_works at room w) ≡ here w
done at room w = by_due w.is_due
  where
    by_due : (b : Bool)
        → here (if b then unasked_works at room (settled_works at w) else w) ≡ here w
    by_due true = settled at w
    by_due false = refl

put : (b : Bool) (k : ℕ) (w : Works) → judged_here (put_first b k (tasks_of w)).history ≡ here w
put false k w = refl
put true k w = by_oldest (oldest_for k w.serial.commands)
  where
    by_oldest : (o : Option Waiting) → judged_here (after_sending o k (tasks_of w)).history ≡ here w
    by_oldest None = refl
    by_oldest (Some x) = refl

asked : (at : ℕ) (room : Bool) (x : Sending) (w : Works) → here (asked_works at room x w) ≡ here w
asked at room x w = put (is_first_command w.serial.line x) x.station w

-- The course

abbrev IsHere : Course → Type 0
IsHere c = here c.works ≡ asdus_in (came_frames c.talk)

arrived : (f : Apdu) (now : ℕ) (wall : Option ℕ) (w : Works) (older : List Apdu)
    → here w ≡ asdus_in older → here (received_works f now wall w) ≡ asdus_in (f ∷ older)
arrived (I ns nr asdu) now wall w older h =
    kept (listed (judged asdu.items now wall w.serial.commands).0)
    (after_call (Judge asdu.items now wall) (tasks_of w))
    ∙ ap (λ (xs : List (List ℕ)). xs ++ asdu.items ∷ []) h
arrived (S nr) now wall w older h = h
arrived (U u) now wall w older h = h

frames : (p : Setup) (fs : List Apdu) (now : ℕ) (wall : Option ℕ) (c : Course) → IsHere c
    → IsHere (with_frames p fs now wall c)
frames p [] now wall c h = h
frames p (f ∷ fs) now wall c h =
    arrived f now wall (with_frames p fs now wall c).works
    (came_frames (with_frames p fs now wall c).talk) (frames p fs now wall c h)

-- an own answer goes out
one_sent : (b : Bool) (w : Works) → here (if b then w else answered_works w) ≡ here w
one_sent true w = refl
one_sent false w = by_first (first_answer w.serial.commands.answers)
  where
    by_first : (o : Option (List ℕ)) → judged_here (after_answer o (tasks_of w)).history ≡ here w
    by_first None = refl
    by_first (Some octets) = refl

sent : (f : Apdu) (now : ℕ) (c : Course) → IsHere c → IsHere (with_sent f now c)
sent (I ns nr asdu) now c h = one_sent (has_objects asdu.items) c.works ∙ h
sent (S nr) now c h = h
sent (U u) now c h = h

closed : (p : Setup) (cause : Close) (is_open : Bool) (at : ℕ) (c : Course) → IsHere c
    → IsHere (closed_course p cause is_open at c)
closed p Grammar is_open at c h = refl
closed p SendNumber is_open at c h = refl
closed p ReceiveNumber is_open at c h = refl
closed p Stopped is_open at c h = refl
closed p Timeout is_open at c h = refl
closed p OwnAnswers is_open at c h = refl
closed p Replaced is_open at c h = h

left : (p : Setup) (log : Log) (before after : Course) → IsLeft p log before after
    → IsHere before → IsHere after
left p log before after l h = subst IsHere (sym l.is)
    (done (latest log) (room_in p log before) before.works ∙ h)

pub judged_on_it : (p : Setup) (log : Log) (c : Course) → Runs p log c
    → judged_here c.works.history ≡ asdus_in (came_frames c.talk)
judged_on_it p [] c r = subst IsHere (sym r) refl
judged_on_it p (Came now (LineIn octets) ∷ log) c r = subst IsHere (sym r.5.2)
    (learnt p _ _ _ _ r.5.0 r.5.1 ∙ left p log r.0 r.1 r.4 (judged_on_it p log r.0 r.2))
judged_on_it p (Came now (TcpIn octets) ∷ log) c r = subst IsHere (sym r.5.taken)
    (frames p r.5.frames _ _ _ (left p log r.0 r.1 r.4 (judged_on_it p log r.0 r.2)))
judged_on_it p (Came now Ticked ∷ log) c r = subst IsHere (sym r.5)
    (left p log r.0 r.1 r.4 (judged_on_it p log r.0 r.2))
judged_on_it p (Came now (WallIs number) ∷ log) c r = subst IsHere (sym r.5)
    (left p log r.0 r.1 r.4 (judged_on_it p log r.0 r.2))
judged_on_it p (Came now Opened ∷ log) c r = subst IsHere (sym r.5) refl
judged_on_it p (Came now CutOff ∷ log) c r = subst IsHere (sym r.5) refl
judged_on_it p (Came now Restarted ∷ log) c r = subst IsHere (sym r.5.1) refl
judged_on_it p (Went now (LineOut octets) ∷ log) c r = subst IsHere (sym r.2.is)
    (asked (latest log) (room_in p log r.0) r.2.request (settled_works (latest log) r.0.works)
    ∙ settled (latest log) r.0.works ∙ judged_on_it p log r.0 r.1)
judged_on_it p (Went now (GapOut station session) ∷ log) c r =
    subst IsHere (sym r.2.is) (judged_on_it p log r.0 r.1)
judged_on_it p (Went now (TcpOut octets) ∷ log) c r = subst IsHere (sym r.4.taken)
    (frames p r.4.frames _ _ r.1 (subst IsHere (sym r.3.put)
    (sent r.3.frame (latest log) r.0 (judged_on_it p log r.0 r.2))))
judged_on_it p (Went now (Closed cause) ∷ log) c r = subst IsHere (sym r.2)
    (closed p cause (present log).is_open (latest log) r.0 (judged_on_it p log r.0 r.1))
