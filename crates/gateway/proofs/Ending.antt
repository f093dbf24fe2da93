-- Own answers go out, and what is kept of a connection ends with it.
use Rattle.std.proofs.Common.{◌≡◌, ℕ, ◌+◌, Bool, true, false, List, [], ◌∷◌, ◌++◌}
use Rattle.std.proofs.Common.{Option, Some, None, refl, ap, sym, ◌∙◌, subst}
use Rattle.std.specs.Prelude.{if◌then◌else◌}
use Rattle.std.proofs.lemmas.List.{append-nil}
use Rattle.asdu.specs.Asdu.{AsduValue}
use Rattle.apci.specs.declared.apdu.Apdu.{Apdu}
use Rattle.apci.specs.declared.apdu.Apdu.TheVariants.{I, S, U}
use Rattle.link.specs.Exchanges.{Sending}
use Rattle.link.specs.declared.outcome.Outcome.{Outcome}
use Rattle.link.specs.declared.outcome.Outcome.TheVariants as outcome
use Rattle.session.specs.declared.kinds.Close.{Close}
use Rattle.session.specs.declared.kinds.Close.TheVariants.{Grammar, SendNumber, ReceiveNumber}
use Rattle.session.specs.declared.kinds.Close.TheVariants.{Stopped, Timeout, OwnAnswers, Replaced}
use Rattle.command.specs.declared.waiting.Waiting.{Waiting}
use Rattle.command.specs.State.{has_answer_place, first_answer, oldest_for}
use Rattle.command.specs.Judging.{judged}
use Rattle.command.specs.History.{History, own_sent}
use Rattle.command.specs.Calls.{Run, Judge, Busy, Mirror, Own, after_call, after_answer}
use Rattle.command.specs.Calls.{after_sending}
use Rattle.command.specs.CommandLaws.{CommandLaws}
use Rattle.gateway.specs.Objects.{has_objects}
use Rattle.gateway.specs.Log.{Log, LineIn, Opened, TcpIn, CutOff, Ticked, WallIs, Restarted, Came}
use Rattle.gateway.specs.Log.{Went, LineOut, TcpOut, Closed, GapOut, latest}
use Rattle.gateway.specs.Frames.{Sent}
use Rattle.gateway.specs.Connections.{present}
use Rattle.gateway.specs.Reports.{Setup}
use Rattle.gateway.specs.Serial.{listed, refusals, is_first_command}
use Rattle.gateway.specs.Works.{Works, tasks_of, kept_own, is_command_report}
use Rattle.gateway.specs.Works.{mirrored_works, LearnsReport, LearnsOf, received_works}
use Rattle.gateway.specs.Works.{answered_works, unless_silent_works, settled_works, cut_works}
use Rattle.gateway.specs.Works.{unasked_works, done_works, put_first, asked_works, restarted_works}
use Rattle.gateway.specs.Course.{Course, with_frames, with_sent, IsNext, closed_course, IsLeft}
use Rattle.gateway.specs.Course.{room_in, Runs}
use Rattle.gateway.specs.Ends.{ends_in, ends_on}
use Rattle.gateway.specs.GoingOut.{answers_among, AnswersGoOut}
use Rattle.gateway.proofs.Restarting.{kept_over}
use Rattle.gateway.proofs.Reached.{answers_kept}

-- the own answers that went out on the open connection, and how many connections are over
abbrev Told : Type 0
Told = List (List ℕ) × ℕ

abbrev told : History → Told
told h = (own_sent h, ends_in h)

abbrev told_by : Works → Told
told_by w = told w.history

-- What came of an exchange

kept : (xs : List (List ℕ)) (r : Run) → told (kept_own xs r).history ≡ told r.history
kept [] r = refl
kept (x ∷ xs) r = by_room (has_answer_place r.state) (kept xs next)
  where
    next : Run
    next = after_call (Own x) r

    by_room : (b : Bool) → told (kept_own xs next).history ≡ told r.history
        → told (if b then kept_own xs next else next).history ≡ told r.history
    by_room true e = e
    by_room false e = refl

mirrored : (at : ℕ) (running : Bool) (v : AsduValue) (pieces : List (List ℕ)) (w : Works)
    → told_by (mirrored_works at running v pieces w) ≡ told_by w
mirrored at true v pieces w = kept pieces (after_call (Mirror v at) (tasks_of w))
mirrored at false v pieces w = refl

reported : (p : Setup) (at : ℕ) (running b : Bool) (report : List ℕ) (w z : Works)
    → LearnsReport p at running b report w z → told_by z ≡ told_by w
reported p at running true report w z is = ap told_by is.5 ∙ mirrored at running is.0 is.2 w
reported p at running false report w z is = ap told_by is

learnt : (p : Setup) (at : ℕ) (running : Bool) (o : Outcome) (w z : Works)
    → LearnsOf p at running o w z → told_by z ≡ told_by w
learnt p at running outcome.None w z is = ap told_by is
learnt p at running (outcome.Started station) w z is = ap told_by is
learnt p at running (outcome.StartedGap station session) w z is = ap told_by is
learnt p at running (outcome.Empty station) w z is = ap told_by is
learnt p at running (outcome.Accepted station) w z is = ap told_by is
learnt p at running (outcome.Down station) w z is = ap told_by is
learnt p at running (outcome.Busy station) w z is =
    ap told_by is ∙ kept (refusals station w.serial) (after_call (Busy station) (tasks_of w))
learnt p at running (outcome.Report station asdu) w z is =
    reported p at running (is_command_report p.sizes asdu.items) asdu.items w z is

-- Frames that come

arrived : (f : Apdu) (now : ℕ) (wall : Option ℕ) (w : Works)
    → told_by (received_works f now wall w) ≡ told_by w
arrived (I ns nr asdu) now wall w =
    kept (listed (judged asdu.items now wall w.serial.commands).0)
    (after_call (Judge asdu.items now wall) (tasks_of w))
arrived (S nr) now wall w = refl
arrived (U u) now wall w = refl

-- A step

settled : (at : ℕ) (w : Works) → told_by (settled_works at w) ≡ told_by w
settled at w = by_silent w.serial.silent
  where
    by_silent : (o : Option ℕ) → told_by (unless_silent_works o w) ≡ told_by w
    by_silent None = refl
    by_silent (Some k) = refl

done : (at : ℕ) (room : Bool) (w : Works) → told_by (done_works at room w) ≡ told_by w
done at room w = by_due w.is_due
  where
    by_due : (b : Bool)
        → told_by (if b then unasked_works at room (settled_works at w) else w) ≡ told_by w
    by_due true = settled at w
    by_due false = refl

put : (b : Bool) (k : ℕ) (w : Works) → told (put_first b k (tasks_of w)).history ≡ told_by w
put false k w = refl
put true k w = by_oldest (oldest_for k w.serial.commands)
  where
    by_oldest : (o : Option Waiting) → told (after_sending o k (tasks_of w)).history ≡ told_by w
    by_oldest None = refl
    by_oldest (Some x) = refl

asked : (at : ℕ) (room : Bool) (x : Sending) (w : Works)
    → told_by (asked_works at room x w) ≡ told_by w
asked at room x w = put (is_first_command w.serial.line x) x.station w

restarted : (w : Works) → told_by (restarted_works w) ≡ told_by w
restarted w = kept_over (λ v. told_by v ≡ told_by w) (λ station v e. e) (λ v e. e) w refl

-- The course: the own answers that went out are those of its I frames, and so many connections are
-- over

abbrev AreTold : ℕ → Course → Type 0
AreTold n c = told_by c.works ≡ (answers_among c.sent, n)

frames : (n : ℕ) (p : Setup) (fs : List Apdu) (now : ℕ) (wall : Option ℕ) (c : Course)
    → AreTold n c → AreTold n (with_frames p fs now wall c)
frames n p [] now wall c h = h
frames n p (f ∷ fs) now wall c h =
    arrived f now wall (with_frames p fs now wall c).works ∙ frames n p fs now wall c h

among-append : (xs ys : List Sent)
    → answers_among (xs ++ ys) ≡ answers_among xs ++ answers_among ys
among-append [] ys = refl
among-append (x ∷ xs) ys = by_objects (has_objects x.asdu) (among-append xs ys)
  where
    by_objects : (b : Bool) → answers_among (xs ++ ys) ≡ answers_among xs ++ answers_among ys
        → (if b then answers_among (xs ++ ys) else x.asdu ∷ answers_among (xs ++ ys))
        ≡ (if b then answers_among xs else x.asdu ∷ answers_among xs) ++ answers_among ys
    by_objects true e = e
    by_objects false e = ap (λ zs. x.asdu ∷ zs) e

one_sent : (n : ℕ) (asdu : List ℕ) (c : Course) (b : Bool)
    → (b ≡ false → first_answer c.works.serial.commands.answers ≡ Some asdu) → AreTold n c
    → told_by (if b then c.works else answered_works c.works)
    ≡ (answers_among c.sent ++ (if b then [] else asdu ∷ []), n)
one_sent n asdu c true own h =
    h ∙ ap (λ (xs : List (List ℕ)). (xs, n)) (sym (append-nil (answers_among c.sent)))
one_sent n asdu c false own h =
    ap (λ (o : Option (List ℕ)). told (after_answer o (tasks_of c.works)).history) (own refl)
    ∙ ap (λ (t : Told). (t.0 ++ asdu ∷ [], t.1)) h

sent : (n : ℕ) (p : Setup) (log : Log) (f : Apdu) (now : ℕ) (c : Course) → IsNext p log f c
    → AreTold n c → AreTold n (with_sent f now c)
sent n p log (I ns nr asdu) now c next h =
    one_sent n asdu.items c (has_objects asdu.items) next.own h
    ∙ ap (λ (xs : List (List ℕ)). (xs, n))
    (sym (among-append c.sent (record { ns = ns; nr = nr; asdu = asdu.items } ∷ [])))
sent n p log (S nr) now c next h = h
sent n p log (U u) now c next h = h

-- a connection is over
over : (n : ℕ) (w : Works) (xs : List (List ℕ)) → told_by w ≡ (xs, n)
    → told_by (cut_works w) ≡ ([], n + 1)
over n w xs h = ap (λ (t : Told). ([], t.1 + 1)) h

abbrev over_by : Close → ℕ → ℕ
over_by Replaced n = n
over_by cause n = n + 1

closed : (n : ℕ) (p : Setup) (cause : Close) (is_open : Bool) (at : ℕ) (c : Course) → AreTold n c
    → AreTold (over_by cause n) (closed_course p cause is_open at c)
closed n p Grammar is_open at c h = over n c.works (answers_among c.sent) h
closed n p SendNumber is_open at c h = over n c.works (answers_among c.sent) h
closed n p ReceiveNumber is_open at c h = over n c.works (answers_among c.sent) h
closed n p Stopped is_open at c h = over n c.works (answers_among c.sent) h
closed n p Timeout is_open at c h =
    over n (settled_works at c.works) (answers_among c.sent) (settled at c.works ∙ h)
closed n p OwnAnswers is_open at c h = over n c.works (answers_among c.sent) h
closed n p Replaced is_open at c h = h

left : (n : ℕ) (p : Setup) (log : Log) (before after : Course) → IsLeft p log before after
    → AreTold n before → AreTold n after
left n p log before after l h = subst (λ (c : Course). AreTold n c) (sym l.is)
    (done (latest log) (room_in p log before) before.works ∙ h)

-- by the cause of a close
closed_on : (cause : Close) (now n : ℕ) (log : Log) → ends_on log ≡ n
    → over_by cause n ≡ ends_on (Went now (Closed cause) ∷ log)
closed_on Grammar now n log e = ap (λ m. m + 1) (sym e)
closed_on SendNumber now n log e = ap (λ m. m + 1) (sym e)
closed_on ReceiveNumber now n log e = ap (λ m. m + 1) (sym e)
closed_on Stopped now n log e = ap (λ m. m + 1) (sym e)
closed_on Timeout now n log e = ap (λ m. m + 1) (sym e)
closed_on OwnAnswers now n log e = ap (λ m. m + 1) (sym e)
closed_on Replaced now n log e = sym e

all_told : (p : Setup) (log : Log) (c : Course) → Runs p log c → AreTold (ends_on log) c
all_told p [] c r = subst (λ (d : Course). AreTold 0 d) (sym r) refl
all_told p (Came now (LineIn octets) ∷ log) c r =
    subst (λ (d : Course). AreTold (ends_on log) d) (sym r.5.2)
    (learnt p _ _ _ _ r.5.0 r.5.1 ∙ left (ends_on log) p log r.0 r.1 r.4 (all_told p log r.0 r.2))
all_told p (Came now (TcpIn octets) ∷ log) c r =
    subst (λ (d : Course). AreTold (ends_on log) d) (sym r.5.taken)
    (frames (ends_on log) p r.5.frames _ _ _
    (left (ends_on log) p log r.0 r.1 r.4 (all_told p log r.0 r.2)))
all_told p (Came now Ticked ∷ log) c r =
    subst (λ (d : Course). AreTold (ends_on log) d) (sym r.5)
    (left (ends_on log) p log r.0 r.1 r.4 (all_told p log r.0 r.2))
all_told p (Came now (WallIs number) ∷ log) c r =
    subst (λ (d : Course). AreTold (ends_on log) d) (sym r.5)
    (left (ends_on log) p log r.0 r.1 r.4 (all_told p log r.0 r.2))
all_told p (Came now Opened ∷ log) c r =
    subst (λ (d : Course). AreTold (ends_on log + 1) d) (sym r.5)
    (over (ends_on log) r.1.works (answers_among r.1.sent)
    (left (ends_on log) p log r.0 r.1 r.4 (all_told p log r.0 r.2)))
all_told p (Came now CutOff ∷ log) c r =
    subst (λ (d : Course). AreTold (ends_on log + 1) d) (sym r.5)
    (over (ends_on log) r.1.works (answers_among r.1.sent)
    (left (ends_on log) p log r.0 r.1 r.4 (all_told p log r.0 r.2)))
all_told p (Came now Restarted ∷ log) c r =
    subst (λ (d : Course). AreTold (ends_on log + 1) d) (sym r.5.1)
    (over (ends_on log) (restarted_works r.1.works) (answers_among r.1.sent)
    (restarted r.1.works ∙ left (ends_on log) p log r.0 r.1 r.4 (all_told p log r.0 r.2)))
all_told p (Went now (LineOut octets) ∷ log) c r =
    subst (λ (d : Course). AreTold (ends_on log) d) (sym r.2.is)
    (asked (latest log) (room_in p log r.0) r.2.request (settled_works (latest log) r.0.works)
    ∙ settled (latest log) r.0.works ∙ all_told p log r.0 r.1)
all_told p (Went now (GapOut station session) ∷ log) c r =
    subst (λ (d : Course). AreTold (ends_on log) d) (sym r.2.is) (all_told p log r.0 r.1)
all_told p (Went now (TcpOut octets) ∷ log) c r =
    subst (λ (d : Course). AreTold (ends_on log) d) (sym r.4.taken)
    (frames (ends_on log) p r.4.frames _ _ r.1
    (subst (λ (d : Course). AreTold (ends_on log) d) (sym r.3.put)
    (sent (ends_on log) p log r.3.frame (latest log) r.0 r.3.next (all_told p log r.0 r.2))))
all_told p (Went now (Closed cause) ∷ log) c r =
    subst (λ (n : ℕ). AreTold n c) (closed_on cause now (ends_on log) log refl)
    (subst (λ (d : Course). AreTold (over_by cause (ends_on log)) d) (sym r.2)
    (closed (ends_on log) p cause (present log).is_open (latest log) r.0
    (all_told p log r.0 r.1)))

pub answers_go_out : CommandLaws → (p : Setup) (log : Log) (c : Course) → Runs p log c
    → AnswersGoOut c
answers_go_out laws p log c r =
    answers_kept p laws log c r
    ∙ ap (λ (t : Told). t.0 ++ c.works.serial.commands.answers) (all_told p log c r)
