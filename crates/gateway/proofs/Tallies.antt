-- What a course counts of commands is what became of them.
use Rattle.std.proofs.Common.{◌≡◌, ℕ, ◌+◌, Bool, true, false, List, [], ◌∷◌, Option, Some, None}
use Rattle.std.proofs.Common.{refl, ap, sym, ◌∙◌, subst, arith}
use Rattle.std.specs.Prelude.{if◌then◌else◌}
use Rattle.asdu.specs.Asdu.{AsduValue}
use Rattle.asdu.specs.InformationObjects.{InformationObject, objects_of, is_passed_on}
use Rattle.elements.specs.declared.tag.Cp56.{Cp56}
use Rattle.apci.specs.declared.apdu.Apdu.{Apdu}
use Rattle.apci.specs.declared.apdu.Apdu.TheVariants.{I, S, U}
use Rattle.std.specs.Io.Iter.{u64_saturate}
use Rattle.link.specs.Exchanges.{Sending}
use Rattle.link.specs.declared.outcome.Outcome.{Outcome}
use Rattle.link.specs.declared.outcome.Outcome.TheVariants as outcome
use Rattle.session.specs.declared.kinds.Close.{Close}
use Rattle.session.specs.declared.kinds.Close.TheVariants.{Grammar, SendNumber, ReceiveNumber}
use Rattle.session.specs.declared.kinds.Close.TheVariants.{Stopped, Timeout, OwnAnswers, Replaced}
use Rattle.command.specs.declared.waiting.Waiting.{Waiting}
use Rattle.command.specs.State.{has_answer_place, first_answer, oldest_for, is_used, line_of}
use Rattle.command.specs.Judging.{judged}
use Rattle.command.specs.Mirrors as mirrors
use Rattle.command.specs.History.{History, GivenUp}
use Rattle.command.specs.Calls.{Run, Judge, Busy, Mirror, Own, after_call, after_answer}
use Rattle.command.specs.Calls.{after_sending}
use Rattle.gateway.specs.declared.counts.Tally.{Tally}
use Rattle.gateway.specs.Objects.{has_objects}
use Rattle.gateway.specs.Counting.{one_more, one_lost, one_skipped, is_answer_type, counted_by}
use Rattle.gateway.specs.Log.{Log, LineIn, Opened, TcpIn, CutOff, Ticked, WallIs, Restarted, Came}
use Rattle.gateway.specs.Log.{Went, LineOut, TcpOut, Closed, GapOut, latest}
use Rattle.gateway.specs.Connections.{present}
use Rattle.gateway.specs.Reports.{Setup}
use Rattle.gateway.specs.Tags.{AreTagged}
use Rattle.gateway.specs.Serial.{listed, refusals, is_first_command}
use Rattle.gateway.specs.Works.{Works, tasks_of, kept_own, is_command_by, is_command_report}
use Rattle.gateway.specs.Works.{IsPassedOn, mirrored_works, LearnsReport, LearnsOf, received_works}
use Rattle.gateway.specs.Works.{sent_works, answered_works, unless_silent_works, settled_works}
use Rattle.gateway.specs.Works.{unasked_works, done_works, put_first, asked_works, restarted_works}
use Rattle.gateway.specs.Course.{Course, with_frames, closed_course, IsLeft, room_in, Runs}
use Rattle.gateway.specs.Line.{done_in}
use Rattle.gateway.specs.Tallies.{given_up_in, unpassed_in}
use Rattle.gateway.proofs.Restarting.{kept_over}

abbrev AreCounted : History → Tally → Type 0
AreCounted h t = (t.lost ≡ u64_saturate (given_up_in h))
    × (t.mirrors ≡ u64_saturate (unpassed_in false h))

abbrev IsCounted : Works → Type 0
IsCounted w = AreCounted w.history w.serial.counts

one_saturated : (n m : ℕ) → n ≡ u64_saturate m → one_more n ≡ u64_saturate (m + 1)
one_saturated n m e = ap one_more e ∙ omega arith

-- Own answers

lost_kept : (xs : List (List ℕ)) (r : Run) → given_up_in (kept_own xs r).history
    ≡ given_up_in r.history
lost_kept [] r = refl
lost_kept (x ∷ xs) r = by_room (has_answer_place r.state) (lost_kept xs next)
  where
    next : Run
    next = after_call (Own x) r

    by_room : (b : Bool) → given_up_in (kept_own xs next).history ≡ given_up_in r.history
        → given_up_in (if b then kept_own xs next else next).history ≡ given_up_in r.history
    by_room true e = e
    by_room false e = refl

-- one that is handed over stands behind these
handed : (x : List ℕ) (xs : List (List ℕ)) (r : Run) (b : Bool)
    → unpassed_in b (kept_own (x ∷ xs) r).history ≡ unpassed_in true r.history
handed x [] r b = by_room (has_answer_place r.state)
  where
    next : Run
    next = after_call (Own x) r

    by_room : (c : Bool) → unpassed_in b (if c then next else next).history
        ≡ unpassed_in true r.history
    by_room true = refl
    by_room false = refl
handed x (y ∷ ys) r b = by_room (has_answer_place r.state) (handed y ys next b)
  where
    next : Run
    next = after_call (Own x) r

    by_room : (c : Bool)
        → unpassed_in b (kept_own (y ∷ ys) next).history ≡ unpassed_in true r.history
        → unpassed_in b (if c then kept_own (y ∷ ys) next else next).history
        ≡ unpassed_in true r.history
    by_room true e = e
    by_room false e = refl

unpassed_kept : (xs : List (List ℕ)) (r : Run) → unpassed_in true r.history
    ≡ unpassed_in false r.history
    → unpassed_in false (kept_own xs r).history ≡ unpassed_in false r.history
unpassed_kept [] r e = refl
unpassed_kept (x ∷ xs) r e = handed x xs r false ∙ e

kept : (xs : List (List ℕ)) (r : Run) (t : Tally) → unpassed_in true r.history
    ≡ unpassed_in false r.history
    → AreCounted r.history t → AreCounted (kept_own xs r).history t
kept xs r t e c = (
  c.0 ∙ ap u64_saturate (sym (lost_kept xs r)),
  c.1
      ∙ ap u64_saturate (sym (unpassed_kept xs r e)),
)

-- What came of an exchange

given_up : (b : Bool) (k : ℕ) (h : History) (t : Tally) → AreCounted h t
    → AreCounted (GivenUp k b ∷ h) (if b then one_lost t else t)
given_up true k h t c = (one_saturated t.lost (given_up_in h) c.0, c.1)
given_up false k h t c = c

passed : (v : AsduValue) (at : ℕ) (x : List ℕ) (xs : List (List ℕ)) (w : Works) → IsCounted w
    → IsCounted (mirrored_works at true v (x ∷ xs) w)
passed v at x xs w c =
    let r : Run = after_call (Mirror v at) (tasks_of w) in (
      c.0 ∙ ap u64_saturate (sym (lost_kept (x ∷ xs) r)),
      c.1
          ∙ ap u64_saturate (sym (handed x xs r false)),
    )

-- an answer to a command has an object, so it has a piece, with a tag or without
tagged_some : (o : Option Cp56) (x : List ℕ) (xs pieces : List (List ℕ))
    → AreTagged o (x ∷ xs) pieces
    → (y : List ℕ) × (ys : List (List ℕ)) × (pieces ≡ y ∷ ys)
tagged_some None x xs pieces e = (x, xs, e)
tagged_some (Some tag) x [] pieces e = (e.0, [], e.1)
tagged_some (Some tag) x (y ∷ ys) pieces e = (x, y ∷ ys, e)

some_pieces : (p : Setup) (o : Option Cp56) (v : AsduValue) (report : List ℕ)
    (plain pieces : List (List ℕ))
    → is_command_report p.sizes report ≡ true →
    IsPassedOn p.sizes v report plain → AreTagged o plain pieces
    → (y : List ℕ) × (ys : List (List ℕ)) × (pieces ≡ y ∷ ys)
some_pieces p o v report [] pieces is i t = absurd (ap is_command_by i.joined ∙ is)
  where
    absurd : false ≡ true → (y : List ℕ) × (ys : List (List ℕ)) × (pieces ≡ y ∷ ys)
    absurd e = cc
some_pieces p o v report (x ∷ xs) pieces is i t = tagged_some o x xs pieces t

mirrored : (at : ℕ) (transferring : Bool) (v : AsduValue) (y : List ℕ) (ys : List (List ℕ))
    (w : Works) → IsCounted w
    → IsCounted (mirrored_works at transferring v (y ∷ ys) w)
mirrored at true v y ys w c = passed v at y ys w c
mirrored at false v y ys w c =
    (c.0, one_saturated w.serial.counts.mirrors (unpassed_in false w.history) c.1)

others_same : (objects : List InformationObject) (h : History) (t : Tally) → AreCounted h t
    → AreCounted h (counted_by objects t)
others_same [] h t c = c
others_same (o ∷ objects) h t c = by_type (is_answer_type o.kind) (is_passed_on o.kind o.cause)
  where
    by_type : (a b : Bool) → AreCounted h (if a then t else (if b then t else one_skipped t))
    by_type true b = c
    by_type false true = c
    by_type false false = c

reported : (p : Setup) (at : ℕ) (transferring b : Bool) (report : List ℕ) (w z : Works)
    → is_command_report p.sizes report ≡ b → LearnsReport p at transferring b report w z
    → IsCounted w → IsCounted z
reported p at transferring true report w z is learns c =
    let some : (y : List ℕ) × (ys : List (List ℕ)) × (learns.2 ≡ y ∷ ys) =
    some_pieces p (mirrors.tag_for learns.0 learns.0.infos w.serial.commands) learns.0 report
    learns.1 learns.2
    is learns.3 learns.4 in
    subst IsCounted
    (sym (learns.5 ∙ ap (λ pieces. mirrored_works at transferring learns.0 pieces w) some.2))
    (mirrored at transferring learns.0 some.0 some.1 w c)
reported p at transferring false report w z is learns c = subst IsCounted (sym learns)
    (others_same (objects_of p.sizes report) w.history w.serial.counts c)

learnt : (p : Setup) (at : ℕ) (transferring : Bool) (o : Outcome) (w z : Works)
    → LearnsOf p at transferring o w z
    → IsCounted w
    → IsCounted z
learnt p at transferring (outcome.Report station asdu) w z learns c =
    reported p at transferring (is_command_report p.sizes asdu.items) asdu.items w z refl learns c
learnt p at transferring (outcome.Accepted station) w z learns c = subst IsCounted (sym learns) c
learnt p at transferring (outcome.Busy station) w z learns c =
    subst IsCounted (sym learns) (kept (refusals station w.serial)
    (after_call (Busy station) (tasks_of w)) w.serial.counts refl c)
learnt p at transferring (outcome.Down station) w z learns c =
    subst IsCounted (sym learns) (given_up (is_used (line_of station w.serial.commands)) station
    w.history
    w.serial.counts c)
learnt p at transferring outcome.None w z learns c = subst IsCounted (sym learns) c
learnt p at transferring (outcome.Started station) w z learns c = subst IsCounted (sym learns) c
learnt p at transferring (outcome.StartedGap station session) w z learns c =
    subst IsCounted (sym learns) c
learnt p at transferring (outcome.Empty station) w z learns c = subst IsCounted (sym learns) c

-- Frames

arrived : (f : Apdu) (now : ℕ) (wall : Option ℕ) (w : Works) → IsCounted w
    → IsCounted (received_works f now wall w)
arrived (I ns nr asdu) now wall w c =
    kept (listed (judged asdu.items now wall w.serial.commands).0)
    (after_call (Judge asdu.items now wall) (tasks_of w)) w.serial.counts refl c
arrived (S nr) now wall w c = c
arrived (U u) now wall w c = c

frames : (p : Setup) (fs : List Apdu) (now : ℕ) (wall : Option ℕ) (d : Course) → IsCounted d.works
    → IsCounted (with_frames p fs now wall d).works
frames p [] now wall d c = c
frames p (f ∷ fs) now wall d c = arrived f now wall (with_frames p fs now wall d).works
    (frames p fs now wall d c)

answered : (w : Works) → IsCounted w → IsCounted (answered_works w)
answered w c = by_first (first_answer w.serial.commands.answers)
  where
    by_first : (o : Option (List ℕ))
        → AreCounted (after_answer o (tasks_of w)).history w.serial.counts
    by_first None = c
    by_first (Some x) = c

sent : (f : Apdu) (w : Works) → IsCounted w → IsCounted (sent_works f w)
sent (I ns nr asdu) w c = by_objects (has_objects asdu.items)
  where
    by_objects : (b : Bool) → IsCounted (if b then w else answered_works w)
    by_objects true = c
    by_objects false = answered w c
sent (S nr) w c = c
sent (U u) w c = c

-- A step

settled : (at : ℕ) (w : Works) → IsCounted w → IsCounted (settled_works at w)
settled at w c = by_silent w.serial.silent
  where
    by_silent : (o : Option ℕ) → IsCounted (unless_silent_works o w)
    by_silent None = c
    by_silent (Some k) = given_up (is_used (line_of k w.serial.commands)) k w.history
        w.serial.counts c

done : (at : ℕ) (room : Bool) (w : Works) → IsCounted w → IsCounted (done_works at room w)
done at room w c = by_due w.is_due
  where
    by_due : (b : Bool) → IsCounted (if b then unasked_works at room (settled_works at w) else w)
    by_due true = settled at w c
    by_due false = c

put : (b : Bool) (k : ℕ) (w : Works) → IsCounted w
    → AreCounted (put_first b k (tasks_of w)).history w.serial.counts
put false k w c = c
put true k w c = by_oldest (oldest_for k w.serial.commands)
  where
    by_oldest : (o : Option Waiting)
        → AreCounted (after_sending o k (tasks_of w)).history w.serial.counts
    by_oldest None = c
    by_oldest (Some x) = c

asked : (at : ℕ) (room : Bool) (x : Sending) (w : Works) → IsCounted w
    → IsCounted (asked_works at room x w)
asked at room x w c = put (is_first_command w.serial.line x) x.station w c

restarted : (w : Works) → IsCounted w → IsCounted (restarted_works w)
restarted w c = kept_over IsCounted (λ station v c.
    given_up (is_used (line_of station v.serial.commands)) station v.history v.serial.counts c)
    (λ v c. c) w c

closed : (p : Setup) (cause : Close) (is_open : Bool) (at : ℕ) (d : Course) → IsCounted d.works
    → IsCounted (closed_course p cause is_open at d).works
closed p Grammar is_open at d c = c
closed p SendNumber is_open at d c = c
closed p ReceiveNumber is_open at d c = c
closed p Stopped is_open at d c = c
closed p Timeout is_open at d c = settled at d.works c
closed p OwnAnswers is_open at d c = c
closed p Replaced is_open at d c = c

left : (p : Setup) (log : Log) (before after : Course) → IsLeft p log before after
    → IsCounted before.works
    → IsCounted after.works
left p log before after l c = subst (λ (d : Course). IsCounted d.works) (sym l.is)
    (done (latest log) (room_in p log before) before.works c)

so_far : (p : Setup) (log : Log) (d : Course) → Runs p log d → IsCounted d.works
so_far p [] d r = subst (λ (e : Course). IsCounted e.works) (sym r) (refl, refl)
so_far p (Came now (LineIn octets) ∷ log) d r =
    subst (λ (e : Course). IsCounted e.works) (sym r.5.2)
    (learnt p _ _ _ _ r.5.0 r.5.1 (left p log r.0 r.1 r.4 (so_far p log r.0 r.2)))
so_far p (Came now (TcpIn octets) ∷ log) d r =
    subst (λ (e : Course). IsCounted e.works) (sym r.5.taken)
    (frames p r.5.frames _ _ _ (left p log r.0 r.1 r.4 (so_far p log r.0 r.2)))
so_far p (Came now Ticked ∷ log) d r = subst (λ (e : Course). IsCounted e.works) (sym r.5)
    (left p log r.0 r.1 r.4 (so_far p log r.0 r.2))
so_far p (Came now (WallIs number) ∷ log) d r = subst (λ (e : Course). IsCounted e.works) (sym r.5)
    (left p log r.0 r.1 r.4 (so_far p log r.0 r.2))
so_far p (Came now Opened ∷ log) d r = subst (λ (e : Course). IsCounted e.works) (sym r.5)
    (left p log r.0 r.1 r.4 (so_far p log r.0 r.2))
so_far p (Came now CutOff ∷ log) d r = subst (λ (e : Course). IsCounted e.works) (sym r.5)
    (left p log r.0 r.1 r.4 (so_far p log r.0 r.2))
so_far p (Came now Restarted ∷ log) d r = subst (λ (e : Course). IsCounted e.works) (sym r.5.1)
    (restarted r.1.works (left p log r.0 r.1 r.4 (so_far p log r.0 r.2)))
so_far p (Went now (LineOut octets) ∷ log) d r =
    subst (λ (e : Course). IsCounted e.works) (sym r.2.is)
    (asked (latest log) (room_in p log r.0) r.2.request (settled_works (latest log) r.0.works)
    (settled (latest log) r.0.works (so_far p log r.0 r.1)))
so_far p (Went now (GapOut station session) ∷ log) d r =
    subst (λ (e : Course). IsCounted e.works) (sym r.2.is) (so_far p log r.0 r.1)
so_far p (Went now (TcpOut octets) ∷ log) d r =
    subst (λ (e : Course). IsCounted e.works) (sym r.4.taken)
    (frames p r.4.frames _ _ r.1 (subst (λ (e : Course). IsCounted e.works) (sym r.3.put)
    (sent r.3.frame r.0.works (so_far p log r.0 r.2))))
so_far p (Went now (Closed cause) ∷ log) d r = subst (λ (e : Course). IsCounted e.works) (sym r.2)
    (closed p cause (present log).is_open (latest log) r.0 (so_far p log r.0 r.1))

-- and once the step is done
pub counted_done : (p : Setup) (log : Log) (d : Course) → Runs p log d → IsCounted (done_in p log d)
counted_done p log d r = done (latest log) (room_in p log d) d.works (so_far p log d r)
