-- Why a connection is closed, and what a step leaves undone on one that stays open.
use Rattle.std.proofs.Common.{◌≡◌, ℕ, ◌+◌, ◌<◌, true, false, Some, List, ◌++◌, length}
use Rattle.std.proofs.Common.{Bool, [], ◌∷◌, refl, ap, sym, ◌∙◌, subst, arith}
use Rattle.std.proofs.lemmas.List.{append-nil, length-drop}
use Rattle.session.specs.History as talk
use Rattle.session.specs.declared.kinds.Close.{Close}
use Rattle.session.specs.declared.kinds.Close.TheVariants.{Grammar, SendNumber, ReceiveNumber}
use Rattle.session.specs.declared.kinds.Close.TheVariants.{Stopped, Timeout, OwnAnswers, Replaced}
use Rattle.session.specs.declared.kinds.Taken.{Taken}
use Rattle.session.specs.declared.kinds.Taken.TheVariants.{Nothing, Asdu, Close as Closes}
use Rattle.command.specs.History.{History, Judged, Sent, Accepted, Refused, GivenUp, Mirrored}
use Rattle.command.specs.History.{Offered, Answered, Ended, own_kept}
use Rattle.gateway.specs.Connections.{present, BeginsWithFault}
use Rattle.gateway.specs.Course.{Course, HasTakenAll, came_frames, Runs}
use Rattle.gateway.specs.Frames.{acknowledged_count, fault_of, transfers}
use Rattle.gateway.specs.GoingOut.{answers_among, AnswersGoOut}
use Rattle.gateway.specs.Log.{Log, LogEntry, Input, Came, Went, LineIn, Opened, TcpIn, CutOff}
use Rattle.gateway.specs.Log.{Ticked, WallIs, Restarted, LineOut, Closed}
use Rattle.gateway.specs.Reports.{Setup}
use Rattle.gateway.specs.Stepping.{unplaced}
use Rattle.gateway.specs.Streams.{spelled}
use Rattle.gateway.specs.Traffic.{ActsRightly, HasCause, IsAtRest, HasRested, RestsBetweenSteps}
use Rattle.gateway.specs.Works.{has_lacked_place}
use Rattle.gateway.proofs.Placing.{all_placed}
use Rattle.gateway.proofs.OneCause.{came_transfers, came_acknowledged, counted}
use Rattle.delivery.specs.Closing.{IsClosedFor, IsAtFault, MaySendData, HasDoneAll, IsOfStep}
use Rattle.delivery.specs.Closing.{AreTaken, WaitsForNone, own_given}
use Rattle.delivery.specs.Received.{close_by}
use Rattle.delivery.proofs.Faults.{same_fault}
use Rattle.delivery.proofs.Frames.{none_came}
use Rattle.delivery.proofs.Replacing.{acts_before}

-- ---- The cause of a close

closes_by : (t : Taken) (cause : Close) → close_by t ≡ Some cause → t ≡ Closes cause
closes_by (Closes other) cause e = cc
closes_by Nothing cause e = cc
closes_by Asdu cause e = cc

at_fault : (p : Setup) (log : Log) (c : Course) (cause : Close) → Runs p log c → (rest : List ℕ)
    → (present log).received ≡ spelled (came_frames c.talk) ++ rest
    → BeginsWithFault (length c.sent) (came_frames c.talk) cause rest
    → IsAtFault log c.talk cause
at_fault p log c cause r rest joined b = record {
  frame = b.frame;
  fits = b.fits;
  more = b.more;
  octets = joined ∙ ap (λ (l : List ℕ). spelled (came_frames c.talk) ++ l) b.joined;
  fault = closes_by (talk.verdict_on b.frame c.talk) cause
      (sym (ap (λ (n : ℕ). fault_of n (came_frames c.talk) b.frame) (counted p log c r)
      ∙ same_fault c.talk b.frame) ∙ b.fault);
}

-- the connection was open, and its course shows the cause
abbrev Shows : Setup → Log → Close → Type 0
Shows p log cause = ((present log).is_open ≡ true) × (c : Course) × Runs p log c
    × IsClosedFor p log c cause

-- an own answer that found no place is counted
one_lacks : (h : History) → has_lacked_place h ≡ true → 0 < unplaced h
one_lacks [] e = cc
one_lacks (Judged now wall asdu answer ∷ h) e = one_lacks h e
one_lacks (Sent k octets ∷ h) e = one_lacks h e
one_lacks (Accepted k ∷ h) e = one_lacks h e
one_lacks (Refused k answer ∷ h) e = one_lacks h e
one_lacks (GivenUp k was ∷ h) e = one_lacks h e
one_lacks (Mirrored now v ∷ h) e = one_lacks h e
one_lacks (Offered octets true ∷ h) e = one_lacks h e
one_lacks (Offered octets false ∷ h) e = omega arith
one_lacks (Answered octets ∷ h) e = one_lacks h e
one_lacks (Ended ∷ h) e = cc

closed_for : (p : Setup) (log : Log) (cause : Close) → HasCause p cause log
    → (cause ≡ Replaced → ⊥) → Shows p log cause
closed_for p log Grammar has other =
    let h = has refl in
    let n = h.1.2.next in (
      h.0,
      h.1.0,
      h.1.1,
      record {
        rest = n.rest;
        octets = n.joined;
        place = n.behind.0;
        why = n.behind.1;
        refused = n.behind.2;
      },
    )
closed_for p log SendNumber has other =
    let h = has refl in
    let n = h.1.2.next in
    (h.0, h.1.0, h.1.1, at_fault p log h.1.0 SendNumber h.1.1 n.rest n.joined n.behind)
closed_for p log ReceiveNumber has other =
    let h = has refl in
    let n = h.1.2.next in
    (h.0, h.1.0, h.1.1, at_fault p log h.1.0 ReceiveNumber h.1.1 n.rest n.joined n.behind)
closed_for p log Stopped has other =
    let h = has refl in
    let n = h.1.2.next in
    (h.0, h.1.0, h.1.1, at_fault p log h.1.0 Stopped h.1.1 n.rest n.joined n.behind)
closed_for p log Timeout has other = let h = has refl in (h.0, h.1.0, h.1.1, h.1.2.late)
closed_for p log OwnAnswers has other =
    let h = has refl in (h.0, h.1.0, h.1.1, one_lacks h.1.0.works.history h.1.2)
closed_for p log Replaced has other = absurd (other refl)

-- at any place of a log
pub closed_so : (p : Setup) (newer log : Log) (now : ℕ) (cause : Close)
    → ActsRightly p (newer ++ Went now (Closed cause) ∷ log) → (cause ≡ Replaced → ⊥)
    → Shows p log cause
closed_so p newer log now cause acts other =
    closed_for p log cause (acts_before p newer (Went now (Closed cause) ∷ log) acts).0.may other

-- ---- Each own answer found a place

placed_for : (p : Setup) (log : Log) (cause : Close) → HasCause p cause log
    → (cause ≡ Replaced → ⊥) → (cause ≡ OwnAnswers → ⊥)
    → (c : Course) × Runs p log c × (unplaced c.works.history ≡ 0)
placed_for p log Grammar has other own =
    let h = has refl in (h.1.0, h.1.1, all_placed h.1.0.works.history h.1.2.placed)
placed_for p log SendNumber has other own =
    let h = has refl in (h.1.0, h.1.1, all_placed h.1.0.works.history h.1.2.placed)
placed_for p log ReceiveNumber has other own =
    let h = has refl in (h.1.0, h.1.1, all_placed h.1.0.works.history h.1.2.placed)
placed_for p log Stopped has other own =
    let h = has refl in (h.1.0, h.1.1, all_placed h.1.0.works.history h.1.2.placed)
placed_for p log Timeout has other own =
    let h = has refl in (h.1.0, h.1.1, all_placed h.1.0.works.history h.1.2.placed)
placed_for p log OwnAnswers has other own = absurd (own refl)
placed_for p log Replaced has other own = absurd (other refl)

pub placed_so : (p : Setup) (newer log : Log) (now : ℕ) (cause : Close)
    → ActsRightly p (newer ++ Went now (Closed cause) ∷ log) → (cause ≡ Replaced → ⊥)
    → (cause ≡ OwnAnswers → ⊥)
    → (c : Course) × Runs p log c × (unplaced c.works.history ≡ 0)
placed_so p newer log now cause acts other own =
    placed_for p log cause (acts_before p newer (Went now (Closed cause) ∷ log) acts).0.may other
    own

-- and on the course that shows the cause
both_for : (p : Setup) (log : Log) (cause : Close) → HasCause p cause log
    → (cause ≡ Replaced → ⊥) → (cause ≡ OwnAnswers → ⊥)
    → (c : Course) × Runs p log c × IsClosedFor p log c cause × (unplaced c.works.history ≡ 0)
unfolding closed_for
both_for p log Grammar has other own =
    let s = closed_for p log Grammar has other in
    (s.1, s.2, s.3, all_placed s.1.works.history (has refl).1.2.placed)
both_for p log SendNumber has other own =
    let s = closed_for p log SendNumber has other in
    (s.1, s.2, s.3, all_placed s.1.works.history (has refl).1.2.placed)
both_for p log ReceiveNumber has other own =
    let s = closed_for p log ReceiveNumber has other in
    (s.1, s.2, s.3, all_placed s.1.works.history (has refl).1.2.placed)
both_for p log Stopped has other own =
    let s = closed_for p log Stopped has other in
    (s.1, s.2, s.3, all_placed s.1.works.history (has refl).1.2.placed)
both_for p log Timeout has other own =
    let s = closed_for p log Timeout has other in
    (s.1, s.2, s.3, all_placed s.1.works.history (has refl).1.2.placed)
both_for p log OwnAnswers has other own = absurd (own refl)
both_for p log Replaced has other own = absurd (other refl)

pub both_so : (p : Setup) (newer log : Log) (now : ℕ) (cause : Close)
    → ActsRightly p (newer ++ Went now (Closed cause) ∷ log) → (cause ≡ Replaced → ⊥)
    → (cause ≡ OwnAnswers → ⊥)
    → (c : Course) × Runs p log c × IsClosedFor p log c cause × (unplaced c.works.history ≡ 0)
both_so p newer log now cause acts other own =
    both_for p log cause (acts_before p newer (Went now (Closed cause) ∷ log) acts).0.may other own

-- ---- A step that rests

pub taken_all : (log : Log) (c : Course) → HasTakenAll (present log) c.talk → AreTaken log c.talk
taken_all log c all = record { rest = all.rest; octets = all.joined; more = all.more }

open_of : (p : Setup) (log : Log) (c : Course) → Runs p log c → talk.is_started c.talk ≡ true
    → (present log).is_open ≡ true
open_of p log c r started = by_open (present log).is_open refl
  where
    no_more : false ≡ true → ⊥
    no_more e = cc

    by_open : (b : Bool) → (present log).is_open ≡ b → (present log).is_open ≡ true
    by_open true e = e
    by_open false e = absurd (no_more (
        sym (ap transfers (none_came p log c r e)) ∙ came_transfers c.talk ∙ started))

room_of : (p : Setup) (log : Log) (c : Course) → Runs p log c
    → length (talk.still_unacknowledged c.talk) < p.session.k
    → length c.sent < acknowledged_count (came_frames c.talk) + p.session.k
room_of p log c r room = omega (
  arith,
  room,
  counted p log c r,
  came_acknowledged c.talk,
  length-drop (talk.acknowledged_count c.talk) (talk.sent_frames c.talk),
)

all_kept : (h : History) → has_lacked_place h ≡ false → own_given h ≡ own_kept h
all_kept [] e = refl
all_kept (Judged now wall asdu answer ∷ h) e = all_kept h e
all_kept (Sent k octets ∷ h) e = all_kept h e
all_kept (Accepted k ∷ h) e = all_kept h e
all_kept (Refused k answer ∷ h) e = all_kept h e
all_kept (GivenUp k was ∷ h) e = all_kept h e
all_kept (Mirrored now v ∷ h) e = all_kept h e
all_kept (Offered octets true ∷ h) e =
    ap (λ (xs : List (List ℕ)). xs ++ octets ∷ []) (all_kept h e)
all_kept (Offered octets false ∷ h) e = let wrong : true ≡ false = e in cc
all_kept (Answered octets ∷ h) e = all_kept h e
all_kept (Ended ∷ h) e = refl

pub done_all : (p : Setup) (log : Log) (rest : IsAtRest p log) → AnswersGoOut rest.course
    → HasDoneAll p log rest.course
done_all p log rest out =
    let c : Course = rest.course in
    let all = λ (may : MaySendData p c). rest.eager
    (open_of p log c rest.course_runs may.0) (came_transfers c.talk ∙ may.0)
    (room_of p log c rest.course_runs may.1) in
    record {
      taken = taken_all log c rest.talk.all;
      confirmed = rest.talk.confirmed;
      none_due = rest.talk.none_due;
      in_time = rest.talk.in_time;
      placed = λ on. all_kept c.works.history (rest.placed on);
      answers = λ may. out
          ∙ ap (λ (xs : List (List ℕ)). answers_among c.sent ++ xs) (all may).answers
          ∙ append-nil (answers_among c.sent);
      objects = λ may. (all may).objects;
    }

-- each step rested when the next event came
pub rests_before : (p : Setup) (newer older : Log) → RestsBetweenSteps p (newer ++ older)
    → RestsBetweenSteps p older
rests_before p [] older h = h
rests_before p (Went now action ∷ newer) older h = rests_before p newer older h
rests_before p (Came now event ∷ newer) older h = rests_before p newer older h.1

at_rest : (p : Setup) (entry : LogEntry) (older : Log) → IsOfStep entry
    → HasRested p (entry ∷ older) → IsAtRest p (entry ∷ older)
at_rest p (Went now action) older s h = h
at_rest p (Came now (LineIn octets)) older s h = h
at_rest p (Came now Opened) older s h = h
at_rest p (Came now (TcpIn octets)) older s h = h
at_rest p (Came now CutOff) older s h = h
at_rest p (Came now Ticked) older s h = h
at_rest p (Came now (WallIs number)) older s h = h
at_rest p (Came now Restarted) older s h = absurd s

pub of_step : (entry : LogEntry) → ((moment : ℕ) → entry ≡ Came moment Restarted → ⊥)
    → IsOfStep entry
of_step (Went now action) other = tt
of_step (Came now (LineIn octets)) other = tt
of_step (Came now Opened) other = tt
of_step (Came now (TcpIn octets)) other = tt
of_step (Came now CutOff) other = tt
of_step (Came now Ticked) other = tt
of_step (Came now (WallIs number)) other = tt
of_step (Came now Restarted) other = absurd (other now refl)

pub rested_then : (p : Setup) (newer older : Log) (at : ℕ) (event : Input) (entry : LogEntry)
    → RestsBetweenSteps p (newer ++ Came at event ∷ entry ∷ older) → IsOfStep entry
    → IsAtRest p (entry ∷ older)
rested_then p newer older at event entry h s =
    at_rest p entry older s (rests_before p newer (Came at event ∷ entry ∷ older) h).0

-- ---- A request to the line

pub asked : (p : Setup) (log : Log) (now : ℕ) (octets : List ℕ) (c : Course)
    → Runs p (Went now (LineOut octets) ∷ log) c → WaitsForNone p log c
asked p log now octets c r = subst (λ (d : Course). WaitsForNone p log d) (sym r.2.is) (record {
  taken = taken_all log r.0 r.2.all;
  in_time = r.2.in_time;
})
