-- What a frame that was judged leaves to be done.
use Rattle.std.proofs.Common.{Bool, ◌≡◌, ℕ, zero, suc, ◌+◌, ◌<◌, ◌≤◌, true, false, List, [], ◌++◌}
use Rattle.std.proofs.Common.{length, length-append, take, drop, arith, refl, ap, sym, ◌∙◌, subst}
use Rattle.std.proofs.Common.{inl, inr}
use Rattle.std.proofs.Common.{Option, Some, None}
use Rattle.std.specs.Prelude.{IfSome, is_some}
use Rattle.std.proofs.lemmas.List.{drop_at, drop-drop, take-append-drop, length-drop}
use Rattle.std.proofs.lemmas.Bool.{cond-true}
use Rattle.apci.specs.declared.assembling.Received.TheVariants as receives
use Rattle.apci.specs.Assembly.{Assembly, Receives}
use Rattle.apci.specs.declared.apdu.Apdu.{Apdu}
use Rattle.apci.specs.Spelling.{spelling, Fits}
use Rattle.apci.specs.declared.apdu.Front.TheVariants as front
use Rattle.apci.specs.Reading.{IsMore, IsFront}
use Rattle.apci.specs.declared.apdu.Why.{Why}
use Rattle.gateway.specs.Finding.{StandsFirst}
use Rattle.session.specs.declared.kinds.Close.{Close}
use Rattle.session.specs.declared.kinds.Close.TheVariants.{Grammar, OwnAnswers}
use Rattle.session.specs.declared.kinds.Taken.TheVariants.{Close as Closes}
use Rattle.session.specs.Session as session
use Rattle.session.specs.Session.{Session, outcome_of, is_close, refuses}
use Rattle.events.specs.Queue as queue
use Rattle.gateway.specs.Log.{Log}
use Rattle.gateway.specs.Streams.{spelled, IsRefused}
use Rattle.gateway.specs.Reports.{Setup}
use Rattle.gateway.specs.Serial.{Serial, has_place}
use Rattle.gateway.specs.Walls.{wall_of, wall_on}
use Rattle.gateway.specs.State.{State, wall_now, with_centre, with_octets, disconnected, received}
use Rattle.gateway.specs.State.{framed}
use Rattle.gateway.specs.Works.{has_lacked_place}
use Rattle.gateway.specs.Course.{Course, here_of, came_frames, with_frame, StandsNext, IsCause}
use Rattle.gateway.specs.Phases as phases
use Rattle.gateway.specs.Phases.{Taking, Idle, Crowded, after_frame, IsPast}
use Rattle.gateway.specs.Frames.{fault_of}
use Rattle.gateway.specs.Connections.{present, IsConnection}
use Rattle.gateway.specs.Agrees.{Agrees, Tracks, Awaits, Meets, IsClear, IsUndue, pending}
use Rattle.gateway.specs.Steps.{Judged, IsFaulty, IsTaken, MayClose}
use Rattle.gateway.proofs.Frames.{taken_stays, nothing_waits}
use Rattle.gateway.proofs.Tied.{no_close, fault_closes, fault_cases}
use Rattle.gateway.proofs.Working.{received_overfull}
use Rattle.gateway.proofs.Talking.{confirmed_by}
use Rattle.gateway.proofs.Phases.{flushed_by, undue_by}
use Rattle.gateway.proofs.Receiving.{after_received, received_course, after_more, with_so_far}
use Rattle.gateway.proofs.Receiving.{now_idle}
use Rattle.gateway.proofs.Closing.{stands_garbled, stands_faulty, stands_overfull, fault_ends}
use Rattle.gateway.proofs.Closing.{fault_closes_so}

unfolded : (s : State) (so_far other : List ℕ) → s.centre.so_far ≡ Some so_far → s.centre.so_far
    ≡ Some other
    → so_far ≡ other
unfolded s so_far other e f = ap val (sym e ∙ f)
  where
    val : Option (List ℕ) → List ℕ
    val None = []
    val (Some x) = x

nothing_so_far : (p : Setup) (s : State) (log : Log) (unjudged : List ℕ)
    (a : Agrees p s log unjudged Taking)
    → s.centre.so_far ≡ Some [] → a.here.so_far ≡ []
nothing_so_far p s log unjudged a e = unfolded s a.here.so_far [] a.here.assembler e

-- The frame is taken.
module _ (p : Setup) (s : State) (log : Log) (rest : List ℕ) (f : Apdu)
    (a : Agrees p s log (spelling f ++ rest) Taking) (on : session.is_open s.centre.session ≡ true)
    (ready : IsClear s)
    (undue : IsUndue s log (spelling f ++ rest)) (past : IsPast log (length rest)) (fits : Fits f)
    (so : s.centre.so_far ≡ Some []) (goes : is_close (outcome_of s.centre.session f) ≡ false)
    (kept : Bool)
    (place : has_place f s.moment (wall_now s) s.serial.commands ≡ kept) where
  both : (refuses s.centre.session f ≡ false)
      × (fault_of (length a.course.sent) (came_frames a.course.talk) f ≡ None)
  both = no_close f (here_of a.course) s.centre.session s.centre.queue.sent
      (outcome_of s.centre.session f) goes a.here.tied refl

  whole : a.here.so_far ++ (spelling f ++ rest) ≡ spelling f ++ rest
  whole = ap (λ x. x ++ (spelling f ++ rest)) (nothing_so_far p s log _ a so)

  abbrev frame_taken : Agrees p (framed f s) log rest (after_frame kept)
  frame_taken = after_received p s log (spelling f ++ rest) rest f a on ready undue past so fits
      whole
      both.0 both.1 kept
      place

  taken_course : frame_taken.course ≡ with_frame p f s.moment (wall_on log s.moment) a.course
  taken_course = received_course p s log (spelling f ++ rest) rest f a on ready undue past so fits
      whole both.0 both.1
      kept place

pub judged_on : (p : Setup) (logged : Option Log) (s t : State) (f : Apdu) (rest : List ℕ)
    → session.is_open s.centre.session ≡ true → Fits f → s.centre.so_far ≡ Some []
    → Judged s f None t
    → Meets p s logged (spelling f ++ rest) rest → Tracks p t logged rest phases.Judged
judged_on p None s t f rest on fits so j a = tt
judged_on p (Some log) s t f rest on fits so j a = subst (λ x. Agrees p x log rest phases.Judged)
    (sym j.after)
    (frame_taken p s log rest f a.0 on a.1 a.2 a.3 fits so j.passes true j.place)

-- a frame with a fault leaves nothing but what the close drops
fault_dropped : (s : State) (f : Apdu) (cause : Close) → Closes cause
    ≡ outcome_of s.centre.session f
    → disconnected (received f s) ≡ disconnected s
fault_dropped s f cause e =
    let refused : refuses s.centre.session f ≡ true = sym (ap is_close e) in
    let is : session.taken f s.moment s.centre.session
    ≡ session.acknowledged 0 (record s.centre.session { last_frame = s.moment }) =
    cond-true (refuses s.centre.session f) _ _ refused in
    ap (λ (x : Session). disconnected (with_centre (record s.centre {
      queue =
          queue.acknowledged x.acked_queue s.centre.queue;
      session = x;
    }) s)) is

-- a frame's fault is the cause
frame_cause : (p : Setup) (log : Log) (c : Course) (sent : ℕ) (older : List Apdu) (f : Apdu)
    (cause : Close)
    → fault_of sent older f ≡ Some cause → StandsNext p log cause c → IsCause p log cause c
frame_cause p log c sent older f cause fault stands =
    fault_cases (λ cause. StandsNext p log cause c → IsCause p log cause c) (λ st. st) (λ st. st)
    (λ st. st) sent older f cause fault stands

-- what is next closes the connection
next_closes : (p : Setup) (s : State) (log : Log) (unjudged : List ℕ) (cause : Close)
    → session.is_open s.centre.session ≡ true → IsClear s → IsUndue s log unjudged
    → (a : Agrees p s log unjudged Taking)
    → IsConnection (present log) (here_of a.course) (Some cause) → StandsNext p log cause a.course
next_closes p s log unjudged cause on ready undue a stands = record {
  next = stands;
  confirmed = sym (confirmed_by p s.centre.session log a.course a.talk) ∙ ready.confirmed;
  flushed = flushed_by p s log unjudged Taking a ready.spent;
  undue = undue_by p s log unjudged Taking a undue;
  placed = a.stands.placed (sym a.here.link ∙ on);
}

faulty_closes : (p : Setup) (log : Log) (s t : State) (f : Apdu) (cause : Close) (rest : List ℕ)
    → session.is_open s.centre.session ≡ true → Fits f → s.centre.so_far ≡ Some []
    → IsFaulty s f cause t → IsClear s → IsUndue s log (spelling f ++ rest)
    → Agrees p s log (spelling f ++ rest) Taking → MayClose p t cause Idle log
faulty_closes p log s t f cause rest on fits so j ready undue a =
    let fault = fault_closes f (here_of a.course) s.centre.session s.centre.queue.sent cause
    a.here.tied j.fault in
    let closes = fault_closes_so (length a.course.sent) (came_frames a.course.talk) f cause
    (present log) fault in
    let stands = stands_faulty p s log (spelling f ++ rest) rest f cause Taking a fits
    (ap (λ x. x ++ (spelling f ++ rest)) (nothing_so_far p s log _ a so)) fault in
    record {
      last = fault_ends (length a.course.sent) (came_frames a.course.talk) f cause fault;
      state = s;
      same = ap disconnected j.after ∙ fault_dropped s f cause j.fault;
      open_is = on;
      unjudged = spelling f ++ rest;
      phase = Taking;
      leads = refl;
      timely = closes.1;
      agrees = a;
      fault = Some cause;
      stands = subst (λ o. IsConnection o (here_of a.course) (Some cause)) (sym closes.0) stands;
      why = frame_cause p log a.course (length a.course.sent) (came_frames a.course.talk) f cause
          fault
          (next_closes p s log (spelling f ++ rest) cause on ready undue a stands);
    }

-- its own answer found no place
overfull_closes : (p : Setup) (log : Log) (s t : State) (f : Apdu) (rest : List ℕ)
    → session.is_open s.centre.session ≡ true → Fits f → s.centre.so_far ≡ Some []
    → IsTaken s f false t → IsClear s
    → IsUndue s log (spelling f ++ rest) → IsPast log (length rest)
    → Agrees p s log (spelling f ++ rest) Taking
    → MayClose p t OwnAnswers Idle log
overfull_closes p log s t f rest on fits so j ready undue past a =
    let b = frame_taken p s log rest f a on ready undue past fits so j.passes false j.place in
    let still : session.is_open (framed f s).centre.session ≡ true =
    (taken_stays f s.moment s.centre.session).connected ∙ on in
    record {
      last = refl;
      state = framed f s;
      same = ap disconnected j.after;
      open_is = still;
      unjudged = rest;
      phase = Crowded;
      leads = refl;
      timely = tt;
      agrees = b;
      fault = Some OwnAnswers;
      stands = stands_overfull p (framed f s) log rest Crowded b;
      why = subst (λ (c : Course). has_lacked_place c.works.history ≡ true)
          (sym (taken_course p s log rest f a on ready undue past fits so j.passes false j.place))
          (received_overfull f s.moment (wall_on log s.moment) a.course.works
          (ap (λ w. has_place f s.moment (wall_of w s.moment) a.course.works.serial.commands)
          (sym a.wall)
          ∙ ap (λ (z : Serial). has_place f s.moment (wall_now s) z.commands) (sym a.stands.does)
          ∙ j.place));
    }

pub judged_closes : (p : Setup) (logged : Option Log) (s t : State) (f : Apdu) (cause : Close)
    (rest : List ℕ)
    → session.is_open s.centre.session ≡ true → Fits f → s.centre.so_far ≡ Some []
    → Judged s f (Some cause) t
    → Meets p s logged (spelling f ++ rest) rest → IfSome logged (MayClose p t cause Idle)
judged_closes p None s t f cause rest on fits so j a = tt
judged_closes p (Some log) s t f cause rest on fits so (inl j) a =
    faulty_closes p log s t f cause rest on fits so j a.1 a.2 a.0
judged_closes p (Some log) s t f cause rest on fits so (inr j) a =
    subst (λ x. MayClose p t x Idle log) (sym j.0) (overfull_closes p log s t f rest on fits so j.1
    a.1 a.2 a.3 a.0)

-- the octets of the frame so far count as not judged
fed : (p : Setup) (s : State) (log : Log) (piece unjudged so_far : List ℕ) → s.centre.so_far
    ≡ Some so_far
    → so_far ++ piece ≡ unjudged → Agrees p s log piece Taking
    → Agrees p (with_octets (Some []) s) log unjudged Taking
fed p s log piece unjudged so_far so e a =
    with_so_far p s log piece unjudged [] Taking a nothing_waits
    (a.here.joined ∙ ap (λ x. spelled (came_frames a.course.talk) ++ x)
    (ap (λ x. x ++ piece) (unfolded s a.here.so_far so_far a.here.assembler so) ∙ e)) tt

-- when it is fed, what was due stays so
fed_undue : (s : State) (log : Log) (piece unjudged so_far : List ℕ) → s.centre.so_far ≡ Some so_far
    → so_far ++ piece ≡ unjudged → IsUndue s log piece
    → IsUndue (with_octets (Some []) s) log unjudged
fed_undue s log piece unjudged so_far so e (inl h) = inl
    (omega (arith, h, ap (λ x. length (pending x ++ piece)) so, ap length e))
fed_undue s log piece unjudged so_far so e (inr h) = inr h

pub logged_fed : (p : Setup) (logged : Option Log) (s t : State) (piece unjudged so_far : List ℕ)
    (n : ℕ)
    → s.centre.so_far ≡ Some so_far → so_far ++ piece ≡ unjudged → 0 < n → n ≤ length piece
    → t ≡ with_octets (Some []) s → Awaits p s logged piece
    → Meets p t logged unjudged (drop n piece)
logged_fed p None s t piece unjudged so_far n so e some within is h = tt
logged_fed p (Some log) s t piece unjudged so_far n so e some within is a =
    subst (λ x. Agrees p x log unjudged Taking × IsClear x × IsUndue x log unjudged
    × IsPast log (length (drop n piece))) (sym is) (
      fed p s log piece unjudged so_far so e a.0,
      record { confirmed = a.1.confirmed; spent = a.1.spent },
      fed_undue s log piece unjudged so_far so e a.2,
      omega (arith, a.3, some, within, length-drop n piece),
    )

-- what was due stays so when the octets are kept
kept_undue : (s : State) (log : Log) (piece so_far : List ℕ) → s.centre.so_far ≡ Some so_far
    → IsUndue s log piece → IsUndue (with_octets (Some (so_far ++ piece)) s) log []
kept_undue s log piece so_far so (inl h) = inl (omega (
  arith,
  h,
  ap (λ x. length (pending x ++ piece)) so,
  length-append (so_far ++ piece) [],
))
kept_undue s log piece so_far so (inr h) = inr h

pub logged_more : (p : Setup) (logged : Option Log) (s t : State) (piece so_far : List ℕ)
    → s.centre.so_far ≡ Some so_far
    → IsMore (so_far ++ piece) → t ≡ with_octets (Some (so_far ++ piece)) s
    → Awaits p s logged piece
    → Tracks p t logged [] Idle
logged_more p None s t piece so_far so more is h = tt
logged_more p (Some log) s t piece so_far so more is both =
    let a = both.0 in
    let same : a.here.so_far ≡ so_far = unfolded s a.here.so_far so_far a.here.assembler so in
    now_idle p t log
    (subst IsClear (sym is) (record { confirmed = both.1.confirmed; spent = both.1.spent }))
    (subst (λ x. IsUndue x log []) (sym is) (kept_undue s log piece so_far so both.2))
    (after_more p s t log piece a (subst (λ x. IsMore (x ++ piece)) (sym same) more) (is
    ∙ ap (λ x. with_octets (Some (x ++ piece)) s) (sym same)))

pub garbled_closes : (p : Setup) (logged : Option Log) (s t : State) (piece so_far : List ℕ)
    → session.is_open s.centre.session ≡ true → s.centre.so_far ≡ Some so_far
    → IsRefused (so_far ++ piece)
    → t ≡ with_octets (Some []) s → Awaits p s logged piece
    → IfSome logged (MayClose p t Grammar Idle)
garbled_closes p None s t piece so_far on so refused is h = tt
garbled_closes p (Some log) s t piece so_far on so refused is both =
    let a = both.0 in
    let same : a.here.so_far ≡ so_far = unfolded s a.here.so_far so_far a.here.assembler so in
    let stands =
    stands_garbled p s log piece Taking a (subst (λ x. IsRefused (x ++ piece)) (sym same)
    refused) in
    record {
      last = refl;
      state = s;
      same = ap disconnected is;
      open_is = on;
      unjudged = piece;
      phase = Taking;
      leads = refl;
      timely = tt;
      agrees = a;
      fault = Some Grammar;
      stands = stands;
      why = next_closes p s log piece Grammar on both.1 both.2 a stands;
    }

pub found_apdu : (o : Option (List ℕ)) (piece : List ℕ) (n : ℕ) (after : Assembly) → is_some o
    ≡ true
    → IfSome o (λ x. Receives x piece n receives.Whole after) → (x : List ℕ) × (o ≡ Some x)
    × ((f : Apdu) × Fits f × (x ++ piece ≡ spelling f ++ drop n piece) × (after.so_far ≡ Some [])
    × (after.whole ≡ Some f))
found_apdu None piece n after is h = cc
found_apdu (Some x) piece n after is h =
    let behind : drop (length x + n) (x ++ piece) ≡ drop n piece =
    sym (drop-drop n (length x) (x ++ piece))
    ∙ ap (drop n) (drop_at x piece (length x) refl) in (
      x,
      refl,
      (
        h.0,
        h.1.0.fits,
        sym (take-append-drop (length x + n) (x ++ piece))
            ∙ ap (λ y. y ++ drop (length x + n) (x ++ piece)) h.1.0.spelled
            ∙ ap (λ y. spelling h.0 ++ y) behind,
        h.2,
        h.3,
      ),
    )

pub found_never : (o : Option (List ℕ)) (piece : List ℕ) (n place : ℕ) (why : Why)
    (after : Assembly)
    → is_some o ≡ true → IfSome o (λ x. Receives x piece n (receives.Never place why) after)
    → (x : List ℕ) × (o ≡ Some x) × IsRefused (x ++ piece)
found_never None piece n place why after is h = cc
found_never (Some x) piece n place why after is h = (x, refl, (place, why, h.0))

-- a whole frame at the front of a piece
pub found_whole : (piece : List ℕ) (n : ℕ) (f : Apdu) → IsFront piece (front.Whole f n)
    → StandsFirst [] piece f n
found_whole piece n f h = (
  h.0.fits,
  sym (take-append-drop n piece)
      ∙ ap (λ y. y ++ drop n piece) h.0.spelled,
  some n (ap length h.0.spelled),
  h.1,
)
  where
    some : (n : ℕ) → length (take n piece) ≡ length (spelling f) → 0 < n
    some zero e = absurd (omega (arith, e))
    some (suc n) e = omega arith

-- if nothing is left of a frame, there are no octets of one
pub nothing_left : (s : State) → s.centre.so_far ≡ Some [] → s.centre.arrived ≡ None
    → s ≡ with_octets (Some []) s
nothing_left s so none =
    ap (λ (o : Option (List ℕ)). let made : State =
    record s { centre = record s.centre { so_far = o } } in made) so
    ∙ ap (λ (h : Option Apdu). let made : State =
    record s { centre = record s.centre { so_far = Some []; arrived = h } }
    in
    made) none

-- the frame that was whole is taken
pub logged_taken : (p : Setup) (logged : Option Log) (s t : State) (f g : Apdu) (rest : List ℕ)
    → s.centre.arrived ≡ Some f
    → s.centre.arrived ≡ Some g → s.centre.so_far ≡ Some []
    → t ≡ with_centre (record s.centre { arrived = None }) s
    → Meets p (with_octets (Some []) s) logged (spelling f ++ rest) rest
    → Meets p t logged (spelling g ++ rest) rest
logged_taken p logged s t f g rest arrived taken so is h =
    let same : f ≡ g = cc in
    let state : with_octets (Some []) s ≡ t = ap (λ (o : Option (List ℕ)). with_octets o s) (sym so)
    ∙ sym is in
    subst (λ (x : Apdu). Meets p t logged (spelling x ++ rest) rest) same
    (subst (λ (x : State). Meets p x logged (spelling f ++ rest) rest) state h)
