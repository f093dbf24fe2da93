-- A connection ends.
use Rattle.std.proofs.Common.{◌≡◌, ℕ, ◌<◌, Bool, true, false, List, [], ◌∷◌, ◌++◌, length, drop}
use Rattle.std.proofs.Common.{refl, ap, sym, ◌∙◌, subst, arith, Option, Some, None, inl}
use Rattle.std.specs.Prelude.{if◌then◌else◌, map}
use Rattle.std.proofs.lemmas.List.{append-nil}
use Rattle.asdu.specs.InformationObjects.{InformationObject}
use Rattle.apci.specs.declared.apdu.Apdu.{Apdu}
use Rattle.apci.specs.Spelling.{spelling, Fits}
use Rattle.apci.specs.Reading.{IsMore}
use Rattle.session.specs.declared.kinds.Close.{Close}
use Rattle.session.specs.declared.kinds.Close.TheVariants.{Grammar, SendNumber, ReceiveNumber}
use Rattle.session.specs.declared.kinds.Close.TheVariants.{Stopped, Timeout, OwnAnswers, Replaced}
use Rattle.session.specs.Session as session
use Rattle.session.specs.Session.{is_transferring, is_from_queue}
use Rattle.events.specs.Queue as queue
use Rattle.gateway.specs.Log.{Log, Went, Closed, latest}
use Rattle.gateway.specs.Streams.{IsRefused}
use Rattle.gateway.specs.Frames.{Connection, new_connection, acknowledged_count, fault_of}
use Rattle.gateway.specs.Frames.{AreInOrder}
use Rattle.gateway.specs.Connections.{Channel, no_channel, ends, present, past, over, closed_by}
use Rattle.gateway.specs.Connections.{IsBehind, BeginsWithFault, IsConnection, AreConnections}
use Rattle.gateway.specs.Reports.{Setup, taken_objects, taken_pieces, reports_in}
use Rattle.gateway.specs.Reports.{parts_of_all}
use Rattle.gateway.specs.Traffic.{replaces}
use Rattle.gateway.specs.Behind.{GoesBehindFrames}
use Rattle.gateway.specs.Serial as serial
use Rattle.gateway.specs.Serial.{Serial}
use Rattle.gateway.specs.Centre.{Centre}
use Rattle.gateway.specs.State.{State, disconnected}
use Rattle.gateway.specs.Steps.{IsCloseAt, after_closing}
use Rattle.gateway.specs.Works.{Works, cut_works}
use Rattle.gateway.specs.Course.{Course, here_of, came_frames, room_in, ended_course, works_at}
use Rattle.gateway.specs.Course.{closed_course, IsCause, Runs}
use Rattle.gateway.specs.Phases.{Phase, Fresh, Taking, Judged, Idle, Crowded, Timed, Asked}
use Rattle.gateway.specs.Phases.{IsLeftIn, IsPhase, works_in, IsAsked}
use Rattle.gateway.specs.Agrees.{Presently, Carries, Talks, Agrees, pieces_of, IsAnswered}
use Rattle.gateway.proofs.Alike.{settled_due}
use Rattle.gateway.proofs.Talking.{at, kept_talk, talk_cut}
use Rattle.gateway.proofs.Tied.{fault_cases}
use Rattle.gateway.proofs.Frames.{nothing_waits}
use Rattle.gateway.proofs.Objects.{carries_end}
use Rattle.gateway.proofs.Phases.{placed_cut}
use Rattle.gateway.proofs.Agreement.{in_order}

-- what stands on the connection
pub stands : (p : Setup) (s : State) (log : Log) (unjudged : List ℕ) (phase : Phase)
    (a : Agrees p s log unjudged phase)
    (fault : Option Close) → IsBehind (present log).lacked_place (length a.course.sent)
    (came_frames a.course.talk) fault
    (a.here.so_far ++ unjudged) → IsConnection (present log) (here_of a.course) fault
stands p s log unjudged phase a fault behind = record {
  put = a.here.put;
  handed = a.here.handed;
  sent =
      a.here.sent;
  rest = a.here.so_far ++ unjudged;
  joined = a.here.joined;
  fit = a.here.fit;
  pass =
      a.here.pass;
  behind = behind;
}

pub stands_now : (p : Setup) (s : State) (log : Log) (phase : Phase) (a : Agrees p s log [] phase)
    → IsConnection (present log) (here_of a.course) None
stands_now p s log phase a =
    stands p s log [] phase a None (subst IsMore (sym (append-nil a.here.so_far)) a.here.waits)

pub stands_garbled : (p : Setup) (s : State) (log : Log) (unjudged : List ℕ) (phase : Phase)
    (a : Agrees p s log unjudged phase) → IsRefused (a.here.so_far ++ unjudged)
    → IsConnection (present log) (here_of a.course) (Some Grammar)
stands_garbled p s log unjudged phase a refused = stands p s log unjudged phase a (Some Grammar)
    refused

-- an own answer found no place
pub stands_overfull : (p : Setup) (s : State) (log : Log) (unjudged : List ℕ) (phase : Phase)
    (a : Agrees p s log unjudged phase)
    → IsConnection (closed_by OwnAnswers (present log)) (here_of a.course)
    (Some OwnAnswers)
stands_overfull p s log unjudged phase a = record {
  put = a.here.put;
  handed = a.here.handed;
  sent =
      a.here.sent;
  rest = a.here.so_far ++ unjudged;
  joined = a.here.joined;
  fit = a.here.fit;
  pass =
      a.here.pass;
  behind = refl;
}

pub stands_faulty : (p : Setup) (s : State) (log : Log) (unjudged more : List ℕ) (f : Apdu)
    (cause : Close)
    (phase : Phase) (a : Agrees p s log unjudged phase) → Fits f → a.here.so_far ++ unjudged
    ≡ spelling f ++ more
    → fault_of (length a.course.sent) (came_frames a.course.talk) f ≡ Some cause →
    IsConnection (present log) (here_of a.course) (Some cause)
stands_faulty p s log unjudged more f cause phase a fits whole fault =
    let sent : ℕ = length a.course.sent in
    let came : List Apdu = came_frames a.course.talk in
    let begins : (cause : Close) → fault_of sent came f ≡ Some cause
    → BeginsWithFault sent came cause (a.here.so_far ++ unjudged) =
    λ cause e. record { frame = f; more = more; fits = fits; joined = whole; fault = e } in
    fault_cases (λ cause. fault_of sent came f ≡ Some cause
    → IsConnection (present log) (here_of a.course) (Some cause))
    (λ e. stands p s log unjudged phase a (Some Stopped) (begins Stopped e))
    (λ e. stands p s log unjudged phase a (Some SendNumber) (begins SendNumber e))
    (λ e. stands p s log unjudged phase a (Some ReceiveNumber) (begins ReceiveNumber e))
    sent came f cause fault fault

pub fault_ends : (sent : ℕ) (older : List Apdu) (f : Apdu) (cause : Close) → fault_of sent older f
    ≡ Some cause
    → ends cause ≡ true
fault_ends sent older f cause fault = fault_cases (λ cause. ends cause ≡ true) refl refl refl sent
    older f cause fault

-- such a cause leaves the channel as it is, and shows while octets are taken
pub fault_closes_so : (sent : ℕ) (older : List Apdu) (f : Apdu) (cause : Close) (c : Channel)
    → fault_of sent older f ≡ Some cause → (closed_by cause c ≡ c) × IsCloseAt cause Taking
fault_closes_so sent older f cause c fault =
    fault_cases (λ cause. (closed_by cause c ≡ c) × IsCloseAt cause Taking)
    (refl, tt) (refl, tt) (refl, tt) sent older f cause fault

-- the open connection, if any, joins those that are over
pub record Ended (p : Setup) (s : State) (log : Log) (c : Course) (octets : Channel) : Type 0 where
  pub are : AreConnections (over octets (past log)) (if octets.is_open then here_of c ∷ c.earlier
      else c.earlier)
  pub orders : AreInOrder (taken_objects p log) (if octets.is_open then here_of c ∷ c.earlier
      else c.earlier)
  pub carries : Carries (taken_objects p log) (parts_of_all p.sizes (reports_in p log))
      (taken_pieces p log)
      (if octets.is_open then here_of c ∷ c.earlier else c.earlier) []
      (queue.rewound s.centre.queue).unsent

pub ended : (p : Setup) (s : State) (log : Log) (unjudged : List ℕ) (phase : Phase)
    (a : Agrees p s log unjudged phase)
    (octets : Channel) (fault : Option Close) → octets.is_open ≡ (present log).is_open
    → IsConnection octets (here_of a.course) fault → Ended p s log a.course octets
ended p s log unjudged phase a octets fault as_now stands = by_case octets.is_open refl
  where
    objs : List InformationObject
    objs = taken_objects p log

    parts : ℕ
    parts = parts_of_all p.sizes (reports_in p log)

    all : List (List ℕ)
    all = taken_pieces p log

    c : Course
    c = a.course

    by_case : (b : Bool) → octets.is_open ≡ b → Ended p s log c octets
    by_case true h =
        let is : (if octets.is_open then here_of c ∷ c.earlier else c.earlier)
        ≡ here_of c ∷ c.earlier =
        ap (λ b. if b then here_of c ∷ c.earlier else c.earlier) h in
        let gone : over octets (past log) ≡ octets ∷ past log = ap (λ b. if b then octets ∷ past log
        else past log) h in
        record {
          are = subst (AreConnections (over octets (past log))) (sym is)
              (subst (λ cs. AreConnections cs (here_of c ∷ c.earlier)) (sym gone)
              (fault, stands, a.before.are));
          orders = subst (AreInOrder objs) (sym is) (
            in_order objs parts all
                (here_of c) c.earlier s.centre.queue.unsent a.here.numbered a.carries,
            a.before.orders,
          );
          carries = subst (λ cs. Carries objs parts all cs [] (queue.rewound s.centre.queue).unsent)
              (sym is)
              (carries_end objs parts all c.earlier (here_of c) s.centre.session s.centre.queue.sent
              s.centre.queue.unsent
              a.here.tied a.carries);
        }
    by_case false h =
        let is : (if octets.is_open then here_of c ∷ c.earlier else c.earlier) ≡ c.earlier =
        ap (λ b. if b then here_of c ∷ c.earlier else c.earlier) h in
        let gone : over octets (past log) ≡ past log = ap (λ b. if b then octets ∷ past log
        else past log) h in
        let new : here_of c ≡ new_connection = (a.here.none (sym as_now ∙ h)).1 in
        let none : s.centre.queue.sent ≡ [] = a.here.tied.unconfirmed.pieces_are
        ∙ ap
        (λ (c : Connection). pieces_of (drop (acknowledged_count c.received_frames) c.sent_frames))
        new in
        record {
          are = subst (AreConnections (over octets (past log))) (sym is)
              (subst (λ cs. AreConnections cs c.earlier) (sym gone) a.before.are);
          orders = subst (AreInOrder objs) (sym is) a.before.orders;
          carries = subst (λ cs. Carries objs parts all cs [] (queue.rewound s.centre.queue).unsent)
              (sym is)
              (subst (λ q. Carries objs parts all c.earlier [] (q ++ s.centre.queue.unsent))
              (sym none)
              (subst (λ (d : Connection). Carries objs parts all c.earlier d.sent_frames
              s.centre.queue.unsent) new
              a.carries));
        }

-- the state of a connection that has just begun, or of none
pub fresh : (s : Centre) (octets : Channel) → s.session.k < 32768 → session.is_open s.session
    ≡ octets.is_open
    → (octets.is_open ≡ false → octets ≡ no_channel) → octets.sent ≡ [] → octets.received ≡ []
    → is_transferring s.session ≡ false → s.session.next_received ≡ 0 → s.session.next_sent ≡ 0
    → s.session.unacknowledged ≡ [] → s.queue.sent ≡ [] → s.so_far ≡ Some [] → s.arrived ≡ None →
    Presently s octets [] new_connection
fresh s octets small link none sent received stopped first next us queued so taken = record {
  link = link;
  none = λ h. (none h, refl);
  put = [];
  handed = record { joined = sent; fit = tt };
  sent = refl;
  so_far = [];
  assembler = so;
  taken = taken;
  waits = nothing_waits;
  joined = received;
  fit = tt;
  pass = tt;
  tied = record {
    transferring = stopped;
    received = first;
    next = next;
    small = small;
    bound = omega (arith, ap length us);
    unconfirmed = record {
      count = omega (arith, ap length us);
      kinds =
          ap (λ xs. map (λ u. is_from_queue u.kind) xs) us;
      pieces_are = queued;
    };
  };
  numbered = tt;
}

-- The connection is closed

not_asked : (cause : Close) → IsCloseAt cause Asked → ⊥
not_asked Timeout h = h
not_asked Grammar h = h
not_asked SendNumber h = h
not_asked ReceiveNumber h = h
not_asked Stopped h = h
not_asked OwnAnswers h = h
not_asked Replaced h = h

not_fresh : (cause : Close) → IsCloseAt cause Fresh → ⊥
not_fresh Timeout h = h
not_fresh Grammar h = h
not_fresh SendNumber h = h
not_fresh ReceiveNumber h = h
not_fresh Stopped h = h
not_fresh OwnAnswers h = h
not_fresh Replaced h = h

not_judged : (cause : Close) → IsCloseAt cause Judged → ⊥
not_judged Timeout h = h
not_judged Grammar h = h
not_judged SendNumber h = h
not_judged ReceiveNumber h = h
not_judged Stopped h = h
not_judged OwnAnswers h = h
not_judged Replaced h = h

-- and leaves nothing to be judged
closed_left : (phase : Phase) (log : Log) (so_far : List ℕ) (cause : Close) → IsCloseAt cause phase
    → IsLeftIn (after_closing phase) log so_far []
closed_left Fresh log so_far cause timely = refl
closed_left Taking log so_far cause timely = refl
closed_left Judged log so_far cause timely = absurd (not_judged cause timely)
closed_left Idle log so_far cause timely = refl
closed_left Crowded log so_far cause timely = refl
closed_left Timed log so_far cause timely = refl
closed_left Asked log so_far cause timely = refl

-- the cut takes place at the point that the step has reached
closed_does : (s : Serial) (cause : Close) (phase : Phase) (at : ℕ) (room other : Bool) (w : Works)
    → IsCloseAt cause phase → s ≡ (works_in phase at room w).serial
    → serial.cut s
    ≡ (works_in (after_closing phase) at other (cut_works (works_at cause at w))).serial
closed_does s Grammar Taking at room other w timely d = ap serial.cut d
closed_does s SendNumber Taking at room other w timely d = ap serial.cut d
closed_does s ReceiveNumber Taking at room other w timely d = ap serial.cut d
closed_does s Stopped Taking at room other w timely d = ap serial.cut d
closed_does s Timeout Taking at room other w timely d = absurd timely
closed_does s OwnAnswers Taking at room other w timely d = absurd timely
closed_does s Replaced Taking at room other w timely d = ap serial.cut d
closed_does s Grammar Idle at room other w timely d = absurd timely
closed_does s SendNumber Idle at room other w timely d = absurd timely
closed_does s ReceiveNumber Idle at room other w timely d = absurd timely
closed_does s Stopped Idle at room other w timely d = absurd timely
closed_does s Timeout Idle at room other w timely d = absurd timely
closed_does s OwnAnswers Idle at room other w timely d = absurd timely
closed_does s Replaced Idle at room other w timely d = absurd timely
closed_does s Grammar Crowded at room other w timely d = absurd timely
closed_does s SendNumber Crowded at room other w timely d = absurd timely
closed_does s ReceiveNumber Crowded at room other w timely d = absurd timely
closed_does s Stopped Crowded at room other w timely d = absurd timely
closed_does s Timeout Crowded at room other w timely d = absurd timely
closed_does s OwnAnswers Crowded at room other w timely d = ap serial.cut d
closed_does s Replaced Crowded at room other w timely d = absurd timely
closed_does s Grammar Timed at room other w timely d = absurd timely
closed_does s SendNumber Timed at room other w timely d = absurd timely
closed_does s ReceiveNumber Timed at room other w timely d = absurd timely
closed_does s Stopped Timed at room other w timely d = absurd timely
closed_does s Timeout Timed at room other w timely d = ap serial.cut d
closed_does s OwnAnswers Timed at room other w timely d = absurd timely
closed_does s Replaced Timed at room other w timely d = absurd timely
closed_does s Grammar Asked at room other w timely d = absurd timely
closed_does s SendNumber Asked at room other w timely d = absurd timely
closed_does s ReceiveNumber Asked at room other w timely d = absurd timely
closed_does s Stopped Asked at room other w timely d = absurd timely
closed_does s Timeout Asked at room other w timely d = absurd timely
closed_does s OwnAnswers Asked at room other w timely d = absurd timely
closed_does s Replaced Asked at room other w timely d = absurd timely
closed_does s cause Judged at room other w timely d = absurd (not_judged cause timely)
closed_does s cause Fresh at room other w timely d = absurd (not_fresh cause timely)

works_due : (cause : Close) (at : ℕ) (w : Works) → (works_at cause at w).is_due ≡ w.is_due
works_due Timeout at w = settled_due at w
works_due Grammar at w = refl
works_due SendNumber at w = refl
works_due ReceiveNumber at w = refl
works_due Stopped at w = refl
works_due OwnAnswers at w = refl
works_due Replaced at w = refl

-- before the step's request
closing_due : (cause : Close) (phase : Phase) (at : ℕ) (room : Bool) (w : Works)
    → IsCloseAt cause phase
    → IsAsked phase at room w → w.is_due ≡ true
closing_due cause Taking at room w timely h = h
closing_due cause Idle at room w timely h = h
closing_due cause Crowded at room w timely h = h
closing_due cause Timed at room w timely h = h
closing_due cause Judged at room w timely h = h
closing_due cause Fresh at room w timely h = absurd (not_fresh cause timely)
closing_due cause Asked at room w timely h = absurd (not_asked cause timely)

closed_asks : (cause : Close) (phase : Phase) (at : ℕ) (room other : Bool) (w : Works)
    → IsCloseAt cause phase
    → IsAsked phase at room w
    → IsAsked (after_closing phase) at other (cut_works (works_at cause at w))
closed_asks cause Taking at room other w timely h = works_due cause at w ∙ h
closed_asks cause Idle at room other w timely h = absurd (never cause timely)
  where
    never : (cause : Close) → IsCloseAt cause Idle → ⊥
    never Timeout h = h
    never Grammar h = h
    never SendNumber h = h
    never ReceiveNumber h = h
    never Stopped h = h
    never OwnAnswers h = h
    never Replaced h = h
closed_asks cause Crowded at room other w timely h = works_due cause at w ∙ h
closed_asks cause Timed at room other w timely h = works_due cause at w ∙ h
closed_asks cause Judged at room other w timely h = absurd (not_judged cause timely)
closed_asks cause Fresh at room other w timely h = absurd (not_fresh cause timely)
closed_asks cause Asked at room other w timely h = absurd (not_asked cause timely)

closed_phase : (phase : Phase) (log : Log) (now : ℕ) (cause : Close) → IsCloseAt cause phase
    → IsPhase phase log
    → IsPhase (after_closing phase) (Went now (Closed cause) ∷ log)
closed_phase Fresh log now cause timely h = absurd (not_fresh cause timely)
closed_phase Taking log now cause timely h = h.1
closed_phase Idle log now cause timely h = h
closed_phase Crowded log now cause timely h = h
closed_phase Judged log now cause timely h = absurd (not_judged cause timely)
closed_phase Timed log now cause timely h = h
closed_phase Asked log now cause timely h = tt

-- what went to TCP so far went out behind frames of the event
closing_early : (phase : Phase) (log : Log) (cause : Close) → IsCloseAt cause phase
    → IsPhase phase log → GoesBehindFrames log
closing_early Fresh log cause timely h = absurd (not_fresh cause timely)
closing_early Taking log cause timely h = h.1
closing_early Idle log cause timely h = h
closing_early Crowded log cause timely h = h
closing_early Judged log cause timely h = absurd (not_judged cause timely)
closing_early Timed log cause timely h = h
closing_early Asked log cause timely h = absurd (not_asked cause timely)

closed_is : (p : Setup) (cause : Close) (is_open : Bool) (at : ℕ) (c : Course) → ends cause ≡ true
    → closed_course p cause is_open at c ≡ ended_course is_open (works_at cause at c.works) c
closed_is p Grammar is_open at c h = refl
closed_is p SendNumber is_open at c h = refl
closed_is p ReceiveNumber is_open at c h = refl
closed_is p Stopped is_open at c h = refl
closed_is p Timeout is_open at c h = refl
closed_is p OwnAnswers is_open at c h = refl
closed_is p Replaced is_open at c h = cc

same_open : (cause : Close) (c : Channel) → (closed_by cause c).is_open ≡ c.is_open
same_open Grammar c = refl
same_open SendNumber c = refl
same_open ReceiveNumber c = refl
same_open Stopped c = refl
same_open Timeout c = refl
same_open OwnAnswers c = refl
same_open Replaced c = refl

pub after_close : (p : Setup) (s : State) (log : Log) (unjudged : List ℕ)
    (cause : Close)
    (phase : Phase) (fault : Option Close) (a : Agrees p s log unjudged phase)
    → session.is_open s.centre.session ≡ true → ends cause ≡ true → IsCloseAt cause phase
    → IsConnection (closed_by cause (present log)) (here_of a.course) fault
    → IsCause p log cause a.course →
    Agrees p (disconnected s) (Went s.moment (Closed cause) ∷ log) [] (after_closing phase)
after_close p s log unjudged cause phase fault a on last timely stands why =
    let new : Log = Went s.moment (Closed cause) ∷ log in
    let octets : Channel = closed_by cause (present log) in
    let course : Course = ended_course octets.is_open (works_at cause (latest log) a.course.works)
    a.course in
    let end = ended p s log unjudged phase a octets fault (same_open cause (present log)) stands in
    let runs : Runs p new course = (
      a.course,
      a.talk.course_runs,
      sym (closed_is p cause (present log).is_open (latest log) a.course last
          ∙ ap (λ b. ended_course b (works_at cause (latest log) a.course.works) a.course)
          (sym (same_open cause (present log)))),
      why,
      closing_due cause phase (latest log) (room_in p log a.course) a.course.works timely
          a.stands.asks,
    ) in
    let talk : Talks p (session.closed s.centre.session) new course =
    talk_cut p s.centre.session s.centre.session log new a.course course a.talk refl refl runs in
    let shut : present new ≡ no_channel = ap (λ b. if b then no_channel else present log) last in
    let gone : past new ≡ over octets (past log) = ap (λ b. if b then over octets (past log)
    else past log) last in
    record {
      k = a.k;
      sizes = a.sizes;
      places = a.places;
      clock = a.clock;
      wall = a.wall;
      settled = refl;
      found = a.found;
      line = a.line;
      course = course;
      talk = talk;
      stands = record {
        does = closed_does s.serial cause phase (latest log) (room_in p log a.course)
            (room_in p new course) a.course.works timely a.stands.does;
        asks = closed_asks cause phase (latest log) (room_in p log a.course)
            (room_in p new course) a.course.works timely a.stands.asks;
        phase_is = closed_phase phase log s.moment cause timely a.stands.phase_is;
        placed = placed_cut (after_closing phase) new _;
        answered = closed_answered (after_closing phase) (not_asked_then cause phase timely);
      };
      gaps = a.gaps;
      plain = tt;
      here = subst (λ octets. Presently (disconnected s).centre octets [] new_connection) (sym shut)
          (fresh (disconnected s).centre no_channel a.here.tied.small refl
          (λ h. refl) refl refl refl refl refl refl refl refl refl);
      left = closed_left phase new [] cause timely;
      carries = end.carries;
      before = record {
        are = subst (λ cs. AreConnections cs course.earlier) (sym gone) end.are;
        orders = end.orders;
        times = (kept_talk p _ _ _ talk, a.before.times);
        acts = (
          record {
            moment = a.clock;
            replaced = no_replaced cause last ∙ sym a.settled;
            early = closing_early phase log cause timely a.stands.phase_is;
            may =
                λ h. (sym a.here.link ∙ on, (a.course, a.talk.course_runs, why));
          },
          a.before.acts,
        );
        rests = a.before.rests;
      };
    }
  where
    -- no frame of the next connection is taken yet
    closed_answered : (phase : Phase) → (phase ≡ Asked → ⊥)
        → IsAnswered phase p (Went s.moment (Closed cause) ∷ log)
        (ended_course (closed_by cause (present log)).is_open (works_at cause (latest log)
        a.course.works) a.course)
    closed_answered Fresh h = tt
    closed_answered Taking h = tt
    closed_answered Judged h = tt
    closed_answered Idle h = inl (omega arith)
    closed_answered Crowded h = tt
    closed_answered Timed h = inl (omega arith)
    closed_answered Asked h = absurd (h refl)

    not_asked_then : (cause : Close) (phase : Phase) → IsCloseAt cause phase
        → after_closing phase ≡ Asked → ⊥
    not_asked_then cause Fresh timely e = cc
    not_asked_then cause Taking timely e = cc
    not_asked_then cause Judged timely e = cc
    not_asked_then cause Idle timely e = cc
    not_asked_then cause Crowded timely e = cc
    not_asked_then cause Timed timely e = cc
    not_asked_then cause Asked timely e = not_asked cause timely

    no_replaced : (cause : Close) → ends cause ≡ true → replaces (Closed cause) ≡ false
    no_replaced Grammar h = refl
    no_replaced SendNumber h = refl
    no_replaced ReceiveNumber h = refl
    no_replaced Stopped h = refl
    no_replaced Timeout h = refl
    no_replaced OwnAnswers h = refl
    no_replaced Replaced h = cc
