-- Each frame that goes out keeps the agreement of state and log.
use Rattle.std.proofs.Common.{◌≡◌, ℕ, ◌+◌, ◌%◌, ◌<◌, ◌≤◌, true, false, not, nat_lt, List, []}
use Rattle.std.proofs.Common.{◌∷◌, ◌++◌, length, take, drop, refl, ap, sym, ◌∙◌, subst, arith}
use Rattle.std.proofs.Common.{length-append, Some, None, zero-add, inl, inr}
use Rattle.std.specs.Prelude.{if◌then◌else◌, ◌⊎◌}
use Rattle.std.proofs.lemmas.List.{take-append-le}
use Rattle.std.proofs.lemmas.Bool.{false≢true, lt-ltb, le-ltb, cases_lt}
use Rattle.asdu.specs.InformationObjects.{InformationObject}
use Rattle.apci.specs.declared.apdu.Apdu.{Apdu}
use Rattle.apci.specs.declared.apdu.Apdu.TheVariants.{I, S, U}
use Rattle.apci.specs.Spelling.{spelling, Fits}
use Rattle.session.specs.declared.kinds.FrameOrigin.{FrameOrigin}
use Rattle.session.specs.declared.kinds.FrameOrigin.TheVariants.{Queue as FromQueue, Own}
use Rattle.session.specs.Session as session
use Rattle.session.specs.Session.{Session, may_send}
use Rattle.events.specs.Queue.{free_places}
use Rattle.gateway.specs.Objects.{has_objects}
use Rattle.gateway.specs.Log.{Log, Went, TcpOut, latest}
use Rattle.gateway.specs.Frames.{Sent, Connection, data_frames, acknowledged_count}
use Rattle.gateway.specs.Frames.{acknowledged_reports, reports_among, IsNumberedFrom, IsInOrder}
use Rattle.gateway.specs.Connections.{is_replaced, Channel, sending, present}
use Rattle.gateway.specs.Reports.{Setup, taken_objects, taken_pieces, reports_in, parts_of_all}
use Rattle.gateway.specs.Polls.{has_room}
use Rattle.gateway.specs.Traffic.{IsFaithful}
use Rattle.command.specs.State as tasks
use Rattle.gateway.specs.Serial as serial
use Rattle.gateway.specs.Serial.{Serial}
use Rattle.gateway.specs.Centre.{Centre, next_frame}
use Rattle.gateway.specs.State.{State, with_session, piece_sent, own_sent}
use Rattle.gateway.specs.Works.{has_lacked_place, Works, answered_works}
use Rattle.command.specs.State.{oldest}
use Rattle.gateway.specs.Course.{Course, here_of, came_frames, has_places, room_in, kind_of}
use Rattle.gateway.specs.Course.{logged_sent, with_sent, IsFlushed, HasBegun, IsNextData, IsTouched}
use Rattle.gateway.specs.Course.{HasAsked}
use Rattle.gateway.specs.Phases.{Phase, IsFlushing}
use Rattle.session.specs.History as talk
use Rattle.session.specs.History.{History}
use Rattle.session.specs.Runs.{Call, Send, after_call}
use Rattle.session.specs.Ends.{IsConfirmed}
use Rattle.gateway.specs.Conversation.{KeepsRulesSoFar}
use Rattle.gateway.specs.Agrees.{Presently, Carries, Past, Talks, Agrees, Tied, ArePlain}
use Rattle.gateway.proofs.Working.{answers_in, own_serial, asked_own, own_placed}
use Rattle.gateway.proofs.Talking.{at, HasNoData, next_plain, sends, kept_talk, talk_out}
use Rattle.gateway.proofs.Talking.{confirmed_by}
use Rattle.gateway.proofs.Unconfirmed.{numbered_more}
use Rattle.gateway.proofs.Tied.{tied_piece, tied_own, sent_more, SameWindow, tied_same}
use Rattle.gateway.proofs.Frames.{pass_grows}
use Rattle.gateway.proofs.Objects.{next_objects, next_piece, carries_piece, carries_own}
use Rattle.gateway.proofs.Objects.{first_whole, run_now, split_reports}
use Rattle.gateway.proofs.Stations.{keeps_links}
use Rattle.gateway.proofs.Phases.{same_does, same_asks, ends_in, phase_out, left_out, placed_on}
use Rattle.gateway.proofs.Phases.{placed_in, acknowledged_within, turn_by}
use Rattle.gateway.proofs.Early.{answered_out}

pub in_order : (objs : List InformationObject) (parts : ℕ) (all : List (List ℕ)) (c : Connection)
    (earlier : List Connection) (unsent : List (List ℕ)) → IsNumberedFrom 0 c.sent_frames
    → Carries objs parts all earlier c.sent_frames unsent → IsInOrder objs c earlier
in_order objs parts all c earlier unsent numbered carries =
    record {
      run = run_now objs parts all earlier c.sent_frames unsent carries;
      numbered =
          numbered;
    }

pub faithful : (p : Setup) (s : State) (log : Log) (unjudged : List ℕ) (phase : Phase)
    → Agrees p s log unjudged phase
    → IsFaithful p log
faithful p s log unjudged phase a = record {
  course = a.course;
  course_runs = a.talk.course_runs;
  begun = record {
    put = a.here.put;
    handed = a.here.handed;
    sent = a.here.sent;
    rest =
        a.here.so_far ++ unjudged;
    joined = a.here.joined;
    fit = a.here.fit;
    pass = a.here.pass;
  };
  are = a.before.are;
  orders = (
    in_order (taken_objects p log) (parts_of_all p.sizes (reports_in p log)) (taken_pieces p log)
        (here_of a.course) a.course.earlier s.centre.queue.unsent a.here.numbered a.carries,
    a.before.orders,
  );
  links = keeps_links p s.serial.line log a.line;
  times = a.before.times;
  acts = a.before.acts;
  rests = a.before.rests;
}

-- What the queue's room shows of the log, and what stays of the line's part.

-- the room that the log shows is the queue's
pub same_room : (p : Setup) (s : State) (log : Log) (unjudged : List ℕ) (phase : Phase)
    (a : Agrees p s log unjudged phase) → room_in p log a.course ≡ has_room s.centre.queue
same_room p s log unjudged phase a = by_places (cases_lt (free_places s.centre.queue) 3)
  where
    used : ℕ
    used = p.places + acknowledged_reports (here_of a.course ∷ a.course.earlier)

    parts : ℕ
    parts = parts_of_all p.sizes (reports_in p log)

    few : free_places s.centre.queue < 3 → used < parts + 3
    few less = omega (
      arith,
      less,
      a.places,
      a.carries.count,
      split_reports (here_of a.course) s.centre.session s.centre.queue.sent a.here.tied,
      length-append s.centre.queue.sent s.centre.queue.unsent,
    )

    enough : 3 ≤ free_places s.centre.queue → parts + 3 ≤ used
    enough free = omega (
      arith,
      free,
      a.places,
      a.carries.count,
      split_reports (here_of a.course) s.centre.session s.centre.queue.sent a.here.tied,
      length-append s.centre.queue.sent s.centre.queue.unsent,
    )

    by_places : (free_places s.centre.queue < 3) ⊎ (3 ≤ free_places s.centre.queue)
        → room_in p log a.course ≡ has_room s.centre.queue
    by_places (inl less) = ap not (lt-ltb used (parts + 3) (few less)
        ∙ sym (lt-ltb (free_places s.centre.queue) 3 less))
    by_places (inr free) = ap not (le-ltb used (parts + 3) (enough free)
        ∙ sym (le-ltb (free_places s.centre.queue) 3 free))

pub is_full : (p : Setup) (s : State) (log : Log) (unjudged : List ℕ) (phase : Phase)
    (a : Agrees p s log unjudged phase) → free_places s.centre.queue < 3
    → room_in p log a.course ≡ false
is_full p s log unjudged phase a few = same_room p s log unjudged phase a
    ∙ ap not (lt-ltb (free_places s.centre.queue) 3 few)

pub has_room_left : (p : Setup) (s : State) (log : Log) (unjudged : List ℕ) (phase : Phase)
    (a : Agrees p s log unjudged phase) → 3 ≤ free_places s.centre.queue
    → room_in p log a.course ≡ true
has_room_left p s log unjudged phase a free = same_room p s log unjudged phase a
    ∙ ap not (le-ltb (free_places s.centre.queue) 3 free)

-- as more is sent the same is acknowledged
pub room_more : (p : Setup) (parts : ℕ) (received : List Apdu) (sent more : List Sent)
    (earlier : List Connection)
    → acknowledged_count received ≤ length sent →
    has_places p parts
    (record { sent_frames = sent ++ more; received_frames = received } ∷ earlier)
    ≡ has_places p parts (record { sent_frames = sent; received_frames = received } ∷ earlier)
room_more p parts received sent more earlier within =
    ap
    (λ (fs : List Sent). not (nat_lt (p.places + (reports_among fs + acknowledged_reports earlier))
    (parts + 3)))
    (take-append-le (acknowledged_count received) sent more within)

-- a frame is handed to TCP
went_out : (s t : Centre) (octets : Channel) (unjudged : List ℕ) (c : Connection) (fs : List Sent)
    (f : Apdu)
    (h : Presently s octets unjudged c) → Fits f → session.is_open s.session ≡ true
    → session.is_open t.session ≡ session.is_open s.session → t.so_far ≡ s.so_far
    → t.arrived ≡ s.arrived →
    fs ≡ data_frames (f ∷ h.put) → length c.sent_frames ≤ length fs →
    Tied (record { sent_frames = fs; received_frames = c.received_frames }) t.session t.queue.sent
    → IsNumberedFrom 0 fs →
    Presently t (sending octets (spelling f)) unjudged
    (record { sent_frames = fs; received_frames = c.received_frames })
went_out s t octets unjudged c fs f h fits on same so arrived bears more tied numbered = record {
  link = same ∙ h.link;
  none = λ off. absurd (false≢true (sym off ∙ sym h.link ∙ on));
  put = f ∷ h.put;
  handed = record {
    joined = ap (λ x. x ++ spelling f) h.handed.joined;
    fit =
        (fits, h.handed.fit);
  };
  sent = bears;
  so_far = h.so_far;
  assembler = so ∙ h.assembler;
  taken = arrived ∙ h.taken;
  waits = h.waits;
  joined = h.joined;
  fit = h.fit;
  pass = pass_grows _ _ more c.received_frames h.pass;
  tied = tied;
  numbered = numbered;
}

-- what goes out changes no connection but the open one
past_put : (p : Setup) (log : Log) (earlier : List Connection) (now : ℕ) (f : Apdu)
    → now ≡ latest log
    → is_replaced log ≡ false → (present log).is_open ≡ true → Fits f
    → KeepsRulesSoFar p (Went now (TcpOut (spelling f)) ∷ log) → Past p log earlier
    → Past p (Went now (TcpOut (spelling f)) ∷ log) earlier
past_put p log earlier now f e settled on fits talk b = record {
  are = b.are;
  orders = b.orders;
  times = (talk, b.times);
  acts = (
    record {
      moment = e;
      replaced = sym settled;
      early = tt;
      may =
          (on, record { frame = f; fits = fits; spelled_so = refl });
    },
    b.acts,
  );
  rests = b.rests;
}

-- An I frame goes out

-- the course once an I frame of this kind has gone out
abbrev data_course : State → List ℕ → FrameOrigin → (moment : ℕ) → Works → Course → Course
data_course s asdu kind moment w c = record {
  talk = talk.Sent s.centre.session.next_sent s.centre.session.next_received kind moment ∷ c.talk;
  sent = c.sent ++ record {
    ns = s.centre.session.next_sent;
    nr =
        s.centre.session.next_received;
    asdu = asdu;
  } ∷ [];
  earlier = c.earlier;
  works = w;
}

data_queue : (s : State) (asdu : List ℕ) (moment : ℕ) (c : Course) → has_objects asdu ≡ true
    → with_sent (next_frame s.centre.session asdu) moment c
    ≡ data_course s asdu FromQueue moment c.works c
data_queue s asdu moment c has =
    ap (λ b. data_course s asdu (if b then FromQueue else Own) moment
    (if b then c.works else answered_works c.works) c) has

data_own : (s : State) (asdu : List ℕ) (moment : ℕ) (c : Course) → has_objects asdu ≡ false
    → with_sent (next_frame s.centre.session asdu) moment c
    ≡ data_course s asdu Own moment (answered_works c.works) c
data_own s asdu moment c none =
    ap (λ b. data_course s asdu (if b then FromQueue else Own) moment
    (if b then c.works else answered_works c.works) c) none

-- an I frame with this ASDU goes out
module _ (p : Setup) (s t : State) (log : Log) (unjudged asdu : List ℕ) (kind : FrameOrigin)
    (phase : Phase) (w : Works)
    (a : Agrees p s log unjudged phase) where
  abbrev data_log : Log
  data_log = Went s.moment (TcpOut (spelling (next_frame s.centre.session asdu))) ∷ log

  abbrev after_data : Course
  after_data = data_course s asdu kind s.moment w a.course

  data_room : room_in p data_log after_data ≡ room_in p log a.course
  data_room = room_more p (parts_of_all p.sizes (reports_in p log))
      (came_frames a.course.talk) a.course.sent _ a.course.earlier
      (acknowledged_within p s log unjudged phase a)

  data_talk : may_send s.centre.session ≡ true → kind_of asdu ≡ kind
      → IsNextData p log asdu a.course
      → has_lacked_place a.course.works.history ≡ false
      → IsTouched log a.course ⊎ HasAsked p log a.course → Fits (next_frame s.centre.session asdu)
      → with_sent (next_frame s.centre.session asdu) s.moment a.course ≡ after_data
      → Talks p (session.sent kind s.moment s.centre.session) data_log after_data
  data_talk may is next placed turn fits same =
      subst (Talks p (session.sent kind s.moment s.centre.session) data_log) same
      (talk_out p s.centre.session (session.sent kind s.moment s.centre.session) log a.course
      s.moment s.moment
      (next_frame s.centre.session asdu) (Send kind s.moment) a.talk fits a.clock next placed turn
      (sends s.centre.session a.course.talk asdu kind s.moment may is)
      (a.here.so_far ++ unjudged, a.here.joined))

pub after_piece : (p : Setup) (s : State) (log : Log) (unjudged asdu : List ℕ)
    (rest : List (List ℕ)) (phase : Phase)
    → Agrees p s log unjudged phase → IsFlushing phase → IsConfirmed s.centre.session
    → may_send s.centre.session ≡ true → session.is_open s.centre.session ≡ true
    → s.serial.commands.answers ≡ []
    → s.centre.queue.unsent ≡ asdu ∷ rest → Fits (next_frame s.centre.session asdu) →
    Agrees p (piece_sent s) (Went s.moment (TcpOut (spelling (next_frame s.centre.session asdu)))
    ∷ log) unjudged phase
after_piece p s log unjudged asdu rest phase a flushing ready may on none unsent fits =
    let f : Sent = record {
      ns = s.centre.session.next_sent;
      nr =
          s.centre.session.next_received;
      asdu = asdu;
    } in
    let has : has_objects asdu ≡ true = first_whole (taken_objects p log)
    (parts_of_all p.sizes (reports_in p log)) (taken_pieces p log) a.course.earlier a.course.sent
    s.centre.queue.unsent rest asdu unsent a.carries in
    let answers : a.course.works.serial.commands.answers ≡ [] =
    sym (ap (λ (z : Serial). z.commands.answers) a.stands.does
    ∙ answers_in phase (latest log) (room_in p log a.course) a.course.works) ∙ none in
    let talk = data_talk p s (piece_sent s) log unjudged asdu FromQueue phase a.course.works a may
    (ap (λ b. if b then FromQueue else Own) has)
    (record {
      confirmed = sym (confirmed_by p s.centre.session log a.course a.talk) ∙ ready;
      own =
          λ no. absurd (false≢true (sym no ∙ has));
      none = λ some. answers;
      report =
          λ some. next_objects (taken_objects p log)
          (parts_of_all p.sizes (reports_in p log)) (taken_pieces p log) a.course.earlier
          a.course.sent
          s.centre.queue.unsent rest asdu unsent a.carries;
      piece =
          λ some. next_piece (taken_objects p log)
          (parts_of_all p.sizes (reports_in p log)) (taken_pieces p log) a.course.earlier
          a.course.sent
          s.centre.queue.unsent rest asdu unsent a.carries;
    }) (placed_in phase log _ flushing a.stands.placed (sym a.here.link ∙ on))
    (turn_by p s log unjudged phase a flushing) fits
    (data_queue s asdu s.moment a.course has) in
    let room = data_room p s (piece_sent s) log unjudged asdu FromQueue phase a.course.works a in
    record {
      k = a.k;
      sizes = a.sizes;
      places = a.places;
      clock = a.clock;
      wall = a.wall;
      settled = refl;
      found = a.found;
      line = a.line;
      course = data_course s asdu FromQueue s.moment a.course.works a.course;
      talk = talk;
      stands = record {
        does = same_does phase (latest log) _ _ a.course.works s.serial room a.stands.does;
        asks =
            same_asks phase (latest log) _ _ a.course.works room a.stands.asks;
        phase_is =
            phase_out phase log s.moment _ flushing (ends_in p s log unjudged phase a)
            a.stands.phase_is;
        placed =
            placed_on phase log _ _ _ (λ o. o) refl a.stands.placed;
        answered = answered_out p phase log _ a.course _ (next_frame s.centre.session asdu) s.moment
            flushing a.talk.timely.patient refl a.clock
            (ap (λ (c : Course). c.talk) (sym (data_queue s asdu s.moment a.course has)))
            a.stands.answered;
      };
      gaps = a.gaps;
      plain = a.plain;
      here = went_out s.centre (piece_sent s).centre (present log) unjudged (here_of a.course)
          (a.course.sent ++ f
          ∷ []) (next_frame s.centre.session asdu) a.here fits on refl refl refl
          (ap (λ xs. xs ++ f ∷ []) a.here.sent)
          (omega (arith, length-append a.course.sent (f ∷ [])))
          (subst (λ u. Tied (sent_more f (here_of a.course))
          (session.sent FromQueue s.moment s.centre.session)
          (s.centre.queue.sent ++ take 1 u)) (sym unsent)
          (tied_piece f s.moment (here_of a.course) s.centre.session s.centre.queue.sent a.here.tied
          may has))
          (numbered_more 0 a.course.sent f (a.here.tied.next
          ∙ ap (λ n. n % 32768) (sym (zero-add (length a.course.sent)))) a.here.numbered);
      left = left_out phase log s.moment _ _ unjudged a.left;
      carries = carries_piece (taken_objects p log) (parts_of_all p.sizes (reports_in p log))
          (taken_pieces p log) a.course.earlier
          a.course.sent s.centre.queue.unsent rest f unsent has a.carries;
      before = past_put p log a.course.earlier s.moment (next_frame s.centre.session asdu) a.clock
          a.settled
          (sym a.here.link ∙ on) fits (kept_talk p _ _ _ talk) a.before;
    }

first_plain : (answers : List (List ℕ)) (asdu : List ℕ) → tasks.first_answer answers ≡ Some asdu
    → ArePlain answers
    → has_objects asdu ≡ false
first_plain [] asdu e h = cc
first_plain (x ∷ xs) asdu e h = subst (λ y. has_objects y ≡ false) (same e) h.0
  where
    same : Some x ≡ Some asdu → x ≡ asdu
    same e = cc

fewer_plain : (answers : List (List ℕ)) → ArePlain answers → ArePlain (drop 1 answers)
fewer_plain [] h = tt
fewer_plain (x ∷ xs) h = h.1

pub after_own : (p : Setup) (s : State) (log : Log) (unjudged asdu : List ℕ) (phase : Phase)
    → Agrees p s log unjudged phase → IsFlushing phase → IsConfirmed s.centre.session
    → may_send s.centre.session ≡ true → session.is_open s.centre.session ≡ true
    → tasks.first_answer s.serial.commands.answers ≡ Some asdu
    → Fits (next_frame s.centre.session asdu) →
    Agrees p (own_sent s) (Went s.moment (TcpOut (spelling (next_frame s.centre.session asdu)))
    ∷ log) unjudged phase
after_own p s log unjudged asdu phase a flushing ready may on first fits =
    let f : Sent = record {
      ns = s.centre.session.next_sent;
      nr =
          s.centre.session.next_received;
      asdu = asdu;
    } in
    let none : has_objects asdu ≡ false = first_plain s.serial.commands.answers asdu first
    a.plain in
    let oldest : tasks.first_answer a.course.works.serial.commands.answers ≡ Some asdu =
    ap tasks.first_answer (sym (ap (λ (z : Serial). z.commands.answers) a.stands.does
    ∙ answers_in phase (latest log) (room_in p log a.course) a.course.works)) ∙ first in
    let w : Works = answered_works a.course.works in
    let talk = data_talk p s (own_sent s) log unjudged asdu Own phase w a may
    (ap (λ b. if b then FromQueue else Own) none)
    (record {
      confirmed = sym (confirmed_by p s.centre.session log a.course a.talk) ∙ ready;
      own =
          λ no. oldest;
      none = λ some. absurd (false≢true (sym none ∙ some));
      report =
          λ some. absurd (false≢true (sym none ∙ some));
      piece =
          λ some. absurd (false≢true (sym none ∙ some));
    })
    (placed_in phase log _ flushing a.stands.placed (sym a.here.link ∙ on))
    (turn_by p s log unjudged phase a flushing) fits
    (data_own s asdu s.moment a.course none) in
    let room = data_room p s (own_sent s) log unjudged asdu Own phase w a in
    record {
      k = a.k;
      sizes = a.sizes;
      places = a.places;
      clock = a.clock;
      wall = a.wall;
      settled = refl;
      found = a.found;
      line = a.line;
      course = data_course s asdu Own s.moment w a.course;
      talk = talk;
      stands = record {
        does = same_does phase (latest log) _ _ w (serial.answered s.serial) room
            (ap serial.answered a.stands.does
            ∙ sym (own_serial a.course.works asdu oldest phase (latest log)
            (room_in p log a.course)));
        asks = same_asks phase (latest log) _ _ w room
            (asked_own a.course.works asdu oldest phase (latest log) (room_in p log a.course)
            a.stands.asks);
        phase_is = phase_out phase log s.moment _ flushing (ends_in p s log unjudged phase a)
            a.stands.phase_is;
        placed = placed_on phase log _ _ _ (λ o. o) (own_placed a.course.works asdu oldest)
            a.stands.placed;
        answered = answered_out p phase log _ a.course _ (next_frame s.centre.session asdu) s.moment
            flushing a.talk.timely.patient refl a.clock
            (ap (λ (c : Course). c.talk) (sym (data_own s asdu s.moment a.course none)))
            a.stands.answered;
      };
      gaps = a.gaps;
      plain = fewer_plain s.serial.commands.answers a.plain;
      here = went_out s.centre (own_sent s).centre (present log) unjudged (here_of a.course)
          (a.course.sent ++ f ∷ [])
          (next_frame s.centre.session asdu) a.here fits on refl refl refl
          (ap (λ xs. xs ++ f ∷ []) a.here.sent)
          (omega (arith, length-append a.course.sent (f ∷ [])))
          (tied_own f s.moment (here_of a.course) s.centre.session s.centre.queue.sent a.here.tied
          may none)
          (numbered_more 0 a.course.sent f (a.here.tied.next
          ∙ ap (λ n. n % 32768) (sym (zero-add (length a.course.sent)))) a.here.numbered);
      left = left_out phase log s.moment _ _ unjudged a.left;
      carries = carries_own (taken_objects p log) (parts_of_all p.sizes (reports_in p log))
          (taken_pieces p log) a.course.earlier
          a.course.sent s.centre.queue.unsent f none a.carries;
      before = past_put p log a.course.earlier s.moment (next_frame s.centre.session asdu) a.clock
          a.settled
          (sym a.here.link ∙ on) fits (kept_talk p _ _ _ talk) a.before;
    }

-- A call of the session leads from this session to that, and this frame goes out.
pub record GoesOut (s t : Session) (moment : ℕ) (f : Apdu) : Type 0 where
  pub call : Call
  pub made : (h : History) → after_call call (at s h) ≡ at t (logged_sent f moment h)

-- the course once a frame without ASDU has gone out
abbrev due_course : Apdu → (moment : ℕ) → Course → Course
due_course f moment c = record {
  talk = talk.Went f moment ∷ c.talk;
  sent = c.sent;
  earlier = c.earlier;
  works =
      c.works;
}

due_same : (f : Apdu) (moment : ℕ) (c : Course) → HasNoData f → with_sent f moment c
    ≡ due_course f moment c
due_same (I ns nr asdu) moment c none = let no : data_frames (I ns nr asdu ∷ []) ≡ [] = none [] in
    cc
due_same (S nr) moment c none = refl
due_same (U u) moment c none = refl

pub after_due : (p : Setup) (s : State) (t : Session) (log : Log) (unjudged : List ℕ) (f : Apdu)
    (phase : Phase)
    (a : Agrees p s log unjudged phase) → IsFlushing phase
    → (talk.confirmation_of a.course.talk ≡ Some f) ⊎ ((talk.confirmation_of a.course.talk ≡ None)
    × IsFlushed p log a.course × HasBegun log a.course) → session.is_open s.centre.session ≡ true
    → Fits f
    → HasNoData f → GoesOut s.centre.session t s.moment f → SameWindow s.centre.session t →
    Agrees p (with_session t s) (Went s.moment (TcpOut (spelling f)) ∷ log) unjudged phase
after_due p s t log unjudged f phase a flushing next on fits none goes same = record {
  k = same.same_k ∙ a.k;
  sizes = a.sizes;
  places = a.places;
  clock = a.clock;
  wall = a.wall;
  settled = refl;
  found = a.found;
  line = a.line;
  course = due_course f s.moment a.course;
  talk = talk_due;
  stands = record {
    does = a.stands.does;
    asks = a.stands.asks;
    phase_is =
        phase_out phase log s.moment _ flushing (ends_in p s log unjudged phase a)
        a.stands.phase_is;
    placed =
        placed_on phase log _ _ _ (λ o. o) refl a.stands.placed;
    answered = answered_out p phase log _ a.course _ f s.moment flushing a.talk.timely.patient refl
        a.clock (ap (λ (c : Course). c.talk) (sym (due_same f s.moment a.course none)))
        a.stands.answered;
  };
  gaps = a.gaps;
  plain = a.plain;
  here = went_out s.centre (with_session t s).centre (present log) unjudged
      (here_of a.course) a.course.sent f a.here fits on same.same_connected refl refl (a.here.sent
      ∙ sym (none a.here.put)) (omega arith)
      (tied_same (here_of a.course) s.centre.session t s.centre.queue.sent same a.here.tied)
      a.here.numbered;
  left = left_out phase log s.moment _ _ unjudged a.left;
  carries = a.carries;
  before = past_put p log a.course.earlier s.moment f a.clock a.settled (sym a.here.link
      ∙ on) fits (kept_talk p _ _ _ talk_due) a.before;
}
  where
    talk_due : Talks p t (Went s.moment (TcpOut (spelling f)) ∷ log)
        (due_course f s.moment a.course)
    talk_due = subst (Talks p t (Went s.moment (TcpOut (spelling f)) ∷ log))
        (due_same f s.moment a.course none)
        (talk_out p s.centre.session t log a.course s.moment s.moment f goes.call a.talk fits
        a.clock
        (next_plain p log a.course f none next) (placed_in phase log _ flushing a.stands.placed
        (sym a.here.link
        ∙ on)) (turn_by p s log unjudged phase a flushing) (goes.made a.course.talk)
        (a.here.so_far ++ unjudged, a.here.joined))
