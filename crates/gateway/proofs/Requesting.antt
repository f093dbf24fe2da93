-- A request is asked for: the lemmas in the form that answers cite.
use Rattle.std.proofs.Common.{◌≡◌, ℕ, ◌≤◌, Bool, true, false, List, [], ◌∷◌, ◌++◌, refl}
use Rattle.std.proofs.Common.{ap, sym, ◌∙◌, subst, arith, Option, Some, None}
use Rattle.std.specs.Prelude.{IfSome, is_some, if◌then◌else◌, option_map}
use Rattle.std.proofs.lemmas.List.{append-nil}
use Rattle.link.specs.declared.turn.Chosen.{Chosen}
use Rattle.link.specs.Turns.{CommandsWaiting}
use Rattle.link.specs.Runs.{AreUserData, FitsLine}
use Rattle.link.specs.Exchanges.{Sending, begun_by}
use Rattle.link.specs.Primary.{Primary, Outstanding, asked, asked_from, after_choice, choice}
use Rattle.link.specs.Primary.{sending_from, sending_by, request_of}
use Rattle.link.specs.declared.request.Request.{Request}
use Rattle.link.specs.Matching.{Matches}
use Rattle.events.specs.Queue.{free_places}
use Rattle.session.specs.Ends.{IsInTime}
use Rattle.session.specs.History.{has_timed_out}
use Rattle.gateway.proofs.Talking.{kept_talk, talk_on, all_taken, late_by}
use Rattle.gateway.specs.Log.{Log, Went, LineOut, latest, with_news}
use Rattle.gateway.specs.Frames.{AreInOrder}
use Rattle.gateway.specs.Reports.{Setup, sending_in, exchanges_of, taken_objects, taken_pieces}
use Rattle.gateway.specs.Reports.{reports_in, parts_of_all}
use Rattle.link.specs.Leave.{is_poll_request}
use Rattle.gateway.specs.Gaps.{gaps_reported, gap_for, ReportsGaps}
use Rattle.gateway.specs.Polls.{has_room}
use Rattle.gateway.specs.Serial as serial
use Rattle.gateway.specs.Serial.{Serial, waiting_in, next_request, is_first_command, put_on_line}
use Rattle.gateway.specs.Works.{Works, settled_works, unasked_works, asked_works}
use Rattle.gateway.specs.Course.{Course, room_in, with_works, NoAnswerLate, Runs}
use Rattle.gateway.specs.Phases.{Timed, Asked, IsOut}
use Rattle.link.specs.LineLaws.{LineLaws}
use Rattle.gateway.specs.Traffic.{IsFaithful}
use Rattle.gateway.specs.State.{State, with_serial, after_request as after_next}
use Rattle.gateway.specs.Agrees.{Talks, Agrees, ArePlain, Tracks, Leaves, Carries}
use Rattle.gateway.proofs.Alike.{asked_serial}
use Rattle.gateway.proofs.Working.{gap_in, settled_placed, put_placed}
use Rattle.gateway.proofs.Lending.{are_user_data}
use Rattle.gateway.proofs.Closing.{stands_now}
use Rattle.gateway.proofs.Agreement.{has_room_left, same_room}
use Rattle.gateway.proofs.Put.{logged_faithful}
use Rattle.gateway.proofs.Stations.{octets_of, taken_grows, pieces_grow, parts_grow, after_request}

module _ (laws : LineLaws) (p : Setup) (s : State) (log : Log) (a : Agrees p s log [] Timed)
    (no_gap : s.serial.gap ≡ None) (early : IsInTime s.moment s.centre.session) where
  abbrev at : ℕ
  at = latest log

  abbrev w : Works
  w = a.course.works

  -- what comes before the request
  abbrev ready : Works
  ready = settled_works at w

  abbrev q : Primary
  q = s.serial.line

  abbrev may : Bool
  may = has_room s.centre.queue

  abbrev waiting : CommandsWaiting
  waiting = waiting_in s.serial.commands

  -- each gap is reported
  none_left : w.serial.gap ≡ None
  none_left = sym (gap_in Timed at (room_in p log a.course) w)
      ∙ ap (λ (z : Serial). z.gap) (sym a.stands.does) ∙ no_gap

  all_logged : ReportsGaps p log
  all_logged i = sym (append-nil (gaps_reported i log))
      ∙ ap (λ g. gaps_reported i log ++ gap_for i g) (sym no_gap) ∙ a.gaps i

  -- no answer is late
  in_time : NoAnswerLate p log a.course
  in_time = subst (λ m. has_timed_out p.session.t1 m a.course.talk ≡ false) a.clock
      (sym (late_by p s.centre.session log a.course a.talk s.moment) ∙ early)

  room : room_in p log a.course ≡ may
  room = same_room p s log [] Timed a

  same_next : (x : Option Sending) → next_request may s.serial ≡ x
      → next_request (room_in p log a.course) ready.serial ≡ x
  same_next x h = ap (λ b. next_request b ready.serial) room
      ∙ ap (next_request may) (sym a.stands.does) ∙ h

  same_asked : (x : Option Sending) → (after_next s x).serial
      ≡ serial.asked at (room_in p log a.course) x ready.serial
  same_asked x = ap (λ m. serial.asked m may x s.serial) a.clock
      ∙ ap (λ b. serial.asked at b x s.serial) (sym room)
      ∙ ap (serial.asked at (room_in p log a.course) x) a.stands.does

  -- what goes out fits the line
  fits_line : FitsLine q may waiting
  fits_line = laws.carried p.link p.addresses q (exchanges_of p log) may waiting
      (subst (λ (z : Serial). AreUserData p.link.size (waiting_in z.commands)) (sym a.stands.does)
      (are_user_data a.talk.command_laws.mirrored_waits p log a.course a.talk.course_runs at))
      a.line

  is_out : (x : Sending) → next_request may s.serial ≡ Some x
      → IsOut (asked q s.moment may waiting).outstanding
  is_out x next = by_outstanding q.outstanding next
    where
      by_choice : (c : Option Chosen) → sending_by c ≡ Some x
          → IsOut (after_choice q s.moment c).outstanding
      by_choice None h = cc
      by_choice (Some c) h = tt

      by_outstanding : (o : Option Outstanding) → sending_from q o may waiting ≡ Some x
          → IsOut (asked_from q o s.moment may waiting).outstanding
      by_outstanding None h = by_choice (choice q may waiting) h
      by_outstanding (Some o) h = cc

  pub after_asked : (x : Sending) → next_request may s.serial ≡ Some x
      → (is_poll_request x.request ≡ true → 3 ≤ free_places s.centre.queue)
      → Agrees p (after_next s (Some x)) (Went s.moment (LineOut (octets_of p x)) ∷ log) [] Asked
  after_asked x next poll =
      let new : Log = Went s.moment (LineOut (octets_of p x)) ∷ log in
      let goes = after_request laws p q log s.moment may waiting x fits_line a.found a.line next in
      let fits = laws.fit p.link p.addresses q (exchanges_of p log) may waiting x fits_line a.line
      next in
      let same : taken_objects p new ≡ taken_objects p log = taken_grows p log new [] goes.reported
      ∙ append-nil (taken_objects p log) in
      let parts : parts_of_all p.sizes (reports_in p new)
      ≡ parts_of_all p.sizes (reports_in p log) =
      omega (arith, parts_grow p log new [] goes.reported) in
      let all : taken_pieces p new ≡ taken_pieces p log = pieces_grow p log new [] goes.reported
      ∙ append-nil (taken_pieces p log) in
      let d : Course = with_works (asked_works at (room_in p log a.course) x ready) a.course in
      let course_runs : Runs p new d = (
        a.course,
        a.talk.course_runs,
        record {
          all = all_taken log a.course a.here.so_far a.here.joined a.here.waits;
          answered = a.stands.answered;
          in_time = in_time;
          placed = a.stands.placed;
          due = a.stands.asks;
          logged = none_left;
          request = x;
          next = same_next (Some x) next;
          spelled_so = refl;
          is = refl;
        },
      ) in
      let talk : Talks p s.centre.session new d =
      talk_on p s.centre.session s.centre.session log new a.course d a.talk refl refl course_runs in
      record {
        k = a.k;
        sizes = a.sizes;
        places = a.places;
        clock = a.clock;
        wall = a.wall;
        settled = refl;
        found = a.found;
        line = goes.matches;
        course = d;
        talk = talk;
        stands = record {
          does = same_asked (Some x)
              ∙ sym (asked_serial at (room_in p log a.course) x ready);
          asks = (
            λ due. cc,
            λ none. subst (λ (z : Serial). IsOut z.line.outstanding) (same_asked (Some x))
                (is_out x next),
            gap_in Timed at (room_in p log a.course) w ∙ none_left,
          );
          phase_is = tt;
          placed = λ o. put_placed (is_first_command ready.serial.line x) x.station ready
              ∙ settled_placed at w
              ∙ a.stands.placed o;
          answered = in_time;
        };
        gaps = λ i. a.gaps i
            ∙ sym (laws.next_gaps p.link.size p.addresses s.moment (sending_in p (octets_of p x))
            (exchanges_of p log) i);
        plain = subst ArePlain (sym (put_answers (is_first_command q x))) a.plain;
        here = a.here;
        left = refl;
        carries =
            subst (λ objs. Carries objs (parts_of_all p.sizes (reports_in p new))
            (taken_pieces p new)
            a.course.earlier a.course.sent s.centre.queue.unsent) (sym same)
            (subst (λ n. Carries (taken_objects p log) n (taken_pieces p new) a.course.earlier
            a.course.sent
            s.centre.queue.unsent) (sym parts)
            (subst (λ ps. Carries (taken_objects p log) (parts_of_all p.sizes (reports_in p log)) ps
            a.course.earlier
            a.course.sent s.centre.queue.unsent) (sym all) a.carries));
        before = record {
          are = a.before.are;
          orders = subst (λ objs. AreInOrder objs a.course.earlier) (sym same) a.before.orders;
          times = (kept_talk p _ _ _ talk, a.before.times);
          acts = (
            record {
              moment = a.clock;
              replaced = sym a.settled;
              early = a.stands.phase_is;
              may = record {
                station = x.station;
                within = fits.station;
                request = x.request;
                spelled = refl;
                logged = all_logged;
                alone = λ z. laws.alone p.link p.addresses q
                    (exchanges_of p log) may waiting x z.exchange a.line next z.latest_is z.waits;
                room = λ polls. record {
                  course = a.course;
                  runs = a.talk.course_runs;
                  are = record { open_one = stands_now p s log Timed a; earlier = a.before.are };
                  room = has_room_left p s log [] Timed a (poll polls);
                };
              };
            },
            a.before.acts,
          );
          rests = a.before.rests;
        };
      }
    where
      put_answers : (b : Bool) → (put_on_line b x.station s.serial.commands).answers
          ≡ s.serial.commands.answers
      put_answers true = a.talk.command_laws.sent_answers x.station s.serial.commands
      put_answers false = refl

  -- no request is left
  pub none_asked : next_request may s.serial ≡ None → Agrees p (after_next s None) log [] Asked
  none_asked none = record {
    k = a.k;
    sizes = a.sizes;
    places = a.places;
    clock = a.clock;
    wall = a.wall;
    settled = a.settled;
    found = a.found;
    line = subst (λ o. Matches p.link p.addresses (asked q s.moment may waiting)
        (begun_by s.moment o (exchanges_of p log))) none
        (laws.next p.link p.addresses q (exchanges_of p log) s.moment may waiting fits_line a.line);
    course = a.course;
    talk = a.talk;
    stands = record {
      does = subst (λ b. (after_next s None).serial ≡
          (if b then unasked_works at (room_in p log a.course) ready else w).serial)
          (sym a.stands.asks)
          (same_asked None);
      asks = (
        λ due. same_next None none,
        λ off. let no : false ≡ true = sym off ∙ a.stands.asks in
            cc,
        none_left,
      );
      phase_is = tt;
      placed = a.stands.placed;
      answered = in_time;
    };
    gaps = a.gaps;
    plain = a.plain;
    here = a.here;
    left = refl;
    carries = a.carries;
    before = a.before;
  }

-- the same for a port that may give no log

pub asked_none : (laws : LineLaws) (p : Setup) (logged : Option Log) (s t : State)
    → s.serial.gap ≡ None → IsInTime s.moment s.centre.session
    → next_request (has_room s.centre.queue) s.serial ≡ None → t ≡ after_next s None
    → Tracks p s logged [] Timed → Tracks p t logged [] Asked
asked_none laws p None s t no_gap early none is h = tt
asked_none laws p (Some log) s t no_gap early none is a =
    subst (λ x. Agrees p x log [] Asked) (sym is) (none_asked laws p s log a no_gap early none)

logged_asked : (laws : LineLaws) (p : Setup) (logged after : Option Log) (s t : State)
    (x : Sending) (octets : List ℕ) (now : ℕ)
    → s.serial.gap ≡ None → IsInTime s.moment s.centre.session
    → next_request (has_room s.centre.queue) s.serial ≡ Some x
    → (is_poll_request x.request ≡ true → 3 ≤ free_places s.centre.queue)
    → octets ≡ (request_of s.serial.line x).octets.items → now ≡ s.moment
    → t ≡ after_next s (Some x) → after ≡ with_news logged (Went now (LineOut octets) ∷ [])
    → Tracks p s logged [] Timed → Tracks p t after [] Asked
logged_asked laws p logged after s t x octets now no_gap early next poll spelled same is e h =
    rw (e, same, is) (by_log logged h)
  where
    by_log : (logged : Option Log) → Tracks p s logged [] Timed
        → Tracks p (after_next s (Some x)) (with_news logged (Went s.moment (LineOut octets) ∷ []))
        [] Asked
    by_log None h = tt
    by_log (Some log) a =
        let written : octets ≡ octets_of p x = spelled
        ∙ laws.spelled p.link p.addresses s.serial.line (exchanges_of p log) x a.line in
        subst (λ o. Agrees p (after_next s (Some x)) (Went s.moment (LineOut o) ∷ log) [] Asked)
        (sym written) (after_asked laws p s log a no_gap early x next poll)

pub asked_leaves : (laws : LineLaws) (result : Bool) (p : Setup) (logged after : Option Log)
    (s t : State) (x : Sending) (octets : List ℕ) (now : ℕ)
    → s.serial.gap ≡ None → IsInTime s.moment s.centre.session
    → next_request (has_room s.centre.queue) s.serial ≡ Some x
    → (is_poll_request x.request ≡ true → 3 ≤ free_places s.centre.queue)
    → octets ≡ (request_of s.serial.line x).octets.items → now ≡ s.moment
    → t ≡ after_next s (Some x) → after
    ≡ (if result then with_news logged (Went now (LineOut octets) ∷ []) else logged)
    → Tracks p s logged [] Timed
    → Leaves result p t after [] Asked
asked_leaves laws true p logged after s t x octets now no_gap early next poll spelled same is e h =
    logged_asked laws p logged after s t x octets now no_gap early next poll spelled same is e h
asked_leaves laws false p logged after s t x octets now no_gap early next poll spelled same is e h =
    subst (λ l. IfSome l (IsFaithful p)) (sym e) (logged_faithful p logged s [] Timed h)

-- what a request says of what is next
pub next_is : (q : Primary) (o : Option Sending) (r : Request)
    → Some r ≡ option_map (request_of q) o
    → (x : Sending) × (o ≡ Some x) × (r ≡ request_of q x)
next_is q None r e = cc
next_is q (Some x) r e = (x, refl, (let same : r ≡ request_of q x = cc in same))

pub none_is : (q : Primary) (o : Option Sending) → None ≡ option_map (request_of q) o → o ≡ None
none_is q None e = refl
none_is q (Some x) e = cc

-- while a request is outstanding there is no next one, and asking for it changes nothing
pub awaiting_none : (s : Serial) (room : Bool) → is_some s.line.outstanding ≡ true
    → next_request room s ≡ None
awaiting_none s room e = go s.line.outstanding e
  where
    go : (o : Option Outstanding) → is_some o ≡ true
        → sending_from s.line o room (waiting_in s.commands) ≡ None
    go (Some o) e = refl
    go None e = cc

awaiting_asked : (q : Primary) (at : ℕ) (room : Bool) (waiting : CommandsWaiting)
    → is_some q.outstanding ≡ true → asked q at room waiting ≡ q
awaiting_asked q at room waiting e = go q.outstanding e
  where
    go : (o : Option Outstanding) → is_some o ≡ true → asked_from q o at room waiting ≡ q
    go (Some o) e = refl
    go None e = cc

pub awaiting_same : (r : State) → is_some r.serial.line.outstanding ≡ true → r ≡ after_next r None
awaiting_same r e = sym (ap (λ (q : Primary). with_serial (record r.serial { line = q }) r)
    (awaiting_asked r.serial.line r.moment (has_room r.centre.queue)
    (waiting_in r.serial.commands) e))
