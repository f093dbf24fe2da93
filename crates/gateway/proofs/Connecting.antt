-- What an event makes of the connection: it goes on, is over, or another one begins.
use Rattle.std.proofs.Common.{◌≡◌, ℕ, ◌+◌, ◌<◌, Bool, true, false, List, [], ◌∷◌, ◌++◌, length}
use Rattle.std.proofs.Common.{Option, None, refl, sym, ap, subst, ◌∙◌, append_assoc, arith, inl}
use Rattle.std.proofs.Common.{length-append}
use Rattle.std.specs.Prelude.{if◌then◌else◌}
use Rattle.std.proofs.lemmas.List.{append-nil}
use Rattle.session.specs.declared.kinds.Close.TheVariants.{Replaced}
use Rattle.session.specs.Session as session
use Rattle.events.specs.Queue as queue
use Rattle.gateway.specs.Log.{Log, Input, Opened, TcpIn, CutOff, Came, Went, Closed, latest}
use Rattle.gateway.specs.Streams.{spelled}
use Rattle.gateway.specs.Frames.{Sent, Connection, new_connection, AreInOrder}
use Rattle.gateway.specs.Behind.{GoesBehindFrames}
use Rattle.gateway.specs.Connections.{is_replaced, Channel, no_channel, new_channel, receiving}
use Rattle.gateway.specs.Connections.{present, past, AreConnections}
use Rattle.gateway.specs.Reports.{Setup, taken_objects, taken_pieces, reports_in}
use Rattle.gateway.specs.Reports.{parts_of_all}
use Rattle.gateway.specs.Traffic.{HasRested, IsFaithful}
use Rattle.gateway.specs.declared.walls.Wall.{Wall}
use Rattle.gateway.specs.Walls.{last_wall}
use Rattle.gateway.specs.Serial as serial
use Rattle.gateway.specs.Centre.{Centre}
use Rattle.gateway.specs.State.{State, disconnected, connected}
use Rattle.gateway.specs.Works.{Works, has_lacked_place, begun_works}
use Rattle.gateway.specs.Course.{Course, came_frames, here_of, IsUntouched, TakesFrames}
use Rattle.gateway.specs.Course.{HasTakenAll}
use Rattle.gateway.specs.Course.{ended_course, opened_course, with_works, Comes, Runs}
use Rattle.gateway.specs.Phases.{Idle, Taking, resting, IsLeftIn, after_line}
use Rattle.gateway.specs.Agrees.{IsAt, Presently, Carries, Talks, Agrees}
use Rattle.gateway.proofs.Talking.{kept_talk, talk_on, talk_cut, talk_open, all_taken}
use Rattle.gateway.proofs.Objects.{orders_grow, carries_more}
use Rattle.gateway.proofs.Closing.{Ended, ended, fresh, stands_now}
use Rattle.gateway.proofs.Agreement.{in_order}
use Rattle.gateway.proofs.Stations.{keeps_links}
use Rattle.gateway.proofs.Learning.{left_of, is_left}
use Rattle.gateway.proofs.Come.{kept, Worked, Received, received_sent, received_unsent}
use Rattle.gateway.proofs.Come.{placed_before}

-- The connection's part

-- the pieces kept are carried
carried : (p : Setup) (s t : State) (old : Log) (now : ℕ) (event : Input) (left : Course)
    (fits : Bool)
    (earlier : List Connection) (sent : List Sent) → Received p s t old now event left fits
    → Carries (taken_objects p old) (parts_of_all p.sizes (reports_in p old)) (taken_pieces p old)
    earlier sent
    s.centre.queue.unsent →
    Carries (taken_objects p (Came now event ∷ old))
    (parts_of_all p.sizes (reports_in p (Came now event ∷ old)))
    (taken_pieces p (Came now event ∷ old)) earlier sent t.centre.queue.unsent
carried p s t old now event left fits earlier sent h c =
    subst (λ objs. Carries objs (parts_of_all p.sizes (reports_in p (Came now event ∷ old)))
    (taken_pieces p (Came now event ∷ old)) earlier sent t.centre.queue.unsent) (sym h.taken)
    (subst (λ n. Carries (taken_objects p old ++ h.more) n (taken_pieces p (Came now event ∷ old))
    earlier sent
    t.centre.queue.unsent) (sym h.parts)
    (subst (λ all. Carries (taken_objects p old ++ h.more)
    (parts_of_all p.sizes (reports_in p old) + length h.pieces) all earlier sent
    t.centre.queue.unsent) (sym h.spelled)
    (subst (λ u. Carries (taken_objects p old ++ h.more)
    (parts_of_all p.sizes (reports_in p old) + length h.pieces) (taken_pieces p old ++ h.pieces)
    earlier sent u)
    (sym (received_unsent p s t old now event left fits h))
    (carries_more (taken_objects p old) h.more (parts_of_all p.sizes (reports_in p old))
    (taken_pieces p old) earlier
    sent s.centre.queue.unsent h.pieces h.objects_are h.whole c))))

-- the connection goes on as it was
goes_on : (p : Setup) (s t : State) (old : Log) (now : ℕ) (event : Input) (left : Course)
    (fits : Bool)
    (octets : Channel) (unjudged : List ℕ) (c : Connection) → Received p s t old now event left fits
    → Presently s.centre octets unjudged c → Presently t.centre octets unjudged c
goes_on p s t old now event left fits octets unjudged c h w =
    subst (λ x. Presently x octets unjudged c) (sym h.centre) (record {
      link = w.link;
      none = w.none;
      put = w.put;
      handed = w.handed;
      sent = w.sent;
      so_far = w.so_far;
      assembler = w.assembler;
      taken = w.taken;
      waits = w.waits;
      joined = w.joined;
      fit = w.fit;
      pass = w.pass;
      tied = w.tied;
      numbered = w.numbered;
    })

-- an event of the line, or of time alone
abbrev pub IsAside : ℕ → Input → Log → Type 0
IsAside now event log = (present (Came now event ∷ log) ≡ present log)
    × (past (Came now event ∷ log) ≡ past log)
    × (is_replaced (Came now event ∷ log) ≡ false)

-- the course goes on with these works
abbrev GoesOn : ℕ → Input → Log → Type 0
GoesOn now event log = (p : Setup) (c : Course) (z : Works)
    → Worked p log (latest (Came now event ∷ log)) event c z
    → Comes p log (latest (Came now event ∷ log)) event c (with_works z c)

-- the works after such an event, by whether what it brought of own answers found places
other_stands : (p : Setup) (t : State) (new : Log) (d : Course) (kept : Bool)
    → t.serial ≡ d.works.serial
    → d.works.is_due ≡ true → (kept ≡ true → (present new).is_open ≡ true
    → has_lacked_place d.works.history ≡ false) → GoesBehindFrames new → IsUntouched new d
    → IsAt p new (after_line kept) t d
other_stands p t new d true does due placed early none = record {
  does = does;
  asks = due;
  phase_is = early;
  placed = placed refl;
  answered = inl none;
}
other_stands p t new d false does due placed early none = record {
  does = does;
  asks = due;
  phase_is = early;
  placed = tt;
  answered = tt;
}

-- the line leaves nothing of the connection's octets
line_left : (kept : Bool) (log : Log) (so_far : List ℕ) → IsLeftIn (after_line kept) log so_far []
line_left true log so_far = refl
line_left false log so_far = tt

-- the connection is open when own answers count
abbrev pub Counts : Bool → Bool → Log → Type 0
Counts kept fits log = kept ≡ true → (present log).is_open ≡ true → fits ≡ true

-- with what the wall clock showed last
abbrev pub walled : Option Wall → State → State
walled wall t = record t { wall = wall }

pub come_other : (p : Setup) (s t : State) (log : Log) (now : ℕ) (event : Input) (fits kept : Bool)
    (wall : Option Wall) → wall ≡ last_wall (Came now event ∷ log) → Counts kept fits log
    → IsAside now event log
    → GoesOn now event log → HasRested p log → (a : Agrees p s log [] (resting log))
    → (h : Received p s t log now event (left_of p log a.course) fits) →
    Agrees p (walled wall t) (Came now event ∷ log) [] (after_line kept)
come_other p s t log now event fits kept wall shows counts aside on rest a h =
    let new : Log = Came now event ∷ log in
    let left : Course = left_of p log a.course in
    let d : Course = with_works h.z left in
    let course_runs : Runs p new d = (
      a.course,
      left,
      a.talk.course_runs,
      all_taken log a.course a.here.so_far a.here.joined a.here.waits,
      is_left p s log a,
      on p left h.z h.worked,
    ) in
    let talk : Talks p t.centre.session new d = talk_on p s.centre.session t.centre.session log new
    a.course d a.talk
    (ap (λ (c : Centre). c.session) h.centre) refl course_runs in
    record {
      k = ap (λ (c : Centre). c.session.k) h.centre ∙ a.k;
      sizes = h.sizes ∙ a.sizes;
      places = ap (λ (c : Centre). c.queue.places) h.centre ∙ a.places;
      clock = h.clock;
      wall = shows;
      settled = aside.2;
      found = a.found;
      line = h.line;
      course = d;
      talk = talk;
      stands = other_stands p (walled wall t) new d kept h.does h.due
          (λ yes o. let was : (present log).is_open ≡ true =
          ap (λ (x : Channel). x.is_open) (sym aside.0) ∙ o in
          h.placed (counts yes was) ∙ placed_before p s log a was)
          tt
          (omega (
            arith,
            ap length a.here.joined,
            length-append (spelled (came_frames a.course.talk)) (a.here.so_far ++ []),
          ));
      gaps = h.gaps;
      plain = h.plain;
      here = subst (λ x. Presently t.centre x [] (here_of a.course)) (sym aside.0)
          (goes_on p s t log now event left fits (present log) [] (here_of a.course) h a.here);
      left = line_left kept new _;
      carries = carried p s t log now event left fits a.course.earlier a.course.sent h a.carries;
      before = record {
        are = subst (λ cs. AreConnections cs a.course.earlier) (sym aside.1) a.before.are;
        orders = subst (λ objs. AreInOrder objs a.course.earlier) (sym h.taken)
            (orders_grow (taken_objects p log) h.more a.course.earlier a.before.orders);
        times = (kept_talk p _ _ _ talk, a.before.times);
        acts = a.before.acts;
        rests = (rest, a.before.rests);
      };
    }

-- with these works
pub come_course : (p : Setup) (s t : State) (log : Log) (now : ℕ) (event : Input) (fits kept : Bool)
    (wall : Option Wall) (shows : wall ≡ last_wall (Came now event ∷ log))
    (counts : Counts kept fits log)
    (aside : IsAside now event log) (on : GoesOn now event log) (rest : HasRested p log)
    (a : Agrees p s log [] (resting log))
    → (h : Received p s t log now event (left_of p log a.course) fits) →
    (come_other p s t log now event fits kept wall shows counts aside on rest a h).course
    ≡ with_works h.z (left_of p log a.course)
unfolding come_other
come_course p s t log now event fits kept wall shows counts aside on rest a h = refl

-- what the ended connection leaves in the queue, with the pieces kept since
left_over : (p : Setup) (s t : State) (log : Log) (now : ℕ) (event : Input) (left : Course)
    (fits : Bool)
    (earlier : List Connection) → Received p s t log now event left fits
    → Carries (taken_objects p log) (parts_of_all p.sizes (reports_in p log)) (taken_pieces p log)
    earlier []
    (queue.rewound s.centre.queue).unsent →
    Carries (taken_objects p (Came now event ∷ log))
    (parts_of_all p.sizes (reports_in p (Came now event ∷ log)))
    (taken_pieces p (Came now event ∷ log)) earlier [] (queue.rewound t.centre.queue).unsent
left_over p s t log now event left fits earlier h c =
    let all : (queue.rewound t.centre.queue).unsent ≡ (queue.rewound s.centre.queue).unsent
    ++ h.pieces =
    ap (λ q. q ++ t.centre.queue.unsent) (received_sent p s t log now event left fits h)
    ∙ ap (λ u. s.centre.queue.sent ++ u) (received_unsent p s t log now event left fits h)
    ∙ sym (append_assoc s.centre.queue.sent s.centre.queue.unsent h.pieces) in
    subst (λ objs. Carries objs (parts_of_all p.sizes (reports_in p (Came now event ∷ log)))
    (taken_pieces p (Came now event ∷ log)) earlier [] (queue.rewound t.centre.queue).unsent)
    (sym h.taken)
    (subst (λ n. Carries (taken_objects p log ++ h.more) n (taken_pieces p (Came now event ∷ log))
    earlier []
    (queue.rewound t.centre.queue).unsent) (sym h.parts)
    (subst (λ ps. Carries (taken_objects p log ++ h.more)
    (parts_of_all p.sizes (reports_in p log) + length h.pieces) ps earlier []
    (queue.rewound t.centre.queue).unsent)
    (sym h.spelled)
    (subst (λ u. Carries (taken_objects p log ++ h.more)
    (parts_of_all p.sizes (reports_in p log) + length h.pieces) (taken_pieces p log ++ h.pieces)
    earlier [] u) (sym all)
    (carries_more (taken_objects p log) h.more (parts_of_all p.sizes (reports_in p log))
    (taken_pieces p log) earlier []
    (queue.rewound s.centre.queue).unsent h.pieces h.objects_are h.whole c))))

-- The open connection, if any, is over by an event that the line's part leaves alone.
module _ (p : Setup) (s t : State) (log : Log) (now : ℕ) (event : Input)
    (fits : Bool)
    (rest : HasRested p log) (a : Agrees p s log [] (resting log))
    (h : Received p s t log now event (left_of p log a.course) fits) where
  abbrev left : Course
  left = left_of p log a.course

  -- the course without a connection
  abbrev over_course : Course
  over_course = ended_course (present log).is_open h.z left

  over_ended : Ended p s log a.course (present log)
  over_ended = ended p s log [] (resting log) a (present log) None refl
      (stands_now p s log (resting log) a)

  over_orders : AreInOrder (taken_objects p (Came now event ∷ log)) over_course.earlier
  over_orders = subst (λ objs. AreInOrder objs over_course.earlier) (sym h.taken)
      (orders_grow (taken_objects p log) h.more over_course.earlier over_ended.orders)

  over_carries : Carries (taken_objects p (Came now event ∷ log))
      (parts_of_all p.sizes (reports_in p (Came now event ∷ log)))
      (taken_pieces p (Came now event ∷ log))
      over_course.earlier []
      (queue.rewound t.centre.queue).unsent
  over_carries = left_over p s t log now event left fits over_course.earlier h over_ended.carries

  small : t.centre.session.k < 32768
  small = subst (λ (c : Centre). c.session.k < 32768) (sym h.centre) a.here.tied.small

  all_came : HasTakenAll (present log) a.course.talk
  all_came = all_taken log a.course a.here.so_far a.here.joined a.here.waits

pub come_cut : (p : Setup) (s t : State) (log : Log) (now : ℕ) (fits : Bool)
    → HasRested p log
    → (a : Agrees p s log [] (resting log))
    → (h : Received p s t log now CutOff (left_of p log a.course) fits)
    → Agrees p (disconnected t) (Came now CutOff ∷ log) [] Idle
come_cut p s t log now fits rest a h =
    let new : Log = Came now CutOff ∷ log in
    let d : Course = over_course p s t log now CutOff fits rest a h in
    let same : ended_course (present log).is_open
    (begun_works (latest new) (left_of p log a.course).works)
    (left_of p log a.course) ≡ d =
    ap (λ z. ended_course (present log).is_open z (left_of p log a.course))
    (sym h.worked) in
    let runs : Runs p new d = (
      a.course,
      left_of p log a.course,
      a.talk.course_runs,
      all_came p s t log now CutOff fits rest a h,
      is_left p s log a,
      sym same,
    ) in
    let talk : Talks p (session.closed t.centre.session) new d =
    talk_cut p s.centre.session t.centre.session log new a.course d a.talk
    (ap (λ (c : Centre). c.session) h.centre) refl runs in
    record {
      k = ap (λ (c : Centre). c.session.k) h.centre ∙ a.k;
      sizes = h.sizes ∙ a.sizes;
      places = ap (λ (c : Centre). c.queue.places) h.centre ∙ a.places;
      clock = h.clock;
      wall = h.wall ∙ a.wall;
      settled = refl;
      found = a.found;
      line = h.line;
      course = d;
      talk = talk;
      stands = record {
        does = ap serial.cut h.does;
        asks = h.due;
        phase_is = tt;
        placed = λ o. refl;
        answered = inl (omega arith);
      };
      gaps = h.gaps;
      plain = tt;
      here = fresh (disconnected t).centre no_channel (small p s t log now CutOff fits rest a
          h) refl
          (λ h. refl) refl refl refl refl refl refl refl refl refl;
      left = refl;
      carries = over_carries p s t log now CutOff fits rest a h;
      before = record {
        are = (over_ended p s t log now CutOff fits rest a h).are;
        orders = over_orders p s t log now CutOff fits rest a h;
        times = (kept_talk p _ _ _ talk, a.before.times);
        acts = a.before.acts;
        rests = (rest, a.before.rests);
      };
    }

-- A connection opens.

module _ (p : Setup) (s t : State) (log : Log) (now : ℕ) (fits : Bool)
    (rest : HasRested p log)
    (a : Agrees p s log [] (resting log))
    (h : Received p s t log now Opened (left_of p log a.course)
    fits) where
  abbrev opened : Course
  opened = opened_course t.moment (over_course p s t log now Opened fits rest a h)

  opened_runs : Runs p (Came now Opened ∷ log) opened
  opened_runs =
      let at : ℕ = latest (Came now Opened ∷ log) in
      let same : opened_course at
      (ended_course (present log).is_open (begun_works at (left_of p log a.course).works)
      (left_of p log a.course)) ≡ opened =
      ap (λ z. opened_course at (ended_course (present log).is_open z (left_of p log a.course)))
      (sym h.worked)
      ∙ ap (λ m. opened_course m (over_course p s t log now Opened fits rest a h))
      (sym h.clock) in (
        a.course,
        left_of p log a.course,
        a.talk.course_runs,
        all_came p s t log now Opened fits rest a h,
        is_left p s log a,
        sym same,
      )

  opened_talk : Talks p (connected (disconnected t)).centre.session (Came now Opened ∷ log) opened
  opened_talk = talk_open p s.centre.session t.centre.session log (Came now Opened
      ∷ log) a.course opened t.moment a.talk (ap (λ (c : Centre). c.session) h.centre) refl
      opened_runs

  opened_does : (connected (disconnected t)).serial ≡ opened.works.serial
  opened_does = ap serial.cut h.does

  opened_here : Presently (connected (disconnected t)).centre new_channel [] new_connection
  opened_here = fresh (connected (disconnected t)).centre new_channel
      (small p s t log now Opened fits rest a h) refl (λ h. cc) refl refl refl refl refl refl
      refl refl refl

  -- as it is once the close of the one before it, if any, has gone out
  pub come_open : session.is_open t.centre.session ≡ false
      → Agrees p (connected (disconnected t)) (Came now Opened ∷ log) [] Idle
  come_open off = record {
    k = ap (λ (c : Centre). c.session.k) h.centre ∙ a.k;
    sizes = h.sizes ∙ a.sizes;
    places = ap (λ (c : Centre). c.queue.places) h.centre ∙ a.places;
    clock = h.clock;
    wall = h.wall ∙ a.wall;
    settled = sym a.here.link ∙ sym (ap (λ (c : Centre). session.is_open c.session) h.centre) ∙ off;
    found = a.found;
    line = h.line;
    course = opened;
    talk = opened_talk;
    stands = record {
      does = opened_does;
      asks = h.due;
      phase_is = tt;
      placed = λ o. refl;
      answered = inl (omega arith);
    };
    gaps = h.gaps;
    plain = tt;
    here = opened_here;
    left = refl;
    carries = over_carries p s t log now Opened fits rest a h;
    before = record {
      are = (over_ended p s t log now Opened fits rest a h).are;
      orders = over_orders p s t log now Opened fits rest a h;
      times = (kept_talk p _ _ _ opened_talk, a.before.times);
      acts = a.before.acts;
      rests = (rest, a.before.rests);
    };
  }

  pub come_replaced : session.is_open t.centre.session ≡ true
      → Agrees p (connected (disconnected t)) (Went t.moment (Closed Replaced) ∷ Came now Opened
      ∷ log) [] Idle
  come_replaced on =
      let new : Log = Went t.moment (Closed Replaced) ∷ Came now Opened ∷ log in
      let talk : Talks p (connected (disconnected t)).centre.session new opened =
      talk_on p (connected (disconnected t)).centre.session
      (connected (disconnected t)).centre.session
      (Came now Opened ∷ log) new opened opened opened_talk refl refl (
        opened,
        opened_runs,
        refl,
        sym a.here.link ∙ sym (ap (λ (c : Centre). session.is_open c.session) h.centre) ∙ on,
        h.due,
      ) in
      let was : is_replaced (Came now Opened ∷ log) ≡ true = sym a.here.link
      ∙ sym (ap (λ (c : Centre). session.is_open c.session) h.centre) ∙ on in
      record {
        k = ap (λ (c : Centre). c.session.k) h.centre ∙ a.k;
        sizes = h.sizes ∙ a.sizes;
        places = ap (λ (c : Centre). c.queue.places) h.centre ∙ a.places;
        clock = h.clock;
        wall = h.wall ∙ a.wall;
        settled = refl;
        found = a.found;
        line = h.line;
        course = opened;
        talk = talk;
        stands = record {
          does = opened_does;
          asks = h.due;
          phase_is = tt;
          placed = λ o. refl;
          answered = inl (omega arith);
        };
        gaps = h.gaps;
        plain = tt;
        here = opened_here;
        left = refl;
        carries = over_carries p s t log now Opened fits rest a h;
        before = record {
          are = (over_ended p s t log now Opened fits rest a h).are;
          orders = over_orders p s t log now Opened fits rest a h;
          times = (kept_talk p _ _ _ talk, (kept_talk p _ _ _ opened_talk, a.before.times));
          acts = (
            record { moment = h.clock; replaced = sym was; early = tt; may = λ no'. cc },
            a.before.acts,
          );
          rests = (rest, a.before.rests);
        };
      }

  -- the log is faithful before that close has gone out, too
  pub opened_faithful : IsFaithful p (Came now Opened ∷ log)
  opened_faithful = record {
    course = opened;
    course_runs = opened_runs;
    begun = record {
      put = [];
      handed = record { joined = refl; fit = tt };
      sent = refl;
      rest = [];
      joined =
          refl;
      fit = tt;
      pass = tt;
    };
    are = (over_ended p s t log now Opened fits rest a h).are;
    orders = (
      in_order (taken_objects p (Came now Opened ∷ log))
          (parts_of_all p.sizes (reports_in p (Came now Opened ∷ log)))
          (taken_pieces p (Came now Opened ∷ log))
          new_connection opened.earlier
          (queue.rewound t.centre.queue).unsent tt (over_carries p s t log now Opened fits rest
          a h),
      over_orders p s t log now Opened fits rest a h,
    );
    links = keeps_links p t.serial.line (Came now Opened ∷ log) h.line;
    times = (kept_talk p _ _ _ opened_talk, a.before.times);
    acts = a.before.acts;
    rests = (rest, a.before.rests);
  }

-- octets of no connection count for nothing; else none is judged yet
pub come_bytes : (p : Setup) (s t : State) (log : Log) (now : ℕ) (octets : List ℕ) (fits : Bool)
    → fits ≡ true
    → HasRested p log → (a : Agrees p s log [] (resting log))
    → Received p s t log now (TcpIn octets) (left_of p log a.course) fits
    → Agrees p t (Came now (TcpIn octets) ∷ log) (if session.is_open t.centre.session then octets
    else []) Taking
come_bytes p s t log now octets fits settled_fits rest a h =
    subst (λ b. Agrees p t (Came now (TcpIn octets) ∷ log) (if b then octets else []) Taking)
    (sym (ap (λ (c : Centre). session.is_open c.session) h.centre)) (record {
      k = ap (λ (c : Centre). c.session.k) h.centre ∙ a.k;
      sizes = h.sizes ∙ a.sizes;
      places = ap (λ (c : Centre). c.queue.places) h.centre ∙ a.places;
      clock = h.clock;
      wall = h.wall ∙ a.wall;
      settled = refl;
      found = a.found;
      line = h.line;
      course = d;
      talk = talk_now;
      stands = record {
        does = h.does;
        asks = h.due;
        phase_is = (tt, tt);
        placed = λ o. h.placed settled_fits
            ∙ placed_before p s log a (sym (opens (present log)) ∙ o);
        answered = tt;
      };
      gaps = h.gaps;
      plain = h.plain;
      here = subst (λ x. Presently t.centre x more (here_of d))
          (sym (bytes_at (session.is_open s.centre.session) (present log) (sym a.here.link)))
          (record {
            link = w.link;
            none = λ off. (
              closed (session.is_open s.centre.session) (a.here.link ∙ off) (a.here.none off).0,
              (a.here.none off).1,
            );
            put = w.put;
            handed = w.handed;
            sent = w.sent;
            so_far = w.so_far;
            assembler = w.assembler;
            taken = w.taken;
            waits = w.waits;
            joined = joined_now;
            fit = w.fit;
            pass = w.pass;
            tied = w.tied;
            numbered = w.numbered;
          });
      left = tt;
      carries = carried p s t log now (TcpIn octets) left fits a.course.earlier a.course.sent h
          a.carries;
      before = record {
        are = a.before.are;
        orders = subst (λ objs. AreInOrder objs a.course.earlier) (sym h.taken)
            (orders_grow (taken_objects p log) h.more a.course.earlier a.before.orders);
        times = (kept_talk p _ _ _ talk_now, a.before.times);
        acts = a.before.acts;
        rests = (rest, a.before.rests);
      };
    })
  where
    left : Course
    left = left_of p log a.course

    d : Course
    d = with_works h.z left

    more : List ℕ
    more = if session.is_open s.centre.session then octets else []

    w : Presently t.centre (present log) [] (here_of a.course)
    w = goes_on p s t log now (TcpIn octets) left fits (present log) [] (here_of a.course) h a.here

    bytes_at : (b : Bool) (c : Channel) → c.is_open ≡ b
        → receiving c octets ≡ record {
          is_open = c.is_open;
          sent = c.sent;
          received =
              c.received ++ (if b then octets else []);
          lacked_place = c.lacked_place;
        }
    bytes_at true c h =
        ap (λ b. if b then record {
          is_open = true;
          sent = c.sent;
          received = c.received ++ octets;
          lacked_place =
              c.lacked_place;
        } else c) h
        ∙ ap (λ b. record {
          is_open = b;
          sent = c.sent;
          received = c.received ++ octets;
          lacked_place =
              c.lacked_place;
        })
        (sym h)
    bytes_at false c h =
        ap (λ b. if b then record {
          is_open = true;
          sent = c.sent;
          received = c.received ++ octets;
          lacked_place =
              c.lacked_place;
        } else c) h
        ∙ ap (λ l. record {
          is_open = c.is_open;
          sent = c.sent;
          received = l;
          lacked_place =
              c.lacked_place;
        })
        (sym (append-nil c.received))

    opens : (c : Channel) → (receiving c octets).is_open ≡ c.is_open
    opens c = by_open c.is_open refl
      where
        by_open : (b : Bool) → c.is_open ≡ b → (receiving c octets).is_open ≡ c.is_open
        by_open true e =
            ap (λ b. (if b then record {
              is_open = true;
              sent = c.sent;
              received = c.received ++ octets;
              lacked_place =
                  c.lacked_place;
            } else c).is_open) e ∙ sym e
        by_open false e =
            ap (λ b. (if b then record {
              is_open = true;
              sent = c.sent;
              received = c.received ++ octets;
              lacked_place =
                  c.lacked_place;
            } else c).is_open) e

    closed : (b : Bool) → b ≡ false → present log ≡ no_channel
        → record {
          is_open = (present log).is_open;
          sent = (present log).sent;
          received =
              (present log).received ++ (if b then octets else []);
          lacked_place = (present log).lacked_place;
        } ≡ no_channel
    closed true h none = cc
    closed false h none =
        ap (λ (c : Channel). record {
          is_open = c.is_open;
          sent = c.sent;
          received = c.received ++ [];
          lacked_place =
              c.lacked_place;
        }) none

    joined_now : (present log).received ++ more ≡ spelled (came_frames a.course.talk)
        ++ (w.so_far ++ more)
    joined_now = ap (λ x. x ++ more) w.joined
        ∙ append_assoc (spelled (came_frames a.course.talk)) (w.so_far
        ++ []) more ∙ ap (λ x. spelled (came_frames a.course.talk) ++ (x ++ more))
        (append-nil w.so_far)

    brings : TakesFrames p (Came (latest (Came now (TcpIn octets) ∷ log)) (TcpIn octets) ∷ log)
        (latest (Came now (TcpIn octets) ∷ log)) (with_works
        (begun_works (latest (Came now (TcpIn octets) ∷ log)) left.works) left) d
    brings = record {
      frames = [];
      taken = ap (λ z. with_works z left) h.worked;
      each = tt;
      rest = w.so_far ++ more;
      joined =
          ap (λ (x : Channel). x.received) (bytes_at (session.is_open s.centre.session)
          (present log)
          (sym a.here.link)) ∙ joined_now;
    }

    talk_now : Talks p t.centre.session (Came now (TcpIn octets) ∷ log) d
    talk_now = talk_on p s.centre.session t.centre.session log (Came now (TcpIn octets) ∷ log)
        a.course d a.talk
        (ap (λ (c : Centre). c.session) h.centre) refl (
          a.course,
          left,
          a.talk.course_runs,
          all_taken log a.course a.here.so_far a.here.joined a.here.waits,
          is_left p s log a,
          brings,
        )
