-- The timers, gaps and events: the line's lemmas in the form that answers cite.
use Rattle.std.proofs.Common.{◌≡◌, ℕ, ◌≤◌, ◌+◌, ◌==◌, Bool, true, false, List, [], ◌∷◌, ◌++◌}
use Rattle.std.proofs.Common.{length, refl, ap, sym, ◌∙◌, subst, arith, inl, inr, Option, Some}
use Rattle.std.proofs.Common.{None, length-append}
use Rattle.std.specs.Prelude.{IfSome, if◌then◌else◌}
use Rattle.std.proofs.lemmas.List.{append-nil}
use Rattle.link.specs.Matching.{Matches}
use Rattle.session.specs.declared.kinds.Close.TheVariants.{OwnAnswers, Replaced}
use Rattle.session.specs.Session.{is_open}
use Rattle.gateway.proofs.Talking.{kept_talk, talk_on, all_taken}
use Rattle.gateway.specs.Log.{Log, Input, Opened, TcpIn, CutOff, Ticked, WallIs, LineIn, Came, Went}
use Rattle.gateway.specs.Log.{Closed, GapOut, latest, with_news}
use Rattle.gateway.specs.Connections.{Channel, receiving, received_before, present}
use Rattle.gateway.specs.Reports.{Setup, exchanges_of}
use Rattle.gateway.specs.declared.gaps.Gap.{Gap}
use Rattle.gateway.specs.Gaps.{gaps_reported, gap_for, ReportsGaps}
use Rattle.gateway.specs.Serial as serial
use Rattle.gateway.specs.Serial.{Serial}
use Rattle.gateway.specs.Centre.{Centre}
use Rattle.gateway.specs.Works.{Works, has_lacked_place, gapless_works}
use Rattle.gateway.specs.Course.{Course, with_works, HasAnswered, Comes, Runs}
use Rattle.gateway.specs.Phases.{Phase, Taking, Idle, Crowded, Timed}
use Rattle.link.specs.LineLaws.{LineLaws}
use Rattle.gateway.specs.Traffic.{IsFaithful}
use Rattle.gateway.specs.declared.walls.Wall.{Wall}
use Rattle.gateway.specs.State.{State, with_wall, with_serial, at_moment, line_timed, settled}
use Rattle.gateway.specs.State.{disconnected, connected}
use Rattle.gateway.specs.Steps.{ReceivesEvent, Begins, MayClose}
use Rattle.gateway.specs.Agrees.{Talks, Agrees, ArePlain, Tracks, Awaits, Leaves, HasCome, IsClear}
use Rattle.gateway.specs.Agrees.{IsUndue, pending}
use Rattle.gateway.proofs.Alike.{settled_serial}
use Rattle.gateway.proofs.Working.{settled_gap}
use Rattle.gateway.proofs.Closing.{stands_overfull}
use Rattle.gateway.proofs.Receiving.{now_idle}
use Rattle.gateway.proofs.Put.{logged_faithful}
use Rattle.gateway.specs.Ports.{IsOfPort}
use Rattle.gateway.proofs.Come.{Received, received_event, Worked}
use Rattle.gateway.proofs.Connecting.{Counts, come_other, come_course, come_open, come_replaced}
use Rattle.gateway.proofs.Connecting.{come_cut, come_bytes, opened_faithful}
use Rattle.gateway.proofs.Learning.{left_of}

-- The timers

now_settled : (p : Setup) (s : State) (log : Log) → Agrees p s log [] Idle
    → Agrees p (settled s) log [] Timed
now_settled p s log a = record {
  k = a.k;
  sizes = a.sizes;
  places = a.places;
  clock = a.clock;
  wall = a.wall;
  settled = a.settled;
  found = a.found;
  line = subst (λ q. Matches p.link p.addresses q (exchanges_of p log))
      (sym (same_line s.serial.silent)) a.line;
  course = a.course;
  talk = a.talk;
  stands = record {
    does = ap (λ m. serial.settled m s.serial) a.clock
        ∙ ap (serial.settled (latest log)) a.stands.does
        ∙ sym (settled_serial (latest log) a.course.works);
    asks = a.stands.asks;
    phase_is = a.stands.phase_is;
    placed = a.stands.placed;
    answered = a.stands.answered;
  };
  gaps = λ i. ap (λ g. gaps_reported i log ++ gap_for i g) (same_gap s.serial.silent) ∙ a.gaps i;
  plain = subst ArePlain (sym (same_answers s.serial.silent)) a.plain;
  here = a.here;
  left = refl;
  carries = a.carries;
  before = a.before;
}
  where
    same_line : (o : Option ℕ) → (serial.unless_silent o s.serial).line ≡ s.serial.line
    same_line None = refl
    same_line (Some i) = refl

    same_gap : (o : Option ℕ) → (serial.unless_silent o s.serial).gap ≡ s.serial.gap
    same_gap None = refl
    same_gap (Some i) = refl

    same_answers : (o : Option ℕ) → (serial.unless_silent o s.serial).commands.answers
        ≡ s.serial.commands.answers
    same_answers None = refl
    same_answers (Some i) = refl

pub logged_settled : (p : Setup) (logged : Option Log) (s t : State) → t ≡ settled s
    → Tracks p s logged [] Idle
    → Tracks p t logged [] Timed
logged_settled p None s t is h = tt
logged_settled p (Some log) s t is a = subst (λ x. Agrees p x log [] Timed) (sym is)
    (now_settled p s log a)

-- and each gap stays reported
pub still_logged : (s t : State) → t ≡ settled s → s.serial.gap ≡ None → t.serial.gap ≡ None
still_logged s t is none = ap (λ (x : State). x.serial.gap) is ∙ settled_gap s.moment s.serial
    ∙ none

-- A gap is reported

one_more : (b : Bool) (xs : List ℕ) (session : ℕ) → (if b then xs ++ session ∷ [] else xs) ≡ xs
    ++ (if b then session ∷ [] else [])
one_more true xs session = refl
one_more false xs session = sym (append-nil xs)

module _ (p : Setup) (s : State) (log : Log) (a : Agrees p s log [] Idle) (gap : Gap)
    (some : s.serial.gap
    ≡ Some gap) where
  abbrev gap_log : Log
  gap_log = Went s.moment (GapOut gap.station gap.session) ∷ log

  abbrev after_gap : Course
  after_gap = with_works (gapless_works a.course.works) a.course

  gap_runs : Runs p gap_log after_gap
  gap_runs = (
    a.course,
    a.talk.course_runs,
    record {
      all = all_taken log a.course a.here.so_far a.here.joined a.here.waits;
      answered = a.stands.answered;
      placed = a.stands.placed;
      due = a.stands.asks;
      gap = ap (λ (z : Serial). z.gap) (sym a.stands.does) ∙ some;
      is = refl;
    },
  )

  gap_talk : Talks p s.centre.session gap_log after_gap
  gap_talk = talk_on p s.centre.session s.centre.session log gap_log a.course after_gap a.talk refl
      refl gap_runs

  gap_answered : HasAnswered p log a.course → HasAnswered p gap_log after_gap
  gap_answered (inl h) = inl h
  gap_answered (inr h) = inr (record {
    confirmed = h.confirmed;
    flushed = λ started room.
        let all = h.flushed started room in
        record { objects = all.objects; answers = all.answers };
    undue = h.undue;
  })

  reports_gap : ReportsGaps p gap_log
  reports_gap i = one_more (gap.station == i) (gaps_reported i log) gap.session
      ∙ ap (λ g. gaps_reported i log ++ gap_for i g) (sym some) ∙ a.gaps i

  pub gap_reported : Agrees p (with_serial (serial.without_gap s.serial) s) gap_log [] Idle
  gap_reported = record {
    k = a.k;
    sizes = a.sizes;
    places = a.places;
    clock = a.clock;
    wall = a.wall;
    settled = refl;
    found = a.found;
    line = a.line;
    course = after_gap;
    talk = gap_talk;
    stands = record {
      does = ap serial.without_gap a.stands.does;
      asks = a.stands.asks;
      phase_is = a.stands.phase_is;
      placed = a.stands.placed;
      answered = gap_answered a.stands.answered;
    };
    gaps = λ i. append-nil (gaps_reported i gap_log) ∙ reports_gap i;
    plain = a.plain;
    here = a.here;
    left = refl;
    carries = a.carries;
    before = record {
      are = a.before.are;
      orders = a.before.orders;
      times = (kept_talk p _ _ _ gap_talk, a.before.times);
      acts = (
        record {
          moment = a.clock;
          replaced = sym a.settled;
          early = a.stands.phase_is;
          may = reports_gap;
        },
        a.before.acts,
      );
      rests = a.before.rests;
    };
  }

pub reported_gap : (result : Bool) (p : Setup) (logged after : Option Log) (s t : State) (gap : Gap)
    (now : ℕ)
    → s.serial.gap ≡ Some gap → now ≡ s.moment → t ≡ with_serial (serial.without_gap s.serial) s
    → after ≡ (if result then with_news logged (Went now (GapOut gap.station gap.session) ∷ [])
    else logged)
    → Tracks p s logged [] Idle →
    Leaves result p t after [] Idle
reported_gap true p logged after s t gap now some same is e h = rw (e, same, is) (by_log logged h)
  where
    by_log : (logged : Option Log) → Tracks p s logged [] Idle
        → Tracks p (with_serial (serial.without_gap s.serial) s)
        (with_news logged (Went s.moment (GapOut gap.station gap.session) ∷ [])) [] Idle
    by_log None h = tt
    by_log (Some log) a = gap_reported p s log a gap some
reported_gap false p logged after s t gap now some same is e h =
    subst (λ l. IfSome l (IsFaithful p)) (sym e) (logged_faithful p logged s [] Idle h)

-- if there is none, nothing changes
pub no_gap_reported : (s t : State) → s.serial.gap ≡ None
    → t ≡ with_serial (serial.without_gap s.serial) s → t ≡ s
no_gap_reported s t none is = is
    ∙ ap (λ (g : Option Gap). let made : State =
    record s { serial = record s.serial { gap = g } } in made) (sym none)

-- An event comes

pub begins : (s a m t : State) (now : ℕ) (event : Input) (fits : Bool) → a ≡ at_moment s now
    → ReceivesEvent a event fits m → t ≡ line_timed m → Begins s now event fits t
begins s a m t now event fits e receives times = record {
  middle = m;
  receives =
      subst (λ x. ReceivesEvent x event fits m) e receives;
  times = times;
}

received_in : (laws : LineLaws) (p : Setup) (s t : State) (now : ℕ) (event : Input) (fits : Bool)
    (log : Log)
    → IsOfPort event → Begins s now event fits t → (h : HasCome p s now event log)
    → Received p s t h.before now event (left_of p h.before h.agrees.course) fits
received_in laws p s t now event fits log of b h = received_event laws p s t h.before now event fits
    of
    h.agrees b

as_log : (p : Setup) (t : State) (now : ℕ) (event : Input) (log before : Log) (unjudged : List ℕ)
    (phase : Phase)
    → log ≡ Came now event ∷ before → Agrees p t (Came now event ∷ before) unjudged phase
    → Agrees p t log unjudged phase
as_log p t now event log before unjudged phase is a =
    subst (λ l. Agrees p t l unjudged phase) (sym is) a

-- the line's octets are taken; their own answers found places, or there is no connection to count
-- them

on_line : (log : Log) (now : ℕ) (octets : List ℕ) (p : Setup) (c : Course) (z : Works)
    → Worked p log (latest (Came now (LineIn octets) ∷ log)) (LineIn octets) c z
    → Comes p log (latest (Came now (LineIn octets) ∷ log)) (LineIn octets) c (with_works z c)
on_line log now octets p c z w = (w.0, w.1, ap (λ x. with_works x c) w.2)

pub logged_line : (p : Setup) (logged : Option Log) (s t : State) (now : ℕ) (octets : List ℕ)
    (fits : Bool) → LineLaws
    → (is_open t.centre.session ≡ true → fits ≡ true) → Begins s now (LineIn octets) fits t
    → IfSome logged (HasCome p s now (LineIn octets)) → Tracks p t logged [] Idle
logged_line p None s t now octets fits laws fit b h = tt
logged_line p (Some log) s t now octets fits laws fit b h =
    let arrived = received_in laws p s t now (LineIn octets) fits log tt b h in
    as_log p t now (LineIn octets) log h.before [] Idle h.is
    (come_other p s t h.before now (LineIn octets) fits true t.wall (arrived.wall
    ∙ h.agrees.wall) (λ yes on. fit (ap (λ (c : Centre). is_open c.session) arrived.centre
    ∙ h.agrees.here.link
    ∙ on)) (refl, refl, refl) (on_line h.before now octets) h.rested h.agrees arrived)

-- an own answer found no place
pub logged_overfull : (p : Setup) (logged : Option Log) (s t : State) (now : ℕ) (octets : List ℕ)
    (fits : Bool) → LineLaws
    → fits ≡ false → is_open t.centre.session ≡ true → Begins s now (LineIn octets) fits t
    → IfSome logged (HasCome p s now (LineIn octets)) → IfSome logged (MayClose p t OwnAnswers Idle)
logged_overfull p None s t now octets fits laws off on b h = tt
logged_overfull p (Some log) s t now octets fits laws off on b h =
    let arrived = received_in laws p s t now (LineIn octets) fits log tt b h in
    let none : Counts false fits h.before = λ no on. let never : false ≡ true = no in cc in
    let a = come_other p s t h.before now (LineIn octets) fits false t.wall (arrived.wall
    ∙ h.agrees.wall) none (refl, refl, refl) (on_line h.before now octets) h.rested h.agrees
    arrived in
    subst (MayClose p t OwnAnswers Idle) (sym h.is) (record {
      last = refl;
      state = t;
      same = refl;
      open_is = on;
      unjudged = [];
      phase = Crowded;
      leads = refl;
      timely = tt;
      agrees = a;
      fault = Some OwnAnswers;
      stands = stands_overfull p t (Came now (LineIn octets) ∷ h.before) [] Crowded a;
      why = subst (λ (c : Course). has_lacked_place c.works.history ≡ true)
          (sym (come_course p s t h.before now (LineIn octets) fits false t.wall (arrived.wall
          ∙ h.agrees.wall) none (refl, refl, refl) (on_line h.before now octets) h.rested h.agrees
          arrived))
          (arrived.full off);
    })

pub logged_tick : (p : Setup) (logged : Option Log) (s t : State) (now : ℕ) (fits : Bool) → LineLaws
    → Begins s now Ticked fits t → IfSome logged (HasCome p s now Ticked)
    → Tracks p t logged [] Idle
logged_tick p None s t now fits laws b h = tt
logged_tick p (Some log) s t now fits laws b h =
    let arrived = received_in laws p s t now Ticked fits log tt b h in
    as_log p t now Ticked log h.before [] Idle h.is
    (come_other p s t h.before now Ticked fits true t.wall (arrived.wall
    ∙ h.agrees.wall) (λ yes on. b.receives.1) (refl, refl, refl)
    (λ p c z w. ap (λ x. with_works x c) w) h.rested h.agrees arrived)

-- what the wall clock shows
pub logged_wall : (p : Setup) (logged : Option Log) (s t u : State) (now number : ℕ) (fits : Bool)
    → LineLaws
    → Begins s now (WallIs number) fits t → u ≡ with_wall number t
    → IfSome logged (HasCome p s now (WallIs number))
    → Tracks p u logged [] Idle
logged_wall p None s t u now number fits laws b is h = tt
logged_wall p (Some log) s t u now number fits laws b is h =
    let arrived = received_in laws p s t now (WallIs number) fits log tt b h in
    let shown : Option Wall = Some (record { moment = t.moment; number = number }) in
    subst (λ x. Agrees p x log [] Idle) (sym is) (as_log p (with_wall number t) now (WallIs number)
    log h.before
    [] Idle h.is
    (come_other p s t h.before now (WallIs number) fits true shown
    (ap (λ m. let w : Wall = record { moment = m; number = number } in Some w) arrived.clock)
    (λ yes on. b.receives.1)
    (refl, refl, refl) (λ p c z w. ap (λ x. with_works x c) w) h.rested h.agrees arrived))

pub logged_cut : (p : Setup) (logged : Option Log) (s t u : State) (now : ℕ) (fits : Bool)
    → LineLaws
    → Begins s now CutOff fits t → u ≡ disconnected t → IfSome logged (HasCome p s now CutOff)
    → Tracks p u logged [] Idle
logged_cut p None s t u now fits laws b is h = tt
logged_cut p (Some log) s t u now fits laws b is h = subst (λ x. Agrees p x log [] Idle) (sym is)
    (as_log p (disconnected t) now CutOff log h.before [] Idle h.is
    (come_cut p s t h.before now fits h.rested h.agrees
    (received_in laws p s t now CutOff fits log tt b h)))

pub logged_open : (p : Setup) (logged : Option Log) (s t u : State) (now : ℕ) (fits : Bool)
    → LineLaws
    → Begins s now Opened fits t → is_open t.centre.session ≡ false → u ≡ connected (disconnected t)
    → IfSome logged (HasCome p s now Opened) → Tracks p u logged [] Idle
logged_open p None s t u now fits laws b off is h = tt
logged_open p (Some log) s t u now fits laws b off is h =
    subst (λ x. Agrees p x log [] Idle) (sym is) (as_log p (connected (disconnected t)) now Opened
    log h.before
    [] Idle h.is (come_open p s t h.before now fits h.rested h.agrees
    (received_in laws p s t now Opened fits log tt b h) off))

pub logged_replaced : (p : Setup) (logged after : Option Log) (s t u : State) (now moment : ℕ)
    (fits : Bool) → LineLaws
    → Begins s now Opened fits t → is_open t.centre.session ≡ true → u ≡ connected (disconnected t)
    → after ≡ with_news logged (Went moment (Closed Replaced) ∷ []) → moment ≡ t.moment
    → IfSome logged (HasCome p s now Opened)
    → Tracks p u after [] Idle
logged_replaced p logged after s t u now moment fits laws b on is e same h =
    rw (e, same, is) (by_log logged h)
  where
    by_log : (logged : Option Log) → IfSome logged (HasCome p s now Opened)
        → Tracks p (connected (disconnected t))
        (with_news logged (Went t.moment (Closed Replaced) ∷ []))
        [] Idle
    by_log None h = tt
    by_log (Some log) h =
        subst (λ l. Agrees p (connected (disconnected t)) (Went t.moment (Closed Replaced) ∷ l) []
        Idle) (sym h.is)
        (come_replaced p s t h.before now fits h.rested h.agrees
        (received_in laws p s t now Opened fits log tt b h) on)

-- if the close couldn't be put out
pub logged_unreplaced : (p : Setup) (logged : Option Log) (s t : State) (now : ℕ) (fits : Bool)
    → LineLaws
    → Begins s now Opened fits t → IfSome logged (HasCome p s now Opened)
    → IfSome logged (IsFaithful p)
logged_unreplaced p None s t now fits laws b h = tt
logged_unreplaced p (Some log) s t now fits laws b h = subst (IsFaithful p) (sym h.is)
    (opened_faithful p s t h.before now fits h.rested h.agrees
    (received_in laws p s t now Opened fits log tt b h))

-- how many octets have been received once more came
received_by : (b : Bool) (c : Channel) (octets : List ℕ) → c.is_open ≡ b
    → length (receiving c octets).received ≡ length c.received + length (if b then octets else [])
received_by true c octets e =
    ap (λ (x : Bool). length (if x then record {
      is_open = true;
      sent = c.sent;
      received =
          c.received ++ octets;
      lacked_place = c.lacked_place;
    } else c).received) e ∙ length-append c.received octets
received_by false c octets e =
    ap (λ (x : Bool). length (if x then record {
      is_open = true;
      sent = c.sent;
      received =
          c.received ++ octets;
      lacked_place = c.lacked_place;
    } else c).received) e ∙ omega arith

pub logged_bytes : (b : Bool) (p : Setup) (logged : Option Log) (s t : State) (now : ℕ)
    (octets : List ℕ) (fits : Bool)
    → LineLaws → Begins s now (TcpIn octets) fits t → is_open t.centre.session ≡ b
    → IfSome logged (HasCome p s now (TcpIn octets)) → Awaits p t logged (if b then octets else [])
logged_bytes b p None s t now octets fits laws begun is h = tt
logged_bytes b p (Some log) s t now octets fits laws begun is h =
    let agrees = come_bytes p s t h.before now octets fits begun.receives.1 h.rested h.agrees
    (received_in laws p s t now (TcpIn octets) fits log tt begun h) in
    let same : t ≡ line_timed (at_moment s now) = begun.times ∙ ap line_timed begun.receives.0 in
    let more : List ℕ = if b then octets else [] in
    let open_is : (present h.before).is_open ≡ b = sym h.agrees.here.link
    ∙ sym (ap (λ (x : State). is_open x.centre.session) same) ∙ is in
    let total : length (present (Came now (TcpIn octets) ∷ h.before)).received
    ≡ length (present h.before).received + length more =
    received_by b (present h.before) octets open_is in (
      subst (λ b. Agrees p t log (if b then octets else []) Taking) is
          (as_log p t now (TcpIn octets) log h.before (if is_open t.centre.session then octets
          else []) Taking h.is
          agrees),
      subst IsClear (sym same) (record { confirmed = h.clear.confirmed; spent = h.clear.spent }),
      subst (λ l. IsUndue t l more) (sym h.is)
          (inl (omega (arith, total, length-append (pending t.centre.so_far) more))),
      subst (λ l. length (received_before l) + length more ≤ length (present l).received) (sym h.is)
          (omega (arith, total)),
    )

pub logged_idle : (p : Setup) (logged : Option Log) (s : State) → Awaits p s logged []
    → Tracks p s logged [] Idle
logged_idle p None s h = tt
logged_idle p (Some log) s h = now_idle p s log h.1 h.2 h.0
