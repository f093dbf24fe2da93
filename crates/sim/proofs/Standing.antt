-- A run goes on by one event or one action.
use Rattle.std.proofs.Common.{◌≡◌, ℕ, ◌+◌, ◌-◌, ◌<◌, ◌≤◌, ◌^◌, ◌&&◌, ◌||◌, min, Bool, true, false}
use Rattle.std.proofs.Common.{List, []}
use Rattle.std.proofs.Common.{◌∷◌, ◌++◌, length, replicate, Option, Some, None, IfSome, nat_le}
use Rattle.std.proofs.Common.{refl, sym, ap, subst, ◌∙◌, arith, if◌then◌else◌}
use Rattle.std.specs.Prelude.{◌==◌, not}
use Rattle.std.specs.List.{AllByRecursion}
use Rattle.ft12.specs.declared.frame.Frame.{Frame}
use Rattle.ft12.specs.Spelling.{Fits}
use Rattle.link.specs.Secondary.{Secondary}
use Rattle.gateway.specs.Log.{Log, LogEntry, Came, Went, Input, LineIn, Opened, TcpIn, CutOff}
use Rattle.gateway.specs.Log.{Ticked, WallIs, Restarted, LineOut, TcpOut, Closed, GapOut}
use Rattle.gateway.specs.Log.{last_moment, latest}
use Rattle.gateway.specs.Ports.{IsOfPort}
use Rattle.gateway.specs.Reports.{Setup, sending_in, exchanges_of}
use Rattle.link.specs.Exchanges.{OpenExchange, Exchanges, Sending, received_octets}
use Rattle.link.specs.Exchanges.{received_current}
use Rattle.link.specs.Exchanges.{timed, timed_current, begun_by}
use Rattle.sim.specs.declared.tally.StationTally.{StationTally}
use Rattle.sim.specs.declared.tallies.LatestRequest.{LatestRequest}
use Rattle.sim.specs.Tallies.{Tallied, fresh_tally, each_asked, each_received, awaited_received}
use Rattle.sim.specs.Tallies.{awaited_timed, awaited_asked, awaited_with, tallied_at, tallied_asked}
use Rattle.sim.specs.Tallies.{awaited_in, tallies_of}
use Rattle.session.specs.declared.kinds.Close.{Close}
use Rattle.sim.specs.declared.centre.Centre.{Centre}
use Rattle.sim.specs.Centres.{shut, is_data, first_control, after_sending, after_receiving}
use Rattle.sim.specs.Centres.{after_event, centre_of, start_apdu, acknowledging_apdu}
use Rattle.sim.specs.declared.directive.Directive.{Directive}
use Rattle.sim.specs.Losses.{fate_of, turns_of, ack_of, is_cut_at, sent_at, wall_at}
use Rattle.sim.specs.Lives.{Plan, AreLived, IsPutOut, arriving, waiting_in}
use Rattle.sim.specs.Connections.{objects_in_apdu, add_latest, counted_after}
use Rattle.sim.specs.Calls.{event_at, lasting, calls_in, line_event, sending_event, usual_event}
use Rattle.sim.specs.Calls.{walled_event, FollowsPlan}
use Rattle.delivery.specs.Delivery.{IsOneLife}
use Rattle.sim.specs.Played.{Standing, Stands, coming, standing_after}

sent_by : (octets : List ℕ) (c : Centre) (n : ℕ) → c.sent ≤ n → (after_sending octets c).sent
    ≤ n + 1
sent_by octets c n le = go (first_control octets == 0x07) (is_data octets) refl refl
  where
    go : (a b : Bool) → (first_control octets == 0x07) ≡ a → is_data octets ≡ b
        → (after_sending octets c).sent ≤ n + 1
    go true b e f = rw e (omega arith)
    go false true e f = rw (e, f) (omega arith)
    go false false e f = rw (e, f) (omega arith)

sent_after : (event : Input) (c : Centre) (n : ℕ) → c.sent ≤ n → (after_event event c).sent ≤ n + 1
sent_after (LineIn octets) c n le = omega arith
sent_after Opened c n le = omega arith
sent_after (TcpIn octets) c n le = sent_by octets c n le
sent_after CutOff c n le = omega arith
sent_after Ticked c n le = omega arith
sent_after (WallIs number) c n le = omega arith
sent_after Restarted c n le = omega arith

waiting_after : (plan : Plan) (log : Log) (answers : List (Option Frame)) (now : ℕ) (event : Input)
    (at : Standing)
    → at.waiting ≡ waiting_in plan log answers →
    (standing_after plan (Came now event) at).waiting
    ≡ waiting_in plan (Came now event ∷ log) answers
waiting_after plan log answers now (LineIn octets) at e = refl
waiting_after plan log answers now Opened at e = e
waiting_after plan log answers now (TcpIn octets) at e = e
waiting_after plan log answers now CutOff at e = e
waiting_after plan log answers now Ticked at e = e
waiting_after plan log answers now (WallIs number) at e = e
waiting_after plan log answers now Restarted at e = e

-- What may still be answered

-- once a moment has come
awaits_timed : (ms now : ℕ) (c : Option OpenExchange) → awaited_timed ms now (awaited_in c)
    ≡ awaited_in (timed_current ms now c)
awaits_timed ms now None = refl
awaits_timed ms now (Some x) = go x.closed x.given_up x.octets (nat_le (x.since + ms) now) refl
  where
    go : (closed given_up : Bool) (xs : List ℕ) (late : Bool) → nat_le (x.since + ms) now ≡ late →
        awaited_timed ms now (if closed || given_up then None else awaited_with xs x)
        ≡ (if (closed || (not given_up && late)) || given_up then None
        else awaited_with xs (timed ms now x))
    go true given_up xs late is = refl
    go false true xs late is = refl
    go false false [] true is = ap (λ (b : Bool). if b then None else awaited_with [] x) is
    go false false [] false is = ap (λ (b : Bool). if b then None else awaited_with [] x) is
    go false false (y ∷ ys) true is = refl
    go false false (y ∷ ys) false is = refl

-- and octets before it
awaits_received : (octets : List ℕ) (c : Option OpenExchange)
    → awaited_received octets (awaited_in c) ≡ awaited_in (received_current octets c)
awaits_received [] None = refl
awaits_received (o ∷ os) None = refl
awaits_received [] (Some x) = go (x.closed || x.given_up) x.octets
  where
    go : (over : Bool) (xs : List ℕ) → (if over then None else awaited_with xs x)
        ≡ (if over then None
        else awaited_with (if over then xs else xs ++ []) (received_octets [] x))
    go true xs = refl
    go false [] = refl
    go false (y ∷ ys) = refl
awaits_received (o ∷ os) (Some x) = go (x.closed || x.given_up) x.octets
  where
    none : Option LatestRequest
    none = None

    go : (over : Bool) (xs : List ℕ)
        → none
        ≡ (if over then None else awaited_with (if over then xs else xs ++ o ∷ os)
        (received_octets (o ∷ os) x))
    go true xs = refl
    go false [] = refl
    go false (y ∷ ys) = refl

awaits_came : (p : Setup) (log : Log) (now : ℕ) (event : Input) (t : Tallied)
    → IsOfPort event → latest (Came now event ∷ log) ≡ now
    → t.awaited ≡ awaited_in (exchanges_of p log).current →
    (tallied_at p now event t).awaited ≡ awaited_in (exchanges_of p (Came now event ∷ log)).current
awaits_came p log now (LineIn octets) t of at is =
    let c : Option OpenExchange = (exchanges_of p log).current in
    ap (λ (a : Option LatestRequest). awaited_timed p.link.answer_ms now
    (awaited_received octets a))
    is
    ∙ ap (awaited_timed p.link.answer_ms now) (awaits_received octets c)
    ∙ awaits_timed p.link.answer_ms now (received_current octets c)
    ∙ ap (λ (n : ℕ). awaited_in (timed_current p.link.answer_ms n (received_current octets c)))
    (sym at)
awaits_came p log now Opened t of at is =
    ap (awaited_timed p.link.answer_ms now) is
    ∙ awaits_timed p.link.answer_ms now (exchanges_of p log).current
    ∙ ap (λ (n : ℕ). awaited_in (timed_current p.link.answer_ms n (exchanges_of p log).current))
    (sym at)
awaits_came p log now (TcpIn octets) t of at is =
    ap (awaited_timed p.link.answer_ms now) is
    ∙ awaits_timed p.link.answer_ms now (exchanges_of p log).current
    ∙ ap (λ (n : ℕ). awaited_in (timed_current p.link.answer_ms n (exchanges_of p log).current))
    (sym at)
awaits_came p log now CutOff t of at is =
    ap (awaited_timed p.link.answer_ms now) is
    ∙ awaits_timed p.link.answer_ms now (exchanges_of p log).current
    ∙ ap (λ (n : ℕ). awaited_in (timed_current p.link.answer_ms n (exchanges_of p log).current))
    (sym at)
awaits_came p log now Ticked t of at is =
    ap (awaited_timed p.link.answer_ms now) is
    ∙ awaits_timed p.link.answer_ms now (exchanges_of p log).current
    ∙ ap (λ (n : ℕ). awaited_in (timed_current p.link.answer_ms n (exchanges_of p log).current))
    (sym at)
awaits_came p log now (WallIs number) t of at is =
    ap (awaited_timed p.link.answer_ms now) is
    ∙ awaits_timed p.link.answer_ms now (exchanges_of p log).current
    ∙ ap (λ (n : ℕ). awaited_in (timed_current p.link.answer_ms n (exchanges_of p log).current))
    (sym at)
awaits_came p log now Restarted t of at is = absurd of

-- once a request has gone out
awaits_begun : (now : ℕ) (m : Option Sending) (e : Exchanges) (a : Option LatestRequest)
    → a ≡ awaited_in e.current
    → awaited_asked now m a ≡ awaited_in (begun_by now m e).current
awaits_begun now None e a is = is
awaits_begun now (Some s) e a is = refl

-- What is counted

counts_came : (plan : Plan) (log : Log) (answers : List (Option Frame)) (stations : List Secondary)
    (lived : AreLived plan log answers stations) (now : ℕ) (event : Input) (t : Tallied) →
    t.awaited ≡ awaited_in (exchanges_of plan.setup log).current
    → t.each ≡ tallies_of plan log answers stations lived →
    (tallied_at plan.setup now event t).each ≡ tallies_of plan (Came now event ∷ log) answers
    stations lived
counts_came plan log answers stations lived now (LineIn octets) t is each =
    ap (λ (a : Option LatestRequest). each_received plan.setup a octets t.each) is
    ∙ ap (each_received plan.setup (awaited_in (exchanges_of plan.setup log).current) octets) each
counts_came plan log answers stations lived now Opened t is each = each
counts_came plan log answers stations lived now (TcpIn octets) t is each = each
counts_came plan log answers stations lived now CutOff t is each = each
counts_came plan log answers stations lived now Ticked t is each = each
counts_came plan log answers stations lived now (WallIs number) t is each = each
counts_came plan log answers stations lived now Restarted t is each = each

-- no call gives a restart
line_is_of_port : (waiting : Option (List ℕ)) → IsOfPort (line_event waiting)
line_is_of_port None = tt
line_is_of_port (Some piece) = tt

sending_is_of_port : (asdu : Option (List ℕ)) (ack : ℕ) (c : Centre) (waiting : Option (List ℕ))
    → IsOfPort (sending_event asdu ack c waiting)
sending_is_of_port (Some asdu) ack c waiting = tt
sending_is_of_port None ack c waiting = go (nat_le ack (c.received - c.acknowledged))
  where
    go : (b : Bool)
        → IsOfPort (if b then TcpIn (acknowledging_apdu c) else line_event waiting)
    go true = tt
    go false = line_is_of_port waiting

usual_is_of_port : (ds : List Directive) (call : ℕ) (c : Centre) (waiting : Option (List ℕ))
    → IsOfPort (usual_event ds call c waiting)
usual_is_of_port ds call c waiting =
    go (c.is_open && is_cut_at ds call) (not c.is_open) (not c.is_started)
  where
    go : (a b d : Bool)
        → IsOfPort (if a then CutOff else if b then Opened else if d then TcpIn start_apdu
        else sending_event (sent_at ds call) (ack_of ds) c waiting)
    go true b d = tt
    go false true d = tt
    go false false true = tt
    go false false false = sending_is_of_port (sent_at ds call) (ack_of ds) c waiting

pub event_is_of_port : (ds : List Directive) (call : ℕ) (c : Centre) (waiting : Option (List ℕ))
    → IsOfPort (event_at ds call c waiting)
event_is_of_port ds call c waiting = go (wall_at ds call)
  where
    go : (wall : Option ℕ) → IsOfPort (walled_event wall (usual_event ds call c waiting))
    go (Some number) = tt
    go None = usual_is_of_port ds call c waiting

-- so a run is one life
pub one_life : (plan : Plan) (log : Log) (answers : List (Option Frame))
    → FollowsPlan plan log answers → IsOneLife log
one_life plan [] answers h = tt
one_life plan (Came now Restarted ∷ log) answers h =
    subst IsOfPort (sym h.0)
    (event_is_of_port plan.directives (calls_in log + 1) (centre_of log)
    (waiting_in plan log answers))
one_life plan (Came now event ∷ log) answers h = one_life plan log answers h.2
one_life plan (Went now (LineOut octets) ∷ log) [] h = absurd h
one_life plan (Went now (LineOut octets) ∷ log) (answer ∷ answers) h = one_life plan log answers h
one_life plan (Went now action ∷ log) answers h = one_life plan log answers h

came_with : (plan : Plan) (log : Log) (stations : List Secondary) (at : Standing) (now : ℕ)
    (event : Input)
    → event ≡ event_at plan.directives (at.call + 1) at.centre at.waiting →
    now ≡ min (at.moment + lasting plan.answer_ms event) last_moment → at.call
    < turns_of plan.directives
    → Stands plan log stations at → Stands plan (Came now event ∷ log) stations
    (standing_after plan (Came now event) at)
came_with plan log stations at now event e f few k = record {
  answers = k.answers;
  played = record {
    lived = k.played.lived;
    fit = k.played.fit;
    follows = (
      e ∙ ap (λ (n : ℕ). event_at plan.directives (n + 1) at.centre at.waiting) k.call
          ∙ ap (λ (c : Centre). event_at plan.directives (calls_in log + 1) c at.waiting) k.centre
          ∙ ap (λ (w : Option (List ℕ)). event_at plan.directives (calls_in log + 1) (centre_of log)
          w) k.waiting,
      f ∙ ap (λ (m : ℕ). min (m + lasting plan.answer_ms event) last_moment) k.moment,
      k.played.follows,
    );
  };
  waiting = waiting_after plan log k.answers now event at k.waiting;
  centre = ap (after_event event) k.centre;
  call = ap (λ (n : ℕ). n + 1) k.call;
  moment = refl;
  requests = k.requests;
  counts = ap (counted_after (Came now event)) k.counts;
  latest = moment_is;
  awaited = awaits_came plan.setup log now event at.tallied
      (subst IsOfPort (sym e)
      (event_is_of_port plan.directives (at.call + 1) at.centre at.waiting)) moment_is k.awaited;
  each = counts_came plan log k.answers stations k.played.lived now event at.tallied k.awaited
      k.each;
  in_time = let le : now ≤ last_moment = omega arith in le;
  sent = sent_after event at.centre at.call k.sent;
  few = k.few;
  in_turns = let le : at.call + 1 ≤ turns_of plan.directives = omega arith in le;
  sizes = k.sizes;
}
  where
    moment_is : latest (Came now event ∷ log) ≡ now
    moment_is = let before : latest log ≡ at.moment = k.latest in let within : at.moment
        ≤ last_moment = k.in_time in
        omega arith

-- the next event
pub stands_came : (plan : Plan) (log : Log) (stations : List Secondary) (at : Standing)
    (entry : LogEntry)
    → entry ≡ coming plan at → at.call < turns_of plan.directives → Stands plan log stations at →
    Stands plan (entry ∷ log) stations (standing_after plan entry at)
stands_came plan log stations at entry e few k =
    let event : Input = event_at plan.directives (at.call + 1) at.centre at.waiting in
    subst (λ (x : LogEntry). Stands plan (x ∷ log) stations (standing_after plan x at)) (sym e)
    (came_with plan log stations at (min (at.moment + lasting plan.answer_ms event) last_moment)
    event refl refl few k)

-- a request
pub stands_asked : (plan : Plan) (log : Log) (stations new : List Secondary) (at : Standing)
    (now : ℕ)
    (octets : List ℕ) (answer : Option Frame) →
    IsPutOut (fate_of plan.directives (at.requests + 1)) octets stations answer new
    → AllByRecursion (λ s. s.size ≡ plan.size) new → IfSome answer (Fits plan.size)
    → at.requests + 1 < 2 ^ 64
    → Stands plan log stations at →
    Stands plan (Went now (LineOut octets) ∷ log) new
    (record {
      waiting = arriving plan.size (fate_of plan.directives (at.requests + 1)) answer;
      centre =
          at.centre;
      call = at.call;
      moment = at.moment;
      requests = at.requests + 1;
      counts = at.counts;
      tallied =
          tallied_asked plan.setup now octets stations at.tallied;
    })
stands_asked plan log stations new at now octets answer out sizes fits small k = record {
  answers = answer ∷ k.answers;
  played = record {
    lived = (
      stations,
      subst (λ (n : ℕ). IsPutOut (fate_of plan.directives (n + 1)) octets stations answer new)
          k.requests out,
      k.played.lived,
    );
    fit = (fits, k.played.fit);
    follows = k.played.follows;
  };
  waiting = ap (λ (n : ℕ). arriving plan.size (fate_of plan.directives (n + 1)) answer) k.requests;
  centre = k.centre;
  call = k.call;
  moment = k.moment;
  requests = ap (λ (n : ℕ). n + 1) k.requests;
  counts = k.counts;
  latest = k.latest;
  awaited = awaits_begun now (sending_in plan.setup octets) (exchanges_of plan.setup log)
      at.tallied.awaited k.awaited;
  each = ap (λ (ts : List StationTally). each_asked (sending_in plan.setup octets) stations ts)
      k.each;
  in_time = k.in_time;
  sent = k.sent;
  few = small;
  in_turns = k.in_turns;
  sizes = sizes;
}

sent_same : (octets : List ℕ) (c : Centre) → (after_receiving octets c).sent ≡ c.sent
sent_same octets c = go (is_data octets) refl
  where
    go : (b : Bool) → is_data octets ≡ b → (after_receiving octets c).sent ≡ c.sent
    go true e = rw e refl
    go false e = rw e refl

-- an APDU
pub stands_handed : (plan : Plan) (log : Log) (stations : List Secondary) (at : Standing) (now : ℕ)
    (octets : List ℕ)
    → Stands plan log stations at →
    Stands plan (Went now (TcpOut octets) ∷ log) stations (record at {
      centre = after_receiving octets at.centre;
      counts = add_latest (objects_in_apdu octets) at.counts;
    })
stands_handed plan log stations at now octets k = record {
  answers = k.answers;
  played = record { lived = k.played.lived; fit = k.played.fit; follows = k.played.follows };
  waiting = k.waiting;
  centre = ap (after_receiving octets) k.centre;
  call = k.call;
  moment = k.moment;
  requests = k.requests;
  counts = ap (add_latest (objects_in_apdu octets)) k.counts;
  latest = k.latest;
  awaited = k.awaited;
  each = k.each;
  in_time = k.in_time;
  sent = let le : at.centre.sent ≤ at.call = k.sent in omega (arith, sent_same octets at.centre);
  few = k.few;
  in_turns = k.in_turns;
  sizes = k.sizes;
}

-- a close
pub stands_closed : (plan : Plan) (log : Log) (stations : List Secondary) (at : Standing) (now : ℕ)
    (cause : Close)
    → Stands plan log stations at →
    Stands plan (Went now (Closed cause) ∷ log) stations (record at { centre = shut })
stands_closed plan log stations at now cause k = record {
  answers = k.answers;
  played = record { lived = k.played.lived; fit = k.played.fit; follows = k.played.follows };
  waiting = k.waiting;
  centre = refl;
  call = k.call;
  moment = k.moment;
  requests = k.requests;
  counts = k.counts;
  latest = k.latest;
  awaited = k.awaited;
  each = k.each;
  in_time = k.in_time;
  sent = omega arith;
  few = k.few;
  in_turns = k.in_turns;
  sizes = k.sizes;
}

-- a gap
pub stands_logged : (plan : Plan) (log : Log) (stations : List Secondary) (at : Standing)
    (now station session : ℕ)
    → Stands plan log stations at →
    Stands plan (Went now (GapOut station session) ∷ log) stations at
stands_logged plan log stations at now station session k = record {
  answers = k.answers;
  played = record { lived = k.played.lived; fit = k.played.fit; follows = k.played.follows };
  waiting = k.waiting;
  centre = k.centre;
  call = k.call;
  moment = k.moment;
  requests = k.requests;
  counts = k.counts;
  latest = k.latest;
  awaited = k.awaited;
  each = k.each;
  in_time = k.in_time;
  sent = k.sent;
  few = k.few;
  in_turns = k.in_turns;
  sizes = k.sizes;
}

-- before the first call
pub stands_fresh : (plan : Plan) (stations : List Secondary) (centre : Centre) → centre ≡ shut
    → stations ≡ plan.stations → AllByRecursion (λ s. s.size ≡ plan.size) plan.stations →
    Stands plan [] stations (record {
      waiting = None;
      centre = centre;
      call = 0;
      moment = 0;
      requests = 0;
      counts = [];
      tallied =
          record { awaited = None; each = replicate (length plan.stations) fresh_tally };
    })
stands_fresh plan stations centre c e sizes =
    subst (λ (d : Centre). Stands plan [] stations (record {
      waiting = None;
      centre = d;
      call = 0;
      moment =
          0;
      requests = 0;
      counts = [];
      tallied = record { awaited = None; each = replicate (length plan.stations) fresh_tally };
    }))
    (sym c) (record {
      answers = [];
      played = record { lived = e; fit = tt; follows = tt };
      waiting = refl;
      centre = refl;
      call = refl;
      moment = refl;
      requests = refl;
      counts = refl;
      latest = refl;
      awaited = refl;
      each = refl;
      in_time = omega arith;
      sent = omega arith;
      few = omega arith;
      in_turns = omega arith;
      sizes = subst (λ (ss : List Secondary). AllByRecursion (λ s. s.size ≡ plan.size) ss) (sym e)
          sizes;
    })
