-- What passes a run and has nothing of its connections: these stay as they are, and what the wall
-- clock showed, and the moment.
use Rattle.std.proofs.Common.{◌≡◌, ℕ, ◌-◌, ◌==◌, Bool, true, false, List, Option, Some, None}
use Rattle.std.proofs.Common.{refl, sym, ap, ◌∙◌, nat_lt, [], ◌∷◌, map}
use Rattle.std.proofs.Math.Seq.{map-set_same}
use Rattle.std.proofs.lemmas.Option.{get_or_from_slice_get}
use Rattle.std.specs.Prelude.{slice_get, slice_set, if◌then◌else◌, is_some}
use Rattle.gateway.specs.State.{State, counts_of}
use Rattle.gateway.specs.declared.counts.Counts.{Counts}
use Rattle.link.specs.declared.answer.Answer.{Answer}
use Rattle.live.specs.declared.watched.EndsSight.{EndsSight}
use Rattle.runlog.specs.Ends.{line_seen}
use Rattle.runlog.specs.Exchange as exchange
use Rattle.runlog.specs.Exchange.{answer_in}
use Rattle.runlog.specs.Stations as stations
use Rattle.runlog.specs.Inbox as inbox
use Rattle.runlog.specs.Inbox.{Inbox}
use Rattle.runlog.specs.Logging.{looked, looked_if_due, taken_in}
use Rattle.runlog.specs.Traffic as traffic
use Rattle.runlog.specs.Traffic.{first_by, first_line, suffered, traffic_line}
use Rattle.runlog.specs.Exchange.{traffic_after}
use Rattle.runlog.specs.Watching as watching
use Rattle.runlog.specs.Watching.{order_at}
use Rattle.runlog.specs.Watching.{Watching, unless_logged, seen, with_line, answered_by}
use Rattle.runlog.specs.Watching.{answer_noted_by, answer_noted_at, line_received, received}
use Rattle.runlog.specs.Watching.{suffered_by, suffered_at, suffered_if, counts_noted, late_noted}
use Rattle.runlog.specs.Ends.{is_away}
use Rattle.runlog.specs.Watching.{as_late, sent_by, sent_at, asked, is_repeat, judged, unless_away}
use Rattle.runlog.specs.Watching.{unless_queue, counted, looked_at, is_look_due, queue_seen}
use Rattle.runlog.specs.Watching.{come_behind, unless_inbox, gathered, sent_to, unless_line}
use Rattle.runlog.specs.Watching.{unless_traffic}
use Rattle.runlog.specs.declared.ends.LineWatch.{LineWatch}
use Rattle.runlog.specs.declared.exchange.AwaitedAnswer.{AwaitedAnswer}
use Rattle.runlog.specs.declared.exchange.AwaitedAnswer.TheVariants as awaited
use Rattle.runlog.specs.declared.fate.Mishap.{Mishap}
use Rattle.runlog.specs.declared.fate.Mishap.TheVariants as mishap
use Rattle.runlog.specs.declared.note.LogLine.{LogLine}
use Rattle.runlog.specs.declared.queue.QueueWatch.{QueueWatch}
use Rattle.runlog.specs.declared.stations.StationWatch.{StationWatch}
use Rattle.runlog.specs.declared.traffic.Traffic.{Traffic}
use Rattle.runlog.proofs.Counted.{answered_address, command_so, line_address, mishap_so}

-- the link addresses of these stations
abbrev pub addresses_of : List Traffic → List ℕ
addresses_of ts = map (λ (t : Traffic). t.address) ts

pub record Same (a b : Watching) : Type 0 where
  pub connection : a.connection ≡ b.connection
  pub wall : a.wall ≡ b.wall
  pub moment : a.moment ≡ b.moment
  pub link : a.link ≡ b.link
  pub stations : a.stations ≡ b.stations
  pub addresses : addresses_of a.traffic ≡ addresses_of b.traffic

pub same : (w : Watching) → Same w w
same w = record {
  connection = refl;
  wall = refl;
  moment = refl;
  link = refl;
  stations = refl;
  addresses = refl;
}

-- One station's traffic is replaced by one with its address.
replaced : (ts : List Traffic) (place : ℕ) (t v : Traffic) → slice_get ts place ≡ Some t
    → v.address ≡ t.address → addresses_of (slice_set ts place v) ≡ addresses_of ts
replaced ts place t v is same =
    map-set_same (λ (x : Traffic). x.address) ts place v t
    (same ∙ sym (ap (λ (x : Traffic). x.address) (get_or_from_slice_get ts place t t is)))

-- ---- Events

unless_logged_same : (s : EndsSight) (x : LineWatch × Option LogLine) (w : Watching)
    → Same (unless_logged s (with_line x w)).0 w
unless_logged_same s (l, Some line) w = record {
  connection = refl;
  wall = refl;
  moment = refl;
  link = refl;
  stations = refl;
  addresses = refl;
}
unless_logged_same s (l, None) w = record {
  connection = refl;
  wall = refl;
  moment = refl;
  link = refl;
  stations = refl;
  addresses = refl;
}

pub seen_same : (s : EndsSight) (w : Watching) → Same (seen s w).0 w
seen_same s w =
    let x = unless_logged_same s (line_seen s.line w.moment w.line)
    (record w { syncs = s.syncs }) in
    record {
      connection = x.connection;
      wall = x.wall;
      moment = x.moment;
      link = x.link;
      stations = x.stations;
      addresses = x.addresses;
    }

suffered_by_same : (t : Option Traffic) (place : ℕ) (what : Mishap) (w : Watching)
    → slice_get w.traffic place ≡ t → Same (suffered_by t place what w) w
suffered_by_same None place what w is = same w
suffered_by_same (Some t) place what w is = record {
  connection = refl;
  wall = refl;
  moment = refl;
  link = refl;
  stations = refl;
  addresses = replaced w.traffic place t (suffered what w.moment t) is
      (mishap_so what w.moment t).address;
}

suffered_at_same : (place : Option ℕ) (what : Mishap) (w : Watching)
    → Same (suffered_at place what w) w
suffered_at_same None what w = same w
suffered_at_same (Some place) what w = suffered_by_same (slice_get w.traffic place) place what w
    refl

late_same_by : (b : Bool) (late ms : ℕ) (place : Option ℕ) (w : Watching)
    → Same (as_late late (if b then suffered_at place (mishap.Late ms) w else w)) w
late_same_by true late ms place w = let x = suffered_at_same place (mishap.Late ms) w in
    record {
      connection = x.connection;
      wall = x.wall;
      moment = x.moment;
      link = x.link;
      stations = x.stations;
      addresses = x.addresses;
    }
late_same_by false late ms place w = record {
  connection = refl;
  wall = refl;
  moment = refl;
  link = refl;
  stations = refl;
  addresses = refl;
}

pub late_same : (late : ℕ) (w : Watching) → Same (late_noted late w) w
late_same late w =
    late_same_by (nat_lt w.late late) late (exchange.lag w.exchange) w.exchange.overdue w

suffered_if_same : (b : Bool) (what : Mishap) (w : Watching) → Same (suffered_if b what w) w
suffered_if_same true what w = suffered_at_same w.exchange.before what w
suffered_if_same false what w = same w

counts_same : (counts : Counts) (w : Watching) → Same (counts_noted counts w) w
unfolding counts_noted
counts_same counts w =
    let a = suffered_if (nat_lt w.seen.lost counts.lost) mishap.GivenUp w in
    let b = suffered_if (nat_lt w.seen.mirrors counts.mirrors) mishap.MirrorDropped a in
    let x = suffered_if_same (nat_lt w.seen.lost counts.lost) mishap.GivenUp w in
    let y = suffered_if_same (nat_lt w.seen.mirrors counts.mirrors) mishap.MirrorDropped a in
    let z = suffered_if_same (nat_lt w.seen.spoilt counts.spoilt)
    (mishap.Spoilt w.exchange.spoiling) b in record {
      connection = z.connection ∙ y.connection ∙ x.connection;
      wall = z.wall ∙ y.wall ∙ x.wall;
      moment = z.moment ∙ y.moment ∙ x.moment;
      link = z.link ∙ y.link ∙ x.link;
      stations = z.stations ∙ y.stations ∙ x.stations;
      addresses = z.addresses ∙ y.addresses ∙ x.addresses;
    }

answered_same : (a : Option (Option Answer)) (t : Traffic) (place : ℕ) (w : Watching)
    → slice_get w.traffic place ≡ Some t → Same (answered_by a t place w) w
answered_same None t place w is = same w
answered_same (Some answer) t place w is = record {
  connection = refl;
  wall = refl;
  moment = refl;
  link = refl;
  stations = refl;
  addresses = replaced w.traffic place t (traffic_after answer w.sizes w.moment t) is
      (answered_address answer w.sizes w.moment t);
}

answer_noted_same : (t : Option Traffic) (place : ℕ) (w : Watching)
    → slice_get w.traffic place ≡ t → Same (answer_noted_by t place w) w
answer_noted_same None place w is = same w
answer_noted_same (Some t) place w is =
    answered_same (answer_in w.link t.address w.exchange) t place w is

answer_at_same : (place : Option ℕ) (w : Watching) → Same (answer_noted_at place w) w
answer_at_same None w = same w
answer_at_same (Some place) w = answer_noted_same (slice_get w.traffic place) place w refl

pub line_received_same : (octets : List ℕ) (w : Watching) → Same (line_received octets w) w
line_received_same octets w =
    let v : Watching =
    record w { exchange = exchange.received w.link octets w.moment w.exchange } in
    let x = answer_at_same w.exchange.place v in
    record {
      connection = x.connection;
      wall = x.wall;
      moment = x.moment;
      link = x.link;
      stations = x.stations;
      addresses = x.addresses;
    }

received_by : (b : Bool) (v w : Watching) → Same v w → Same (if b then v else w) w
received_by true v w x = x
received_by false v w x = same w

pub received_same : (octets : List ℕ) (w : Watching) → Same (received octets w) w
received_same octets w = received_by (is_some w.connection.opening)
    (record w { inbox = inbox.received octets w.inbox }) w
    (record {
      connection = refl;
      wall = refl;
      moment = refl;
      link = refl;
      stations = refl;
      addresses = refl;
    })

-- ---- Actions

sent_by_so : (b : Bool) (t : Traffic) (place : ℕ) (octets : List ℕ) (now : ℕ) (w : Watching)
    → addresses_of (sent_to t place octets now w).traffic ≡ addresses_of w.traffic
    → Same (if b then w else sent_to t place octets now w) w
sent_by_so true t place octets now w are = same w
sent_by_so false t place octets now w are = record {
  connection = refl;
  wall = refl;
  moment = refl;
  link = refl;
  stations = refl;
  addresses = are;
}

sent_by_same : (t : Option Traffic) (place : ℕ) (octets : List ℕ) (now : ℕ) (w : Watching)
    → slice_get w.traffic place ≡ t → Same (sent_by t place octets now w) w
sent_by_same None place octets now w is = same w
sent_by_same (Some t) place octets now w is =
    let v = traffic.sent (order_at octets w) t in
    sent_by_so (is_repeat place octets w) t place octets now w
    (replaced w.traffic place t v is (command_so (order_at octets w) t).address)

sent_at_same : (place : Option ℕ) (what : AwaitedAnswer) (octets : List ℕ) (now : ℕ)
    (w : Watching)
    → Same (sent_at place what octets now w) w
sent_at_same None awaited.Command octets now w = same w
sent_at_same None awaited.Poll octets now w = same w
sent_at_same None awaited.Nothing octets now w = same w
sent_at_same None awaited.Status octets now w = same w
sent_at_same None awaited.Reset octets now w = same w
sent_at_same (Some place) awaited.Command octets now w =
    sent_by_same (slice_get w.traffic place) place octets now w refl
sent_at_same (Some place) awaited.Poll octets now w = same w
sent_at_same (Some place) awaited.Nothing octets now w = same w
sent_at_same (Some place) awaited.Status octets now w = same w
sent_at_same (Some place) awaited.Reset octets now w = same w

-- a request changes the stations, and nothing else of these
pub asked_same : (octets : List ℕ) (now : ℕ) (w : Watching)
    → Same (asked octets now w).0 (record w { stations = (asked octets now w).0.stations })
asked_same octets now w =
    let place = exchange.place_of (stations.address_of w.link octets) w.traffic in
    let what = exchange.awaited_of octets in
    let v : Watching =
    record w { exchange = exchange.asked w.link octets place what now w.exchange } in
    let x = sent_at_same place what octets now v in
    record {
      connection = x.connection;
      wall = x.wall;
      moment = x.moment;
      link = x.link;
      stations = refl;
      addresses = x.addresses;
    }

-- and those as one that goes out to its station
pub asked_stations : (octets : List ℕ) (now : ℕ) (w : Watching)
    → ((asked octets now w).0.stations, (asked octets now w).1)
    ≡ unless_away (is_away w.line.presence) (stations.asked w.link octets now w.stations) w.stations
asked_stations octets now w =
    let place = exchange.place_of (stations.address_of w.link octets) w.traffic in
    let what = exchange.awaited_of octets in
    let v : Watching =
    record w { exchange = exchange.asked w.link octets place what now w.exchange } in
    let x = sent_at_same place what octets now v in
    let away = is_away w.line.presence in
    let ws = (sent_at place what octets now v).stations in
    ap (λ size. unless_away away (stations.asked size octets now ws) ws) x.link
    ∙ ap (λ ws. unless_away away (stations.asked w.link octets now ws) ws) x.stations

away_by : (b : Bool) (x : List StationWatch × Option LogLine) (ws : List StationWatch)
    → unless_away b x ws ≡ (if b then (ws, None) else x)
away_by true x ws = refl
away_by false x ws = refl

pub asked_if_there : (octets : List ℕ) (now : ℕ) (w : Watching)
    → ((asked octets now w).0.stations, (asked octets now w).1)
    ≡ (if is_away w.line.presence then (w.stations, None)
    else stations.asked w.link octets now w.stations)
asked_if_there octets now w = asked_stations octets now w
    ∙ away_by (is_away w.line.presence) (stations.asked w.link octets now w.stations) w.stations

-- ---- Looks

abbrev one_of : Bool → (x y : Watching × Option LogLine) → Watching × Option LogLine
one_of b x y = if b then x else y

queue_same : (counts : Counts) (taken : ℕ) (q : QueueWatch × Option LogLine) (w : Watching)
    → Same (unless_queue counts taken q w).0 w
queue_same counts taken (queue, Some line) w =
    record {
      connection = refl;
      wall = refl;
      moment = refl;
      link = refl;
      stations = refl;
      addresses = refl;
    }
queue_same counts taken (queue, None) w =
    counted_by (nat_lt (w.moment - w.counted) 60000)
  where
    counted_by : (b : Bool) → Same (one_of b (record w { queue = queue }, None) (
      record w { queue = queue; counted = w.moment },
      Some (watching.sum_line counts taken (record w { queue = queue })),
    )).0 w
    counted_by true = record {
      connection = refl;
      wall = refl;
      moment = refl;
      link = refl;
      stations = refl;
      addresses = refl;
    }
    counted_by false = record {
      connection = refl;
      wall = refl;
      moment = refl;
      link = refl;
      stations = refl;
      addresses = refl;
    }

looked_at_same : (counts : Counts) (taken : ℕ) (w : Watching)
    → Same (looked_at counts taken w).0 w
looked_at_same counts taken w =
    let v : Watching = record w { looked = w.moment } in
    let x = queue_same counts taken (queue_seen taken w.places w.moment w.queue) v in
    record {
      connection = x.connection;
      wall = x.wall;
      moment = x.moment;
      link = x.link;
      stations = x.stations;
      addresses = x.addresses;
    }

due_same : (b : Bool) (v w : Watching) (line : Option LogLine) → Same v w
    → Same (one_of b (v, line) (w, None)).0 w
due_same true v w line x = x
due_same false v w line x = same w

looked_if_due_same : (s : State) (w : Watching) → Same (looked_if_due s w).0 w
looked_if_due_same s w =
    due_same (is_look_due w) (looked_at (counts_of s) (taken_in s) w).0 w
    (looked_at (counts_of s) (taken_in s) w).1 (looked_at_same (counts_of s) (taken_in s) w)

lines_addresses : (now : ℕ) (ts : List Traffic)
    → addresses_of (first_line now ts).0 ≡ addresses_of ts
lines_addresses now [] = refl
lines_addresses now (t ∷ ts) =
    by (traffic_line now t) (line_address now t) (lines_addresses now ts)
  where
    by : (x : Traffic × Option LogLine) → x.0.address ≡ t.address
        → addresses_of (first_line now ts).0 ≡ addresses_of ts
        → addresses_of (first_by x ts (first_line now ts)).0 ≡ addresses_of (t ∷ ts)
    by (v, Some line) is rest = ap (λ n. n ∷ addresses_of ts) is
    by (v, None) is rest = ap (λ n. n ∷ addresses_of (first_line now ts).0) is
        ∙ ap (λ ns. t.address ∷ ns) rest

traffic_same : (x : List Traffic × Option LogLine) (w : Watching)
    → addresses_of x.0 ≡ addresses_of w.traffic → Same (unless_traffic x w).0 w
traffic_same (ts, Some line) w are = record {
  connection = refl;
  wall = refl;
  moment = refl;
  link = refl;
  stations = refl;
  addresses = are;
}
traffic_same (ts, None) w are = record {
  connection = refl;
  wall = refl;
  moment = refl;
  link = refl;
  stations = refl;
  addresses = are;
}

inbox_same : (x : Inbox × Option LogLine) (w : Watching) → Same (unless_inbox x w).0 w
inbox_same (b, Some line) w = record {
  connection = refl;
  wall = refl;
  moment = refl;
  link = refl;
  stations = refl;
  addresses = refl;
}
inbox_same (b, None) w =
    let v : Watching = record w { inbox = b } in
    let x = traffic_same (first_line w.moment w.traffic) v
    (lines_addresses w.moment w.traffic) in
    record {
      connection = x.connection;
      wall = x.wall;
      moment = x.moment;
      link = x.link;
      stations = x.stations;
      addresses = x.addresses;
    }

gathered_by : (b : Bool) (v w : Watching) (line : Option LogLine) → Same v w
    → Same (one_of b (w, None) (v, line)).0 w
gathered_by true v w line x = same w
gathered_by false v w line x = x

gathered_same : (w : Watching) → Same (gathered w).0 w
gathered_same w =
    let v : Watching = record w { sought = w.moment } in
    let found = unless_inbox (inbox.line_of w.moment w.inbox) v in
    let x = inbox_same (inbox.line_of w.moment w.inbox) v in
    gathered_by (w.sought == w.moment) found.0 w found.1
    (record {
      connection = x.connection;
      wall = x.wall;
      moment = x.moment;
      link = x.link;
      stations = x.stations;
      addresses = x.addresses;
    })

unless_line_same : (x : Watching × Option LogLine) → Same (unless_line x).0 x.0
unless_line_same (w, Some line) = same w
unless_line_same (w, None) = gathered_same w

judged_same : (s : State) (w : Watching) → Same (judged s w) w
judged_same s w =
    let v : Watching =
    come_behind (record w { inbox = inbox.judged s w.connection.peer w.inbox }) in
    let x = counts_same (counts_of s) v in
    record {
      connection = x.connection;
      wall = x.wall;
      moment = x.moment;
      link = x.link;
      stations = x.stations;
      addresses = x.addresses;
    }

pub looked_same : (s : State) (w : Watching) → Same (looked s w).0 w
looked_same s w =
    let v = judged s w in
    let x = unless_line_same (looked_if_due s v) in
    let y = looked_if_due_same s v in
    let z = judged_same s w in record {
      connection = x.connection ∙ y.connection ∙ z.connection;
      wall = x.wall ∙ y.wall ∙ z.wall;
      moment = x.moment ∙ y.moment ∙ z.moment;
      link = x.link ∙ y.link ∙ z.link;
      stations = x.stations ∙ y.stations ∙ z.stations;
      addresses = x.addresses ∙ y.addresses ∙ z.addresses;
    }
