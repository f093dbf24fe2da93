-- Which line follows from what passes the port (this gateway's own profile).
use Rattle.std.specs.Io.Iter.{u64_saturate}
use Rattle.std.specs.Prelude.{ℕ, ◌+◌, ◌-◌, ◌==◌, nat_le, nat_lt, Bool, true, false, not, List, []}
use Rattle.std.specs.Prelude.{map, take, slice_get, slice_set, Option, Some, None, is_some}
use Rattle.std.specs.Prelude.{option_map, if◌then◌else◌}
use Rattle.ft12.specs.declared.frame.LinkSize.{LinkSize}
use Rattle.session.specs.declared.kinds.Close.{Close}
use Rattle.session.specs.declared.kinds.Close.TheVariants as close
use Rattle.gateway.specs.Config.{Settings}
use Rattle.gateway.specs.State.{State, counts_of}
use Rattle.gateway.specs.Log.{Output, LineOut, TcpOut, Closed, GapOut}
use Rattle.gateway.specs.declared.counts.Counts.{Counts}
use Rattle.gateway.specs.declared.ports.Next.{Next}
use Rattle.gateway.specs.declared.ports.Next.TheVariants as next
use Rattle.gateway.specs.declared.settings.StationSettings.{StationSettings}
use Rattle.live.specs.declared.watched.Failure.{Failure}
use Rattle.live.specs.declared.watched.Failure.TheVariants as failure
use Rattle.live.specs.declared.watched.EndsSight.{EndsSight}
use Rattle.live.specs.Syncs.{no_sync}
use Rattle.live.specs.declared.ends.Presence.TheVariants.{Away}
use Rattle.live.specs.declared.syncs.SyncTimes.{SyncTimes}
use Rattle.runlog.specs.Ends.{new_limit, changed, new_line, new_listener, new_connection}
use Rattle.runlog.specs.Ends.{line_seen}
use Rattle.runlog.specs.Ends.{listener_seen, connection_opened, connection_cut, connection_sent}
use Rattle.runlog.specs.Ends.{connection_closed, is_away}
use Rattle.runlog.specs.Inbox as inbox
use Rattle.runlog.specs.Inbox.{Inbox, new_inbox}
use Rattle.asdu.specs.declared.sizes.Sizes.{Sizes}
use Rattle.link.specs.declared.answer.Answer.{Answer}
use Rattle.runlog.specs.Exchange as exchange
use Rattle.runlog.specs.Exchange.{RequestWatch, new_exchange, begun, over, awaited_of, place_of}
use Rattle.runlog.specs.Exchange.{user_data, answer_in, traffic_after}
use Rattle.runlog.specs.Latest.{latest_with}
use Rattle.runlog.specs.Limits.{none_left}
use Rattle.runlog.specs.Orders.{order_of}
use Rattle.runlog.specs.SyncLines.{new_syncs, syncs_seen}
use Rattle.runlog.specs.Traffic as traffic
use Rattle.runlog.specs.Traffic.{answer_told, first_line, mishap_told, new_traffics}
use Rattle.runlog.specs.Trails.{appended, fate_told, is_told}
use Rattle.runlog.specs.declared.exchange.AwaitedAnswer.{AwaitedAnswer}
use Rattle.runlog.specs.declared.exchange.AwaitedAnswer.TheVariants as awaited
use Rattle.runlog.specs.declared.fate.CommandFate.TheVariants as fate
use Rattle.runlog.specs.declared.fate.Mishap.{Mishap}
use Rattle.runlog.specs.declared.fate.Mishap.TheVariants as mishap
use Rattle.runlog.specs.declared.order.Order.{Order}
use Rattle.runlog.specs.declared.syncs.SyncWatch.{SyncWatch}
use Rattle.runlog.specs.declared.traffic.Traffic.{Traffic}
use Rattle.runlog.specs.declared.watch.WallShown.{WallShown}
use Rattle.runlog.specs.Stations as stations
use Rattle.runlog.specs.Stations.{new_station}
use Rattle.runlog.specs.declared.ends.LineWatch.{LineWatch}
use Rattle.runlog.specs.declared.ends.ListenerWatch.{ListenerWatch}
use Rattle.runlog.specs.declared.ends.ConnectionWatch.{ConnectionWatch}
use Rattle.runlog.specs.declared.note.LogLine.{LogLine}
use Rattle.runlog.specs.declared.note.Note.{Note}
use Rattle.runlog.specs.declared.note.Note.TheVariants as note
use Rattle.runlog.specs.declared.note.RunCounts.{RunCounts}
use Rattle.runlog.specs.declared.note.Trouble.TheVariants.{StateUnusable}
use Rattle.runlog.specs.declared.queue.QueueWatch.{QueueWatch}
use Rattle.runlog.specs.declared.stations.StationWatch.{StationWatch}

-- The queue: it is full if fewer than three places are free, so that a report might find none

abbrev pub new_queue : QueueWatch
new_queue = record { is_full = false; full = new_limit; free = new_limit }

abbrev pub is_full : (taken places : ℕ) → Bool
is_full taken places = nat_lt (places - taken) 3

abbrev pub queue_logged : (is_full : Bool) → Option LogLine → QueueWatch → QueueWatch
    × Option LogLine
queue_logged is_full None w = (w, None)
queue_logged is_full (Some line) w = (record w { is_full = is_full }, Some line)

abbrev pub queue_by : (was is : Bool) → (now : ℕ) → QueueWatch → QueueWatch × Option LogLine
queue_by false true now w = let logged = changed note.QueueFull w.full now in
    queue_logged true logged.1 (record w { full = logged.0 })
queue_by true false now w = let logged = changed note.QueueFree w.free now in
    queue_logged false logged.1 (record w { free = logged.0 })
queue_by true true now w = (w, None)
queue_by false false now w = (w, None)

abbrev pub queue_seen : (taken places now : ℕ) → QueueWatch → QueueWatch × Option LogLine
queue_seen taken places now w = queue_by w.is_full (is_full taken places) now w

-- The whole

-- the moment of the latest event; when the queue was looked at and the counts were logged last; how
-- long a link address is, and how many places the queue has; and what was logged of each part
pub record Watching : Type 0 where
  pub moment : ℕ
  pub looked : ℕ
  pub counted : ℕ
  pub link : LinkSize
  pub places : ℕ
  pub line : LineWatch
  pub listener : ListenerWatch
  pub connection : ConnectionWatch
  pub queue : QueueWatch
  pub inbox : Inbox
  -- the sizes of the line's ASDUs
  pub sizes : Sizes
  pub exchange : RequestWatch
  -- what the gateway had counted when it was looked at last
  pub seen : Counts
  -- how many octets of the line were dropped before requests, as far as that was seen
  pub late : ℕ
  -- how long syncs of the state took, as far as that was seen, and what was logged of them
  pub syncs : SyncTimes
  pub slow : SyncWatch
  -- when a line was sought among what is gathered
  pub sought : ℕ
  -- what the wall clock showed last
  pub wall : Option WallShown
  pub stations : List StationWatch
  pub traffic : List Traffic
  -- what became of commands since that was told last; and the commands that went out to the line in
  -- the latest step, which are told behind what else it did
  pub trail : List LogLine
  pub gone : List LogLine
  -- the latest lines, the newest first
  pub latest : List LogLine

abbrev pub new_stations : (tries : ℕ) → List StationSettings → List StationWatch
new_stations tries settings = map (λ (s : StationSettings). new_station tries s.address) settings

abbrev pub new_watching : Settings → Watching
new_watching c = record {
  moment = 0;
  looked = 0;
  counted = 0;
  link = c.line.link;
  places = c.line.queue;
  line = new_line;
  listener = new_listener;
  connection = new_connection;
  queue = new_queue;
  inbox = new_inbox;
  sizes = c.line.sizes;
  exchange = new_exchange c.line.answer_ms;
  seen = record { skipped = 0; mirrors = 0; lost = 0; spoilt = 0 };
  late = 0;
  syncs = no_sync;
  slow = new_syncs;
  sought = 0;
  wall = None;
  trail = [];
  gone = [];
  latest = [];
  traffic = new_traffics c.stations;
  stations = new_stations (c.line.retries + 1) c.stations;
}

abbrev pub with_line : LineWatch × Option LogLine → Watching → Watching × Option LogLine
with_line logged w = (record w { line = logged.0 }, logged.1)

abbrev pub with_listener : ListenerWatch × Option LogLine → Watching → Watching × Option LogLine
with_listener logged w = (record w { listener = logged.0 }, logged.1)

abbrev pub with_connection : ConnectionWatch × Option LogLine → Watching → Watching × Option LogLine
with_connection logged w = (record w { connection = logged.0 }, logged.1)

abbrev pub with_stations : List StationWatch × Option LogLine → Watching → Watching × Option LogLine
with_stations logged w = (record w { stations = logged.0 }, logged.1)

-- the listener is seen, unless the line had something to log: an event has one line at most
abbrev pub unless_logged : EndsSight → Watching × Option LogLine → Watching × Option LogLine
unless_logged s (w, Some line) = (w, Some line)
unless_logged s (w, None) = with_listener (listener_seen s.refused w.moment w.listener) w

abbrev pub seen : EndsSight → Watching → Watching × Option LogLine
seen s w =
    unless_logged s (with_line (line_seen s.line w.moment w.line) (record w { syncs = s.syncs }))

-- an event begins
abbrev pub at : ℕ → Watching → Watching
at now w = record w { moment = now; exchange = begun w.exchange }

-- octets came on the connection, if one is open
abbrev pub received : List ℕ → Watching → Watching
received octets w =
    if is_some w.connection.opening then record w { inbox = inbox.received octets w.inbox } else w

-- what waits never goes out, since its connection has ended: that is told
abbrev pub lost_at : ℕ → Inbox → Watching → Watching
lost_at now b w = record w {
  inbox = inbox.lost b;
  trail = inbox.unsent_told now b.orders.waiting w.trail;
}

-- nothing has come on a connection that begins or is cut
abbrev pub at_end : ℕ → Watching → Watching
at_end now w = lost_at now (inbox.emptied w.inbox) (at now w)

-- ---- The line

abbrev pub answered_by : Option (Option Answer) → Traffic → (place : ℕ) → Watching → Watching
answered_by None t place w = w
answered_by (Some answer) t place w = record w {
  exchange = over w.exchange;
  traffic = slice_set w.traffic place (traffic_after answer w.sizes w.moment t);
  trail = answer_told answer w.sizes w.moment t w.trail;
}

abbrev pub answer_noted_by : Option Traffic → (place : ℕ) → Watching → Watching
answer_noted_by None place w = w
answer_noted_by (Some t) place w =
    answered_by (answer_in w.link t.address w.exchange) t place w

-- the station at this place may have answered
abbrev pub answer_noted : (place : ℕ) → Watching → Watching
answer_noted place w = answer_noted_by (slice_get w.traffic place) place w

abbrev pub answer_noted_at : Option ℕ → Watching → Watching
answer_noted_at None w = w
answer_noted_at (Some place) w = answer_noted place w

-- octets came from the line
abbrev pub line_received : List ℕ → Watching → Watching
line_received octets w =
    answer_noted_at w.exchange.place
    (record w { exchange = exchange.received w.link octets w.moment w.exchange })

abbrev pub is_repeat_by : Option StationWatch → List ℕ → Bool
is_repeat_by None octets = false
is_repeat_by (Some station) octets = stations.is_repeat (stations.asking_of octets) station

abbrev pub is_repeat : (place : ℕ) → List ℕ → Watching → Bool
is_repeat place octets w = is_repeat_by (slice_get w.stations place) octets

abbrev pub order_at : List ℕ → Watching → Option Order
order_at octets w = order_of w.sizes (user_data w.link octets)

-- it went out for the first time, at this moment
abbrev pub sent_to : Traffic → (place : ℕ) → List ℕ → (now : ℕ) → Watching → Watching
sent_to t place octets now w = record w {
  traffic = slice_set w.traffic place (traffic.sent (order_at octets w) t);
  gone = fate_told (Some fate.Sent) (order_at octets w) t.address now w.gone;
  inbox = inbox.gone_out (order_at octets w) w.inbox;
}

abbrev pub sent_by : Option Traffic → (place : ℕ) → List ℕ → (now : ℕ) → Watching → Watching
sent_by None place octets now w = w
sent_by (Some t) place octets now w =
    if is_repeat place octets w then w else sent_to t place octets now w

-- a command goes out, for the first time or again
abbrev pub command_sent : (place : ℕ) → List ℕ → (now : ℕ) → Watching → Watching
command_sent place octets now w = sent_by (slice_get w.traffic place) place octets now w

abbrev pub sent_at : Option ℕ → AwaitedAnswer → List ℕ → (now : ℕ) → Watching → Watching
sent_at (Some place) awaited.Command octets now w = command_sent place octets now w
sent_at place what octets now w = w

abbrev pub exchanged : Option ℕ → AwaitedAnswer → List ℕ → (now : ℕ) → Watching → Watching
exchanged place what octets now w =
    sent_at place what octets now
    (record w { exchange = exchange.asked w.link octets place what now w.exchange })

-- a request goes out
-- While the line is away a request reaches no station: nothing is noted or logged of one.
abbrev pub unless_away : (is_away : Bool) → List StationWatch × Option LogLine
    → (before : List StationWatch) → List StationWatch × Option LogLine
unless_away is_away x before =
    (if is_away then before else x.0, if is_away then None else x.1)

abbrev pub asked : List ℕ → (now : ℕ) → Watching → Watching × Option LogLine
asked octets now w =
    let v = exchanged (place_of (stations.address_of w.link octets) w.traffic)
    (awaited_of octets) octets now w in
    with_stations (unless_away (is_away w.line.presence)
    (stations.asked v.link octets now v.stations) v.stations) v

abbrev pub suffered_by : Option Traffic → (place : ℕ) → Mishap → Watching → Watching
suffered_by None place what w = w
suffered_by (Some t) place what w = record w {
  traffic = slice_set w.traffic place (traffic.suffered what w.moment t);
  trail = mishap_told what w.moment t w.trail;
}

-- this befell the station at this place, if there is one
abbrev pub suffered : (place : ℕ) → Mishap → Watching → Watching
suffered place what w = suffered_by (slice_get w.traffic place) place what w

abbrev pub suffered_at : Option ℕ → Mishap → Watching → Watching
suffered_at None what w = w
suffered_at (Some place) what w = suffered place what w

abbrev pub suffered_if : Bool → Mishap → Watching → Watching
suffered_if is_so what w = if is_so then suffered_at w.exchange.before what w else w

abbrev pub as_seen : Counts → Watching → Watching
as_seen counts w = record w { seen = counts }

-- The gateway counted more commands that it gave up, more answers to commands that it dropped, or
-- more exchanges that were spoilt: that befell the station that was asked last before the latest
-- event.
unfoldable pub counts_noted : Counts → Watching → Watching
counts_noted counts w =
    as_seen counts (suffered_if (nat_lt w.seen.spoilt counts.spoilt)
    (mishap.Spoilt w.exchange.spoiling)
    (suffered_if (nat_lt w.seen.mirrors counts.mirrors) mishap.MirrorDropped
    (suffered_if (nat_lt w.seen.lost counts.lost) mishap.GivenUp w)))

abbrev pub as_late : (late : ℕ) → Watching → Watching
as_late late w = record w { late = late }

-- More octets of the line were dropped before the latest request: they came late from the station
-- that was asked before it.
abbrev pub late_noted : (late : ℕ) → Watching → Watching
late_noted late w =
    as_late late
    (if nat_lt w.late late
    then suffered_at w.exchange.overdue (mishap.Late (exchange.lag w.exchange)) w else w)

-- the wall clock shows this at that moment
abbrev pub walled : (now shown : ℕ) → Watching → Watching
walled now shown w = record w { wall = Some (record { moment = now; shown = shown }) }

-- what it shows at the moment of the latest event, as the run's clock has gone on since
abbrev pub wall_at : (now : ℕ) → WallShown → ℕ
wall_at now wall = u64_saturate (wall.shown + (now - wall.moment))

abbrev pub wall_of : Watching → Option ℕ
wall_of w = option_map (wall_at w.moment) w.wall

-- An event, whose octets are the front of the buffer: a connection that is opened or cut; after any
-- other the ends are seen.
abbrev pub came : Next → List ℕ → EndsSight → Watching → Watching × Option LogLine
came (next.Open now) buf s w =
    with_connection (connection_opened s.peer now w.connection) (at_end now w)
came (next.Cut now) buf s w =
    with_connection (connection_cut s.why_cut now w.connection) (at_end now w)
came (next.Line now len) buf s w = seen s (line_received (take len buf) (at now w))
came (next.Bytes now len) buf s w = seen s (received (take len buf) (at now w))
came (next.Tick now) buf s w = seen s (at now w)
came (next.Wall now number) buf s w = seen s (walled now number (at now w))
came next.Fault buf s w = (w, None)
came next.Done buf s w = (w, None)

-- and what was late before it is noted first
abbrev pub event_noted : Next → List ℕ → EndsSight → Watching → Watching × Option LogLine
event_noted event buf s w = came event buf s (late_noted s.late_octets w)

abbrev pub inbox_after : Close → Inbox → Inbox
inbox_after close.Replaced b = b
inbox_after cause b = inbox.closed b

-- the gateway closes the connection
abbrev pub closed : Close → (now : ℕ) → Watching → Watching × Option LogLine
closed cause now w = with_connection (connection_closed cause now w.connection)
    (lost_at now (inbox_after cause w.inbox) w)

-- An action: a request to a station, an APDU, the close of the connection, or a gap in what a
-- station reported.
abbrev pub put : (now : ℕ) → Output → Watching → Watching × Option LogLine
put now (LineOut octets) w = asked octets now w
put now (TcpOut octets) w = with_connection (connection_sent octets now w.connection) w
put now (Closed cause) w = closed cause now w
put now (GapOut station session) w = with_stations (stations.gap station now w.stations) w

-- Once a second the queue is looked at, and once a minute the counts are logged.

abbrev pub is_look_due : Watching → Bool
is_look_due w = nat_le 1000 (w.moment - w.looked)

abbrev pub tally : Counts → (taken : ℕ) → Watching → RunCounts
tally counts taken w = record {
  counts = counts;
  taken = taken;
  places = w.places;
  connections = w.connection.count;
}

abbrev pub line_of : Note → Watching → LogLine
line_of what w = record { moment = w.moment; note = what; left_out = none_left }

-- The device failed: that the line is away, or that the state can't be kept; nothing if it didn't.
abbrev pub failed : Option Failure → Watching → Watching × Option LogLine
failed None w = (w, None)
failed (Some failure.Line) w = with_line (line_seen (Away None) w.moment w.line) w
failed (Some failure.State) w = (w, Some (line_of (note.Trouble StateUnusable) w))

abbrev pub sum_line : Counts → (taken : ℕ) → Watching → LogLine
sum_line counts taken w = line_of (note.Counts (tally counts taken w)) w

abbrev pub counted : Counts → (taken : ℕ) → Watching → Watching × Option LogLine
counted counts taken w =
    if nat_lt (w.moment - w.counted) 60000
    then (w, None)
    else (record w { counted = w.moment }, Some (sum_line counts taken w))

abbrev pub unless_queue : Counts → (taken : ℕ) → QueueWatch × Option LogLine → Watching
    → Watching × Option LogLine
unless_queue counts taken (queue, Some line) w = (record w { queue = queue }, Some line)
unless_queue counts taken (queue, None) w = counted counts taken (record w { queue = queue })

abbrev pub looked_at : Counts → (taken : ℕ) → Watching → Watching × Option LogLine
looked_at counts taken w =
    unless_queue counts taken (queue_seen taken w.places w.moment w.queue)
    (record w { looked = w.moment })

-- Between two steps

-- the commands that came in the latest step and go on are told
abbrev pub come_behind : Watching → Watching
come_behind w = record w {
  inbox = inbox.handed_on w.inbox;
  trail = appended w.inbox.orders.ordered w.trail;
}

-- and those that went out in it, behind all else
abbrev pub gone_behind : Watching → Watching
gone_behind w = record w { trail = appended w.gone w.trail; gone = [] }

-- what became of the commands that came in the latest step, and what was counted in it
abbrev pub judged : State → Watching → Watching
judged s w =
    gone_behind (counts_noted (counts_of s)
    (come_behind (record w { inbox = inbox.judged s w.connection.peer w.inbox })))

-- something is to be told of commands
abbrev pub has_trail : Watching → Bool
has_trail w = not (is_told w.trail)

-- a line is logged, or would be
abbrev pub heard : LogLine → Watching → Watching
heard line w = record w { latest = latest_with line w.latest }

abbrev pub heard_if : Option LogLine → Watching → Watching
heard_if None w = w
heard_if (Some line) w = heard line w

-- what became of commands is told
abbrev pub told : Watching → Watching
told w = record w { trail = [] }

abbrev pub syncs_logged : Watching → Watching × Option LogLine
syncs_logged w =
    let logged = syncs_seen w.syncs w.moment w.slow in (record w { slow = logged.0 }, logged.1)

abbrev pub unless_traffic : List Traffic × Option LogLine → Watching → Watching × Option LogLine
unless_traffic (traffic, Some line) w = (record w { traffic = traffic }, Some line)
unless_traffic (traffic, None) w = syncs_logged (record w { traffic = traffic })

abbrev pub traffic_logged : Watching → Watching × Option LogLine
traffic_logged w = unless_traffic (first_line w.moment w.traffic) w

abbrev pub unless_inbox : Inbox × Option LogLine → Watching → Watching × Option LogLine
unless_inbox (b, Some line) w = (record w { inbox = b }, Some line)
unless_inbox (b, None) w = traffic_logged (record w { inbox = b })

-- the next line of what was gathered, which is sought once a ms
abbrev pub gathered : Watching → Watching × Option LogLine
gathered w =
    if w.sought == w.moment then (w, None)
    else unless_inbox (inbox.line_of w.moment w.inbox) (record w { sought = w.moment })

abbrev pub unless_line : Watching × Option LogLine → Watching × Option LogLine
unless_line (w, Some line) = (w, Some line)
unless_line (w, None) = gathered w
