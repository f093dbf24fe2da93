-- What is logged of the commands that come from the control centre (IEC 60870-5-104, 5, for the
-- frames; the lines are this gateway's own profile).
use Rattle.std.specs.Prelude.{ℕ, zero, suc, ◌+◌, ◌-◌, ◌%◌, ◌==◌, ◌&&◌, nat_le, Bool, true}
use Rattle.std.specs.Prelude.{false, List, [], ◌∷◌, ◌++◌, length, take, drop}
use Rattle.std.specs.Prelude.{Option, Some, None, if◌then◌else◌}
use Rattle.std.specs.declared.net.ip_addr.IpAddr.{IpAddr}
use Rattle.asdu.specs.Sizes.{tcp}
use Rattle.command.specs.Refusals.{Seen, seen_judged, glance_of}
use Rattle.command.specs.declared.refusal.Refusal.{Refusal}
use Rattle.gateway.specs.State.{State, wall_now}
use Rattle.runlog.specs.Gathering.{nothing, added}
use Rattle.runlog.specs.Gathering as gathering
use Rattle.runlog.specs.OrderLists.{come, one_behind, sent, without}
use Rattle.runlog.specs.Orders.{octet, order_of}
use Rattle.runlog.specs.Trails.{added as told}
use Rattle.runlog.specs.declared.fate.Reason.TheVariants as reason
use Rattle.runlog.specs.declared.gathered.Gathered.{Gathered}
use Rattle.runlog.specs.declared.note.LogLine.{LogLine}
use Rattle.runlog.specs.declared.note.Note.TheVariants as note
use Rattle.runlog.specs.declared.order.Order.{Order}

-- what a judgement looked at before the commands that come; those of the latest step that go on,
-- which are to be told; and those that are refused
pub record Orders : Type 0 where
  pub seen : Seen
  pub ordered : List LogLine
  pub refused : Gathered
  -- those that wait for the line, and those that went out to it in the latest step before they were
  -- seen to come
  pub waiting : List Order
  pub early : List Order

-- what came in the latest step behind what wasn't whole before, and whether the connection was
-- closed in it
pub record Inbox : Type 0 where
  pub octets : List ℕ
  pub is_closed : Bool
  pub orders : Orders

abbrev pub new_orders : Orders
new_orders = record {
  seen = record { waiting = 0; selections = [] };
  ordered = [];
  refused = nothing;
  waiting = [];
  early = [];
}

abbrev pub new_inbox : Inbox
new_inbox = record { octets = []; is_closed = false; orders = new_orders }

-- a connection begins, or is cut: nothing has come on it
abbrev pub emptied : Inbox → Inbox
emptied b = record b { octets = []; is_closed = false }

-- as many octets as there is place for
abbrev pub received : List ℕ → Inbox → Inbox
received octets b = record b {
  octets = b.octets ++ take (1279 - length b.octets) octets;
}

abbrev pub closed : Inbox → Inbox
closed b = record b { is_closed = true }

-- ---- One command

-- it waits, if it isn't out already
abbrev pub waits_by : Option ℕ → Order → Orders → Orders
waits_by None o c = record c { waiting = one_behind o c.waiting }
waits_by (Some place) o c = record c { early = without place c.early }

abbrev pub waits : Order → Orders → Orders
waits o c = waits_by (sent o c.early) o c

-- it goes out to the line so
abbrev pub gone_by : Option ℕ → Order → Orders → Orders
gone_by None o c = record c { early = one_behind o c.early }
gone_by (Some place) o c = record c { waiting = without place c.waiting }

abbrev pub gone : Order → Orders → Orders
gone o c = gone_by (come o c.waiting) o c

abbrev pub gone_out : Option Order → Inbox → Inbox
gone_out None b = b
gone_out (Some o) b = record b { orders = gone o b.orders }

-- its connection has ended, and nothing waits any more
abbrev pub lost : Inbox → Inbox
lost b = record b { orders = record b.orders { waiting = [] } }

abbrev pub unsent_told : (now : ℕ) → List Order → List LogLine → List LogLine
unsent_told now [] lines = lines
unsent_told now (o ∷ os) lines = unsent_told now os (told (note.Unsent o) now lines)

-- it goes on to its station, or is refused by a rule
abbrev pub rule_noted : Option Refusal × Seen → (now : ℕ) → Option IpAddr → Order → Orders → Orders
rule_noted (None, seen) now peer o c =
    waits o (record c { seen = seen; ordered = told (note.Ordered o peer) now c.ordered })
rule_noted (Some rule, seen) now peer o c =
    record c { seen = seen; refused = added (note.Refused o peer (reason.Rule rule)) now c.refused }

-- If the connection was closed in the step in which it came, it goes nowhere.
abbrev pub order_noted : State → (is_closed : Bool) → Option IpAddr → List ℕ → Order → Orders
    → Orders
order_noted s true peer asdu o c =
    record c { refused = added (note.Refused o peer reason.Closed) s.moment c.refused }
order_noted s false peer asdu o c = rule_noted
    (seen_judged s.serial.commands asdu s.moment (wall_now s) c.seen) s.moment peer o c

abbrev pub asdu_by : Option Order → State → (is_closed : Bool) → Option IpAddr → List ℕ → Orders
    → Orders
asdu_by None s is_closed peer asdu c = c
asdu_by (Some o) s is_closed peer asdu c = order_noted s is_closed peer asdu o c

abbrev pub asdu_noted : State → (is_closed : Bool) → Option IpAddr → List ℕ → Orders → Orders
asdu_noted s is_closed peer asdu c = asdu_by (order_of tcp asdu) s is_closed peer asdu c

-- ---- APDUs, of which the second octet says how many octets follow

abbrev pub apdu_len : List ℕ → ℕ
apdu_len octets = octet octets 1 + 2

-- It begins with 68h, and 4 to 253 octets follow (5.1).
abbrev pub begins_apdu : List ℕ → Bool
begins_apdu octets =
    (octet octets 0 == 0x68) && (nat_le 4 (octet octets 1) && nat_le (octet octets 1) 253)

abbrev pub is_whole : List ℕ → Bool
is_whole octets =
    nat_le 2 (length octets)
    && (begins_apdu octets && nat_le (apdu_len octets) (length octets))

-- An I frame, whose first control octet is even, has an ASDU behind four control octets.
abbrev pub apdu_noted : State → (is_closed : Bool) → Option IpAddr → List ℕ → Orders → Orders
apdu_noted s is_closed peer apdu c =
    if octet apdu 2 % 2 == 0 then asdu_noted s is_closed peer (drop 6 apdu) c else c

-- the whole APDUs at the front, one after another, at most so many; and what is left behind them
abbrev pub all_noted : (most : ℕ) → State → (is_closed : Bool) → Option IpAddr → List ℕ → Orders
    → Orders × List ℕ
all_noted zero s is_closed peer octets c = (c, octets)
all_noted (suc most) s is_closed peer octets c =
    if is_whole octets
    then all_noted most s is_closed peer (drop (apdu_len octets) octets)
    (apdu_noted s is_closed peer (take (apdu_len octets) octets) c)
    else (c, octets)

-- ---- Between two steps

abbrev pub judged_by : Orders × List ℕ → State → Inbox → Inbox
judged_by (orders, rest) s b = record {
  octets = if b.is_closed then [] else rest;
  is_closed = false;
  orders = record orders { seen = glance_of s.serial.commands; early = [] };
}

-- the commands of the step are logged, and what the next judgement looks at is seen
abbrev pub judged : State → Option IpAddr → Inbox → Inbox
judged s peer b = judged_by (all_noted (length b.octets) s b.is_closed peer b.octets b.orders) s b

-- those that go on are told, behind others
abbrev pub handed_on : Inbox → Inbox
handed_on b = record b { orders = record b.orders { ordered = [] } }

-- a line of the commands that were refused, if one is to be logged
abbrev pub orders_line : ℕ → Orders → Orders × Option LogLine
orders_line now c =
    let logged = gathering.line_of now c.refused in (record c { refused = logged.0 }, logged.1)

abbrev pub line_of : ℕ → Inbox → Inbox × Option LogLine
line_of now b = let logged = orders_line now b.orders in (record b { orders = logged.0 }, logged.1)
