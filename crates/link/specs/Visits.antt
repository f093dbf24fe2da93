-- Turns, as the exchanges of the line show them (this gateway's own profile, over the procedures of
-- IEC 60870-5-2): a visit is what goes out to one station in one turn.
use Rattle.std.specs.Prelude.{◌≡◌, ℕ, zero, suc, ◌+◌, ◌*◌, List, [], ◌∷◌, ◌++◌, Some, slice_index}
use Rattle.link.specs.Answers.{Asked, Status, Ready}
use Rattle.link.specs.Exchanges.{Exchange, LineExchange, answer_to, with_station}
use Rattle.link.specs.Procedure.{LinkSettings, Link, Down, Available, Next, Held, MaySend, after}
use Rattle.link.specs.Procedure.{link_after}
use Rattle.link.specs.Requests.{RequestKind, kind_of}
use Rattle.link.specs.declared.request.RequestKind.TheVariants as kind

-- What a visit may still have: these requests in this order, each of them or not, and the latest
-- service so often again.
pub record Left : Type 0 where
  pub plan : List RequestKind
  pub repeats : ℕ

abbrev pub class1_polls : (many : ℕ) → List RequestKind
class1_polls zero = []
class1_polls (suc many) = kind.Class1 ∷ class1_polls many

-- a command, then a class 2 poll, then class 1 polls
abbrev pub services : (burst : ℕ) → List RequestKind
services burst = kind.Command ∷ (kind.Class2 ∷ class1_polls burst)

-- What a visit has, by the link at its beginning. If the link is down, that is a status and a
-- reset. No visit begins with a link whose status is known: its reset goes out in the visit of its
-- status. If the link is up, it is the held service with its repeats, and then new services.
abbrev pub whole_visit : LinkSettings → Link → Left
whole_visit settings Down = record { plan = kind.Status ∷ (kind.Reset ∷ []); repeats = 0 }
whole_visit settings Available = record { plan = []; repeats = 0 }
whole_visit settings (Next fcb) = record { plan = services settings.burst; repeats = 0 }
whole_visit settings (Held fcb service silence) = record {
  plan = services settings.burst;
  repeats = suc settings.retries;
}

-- A held service is sent again. Every other request is one of the plan, and may be repeated.
abbrev pub MayFollow : LinkSettings → Link → Left → Asked → Left → Type 0
MayFollow settings (Held fcb service silence) left request later =
    (later.plan ≡ left.plan) × (suc later.repeats ≡ left.repeats)
MayFollow settings link left request later =
    ((left_out : List RequestKind) × (left_out ++ kind_of request ∷ later.plan ≡ left.plan))
    × (later.repeats ≡ settings.retries)

-- These exchanges go on with a visit: each may be sent by the procedure, and is one that the visit
-- still has.
abbrev pub IsVisitFrom : LinkSettings → (station : ℕ) → Link → Left → List Exchange → Type 0
IsVisitFrom settings station link left [] = Unit {0}
IsVisitFrom settings station link left (x ∷ xs) =
    MaySend link x.request
    × ((later : Left) × MayFollow settings link left x.request later
    × IsVisitFrom settings station (after settings station x link) later xs)

abbrev pub IsVisit : LinkSettings → (station : ℕ) → Link → List Exchange → Type 0
IsVisit settings station link xs = IsVisitFrom settings station link (whole_visit settings link) xs

-- The latest of these exchanges is a status, and its answer is that the link can be reset.
pub record EndsReady (station : ℕ) (xs : List Exchange) : Type 0 where
  pub earlier : List Exchange
  pub status : Exchange
  pub are : xs ≡ earlier ++ status ∷ []
  pub asked : status.request ≡ Status
  pub answered : answer_to station status ≡ Some Ready

-- the exchanges of a visit, with the station's index
pub record Visit : Type 0 where
  pub station : ℕ
  pub exchanges : List Exchange

abbrev pub at_station : (station : ℕ) → List Exchange → List LineExchange
at_station station [] = []
at_station station (x ∷ xs) = record { station = station; exchange = x } ∷ at_station station xs

-- the exchanges of the line, by its visits, the latest being first
abbrev pub line_of : List Visit → List LineExchange
line_of [] = []
line_of (v ∷ earlier) = line_of earlier ++ at_station v.station v.exchanges

-- Each is a visit from the link on that the earlier ones left.
abbrev pub AreVisits : LinkSettings → (addresses : List ℕ) → List Visit → Type 0
AreVisits settings addresses [] = Unit {0}
AreVisits settings addresses (v ∷ earlier) =
    IsVisit settings (slice_index addresses v.station)
    (link_after settings (slice_index addresses v.station) Down
    (with_station v.station (line_of earlier))) v.exchanges
    × AreVisits settings addresses earlier

-- The exchanges of the line are visits, one after another.
pub record AreInVisits (settings : LinkSettings) (addresses : List ℕ)
    (es : List LineExchange) : Type 0 where
  pub visits : List Visit
  pub are : AreVisits settings addresses visits
  pub whole : line_of visits ≡ es

-- the most requests of a visit: a held service, a command, a class 2 poll and burst class 1 polls,
-- each sent once and repeated
abbrev pub most_of_visit : LinkSettings → ℕ
most_of_visit settings = suc settings.retries * (3 + settings.burst)
