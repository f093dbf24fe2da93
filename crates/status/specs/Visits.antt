-- The seats of the visitors, from turn to turn (this gateway's own profile).
use Rattle.std.specs.Prelude.{◌≡◌, ◌≢◌, ℕ, ◌-◌, ◌≤◌, true, false, List, [], ◌∷◌, ◌++◌, Option}
use Rattle.std.specs.Prelude.{Some, None}
use Rattle.std.specs.List.{AllByRecursion, AllZip, IsAmong}
use Rattle.std.specs.Option.{is_some}
use Rattle.status.specs.Answer.{body_sent, head_of}
use Rattle.status.specs.Seats.{IsAsked, IsKept, IsTurn, IsYoung, Turned, cleared}
use Rattle.status.specs.Streams.{Arrivals, Calls, IsNew, Passed, arrived, more_passed}
use Rattle.status.specs.TextPage.{empty, put, shown}
use Rattle.status.specs.declared.request.Inquiry.{Inquiry}
use Rattle.status.specs.declared.request.Inquiry.TheVariants.{Nothing}
use Rattle.status.specs.declared.seat.Client.{Client}
use Rattle.status.specs.declared.seat.Desk.{Desk}
use Rattle.status.specs.declared.seat.VisitStage.{VisitStage}
use Rattle.status.specs.declared.seat.VisitStage.TheVariants.{Receiving, Leaving}
use Rattle.status.specs.declared.snapshot.Snapshot.{Snapshot}

-- who sits at a seat, if anybody does, and what lies on its desk
pub record Place (G : Type 0) : Type 0 where
  pub guest : Option G
  pub desk : Desk

abbrev pub place : {G : Type 0} → Option G → Desk → Place G
place guest desk = record { guest = guest; desk = desk }

-- somebody sits there
abbrev pub IsTaken : {G : Type 0} → Place G → Type 0
IsTaken p = p.guest ≢ None

-- What becomes of who has come: the first free seat is his, with a cleared desk, and all else
-- stays. He is sent away only if each seat is taken.
pub data IsSeated {G : Type 0} (came : Option G) (old new : List (Place G)) : Type 0 where
  NobodyCame : came ≡ None → new ≡ old → IsSeated came old new
  HasSeat : (g : G) (before after : List (Place G)) (desk : Desk) → came ≡ Some g
      → AllByRecursion IsTaken before → old ≡ before ++ place None desk ∷ after
      → new ≡ before ++ place (Some g) (cleared desk) ∷ after → IsSeated came old new
  IsSentAway : (g : G) → came ≡ Some g → AllByRecursion IsTaken old → new ≡ old
      → IsSeated came old new

-- somebody who has just come: nothing has been read or written yet
pub record IsNewcomer {S : Type 0} (given taken : S → Passed) (now : ℕ) (g : Client S) : Type
    0 where
  pub unread : IsNew (given g.stream)
  pub unwritten : IsNew (taken g.stream)
  pub since : g.since_ms ≡ now
  pub stage : g.stage ≡ Receiving
  pub sent : g.sent ≡ 0

-- a stream has given more, or nothing
abbrev pub GivesMore : (before after : Passed) → Type 0
GivesMore before after = (octets : List ℕ) × (after ≡ more_passed before octets)

-- A turn after which the visitor stays: one call of the stream, and on the desk what follows from
-- it.
pub record IsServed {S : Type 0} (given taken : S → Passed) (calls : S → Calls) (s : Snapshot)
    (g : Client S) (d : Desk) (later : Client S) (d' : Desk)
    : Type 0 where
  pub turn : IsTurn (calls g.stream) (calls later.stream) g.stage later.stage true d
  pub gives : GivesMore (given g.stream) (given later.stream)
  pub desk : Turned g.stage later.stage s d d'
  pub kept : IsKept (given later.stream) (taken later.stream) later.stage later.sent d'
  pub since : later.since_ms ≡ g.since_ms

-- What a turn makes of a seat, whoever sits at the others. A free one stays free. Who has been
-- there
-- for two seconds loses it. Anybody else loses it only if the other end isn't there any more.
pub data IsSeatTurn {S : Type 0} (given taken : S → Passed) (calls : S → Calls) (now : ℕ)
    (s : Snapshot) (before after : Place (Client S))
    : Type 0 where
  StaysFree : before.guest ≡ None → after.guest ≡ None
      → IsSeatTurn given taken calls now s before after
  IsOver : (g : Client S) → before.guest ≡ Some g → 2000 ≤ now - g.since_ms → after.guest ≡ None
      → IsSeatTurn given taken calls now s before after
  Goes : (g later : Client S) → before.guest ≡ Some g → IsYoung now g.since_ms
      → IsTurn (calls g.stream) (calls later.stream) g.stage later.stage false before.desk
      → after.guest ≡ None → IsSeatTurn given taken calls now s before after
  Stays : (g later : Client S) → before.guest ≡ Some g → IsYoung now g.since_ms
      → IsServed given taken calls s g before.desk later after.desk → after.guest ≡ Some later
      → IsSeatTurn given taken calls now s before after

-- A turn of all: the source is asked once whether somebody has come, who has come is seated, and
-- then
-- each seat has its own turn at what is shown.
pub record IsRound {S : Type 0} (given taken : S → Passed) (calls : S → Calls) (now : ℕ)
    (s : Snapshot) (looks looks' : Arrivals) (old new : List (Place (Client S)))
    : Type 0 where
  pub came : Option (Client S)
  pub asked : looks' ≡ arrived looks (is_some came)
  pub newcomer : (g : Client S) → came ≡ Some g → IsNewcomer given taken now g
  pub between : List (Place (Client S))
  pub seated : IsSeated came old between
  pub turned : AllZip (IsSeatTurn given taken calls now s) between new

-- a visitor who came and stayed at each turn since, at which this was shown, the newest first
pub data IsVisit {S : Type 0} (given taken : S → Passed) (calls : S → Calls)
    : List Snapshot → Client S → Desk → Type 0 where
  Came : (now : ℕ) (g : Client S) (d : Desk) → IsNewcomer given taken now g
      → IsVisit given taken calls [] g (cleared d)
  Stayed : (moments : List Snapshot) (s : Snapshot) (g : Client S) (d : Desk) (later : Client S)
      (d' : Desk)
      → IsVisit given taken calls moments g d → IsServed given taken calls s g d later d'
      → IsVisit given taken calls (s ∷ moments) later d'

-- the request on a desk is what the visitor sent, or, once he leaves, what he sent first
abbrev pub HasRequest : VisitStage → (sent : List ℕ) → Desk → Type 0
HasRequest stage sent d =
    (request : List ℕ) × (more : List ℕ) × (sent ≡ request ++ more) × (stage ≢ Leaving → more ≡ [])
    × (d.request.text ≡ (put request (empty d.request.room)).text)

-- the answer to that, of this moment, in the room of a desk
abbrev pub answer_of : Desk → Inquiry → Snapshot → List ℕ
answer_of d asked s =
    shown (head_of d.head.room d.body.room asked s) ++ shown (body_sent d.body.room asked s)

-- What a visitor was sent is a beginning of the answer to his request, of one moment at which he
-- was
-- there, and once he leaves it is all of it.
abbrev pub IsSent : (moments : List Snapshot) → VisitStage → Desk → (octets : List ℕ) → Type 0
IsSent moments stage d octets =
    (s : Snapshot) × (asked : Inquiry) × IsAmong moments s × IsAsked d.request.text asked
    × (asked ≢ Nothing) × ((rest : List ℕ) × (answer_of d asked s ≡ octets ++ rest))
    × (stage ≡ Leaving → octets ≡ answer_of d asked s)
