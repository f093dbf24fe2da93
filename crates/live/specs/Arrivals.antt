-- Who comes to a listener of the system, and what becomes of him (this gateway's own profile).
use Rattle.std.specs.Prelude.{◌≡◌, ◌≢◌, ◌⊎◌, ℕ, List, [], ◌∷◌, ◌++◌, All, length, Option, Some}
use Rattle.std.specs.Prelude.{None, Result, Ok, Err, MatchResult, option_map, Bool}
use Rattle.std.specs.Prelude.{if◌then◌else◌}
use Rattle.std.specs.IoError.{error_kind}
use Rattle.std.specs.Net.Addr.{IsCanonicalOf, MatchIp}
use Rattle.std.specs.Net.Socket.{socket_ip}
use Rattle.std.specs.declared.io.Error.{Error}
use Rattle.std.specs.declared.io.ErrorKind.TheVariants.{ConnectionAborted, Interrupted}
use Rattle.std.specs.declared.net.ip_addr.IpAddr.{IpAddr}
use Rattle.std.specs.declared.net.socket_addr.SocketAddr.{SocketAddr}
use Rattle.std.specs.declared.net.tcp.TcpStream.{TcpStream}
use Rattle.live.specs.AllowLists.{Allows, counted, one_more_refused}
use Rattle.live.specs.OctetStreams.{Attempts, attempted}
use Rattle.live.specs.declared.allow_list.AllowList.{AllowList}
use Rattle.live.specs.declared.arrivals.Arrived.{Arrived}
use Rattle.live.specs.declared.arrivals.Arrived.TheVariants.{Allowed, Other, Nobody}
use Rattle.live.specs.declared.ends.RefusedPeers.{RefusedPeers}

-- where a listener was bound, and whether its calls wait
pub record Binding : Type 0 where
  pub place : List ℕ
  pub is_waiting : Bool

-- it was set whether its calls wait
abbrev pub IsRebound : Option Binding → (is_waiting : Bool) → Option Binding → Type 0
IsRebound old is_waiting None = Unit {0}
IsRebound None is_waiting (Some new) = ⊥
IsRebound (Some old) is_waiting (Some new) = new ≡ record old { is_waiting = is_waiting }

-- what the system answered to a call for the next who waits: his stream and his address, or why
-- there is none
abbrev pub Arrival : Type 0
Arrival = Result (TcpStream × SocketAddr) Error

-- the answers so far, the newest first, if the listener notes its calls
abbrev pub Arrivals : Type 0
Arrivals = Option (List Arrival)

-- these more, the newest first
abbrev pub arrived : List Arrival → Arrivals → Arrivals
arrived answers before = option_map (λ all. answers ++ all) before

-- whose address this is: an IPv4 address that is written as an IPv6 one is that IPv4 address
abbrev pub IsPeerOf : SocketAddr → IpAddr → Type 0
IsPeerOf socket peer =
    MatchIp (socket_ip socket) (λ _. peer ≡ socket_ip socket) (λ a. IsCanonicalOf a peer)

-- somebody who came: his address, and his stream
abbrev pub Comer : Type 0
Comer = IpAddr × TcpStream

-- By these answers, the newest first, who isn't on the list is refused, and of the others the
-- newest stays.
pub data Sorts (allow_list : AllowList) : List Arrival → (refused : List IpAddr)
    → (newest : Option Comer) → Type 0 where
  NobodyCame : Sorts allow_list [] [] None
  LetIn : (answers : List Arrival) (refused : List IpAddr) (newest : Option Comer)
      (stream : TcpStream) (socket : SocketAddr) (peer : IpAddr)
      → Sorts allow_list answers refused newest → IsPeerOf socket peer → Allows allow_list peer
      → Sorts allow_list (Ok (stream, socket) ∷ answers) refused (Some (peer, stream))
  TurnedAway : (answers : List Arrival) (refused : List IpAddr) (newest : Option Comer)
      (stream : TcpStream) (socket : SocketAddr) (peer : IpAddr)
      → Sorts allow_list answers refused newest → IsPeerOf socket peer
      → (Allows allow_list peer → ⊥)
      → Sorts allow_list (Ok (stream, socket) ∷ answers) (peer ∷ refused) newest
  NotTaken : (answers : List Arrival) (refused : List IpAddr) (newest : Option Comer)
      (fault : Error)
      → Sorts allow_list answers refused newest
      → Sorts allow_list (Err fault ∷ answers) refused newest

-- Behind this answer the next is asked for: somebody came, or has gone again, or the call was
-- broken
-- off by a signal.
abbrev pub GoesOn : Arrival → Type 0
GoesOn (Ok comer) = Unit {0}
GoesOn (Err fault) = (error_kind fault ≡ Interrupted) ⊎ (error_kind fault ≡ ConnectionAborted)

-- behind this one no other is: nobody waits, or nobody can be accepted
abbrev pub Ends : Arrival → Type 0
Ends (Ok comer) = ⊥
Ends (Err fault) = (error_kind fault ≢ Interrupted) × (error_kind fault ≢ ConnectionAborted)

-- what one call came to, by the stream and the address of who came: he is let in, or is refused
abbrev pub MeansComer : AllowList → TcpStream → SocketAddr → Arrived
    → (said says : RefusedPeers) → Type 0
MeansComer allow_list stream socket (Allowed peer its) said says =
    IsPeerOf socket peer × Allows allow_list peer × (its ≡ stream) × (says ≡ said)
MeansComer allow_list stream socket Other said says =
    (peer : IpAddr) × IsPeerOf socket peer × (Allows allow_list peer → ⊥)
    × (says ≡ one_more_refused peer said)
MeansComer allow_list stream socket Nobody said says = ⊥

-- or by why nobody did
abbrev pub MeansFault : Error → Arrived → (said says : RefusedPeers) → Type 0
MeansFault fault (Allowed peer its) said says = ⊥
MeansFault fault Other said says = GoesOn (Err fault) × (says ≡ said)
MeansFault fault Nobody said says = Ends (Err fault) × (says ≡ said)

-- one call, and what its answer means
pub record TakesOne (allow_list : AllowList) (old : Arrivals) (said : RefusedPeers)
    (came : Arrived) (new : Arrivals) (says : RefusedPeers) : Type 0 where
  pub answer : Arrival
  pub asked : new ≡ arrived (answer ∷ []) old
  pub means : MatchResult answer
      (λ (c : TcpStream × SocketAddr). MeansComer allow_list c.0 c.1 came said says)
      (λ fault. MeansFault fault came said says)

-- A look asks until nobody waits or can be accepted, or 256 times.
pub data IsWholeLook : List Arrival → Type 0 where
  Out : (last : Arrival) (before : List Arrival) → All GoesOn before → Ends last
      → IsWholeLook (last ∷ before)
  Enough : (answers : List Arrival) → All GoesOn answers → length answers ≡ 256
      → IsWholeLook answers

-- One look at a listener that had these calls before and had refused those: it asked as often as a
-- look does, and those who aren't allowed were refused. This is the newest of the others.
pub record TakesWaiting (allow_list : AllowList) (old : Arrivals) (said : RefusedPeers)
    (newest : Option Comer) (new : Arrivals) (says : RefusedPeers) : Type 0 where
  pub answers : List Arrival
  pub refused : List IpAddr
  pub sorted : Sorts allow_list answers refused newest
  pub whole : IsWholeLook answers
  pub asked : new ≡ arrived answers old
  pub counted_up : says ≡ counted refused said

-- The newest is accepted, if there is one, unless his stream can't be used.
abbrev pub IsAccepted : (newest : Option Comer) → (opened : Attempts) → (accepted : Option IpAddr)
    → (opens : Attempts) → Type 0
IsAccepted None opened accepted opens = (accepted ≡ None) × (opens ≡ opened)
IsAccepted (Some comer) opened accepted opens =
    (is_usable : Bool) × (opens ≡ attempted opened is_usable)
    × (accepted ≡ (if is_usable then Some comer.0 else None))

-- So a look accepts, at a listener that opened those streams before.
pub record AcceptsNewest (allow_list : AllowList) (old : Arrivals) (said : RefusedPeers)
    (opened : Attempts) (accepted : Option IpAddr) (new : Arrivals) (says : RefusedPeers)
    (opens : Attempts) : Type 0 where
  pub newest : Option Comer
  pub takes : TakesWaiting allow_list old said newest new says
  pub is_accepted : IsAccepted newest opened accepted opens
