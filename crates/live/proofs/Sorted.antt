-- Those who come to a listener, one after another: who is let in, who is refused, and who stays.
use Rattle.std.proofs.Common.{◌≡◌, ◌≢◌, ◌⊎◌, inl, inr, ℕ, ◌+◌, arith, List, [], ◌∷◌, ◌++◌}
use Rattle.std.proofs.Common.{length, Option, Some, None, Ok, Err, Result}
use Rattle.std.proofs.Common.{Bool, true, false}
use Rattle.std.proofs.Common.{refl, sym, ap, subst, ◌∙◌, IfSome, if◌then◌else◌}
use Rattle.std.specs.Prelude.{All, MatchResult, option_map}
use Rattle.std.specs.IoError.{error_kind}
use Rattle.std.specs.Net.Addr.{IsIpv4Mapped, ipv4_octets, ipv6_segments, low_octets}
use Rattle.std.specs.Net.Socket.{socket_ip}
use Rattle.std.specs.Result.{is_ok}
use Rattle.std.proofs.lemmas.List.Elements.{All-cons, All-nil}
use Rattle.std.specs.declared.io.Error.{Error}
use Rattle.std.specs.declared.io.ErrorKind.TheVariants.{ConnectionAborted, Interrupted}
use Rattle.std.specs.declared.net.ip_addr.IpAddr.{IpAddr}
use Rattle.std.specs.declared.net.ip_addr.IpAddr.TheVariants.{V4, V6}
use Rattle.std.specs.declared.net.ipv4_addr.Ipv4Addr.{Ipv4Addr}
use Rattle.std.specs.declared.net.ipv6_addr.Ipv6Addr.{Ipv6Addr}
use Rattle.std.specs.declared.net.socket_addr.SocketAddr.{SocketAddr}
use Rattle.std.specs.declared.net.tcp.TcpStream.{TcpStream}
use Rattle.live.specs.AllowLists.{Allows, AreStrangers, IsPlain, RefusesStrangers, counted}
use Rattle.live.specs.AllowLists.{one_more_refused}
use Rattle.live.specs.Arrivals.{AcceptsNewest, Arrival, Arrivals, Comer, Ends, Enough, GoesOn}
use Rattle.live.specs.Arrivals.{IsAccepted, IsWholeLook}
use Rattle.live.specs.OctetStreams.{Attempts, attempted}
use Rattle.live.specs.Arrivals.{IsPeerOf, LetIn, MeansComer, MeansFault, NobodyCame, NotTaken, Out}
use Rattle.live.specs.Arrivals.{Sorts, TakesOne, TakesWaiting, TurnedAway, arrived}
use Rattle.live.specs.declared.allow_list.AllowList.{AllowList}
use Rattle.live.specs.declared.arrivals.Arrived.TheVariants.{Allowed, Other, Nobody}
use Rattle.live.specs.declared.ends.RefusedPeers.{RefusedPeers}
use Rattle.live.proofs.Plain.{mapped_of, no_strangers, own_of, plain_of}

-- So many calls so far, behind each of which the next was asked for.
pub record TakesSo (g : AllowList) (old : Arrivals) (said : RefusedPeers)
    (newest : Option Comer) (count : ℕ) (new : Arrivals) (says : RefusedPeers) : Type 0 where
  pub answers : List Arrival
  pub refused : List IpAddr
  pub sorted : Sorts g answers refused newest
  pub all : All GoesOn answers
  pub many : length answers ≡ count
  pub asked : new ≡ arrived answers old
  pub counted_up : says ≡ counted refused said

arrived_none : (calls : Arrivals) → calls ≡ arrived [] calls
arrived_none None = refl
arrived_none (Some all) = refl

arrived_more : (answer : Arrival) (answers : List Arrival) (calls : Arrivals)
    → arrived (answer ∷ []) (arrived answers calls) ≡ arrived (answer ∷ answers) calls
arrived_more answer answers None = refl
arrived_more answer answers (Some all) = refl

asked_more : (answer : Arrival) (answers : List Arrival) (old mid new : Arrivals)
    → mid ≡ arrived answers old → new ≡ arrived (answer ∷ []) mid
    → new ≡ arrived (answer ∷ answers) old
asked_more answer answers old mid new before more =
    more ∙ (ap (arrived (answer ∷ [])) before ∙ arrived_more answer answers old)

pub begun : (g : AllowList) (old : Arrivals) (said : RefusedPeers)
    → TakesSo g old said None 0 old said
begun g old said = record {
  answers = [];
  refused = [];
  sorted = NobodyCame;
  all = All-nil GoesOn;
  many = refl;
  asked = arrived_none old;
  counted_up = refl;
}

-- somebody who may connect
let_in_by : (g : AllowList) (old mid new : Arrivals) (said was says : RefusedPeers)
    (newest : Option Comer) (n : ℕ) (peer : IpAddr) (its : TcpStream) (answer : Arrival)
    → TakesSo g old said newest n mid was → new ≡ arrived (answer ∷ []) mid
    → MatchResult answer
    (λ (c : TcpStream × SocketAddr). MeansComer g c.0 c.1 (Allowed peer its) was says)
    (λ fault. MeansFault fault (Allowed peer its) was says)
    → TakesSo g old said (Some (peer, its)) (n + 1) new says
let_in_by g old mid new said was says newest n peer its (Ok c) s asked m =
    let P : TcpStream → Type 0 = λ x. Sorts g (Ok c ∷ s.answers) s.refused (Some (peer, x)) in
    record {
      answers = Ok c ∷ s.answers;
      refused = s.refused;
      sorted = subst P (sym m.2) (LetIn s.answers s.refused newest c.0 c.1 peer s.sorted m.0 m.1);
      all = All-cons GoesOn (Ok c) s.answers tt s.all;
      many = omega (arith, s.many);
      asked = asked_more (Ok c) s.answers old mid new s.asked asked;
      counted_up = m.3 ∙ s.counted_up;
    }
let_in_by g old mid new said was says newest n peer its (Err fault) s asked m = absurd m

pub let_in : (g : AllowList) (old mid new : Arrivals) (said was says : RefusedPeers)
    (newest : Option Comer) (n : ℕ) (peer : IpAddr) (its : TcpStream)
    → TakesSo g old said newest n mid was → TakesOne g mid was (Allowed peer its) new says
    → TakesSo g old said (Some (peer, its)) (n + 1) new says
let_in g old mid new said was says newest n peer its s t =
    let_in_by g old mid new said was says newest n peer its t.answer s t.asked t.means

-- anybody else
other_by : (g : AllowList) (old mid new : Arrivals) (said was says : RefusedPeers)
    (newest : Option Comer) (n : ℕ) (answer : Arrival)
    → TakesSo g old said newest n mid was → new ≡ arrived (answer ∷ []) mid
    → MatchResult answer
    (λ (c : TcpStream × SocketAddr). MeansComer g c.0 c.1 Other was says)
    (λ fault. MeansFault fault Other was says)
    → TakesSo g old said newest (n + 1) new says
other_by g old mid new said was says newest n (Ok c) s asked m = record {
  answers = Ok c ∷ s.answers;
  refused = m.0 ∷ s.refused;
  sorted = TurnedAway s.answers s.refused newest c.0 c.1 m.0 s.sorted m.1 m.2;
  all = All-cons GoesOn (Ok c) s.answers tt s.all;
  many = omega (arith, s.many);
  asked = asked_more (Ok c) s.answers old mid new s.asked asked;
  counted_up = m.3 ∙ ap (one_more_refused m.0) s.counted_up;
}
other_by g old mid new said was says newest n (Err fault) s asked m = record {
  answers = Err fault ∷ s.answers;
  refused = s.refused;
  sorted = NotTaken s.answers s.refused newest fault s.sorted;
  all = All-cons GoesOn (Err fault) s.answers m.0 s.all;
  many = omega (arith, s.many);
  asked = asked_more (Err fault) s.answers old mid new s.asked asked;
  counted_up = m.1 ∙ s.counted_up;
}

pub other : (g : AllowList) (old mid new : Arrivals) (said was says : RefusedPeers)
    (newest : Option Comer) (n : ℕ)
    → TakesSo g old said newest n mid was → TakesOne g mid was Other new says
    → TakesSo g old said newest (n + 1) new says
other g old mid new said was says newest n s t =
    other_by g old mid new said was says newest n t.answer s t.asked t.means

-- and nobody any more
over_by : (g : AllowList) (old mid new : Arrivals) (said was says : RefusedPeers)
    (newest : Option Comer) (n : ℕ) (answer : Arrival)
    → TakesSo g old said newest n mid was → new ≡ arrived (answer ∷ []) mid
    → MatchResult answer
    (λ (c : TcpStream × SocketAddr). MeansComer g c.0 c.1 Nobody was says)
    (λ fault. MeansFault fault Nobody was says)
    → TakesWaiting g old said newest new says
over_by g old mid new said was says newest n (Ok c) s asked m = absurd m
over_by g old mid new said was says newest n (Err fault) s asked m = record {
  answers = Err fault ∷ s.answers;
  refused = s.refused;
  sorted = NotTaken s.answers s.refused newest fault s.sorted;
  whole = Out (Err fault) s.answers s.all m.0;
  asked = asked_more (Err fault) s.answers old mid new s.asked asked;
  counted_up = m.1 ∙ s.counted_up;
}

pub over : (g : AllowList) (old mid new : Arrivals) (said was says : RefusedPeers)
    (newest : Option Comer) (n : ℕ)
    → TakesSo g old said newest n mid was → TakesOne g mid was Nobody new says
    → TakesWaiting g old said newest new says
over g old mid new said was says newest n s t =
    over_by g old mid new said was says newest n t.answer s t.asked t.means

pub enough : (g : AllowList) (old new : Arrivals) (said says : RefusedPeers)
    (newest : Option Comer) (n : ℕ) → n ≡ 256 → TakesSo g old said newest n new says
    → TakesWaiting g old said newest new says
enough g old new said says newest n all s = record {
  answers = s.answers;
  refused = s.refused;
  sorted = s.sorted;
  whole = Enough s.answers s.all (s.many ∙ all);
  asked = s.asked;
  counted_up = s.counted_up;
}

-- each one who was refused is counted
same_calls : (answers old new : List Arrival) → Some new ≡ arrived answers (Some old)
    → new ≡ answers ++ old
same_calls answers old new e = cc

pub all_counted : (g : AllowList) (old new : List Arrival) (said says : RefusedPeers)
    (newest : Option Comer) → TakesWaiting g (Some old) said newest (Some new) says
    → (answers : List Arrival) × (refused : List IpAddr) × (new ≡ answers ++ old)
    × Sorts g answers refused newest × (says ≡ counted refused said)
all_counted g old new said says newest t =
    (t.answers, t.refused, same_calls t.answers old new t.asked, t.sorted, t.counted_up)

-- who stays is allowed, and his address plain
sorted_newest : (g : AllowList) (answers : List Arrival) (refused : List IpAddr)
    (newest : Option Comer) → Sorts g answers refused newest
    → IfSome newest (λ (n : Comer). Allows g n.0 × IsPlain n.0)
sorted_newest g _ _ _ NobodyCame = tt
sorted_newest g _ _ _ (LetIn answers refused newest stream socket peer s is allows) =
    (allows, plain_of (socket_ip socket) peer is)
sorted_newest g _ _ newest (TurnedAway answers refused _ stream socket peer s is away) =
    sorted_newest g answers refused newest s
sorted_newest g _ _ newest (NotTaken answers refused _ fault s) =
    sorted_newest g answers refused newest s

-- those who were refused are strangers
sorted_refused : (g : AllowList) (answers : List Arrival) (refused : List IpAddr)
    (newest : Option Comer) → Sorts g answers refused newest → AreStrangers g refused
sorted_refused g _ _ _ NobodyCame = no_strangers g
sorted_refused g _ _ _ (LetIn answers refused newest stream socket peer s is allows) =
    sorted_refused g answers refused newest s
sorted_refused g _ _ newest (TurnedAway answers refused _ stream socket peer s is away) =
    All-cons (λ peer. Allows g peer → ⊥) peer refused away
    (sorted_refused g answers refused newest s)
sorted_refused g _ _ newest (NotTaken answers refused _ fault s) =
    sorted_refused g answers refused newest s

pub refused_by : (g : AllowList) (old new : Arrivals) (said says : RefusedPeers)
    (newest : Option Comer) → TakesWaiting g old said newest new says
    → RefusesStrangers g (record { peers = None; said = said })
    (record { peers = None; said = says })
refused_by g old new said says newest t = record {
  refused = t.refused;
  strangers = sorted_refused g t.answers t.refused newest t.sorted;
  ends = ap (λ s. record { peers = None; said = s }) t.counted_up;
}

pub newest_allowed : (g : AllowList) (old new : Arrivals) (said says : RefusedPeers)
    (newest : Option Comer) (peer : IpAddr) (its : TcpStream) → newest ≡ Some (peer, its)
    → TakesWaiting g old said newest new says → Allows g peer
newest_allowed g old new said says newest peer its is t =
    let P : Option Comer → Type 0 = λ n. IfSome n (λ (n : Comer). Allows g n.0 × IsPlain n.0) in
    let both = subst P is (sorted_newest g t.answers t.refused newest t.sorted) in both.0

pub newest_plain : (g : AllowList) (old new : Arrivals) (said says : RefusedPeers)
    (newest : Option Comer) (peer : IpAddr) (its : TcpStream) → newest ≡ Some (peer, its)
    → TakesWaiting g old said newest new says → IsPlain peer
newest_plain g old new said says newest peer its is t =
    let P : Option Comer → Type 0 = λ n. IfSome n (λ (n : Comer). Allows g n.0 × IsPlain n.0) in
    let both = subst P is (sorted_newest g t.answers t.refused newest t.sorted) in both.1

length_in : Option (List Bool) → ℕ
length_in None = 0
length_in (Some list) = length list

-- a list isn't itself with one more
longer : (b : Bool) (list : List Bool) → Some (b ∷ list) ≡ Some list → ⊥
unfolding length_in
longer b list e =
    let same : length (b ∷ list) ≡ length list = ap length_in e in omega (arith, same)

-- he is accepted if his stream can be used
pub accepted_newest : (g : AllowList) (old mid new : Arrivals) (said says : RefusedPeers)
    (newest : Option Comer) (peer : IpAddr) (its : TcpStream) (opened seen opens : Attempts)
    (accepted : Option IpAddr) (b : Bool) → newest ≡ Some (peer, its)
    → TakesWaiting g old said newest mid says → new ≡ mid → seen ≡ opened
    → opens ≡ attempted seen b → accepted ≡ (if b then Some peer else None)
    → AcceptsNewest g old said opened accepted new says opens
accepted_newest g old mid new said says newest peer its opened seen opens accepted b is t unasked
    same opened_so so =
    let P : Option Comer → Type 0 = λ n. TakesWaiting g old said n new says in
    let Q : Arrivals → Type 0 = λ a. TakesWaiting g old said newest a says in
    let R : Attempts → Type 0 = λ a. opens ≡ attempted a b in
    record {
      newest = Some (peer, its);
      takes = subst P is (subst Q (sym unasked) t);
      is_accepted = (b, subst R same opened_so, so);
    }

pub accepted_nobody : (g : AllowList) (old new : Arrivals) (said says : RefusedPeers)
    (newest : Option Comer) (opened opens : Attempts) (accepted : Option IpAddr) → newest ≡ None
    → TakesWaiting g old said newest new says → opens ≡ opened → accepted ≡ None
    → AcceptsNewest g old said opened accepted new says opens
accepted_nobody g old new said says newest opened opens accepted is t same none =
    let P : Option Comer → Type 0 = λ n. TakesWaiting g old said n new says in
    record { newest = None; takes = subst P is t; is_accepted = (none, same) }

-- nobody's address
pub map_none : {A B : Type 0} (f : A → B) (o : Option A) → o ≡ None → option_map f o ≡ None
map_none f o is = ap (λ x. option_map f x) is

-- a stream was opened, and could be used or not
pub opens_as : {A E : Type 0} (seen opens : Attempts) (answer : Result A E) (b : Bool)
    → opens ≡ attempted seen (is_ok answer) → is_ok answer ≡ b → opens ≡ attempted seen b
opens_as seen opens answer b opened is = opened ∙ ap (λ x. attempted seen x) is

-- what the opening of streams says of who is accepted
true_of : (b : Bool) (opened : List Bool) → Some (true ∷ opened) ≡ attempted (Some opened) b
    → b ≡ true
true_of b opened e = cc

accepted_as : (newest : Option Comer) (opened : List Bool) (accepted : Option IpAddr)
    → IsAccepted newest (Some opened) accepted (Some (true ∷ opened))
    → (comer : Comer) × (newest ≡ Some comer) × (accepted ≡ Some comer.0)
accepted_as None opened accepted h = absurd (longer true opened h.1)
accepted_as (Some comer) opened accepted h = (
  comer,
  refl,
  h.2 ∙ ap (λ b. if b then Some comer.0 else None) (true_of h.0 opened h.1),
)

unopened_as : (newest : Option Comer) (opened : List Bool) (accepted : Option IpAddr)
    → IsAccepted newest (Some opened) accepted (Some opened)
    → (newest ≡ None) × (accepted ≡ None)
unopened_as None opened accepted h = (refl, h.0)
unopened_as (Some comer) opened accepted h = absurd (longer h.0 opened (sym h.1))

pub usable_accepted : (g : AllowList) (old new : Arrivals) (said says : RefusedPeers)
    (opened : List Bool) (accepted : Option IpAddr)
    → AcceptsNewest g old said (Some opened) accepted new says (Some (true ∷ opened))
    → (newest : Comer) × TakesWaiting g old said (Some newest) new says
    × (accepted ≡ Some newest.0)
usable_accepted g old new said says opened accepted a =
    let n = accepted_as a.newest opened accepted a.is_accepted in
    let P : Option Comer → Type 0 = λ n. TakesWaiting g old said n new says in
    (n.0, subst P n.1 a.takes, n.2)

pub nobody_opened : (g : AllowList) (old new : Arrivals) (said says : RefusedPeers)
    (opened : List Bool) (accepted : Option IpAddr)
    → AcceptsNewest g old said (Some opened) accepted new says (Some opened)
    → (accepted ≡ None) × TakesWaiting g old said None new says
nobody_opened g old new said says opened accepted a =
    let n = unopened_as a.newest opened accepted a.is_accepted in
    let P : Option Comer → Type 0 = λ n. TakesWaiting g old said n new says in
    (n.1, subst P n.0 a.takes)

-- what answers say of those who came
Refused : AllowList → List Arrival → List IpAddr → Option Comer → SocketAddr → Type 0
Refused g answers refused newest socket =
    (peer : IpAddr) × (before : List IpAddr) × IsPeerOf socket peer × (refused ≡ peer ∷ before)
    × Sorts g answers before newest

Entered : AllowList → List Arrival → List IpAddr → Option Comer → TcpStream → SocketAddr → Type 0
Entered g answers refused newest stream socket =
    (peer : IpAddr) × (before : Option Comer) × IsPeerOf socket peer
    × (newest ≡ Some (peer, stream)) × Sorts g answers refused before

-- who came, and what was answered before
socket_of : SocketAddr → List Arrival → SocketAddr
socket_of other (Ok c ∷ answers) = c.1
socket_of other _ = other

stream_of : TcpStream → List Arrival → TcpStream
stream_of other (Ok c ∷ answers) = c.0
stream_of other _ = other

before_of : List Arrival → List Arrival
before_of [] = []
before_of (answer ∷ answers) = answers

has_come : List Arrival → Bool
has_come (Ok c ∷ answers) = true
has_come _ = false

has_none : List Arrival → Bool
has_none [] = true
has_none (answer ∷ answers) = false

nobody_by : (g : AllowList) (all : List Arrival) (refused : List IpAddr) (newest : Option Comer)
    → Sorts g all refused newest → all ≡ [] → (refused ≡ []) × (newest ≡ None)
unfolding has_none
nobody_by g _ _ _ NobodyCame e = (refl, refl)
nobody_by g _ _ _ (LetIn answers refused newest stream socket peer s is allows) e =
    let wrong : false ≡ true = ap has_none e in absurd (cc)
nobody_by g _ _ newest (TurnedAway answers refused _ stream socket peer s is away) e =
    let wrong : false ≡ true = ap has_none e in absurd (cc)
nobody_by g _ _ newest (NotTaken answers refused _ fault s) e =
    let wrong : false ≡ true = ap has_none e in absurd (cc)

pub nobody_came : (g : AllowList) (refused : List IpAddr) (newest : Option Comer)
    → Sorts g [] refused newest → (refused ≡ []) × (newest ≡ None)
nobody_came g refused newest s = nobody_by g [] refused newest s refl

refused_in : (g : AllowList) (all answers : List Arrival) (refused : List IpAddr)
    (newest : Option Comer) (stream : TcpStream) (socket : SocketAddr)
    → Sorts g all refused newest → all ≡ Ok (stream, socket) ∷ answers
    → ((peer : IpAddr) → IsPeerOf socket peer → Allows g peer → ⊥)
    → Refused g answers refused newest socket
unfolding Refused socket_of before_of has_come
refused_in g _ answers _ _ stream socket NobodyCame e none =
    let wrong : false ≡ true = ap has_come e in absurd (cc)
refused_in g _ answers _ _ stream socket
    (LetIn others refused newest its at peer s is allows) e none =
    let P : SocketAddr → Type 0 = λ x. IsPeerOf x peer in
    absurd (none peer (subst P (ap (socket_of socket) e) is) allows)
refused_in g _ answers _ newest stream socket
    (TurnedAway others refused _ its at peer s is away) e none =
    let P : SocketAddr → Type 0 = λ x. IsPeerOf x peer in
    let Q : List Arrival → Type 0 = λ x. Sorts g x refused newest in
    (peer, refused, subst P (ap (socket_of socket) e) is, refl, subst Q (ap before_of e) s)
refused_in g _ answers _ newest stream socket (NotTaken others refused _ fault s) e none =
    let wrong : false ≡ true = ap has_come e in absurd (cc)

pub stranger_came : (g : AllowList) (answers : List Arrival) (refused : List IpAddr)
    (newest : Option Comer) (stream : TcpStream) (socket : SocketAddr)
    → Sorts g (Ok (stream, socket) ∷ answers) refused newest
    → ((peer : IpAddr) → IsPeerOf socket peer → Allows g peer → ⊥)
    → (peer : IpAddr) × (before : List IpAddr) × IsPeerOf socket peer × (refused ≡ peer ∷ before)
    × Sorts g answers before newest
unfolding Refused
stranger_came g answers refused newest stream socket s none =
    refused_in g (Ok (stream, socket) ∷ answers) answers refused newest stream socket s refl none

entered_in : (g : AllowList) (all answers : List Arrival) (refused : List IpAddr)
    (newest : Option Comer) (stream : TcpStream) (socket : SocketAddr)
    → Sorts g all refused newest → all ≡ Ok (stream, socket) ∷ answers
    → ((peer : IpAddr) → IsPeerOf socket peer → Allows g peer)
    → Entered g answers refused newest stream socket
unfolding Entered socket_of stream_of before_of has_come
entered_in g _ answers _ _ stream socket NobodyCame e every =
    let wrong : false ≡ true = ap has_come e in absurd (cc)
entered_in g _ answers _ _ stream socket
    (LetIn others refused newest its at peer s is allows) e every =
    let P : SocketAddr → Type 0 = λ x. IsPeerOf x peer in
    let Q : List Arrival → Type 0 = λ x. Sorts g x refused newest in
    let same : its ≡ stream = ap (stream_of stream) e in (
      peer,
      newest,
      subst P (ap (socket_of socket) e) is,
      ap (λ (x : TcpStream). Some (peer, x)) same,
      subst Q (ap before_of e) s,
    )
entered_in g _ answers _ newest stream socket
    (TurnedAway others refused _ its at peer s is away) e every =
    let P : SocketAddr → Type 0 = λ x. IsPeerOf x peer in
    absurd (away (every peer (subst P (ap (socket_of socket) e) is)))
entered_in g _ answers _ newest stream socket (NotTaken others refused _ fault s) e every =
    let wrong : false ≡ true = ap has_come e in absurd (cc)

pub guest_came : (g : AllowList) (answers : List Arrival) (refused : List IpAddr)
    (newest : Option Comer) (stream : TcpStream) (socket : SocketAddr)
    → Sorts g (Ok (stream, socket) ∷ answers) refused newest
    → ((peer : IpAddr) → IsPeerOf socket peer → Allows g peer)
    → (peer : IpAddr) × (before : Option Comer) × IsPeerOf socket peer
    × (newest ≡ Some (peer, stream)) × Sorts g answers refused before
unfolding Entered
guest_came g answers refused newest stream socket s every =
    entered_in g (Ok (stream, socket) ∷ answers) answers refused newest stream socket s refl every

-- or nobody did
is_first_fault : List Arrival → Bool
is_first_fault (Err fault ∷ answers) = true
is_first_fault _ = false

fault_by : (g : AllowList) (all answers : List Arrival) (refused : List IpAddr)
    (newest : Option Comer) (fault : Error) → Sorts g all refused newest
    → all ≡ Err fault ∷ answers → Sorts g answers refused newest
unfolding before_of is_first_fault
fault_by g _ answers _ _ fault NobodyCame e =
    let wrong : false ≡ true = ap is_first_fault e in absurd (cc)
fault_by g _ answers _ _ fault (LetIn others refused newest its at peer s is allows) e =
    let wrong : false ≡ true = ap is_first_fault e in absurd (cc)
fault_by g _ answers _ newest fault (TurnedAway others refused _ its at peer s is away) e =
    let wrong : false ≡ true = ap is_first_fault e in absurd (cc)
fault_by g _ answers _ newest fault (NotTaken others refused _ other s) e =
    let Q : List Arrival → Type 0 = λ x. Sorts g x refused newest in subst Q (ap before_of e) s

pub fault_came : (g : AllowList) (answers : List Arrival) (refused : List IpAddr)
    (newest : Option Comer) (fault : Error) → Sorts g (Err fault ∷ answers) refused newest
    → Sorts g answers refused newest
fault_came g answers refused newest fault s =
    fault_by g (Err fault ∷ answers) answers refused newest fault s refl

pub peer_plain : (socket : SocketAddr) (peer : IpAddr) → IsPeerOf socket peer → IsPlain peer
peer_plain socket peer is = plain_of (socket_ip socket) peer is

pub peer_own : (socket : SocketAddr) (peer : IpAddr) → IsPeerOf socket peer
    → IsPlain (socket_ip socket) → peer ≡ socket_ip socket
peer_own socket peer is plain = own_of (socket_ip socket) peer is plain

pub peer_mapped : (socket : SocketAddr) (peer : IpAddr) (address : Ipv6Addr)
    → IsPeerOf socket peer → socket_ip socket ≡ V6 address → IsIpv4Mapped (ipv6_segments address)
    → (inner : Ipv4Addr) × (peer ≡ V4 inner) × (ipv4_octets inner ≡ low_octets address)
peer_mapped socket peer address is same mapped =
    mapped_of (socket_ip socket) peer address is same mapped

-- All who wait were asked for: nobody waits any more or can be accepted, or they were 256.
WasWhole : List Arrival → Type 0
WasWhole answers =
    (length answers ≡ 256) ⊎ (fault : Error) × (before : List Arrival)
    × (answers ≡ Err fault ∷ before)
    × (error_kind fault ≢ Interrupted) × (error_kind fault ≢ ConnectionAborted)

last_by : (last : Arrival) (before : List Arrival) → Ends last → WasWhole (last ∷ before)
unfolding WasWhole
last_by (Ok comer) before ends = absurd ends
last_by (Err fault) before ends = inr (fault, before, refl, ends.0, ends.1)

whole_by : (answers : List Arrival) → IsWholeLook answers → WasWhole answers
unfolding WasWhole
whole_by _ (Out last before all ends) = last_by last before ends
whole_by _ (Enough answers all many) = inl many

pub all_asked : (g : AllowList) (old new : List Arrival) (said says : RefusedPeers)
    (newest : Option Comer) → TakesWaiting g (Some old) said newest (Some new) says
    → (answers : List Arrival) × (new ≡ answers ++ old) × ((length answers ≡ 256)
    ⊎ (fault : Error) × (before : List Arrival) × (answers ≡ Err fault ∷ before)
    × (error_kind fault ≢ Interrupted) × (error_kind fault ≢ ConnectionAborted))
unfolding WasWhole
all_asked g old new said says newest t =
    let asked : Some new ≡ Some (t.answers ++ old) = t.asked in
    let same : new ≡ t.answers ++ old = cc in
    (t.answers, same, whole_by t.answers t.whole)
