-- The stations keep their addresses, and what a request makes of them.
use Rattle.std.proofs.Common.{◌≡◌, ℕ, zero, suc, ◌+◌, ◌-◌, ◌<◌, Bool, List, [], ◌∷◌, length, get_or}
use Rattle.std.proofs.Common.{map, Option, Some, IfSome, refl, sym, ap, subst, ◌∙◌, inl, inr, arith}
use Rattle.std.specs.List.{AllByRecursion}
use Rattle.std.proofs.lemmas.List.{length-map}
use Rattle.ft12.specs.declared.frame.LinkSize.{LinkSize}
use Rattle.ft12.specs.declared.frame.Frame.{Frame}
use Rattle.ft12.specs.Spelling.{Fits}
use Rattle.link.specs.declared.service.Asked.{Asked}
use Rattle.link.specs.Life.{Receive}
use Rattle.link.specs.Exchanges.{OpenExchange}
use Rattle.link.specs.Outstation.{Turn, silent}
use Rattle.link.specs.Requests.{request_in}
use Rattle.link.specs.Secondary.{Secondary, ReceivesOctets, served}
use Rattle.gateway.specs.Log.{Log, Came, Went, LineOut, TcpOut, Closed, GapOut}
use Rattle.gateway.specs.Reports.{Setup, address_at, index_of, AreFound}
use Rattle.sim.specs.declared.directive.RequestFate.{RequestFate}
use Rattle.sim.specs.declared.directive.RequestFate.TheVariants.{RequestLost, AnswerLost}
use Rattle.sim.specs.declared.directive.RequestFate.TheVariants.{AnswerSpoilt, Answered}
use Rattle.sim.specs.Losses.{fate_of}
use Rattle.sim.specs.Lives.{Plan, ReceivedByAll, IsPutOut, AreLived, requests_in, arriving}
use Rattle.sim.specs.Outstations.{is_received, TakesTurn}
use Rattle.sim.proofs.Below.{Laws}
use Rattle.sim.proofs.ReceivingLemmas.{sizes_out}
use Rattle.sim.proofs.Requests.{quiet, receives_asked, received_at, received_joint, address_in}
use Rattle.sim.proofs.Requests.{IsNotTo}
use Rattle.sim.proofs.Fronts.{MayCome, may_arrive}

-- The stations keep their addresses and sizes

address_received : Laws → (octets : List ℕ) (s t : Secondary) (answer : Option Frame)
    → ReceivesOctets s octets answer t
    → t.address ≡ s.address
address_received laws octets s t answer (inl h) = ap (λ (u : Secondary). u.address) h.2.2
    ∙ laws.address s (Receive h.2.0 (Some h.0) ∷ [])
address_received laws octets s t answer (inr h) = ap (λ (u : Secondary). u.address) h.2

addresses_received : Laws → (octets : List ℕ) (ss ts : List Secondary) (answer : Option Frame)
    → ReceivedByAll octets ss answer ts → map (λ (s : Secondary). s.address) ts
    ≡ map (λ (s : Secondary). s.address) ss
addresses_received laws octets [] [] answer h = refl
addresses_received laws octets [] (t ∷ ts) answer h = absurd h
addresses_received laws octets (s ∷ ss) [] answer h = absurd h
addresses_received laws octets (s ∷ ss) (t ∷ ts) answer h =
    ap (λ (a : ℕ). a ∷ map (λ (u : Secondary). u.address) ts)
    (address_received laws octets s t h.0 h.2)
    ∙ ap (λ (l : List ℕ). s.address ∷ l) (addresses_received laws octets ss ts h.1 h.3)

addresses_out : Laws → (fate : RequestFate) (octets : List ℕ) (ss ts : List Secondary)
    (answer : Option Frame)
    → IsPutOut fate octets ss answer ts → map (λ (s : Secondary). s.address) ts
    ≡ map (λ (s : Secondary). s.address) ss
addresses_out laws RequestLost octets ss ts answer h =
    ap (λ (us : List Secondary). map (λ (s : Secondary). s.address) us) h.1
addresses_out laws AnswerLost octets ss ts answer h = addresses_received laws octets ss ts answer h
addresses_out laws (AnswerSpoilt place) octets ss ts answer h =
    addresses_received laws octets ss ts answer h
addresses_out laws Answered octets ss ts answer h = addresses_received laws octets ss ts answer h

-- The settings fit the plan: these stations, which are found by their addresses.
pub record FitsPlan (p : Setup) (plan : Plan) : Type 0 where
  pub size : plan.size ≡ p.link.size
  pub addresses : map (λ (s : Secondary). s.address) plan.stations ≡ p.addresses
  pub found : AreFound p.addresses
  pub sizes : AllByRecursion (λ s. s.size ≡ plan.size) plan.stations
  pub fresh : (i : ℕ) (d : Secondary) → d.given ≡ 0 → (get_or plan.stations i d).given ≡ 0

pub record AreThese (p : Setup) (size : LinkSize) (stations : List Secondary) : Type 0 where
  pub addresses : map (λ (s : Secondary). s.address) stations ≡ p.addresses
  pub sizes : AllByRecursion (λ s. s.size ≡ size) stations

these_out : Laws → (p : Setup) (size : LinkSize) (fate : RequestFate) (octets : List ℕ)
    (ss ts : List Secondary)
    (answer : Option Frame) → IsPutOut fate octets ss answer ts → AreThese p size ss
    → AreThese p size ts
these_out laws p size fate octets ss ts answer h k = record {
  addresses = addresses_out laws fate octets ss ts answer h ∙ k.addresses;
  sizes = sizes_out laws.size size fate octets ss ts answer h k.sizes;
}

pub these_lived : Laws → (p : Setup) (plan : Plan) (log : Log) (answers : List (Option Frame))
    (stations : List Secondary)
    → AreThese p plan.size plan.stations → AreLived plan log answers stations
    → AreThese p plan.size stations
these_lived laws p plan [] [] stations k h =
    subst (λ (ss : List Secondary). AreThese p plan.size ss) (sym h) k
these_lived laws p plan [] (a ∷ answers) stations k h = absurd h
these_lived laws p plan (Came now event ∷ log) answers stations k h =
    these_lived laws p plan log answers stations k h
these_lived laws p plan (Went now (LineOut octets) ∷ log) [] stations k h = absurd h
these_lived laws p plan (Went now (LineOut octets) ∷ log) (a ∷ answers) stations k h =
    these_out laws p plan.size (fate_of plan.directives (requests_in log + 1)) octets h.0 stations a
    h.1
    (these_lived laws p plan log answers h.0 k h.2)
these_lived laws p plan (Went now (TcpOut octets) ∷ log) answers stations k h =
    these_lived laws p plan log answers stations k h
these_lived laws p plan (Went now (Closed cause) ∷ log) answers stations k h =
    these_lived laws p plan log answers stations k h
these_lived laws p plan (Went now (GapOut station session) ∷ log) answers stations k h =
    these_lived laws p plan log answers stations k h

-- What a request makes of a station

pub address_of : (p : Setup) (size : LinkSize) (ss : List Secondary) (i : ℕ) (d : Secondary)
    → AreThese p size ss
    → i < length p.addresses → (i < length ss)
    × ((get_or ss i d).address ≡ address_at p.addresses i)
address_of p size ss i d k lt =
    let long : length (map (λ (s : Secondary). s.address) ss) ≡ length p.addresses =
    ap length k.addresses in
    let within : i < length ss = omega (arith, length-map ss (λ (s : Secondary). s.address)) in
    (within, sym (address_in ss i d within) ∙ ap (λ (l : List ℕ). address_at l i) k.addresses)

size_of : (size : LinkSize) (ss : List Secondary) (i : ℕ) (d : Secondary) → i < length ss
    → AllByRecursion (λ s. s.size ≡ size) ss → (get_or ss i d).size ≡ size
size_of size [] i d lt all = absurd (omega arith)
size_of size (s ∷ ss) zero d lt all = all.0
size_of size (s ∷ ss) (suc i) d lt all = size_of size ss i d (omega arith) all.1

-- the others have other addresses
others_apart : (p : Setup) (size : LinkSize) (ss : List Secondary) (i : ℕ) (d : Secondary)
    → AreFound p.addresses
    → AreThese p size ss → i < length p.addresses →
    (j : ℕ) → j < length ss → (j ≡ i → ⊥) → (get_or ss j d).address ≡ address_at p.addresses i → ⊥
others_apart p size ss i d found k lt j less apart e =
    let long : length (map (λ (s : Secondary). s.address) ss) ≡ length p.addresses =
    ap length k.addresses in
    let within : j < length p.addresses =
    omega (arith, length-map ss (λ (s : Secondary). s.address)) in
    let same : address_at p.addresses j ≡ address_at p.addresses i =
    sym (address_of p size ss j d k within).1 ∙ e in
    let one : Some j ≡ Some i = sym (found j within) ∙ ap (λ (a : ℕ). index_of a p.addresses) same
    ∙ found i lt in
    apart cc

pub put_quiet : (laws : Laws) (p : Setup) (fate : RequestFate) (octets : List ℕ)
    (ss ts : List Secondary)
    (answer : Option Frame)
    (i : ℕ) (d : Secondary) → AreThese p p.link.size ss → i < length p.addresses
    → IsNotTo p octets i →
    IsPutOut fate octets ss answer ts → get_or ts i d ≡ get_or ss i d
put_quiet laws p fate octets ss ts answer i d these lt never h = go fate h
  where
    at : (i < length ss) × ((get_or ss i d).address ≡ address_at p.addresses i)
    at = address_of p p.link.size ss i d these lt

    all : ReceivedByAll octets ss answer ts → get_or ts i d ≡ get_or ss i d
    all k =
        let one = received_at octets ss ts answer i d k at.0 in
        quiet laws p.link.size octets (get_or ss i d) (get_or ts i d) one.0
        (size_of p.link.size ss i d at.0 these.sizes)
        (λ r e. never r (e ∙ ap (λ (a : ℕ). Some (a, r)) at.1)) one.1

    go : (f : RequestFate) → IsPutOut f octets ss answer ts → get_or ts i d ≡ get_or ss i d
    go RequestLost k = ap (λ (us : List Secondary). get_or us i d) k.1
    go AnswerLost k = all k
    go (AnswerSpoilt place) k = all k
    go Answered k = all k

-- its turn at a request to it
pub record TurnAt (size : LinkSize) (fate : RequestFate) (answer : Option Frame) (s t : Secondary)
    (r : Asked)
    (x : OpenExchange) : Type 0 where
  pub turn : Turn
  pub took : TakesTurn (is_received fate) s r turn t
  pub may : MayCome size (arriving size fate answer) x turn

pub put_asked : (laws : Laws) (p : Setup) (fate : RequestFate) (octets : List ℕ)
    (ss ts : List Secondary)
    (answer : Option Frame)
    (i : ℕ) (d : Secondary) (r : Asked) (x : OpenExchange) → AreFound p.addresses
    → AreThese p p.link.size ss →
    i < length p.addresses → IfSome answer (Fits p.link.size) → x.octets ≡ []
    → request_in p.link.size octets ≡ Some (address_at p.addresses i, r)
    → IsPutOut fate octets ss answer ts →
    TurnAt p.link.size fate answer (get_or ss i d) (get_or ts i d) r x
put_asked laws p fate octets ss ts answer i d r x found these lt fits empty e h = go fate h
  where
    at : (i < length ss) × ((get_or ss i d).address ≡ address_at p.addresses i)
    at = address_of p p.link.size ss i d these lt

    received_so : ReceivedByAll octets ss answer ts → (granted : Bool)
        × (answer ≡ (served granted (get_or ss i d) r).turn.answer)
        × (get_or ts i d ≡ (served granted (get_or ss i d) r).state)
    received_so k =
        let one = received_joint laws p.link.size octets (address_at p.addresses i) r ss ts answer i
        d
        e these.sizes
        (others_apart p p.link.size ss i d found these lt) at.0 k in
        let two = receives_asked laws p.link.size octets r (get_or ss i d) (get_or ts i d) one.0
        (size_of p.link.size ss i d at.0 these.sizes) (e ∙ ap (λ (a : ℕ). Some (a, r)) (sym at.1))
        one.1 in
        (two.0, one.2 ∙ two.1, two.2)

    go : (f : RequestFate) → IsPutOut f octets ss answer ts
        → TurnAt p.link.size f answer (get_or ss i d) (get_or ts i d) r x
    go RequestLost k = record {
      turn = silent;
      took = (refl, ap (λ (us : List Secondary). get_or us i d) k.1);
      may =
          subst (λ (a : Option Frame). MayCome p.link.size (arriving p.link.size RequestLost a) x
          silent) (sym k.0) tt;
    }
    go AnswerLost k = let so = received_so k in
        record {
          turn = (served so.0 (get_or ss i d) r).turn;
          took = (so.0, refl, so.2);
          may =
              may_arrive laws p.link.size AnswerLost answer x (served so.0 (get_or ss i d) r).turn
              fits empty
              (sym so.1);
        }
    go (AnswerSpoilt place) k = let so = received_so k in
        record {
          turn = (served so.0 (get_or ss i d) r).turn;
          took = (so.0, refl, so.2);
          may =
              may_arrive laws p.link.size (AnswerSpoilt place) answer x
              (served so.0 (get_or ss i d) r).turn fits empty
              (sym so.1);
        }
    go Answered k = let so = received_so k in
        record {
          turn = (served so.0 (get_or ss i d) r).turn;
          took = (so.0, refl, so.2);
          may =
              may_arrive laws p.link.size Answered answer x (served so.0 (get_or ss i d) r).turn
              fits empty (sym so.1);
        }
