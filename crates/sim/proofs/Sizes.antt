-- The size of addresses of each station stays.
use Rattle.std.proofs.Common.{◌≡◌, ℕ, ◌+◌, List, [], ◌∷◌, ◌++◌, ◌∙◌, drop, length, take, Option}
use Rattle.std.proofs.Common.{Some, ap, refl, sym, subst, inl, inr, arith}
use Rattle.std.proofs.lemmas.List.{take_at}
use Rattle.std.specs.List.{AllByRecursion}
use Rattle.ft12.specs.declared.frame.Frame.{Frame}
use Rattle.ft12.specs.declared.frame.LinkSize.{LinkSize}
use Rattle.gateway.specs.declared.settings.StationSettings.{StationSettings}
use Rattle.link.specs.Life.{Call, Receive, after}
use Rattle.link.specs.Secondary.{Secondary, ReceivesOctets}
use Rattle.sim.specs.Lives.{ReceivedByAll, IsPutOut, begun_from}
use Rattle.sim.specs.declared.directive.Directive.{Directive}
use Rattle.sim.specs.declared.directive.RequestFate.{RequestFate}
use Rattle.sim.specs.declared.directive.RequestFate.TheVariants.{RequestLost, AnswerLost}
use Rattle.sim.specs.declared.directive.RequestFate.TheVariants.{AnswerSpoilt}
use Rattle.sim.specs.declared.directive.RequestFate.TheVariants.{Answered}

-- what `link` says of a station's size
abbrev pub KeepsSize : Type 0
KeepsSize = (s : Secondary) (calls : List Call) → (after s calls).size ≡ s.size

abbrev pub HaveSize : LinkSize → List Secondary → Type 0
HaveSize size stations = AllByRecursion (λ s. s.size ≡ size) stations

pub begun_sizes : (size : LinkSize) (index : ℕ) (ds : List Directive) (ss : List StationSettings) →
    HaveSize size (begun_from size index ds ss)
begun_sizes size index ds [] = tt
begun_sizes size index ds (s ∷ ss) = (refl, begun_sizes size (index + 1) ds ss)

size_received : KeepsSize → (octets : List ℕ) (s t : Secondary) (answer : Option Frame) →
    ReceivesOctets s octets answer t → t.size ≡ s.size
size_received kept octets s t answer (inl h) =
    ap (λ (u : Secondary). u.size) h.2.2 ∙ kept s (Receive h.2.0 (Some h.0) ∷ [])
size_received kept octets s t answer (inr h) = ap (λ (u : Secondary). u.size) h.2

sizes_received : KeepsSize → (size : LinkSize) (octets : List ℕ) (ss ts : List Secondary)
    (answer : Option Frame) → ReceivedByAll octets ss answer ts → HaveSize size ss
    → HaveSize size ts
sizes_received kept size octets [] [] answer h all = tt
sizes_received kept size octets [] (t ∷ ts) answer h all = absurd h
sizes_received kept size octets (s ∷ ss) [] answer h all = absurd h
sizes_received kept size octets (s ∷ ss) (t ∷ ts) answer h all = (
  size_received kept octets s t h.0 h.2 ∙ all.0,
  sizes_received kept size octets ss ts h.1 h.3
      all.1,
)

pub sizes_out : KeepsSize → (size : LinkSize) (fate : RequestFate) (octets : List ℕ)
    (ss ts : List Secondary) (answer : Option Frame) → IsPutOut fate octets ss answer ts →
    HaveSize size ss → HaveSize size ts
sizes_out kept size RequestLost octets ss ts answer h all =
    subst (λ (us : List Secondary). HaveSize size us) (sym h.1) all
sizes_out kept size AnswerLost octets ss ts answer h all =
    sizes_received kept size octets ss ts answer h all
sizes_out kept size (AnswerSpoilt place) octets ss ts answer h all =
    sizes_received kept size octets ss ts answer h all
sizes_out kept size Answered octets ss ts answer h all =
    sizes_received kept size octets ss ts answer h all

length_received : (octets : List ℕ) (ss ts : List Secondary) (answer : Option Frame) →
    ReceivedByAll octets ss answer ts → length ts ≡ length ss
length_received octets [] [] answer h = refl
length_received octets [] (t ∷ ts) answer h = absurd h
length_received octets (s ∷ ss) [] answer h = absurd h
length_received octets (s ∷ ss) (t ∷ ts) answer h =
    omega (arith, length_received octets ss ts h.1 h.3)

pub length_out : (fate : RequestFate) (octets : List ℕ) (ss ts : List Secondary)
    (answer : Option Frame) →
    IsPutOut fate octets ss answer ts → length ts ≡ length ss
length_out RequestLost octets ss ts answer h = ap length h.1
length_out AnswerLost octets ss ts answer h = length_received octets ss ts answer h
length_out (AnswerSpoilt place) octets ss ts answer h = length_received octets ss ts answer h
length_out Answered octets ss ts answer h = length_received octets ss ts answer h

-- the stations as they are written back
pub written_back : (xs ws : List Secondary) (len : ℕ) → length ws ≡ len →
    take len (ws ++ drop (length ws) xs) ≡ ws
written_back xs ws len e = take_at ws (drop (length ws) xs) len e
