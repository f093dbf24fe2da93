-- The loop in which all stations receive.
use Rattle.std.proofs.Common.{◌≡◌, ℕ, zero, suc, ◌+◌, ◌<◌, ◌≤◌, List, [], ◌∷◌, ◌++◌, length, take}
use Rattle.std.proofs.Common.{drop, get_or, slice_set, Option, Some, None, IfSome, refl, sym, ap}
use Rattle.std.proofs.Common.{subst, ◌∙◌, inl, inr, arith}
use Rattle.std.proofs.lemmas.List.{take_more, drop_more, get_or_at, length-take-le, take_all}
use Rattle.std.proofs.lemmas.List.{drop_all, append-nil}
use Rattle.std.specs.List.{AllByRecursion}
use Rattle.ft12.specs.declared.frame.LinkSize.{LinkSize}
use Rattle.ft12.specs.declared.frame.Frame.{Frame}
use Rattle.ft12.specs.declared.frame.Frame.TheVariants.{Single, Fixed, Data}
use Rattle.ft12.specs.Spelling.{Fits, spelling}
use Rattle.link.specs.Life.{Receive}
use Rattle.link.specs.Secondary.{Secondary, ReceivesOctets}
use Rattle.sim.specs.declared.directive.RequestFate.{RequestFate}
use Rattle.sim.specs.declared.directive.RequestFate.TheVariants.{RequestLost, AnswerLost}
use Rattle.sim.specs.declared.directive.RequestFate.TheVariants.{AnswerSpoilt}
use Rattle.sim.specs.declared.directive.RequestFate.TheVariants.{Answered}
use Rattle.gateway.specs.Log.{Log, Came, Went, LineOut, TcpOut, Closed, GapOut}
use Rattle.sim.specs.Losses.{fate_of}
use Rattle.sim.specs.Lives.{Plan, later, ReceivedByAll, IsPutOut, AreLived, requests_in}
use Rattle.sim.proofs.Below.{KeepsSize}

-- the first i of the stations have received
pub record ReceivedSoFar (octets : List ℕ) (initial : List Secondary) (i : ℕ)
    (answer : Option Frame)
    (stations : List Secondary) : Type 0 where
  pub done : List Secondary
  pub arrived : ReceivedByAll octets (take i initial) answer done
  pub rest : stations ≡ done ++ drop i initial
  pub fits : (size : LinkSize) → AllByRecursion (λ s. s.size ≡ size) initial
      → IfSome answer (Fits size)

pub received_none : (octets : List ℕ) (initial : List Secondary)
    → ReceivedSoFar octets initial 0 None initial
received_none octets initial = record {
  done = [];
  arrived = refl;
  rest = refl;
  fits =
      λ size all. tt;
}

received_length : (octets : List ℕ) (ss ts : List Secondary) (answer : Option Frame)
    → ReceivedByAll octets ss answer ts
    → length ts ≡ length ss
received_length octets [] [] answer h = refl
received_length octets [] (t ∷ ts) answer h = absurd h
received_length octets (s ∷ ss) [] answer h = absurd h
received_length octets (s ∷ ss) (t ∷ ts) answer h =
    omega (arith, received_length octets ss ts h.1 h.3)

pub later_none : (a : Option Frame) → later None a ≡ a
later_none None = refl
later_none (Some frame) = refl

pub later_assoc : (a b c : Option Frame) → later (later a b) c ≡ later a (later b c)
later_assoc a b None = refl
later_assoc a b (Some frame) = refl

received_snoc : (octets : List ℕ) (ss ts : List Secondary) (a b : Option Frame) (s t : Secondary)
    → ReceivedByAll octets ss a ts → ReceivesOctets s octets b t →
    ReceivedByAll octets (ss ++ s ∷ []) (later a b) (ts ++ t ∷ [])
received_snoc octets [] [] a b s t h receives =
    (b, None, receives, refl, ap (λ (x : Option Frame). later x b) h ∙ later_none b)
received_snoc octets [] (u ∷ ts) a b s t h receives = absurd h
received_snoc octets (r ∷ ss) [] a b s t h receives = absurd h
received_snoc octets (r ∷ ss) (u ∷ ts) a b s t h receives = (
  h.0,
  later h.1 b,
  h.2,
  received_snoc octets ss ts h.1 b s t h.3 receives,
  ap (λ (x : Option Frame). later x b) h.4
      ∙ later_assoc h.0 h.1 b,
)

set_at : (done : List Secondary) (x y : Secondary) (rest : List Secondary) (i : ℕ) → length done ≡ i
    → slice_set (done ++ x ∷ rest) i y ≡ (done ++ y ∷ []) ++ rest
set_at [] x y rest zero e = refl
set_at [] x y rest (suc i) e = absurd (omega arith)
set_at (d ∷ done) x y rest zero e = absurd (omega arith)
set_at (d ∷ done) x y rest (suc i) e =
    ap (λ (l : List Secondary). d ∷ l) (set_at done x y rest i (omega arith))

size_at : (size : LinkSize) (ss : List Secondary) (i : ℕ) (d : Secondary) → i < length ss
    → AllByRecursion (λ s. s.size ≡ size) ss → (get_or ss i d).size ≡ size
size_at size [] i d lt all = absurd (omega arith)
size_at size (s ∷ ss) zero d lt all = all.0
size_at size (s ∷ ss) (suc i) d lt all = size_at size ss i d (omega arith) all.1

fits_later : (size : LinkSize) (a b : Option Frame) → IfSome a (Fits size) → IfSome b (Fits size)
    → IfSome (later a b) (Fits size)
fits_later size a None f g = f
fits_later size a (Some frame) f g = g

pub received_more : (octets : List ℕ) (initial stations : List Secondary) (i : ℕ)
    (answer b joint : Option Frame)
    (s t : Secondary) → i < length initial → ReceivedSoFar octets initial i answer stations →
    s ≡ get_or stations i s → ReceivesOctets s octets b t → IfSome b (Fits s.size)
    → joint ≡ later answer b
    → ReceivedSoFar octets initial (i + 1) joint (slice_set stations i t)
received_more octets initial stations i answer b joint s t lt so is receives fit e =
    let x : Secondary = get_or initial i s in
    let long : length so.done ≡ i = received_length octets (take i initial) so.done answer
    so.arrived
    ∙ length-take-le i initial (omega arith) in
    let whole : stations ≡ so.done ++ x ∷ drop (i + 1) initial = so.rest
    ∙ ap (λ (l : List Secondary). so.done ++ l) (drop_more initial i s lt) in
    let at : s ≡ x = is ∙ ap (λ (l : List Secondary). get_or l i s) whole
    ∙ get_or_at so.done x (drop (i + 1) initial) s i long in
    record {
      done = so.done ++ t ∷ [];
      arrived = subst (λ (l : List Secondary). ReceivedByAll octets l joint (so.done ++ t ∷ []))
          (sym (take_more initial i s lt))
          (subst (λ (a : Option Frame). ReceivedByAll octets (take i initial ++ x ∷ []) a
          (so.done ++ t ∷ [])) (sym e)
          (received_snoc octets (take i initial) so.done answer b x t so.arrived
          (subst (λ (u : Secondary). ReceivesOctets u octets b t) at receives)));
      rest = ap (λ (l : List Secondary). slice_set l i t) whole
          ∙ set_at so.done x t (drop (i + 1) initial) i long;
      fits = λ size all.
          let same : s.size ≡ size = ap (λ (u : Secondary). u.size) at
          ∙ size_at size initial i s lt all in
          subst (λ (o : Option Frame). IfSome o (Fits size)) (sym e)
          (fits_later size answer b (so.fits size all) (subst (λ (z : LinkSize). IfSome b (Fits z))
          same fit));
    }

-- all have received
pub received_whole : (octets : List ℕ) (initial stations : List Secondary) (i : ℕ)
    (answer : Option Frame)
    → length initial ≤ i → ReceivedSoFar octets initial i answer stations
    → ReceivedByAll octets initial answer stations
received_whole octets initial stations i answer le so =
    let done : stations ≡ so.done = so.rest
    ∙ ap (λ (l : List Secondary). so.done ++ l) (drop_all i initial le)
    ∙ append-nil so.done in
    subst (ReceivedByAll octets initial answer) (sym done)
    (subst (λ (l : List Secondary). ReceivedByAll octets l answer so.done) (take_all i initial le)
    so.arrived)

size_received : KeepsSize → (octets : List ℕ) (s t : Secondary) (answer : Option Frame)
    → ReceivesOctets s octets answer t
    → t.size ≡ s.size
size_received kept octets s t answer (inl h) = ap (λ (u : Secondary). u.size) h.2.2
    ∙ kept s (Receive h.2.0 (Some h.0) ∷ [])
size_received kept octets s t answer (inr h) = ap (λ (u : Secondary). u.size) h.2

sizes_received : KeepsSize → (size : LinkSize) (octets : List ℕ) (ss ts : List Secondary)
    (answer : Option Frame)
    → ReceivedByAll octets ss answer ts → AllByRecursion (λ s. s.size ≡ size) ss
    → AllByRecursion (λ s. s.size ≡ size) ts
sizes_received kept size octets [] [] answer h all = tt
sizes_received kept size octets [] (t ∷ ts) answer h all = absurd h
sizes_received kept size octets (s ∷ ss) [] answer h all = absurd h
sizes_received kept size octets (s ∷ ss) (t ∷ ts) answer h all = (
  size_received kept octets s t h.0 h.2 ∙ all.0,
  sizes_received kept size octets ss ts h.1 h.3
      all.1,
)

pub sizes_out : KeepsSize
    → (size : LinkSize) (fate : RequestFate) (octets : List ℕ) (ss ts : List Secondary)
    (answer : Option Frame) → IsPutOut fate octets ss answer ts
    → AllByRecursion (λ s. s.size ≡ size) ss
    → AllByRecursion (λ s. s.size ≡ size) ts
sizes_out kept size RequestLost octets ss ts answer h all =
    subst (λ (us : List Secondary). AllByRecursion (λ s. s.size ≡ size) us) (sym h.1) all
sizes_out kept size AnswerLost octets ss ts answer h all =
    sizes_received kept size octets ss ts answer h all
sizes_out kept size (AnswerSpoilt place) octets ss ts answer h all =
    sizes_received kept size octets ss ts answer h all
sizes_out kept size Answered octets ss ts answer h all =
    sizes_received kept size octets ss ts answer h all

-- a spelling has octets
pub some_spelling : (size : LinkSize) (frame : Frame) → 0 < length (spelling size frame)
some_spelling size Single = omega arith
some_spelling size (Fixed c a) = omega arith
some_spelling size (Data c a body) = omega arith

pub length_out : (fate : RequestFate) (octets : List ℕ) (ss ts : List Secondary)
    (answer : Option Frame)
    → IsPutOut fate octets ss answer ts → length ts ≡ length ss
length_out RequestLost octets ss ts answer h = ap length h.1
length_out AnswerLost octets ss ts answer h = received_length octets ss ts answer h
length_out (AnswerSpoilt place) octets ss ts answer h = received_length octets ss ts answer h
length_out Answered octets ss ts answer h = received_length octets ss ts answer h

pub length_lived : (plan : Plan) (log : Log) (answers : List (Option Frame))
    (stations : List Secondary)
    → AreLived plan log answers stations → length stations ≡ length plan.stations
length_lived plan [] [] stations h = ap length h
length_lived plan [] (a ∷ answers) stations h = absurd h
length_lived plan (Came now event ∷ log) answers stations h =
    length_lived plan log answers stations h
length_lived plan (Went now (LineOut octets) ∷ log) [] stations h = absurd h
length_lived plan (Went now (LineOut octets) ∷ log) (a ∷ answers) stations h =
    length_out (fate_of plan.directives (requests_in log + 1)) octets h.0 stations a h.1
    ∙ length_lived plan log answers h.0 h.2
length_lived plan (Went now (TcpOut octets) ∷ log) answers stations h =
    length_lived plan log answers stations h
length_lived plan (Went now (Closed cause) ∷ log) answers stations h =
    length_lived plan log answers stations h
length_lived plan (Went now (GapOut station session) ∷ log) answers stations h =
    length_lived plan log answers stations h
