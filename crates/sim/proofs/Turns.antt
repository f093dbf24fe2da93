-- A station's turns at the requests to it.
use Rattle.std.proofs.Common.{◌≡◌, ℕ, ◌+◌, ◌<◌, ◌^◌, Bool, true, false, List, [], ◌∷◌, ◌++◌, length}
use Rattle.std.proofs.Common.{map, Some, refl, sym, ap, subst, ◌∙◌, append_assoc, arith}
use Rattle.std.specs.List.{AllByRecursion}
use Rattle.std.proofs.lemmas.List.{append-nil, length-append}
use Rattle.ft12.specs.declared.frame.Frame.{Frame}
use Rattle.link.specs.declared.service.Service.TheVariants.{Class1, Class2, Command}
use Rattle.link.specs.declared.service.Asked.{Asked}
use Rattle.link.specs.declared.service.Asked.TheVariants.{Status, Reset, Counted}
use Rattle.link.specs.declared.request.Reading.{Reading}
use Rattle.link.specs.declared.request.Reading.TheVariants.{Asks}
use Rattle.link.specs.Delivery.{reports, commands, given_by, accepted_by}
use Rattle.link.specs.Life.{Call, Receive, request_asked, turn_asked, given1_at, given2_at, given1}
use Rattle.link.specs.Life.{given2, u64_saturate}
use Rattle.link.specs.Outstation.{Effect, Turn, silent, OutstationStep, OutstationRun, unreceived}
use Rattle.link.specs.Outstation.{all_done}
use Rattle.link.specs.Requests.{reading_of}
use Rattle.link.specs.Secondary.{Secondary, outstation_of, received_reading, served}
use Rattle.sim.specs.Outstations.{TakesTurn, TakesTurns}
use Rattle.sim.proofs.Below.{Laws}

-- some frame asks this of the station with this address
abbrev pub IsReadable : (address : ℕ) → Asked → Type 0
IsReadable address request = (frame : Frame) × (reading_of address frame ≡ Asks request)

-- what one request does
pub record Did (s : Secondary) (request : Asked) (turn : Turn) (t : Secondary) : Type 0 where
  step : OutstationStep s.address (outstation_of s) request turn (outstation_of t)
  address : t.address ≡ s.address
  class1 : given1_at request turn ++ t.class1 ≡ s.class1
  class2 : given2_at request turn ++ t.class2 ≡ s.class2
  accepted : s.accepted ++ commands turn.done ≡ t.accepted
  pub given : t.given ≡ u64_saturate (s.given + length (reports turn.done))

did_nothing : (s : Secondary) (request : Asked) → s.given < 2 ^ 64 → Did s request silent s
did_nothing s Status lt = record {
  step = unreceived refl refl;
  address = refl;
  class1 = refl;
  class2 = refl;
  accepted =
      append-nil s.accepted;
  given = omega arith;
}
did_nothing s Reset lt = record {
  step = unreceived refl refl;
  address = refl;
  class1 = refl;
  class2 = refl;
  accepted =
      append-nil s.accepted;
  given = omega arith;
}
did_nothing s (Counted fcb Class1) lt = record {
  step = unreceived refl refl;
  address = refl;
  class1 = refl;
  class2 =
      refl;
  accepted = append-nil s.accepted;
  given = omega arith;
}
did_nothing s (Counted fcb Class2) lt = record {
  step = unreceived refl refl;
  address = refl;
  class1 = refl;
  class2 =
      refl;
  accepted = append-nil s.accepted;
  given = omega arith;
}
did_nothing s (Counted fcb (Command asdu)) lt = record {
  step = unreceived refl refl;
  address = refl;
  class1 =
      refl;
  class2 = refl;
  accepted = append-nil s.accepted;
  given = omega arith;
}

did_served : (laws : Laws) (s : Secondary) (request : Asked) (granted : Bool)
    → IsReadable s.address request
    → s.given < 2 ^ 64 →
    Did s request (served granted s request).turn (served granted s request).state
did_served laws s request granted readable lt =
    let calls : List Call = Receive granted (Some readable.0) ∷ [] in
    let turn : Turn = (served granted s request).turn in
    let t : Secondary = (served granted s request).state in
    let run : OutstationRun s.address (outstation_of s) (request ∷ []) (turn ∷ [])
    (outstation_of t) =
    subst (λ (m : Reading). OutstationRun s.address (outstation_of s) (request_asked m ++ [])
    (turn_asked granted s m
    ++ []) (outstation_of (received_reading granted s m).state)) readable.1 (laws.run s calls) in
    let first : given1 (request ∷ []) (turn ∷ []) ++ t.class1 ≡ s.class1 ++ [] =
    subst (λ (m : Reading). given1 (request_asked m ++ []) (turn_asked granted s m ++ [])
    ++ (received_reading granted s m).state.class1 ≡ s.class1 ++ []) readable.1
    (laws.class1 s calls lt) in
    let second : given2 (request ∷ []) (turn ∷ []) ++ t.class2 ≡ s.class2 ++ [] =
    subst (λ (m : Reading). given2 (request_asked m ++ []) (turn_asked granted s m ++ [])
    ++ (received_reading granted s m).state.class2 ≡ s.class2 ++ []) readable.1
    (laws.class2 s calls lt) in
    let accepts : s.accepted ++ commands (turn.done ++ []) ≡ t.accepted =
    subst (λ (m : Reading). s.accepted ++ commands (all_done (turn_asked granted s m ++ []))
    ≡ (received_reading granted s m).state.accepted) readable.1 (laws.accepted s calls lt) in
    let gives : t.given ≡ u64_saturate (s.given + length (reports (turn.done ++ []))) =
    subst (λ (m : Reading). (received_reading granted s m).state.given
    ≡ u64_saturate (s.given + length (reports (all_done (turn_asked granted s m ++ [])))))
    readable.1
    (laws.given s calls lt) in
    record {
      step = subst (λ o. OutstationStep s.address (outstation_of s) request turn o) (sym run.2)
          run.1;
      address = subst (λ (m : Reading). (received_reading granted s m).state.address ≡ s.address)
          readable.1
          (laws.address s calls);
      class1 = ap (λ (l : List (List ℕ)). l ++ t.class1) (sym (append-nil (given1_at request turn)))
          ∙ first
          ∙ append-nil s.class1;
      class2 = ap (λ (l : List (List ℕ)). l ++ t.class2) (sym (append-nil (given2_at request turn)))
          ∙ second
          ∙ append-nil s.class2;
      accepted = ap (λ (l : List Effect). s.accepted ++ commands l) (sym (append-nil turn.done))
          ∙ accepts;
      given = gives ∙ ap (λ (l : List Effect). u64_saturate (s.given + length (reports l)))
          (append-nil turn.done);
    }

pub did : (laws : Laws) (arrived : Bool) (s : Secondary) (request : Asked) (turn : Turn)
    (t : Secondary)
    → IsReadable s.address request → s.given < 2 ^ 64 → TakesTurn arrived s request turn t
    → Did s request turn t
did laws false s request turn t readable lt h =
    subst (λ (u : Secondary). Did s request turn u) (sym h.1)
    (subst (λ (v : Turn). Did s request v s) (sym h.0) (did_nothing s request lt))
did laws true s request turn t readable lt h =
    subst (λ (u : Secondary). Did s request turn u) (sym h.2)
    (subst (λ (v : Turn). Did s request v (served h.0 s request).state) (sym h.1)
    (did_served laws s request h.0 readable lt))

-- what all requests do
pub record DidAll (s : Secondary) (requests : List Asked) (turns : List Turn) (t : Secondary) : Type
    0 where
  pub run : OutstationRun s.address (outstation_of s) requests turns (outstation_of t)
  pub class1 : given1 requests turns ++ t.class1 ≡ s.class1
  pub class2 : given2 requests turns ++ t.class2 ≡ s.class2
  pub accepted : s.accepted ++ commands (all_done turns) ≡ t.accepted
  pub given : t.given ≡ u64_saturate (s.given + length (reports (all_done turns)))

commands_more : (first rest : List Effect) → commands (first ++ rest)
    ≡ commands first ++ commands rest
commands_more [] rest = refl
commands_more (e ∷ first) rest = ap (λ (l : List (List ℕ)). accepted_by e ++ l)
    (commands_more first rest)
    ∙ sym (append_assoc (accepted_by e) (commands first) (commands rest))

reports_more : (first rest : List Effect) → reports (first ++ rest) ≡ reports first ++ reports rest
reports_more [] rest = refl
reports_more (e ∷ first) rest =
    ap (λ (l : List (List ℕ)). given_by e ++ l) (reports_more first rest)
    ∙ sym (append_assoc (given_by e) (reports first) (reports rest))

pub length_more : (first rest : List Effect) → length (reports (first ++ rest))
    ≡ length (reports first) + length (reports rest)
length_more first rest = ap length (reports_more first rest)
    ∙ length-append (reports first) (reports rest)

count_twice : (g m n a b c : ℕ) → m ≡ u64_saturate (g + a) → n ≡ u64_saturate (m + b) → c ≡ a + b
    → n ≡ u64_saturate (g + c)
count_twice g m n a b c p q r = omega arith

small_count : (n m : ℕ) → n ≡ u64_saturate m → n < 2 ^ 64
small_count n m e = omega arith

-- a request, and what those after it do
did_more : (s mid t : Secondary) (request : Asked) (requests : List Asked) (turn : Turn)
    (turns : List Turn)
    → Did s request turn mid → DidAll mid requests turns t
    → DidAll s (request ∷ requests) (turn ∷ turns) t
did_more s mid t request requests turn turns one rest = record {
  run = (
    outstation_of mid,
    one.step,
    subst (λ (a : ℕ). OutstationRun a (outstation_of mid) requests turns (outstation_of t))
        one.address rest.run,
  );
  class1 = append_assoc (given1_at request turn) (given1 requests turns) t.class1
      ∙ ap (λ (l : List (List ℕ)). given1_at request turn ++ l) rest.class1 ∙ one.class1;
  class2 = append_assoc (given2_at request turn) (given2 requests turns) t.class2
      ∙ ap (λ (l : List (List ℕ)). given2_at request turn ++ l) rest.class2 ∙ one.class2;
  accepted = ap (λ (l : List (List ℕ)). s.accepted ++ l) (commands_more turn.done (all_done turns))
      ∙ sym (append_assoc s.accepted (commands turn.done) (commands (all_done turns)))
      ∙ ap (λ (l : List (List ℕ)). l ++ commands (all_done turns)) one.accepted ∙ rest.accepted;
  given = count_twice s.given mid.given t.given (length (reports turn.done))
      (length (reports (all_done turns)))
      (length (reports (turn.done ++ all_done turns))) one.given rest.given
      (length_more turn.done (all_done turns));
}

-- the requests, received or not
abbrev pub asked_of : List (Bool × Asked) → List Asked
asked_of rs = map (λ (r : Bool × Asked). r.1) rs

pub did_all : (laws : Laws) (s t : Secondary) (rs : List (Bool × Asked)) (turns : List Turn)
    → s.given < 2 ^ 64
    → AllByRecursion (λ (r : Bool × Asked). IsReadable s.address r.1) rs → TakesTurns s rs turns t →
    DidAll s (asked_of rs) turns t
did_all laws s t [] [] lt readable h = subst (λ (u : Secondary). DidAll s [] [] u) (sym h)
    (record {
      run = refl;
      class1 = refl;
      class2 = refl;
      accepted = append-nil s.accepted;
      given =
          omega arith;
    })
did_all laws s t [] (turn ∷ turns) lt readable h = absurd h
did_all laws s t (r ∷ rs) [] lt readable h = absurd h
did_all laws s t (r ∷ rs) (turn ∷ turns) lt readable h =
    let one : Did s r.1 turn h.0 = did laws r.0 s r.1 turn h.0 readable.0 lt h.1 in
    let onward : AllByRecursion (λ (q : Bool × Asked). IsReadable h.0.address q.1) rs =
    subst (λ (a : ℕ). AllByRecursion (λ (q : Bool × Asked). IsReadable a q.1) rs)
    (sym one.address) readable.1 in
    did_more s h.0 t r.1 (asked_of rs) turn turns one
    (did_all laws h.0 t rs turns (small_count h.0.given (s.given + length (reports turn.done))
    one.given) onward h.2)

-- one more request
pub takes_more : (s mid t : Secondary) (rs : List (Bool × Asked)) (turns : List Turn)
    (arrived : Bool)
    (request : Asked)
    (turn : Turn) → TakesTurns s rs turns mid → TakesTurn arrived mid request turn t →
    TakesTurns s (rs ++ (arrived, request) ∷ []) (turns ++ turn ∷ []) t
takes_more s mid t [] [] arrived request turn h one = (
  t,
  subst (λ (u : Secondary). TakesTurn arrived u request turn t) h one,
  refl,
)
takes_more s mid t [] (v ∷ turns) arrived request turn h one = absurd h
takes_more s mid t (r ∷ rs) [] arrived request turn h one = absurd h
takes_more s mid t (r ∷ rs) (v ∷ turns) arrived request turn h one =
    (h.0, h.1, takes_more h.0 mid t rs turns arrived request turn h.2 one)
