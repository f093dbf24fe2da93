-- Frames received one after another.
use Rattle.std.proofs.Common.{◌&&◌, ◌||◌, ◌≡◌, ℕ, ◌+◌, Bool, true, false, List, [], ◌∷◌, ◌++◌, ◌∙◌}
use Rattle.std.proofs.Common.{drop, length, Option, Some, None, ap, refl, sym, subst, inl, inr}
use Rattle.std.specs.Prelude.{IfSome, unwrap_or, ◌⊎◌}
use Rattle.std.proofs.lemmas.Bool.{and_parts}
use Rattle.std.proofs.lemmas.List.Folds.{list_all-append}
use Rattle.std.specs.List.{list_all}
use Rattle.std.specs.Option.{is_none}
use Rattle.ft12.specs.Assembly.{Receives}
use Rattle.ft12.specs.Reading.{IsFront}
use Rattle.ft12.specs.declared.assembling.Received.{Received}
use Rattle.ft12.specs.declared.assembling.Received.TheVariants as received
use Rattle.ft12.specs.declared.frame.Why.{Why}
use Rattle.ft12.specs.declared.frame.Frame.{Frame}
use Rattle.ft12.specs.declared.frame.Front.TheVariants.{Whole}
use Rattle.ft12.specs.declared.frame.LinkSize.{LinkSize}
use Rattle.live.specs.OctetStreams.{StreamHistory}
use Rattle.sim.specs.Exchanges.{Brings, ComesBack, RequestExchange, Exchanged, HasReceived}
use Rattle.sim.specs.Exchanges.{IsRequestAnswered}
use Rattle.sim.specs.Exchanges.{IsFrameReceived, IsKeptRest, NoneLeft, Begun, Spoilt}
use Rattle.sim.specs.Exchanges.{IsRestKept, StopsAtUntaken}
use Rattle.sim.specs.Exchanges.{OutstationsState, answer_written}
use Rattle.sim.specs.Exchanges.{took}
use Rattle.sim.specs.Exchanges.{written}

-- what was received so far, while only whole frames were
pub record IsReceiving (old : OutstationsState) (octets left : List ℕ) (before now : StreamHistory)
    (new : OutstationsState) (are_taken : Bool) : Type 0 where
  pub exchanges : List RequestExchange
  pub mid : OutstationsState
  pub brought : Brings old.size old.so_far octets exchanges new.so_far left
  pub answered : Exchanged old exchanges mid
  pub wrote : now ≡ written before exchanges
  pub taken : list_all took exchanges ≡ are_taken
  pub stops : StopsAtUntaken exchanges
  pub new_is : new ≡ record mid { so_far = new.so_far }

-- if it took all before the last
stops_with : (xs : List RequestExchange) (x : RequestExchange) → list_all took xs ≡ true
    → StopsAtUntaken (xs ++ x ∷ [])
stops_with [] x e = (λ untaken. refl, tt)
stops_with (y ∷ ys) x e =
    let all = and_parts (took y) (list_all took ys) e in
    (λ untaken. let both : true ≡ false = sym all.0 ∙ untaken in cc, stops_with ys x all.1)

brings_more : (size : LinkSize) (so_far octets : List ℕ) (xs : List RequestExchange)
    (last left : List ℕ)
    (x : RequestExchange) (n : ℕ) → Brings size so_far octets xs last left →
    IsFront size (last ++ left) (Whole x.request (length last + n)) →
    Brings size so_far octets (xs ++ x ∷ []) [] (drop n left)
brings_more size so_far octets [] last left x n h front = (
  n,
  subst (λ (o : List ℕ). IsFront size (so_far ++ o) (Whole x.request (length so_far + n))) h.1
      (subst (λ (l : List ℕ). IsFront size (l ++ left) (Whole x.request (length l + n))) h.0 front),
  (refl, ap (λ (o : List ℕ). drop n o) h.1),
)
brings_more size so_far octets (y ∷ ys) last left x n h front =
    (h.0, h.1, brings_more size [] (drop h.0 octets) ys last left x n h.2 front)

exchanged_more : (old mid new : OutstationsState) (xs : List RequestExchange) (x : RequestExchange)
    →
    Exchanged old xs mid → IsRequestAnswered mid x.request x.answer new →
    Exchanged old (xs ++ x ∷ []) new
exchanged_more old mid new [] x h a =
    (new, subst (λ (s : OutstationsState). IsRequestAnswered s x.request x.answer new) h a, refl)
exchanged_more old mid new (y ∷ ys) x h a =
    (h.0, h.1, exchanged_more h.0 mid new ys x h.2 a)

written_more : (before : StreamHistory) (xs : List RequestExchange) (x : RequestExchange) →
    written before (xs ++ x ∷ [])
    ≡ answer_written (written before xs) x.answer x.is_taken
written_more before [] x = refl
written_more before (y ∷ ys) x = written_more (answer_written before y.answer y.is_taken) ys x

-- The octets so far are nothing to what stations answer.
answered_over : (old new : OutstationsState) (so_far : List ℕ) (request : Frame)
    (answer : Option (List ℕ)) →
    IsRequestAnswered (record old { so_far = so_far }) request answer new →
    IsRequestAnswered old request answer (record new { so_far = old.so_far })
answered_over old new so_far request answer a =
    let c = a.comes in
    record {
      back = a.back;
      received = record a.received { so_far = old.so_far };
      comes = record {
        reply = c.reply;
        stations = c.stations;
        received = c.received;
        answered = c.answered;
        new_is = ap (λ (s : OutstationsState). record s { so_far = old.so_far }) c.new_is;
      };
      answered = a.answered;
      new_is = ap (λ (s : OutstationsState). record s { so_far = old.so_far }) a.new_is;
    }

-- of a request nothing changes but the stations, the count of requests and what waits
pub answered_size : (old new : OutstationsState) (request : Frame) (answer : Option (List ℕ)) →
    IsRequestAnswered old request answer new → new.size ≡ old.size
answered_size old new request answer a =
    ap (λ (s : OutstationsState). s.size) a.new_is
    ∙ ap (λ (s : OutstationsState). s.size) a.comes.new_is

pub answered_so_far : (old new : OutstationsState) (request : Frame) (answer : Option (List ℕ)) →
    IsRequestAnswered old request answer new → new.so_far ≡ old.so_far
answered_so_far old new request answer a =
    ap (λ (s : OutstationsState). s.so_far) a.new_is
    ∙ ap (λ (s : OutstationsState). s.so_far) a.comes.new_is

-- the size of addresses stays
exchanged_size : (old new : OutstationsState) (xs : List RequestExchange) → Exchanged old xs new →
    new.size ≡ old.size
exchanged_size old new [] h = ap (λ (s : OutstationsState). s.size) h
exchanged_size old new (x ∷ xs) h =
    exchanged_size h.0 new xs h.2 ∙ answered_size old h.0 x.request x.answer h.1

receiving_size : (old : OutstationsState) (octets left : List ℕ) (before mid : StreamHistory)
    (now : OutstationsState) →
    IsReceiving old octets left before mid now true → now.size ≡ old.size
receiving_size old octets left before mid now so =
    ap (λ (s : OutstationsState). s.size) so.new_is
    ∙ exchanged_size old so.mid so.exchanges so.answered

and_true : (b : Bool) → (b && true) ≡ b
and_true true = refl
and_true false = refl

-- one more frame was received
pub more_received : (old : OutstationsState) (octets left : List ℕ) (before mid : StreamHistory)
    (now : OutstationsState)
    (after : StreamHistory) (n : ℕ) (is_taken : Bool) (new : OutstationsState) →
    IsReceiving old octets left before mid now true →
    IsFrameReceived now left mid after n is_taken new →
    IsReceiving old octets (drop n left) before after new is_taken
more_received old octets left before mid now after n is_taken new so f =
    let x = f.exchange in
    let kept : new.so_far ≡ [] = ap (λ (s : OutstationsState). s.so_far) f.new_is in
    let front : IsFront old.size (now.so_far ++ left)
    (Whole x.request (length now.so_far + n)) =
    subst (λ (z : LinkSize). IsFront z (now.so_far ++ left)
    (Whole x.request (length now.so_far + n)))
    (receiving_size old octets left before mid now so) f.front in
    let answered : IsRequestAnswered so.mid x.request x.answer
    (record f.mid { so_far = so.mid.so_far }) =
    answered_over so.mid f.mid now.so_far x.request x.answer
    (subst (λ (s : OutstationsState). IsRequestAnswered s x.request x.answer f.mid) so.new_is
    f.answered) in
    record {
      exchanges = so.exchanges ++ x ∷ [];
      mid = record f.mid { so_far = so.mid.so_far };
      brought = subst (λ (l : List ℕ). Brings old.size old.so_far octets (so.exchanges ++ x ∷ []) l
          (drop n left)) (sym kept)
          (brings_more old.size old.so_far octets so.exchanges now.so_far left x n so.brought
          front);
      answered = exchanged_more old so.mid (record f.mid { so_far = so.mid.so_far }) so.exchanges x
          so.answered answered;
      wrote = f.wrote
          ∙ (ap (λ (h : StreamHistory). answer_written h x.answer x.is_taken) so.wrote
          ∙ sym (written_more before so.exchanges x));
      taken = list_all-append took so.exchanges (x ∷ [])
          ∙ (ap (λ (b : Bool). b && (took x && true)) so.taken
          ∙ (and_true (took x) ∙ sym f.taken));
      stops = stops_with so.exchanges x so.taken;
      new_is = f.new_is ∙ ap (λ (l : List ℕ). record f.mid { so_far = l }) (sym kept);
    }

-- the stream didn't take the answer to the last one
pub untaken_received : (old : OutstationsState) (octets left : List ℕ) (before mid : StreamHistory)
    (now : OutstationsState) (after : StreamHistory) (new : OutstationsState) →
    IsReceiving old octets left before mid now true →
    (n : ℕ) × IsFrameReceived now left mid after n false new →
    HasReceived old octets before after false new
untaken_received old octets left before mid now after new so f =
    let more = more_received old octets left before mid now after f.0 false new so f.1 in
    record {
      exchanges = more.exchanges;
      last = new.so_far;
      left = drop f.0 left;
      mid = more.mid;
      brought = more.brought;
      answered = more.answered;
      wrote = more.wrote;
      taken = sym more.taken;
      stops = more.stops;
      whole = λ (e : false ≡ true). absurd (let no : ⊥ = cc in no);
      cut = λ (e : false ≡ false). ap (λ (s : OutstationsState). s.so_far) f.1.new_is;
      new_is = more.new_is;
    }

-- no whole frame is left
pub rest_received : (old : OutstationsState) (octets left : List ℕ) (before mid : StreamHistory)
    (now : OutstationsState)
    (after : StreamHistory) (new : OutstationsState) →
    IsReceiving old octets left before mid now true → IsRestKept now left mid after new →
    HasReceived old octets before after true new
rest_received old octets left before mid now after new so r =
    let kept : new.so_far ≡ r.kept = ap (λ (s : OutstationsState). s.so_far) r.new_is in
    record {
      exchanges = so.exchanges;
      last = now.so_far;
      left = left;
      mid = so.mid;
      brought = so.brought;
      answered = so.answered;
      wrote = r.nothing_wrote ∙ so.wrote;
      taken = sym so.taken;
      stops = so.stops;
      cut = λ (e : true ≡ false). absurd (let none : ⊥ = cc in none);
      whole = λ (e : true ≡ true). subst (λ (l : List ℕ). IsKeptRest old.size now.so_far left l)
          (sym kept) (subst (λ (z : LinkSize). IsKeptRest z now.so_far left r.kept)
          (receiving_size old octets left before mid now so) r.is_kept);
      new_is = r.new_is
          ∙ (ap (λ (s : OutstationsState). record s { so_far = r.kept }) so.new_is
          ∙ ap (λ (l : List ℕ). record so.mid { so_far = l }) (sym kept));
    }

-- nothing is left
pub all_received : (old : OutstationsState) (octets left : List ℕ) (before mid : StreamHistory)
    (now : OutstationsState) →
    IsReceiving old octets left before mid now true → left ≡ [] →
    HasReceived old octets before mid true now
all_received old octets left before mid now so none = record {
  exchanges = so.exchanges;
  last = now.so_far;
  left = left;
  mid = so.mid;
  brought = so.brought;
  answered = so.answered;
  wrote = so.wrote;
  taken = sym so.taken;
  stops = so.stops;
  whole = λ (e : true ≡ true). NoneLeft none;
  cut = λ (e : true ≡ false). absurd (let never : ⊥ = cc in never);
  new_is = so.new_is;
}

-- an assembler that listens
pub listens : (o : Option (List ℕ)) (so_far : List ℕ) → o ≡ Some so_far →
    o ≡ Some (unwrap_or o [])
listens None so_far e = absurd (let no : ⊥ = cc in no)
listens (Some octets) so_far e = refl

pub comes_back_so : (view now : OutstationsState) → view ≡ now → (request : Frame)
    (back : Option (List ℕ)) (new : OutstationsState) → ComesBack view request back new →
    ComesBack now request back new
comes_back_so view now e request back new c =
    subst (λ (s : OutstationsState). ComesBack s request back new) e c

-- what an assembler says that listens
received_by : (size : LinkSize) (o : Option (List ℕ)) (so_far octets : List ℕ) (n : ℕ)
    (h : Received)
    (after : Option (List ℕ)) → o ≡ Some so_far →
    IfSome o (λ (s : List ℕ). Receives size s octets n h after) →
    Receives size so_far octets n h after
received_by size o so_far octets n h after e all =
    let on : IfSome (Some so_far) (λ (s : List ℕ). Receives size s octets n h after) =
    subst (λ (x : Option (List ℕ)). IfSome x (λ (s : List ℕ). Receives size s octets n h after)) e
    all in
    on

-- a whole frame was received, and answered
pub front_received : (view now new : OutstationsState) → view ≡ now → (octets : List ℕ)
    (before after : StreamHistory) (n : ℕ) (result is_taken : Bool) → result ≡ is_taken →
    (request : Frame) (h : Received) → h ≡ received.Frame request →
    (o next : Option (List ℕ)) → o ≡ Some view.so_far → (size : LinkSize) → size ≡ view.size →
    IfSome o (λ (s : List ℕ). Receives size s octets n h next) →
    (answer : Option (List ℕ))
    × IsRequestAnswered (record view { so_far = unwrap_or next [] }) request answer new
    × (after ≡ answer_written before answer result)
    × (result ≡ (is_none answer || result)) →
    IsFrameReceived now octets before after n is_taken new
front_received view now new e octets before after n result is_taken t request h f o next l size z
    all
    a =
    let received_now : Receives view.size view.so_far octets n (received.Frame request) next =
    subst (λ (s : LinkSize). Receives s view.so_far octets n (received.Frame request) next) z
    (subst (λ (x : Received). Receives size view.so_far octets n x next) f
    (received_by size o view.so_far octets n h next l all)) in
    let empty : unwrap_or next [] ≡ [] = ap (λ (x : Option (List ℕ)). unwrap_or x [])
    received_now.1 in
    let fresh : IsRequestAnswered (record view { so_far = [] }) request a.0 new =
    subst (λ (l : List ℕ). IsRequestAnswered (record view { so_far = l }) request a.0 new) empty
    a.1 in
    let none : new.so_far ≡ [] =
    answered_so_far (record view { so_far = [] }) new request a.0 fresh in
    let seen : IsFrameReceived view octets before after n is_taken new = record {
      exchange = record { request = request; answer = a.0; is_taken = is_taken };
      mid = record new { so_far = view.so_far };
      front = received_now.0;
      answered = answered_over view new [] request a.0 fresh;
      wrote = subst (λ (b : Bool). after ≡ answer_written before a.0 b) t a.2;
      taken = subst (λ (b : Bool). b ≡ (is_none a.0 || b)) t a.3;
      new_is = ap (λ (l : List ℕ). record new { so_far = l }) none;
    } in
    subst (λ (s : OutstationsState). IsFrameReceived s octets before after n is_taken new) e seen

-- octets that begin a frame
pub begun_kept : (view now : OutstationsState) → view ≡ now
    → (octets : List ℕ) (before : StreamHistory) (n : ℕ)
    (h : Received) → h ≡ received.More → (o next : Option (List ℕ)) → o ≡ Some view.so_far →
    (size : LinkSize) → size ≡ view.size →
    IfSome o (λ (s : List ℕ). Receives size s octets n h next) →
    IsRestKept now octets before before (record view { so_far = unwrap_or next [] })
begun_kept view now e octets before n h f o next l size z all =
    let received_now : Receives view.size view.so_far octets n received.More next =
    subst (λ (s : LinkSize). Receives s view.so_far octets n received.More next) z
    (subst (λ (x : Received). Receives size view.so_far octets n x next) f
    (received_by size o view.so_far octets n h next l all)) in
    let kept : unwrap_or next [] ≡ view.so_far ++ octets =
    ap (λ (x : Option (List ℕ)). unwrap_or x []) received_now.2 in
    let seen : IsRestKept view octets before before (record view { so_far = unwrap_or next [] }) =
    record {
      kept = view.so_far ++ octets;
      is_kept = Begun received_now.0;
      nothing_wrote = refl;
      new_is = ap (λ (l : List ℕ). record view { so_far = l }) kept;
    } in
    subst (λ (s : OutstationsState). IsRestKept s octets before before
    (record view { so_far = unwrap_or next [] })) e seen

-- octets that begin none
pub spoilt_kept : (view now : OutstationsState) → view ≡ now
    → (octets : List ℕ) (before : StreamHistory)
    (n place : ℕ) (why : Why) (h : Received) → h ≡ received.Never place why →
    (o next cleared : Option (List ℕ)) → o ≡ Some view.so_far → cleared ≡ Some [] →
    (size : LinkSize) → size ≡ view.size →
    IfSome o (λ (s : List ℕ). Receives size s octets n h next) →
    IsRestKept now octets before before (record view { so_far = unwrap_or cleared [] })
spoilt_kept view now e octets before n place why h f o next cleared l c size z all =
    let received_now : Receives view.size view.so_far octets n (received.Never place why) next =
    subst (λ (s : LinkSize). Receives s view.so_far octets n (received.Never place why) next) z
    (subst (λ (x : Received). Receives size view.so_far octets n x next) f
    (received_by size o view.so_far octets n h next l all)) in
    let kept : unwrap_or cleared [] ≡ [] =
    ap (λ (x : Option (List ℕ)). unwrap_or x []) c in
    let seen : IsRestKept view octets before before
    (record view { so_far = unwrap_or cleared [] }) =
    record {
      kept = [];
      is_kept = Spoilt place why received_now.0;
      nothing_wrote = refl;
      new_is = ap (λ (l : List ℕ). record view { so_far = l }) kept;
    } in
    subst (λ (s : OutstationsState). IsRestKept s octets before before
    (record view { so_far = unwrap_or cleared [] })) e seen

-- and an assembler that listens isn't deaf
pub none_kept : (view now : OutstationsState) → view ≡ now
    → (octets : List ℕ) (before : StreamHistory) (n : ℕ)
    (h : Received) → ((place : ℕ) × (why : Why) × (h ≡ received.Never place why))
    ⊎ (h ≡ received.Deaf)
    →
    (o next cleared : Option (List ℕ)) → o ≡ Some view.so_far → cleared ≡ Some [] →
    (size : LinkSize) → size ≡ view.size →
    IfSome o (λ (s : List ℕ). Receives size s octets n h next) →
    IsRestKept now octets before before (record view { so_far = unwrap_or cleared [] })
none_kept view now e octets before n h (inl f) o next cleared l c size z all =
    spoilt_kept view now e octets before n f.0 f.1 h f.2 o next cleared l c size z all
none_kept view now e octets before n h (inr f) o next cleared l c size z all =
    let none : Receives size view.so_far octets n received.Deaf next =
    subst (λ (x : Received). Receives size view.so_far octets n x next) f
    (received_by size o view.so_far octets n h next l all) in
    absurd none
