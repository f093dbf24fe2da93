-- A frame at the front of an exchange is its station's answer.
use Rattle.std.proofs.Common.{◌≡◌, ℕ, ◌+◌, ◌%◌, ◌<◌, ◌||◌, ◌⊎◌, Bool, true, false, List, [], ◌∷◌}
use Rattle.std.proofs.Common.{◌++◌, length, Option, Some, None, IfSome, refl, sym, ap, subst, ◌∙◌}
use Rattle.std.proofs.Common.{inl, inr, arith, if◌then◌else◌}
use Rattle.std.specs.Prelude.{◌==◌, ◌&&◌, not, nat_le, option_and_then}
use Rattle.std.proofs.lemmas.List.{append-nil, length-append}
use Rattle.std.proofs.lemmas.Bool.{eq-eqb}
use Rattle.ft12.specs.declared.frame.LinkSize.{LinkSize}
use Rattle.ft12.specs.declared.frame.Frame.{Frame}
use Rattle.ft12.specs.declared.frame.Front.{Front}
use Rattle.ft12.specs.declared.frame.Front.TheVariants.{Whole, More, Never}
use Rattle.ft12.specs.Fronts.{front_of}
use Rattle.ft12.specs.Reading.{IsFront}
use Rattle.ft12.specs.Spelling.{Fits, spelling}
use Rattle.ft12.specs.Spoiling.{spoilt}
use Rattle.link.specs.declared.answer.Answer.{Answer}
use Rattle.link.specs.Answers.{answer_of}
use Rattle.link.specs.Delivery.{IsTrueFront, AreTrueFronts}
use Rattle.link.specs.Exchanges.{Exchange, Exchanges, OpenExchange, Sending, as_list, all_of}
use Rattle.link.specs.Exchanges.{received_octets, received_current, timed, timed_current, begun_by}
use Rattle.link.specs.Exchanges.{whole_of, view, views, with_station}
use Rattle.link.specs.Outstation.{Turn}
use Rattle.gateway.specs.Log.{Log}
use Rattle.gateway.specs.Reports.{Setup, address_at, exchanges_of}
use Rattle.gateway.specs.Line.{IsWaiting}
use Rattle.sim.specs.declared.directive.RequestFate.{RequestFate}
use Rattle.sim.specs.declared.directive.RequestFate.TheVariants.{RequestLost, AnswerLost}
use Rattle.sim.specs.declared.directive.RequestFate.TheVariants.{AnswerSpoilt}
use Rattle.sim.specs.declared.directive.RequestFate.TheVariants.{Answered}
use Rattle.sim.specs.Lives.{arriving}
use Rattle.sim.proofs.Below.{Laws}
use Rattle.sim.proofs.ReceivingLemmas.{some_spelling}

-- An exchange is settled: it takes no more octets, or has a frame at its front.
abbrev pub IsSettled : LinkSize → OpenExchange → Type 0
IsSettled size x = ((x.closed || x.given_up) ≡ true)
    ⊎ ((frame : Frame) × (n : ℕ) × (front_of size x.octets ≡ Whole frame n))

-- what waits may come to the exchange: it has no effect, or is all that comes, and true
abbrev pub MayCome : LinkSize → Option (List ℕ) → OpenExchange → Turn → Type 0
MayCome size None x turn = Unit {0}
MayCome size (Some piece) x turn = IsSettled size x ⊎ ((x.octets ≡ [])
    × IsTrueFront (whole_of (front_of size piece)) turn)

-- the latest exchange, if it is one with the station (or isn't)
abbrev pub IsLatestOf : LinkSize → (is_its : Bool) → OpenExchange → List Turn → Option (List ℕ)
    → Type 0
IsLatestOf size true x here waiting = (turn : Turn) × (here ≡ turn ∷ [])
    × IsTrueFront (whole_of (front_of size x.octets)) turn × MayCome size waiting x turn
IsLatestOf size false x here waiting = here ≡ []

abbrev pub IsLatest : LinkSize → ℕ → Option OpenExchange → List Turn → Option (List ℕ) → Type 0
IsLatest size i None here waiting = here ≡ []
IsLatest size i (Some x) here waiting = IsLatestOf size (x.station == i) x here waiting

-- the exchanges with a station that some of a line's are
abbrev pub its : LinkSize → ℕ → List OpenExchange → List Exchange
its size i xs = with_station i (views (front_of size) xs)

-- The turns are those at the exchanges that ended and at the latest, and true to their fronts, also
-- once what
-- waits has come.
pub record AreFronts (size : LinkSize) (i : ℕ) (e : Exchanges) (turns : List Turn)
    (waiting : Option (List ℕ)) : Type 0 where
  pub done : List Turn
  pub here : List Turn
  pub both : turns ≡ done ++ here
  pub long : length done ≡ length (its size i e.ended)
  pub fronts : AreTrueFronts (its size i e.ended) done
  pub latest : IsLatest size i e.current here waiting

-- A moment

still_over : (closed given_up late : Bool) → (closed || given_up) ≡ true
    → ((closed || (not given_up && late)) || given_up) ≡ true
still_over true given_up late h = refl
still_over false true late h = refl
still_over false false late h = cc

settled_timed : (size : LinkSize) (ms at : ℕ) (x : OpenExchange) → IsSettled size x
    → IsSettled size (timed ms at x)
settled_timed size ms at x (inl over) =
    inl (still_over x.closed x.given_up (nat_le (x.since + ms) at) over)
settled_timed size ms at x (inr h) = inr h

may_timed : (size : LinkSize) (ms at : ℕ) (waiting : Option (List ℕ)) (x : OpenExchange)
    (turn : Turn)
    → MayCome size waiting x turn → MayCome size waiting (timed ms at x) turn
may_timed size ms at None x turn h = tt
may_timed size ms at (Some piece) x turn (inl settled) = inl (settled_timed size ms at x settled)
may_timed size ms at (Some piece) x turn (inr h) = inr h

pub latest_timed : (size : LinkSize) (i ms at : ℕ) (c : Option OpenExchange) (here : List Turn)
    (waiting : Option (List ℕ)) → IsLatest size i c here waiting
    → IsLatest size i (timed_current ms at c) here waiting
latest_timed size i ms at None here waiting h = h
latest_timed size i ms at (Some x) here waiting h = go (x.station == i) h
  where
    go : (b : Bool) → IsLatestOf size b x here waiting
        → IsLatestOf size b (timed ms at x) here waiting
    go true k = (k.0, k.1, k.2, may_timed size ms at waiting x k.0 k.3)
    go false k = k

abbrev pub fronts_timed : (size : LinkSize) (i ms at : ℕ) (e : Exchanges) (turns : List Turn)
    (waiting : Option (List ℕ)) → AreFronts size i e turns waiting →
    AreFronts size i (record { ended = e.ended; current = timed_current ms at e.current }) turns
    waiting
fronts_timed size i ms at e turns waiting h =
    record {
      done = h.done;
      here = h.here;
      both = h.both;
      long = h.long;
      fronts = h.fronts;
      latest =
          latest_timed size i ms at e.current h.here waiting h.latest;
    }

-- What waits comes

front_received : (laws : Laws) (size : LinkSize) (piece : List ℕ) (x : OpenExchange) (turn : Turn)
    → IsTrueFront (whole_of (front_of size x.octets)) turn → MayCome size (Some piece) x turn →
    IsTrueFront (whole_of (front_of size (received_octets piece x).octets)) turn
front_received laws size piece x turn h may = go (x.closed || x.given_up) refl may
  where
    go : (b : Bool) → (x.closed || x.given_up) ≡ b → MayCome size (Some piece) x turn
        → IsTrueFront (whole_of (front_of size (if b then x.octets else x.octets ++ piece))) turn
    go true is k = h
    go false is (inl (inl closed)) = let bad : ⊥ = cc in absurd bad
    go false is (inl (inr k)) =
        subst (λ (f : Front). IsTrueFront (whole_of f) turn) (k.2
        ∙ sym (laws.whole size x.octets piece k.0 k.1 k.2)) h
    go false is (inr k) =
        subst (λ (xs : List ℕ). IsTrueFront (whole_of (front_of size (xs ++ piece))) turn)
        (sym k.0) k.1

pub latest_received : (laws : Laws) (size : LinkSize) (i : ℕ) (piece : List ℕ)
    (c : Option OpenExchange)
    (here : List Turn) → IsLatest size i c here (Some piece)
    → IsLatest size i (received_current piece c) here None
latest_received laws size i piece None here h = h
latest_received laws size i piece (Some x) here h = go (x.station == i) h
  where
    go : (b : Bool) → IsLatestOf size b x here (Some piece)
        → IsLatestOf size b (received_octets piece x) here None
    go true k = (k.0, k.1, front_received laws size piece x k.0 k.2 k.3, tt)
    go false k = k

abbrev pub fronts_received : (laws : Laws) (size : LinkSize) (i : ℕ) (piece : List ℕ)
    (e : Exchanges)
    (turns : List Turn)
    → AreFronts size i e turns (Some piece) →
    AreFronts size i (record { ended = e.ended; current = received_current piece e.current }) turns
    None
fronts_received laws size i piece e turns h =
    record {
      done = h.done;
      here = h.here;
      both = h.both;
      long = h.long;
      fronts = h.fronts;
      latest =
          latest_received laws size i piece e.current h.here h.latest;
    }

-- All fronts

pub its-append : (size : LinkSize) (i : ℕ) (xs ys : List OpenExchange)
    → its size i (xs ++ ys) ≡ its size i xs ++ its size i ys
its-append size i [] ys = refl
its-append size i (x ∷ xs) ys = go (x.station == i) (its-append size i xs ys)
  where
    go : (b : Bool) → its size i (xs ++ ys) ≡ its size i xs ++ its size i ys →
        (if b then (view (front_of size) x).exchange ∷ its size i (xs ++ ys)
        else its size i (xs ++ ys))
        ≡ (if b then (view (front_of size) x).exchange ∷ its size i xs else its size i xs)
        ++ its size i ys
    go true ih = ap (λ (l : List Exchange). (view (front_of size) x).exchange ∷ l) ih
    go false ih = ih

true_append : (xs ys : List Exchange) (ts us : List Turn) → length ts ≡ length xs
    → AreTrueFronts xs ts
    → AreTrueFronts ys us → AreTrueFronts (xs ++ ys) (ts ++ us)
true_append [] ys [] us e h k = k
true_append [] ys (t ∷ ts) us e h k = absurd (omega arith)
true_append (x ∷ xs) ys [] us e h k = absurd (omega arith)
true_append (x ∷ xs) ys (t ∷ ts) us e h k = (h.0, true_append xs ys ts us (omega arith) h.1 k)

latest_fronts : (size : LinkSize) (i : ℕ) (c : Option OpenExchange) (here : List Turn)
    (waiting : Option (List ℕ))
    → IsLatest size i c here waiting →
    (length here ≡ length (its size i (as_list c))) × AreTrueFronts (its size i (as_list c)) here
latest_fronts size i None here waiting h =
    (ap length h, subst (λ (ts : List Turn). AreTrueFronts [] ts) (sym h) tt)
latest_fronts size i (Some x) here waiting h = go (x.station == i) h
  where
    go : (b : Bool) → IsLatestOf size b x here waiting →
        (length here ≡ length (if b then (view (front_of size) x).exchange ∷ [] else []))
        × AreTrueFronts (if b then (view (front_of size) x).exchange ∷ [] else []) here
    go true k = (
      ap length k.1,
      subst (λ (ts : List Turn). AreTrueFronts ((view (front_of size) x).exchange ∷ []) ts)
          (sym k.1) (k.2, tt),
    )
    go false k = (ap length k, subst (λ (ts : List Turn). AreTrueFronts [] ts) (sym k) tt)

pub record HasFronts (size : LinkSize) (i : ℕ) (xs : List OpenExchange) (turns : List Turn) : Type
    0 where
  pub long : length turns ≡ length (its size i xs)
  pub fronts : AreTrueFronts (its size i xs) turns

pub all_fronts : (size : LinkSize) (i : ℕ) (e : Exchanges) (turns : List Turn)
    (waiting : Option (List ℕ))
    → AreFronts size i e turns waiting → HasFronts size i (all_of e) turns
all_fronts size i e turns waiting h =
    let last = latest_fronts size i e.current h.here waiting h.latest in
    let parts : its size i (all_of e) ≡ its size i e.ended ++ its size i (as_list e.current) =
    its-append size i e.ended (as_list e.current) in
    let first : length h.done ≡ length (its size i e.ended) = h.long in
    let second : length h.here ≡ length (its size i (as_list e.current)) = last.0 in
    record {
      long = ap length h.both ∙ omega (
        arith,
        length-append h.done h.here,
        length-append (its size i e.ended) (its size i (as_list e.current)),
      ) ∙ ap length (sym parts);
      fronts = subst (λ (xs : List Exchange). AreTrueFronts xs turns) (sym parts)
          (subst
          (λ (ts : List Turn). AreTrueFronts (its size i e.ended ++ its size i (as_list e.current))
          ts)
          (sym h.both)
          (true_append (its size i e.ended) (its size i (as_list e.current)) h.done h.here h.long
          h.fronts last.1));
    }

-- A request goes out

abbrev pub IsSettledNow : LinkSize → Option OpenExchange → Type 0
IsSettledNow size None = Unit {0}
IsSettledNow size (Some x) = IsSettled size x

may_settled : (size : LinkSize) (waiting : Option (List ℕ)) (x : OpenExchange) (turn : Turn)
    → IsSettled size x
    → MayCome size waiting x turn
may_settled size None x turn h = tt
may_settled size (Some piece) x turn h = inl h

pub latest_settled : (size : LinkSize) (i : ℕ) (c : Option OpenExchange) (here : List Turn)
    (waiting next : Option (List ℕ)) → IsSettledNow size c → IsLatest size i c here waiting
    → IsLatest size i c here next
latest_settled size i None here waiting next s h = h
latest_settled size i (Some x) here waiting next s h = go (x.station == i) h
  where
    go : (b : Bool) → IsLatestOf size b x here waiting → IsLatestOf size b x here next
    go true k = (k.0, k.1, k.2, may_settled size next x k.0 s)
    go false k = k

-- that is one to no station
abbrev pub fronts_settled : (size : LinkSize) (i : ℕ) (e : Exchanges) (turns : List Turn)
    (waiting next : Option (List ℕ)) → IsSettledNow size e.current
    → AreFronts size i e turns waiting
    → AreFronts size i e turns next
fronts_settled size i e turns waiting next s h =
    record {
      done = h.done;
      here = h.here;
      both = h.both;
      long = h.long;
      fronts = h.fronts;
      latest =
          latest_settled size i e.current h.here waiting next s h.latest;
    }

-- the exchange that a request begins
abbrev pub begun : ℕ → Sending → OpenExchange
begun now s = record {
  station = s.station;
  request = s.request;
  since = now;
  octets = [];
  closed = false;
  given_up = false;
}

-- one to another station
abbrev pub fronts_other : (size : LinkSize) (i now : ℕ) (s : Sending) (e : Exchanges)
    (turns : List Turn)
    (waiting next : Option (List ℕ)) → (s.station == i) ≡ false → AreFronts size i e turns waiting →
    AreFronts size i (begun_by now (Some s) e) turns next
fronts_other size i now s e turns waiting next apart h =
    let all = all_fronts size i e turns waiting h in
    record {
      done = turns;
      here = [];
      both = sym (append-nil turns);
      long = all.long;
      fronts = all.fronts;
      latest = subst (λ (b : Bool). IsLatestOf size b (begun now s) [] next) (sym apart) refl;
    }

-- one to this station
abbrev pub fronts_this : (laws : Laws) (size : LinkSize) (i now : ℕ) (s : Sending) (e : Exchanges)
    (turns : List Turn)
    (turn : Turn) (waiting next : Option (List ℕ)) → s.station ≡ i
    → MayCome size next (begun now s) turn
    → AreFronts size i e turns waiting →
    AreFronts size i (begun_by now (Some s) e) (turns ++ turn ∷ []) next
fronts_this laws size i now s e turns turn waiting next same may h =
    let all = all_fronts size i e turns waiting h in
    record {
      done = turns;
      here = turn ∷ [];
      both = refl;
      long = all.long;
      fronts = all.fronts;
      latest = subst (λ (b : Bool). IsLatestOf size b (begun now s) (turn ∷ []) next)
          (sym (eq-eqb s.station i same)) (
            turn,
            refl,
            subst (λ (f : Front). IsTrueFront (whole_of f) turn)
                (sym (laws.nothing size)) tt,
            may,
          );
    }

-- what comes to wait of an answer

spoilt_front : (laws : Laws) (size : LinkSize) (frame : Frame) (place : ℕ) (turn : Turn)
    → Fits size frame
    → place < length (spelling size frame) → IsTrueFront
    (whole_of (front_of size (spoilt place (spelling size frame)))) turn
spoilt_front laws size frame place turn fits lt =
    go (front_of size (spoilt place (spelling size frame)))
    (laws.right size (spoilt place (spelling size frame)))
  where
    go : (f : Front) → IsFront size (spoilt place (spelling size frame)) f
        → IsTrueFront (whole_of f) turn
    go (Whole g n) right =
        absurd (laws.spoils size frame g (spelling size frame) [] place n
        (record { fits = fits; spelled = refl }) lt
        (subst (λ (xs : List ℕ). IsFront size xs (Whole g n))
        (sym (append-nil (spoilt place (spelling size frame)))) right))
    go More right = tt
    go (Never at why) right = tt

spelled_front : (laws : Laws) (size : LinkSize) (frame : Frame) (turn : Turn) → Fits size frame
    → turn.answer ≡ Some frame → IsTrueFront (whole_of (front_of size (spelling size frame))) turn
spelled_front laws size frame turn fits e =
    let whole : front_of size (spelling size frame) ≡ Whole frame (length (spelling size frame)) =
    ap (front_of size) (sym (append-nil (spelling size frame))) ∙ laws.spelled size frame [] fits in
    subst (λ (f : Front). IsTrueFront (whole_of f) turn) (sym whole) e

pub may_arrive : (laws : Laws) (size : LinkSize) (fate : RequestFate) (answer : Option Frame)
    (x : OpenExchange) (turn : Turn)
    → IfSome answer (Fits size) → x.octets ≡ [] → turn.answer ≡ answer
    → MayCome size (arriving size fate answer) x turn
may_arrive laws size RequestLost None x turn fits empty e = tt
may_arrive laws size AnswerLost None x turn fits empty e = tt
may_arrive laws size (AnswerSpoilt place) None x turn fits empty e = tt
may_arrive laws size Answered None x turn fits empty e = tt
may_arrive laws size RequestLost (Some frame) x turn fits empty e = tt
may_arrive laws size AnswerLost (Some frame) x turn fits empty e = tt
may_arrive laws size (AnswerSpoilt place) (Some frame) x turn fits empty e =
    let some : 0 < length (spelling size frame) = some_spelling size frame in
    inr (
      empty,
      spoilt_front laws size frame (place % length (spelling size frame)) turn fits
          (omega arith),
    )
may_arrive laws size Answered (Some frame) x turn fits empty e =
    inr (empty, spelled_front laws size frame turn fits e)

-- While no exchange is outstanding the latest one is settled

answered_whole : (size : LinkSize) (a : ℕ) (x : OpenExchange) (answer : Answer)
    → option_and_then (answer_of a x.request) (whole_of (front_of size x.octets)) ≡ Some answer
    → IsSettled size x
answered_whole size a x answer e = go (front_of size x.octets) refl e
  where
    go : (f : Front) → front_of size x.octets ≡ f
        → option_and_then (answer_of a x.request) (whole_of f) ≡ Some answer
        → IsSettled size x
    go (Whole frame n) is k = inr (frame, n, is)
    go More is k = let bad : ⊥ = cc in absurd bad
    go (Never place why) is k = let bad : ⊥ = cc in absurd bad

settles : (size : LinkSize) (a : ℕ) (x : OpenExchange)
    → ((option_and_then (answer_of a x.request) (whole_of (front_of size x.octets)) ≡ None)
    × (x.closed ≡ false) × (x.given_up ≡ false) → ⊥)
    → IsSettled size x
settles size a x never =
    go x.closed x.given_up
    (option_and_then (answer_of a x.request) (whole_of (front_of size x.octets))) refl refl refl
  where
    over : (a b : Bool) → (a ≡ true) ⊎ (b ≡ true) → (a || b) ≡ true
    over true b h = refl
    over false true h = refl
    over false false (inl h) = h
    over false false (inr h) = h

    go : (b d : Bool) (m : Option Answer) → x.closed ≡ b → x.given_up ≡ d
        → option_and_then (answer_of a x.request) (whole_of (front_of size x.octets)) ≡ m
        → IsSettled size x
    go true d m c g e = inl (over x.closed x.given_up (inl c))
    go false true m c g e = inl (over x.closed x.given_up (inr g))
    go false false None c g e = absurd (never (e, c, g))
    go false false (Some answer) c g e = answered_whole size a x answer e

pub settled_now : (p : Setup) (log : Log) → (IsWaiting p log → ⊥)
    → IsSettledNow p.link.size (exchanges_of p log).current
settled_now p log never = go (exchanges_of p log).current refl
  where
    go : (c : Option OpenExchange) → (exchanges_of p log).current ≡ c → IsSettledNow p.link.size c
    go None is = tt
    go (Some x) is = settles p.link.size (address_at p.addresses x.station) x
        (λ w. never (record { exchange = x; latest_is = is; waits = w }))
