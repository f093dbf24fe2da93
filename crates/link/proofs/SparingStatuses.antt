-- Without a restart no station that is up is asked for its status.
use Rattle.std.specs.Prelude.{◌==◌}
use Rattle.std.proofs.Common.{◌≡◌, ℕ, ◌<◌, Bool, true, false, List, [], ◌∷◌, ◌++◌, All, length}
use Rattle.std.proofs.Common.{Option, Some, None, refl, sym, ap, subst, ◌∙◌, ◌⊎◌, inl, inr}
use Rattle.std.proofs.Common.{slice_index, if◌then◌else◌}
use Rattle.std.proofs.lemmas.Bool.{cases_eq, eqb-true}
use Rattle.ft12.specs.declared.frame.Front.{Front}
use Rattle.ft12.specs.Fronts.{front_of}
use Rattle.link.specs.Answers.{Asked, Status, Reset, Counted}
use Rattle.link.specs.Exchanges.{Sending, Exchange, OpenExchange, Exchanges, all_of, view}
use Rattle.link.specs.Exchanges.{views, with_station, received_octets, timed, begun_by}
use Rattle.link.specs.Exchanges.{latest_marked, no_exchanges}
use Rattle.link.specs.Marks.{latest_given_up}
use Rattle.link.specs.Procedure.{LinkSettings, Link, Down, after, link_after, is_up, is_service}
use Rattle.link.specs.Procedure.{AskNoneThatIsUp}
use Rattle.link.specs.Turns.{CommandsWaiting, station_at}
use Rattle.link.specs.Primary.{Primary, Outstanding, start, sending, sending_from}
use Rattle.link.specs.Matching.{IsStable, Matches}
use Rattle.link.specs.Requests.{FitsAddress}
use Rattle.link.specs.Runs.{Call, Octets, Due, GivesUp, Doubts, called, exchanged, MayCall}
use Rattle.link.specs.Runs.{MayCallAll, called_all, exchanged_all}
use Rattle.link.specs.Runs as runs
use Rattle.link.specs.Doubts.{HaveNoRestart}
use Rattle.link.proofs.Links.{with_one, nil}
use Rattle.link.proofs.Marks.{with_marked, with_others, all_marked}
use Rattle.link.proofs.Called.{links_at, start_matches}
use Rattle.link.proofs.Running.{call_matches as call_matched}
use Rattle.link.proofs.Bursting.{not_both}
use Rattle.link.proofs.Probing.{unsure_at, probes, call_unsure, start_sure, is_asked}

-- ---- lists

module _ (settings : LinkSettings) (a : ℕ) where
  abbrev Asks : Link → List Exchange → Type 0
  Asks link xs = AskNoneThatIsUp settings a link xs

  -- what may be asked, if the link is this one
  abbrev Spares : Link → Asked → Type 0
  Spares link request = is_up link ≡ true → is_service request ≡ true

  asks_split : (link : Link) (xs : List Exchange) (x : Exchange) → Asks link (xs ++ x ∷ [])
      → Asks link xs × Spares (link_after settings a link xs) x.request
  asks_split link [] x k = (tt, k.0)
  asks_split link (y ∷ ys) x k =
      let rest = asks_split (after settings a y link) ys x k.1 in
      ((k.0, rest.0), rest.1)

  asks_join : (link : Link) (xs : List Exchange) (x : Exchange) → Asks link xs
      → Spares (link_after settings a link xs) x.request → Asks link (xs ++ x ∷ [])
  asks_join link [] x k may = (may, tt)
  asks_join link (y ∷ ys) x k may = (k.0, asks_join (after settings a y link) ys x k.1 may)

  -- another end of the last exchange
  asks_other : (xs : List Exchange) (x y : Exchange) (b : Bool) → y.request ≡ x.request
      → Asks Down (xs ++ (if b then x ∷ [] else []))
      → Asks Down (xs ++ (if b then y ∷ [] else []))
  asks_other xs x y false same k = k
  asks_other xs x y true same k =
      let two = asks_split Down xs x k in
      asks_join Down xs y two.0
      (subst (λ (r : Asked). Spares (link_after settings a Down xs) r) (sym same) two.1)

  -- the link is given up behind the last
  given_asks : (link : Link) (xs : List Exchange) → Asks link xs → Asks link (latest_given_up xs)
  given_asks link [] asks = tt
  given_asks link (x ∷ []) asks = (asks.0, tt)
  given_asks link (x ∷ (y ∷ ys)) asks =
      (asks.0, given_asks (after settings a x link) (y ∷ ys) asks.1)

-- ---- the exchanges of a line

module _ (front : List ℕ → Front) (settings : LinkSettings) (addresses : List ℕ) where
  abbrev AreAsking : List OpenExchange → Type 0
  AreAsking xs =
      (i : ℕ) → AskNoneThatIsUp settings (slice_index addresses i) Down
      (with_station i (views front xs))

  grown_asks : (ended : List OpenExchange) (x y : OpenExchange) → y.station ≡ x.station
      → y.request ≡ x.request → AreAsking (ended ++ x ∷ []) → AreAsking (ended ++ y ∷ [])
  grown_asks ended x y station request asks i =
      let a = slice_index addresses i in
      let before = subst (λ (l : List Exchange). AskNoneThatIsUp settings a Down l)
      (with_one front ended x i) (asks i) in
      subst (λ (l : List Exchange). AskNoneThatIsUp settings a Down l)
      (sym (with_one front ended y i))
      (subst (λ (j : ℕ). AskNoneThatIsUp settings a Down (with_station i (views front ended)
      ++ (if j == i then (view front y).exchange ∷ [] else []))) (sym station)
      (asks_other settings a (with_station i (views front ended)) (view front x).exchange
      (view front y).exchange (x.station == i) request before))

  begun_asks : (links : ℕ → Link) (xs : List OpenExchange) (x : OpenExchange) → AreAsking xs
      → ((i : ℕ) → link_after settings (slice_index addresses i) Down
      (with_station i (views front xs)) ≡ links i)
      → (is_up (links x.station) ≡ true → is_service x.request ≡ true)
      → AreAsking (xs ++ x ∷ [])
  begun_asks links xs x asks are may i =
      subst (λ (l : List Exchange). AskNoneThatIsUp settings (slice_index addresses i) Down l)
      (sym (with_one front xs x i)) (go (x.station == i) refl)
    where
      go : (b : Bool) → (x.station == i) ≡ b →
          AskNoneThatIsUp settings (slice_index addresses i) Down (with_station i (views front xs)
          ++ (if b then (view front x).exchange ∷ [] else []))
      go false e =
          subst (λ (l : List Exchange). AskNoneThatIsUp settings (slice_index addresses i) Down l)
          (sym (nil (with_station i (views front xs)))) (asks i)
      go true e =
          asks_join settings (slice_index addresses i) Down (with_station i (views front xs))
          (view front x).exchange (asks i) (λ up. may
          (ap (λ (j : ℕ). is_up (links j)) (eqb-true x.station i e)
          ∙ sym (ap is_up (are i)) ∙ up))

  marked_asks : (k : ℕ) (xs : List OpenExchange) → AreAsking xs → AreAsking (latest_marked k xs)
  marked_asks k xs asks i = go (cases_eq i k)
    where
      go : (i ≡ k) ⊎ (i ≡ k → ⊥) → AskNoneThatIsUp settings (slice_index addresses i) Down
          (with_station i (views front (latest_marked k xs)))
      go (inl at) =
          subst (λ (j : ℕ). AskNoneThatIsUp settings (slice_index addresses j) Down
          (with_station j (views front (latest_marked k xs)))) (sym at)
          (subst (λ (l : List Exchange). AskNoneThatIsUp settings (slice_index addresses k) Down l)
          (sym (with_marked front k xs))
          (given_asks settings (slice_index addresses k) Down (with_station k (views front xs))
          (asks k)))
      go (inr other) =
          subst (λ (l : List Exchange). AskNoneThatIsUp settings (slice_index addresses i) Down l)
          (sym (with_others front k i xs other)) (asks i)

-- ---- calls

module _ (settings : LinkSettings) (addresses : List ℕ) where
  front : List ℕ → Front
  front = front_of settings.size

  abbrev AllAsk : Exchanges → Type 0
  AllAsk e = AreAsking (front_of settings.size) settings addresses (all_of e)

  -- no station may have been restarted
  abbrev AllSure : Primary → Type 0
  AllSure p = (k : ℕ) → unsure_at p k ≡ false

  nothing_begun : (p : Primary) (now : ℕ) (may_poll : Bool) (waiting : CommandsWaiting)
      (e : Exchanges) (o : Option Outstanding) → p.outstanding ≡ o → Matches settings addresses p e
      → AllSure p → AllAsk e
      → AllAsk (begun_by now (sending_from p o may_poll waiting) e)
  nothing_begun p now may_poll waiting e (Some o) is t sure asks = asks
  nothing_begun p now may_poll waiting e None is t sure asks =
      go (sending_from p None may_poll waiting) refl
    where
      go : (s : Option Sending) → sending_from p None may_poll waiting ≡ s
          → AllAsk (begun_by now s e)
      go None none = asks
      go (Some s) some =
          begun_asks (front_of settings.size) settings addresses
          (λ i. (station_at p.stations i).link) (all_of e) (record {
            station = s.station;
            request = s.request;
            since = now;
            octets = [];
            closed = false;
            given_up = false;
          }) asks (links_at (front_of settings.size) settings addresses p e None is t)
          (λ up. by s.request refl up)
        where
          out : sending p may_poll waiting ≡ Some s
          out = ap (λ (x : Option Outstanding). sending_from p x may_poll waiting) is ∙ some

          by : (r : Asked) → s.request ≡ r → is_up (station_at p.stations s.station).link ≡ true
              → is_service s.request ≡ true
          by (Counted fcb service) asked up = ap is_service asked
          by Status asked up =
              absurd (not_both (unsure_at p s.station)
              (probes p may_poll waiting s out asked up).0 (sure s.station))
          by Reset asked up = absurd (is_asked p may_poll waiting s t.fits out asked up)

  call_asks : (p : Primary) (e : Exchanges) (call : Call) → HaveNoRestart (call ∷ [])
      → Matches settings addresses p e → AllSure p → AllAsk e → AllAsk (exchanged p call e)
  call_asks p e (runs.Next now may_poll waiting) once t sure asks =
      nothing_begun p now may_poll waiting e p.outstanding refl t sure asks
  call_asks p e (Octets octets) once t sure asks = go e.current asks
    where
      go : (c : Option OpenExchange) → AllAsk (record { ended = e.ended; current = c })
          → AllAsk (exchanged p (Octets octets) (record { ended = e.ended; current = c }))
      go None asks = asks
      go (Some x) asks =
          grown_asks (front_of settings.size) settings addresses e.ended x
          (received_octets octets x) refl refl asks
  call_asks p e (Due at) once t sure asks = go e.current asks
    where
      go : (c : Option OpenExchange) → AllAsk (record { ended = e.ended; current = c })
          → AllAsk (exchanged p (Due at) (record { ended = e.ended; current = c }))
      go None asks = asks
      go (Some x) asks =
          grown_asks (front_of settings.size) settings addresses e.ended x
          (timed p.settings.answer_ms at x) refl refl asks
  call_asks p e (GivesUp k) once t sure asks =
      subst (λ (xs : List OpenExchange). AreAsking (front_of settings.size) settings addresses xs)
      (sym (all_marked k e))
      (marked_asks (front_of settings.size) settings addresses k (all_of e) asks)
  call_asks p e Doubts once t sure asks = absurd once

  call_sure : (p : Primary) (call : Call) → HaveNoRestart (call ∷ []) → AllSure p
      → AllSure (called p call)
  call_sure p call once sure k = go (unsure_at (called p call) k) refl
    where
      never : (call : Call) → HaveNoRestart (call ∷ []) → unsure_at (called p call) k ≡ true → ⊥
      never Doubts once e = absurd once
      never (runs.Next now may_poll waiting) once e =
          let no : false ≡ true = call_unsure p (runs.Next now may_poll waiting) k false
          (λ u. absurd (not_both (unsure_at p k) u (sure k))) e in cc
      never (Octets octets) once e =
          let no : false ≡ true = call_unsure p (Octets octets) k false
          (λ u. absurd (not_both (unsure_at p k) u (sure k))) e in cc
      never (Due at) once e =
          let no : false ≡ true = call_unsure p (Due at) k false
          (λ u. absurd (not_both (unsure_at p k) u (sure k))) e in cc
      never (GivesUp station) once e =
          let no : false ≡ true = call_unsure p (GivesUp station) k false
          (λ u. absurd (not_both (unsure_at p k) u (sure k))) e in cc

      go : (b : Bool) → unsure_at (called p call) k ≡ b → unsure_at (called p call) k ≡ false
      go false e = e
      go true e = absurd (never call once e)

  one_once : (call : Call) (calls : List Call) → HaveNoRestart (call ∷ calls)
      → HaveNoRestart (call ∷ []) × HaveNoRestart calls
  one_once Doubts calls once = absurd once
  one_once (runs.Next now may_poll waiting) calls once = (tt, once)
  one_once (Octets octets) calls once = (tt, once)
  one_once (Due at) calls once = (tt, once)
  one_once (GivesUp station) calls once = (tt, once)

  all_ask : IsStable (front_of settings.size) → (p : Primary) (e : Exchanges) (calls : List Call)
      → MayCallAll p calls → HaveNoRestart calls → Matches settings addresses p e → AllSure p
      → AllAsk e → AllAsk (exchanged_all p calls e)
  all_ask stable p e [] may once t sure asks = asks
  all_ask stable p e (call ∷ calls) may once t sure asks =
      let two = one_once call calls once in
      all_ask stable (called p call) (exchanged p call e) calls may.1 two.1
      (call_matched settings addresses stable p e call may.0 t)
      (call_sure p call two.0 sure)
      (call_asks p e call two.0 t sure asks)

  pub ask_none : IsStable (front_of settings.size) → (calls : List Call) (station : ℕ)
      → 0 < length addresses → All (FitsAddress settings.size) addresses
      → MayCallAll (start settings addresses) calls → HaveNoRestart calls
      → AskNoneThatIsUp settings (slice_index addresses station) Down
      (with_station station (views (front_of settings.size)
      (all_of (exchanged_all (start settings addresses) calls no_exchanges))))
  ask_none stable calls station some fit may once =
      all_ask stable (start settings addresses) no_exchanges calls may once
      (start_matches settings addresses some fit) (start_sure settings addresses) (λ i. tt)
      station
