-- In a run of a plan each station is an honest outstation.
use Rattle.std.proofs.Common.{◌≡◌, ℕ, ◌+◌, ◌-◌, ◌<◌, ◌^◌, Bool, List, [], ◌∷◌, ◌++◌, length, get_or}
use Rattle.std.proofs.Common.{map, Option, Some, None, IfSome, refl, sym, ap, subst, ◌∙◌, arith}
use Rattle.std.proofs.Common.{if◌then◌else◌}
use Rattle.std.specs.List.{AllByRecursion}
use Rattle.std.proofs.lemmas.List.{append-nil, length-map}
use Rattle.std.proofs.lemmas.Bool.{eq-eqb}
use Rattle.ft12.specs.declared.frame.LinkSize.{LinkSize}
use Rattle.ft12.specs.declared.frame.Frame.{Frame}
use Rattle.ft12.specs.Fronts.{front_of}
use Rattle.ft12.specs.Spelling.{Fits}
use Rattle.link.specs.declared.service.Asked.{Asked}
use Rattle.std.specs.Io.Iter.{u64_saturate}
use Rattle.link.specs.Delivery.{reports}
use Rattle.link.specs.Exchanges.{Exchanges, Sending, all_of, received_current, timed_current}
use Rattle.link.specs.Exchanges.{begun_by, view}
use Rattle.link.specs.Outstation.{Turn, all_done}
use Rattle.link.specs.Secondary.{Secondary}
use Rattle.gateway.specs.Log.{Log, Came, Went, LineIn, Opened, TcpIn, CutOff, Ticked, WallIs}
use Rattle.gateway.specs.Log.{Restarted, LineOut, TcpOut, Closed, GapOut, latest}
use Rattle.gateway.specs.Ports.{IsOfPort}
use Rattle.gateway.specs.Line.{IsWaiting}
use Rattle.gateway.specs.Reports.{Setup, address_at, AreFound, sending_in, exchanges_of}
use Rattle.gateway.specs.Traffic.{ActsRightly}
use Rattle.sim.specs.declared.directive.RequestFate.{RequestFate}
use Rattle.sim.specs.Centres.{centre_of}
use Rattle.sim.specs.Losses.{fate_of}
use Rattle.sim.specs.Lives.{Plan, IsPutOut, AreLived, requests_in, arriving, waiting_in}
use Rattle.sim.specs.Calls.{calls_in, FollowsPlan}
use Rattle.sim.specs.Outstations.{is_received, request_to, requests_to, TakesTurn, TakesTurns}
use Rattle.sim.specs.declared.tally.StationTally.{StationTally}
use Rattle.sim.specs.Tallies.{tally_at, each_asked, each_received, awaited_in, tallies_of}
use Rattle.sim.proofs.Below.{Laws}
use Rattle.sim.proofs.Requests.{asked_frame, read_from, Whom, nobody, other, this, whom}
use Rattle.sim.proofs.Turns.{IsReadable, takes_more, did, length_more}
use Rattle.sim.proofs.Fronts.{MayCome, AreFronts, fronts_timed, fronts_received, fronts_settled}
use Rattle.sim.proofs.Fronts.{fronts_other, fronts_this, begun, settled_now}
use Rattle.sim.proofs.Counting.{tally_step}
use Rattle.sim.proofs.Standing.{event_is_of_port}
use Rattle.sim.proofs.Tallying.{tally_ended, given_by_turns, IsTallied, tally_timed, tally_received}
use Rattle.sim.proofs.Tallying.{tally_all, asked_other, asked_this, length_tallies, fresh_at}
use Rattle.sim.proofs.Addressed.{FitsPlan, AreThese, these_lived, address_of, put_quiet, put_asked}
use Rattle.sim.proofs.Awaited.{event_waits}

-- The station has served

pub record Serves (p : Setup) (rs : List (Bool × Asked)) (e : Exchanges) (waiting : Option (List ℕ))
    (i : ℕ)
    (first s : Secondary) (t : StationTally) : Type 0 where
  pub turns : List Turn
  pub took : TakesTurns first rs turns s
  pub readable : AllByRecursion (λ (r : Bool × Asked). IsReadable (address_at p.addresses i) r.1) rs
  pub fronts : AreFronts p.link.size i e turns waiting
  pub given : s.given ≡ given_by_turns turns
  pub tallied : IsTallied p i e turns waiting fronts t

serves_timed : (p : Setup) (rs : List (Bool × Asked)) (e : Exchanges) (waiting : Option (List ℕ))
    (i at : ℕ)
    (first s : Secondary) (t : StationTally) → Serves p rs e waiting i first s t →
    Serves p rs (record { ended = e.ended; current = timed_current p.link.answer_ms at e.current })
    waiting i first s t
serves_timed p rs e waiting i at first s t h = record {
  turns = h.turns;
  took = h.took;
  readable = h.readable;
  fronts = fronts_timed p.link.size i p.link.answer_ms at e h.turns waiting h.fronts;
  given = h.given;
  tallied = h.tallied ∙ tally_timed p i (given_by_turns h.fronts.done) p.link.answer_ms at e.current
      (tally_ended p i e.ended h.fronts.done);
}

serves_received : (laws : Laws) (p : Setup) (rs : List (Bool × Asked)) (e : Exchanges) (i at : ℕ)
    (octets : List ℕ)
    (first s : Secondary) (each : List StationTally) → i < length each →
    Serves p rs e (Some octets) i first s (tally_at each i) →
    Serves p rs (record {
      ended = e.ended;
      current = timed_current p.link.answer_ms at
          (received_current octets e.current);
    }) None i first s
    (tally_at (each_received p (awaited_in e.current) octets each) i)
serves_received laws p rs e i at octets first s each lt h =
    let done : List Turn = h.fronts.done in
    record {
      turns = h.turns;
      took = h.took;
      readable = h.readable;
      fronts = fronts_timed p.link.size i p.link.answer_ms at
          (record { ended = e.ended; current = received_current octets e.current }) h.turns None
          (fronts_received laws p.link.size i octets e h.turns h.fronts);
      given = h.given;
      tallied = tally_received laws p i (given_by_turns done) each e.current octets h.fronts.here
          (tally_ended p i e.ended done) lt h.fronts.latest h.tallied
          ∙ tally_timed p i (given_by_turns done) p.link.answer_ms at
          (received_current octets e.current)
          (tally_ended p i e.ended done);
    }

readable_more : (a : ℕ) (rs : List (Bool × Asked)) (r : Bool × Asked)
    → AllByRecursion (λ (q : Bool × Asked). IsReadable a q.1) rs → IsReadable a r.1
    → AllByRecursion (λ (q : Bool × Asked). IsReadable a q.1) (rs ++ r ∷ [])
readable_more a [] r all one = (one, tt)
readable_more a (q ∷ rs) r all one = (all.0, readable_more a rs r all.1 one)

-- a request that isn't to it
serves_none : (p : Setup) (rs more : List (Bool × Asked)) (old new : Exchanges)
    (waiting next : Option (List ℕ))
    (i : ℕ) (first s t : Secondary) (before tally : StationTally)
    (h : Serves p rs old waiting i first s before) → more ≡ []
    → t ≡ s →
    (fronts : AreFronts p.link.size i new h.turns next)
    → IsTallied p i new h.turns next fronts tally
    → Serves p (rs ++ more) new next i first t tally
serves_none p rs more old new waiting next i first s t before tally h none same fronts tallied =
    let none_more : rs ++ more ≡ rs = ap (λ (l : List (Bool × Asked)). rs ++ l) none
    ∙ append-nil rs in
    record {
      turns = h.turns;
      took = subst (λ (l : List (Bool × Asked)). TakesTurns first l h.turns t) (sym none_more)
          (subst (λ (u : Secondary). TakesTurns first rs h.turns u) (sym same) h.took);
      readable = subst (λ (l : List (Bool × Asked)). AllByRecursion
          (λ (q : Bool × Asked). IsReadable (address_at p.addresses i) q.1) l) (sym none_more)
          h.readable;
      fronts = fronts;
      given = ap (λ (u : Secondary). u.given) same ∙ h.given;
      tallied = tallied;
    }

given_more : (n m : ℕ) (turns : List Turn) (turn : Turn) → n ≡ given_by_turns turns
    → m ≡ u64_saturate (n + length (reports turn.done)) → m ≡ given_by_turns (turns ++ turn ∷ [])
given_more n m turns turn e f =
    let sum : length (reports (all_done (turns ++ turn ∷ [])))
    ≡ length (reports (all_done turns)) + length (reports turn.done) = done_more turns in
    omega arith
  where
    done_more : (us : List Turn) → length (reports (all_done (us ++ turn ∷ [])))
        ≡ length (reports (all_done us)) + length (reports turn.done)
    done_more [] = omega (arith, length_more turn.done [])
    done_more (u ∷ us) = omega (
      arith,
      length_more u.done (all_done (us ++ turn ∷ [])),
      length_more u.done (all_done us),
      done_more us,
    )

-- one that is
serves_one : (laws : Laws) (p : Setup) (rs : List (Bool × Asked)) (e : Exchanges)
    (waiting next : Option (List ℕ))
    (i now : ℕ) (arrived : Bool) (r : Asked) (turn : Turn) (first s t : Secondary)
    (tally : StationTally)
    (stations : List Secondary) (each : List StationTally) (d : Secondary) →
    i < length each → i < length stations → get_or stations i d ≡ s → s.address
    ≡ address_at p.addresses i
    → tally_at each i ≡ tally → Serves p rs e waiting i first s tally →
    IsReadable (address_at p.addresses i) r → TakesTurn arrived s r turn t
    → MayCome p.link.size next (begun now (record { station = i; request = r })) turn →
    Serves p (rs ++ (arrived, r) ∷ []) (begun_by now (Some (record { station = i; request = r })) e)
    next i first t
    (tally_at (each_asked (Some (record { station = i; request = r })) stations each) i)
serves_one laws p rs e waiting next i now arrived r turn first s t tally stations each d lt within
    is
    here same h
    readable took may = record {
      turns = h.turns ++ turn ∷ [];
      took = takes_more first s t rs h.turns arrived r turn h.took took;
      readable = readable_more (address_at p.addresses i) rs (arrived, r) h.readable readable;
      fronts = fronts_this laws p.link.size i now (record { station = i; request = r }) e h.turns
          turn waiting next refl
          may h.fronts;
      given = given_more s.given t.given h.turns turn h.given
          (did laws arrived s r turn t (subst (λ (a : ℕ). IsReadable a r) (sym here) readable) small
          took).given;
      tallied = asked_this laws p i now r stations each d (tally_ended p i (all_of e) h.turns) lt
          within (same
          ∙ tally_all p i e h.turns waiting h.fronts tally h.tallied)
          ∙ ap (λ (n : ℕ). tally_step (address_at p.addresses i)
          (view (front_of p.link.size) (begun now (record { station = i; request = r }))).exchange n
          (tally_ended p i (all_of e) h.turns)) (ap (λ (u : Secondary). u.given) is ∙ h.given)
          ∙ sym (ap (λ (b : Bool). if b then tally_step (address_at p.addresses i)
          (view (front_of p.link.size) (begun now (record { station = i; request = r }))).exchange
          (given_by_turns h.turns) (tally_ended p i (all_of e) h.turns)
          else tally_ended p i (all_of e) h.turns)
          (eq-eqb i i refl));
    }
  where
    small : s.given < 2 ^ 64
    small = let e : s.given ≡ given_by_turns h.turns = h.given in omega arith

-- any
serves_request : (laws : Laws) (p : Setup) (log : Log) (rs : List (Bool × Asked))
    (waiting : Option (List ℕ))
    (fate : RequestFate) (octets : List ℕ) (ss ts : List Secondary) (answer : Option Frame)
    (i now : ℕ)
    (d first : Secondary)
    (each : List StationTally) →
    i < length each → AreFound p.addresses → AreThese p p.link.size ss → i < length p.addresses
    → IfSome answer (Fits p.link.size) → (IsWaiting p log → ⊥) → IsPutOut fate octets ss answer ts →
    Serves p rs (exchanges_of p log) waiting i first (get_or ss i d) (tally_at each i) →
    Serves p (rs ++ request_to i (is_received fate) (sending_in p octets))
    (begun_by now (sending_in p octets) (exchanges_of p log)) (arriving p.link.size fate answer) i
    first
    (get_or ts i d) (tally_at (each_asked (sending_in p octets) ss each) i)
serves_request laws p log rs waiting fate octets ss ts answer i now d first each few found these lt
    fits alone out h =
    go (whom p octets i found lt)
  where
    go : Whom p octets i →
        Serves p (rs ++ request_to i (is_received fate) (sending_in p octets))
        (begun_by now (sending_in p octets) (exchanges_of p log)) (arriving p.link.size fate answer)
        i first
        (get_or ts i d) (tally_at (each_asked (sending_in p octets) ss each) i)
    go (nobody e never) =
        subst (λ (m : Option Sending). Serves p (rs ++ request_to i (is_received fate) m)
        (begun_by now m (exchanges_of p log)) (arriving p.link.size fate answer) i first
        (get_or ts i d)
        (tally_at (each_asked m ss each) i)) (sym e)
        (serves_none p rs [] (exchanges_of p log) (exchanges_of p log) waiting
        (arriving p.link.size fate answer) i first (get_or ss i d) (get_or ts i d) (tally_at each i)
        (tally_at each i) h refl (put_quiet laws p fate octets ss ts answer i d these lt never out)
        (fronts_settled p.link.size i (exchanges_of p log) h.turns waiting
        (arriving p.link.size fate answer)
        (settled_now p log alone) h.fronts) h.tallied)
    go (other s e apart never) =
        subst (λ (m : Option Sending). Serves p (rs ++ request_to i (is_received fate) m)
        (begun_by now m (exchanges_of p log)) (arriving p.link.size fate answer) i first
        (get_or ts i d)
        (tally_at (each_asked m ss each) i)) (sym e)
        (serves_none p rs (request_to i (is_received fate) (Some s)) (exchanges_of p log)
        (begun_by now (Some s) (exchanges_of p log)) waiting (arriving p.link.size fate answer) i
        first
        (get_or ss i d) (get_or ts i d) (tally_at each i) (tally_at (each_asked (Some s) ss each) i)
        h
        (ap (λ (b : Bool). if b then (is_received fate, s.request) ∷ [] else []) apart)
        (put_quiet laws p fate octets ss ts answer i d these lt never out)
        (fronts_other p.link.size i now s (exchanges_of p log) h.turns waiting
        (arriving p.link.size fate answer) apart h.fronts)
        (asked_other i s ss each apart ∙ tally_all p i (exchanges_of p log) h.turns waiting h.fronts
        (tally_at each i) h.tallied
        ∙ sym (ap (λ (b : Bool). if b then tally_step (address_at p.addresses i)
        (view (front_of p.link.size) (begun now s)).exchange (given_by_turns h.turns)
        (tally_ended p i (all_of (exchanges_of p log)) h.turns) else tally_ended p i
        (all_of (exchanges_of p log)) h.turns) apart)))
    go (this r e asked) =
        let read = read_from laws p.link.size octets (address_at p.addresses i) r asked in
        let new : Sending = record { station = i; request = r } in
        let one = put_asked laws p fate octets ss ts answer i d r (begun now new) found these lt
        fits refl asked out in
        let at : (i < length ss) × ((get_or ss i d).address ≡ address_at p.addresses i) =
        address_of p p.link.size ss i d these lt in
        let its_own : request_to i (is_received fate) (Some new) ≡ (is_received fate, r) ∷ [] =
        ap (λ (b : Bool). if b then (is_received fate, r) ∷ [] else []) (eq-eqb i i refl) in
        subst (λ (m : Option Sending). Serves p (rs ++ request_to i (is_received fate) m)
        (begun_by now m (exchanges_of p log)) (arriving p.link.size fate answer) i first
        (get_or ts i d)
        (tally_at (each_asked m ss each) i)) (sym e)
        (subst (λ (l : List (Bool × Asked)). Serves p (rs ++ l)
        (begun_by now (Some new) (exchanges_of p log))
        (arriving p.link.size fate answer) i first (get_or ts i d)
        (tally_at (each_asked (Some new) ss each) i))
        (sym its_own)
        (serves_one laws p rs (exchanges_of p log) waiting (arriving p.link.size fate answer) i now
        (is_received fate) r one.turn first (get_or ss i d) (get_or ts i d) (tally_at each i) ss
        each d
        few at.0 refl at.1 refl h
        (read.frame, asked_frame read.frame (address_at p.addresses i) r read.asked) one.took
        one.may))

tallied_there : (plan : Plan) (log : Log) (answers : List (Option Frame))
    (stations : List Secondary) (i : ℕ)
    → FitsPlan plan.setup plan → i < length plan.setup.addresses
    → (lived : AreLived plan log answers stations) →
    i < length (tallies_of plan log answers stations lived)
tallied_there plan log answers stations i fits lt lived =
    let long : length (map (λ (s : Secondary). s.address) plan.stations)
    ≡ length plan.setup.addresses =
    ap length fits.addresses in
    omega (
      arith,
      length-map plan.stations (λ (s : Secondary). s.address),
      length_tallies plan log answers stations lived,
    )

-- A station has served after each log of a run, and is counted so.
pub serves : (laws : Laws) (plan : Plan) (log : Log) (answers : List (Option Frame))
    (stations : List Secondary)
    (i : ℕ) (d : Secondary) → d.given ≡ 0 → FitsPlan plan.setup plan
    → i < length plan.setup.addresses →
    (lived : AreLived plan log answers stations)
    → AllByRecursion (λ answer. IfSome answer (Fits plan.size)) answers
    → FollowsPlan plan log answers → ActsRightly plan.setup log →
    Serves plan.setup (requests_to plan.setup plan.directives i log) (exchanges_of plan.setup log)
    (waiting_in plan log answers) i (get_or plan.stations i d) (get_or stations i d)
    (tally_at (tallies_of plan log answers stations lived) i)
serves laws plan [] [] stations i d none fits lt lived fit follows acts = record {
  turns = [];
  took = ap (λ (ss : List Secondary). get_or ss i d) lived;
  readable = tt;
  fronts = record { done = []; here = []; both = refl; long = refl; fronts = tt; latest = refl };
  given = ap (λ (ss : List Secondary). (get_or ss i d).given) lived ∙ fits.fresh i d none;
  tallied = fresh_at (length plan.stations) i;
}
serves laws plan [] (a ∷ answers) stations i d none fits lt lived fit follows acts = absurd lived
serves laws plan (Came now (LineIn octets) ∷ log) answers stations i d none fits lt lived fit
    follows acts =
    serves_received laws plan.setup (requests_to plan.setup plan.directives i log)
    (exchanges_of plan.setup log) i
    (latest (Came now (LineIn octets) ∷ log)) octets (get_or plan.stations i d)
    (get_or stations i d)
    (tallies_of plan log answers stations lived) (tallied_there plan log answers stations i fits lt
    lived)
    (subst (λ (w : Option (List ℕ)). Serves plan.setup
    (requests_to plan.setup plan.directives i log)
    (exchanges_of plan.setup log) w i (get_or plan.stations i d) (get_or stations i d)
    (tally_at (tallies_of plan log answers stations lived) i))
    (event_waits octets plan.directives (calls_in log + 1) (centre_of log)
    (waiting_in plan log answers) follows.0)
    (serves laws plan log answers stations i d none fits lt lived fit follows.2 acts))
serves laws plan (Came now Opened ∷ log) answers stations i d none fits lt lived fit follows acts =
    serves_timed plan.setup (requests_to plan.setup plan.directives i log)
    (exchanges_of plan.setup log)
    (waiting_in plan log answers) i (latest (Came now Opened ∷ log)) (get_or plan.stations i d)
    (get_or stations i d)
    (tally_at (tallies_of plan log answers stations lived) i)
    (serves laws plan log answers stations i d none fits lt lived fit follows.2 acts)
serves laws plan (Came now (TcpIn octets) ∷ log) answers stations i d none fits lt lived fit follows
    acts =
    serves_timed plan.setup (requests_to plan.setup plan.directives i log)
    (exchanges_of plan.setup log)
    (waiting_in plan log answers) i (latest (Came now (TcpIn octets) ∷ log))
    (get_or plan.stations i d)
    (get_or stations i d)
    (tally_at (tallies_of plan log answers stations lived) i)
    (serves laws plan log answers stations i d none fits lt lived fit follows.2 acts)
serves laws plan (Came now CutOff ∷ log) answers stations i d none fits lt lived fit follows acts =
    serves_timed plan.setup (requests_to plan.setup plan.directives i log)
    (exchanges_of plan.setup log)
    (waiting_in plan log answers) i (latest (Came now CutOff ∷ log)) (get_or plan.stations i d)
    (get_or stations i d)
    (tally_at (tallies_of plan log answers stations lived) i)
    (serves laws plan log answers stations i d none fits lt lived fit follows.2 acts)
serves laws plan (Came now Ticked ∷ log) answers stations i d none fits lt lived fit follows acts =
    serves_timed plan.setup (requests_to plan.setup plan.directives i log)
    (exchanges_of plan.setup log)
    (waiting_in plan log answers) i (latest (Came now Ticked ∷ log)) (get_or plan.stations i d)
    (get_or stations i d)
    (tally_at (tallies_of plan log answers stations lived) i)
    (serves laws plan log answers stations i d none fits lt lived fit follows.2 acts)
serves laws plan (Came now (WallIs number) ∷ log) answers stations i d none fits lt lived fit
    follows acts =
    serves_timed plan.setup (requests_to plan.setup plan.directives i log)
    (exchanges_of plan.setup log)
    (waiting_in plan log answers) i (latest (Came now (WallIs number) ∷ log))
    (get_or plan.stations i d)
    (get_or stations i d)
    (tally_at (tallies_of plan log answers stations lived) i)
    (serves laws plan log answers stations i d none fits lt lived fit follows.2 acts)
serves laws plan (Came now Restarted ∷ log) answers stations i d none fits lt lived fit follows
    acts =
    absurd (subst IsOfPort (sym follows.0)
    (event_is_of_port plan.directives (calls_in log + 1) (centre_of log)
    (waiting_in plan log answers)))
serves laws plan (Went now (LineOut octets) ∷ log) [] stations i d none fits lt lived fit follows
    acts = absurd lived
serves laws plan (Went now (LineOut octets) ∷ log) (a ∷ answers) stations i d none fits lt lived fit
    follows acts =
    let fate : RequestFate = fate_of plan.directives (requests_in log + 1) in
    let first : Secondary = get_or plan.stations i d in
    let these : AreThese plan.setup plan.size lived.0 =
    these_lived laws plan.setup plan log answers lived.0
    (record { addresses = fits.addresses; sizes = fits.sizes }) lived.2 in
    let each : List StationTally = tallies_of plan log answers lived.0 lived.2 in
    subst (λ (z : LinkSize).
    Serves plan.setup (requests_to plan.setup plan.directives i log
    ++ request_to i (is_received fate) (sending_in plan.setup octets))
    (begun_by now (sending_in plan.setup octets) (exchanges_of plan.setup log)) (arriving z fate a)
    i first
    (get_or stations i d)
    (tally_at (each_asked (sending_in plan.setup octets) lived.0 each) i))
    (sym fits.size)
    (serves_request laws plan.setup log (requests_to plan.setup plan.directives i log)
    (waiting_in plan log answers) fate octets lived.0 stations a i now d first each
    (tallied_there plan log answers lived.0 i fits lt lived.2) fits.found
    (subst (λ (z : LinkSize). AreThese plan.setup z lived.0) fits.size these) lt
    (subst (λ (z : LinkSize). IfSome a (Fits z)) fits.size fit.0) acts.0.may.alone lived.1
    (serves laws plan log answers lived.0 i d none fits lt lived.2 fit.1 follows acts.1))
serves laws plan (Went now (TcpOut octets) ∷ log) answers stations i d none fits lt lived fit
    follows acts =
    serves laws plan log answers stations i d none fits lt lived fit follows acts.1
serves laws plan (Went now (Closed cause) ∷ log) answers stations i d none fits lt lived fit follows
    acts =
    serves laws plan log answers stations i d none fits lt lived fit follows acts.1
serves laws plan (Went now (GapOut station session) ∷ log) answers stations i d none fits lt lived
    fit follows acts =
    serves laws plan log answers stations i d none fits lt lived fit follows acts.1
