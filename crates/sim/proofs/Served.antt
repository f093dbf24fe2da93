-- What each station did, put together.
use Rattle.std.proofs.Common.{◌≡◌, ◌≢◌, ℕ, zero, suc, ◌+◌, ◌<◌, ◌≤◌, ◌^◌, Bool, true, false, List}
use Rattle.std.proofs.Common.{[], ◌∷◌, ◌++◌, length, get_or, map, Option, Some, refl, sym, ap}
use Rattle.std.proofs.Common.{subst, ◌∙◌, arith, zero-add, if◌then◌else◌}
use Rattle.std.specs.Prelude.{option_map, cond, count_by, ◌&&◌, ◌==◌}
use Rattle.std.specs.List.{AllByRecursion, flat_map}
use Rattle.std.proofs.lemmas.List.{length-append, length-map}
use Rattle.std.proofs.lemmas.List.Sums.{sum_by-cons}
use Rattle.std.proofs.lemmas.Bool.{eq-eqb, ne_eqb}
use Rattle.ft12.specs.declared.frame.LinkSize.{LinkSize}
use Rattle.ft12.specs.declared.frame.Frame.{Frame}
use Rattle.link.specs.declared.answer.Answer.TheVariants.{Unable}
use Rattle.link.specs.declared.service.Asked.{Asked}
use Rattle.link.specs.Delivery.{requests_of, reports}
use Rattle.link.specs.Exchanges.{answer_to, all_of}
use Rattle.link.specs.Life.{given1, given2, u64_saturate}
use Rattle.link.specs.Outstation.{Turn, OutstationRun, unreset, all_done}
use Rattle.link.specs.Secondary.{Secondary, fresh_station, outstation_of}
use Rattle.gateway.specs.declared.settings.StationSettings.{StationSettings}
use Rattle.gateway.specs.declared.settings.Silence.TheVariants.{Hold}
use Rattle.gateway.specs.Config.{Settings, AreApart, AreDistinct, AreStations}
use Rattle.gateway.specs.Log.{Log}
use Rattle.gateway.specs.Reports.{Setup, address_at, index_of, AreFound, exchanges_of}
use Rattle.gateway.specs.Reports.{exchanges_with}
use Rattle.gateway.specs.Setups.{setup_of, holds}
use Rattle.gateway.specs.Traffic.{IsFaithful}
use Rattle.delivery.specs.Delivery.{IsHonest, IsSteady, IsOneLife, Delivers, IsIdle}
use Rattle.delivery.specs.Delivery.{before_sessions}
use Rattle.delivery.specs.Sessions.{session_counts}
use Rattle.sim.specs.declared.tally.StationTally.{StationTally}
use Rattle.sim.specs.Tallies.{fresh_tally, tally_at, tallies_of}
use Rattle.sim.proofs.Few.{exchanges_few, reports_few}
use Rattle.sim.proofs.Counting.{tally_over, counted_all}
use Rattle.sim.proofs.Tallying.{tally_all, length_tallies}
use Rattle.sim.specs.declared.directive.Class.TheVariants.{One, Two}
use Rattle.sim.specs.declared.directive.Directive.{Directive}
use Rattle.sim.specs.declared.directive.Directive.TheVariants.{Turns, Ack, Wall, Report}
use Rattle.sim.specs.declared.directive.Directive.TheVariants.{LoseRequest, LoseAnswer, SpoilAnswer}
use Rattle.sim.specs.declared.directive.Directive.TheVariants.{Cut, Send}
use Rattle.sim.specs.Losses.{report_said}
use Rattle.sim.specs.Lives.{begun_from, plan_of, requests_in, waiting_in}
use Rattle.sim.specs.Outstations.{requests_to, first_station, HasSessions, IsCounted, HasServed}
use Rattle.sim.specs.Outstations.{HaveServed}
use Rattle.sim.specs.Texts.{reports_for}
use Rattle.sim.specs.Played.{IsPlayed}
use Rattle.sim.proofs.Below.{Laws}
use Rattle.sim.proofs.BeginningLemmas.{begun_sizes}
use Rattle.sim.proofs.ReceivingLemmas.{length_lived}
use Rattle.sim.proofs.Turns.{asked_of, DidAll, did_all}
use Rattle.sim.proofs.Fronts.{HasFronts, all_fronts}
use Rattle.sim.proofs.Addressed.{FitsPlan}
use Rattle.sim.proofs.Awaited.{same_asked}
use Rattle.sim.proofs.Honest.{Serves, serves}
use Rattle.sim.proofs.Standing.{one_life}
use Rattle.sim.proofs.Serviceable.{never_unable, willing_turns}

-- The settings fit the plan

begun_addresses : (size : LinkSize) (n : ℕ) (ds : List Directive) (ss : List StationSettings)
    → map (λ (s : Secondary). s.address) (begun_from size n ds ss)
    ≡ map (λ (s : StationSettings). s.address) ss
begun_addresses size n ds [] = refl
begun_addresses size n ds (s ∷ ss) =
    ap (λ (l : List ℕ). s.address ∷ l) (begun_addresses size (n + 1) ds ss)

-- an address is none of the other stations'
none_of : (a : ℕ) (ss : List StationSettings) (i : ℕ)
    → ((t : StationSettings) → AllByRecursion (AreApart t) ss
    → t.address ≡ a
    → i < length ss → a ≢ address_at (map (λ (s : StationSettings). s.address) ss) i)
none_of a [] i t all is lt = absurd (omega arith)
none_of a (s ∷ ss) zero t all is lt = λ e. all.0.0 (is ∙ e)
none_of a (s ∷ ss) (suc i) t all is lt = none_of a ss i t all.1 is (omega arith)

found_apart : (ss : List StationSettings) → AreDistinct ss
    → AreFound (map (λ (s : StationSettings). s.address) ss)
found_apart [] h i lt = absurd (omega (arith, lt))
found_apart (s ∷ ss) h zero lt =
    ap (λ (b : Bool). if b then Some 0
    else option_map suc (index_of s.address (map (λ (t : StationSettings). t.address) ss)))
    (eq-eqb s.address s.address refl)
found_apart (s ∷ ss) h (suc i) lt =
    let a : ℕ = address_at (map (λ (t : StationSettings). t.address) ss) i in
    let within : i < length ss =
    omega (arith, lt, length-map ss (λ (t : StationSettings). t.address)) in
    ap (λ (b : Bool). if b then Some 0
    else option_map suc (index_of a (map (λ (t : StationSettings). t.address) ss)))
    (ne_eqb s.address a (none_of s.address ss i s h.0 refl within))
    ∙ ap (option_map suc) (found_apart ss h.1 i (omega (arith, lt)))

begun_fresh : (size : LinkSize) (n : ℕ) (ds : List Directive) (ss : List StationSettings) (i : ℕ)
    (d : Secondary) → d.given ≡ 0
    → (get_or (begun_from size n ds ss) i d).given ≡ 0
begun_fresh size n ds [] i d none = none
begun_fresh size n ds (s ∷ ss) zero d none = refl
begun_fresh size n ds (s ∷ ss) (suc i) d none = begun_fresh size (n + 1) ds ss i d none

fits_plan : (c : Settings) (ds : List Directive) → AreDistinct c.stations
    → FitsPlan (setup_of c) (plan_of c ds)
fits_plan c ds apart = record {
  size = refl;
  addresses = begun_addresses c.line.link 0 ds c.stations;
  found = found_apart c.stations apart;
  sizes = begun_sizes c.line.link 0 ds c.stations;
  fresh = λ i d none. begun_fresh c.line.link 0 ds c.stations i d none;
}

begun_at : (size : LinkSize) (n m : ℕ) (ds : List Directive) (ss : List StationSettings) (i : ℕ)
    (d : Secondary)
    → i < length ss → m ≡ n + i →
    get_or (begun_from size n ds ss) i d
    ≡ record (fresh_station size (address_at (map (λ (s : StationSettings). s.address) ss) i)) {
      class1 = flat_map (report_said m One) ds;
      class2 = flat_map (report_said m Two) ds;
    }
begun_at size n m ds [] i d lt e = absurd (omega arith)
begun_at size n m ds (s ∷ ss) zero d lt e =
    let same : n ≡ m = omega arith in
    ap (λ (k : ℕ). record (fresh_station size s.address) {
      class1 = flat_map (report_said k One) ds;
      class2 =
          flat_map (report_said k Two) ds;
    }) same
begun_at size n m ds (s ∷ ss) (suc i) d lt e = begun_at size (n + 1) m ds ss i d (omega arith)
    (omega arith)

-- One station

-- the laws of `delivery`
abbrev pub Delivered : Type 0
Delivered = (p : Setup) (log : Log) → IsFaithful p log → Delivers p log

abbrev pub Steadied : Type 0
Steadied = (c : Settings) (log : Log) (i : ℕ) → AreStations c.line.link c.line.sizes.ca c.stations
    → IsFaithful (setup_of c) log → i < length (setup_of c).addresses → (setup_of c).link.hold
    ≡ true → IsOneLife log →
    AllByRecursion (λ x. answer_to (address_at (setup_of c).addresses i) x ≢ Some Unable)
    (exchanges_with (setup_of c) i log)
    → IsSteady (setup_of c) log i

-- what it says of sessions
abbrev pub SessionsKnown : Type 0
SessionsKnown = (p : Setup) (log : Log) (i : ℕ) (turns : List Turn) → IsFaithful p log
    → i < length p.addresses
    → IsHonest p log i turns → HasSessions p log i turns

-- nothing before the first of them
abbrev pub Idle : Type 0
Idle = (p : Setup) (log : Log) (i : ℕ) (turns : List Turn) → IsFaithful p log
    → i < length p.addresses
    → IsHonest p log i turns → IsIdle (address_at p.addresses i) (before_sessions p log i turns)

-- and of what is lost in them
abbrev pub LossesKnown : Type 0
LossesKnown = (p : Setup) (log : Log) (i : ℕ) (turns : List Turn) → IsFaithful p log
    → i < length p.addresses
    → IsHonest p log i turns → (session_counts p log i turns).lost
    ≤ (session_counts p log i turns).gaps

-- the reports that a line of a script gives it
reported_by : (index : ℕ) (d : Directive) → cond (reports_for index d) 1 0
    ≡ length (report_said index One d) + length (report_said index Two d)
reported_by index (Report i One octets) = go (i == index)
  where
    go : (b : Bool) → cond b 1 0 ≡ length (if b && true then octets ∷ [] else [])
        + length (if b && false then octets
        ∷ [] else [])
    go true = omega arith
    go false = omega arith
reported_by index (Report i Two octets) = go (i == index)
  where
    go : (b : Bool) → cond b 1 0 ≡ length (if b && false then octets ∷ [] else [])
        + length (if b && true then octets
        ∷ [] else [])
    go true = omega arith
    go false = omega arith
reported_by index (Turns n) = omega arith
reported_by index (Ack n) = omega arith
reported_by index (Wall n) = omega arith
reported_by index (LoseRequest n) = omega arith
reported_by index (LoseAnswer n) = omega arith
reported_by index (SpoilAnswer n place) = omega arith
reported_by index (Cut n) = omega arith
reported_by index (Send n octets) = omega arith

reported_all : (index : ℕ) (ds : List Directive) → count_by (reports_for index) ds
    ≡ length (flat_map (report_said index One) ds) + length (flat_map (report_said index Two) ds)
reported_all index [] = refl
reported_all index (d ∷ ds) =
    sum_by-cons (λ (x : Directive). cond (reports_for index x) 1 0) d ds
    ∙ omega (
      arith,
      reported_by index d,
      reported_all index ds,
      length-append (report_said index One d) (flat_map (report_said index One) ds),
      length-append (report_said index Two d) (flat_map (report_said index Two) ds),
    )

served_so : (laws : Laws) → Delivered → Steadied → SessionsKnown → Idle → LossesKnown
    → (c : Settings) (ds : List Directive) (log : Log) (waiting : Option (List ℕ)) (i : ℕ)
    (s : Secondary) (t : StationTally) → AreStations c.line.link c.line.sizes.ca c.stations
    → IsFaithful (setup_of c) log → IsOneLife log → requests_in log < 2 ^ 64
    → i < length (setup_of c).addresses →
    Serves (setup_of c) (requests_to (setup_of c) ds i log) (exchanges_of (setup_of c) log) waiting
    i
    (first_station c ds i) s t → HasServed c ds log i s t
served_so laws delivers steadies known idle losses c ds log waiting i s t rules faithful life small
    lt
    h =
    let p : Setup = setup_of c in
    let a : ℕ = address_at p.addresses i in
    let asked : requests_of (exchanges_with p i log) ≡ asked_of (requests_to p ds i log) =
    same_asked p ds i log in
    let fronts : HasFronts p.link.size i (all_of (exchanges_of p log)) h.turns =
    all_fronts p.link.size i (exchanges_of p log) h.turns waiting h.fronts in
    let all : DidAll (first_station c ds i) (asked_of (requests_to p ds i log)) h.turns s =
    did_all laws (first_station c ds i) s (requests_to p ds i log) h.turns (omega arith) h.readable
    h.took in
    let honest : IsHonest p log i h.turns = record {
      end = outstation_of s;
      run = subst (λ (rs : List Asked). OutstationRun a unreset rs h.turns (outstation_of s))
          (sym asked) all.run;
      fronts = fronts.fronts;
    } in
    let steady : c.line.silence ≡ Hold → IsSteady p log i =
    λ (held : c.line.silence ≡ Hold). steadies c log i rules faithful lt (ap holds held) life
    (never_unable a (exchanges_with p i log) h.turns fronts.long
    (willing_turns (first_station c ds i) s (requests_to p ds i log) h.turns tt h.took)
    fronts.fronts) in
    let before : IsIdle a (before_sessions p log i h.turns) =
    idle p log i h.turns faithful lt honest in
    let few : length (exchanges_with p i log) < 2 ^ 64 = omega (arith, exchanges_few p ds i log) in
    let long : length h.turns ≡ length (exchanges_with p i log) = fronts.long in
    let given_few : length (reports (all_done h.turns)) < 2 ^ 64 =
    omega (
      arith,
      reports_few a unreset (outstation_of s)
          (requests_of (exchanges_with p i log)) h.turns honest.run,
    ) in
    let all_counted : IsCounted (session_counts p log i h.turns)
    (tally_over a 0 fresh_tally (exchanges_with p i log) h.turns) =
    counted_all a (exchanges_with p i log) h.turns long few given_few before.taken before.done in
    let counted : IsCounted (session_counts p log i h.turns) t =
    subst (IsCounted (session_counts p log i h.turns))
    (sym (tally_all p i (exchanges_of p log) h.turns waiting h.fronts t h.tallied)) all_counted in
    record {
      turns = h.turns;
      took = h.took;
      honest = honest;
      counted = counted;
      lost = let bound = losses p log i h.turns faithful lt honest in
          omega (arith, bound, counted.lost, counted.gaps);
      class1 = (
        s.class1,
        ap (λ (rs : List Asked). given1 rs h.turns ++ s.class1) asked
            ∙ all.class1,
      );
      class2 = (
        s.class2,
        ap (λ (rs : List Asked). given2 rs h.turns ++ s.class2) asked
            ∙ all.class2,
      );
      reported = reported_all i ds;
      given = all.given ∙ ap u64_saturate (zero-add (length (reports (all_done h.turns))));
      accepted = sym all.accepted;
      sessions_known = known p log i h.turns faithful lt honest;
      steady = steady;
      relayed = λ (held : c.line.silence ≡ Hold). let given_on = delivers p log faithful in
          given_on.relayed i h.turns lt honest (steady held);
    }

-- All stations

have_served : (c : Settings) (ds : List Directive) (log : Log) (n : ℕ) (ss : List Secondary)
    (ts : List StationTally)
    (d : Secondary) → length ts ≡ length ss →
    ((i : ℕ) → i < length ss → HasServed c ds log (n + i) (get_or ss i d) (tally_at ts i))
    → HaveServed c ds log n ss ts
have_served c ds log n [] [] d long h = tt
have_served c ds log n [] (t ∷ ts) d long h = absurd (omega arith)
have_served c ds log n (s ∷ ss) [] d long h = absurd (omega arith)
have_served c ds log n (s ∷ ss) (t ∷ ts) d long h =
    let same : n + 0 ≡ n = omega arith in (
      subst (λ (k : ℕ). HasServed c ds log k s t) same (h 0 (omega arith)),
      have_served c ds log (n + 1) ss ts d (omega arith) (λ i lt. let one : n + suc i
          ≡ (n + 1) + i = omega arith in
          subst (λ (k : ℕ). HasServed c ds log k (get_or ss i d) (tally_at ts i)) one
          (h (suc i) (omega arith))),
    )

pub all_served : (laws : Laws) → Delivered → Steadied → SessionsKnown → Idle → LossesKnown
    → (c : Settings) (ds : List Directive) (log : Log) (answers : List (Option Frame))
    (stations : List Secondary)
    (tallies : List StationTally) → AreStations c.line.link c.line.sizes.ca c.stations →
    (played : IsPlayed (plan_of c ds) log answers stations)
    → tallies ≡ tallies_of (plan_of c ds) log answers stations played.lived → requests_in log
    < 2 ^ 64
    → IsFaithful (setup_of c) log → HaveServed c ds log 0 stations tallies
all_served laws delivers steadies known idle losses c ds log answers stations tallies rules played
    are small faithful =
    let p : Setup = setup_of c in
    let d : Secondary = fresh_station c.line.link 0 in
    let fits : FitsPlan p (plan_of c ds) = fits_plan c ds rules.distinct in
    let counts : List StationTally = tallies_of (plan_of c ds) log answers stations played.lived in
    let as_long : length counts ≡ length (plan_of c ds).stations =
    length_tallies (plan_of c ds) log answers stations played.lived in
    let stay : length stations ≡ length (plan_of c ds).stations =
    length_lived (plan_of c ds) log answers stations played.lived in
    subst (λ (ts : List StationTally). HaveServed c ds log 0 stations ts) (sym are)
    (have_served c ds log 0 stations counts d (as_long ∙ sym stay) (λ i lt.
    let short : length stations ≡ length (plan_of c ds).stations =
    length_lived (plan_of c ds) log answers stations played.lived in
    let within : i < length p.addresses = omega (
      arith,
      lt,
      short,
      ap length fits.addresses,
      length-map (plan_of c ds).stations (λ (s : Secondary). s.address),
    ) in
    let set : i < length c.stations =
    omega (arith, within, length-map c.stations (λ (s : StationSettings). s.address)) in
    let same : 0 + i ≡ i = omega arith in
    let begins : get_or (plan_of c ds).stations i d ≡ first_station c ds i =
    begun_at c.line.link 0 i ds c.stations i d set (omega arith) in
    subst (λ (k : ℕ). HasServed c ds log k (get_or stations i d) (tally_at counts i)) (sym same)
    (served_so laws delivers steadies known idle losses c ds log
    (waiting_in (plan_of c ds) log answers) i
    (get_or stations i d) (tally_at counts i) rules faithful
    (one_life (plan_of c ds) log answers played.follows) small within
    (subst (λ (f : Secondary). Serves p (requests_to p ds i log) (exchanges_of p log)
    (waiting_in (plan_of c ds) log answers) i f (get_or stations i d) (tally_at counts i)) begins
    (serves laws (plan_of c ds) log answers stations i d refl fits within played.lived played.fit
    played.follows
    faithful.acts)))))
