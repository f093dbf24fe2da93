-- The start of a run.
use Rattle.std.proofs.Common.{◌≡◌, ◌≢◌, ℕ, zero, suc, ◌<◌, All, List, [], ◌∷◌, length, map, Option}
use Rattle.std.proofs.Common.{Some, None, refl, ap, sym, ◌∙◌, subst, arith, eq-eqb}
use Rattle.std.specs.Prelude.{if◌then◌else◌, option_map, IfSome}
use Rattle.std.specs.List.{AllByRecursion}
use Rattle.std.proofs.lemmas.List.{length-map}
use Rattle.std.proofs.lemmas.List.Elements.{All-cons, All-nil}
use Rattle.std.proofs.lemmas.Bool.{ne_eqb}
use Rattle.ft12.specs.declared.frame.LinkSize.{LinkSize}
use Rattle.asdu.specs.declared.sizes.CaSize.{CaSize}
use Rattle.link.specs.Exchanges.{no_exchanges}
use Rattle.link.specs.declared.settings.LinkSettings.{LinkSettings}
use Rattle.link.specs.Requests.{FitsAddress}
use Rattle.link.specs.Primary.{start}
use Rattle.link.specs.Matching.{Matches}
use Rattle.gateway.specs.declared.settings.StationSettings.{StationSettings}
use Rattle.gateway.specs.declared.settings.TcpSettings.{TcpSettings}
use Rattle.gateway.specs.Config.{Settings, IsStation, AreApart, AreDistinct, AreStations}
use Rattle.gateway.specs.Log.{Log}
use Rattle.gateway.specs.Connections.{no_channel}
use Rattle.gateway.specs.Reports.{Setup, address_at, index_of, AreFound}
use Rattle.session.specs.SessionLaws.{SessionLaws}
use Rattle.command.specs.CommandLaws.{CommandLaws}
use Rattle.link.specs.LineLaws.{LineLaws}
use Rattle.gateway.specs.Course.{first_course}
use Rattle.gateway.specs.Phases.{Fresh}
use Rattle.gateway.specs.Setups.{link_of, session_of, setup_of}
use Rattle.gateway.specs.State.{State, first_state}
use Rattle.gateway.specs.Passing.{PassingLaws}
use Rattle.gateway.specs.Agrees.{IsTimely, Agrees, IsClear, Follows, Rests}
use Rattle.gateway.proofs.Talking.{talk_first}
use Rattle.gateway.proofs.Closing.{fresh}

-- a station's address is none of the others'
not_before : (a : ℕ) (stations : List StationSettings) (i : ℕ)
    → AllByRecursion (λ (t : StationSettings). a ≢ t.address) stations
    → i < length stations → a ≢ address_at (map (λ (s : StationSettings). s.address) stations) i
not_before a [] i h less = absurd (omega (arith, less))
not_before a (t ∷ stations) zero h less = h.0
not_before a (t ∷ stations) (suc i) h less = not_before a stations i h.1 (omega (arith, less))

addresses_differ : (s : StationSettings) (stations : List StationSettings)
    → AllByRecursion (AreApart s) stations
    → AllByRecursion (λ (t : StationSettings). s.address ≢ t.address) stations
addresses_differ s [] h = tt
addresses_differ s (t ∷ stations) h = (h.0.0, addresses_differ s stations h.1)

pub first_found : (stations : List StationSettings) → AreDistinct stations
    → AreFound (map (λ (s : StationSettings). s.address) stations)
first_found [] h i less = absurd (omega (arith, less))
first_found (s ∷ stations) h zero less =
    ap (λ b. if b then Some 0
    else option_map suc (index_of s.address (map (λ (t : StationSettings). t.address) stations)))
    (eq-eqb s.address s.address refl)
first_found (s ∷ stations) h (suc i) less =
    let a : ℕ = address_at (map (λ (t : StationSettings). t.address) stations) i in
    let within : i < length stations =
    omega (arith, less, length-map stations (λ (t : StationSettings). t.address)) in
    ap (λ b. if b then Some 0
    else option_map suc (index_of a (map (λ (t : StationSettings). t.address) stations)))
    (ne_eqb s.address a (not_before s.address stations i (addresses_differ s stations h.0) within))
    ∙ ap (option_map suc) (first_found stations h.1 i (omega (arith, less)))

-- the addresses fit the line
pub first_fits : (link : LinkSize) (ca : CaSize) (stations : List StationSettings)
    → AllByRecursion (IsStation link ca) stations
    → All (FitsAddress link) (map (λ (s : StationSettings). s.address) stations)
first_fits link ca [] h = All-nil (FitsAddress link)
first_fits link ca (s ∷ stations) h =
    All-cons (FitsAddress link) s.address (map (λ (t : StationSettings). t.address) stations)
    (omega (arith, h.0.address.1)) (first_fits link ca stations h.1)

-- what `link` says of the start
abbrev pub StartMatches : Type 0
StartMatches = (settings : LinkSettings) (addresses : List ℕ) → 0 < length addresses
    → All (FitsAddress settings.size) addresses
    → Matches settings addresses (start settings addresses) no_exchanges

-- nothing has been logged yet
pub at_first : (c : Settings) → StartMatches → SessionLaws → CommandLaws → PassingLaws → LineLaws
    → AreStations c.line.link c.line.sizes.ca c.stations → IsTimely (session_of c.tcp)
    → Agrees (setup_of c) (first_state c) [] [] Fresh
at_first c starts laws commands passing line_laws rules timely = record {
  k = refl;
  sizes = refl;
  places = refl;
  clock = refl;
  wall = refl;
  settled = refl;
  found = first_found c.stations rules.distinct;
  line = starts (link_of c.line) (map (λ (s : StationSettings). s.address) c.stations)
      (omega (arith, rules.some, length-map c.stations (λ (s : StationSettings). s.address)))
      (first_fits c.line.link c.line.sizes.ca c.stations rules.each);
  course = first_course (setup_of c);
  talk = talk_first (setup_of c) timely laws commands passing line_laws;
  stands = record {
    does = refl;
    asks = (refl, refl);
    phase_is = tt;
    placed = λ o. refl;
    answered = tt;
  };
  gaps = λ i. refl;
  plain = tt;
  here = fresh (first_state c).centre no_channel timely.range.k_small refl
      (λ h. refl) refl refl refl refl refl refl refl refl refl;
  left = refl;
  carries = record {
    whole = refl;
    gone = [];
    front = refl;
    joined = refl;
    count = refl;
    gone_pieces = [];
    gone_count = refl;
    spelled = refl;
  };
  before = record { are = tt; orders = tt; times = tt; acts = tt; rests = tt };
}

-- the settings' ranges
pub timely : (t : TcpSettings) → IsTimely (session_of t)
timely t = record {
  range = record {
    k_small = omega (arith, t.k_in_range.1);
    w_positive =
        omega (arith, t.w_in_range.0);
  };
  patient = omega (arith, t.t1_in_range.0);
}

-- at the start, of a port that gives an empty log

pub first_follows : (c : Settings) (s : State) (logged : Option Log) → StartMatches → SessionLaws
    → CommandLaws → PassingLaws → LineLaws
    → AreStations c.line.link c.line.sizes.ca c.stations → IsTimely (session_of c.tcp)
    → s ≡ first_state c
    → logged ≡ Some [] → Follows (setup_of c) s logged
first_follows c s logged starts laws commands passing line_laws rules timely is e =
    subst (λ o. Follows (setup_of c) s o) (sym e)
    (subst (λ x. Agrees (setup_of c) x [] [] Fresh × IsClear x) (sym is) (
      at_first c starts laws commands passing line_laws rules timely,
      record { confirmed = refl; spent = λ may. (refl, refl) },
    ))

pub logged_follows : (p : Setup) (s : State) (logged : Option Log) → Follows p s (Some [])
    → logged ≡ Some []
    → Follows p s logged
logged_follows p s logged h e = subst (λ o. Follows p s o) (sym e) h

pub nothing_rests : (p : Setup) (logged : Option Log) → logged ≡ Some [] → Rests p logged
nothing_rests p logged e = subst (Rests p) (sym e) tt

-- what follows of each log that is given
pub of_logged : (P Q : Log → Type 0) (logged : Option Log) → IfSome logged P
    → ((log : Log) → P log → Q log) → IfSome logged Q
of_logged P Q None h q = tt
of_logged P Q (Some log) h q = q log h
