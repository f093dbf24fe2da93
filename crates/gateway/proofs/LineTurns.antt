-- Turns on logs.
use Rattle.std.proofs.Common.{ℕ, suc, ◌<◌, ◌≤◌, ◌*◌, ◌-◌, List, [], ◌∷◌, ◌++◌, All, length, sym}
use Rattle.std.proofs.Common.{None, subst, arith, false}
use Rattle.std.specs.Prelude.{slice_index}
use Rattle.std.proofs.lemmas.List.{length-map}
use Rattle.ft12.specs.Fronts.{front_of}
use Rattle.link.specs.Exchanges.{Exchanges, no_exchanges, all_of, views, with_station}
use Rattle.link.specs.declared.settings.LinkSettings.{LinkSettings}
use Rattle.link.specs.Requests.{FitsAddress}
use Rattle.link.specs.Primary.{Primary, start}
use Rattle.link.specs.Runs.{Call, called, MayCallAll, called_all, exchanged_all}
use Rattle.link.specs.Visits.{AreInVisits, most_of_visit, whole_visit}
use Rattle.link.specs.Waits.{AlwaysWants, stations_asked, waited}
use Rattle.link.specs.Precedence.{CommandsGoFirst}
use Rattle.link.specs.Bursts.{BurstsGoOn, Other}
use Rattle.link.specs.AtOnce.{RepeatsComeAtOnce, TurnsGoOn}
use Rattle.link.specs.OneVisit.{TurnsAreVisits}
use Rattle.link.specs.Timing.{AnswersHaveTheirTime}
use Rattle.link.specs.Doubts.{HaveNoRestart, StatusesFollowRestarts}
use Rattle.link.specs.Procedure.{AskNoneThatIsUp}
use Rattle.link.specs.declared.procedure.Link.TheVariants.{Down}
use Rattle.gateway.specs.declared.settings.StationSettings.{StationSettings}
use Rattle.gateway.specs.Config.{Settings, AreStations}
use Rattle.gateway.specs.Setups.{setup_of}
use Rattle.gateway.specs.Log.{Log}
use Rattle.gateway.specs.Reports.{Setup}
use Rattle.gateway.specs.Traffic.{IsFaithful}
use Rattle.gateway.specs.Turning.{new_line, KeepsTurns}
use Rattle.gateway.proofs.Starting.{first_found, first_fits}
use Rattle.gateway.proofs.AskingCalls.{Laws}
use Rattle.gateway.proofs.Calling.{Made, makes}

-- what `link` says of turns
abbrev pub TurnsEnd : Type 0
TurnsEnd = (settings : LinkSettings) (addresses : List ℕ) (calls : List Call) → 0 < length addresses
    → All (FitsAddress settings.size) addresses → 0 < settings.burst
    → MayCallAll (start settings addresses) calls
    → AreInVisits settings addresses (views (front_of settings.size)
    (all_of (exchanged_all (start settings addresses) calls no_exchanges)))

abbrev pub NoneStarves : Type 0
NoneStarves = (settings : LinkSettings) (addresses : List ℕ) (first later : List Call) (station : ℕ)
    → 0 < length addresses → All (FitsAddress settings.size) addresses → 0 < settings.burst
    → station < length addresses → MayCallAll (start settings addresses) first
    → MayCallAll (called_all (start settings addresses) first) later
    → AlwaysWants (called_all (start settings addresses) first) station later
    → waited station 0 (stations_asked (called_all (start settings addresses) first) later)
    ≤ most_of_visit settings * (length addresses - 1)

pub record TurnLaws : Type 0 where
  pub ends : TurnsEnd
  pub starves : NoneStarves
  pub first : (p : Primary) (station : ℕ) (calls : List Call)
      → CommandsGoFirst p station (suc p.settings.burst) calls
  pub bursts : (settings : LinkSettings) (addresses : List ℕ) (calls : List Call)
      → BurstsGoOn (start settings addresses) Other calls
  pub repeats : (settings : LinkSettings) (addresses : List ℕ) (calls : List Call)
      → RepeatsComeAtOnce (start settings addresses) None calls
  pub held : (settings : LinkSettings) (addresses : List ℕ) (calls : List Call)
      → TurnsGoOn (start settings addresses) None calls
  pub each : (settings : LinkSettings) (addresses : List ℕ) (calls : List Call)
      → 0 < length addresses → All (FitsAddress settings.size) addresses → 0 < settings.burst
      → MayCallAll (start settings addresses) calls
      → TurnsAreVisits (start settings addresses)
      (record { station = 0; left = whole_visit settings Down }) calls
  pub times : (settings : LinkSettings) (addresses : List ℕ) (calls : List Call)
      → AnswersHaveTheirTime (start settings addresses) None calls
  pub statuses : (settings : LinkSettings) (addresses : List ℕ) (calls : List Call) (station : ℕ)
      → StatusesFollowRestarts (start settings addresses) station false calls
  pub spares : (settings : LinkSettings) (addresses : List ℕ) (calls : List Call) (station : ℕ)
      → 0 < length addresses → All (FitsAddress settings.size) addresses
      → MayCallAll (start settings addresses) calls → HaveNoRestart calls
      → AskNoneThatIsUp settings (slice_index addresses station) Down
      (with_station station (views (front_of settings.size)
      (all_of (exchanged_all (start settings addresses) calls no_exchanges))))

-- each of two parts of the calls may be made
split : (p : Primary) (first later : List Call) → MayCallAll p (first ++ later)
    → MayCallAll p first × MayCallAll (called_all p first) later
split p [] later may = (tt, may)
split p (call ∷ first) later may =
    let rest = split (called p call) first later may.1 in ((may.0, rest.0), rest.1)

pub turns : TurnLaws → Laws → (c : Settings) (log : Log)
    → AreStations c.line.link c.line.sizes.ca c.stations
    → IsFaithful (setup_of c) log → KeepsTurns (setup_of c) log
turns t laws c log rules f =
    let p : Setup = setup_of c in
    let some : 0 < length p.addresses =
    omega (arith, rules.some, length-map c.stations (λ (s : StationSettings). s.address)) in
    let fit : All (FitsAddress p.link.size) p.addresses =
    first_fits c.line.link c.line.sizes.ca c.stations rules.each in
    let more : 0 < p.link.burst = omega (arith, c.line.burst_in_range) in
    let m : Made laws p log f.course = makes laws p (first_found c.stations rules.distinct)
    (laws.line.start p.link p.addresses some fit) log f.course f.course_runs f.acts in
    record {
      visits =
          subst (λ (e : Exchanges). AreInVisits p.link p.addresses
          (views (front_of p.link.size) (all_of e)))
          m.leads.exchanges (t.ends p.link p.addresses m.calls some fit more m.leads.may);
      calls = m.calls;
      shown = m.shown;
      exchanges = m.leads.exchanges;
      fair = λ before later is station within wants.
          let may = split (new_line p) before later
          (subst (λ (calls : List Call). MayCallAll (new_line p) calls) (sym is) m.leads.may) in
          t.starves p.link p.addresses before later station some fit more within may.0 may.1 wants;
      commands = λ station. t.first (new_line p) station m.calls;
      bursts = t.bursts p.link p.addresses m.calls;
      repeats = t.repeats p.link p.addresses m.calls;
      held = t.held p.link p.addresses m.calls;
      each = t.each p.link p.addresses m.calls some fit more m.leads.may;
      times = t.times p.link p.addresses m.calls;
      statuses = λ station. t.statuses p.link p.addresses m.calls station;
      spares = λ station none.
          subst (λ (e : Exchanges). AskNoneThatIsUp p.link (slice_index p.addresses station) Down
          (with_station station (views (front_of p.link.size) (all_of e))))
          m.leads.exchanges
          (t.spares p.link p.addresses m.calls station some fit m.leads.may none);
    }
