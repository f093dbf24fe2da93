-- A text of both kinds of lines.
use Rattle.std.proofs.Common.{◌≡◌, List}
use Rattle.std.proofs.Common.{sym, subst}
use Rattle.std.specs.Prelude.{Result, Ok, Err, IfOk, Vec}
use Rattle.std.specs.declared.alloc.Global.{Global}
use Rattle.std.specs.List.{AllByRecursion}
use Rattle.gateway.specs.Config.{Settings}
use Rattle.gateway.specs.declared.settings.LineSettings.{LineSettings}
use Rattle.sim.specs.Scripts.{FitsSettings}
use Rattle.sim.specs.declared.directive.Directive.{Directive}
use Rattle.traces.specs.declared.reading.TextFault.{TextFault}
use Rattle.sim.specs.Cues.{FitsLine}
use Rattle.sim.specs.Scenarios.{FitsScenario}
use Rattle.sim.specs.Scenarios.{joined}
use Rattle.sim.specs.declared.stations.cue.Cue.{Cue}
use Rattle.sim.specs.declared.stations.scenario.Scenario.{Scenario}

pub joined_fits : (c : Settings) (cues : Result (Vec Cue Global) TextFault)
    (script : Result (List Directive) TextFault) →
    IfOk cues (λ v. AllByRecursion (FitsLine c.line.link) v.items) →
    IfOk script (FitsSettings c) → IfOk (joined cues script) (FitsScenario c)
joined_fits c (Ok cues) (Ok script) lines fits = record { script = fits; lines = lines }
joined_fits c (Ok cues) (Err fault) lines fits = tt
joined_fits c (Err fault) (Ok script) lines fits = tt
joined_fits c (Err one) (Err other) lines fits = tt

pub scenario_fits : (c : Settings) (line : LineSettings) → line ≡ c.line →
    (cues : Result (Vec Cue Global) TextFault) (script : Result (List Directive) TextFault) →
    IfOk cues (λ v. AllByRecursion (FitsLine line.link) v.items) →
    IfOk script (FitsSettings c) → (result : Result Scenario TextFault) →
    result ≡ joined cues script → IfOk result (FitsScenario c)
scenario_fits c line l cues script lines fits result e =
    subst (λ (r : Result Scenario TextFault). IfOk r (FitsScenario c)) (sym e)
    (joined_fits c cues script
    (subst (λ (x : LineSettings). IfOk cues (λ v. AllByRecursion (FitsLine x.link) v.items)) l
    lines) fits)
