use Rattle.std.proofs.Common.{◌≡◌, ℕ, List, inl, Result, Ok, Err, refl}
use Rattle.std.specs.Result.{IsErrAnd}
use Rattle.gateway.specs.Config.{Settings}
use Rattle.settings.specs.Live.{Places, places_of}
use Rattle.settings.specs.Settings.{IsLiveReadOfText}
use Rattle.settings.specs.declared.live.LiveSettings.{LiveSettings}
use Rattle.state.specs.declared.beginning.Origin.{Origin}
use Rattle.telegate.specs.Asked.{Asked}
use Rattle.telegate.specs.Faults.{fault_of_run}
use Rattle.telegate.specs.Ran.{HasComeAt, HasRunBy}
use Rattle.telegate.specs.declared.fault.Fault.{Fault}
use Rattle.telegate.specs.declared.fault.RunFault.{RunFault}
use Rattle.telegate.specs.declared.host.Wishes.{Wishes}
use Rattle.telegate.proofs.RunLemmas.{as_err}
use Rattle.telegate.proofs.host.SystemHost.run.Goals as goal

told_as : (begins : Settings → Origin → Type 0) (old new : Places → Asked) (text : List ℕ)
    (wishes : Wishes) (settings : Settings) (places : LiveSettings) (fault : RunFault)
    (answer : Result (Unit {0}) Fault) → IsLiveReadOfText text (Ok (settings, places))
    → HasComeAt (begins settings) settings wishes (old (places_of places))
    (new (places_of places)) (Err fault)
    → IsErrAnd answer (λ x. x ≡ fault_of_run fault) → HasRunBy begins old new text wishes answer
told_as begins old new text wishes settings places fault answer are came is =
    as_err (λ (r : Result (Unit {0}) Fault). HasRunBy begins old new text wishes r) answer
    (fault_of_run fault) is
    (inl (record {
      settings = settings;
      places = places;
      are = are;
      run = Err fault;
      came = came;
      answered = refl;
    }))

pub returns-in_err-run_process : goal.returns-in_err-run_process
returns-in_err-run_process g c =
    told_as _ _ _ c.args.config.now c.args.wishes c.in_ok-settings.settings c.in_ok-settings.places
    c.in_err-run_process.field-0.0 c.from_residual-in_err-run_process.result
    c.in_ok-settings.ensures c.in_err-run_process.ensures
    c.from_residual-in_err-run_process.ensures.1

pub returns : goal.returns
returns g c =
    inl (record {
      settings = c.in_ok-settings.settings;
      places = c.in_ok-settings.places;
      are = c.in_ok-settings.ensures;
      run = Ok c.in_ok-run_process.field-0;
      came = c.in_ok-run_process.ensures;
      answered = refl;
    })
