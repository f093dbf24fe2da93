use Rattle.std.proofs.Common.{◌≡◌, ◌++◌, ℕ, Bool, List, [], Option, Some, Result, subst}
use Rattle.std.specs.Prelude.{Err, Ok}
use Rattle.gateway.specs.Config.{Settings}
use Rattle.gateway.specs.Log.{Log}
use Rattle.gateway.specs.Reports.{Setup}
use Rattle.gateway.specs.Setups.{setup_of}
use Rattle.gateway.specs.Traffic.{IsFaithful}
use Rattle.live.specs.Ends.{LiveEnds}
use Rattle.live.specs.declared.allow_list.AllowList.{AllowList}
use Rattle.record.specs.Recording.{Recording, all_passed, text_of}
use Rattle.telegate.specs.Living.{HasLived}
use Rattle.telegate.specs.Running.{HasRunFaithfully, IsRecordOf, IsRunFaithful, IsTextOf}
use Rattle.traces.specs.Printed.{lines_of_log}
use Rattle.telegate.proofs.RunLaw.{kept_of, lived_anew}
use Rattle.telegate.proofs.run_laws.a_live_run_keeps_the_promises_of_its_settings.Goals as goal

faithful_by : {E : Type 0} (p : Setup) (shown : Option Log) (ended : Result (Unit {0}) E)
    → HasRunFaithfully p shown ended → IsRunFaithful p shown
faithful_by p shown (Ok done) h = h.0
faithful_by p shown (Err why) h = h

promised : {E : Type 0} (settings : Settings) (allow_list : AllowList) (goes_on : Bool)
    (log : Log) (port : LiveEnds) (pen : Recording) (ended : Result (Unit {0}) E)
    → HasLived settings allow_list goes_on port pen ended
    → all_passed pen (Some port.log) ≡ Some log → IsFaithful (setup_of settings) log
promised settings allow_list goes_on log port pen ended lived is =
    subst (λ (shown : Option Log). IsRunFaithful (setup_of settings) shown) is
    (faithful_by (setup_of settings) _ ended lived.faithful)

promised_text : {E : Type 0} (settings : Settings) (allow_list : AllowList) (goes_on : Bool)
    (text : List ℕ) (port : LiveEnds) (pen : Recording)
    (ended : Result (Unit {0}) E) → HasLived settings allow_list goes_on port pen ended
    → text_of pen ≡ Some text → pen.missed ≡ Some []
    → (log : Log) × (text ≡ lines_of_log log) × IsFaithful (setup_of settings) (log ++ pen.before)
promised_text {E} settings allow_list goes_on text port pen ended lived is none =
    let p = setup_of settings in
    let before = pen.before in
    let given : IsTextOf p before pen.is_over (Some text) pen.missed ended =
    subst (λ (t : Option (List ℕ)). IsTextOf p before pen.is_over t pen.missed ended) is
    lived.recorded in
    let r : IsRecordOf p before pen.is_over text [] ended =
    subst (λ (m : Option Log). IsTextOf p before pen.is_over (Some text) m ended) none given in
    (r.log, r.lines, faithful_by p (Some (r.log ++ before)) ended r.faithful)

pub returns-clause-anew : goal.returns-clause-anew
returns-clause-anew g c settings wishes old new left ended log h none =
    promised settings wishes.allow_list _ log left.port left.pen ended
    (lived_anew _ settings wishes old new left ended h none)

pub returns-clause-recorded : goal.returns-clause-recorded
returns-clause-recorded g c settings wishes old new left ended text h none =
    promised_text settings wishes.allow_list _ text left.port left.pen ended
    (lived_anew _ settings wishes old new left ended h none)

pub returns-clause-kept : goal.returns-clause-kept
returns-clause-kept g c settings wishes old new left ended directory h named =
    let k = kept_of _ settings wishes old new left ended directory h named in
    let o = k.lived.origin in (
      o,
      k.lived.begun,
      k.lived.on.behind,
      λ follows rests log. promised settings wishes.allow_list _ log left.port left.pen
          ended (k.lived.on.lived follows rests),
    )
