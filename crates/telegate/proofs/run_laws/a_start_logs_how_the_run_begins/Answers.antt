use Rattle.std.proofs.Common.{ℕ, Option, None, Some, false, refl, subst, true}
use Rattle.state.specs.declared.start.Beginning.TheVariants as beginnings
use Rattle.telegate.specs.Logged.{LogsGap}
use Rattle.telegate.proofs.StartLaw.{logs_start}
use Rattle.telegate.proofs.run_laws.a_start_logs_how_the_run_begins.Goals as goal

pub returns-clause-anew : goal.returns-clause-anew
returns-clause-anew c o old new = logs_start o None beginnings.Anew false None old new

pub returns-clause-aside : goal.returns-clause-aside
returns-clause-aside c o old new = logs_start o None beginnings.PutAside false None old new

pub returns-clause-goes_on : goal.returns-clause-goes_on
returns-clause-goes_on c o old new m = logs_start o None beginnings.GoesOn false (Some m) old new

pub returns-clause-stale : goal.returns-clause-stale
returns-clause-stale c o old new m = logs_start o None beginnings.LinksReset false (Some m) old new

pub returns-clause-damaged : goal.returns-clause-damaged
returns-clause-damaged c o old new octet m =
    logs_start o (Some octet) beginnings.LinksReset false (Some m) old new

pub returns-clause-moved : goal.returns-clause-moved
returns-clause-moved c o old new m = logs_start o None beginnings.GoesOn true (Some m) old new

pub returns-clause-stale_moved : goal.returns-clause-stale_moved
returns-clause-stale_moved c o old new m =
    logs_start o None beginnings.LinksReset true (Some m) old new

pub returns-clause-gap : goal.returns-clause-gap
returns-clause-gap c o old new m station session logs is_at is = (
  logs.named,
  subst (λ (g : Option (ℕ × ℕ)). LogsGap (Some m) g logs.named new) is
      (subst (λ (t : Option ℕ). LogsGap t o.gap logs.named new) is_at logs.gap),
)

pub returns-clause-without : goal.returns-clause-without
returns-clause-without c old new logs = (logs.0, (new, logs.1, refl))
