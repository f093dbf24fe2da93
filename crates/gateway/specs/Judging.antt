-- What taking an APDU leads to.
use Rattle.std.specs.Prelude.{ℕ, List, [], Option, IfSome}
use Rattle.gateway.specs.Log.{Log}
use Rattle.gateway.specs.Reports.{Setup}
use Rattle.gateway.specs.Traffic.{IsFaithful}
use Rattle.gateway.specs.declared.step.Progress.{Progress}
use Rattle.gateway.specs.declared.step.Progress.TheVariants.{On, Over, Failed}
use Rattle.gateway.specs.State.{State}
use Rattle.gateway.specs.Phases.{Idle}
use Rattle.gateway.specs.Agrees.{Tracks, Awaits}

abbrev pub Goes : Progress → Setup → State → Option Log → List ℕ → Type 0
Goes On p s logged rest = Awaits p s logged rest
Goes Over p s logged rest = Tracks p s logged [] Idle
Goes Failed p s logged rest = IfSome logged (IsFaithful p)

abbrev pub IsOnward : Progress → Type 0 → Type 0
IsOnward On P = P
IsOnward Over P = Unit {0}
IsOnward Failed P = Unit {0}

-- how many failures of the device it reports
abbrev pub faults_in : Progress → ℕ
faults_in On = 0
faults_in Over = 0
faults_in Failed = 1
