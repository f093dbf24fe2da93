-- A live run whose state is kept (profile).
use Rattle.std.specs.Prelude.{◌≡◌, ℕ, false, OnOk, Option, Some, None, Result}
use Rattle.std.specs.Option.{is_some}
use Rattle.gateway.specs.Agrees.{Follows, Rests}
use Rattle.gateway.specs.Config.{Settings}
use Rattle.gateway.specs.Setups.{setup_of}
use Rattle.live.specs.Ends.{LiveEnds}
use Rattle.live.specs.declared.allow_list.AllowList.{AllowList}
use Rattle.record.specs.Recording.{Recording, all_passed}
use Rattle.state.specs.declared.beginning.Origin.{Origin}
use Rattle.telegate.specs.Living.{HasLived, IsPortOfRun}
use Rattle.telegate.specs.Running.{HasEnded}
use Rattle.telegate.specs.declared.fault.RunFault.{RunFault}
use Rattle.telegate.specs.declared.fault.RunFault.TheVariants.{EndUnusable, NoMemory, StateInUse}
use Rattle.telegate.specs.declared.fault.RunFault.TheVariants.{StateUnusable}

-- the moment at which the clock begins, in ms
abbrev pub first_moment : Option ℕ → ℕ
first_moment None = 0
first_moment (Some moment) = moment

-- an end of a run can't be had, which isn't that its device failed
abbrev pub IsEndFault : RunFault → Type 0
IsEndFault EndUnusable = Unit {0}
IsEndFault NoMemory = Unit {0}
IsEndFault _ = ⊥

-- or its state
abbrev pub IsKeptFault : RunFault → Type 0
IsKeptFault StateInUse = Unit {0}
IsKeptFault (StateUnusable cause) = Unit {0}
IsKeptFault fault = IsEndFault fault

-- A run with this beginning is over. The port is that of these settings and this allow list, and
-- began with the cut if it goes on. It ended well only once all turns that can be counted were used
-- up. If the gateway began with the state that the lives before lead to, all lives together keep
-- every promise of a gateway with these settings.
pub record HasLivedOn {E : Type 0} (settings : Settings) (allow_list : AllowList) (origin : Origin)
    (port : LiveEnds) (pen : Recording) (ended : Result (Unit {0}) E) : Type 0 where
  pub behind : pen.before ≡ origin.before.entries
  pub port_is : IsPortOfRun settings allow_list (is_some origin.moment) port
  pub over : OnOk ended (HasEnded false (Some pen.before) (all_passed pen (Some port.log)))
  pub lived : Follows (setup_of settings) origin.gateway (Some pen.before) →
      Rests (setup_of settings) (Some pen.before) →
      HasLived settings allow_list (is_some origin.moment) port pen ended

-- A run whose state is kept is over. It began so, and went on from there, with its clock.
pub record HasLivedFrom {E : Type 0} (begins : Origin → Type 0) (settings : Settings)
    (allow_list : AllowList) (clocked : (moment : ℕ) → Type 0) (port : LiveEnds)
    (pen : Recording) (ended : Result (Unit {0}) E) : Type 0 where
  pub origin : Origin
  pub begun : begins origin
  pub clock : clocked (first_moment origin.moment)
  pub on : HasLivedOn settings allow_list origin port pen ended
