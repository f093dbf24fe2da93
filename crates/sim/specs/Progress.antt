-- How far a station's replies to commands are (profile).
use Rattle.std.specs.Prelude.{ℕ, zero, suc, ◌+◌, ◌-◌, ◌^◌, min, not, false, if◌then◌else◌, List, []}
use Rattle.std.specs.Prelude.{◌∷◌, ◌++◌}
use Rattle.sim.specs.declared.stations.outstations.replying.ReplyProgress.{ReplyProgress}

-- one reply further: to each command there are two, the confirmation and the termination
abbrev pub next_step : ReplyProgress → ReplyProgress
next_step p = record {
  commands = if p.is_confirmed then min (p.commands + 1) (2 ^ 64 - 1) else p.commands;
  is_confirmed = not p.is_confirmed;
}

-- no station has replied
abbrev pub none_replied : (stations : ℕ) → List ReplyProgress
none_replied zero = []
none_replied (suc n) = none_replied n ++ record { commands = 0; is_confirmed = false } ∷ []
