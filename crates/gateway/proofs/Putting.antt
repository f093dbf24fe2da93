-- What parts of a step leave of their port, one after another.
use Rattle.std.proofs.Common.{ℕ, ◌<◌, Option, arith, refl, ◌∙◌}
use Rattle.gateway.specs.Log.{Log}
use Rattle.gateway.specs.Runs.{Puts}

pub puts_none : {S F : Type 0} {log : S → Option Log} {fixed : S → F} {failed : S → ℕ} {a : S}
    → Puts log fixed failed a a 0
puts_none = record { events = refl; script = refl; cause = omega arith }

pub puts_then : {S F : Type 0} {log : S → Option Log} {fixed : S → F} {failed : S → ℕ} {a b c : S}
    {n : ℕ}
    → Puts log fixed failed a b 0 → Puts log fixed failed b c n → Puts log fixed failed a c n
puts_then first second = record {
  events = second.events ∙ first.events;
  script = second.script ∙ first.script;
  cause = omega (arith, first.cause, second.cause);
}

-- the device that a part leaves whole can be asked again
pub puts_ready : {S F : Type 0} {log : S → Option Log} {fixed : S → F} {failed : S → ℕ} {a b : S}
    {m : ℕ}
    → Puts log fixed failed a b 0 → failed a < m → failed b < m
puts_ready first ready = omega (arith, first.cause, ready)
