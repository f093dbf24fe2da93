-- Answers that go out late (profile). Moments are the clock's, in ms.
use Rattle.std.specs.Prelude.{ℕ, ◌-◌, ◌==◌, nat_le, Bool, false, if◌then◌else◌, List, [], ◌∷◌}
use Rattle.std.specs.Prelude.{Option, Some, None}
use Rattle.sim.specs.Losses.{or_else}
use Rattle.sim.specs.declared.stations.cue.Cue.{Cue}
use Rattle.sim.specs.declared.stations.cue.Cue.TheVariants.{Delayed}

-- An answer that goes out so many ms behind its request, and the moment of the round in which the
-- request was received, once that is known.
pub record LateAnswer : Type 0 where
  pub octets : List ℕ
  pub ms : ℕ
  pub since : Option ℕ

-- how late the first line that speaks of it has the answer to a request go out
abbrev pub delay_in : (request : ℕ) → Cue → Option ℕ
delay_in request (Delayed n ms) = if n == request then Some ms else None
delay_in request cue = None

abbrev pub delay_of : (request : ℕ) → List Cue → Option ℕ
delay_of request [] = None
delay_of request (cue ∷ cues) = or_else (delay_in request cue) (delay_of request cues)

-- what of an answer that came back goes out at once: all of it, unless a line delays it
abbrev pub at_once : (delay : Option ℕ) → (back : Option (List ℕ)) → Option (List ℕ)
at_once None back = back
at_once (Some ms) back = None

-- What waits then. There is one place: the answer takes that of one that waited.
abbrev pub late_behind : (delay : Option ℕ) → (back : Option (List ℕ)) → Option LateAnswer
    → Option LateAnswer
late_behind None back late = late
late_behind (Some ms) None late = late
late_behind (Some ms) (Some octets) late =
    Some (record { octets = octets; ms = ms; since = None })

-- so many ms have passed since then
abbrev pub has_passed : (now ms : ℕ) → (since : Option ℕ) → Bool
has_passed now ms None = false
has_passed now ms (Some since) = nat_le ms (now - since)

-- what goes out late in a round at this moment
abbrev pub late_now : (now : ℕ) → Option LateAnswer → Option (List ℕ)
late_now now None = None
late_now now (Some late) = if has_passed now late.ms late.since then Some late.octets else None

-- what waits behind that round: if the request was received in it, from its moment on
abbrev pub late_after : (now : ℕ) → Option LateAnswer → Option LateAnswer
late_after now None = None
late_after now (Some late) =
    if has_passed now late.ms late.since then None
    else Some (record late { since = or_else late.since (Some now) })
