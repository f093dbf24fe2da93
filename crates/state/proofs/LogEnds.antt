-- The events of a log end before its first line that logs none.
use Rattle.std.proofs.Common.{◌≡◌, ℕ, List, [], ◌∷◌, ◌++◌, None, Option, Some, ap}
use Rattle.gateway.specs.Log.{LogEntry}
use Rattle.traces.specs.Event.{Event}
use Rattle.traces.specs.Progress.{came}
use Rattle.traces.specs.Trace.{logged}
use Rattle.state.specs.Replays.{before_those, events_in_front}

pub one_more : (line : List ℕ) (lines : List (List ℕ)) (event : Event) → logged line ≡ Some event
    → events_in_front (line ∷ lines) ≡ came event ∷ events_in_front lines
one_more line lines event is =
    ap (λ (o : Option Event). before_those o (events_in_front lines)) is

pub no_more : (lines behind : List (List ℕ)) (line : List ℕ) → logged line ≡ None
    → events_in_front (lines ++ line ∷ behind) ≡ events_in_front lines
no_more [] behind line is =
    ap (λ (o : Option Event). before_those o (events_in_front behind)) is
no_more (first ∷ lines) behind line is =
    ap (λ (events : List LogEntry). before_those (logged first) events)
    (no_more lines behind line is)
