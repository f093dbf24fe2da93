-- The gap that the last step has reported.
use Rattle.std.proofs.Common.{◌≡◌, ℕ, [], ◌∷◌, ◌++◌, Some, None, refl}
use Rattle.std.specs.List.{AllByRecursion}
use Rattle.gateway.specs.Log.{Log, Came, Went, Input, Output, LineOut, TcpOut, Closed, GapOut}
use Rattle.state.specs.Replays.{IsQuiet, last_gap}

-- what isn't a gap, and no event, is passed over
passed : (quiet earlier : Log) → AllByRecursion IsQuiet quiet
    → last_gap (quiet ++ earlier) ≡ last_gap earlier
passed [] earlier all = refl
passed (Came now event ∷ quiet) earlier all = absurd (all.0.action now event refl)
passed (Went now (LineOut octets) ∷ quiet) earlier all = passed quiet earlier all.1
passed (Went now (TcpOut octets) ∷ quiet) earlier all = passed quiet earlier all.1
passed (Went now (Closed cause) ∷ quiet) earlier all = passed quiet earlier all.1
passed (Went now (GapOut station session) ∷ quiet) earlier all =
    absurd (all.0.other now station session refl)

pub gap_again : (quiet earlier : Log) (now station session : ℕ) → AllByRecursion IsQuiet quiet
    → last_gap (quiet ++ Went now (GapOut station session) ∷ earlier) ≡ Some (station, session)
gap_again quiet earlier now station session all =
    passed quiet (Went now (GapOut station session) ∷ earlier) all

pub gap_past : (quiet earlier : Log) (now : ℕ) (event : Input) → AllByRecursion IsQuiet quiet
    → last_gap (quiet ++ Came now event ∷ earlier) ≡ None
gap_past quiet earlier now event all = passed quiet (Came now event ∷ earlier) all

pub no_gap : (quiet : Log) → AllByRecursion IsQuiet quiet → last_gap quiet ≡ None
no_gap [] all = refl
no_gap (Came now event ∷ quiet) all = absurd (all.0.action now event refl)
no_gap (Went now (LineOut octets) ∷ quiet) all = no_gap quiet all.1
no_gap (Went now (TcpOut octets) ∷ quiet) all = no_gap quiet all.1
no_gap (Went now (Closed cause) ∷ quiet) all = no_gap quiet all.1
no_gap (Went now (GapOut station session) ∷ quiet) all =
    absurd (all.0.other now station session refl)

-- each action is passed over but a gap
pub quiet_else : (now : ℕ) (action : Output)
    → ((station session : ℕ) → action ≡ GapOut station session → ⊥) → IsQuiet (Went now action)
quiet_else now action none = record {
  action = λ at event is. absurd (cc);
  other = λ at station session is. none station session (cc);
}
