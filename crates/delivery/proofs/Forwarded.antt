-- Each command without a fault is forwarded.
use Rattle.std.proofs.Common.{◌≡◌, ℕ, Bool, false, List, [], ◌∷◌, ◌++◌, Option, None}
use Rattle.std.proofs.Common.{ap, subst}
use Rattle.std.specs.Prelude.{◌&&◌, ◌||◌}
use Rattle.command.specs.History.{History, Judged, Sent, Accepted, Refused, GivenUp, Mirrored}
use Rattle.command.specs.History.{Offered, Answered, Ended}
use Rattle.command.specs.Standard.{executes, selects, must_be_selected}
use Rattle.gateway.specs.Passing.{PassesCommands, MustPass}
use Rattle.gateway.specs.Reports.{Setup}

-- what passed at any place of what became of commands
passed_then : (p : Setup) (newer older : History) → PassesCommands p (newer ++ older)
    → PassesCommands p older
passed_then p [] older h = h
passed_then p (Judged now wall xs answer ∷ newer) older h = passed_then p newer older h.1
passed_then p (Sent k octets ∷ newer) older h = passed_then p newer older h
passed_then p (Accepted k ∷ newer) older h = passed_then p newer older h
passed_then p (Refused k answer ∷ newer) older h = passed_then p newer older h
passed_then p (GivenUp k was ∷ newer) older h = passed_then p newer older h
passed_then p (Mirrored now v ∷ newer) older h = passed_then p newer older h
passed_then p (Offered octets kept ∷ newer) older h = passed_then p newer older h
passed_then p (Answered octets ∷ newer) older h = passed_then p newer older h
passed_then p (Ended ∷ newer) older h = passed_then p newer older h

pub forwarded : (p : Setup) (history newer older : History) (now : ℕ) (wall : Option ℕ)
    (xs : List ℕ) (answer : Option (List ℕ)) → PassesCommands p history
    → history ≡ newer ++ Judged now wall xs answer ∷ older
    → MustPass p xs now wall older → answer ≡ None
forwarded p history newer older now wall xs answer h is must =
    (passed_then p newer (Judged now wall xs answer ∷ older)
    (subst (λ (l : History). PassesCommands p l) is h)).0 must

-- a station that asks for no select
pub needs_none : (p : Setup) (xs : List ℕ) → must_be_selected p.stations xs ≡ false
    → (must_be_selected p.stations xs && (selects xs || executes xs)) ≡ false
needs_none p xs e = ap (λ (b : Bool). b && (selects xs || executes xs)) e
