-- What octets of the line bring that are gathered up to one that may be the last of an answer.
use Rattle.std.proofs.Common.{◌≡◌, ℕ, Bool, true, List, drop, refl, ap, sym, subst}
use Rattle.link.specs.declared.outcome.Outcome.TheVariants as exchange
use Rattle.gateway.specs.Serial.{Serial, arrived, answer_outcome}
use Rattle.gateway.specs.State.{State, with_serial}
use Rattle.gateway.specs.Steps.{Learns, Receives}

pub receives_none : (s : State) (line : Serial) (octets : List ℕ) → line ≡ arrived octets s.serial
    → answer_outcome octets s.serial ≡ exchange.None → Receives s octets true (with_serial line s)
receives_none s line octets is none = subst
    (λ o. Learns (with_serial (arrived octets s.serial) s) o true (with_serial line s)) (sym none)
    (ap (λ (x : Serial). with_serial x s) is, refl)

pub receives_rest : (s : State) (line : Serial) (octets : List ℕ) (n : ℕ) (fits : Bool) (t : State)
    → arrived (drop n octets) line ≡ arrived octets s.serial
    → answer_outcome (drop n octets) line ≡ answer_outcome octets s.serial
    → Receives (with_serial line s) (drop n octets) fits t → Receives s octets fits t
receives_rest s line octets n fits t is same h =
    subst (λ o. Learns (with_serial (arrived octets s.serial) s) o fits t) same
    (subst (λ (x : Serial). Learns (with_serial x s) (answer_outcome (drop n octets) line) fits t)
    is
    h)
