-- What is fixed of the port over live ends. Neither looks nor actions touch it.
use Rattle.std.proofs.Common.{◌≡◌, ℕ, List, refl, ap, ◌∙◌}
use Rattle.gateway.specs.declared.ports.Next.{Next}
use Rattle.gateway.specs.Log.{Log, Output}
use Rattle.live.specs.Ends.{LiveEnds, Turns, PutsOut, as_logged, fixed_of}
use Rattle.live.proofs.Rounds.{Aside, turn_still}
use Rattle.live.proofs.Beside.{action_beside}
use Rattle.live.proofs.Apart.{fixed_apart}

fixed_aside : Aside fixed_of
fixed_aside = record { apart = fixed_apart; read = λ now e. refl }

-- a turn, and an action, once they are logged
pub next_fixed : (old mid new : LiveEnds) (event : Next) (buf : List ℕ) (log : Log)
    → Turns old event buf mid
    → new ≡ as_logged log mid → fixed_of new ≡ fixed_of old
next_fixed old mid new event buf log t done =
    ap fixed_of done
    ∙ turn_still fixed_of fixed_aside (λ e now shown. refl) old mid event buf t (λ e. refl)

pub put_fixed : (old mid new : LiveEnds) (moment : ℕ) (action : Output) (log : Log)
    → PutsOut old moment action mid
    → new ≡ as_logged log mid → fixed_of new ≡ fixed_of old
put_fixed old mid new moment action log p done =
    ap fixed_of done
    ∙ (ap fixed_of p.done
    ∙ action_beside fixed_of (λ e. refl) (λ moment octets written taken late e. refl) moment action
    p.written p.taken p.late old)
