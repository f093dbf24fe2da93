-- In one life of a gateway there is no restart, so no station that is up is asked for its status.
use Rattle.std.proofs.Common.{◌≡◌, ℕ, Bool, true, false, List, [], ◌∷◌, ◌++◌, subst, sym}
use Rattle.link.specs.Doubts.{HaveNoRestart}
use Rattle.link.specs.Procedure.{AskNoneThatIsUp}
use Rattle.link.specs.Runs.{Call, Next, Octets, Due, GivesUp, Doubts}
use Rattle.link.specs.declared.procedure.Link.TheVariants.{Down}
use Rattle.gateway.specs.Calling.{CallsOf, EndsStep, is_asking}
use Rattle.gateway.specs.Log.{Log, Came, Went, Opened, LineIn, TcpIn, CutOff, Ticked, WallIs}
use Rattle.gateway.specs.Log.{Restarted, LineOut, TcpOut, Closed, GapOut}
use Rattle.gateway.specs.Reports.{Setup, address_at, exchanges_with}
use Rattle.gateway.specs.Turning.{KeepsTurns}
use Rattle.delivery.specs.Delivery.{IsOneLife}

more : (xs ys : List Call) → HaveNoRestart xs → HaveNoRestart ys → HaveNoRestart (xs ++ ys)
more [] ys h k = k
more (Next now may_poll waiting ∷ xs) ys h k = more xs ys h k
more (Octets octets ∷ xs) ys h k = more xs ys h k
more (Due now ∷ xs) ys h k = more xs ys h k
more (GivesUp station ∷ xs) ys h k = more xs ys h k
more (Doubts ∷ xs) ys h k = absurd h

ends : (p : Setup) (log : Log) (asking : Bool) (left : List Call) → EndsStep p log asking left
    → HaveNoRestart left
ends p log true left asks = subst (λ (calls : List Call). HaveNoRestart calls) (sym asks.are) tt
ends p log false left none = subst (λ (calls : List Call). HaveNoRestart calls) (sym none) tt

-- the calls before a step, what it asked for at its end, and those of the next event
joined : (calls before left event : List Call) → calls ≡ (before ++ left) ++ event
    → HaveNoRestart before → HaveNoRestart left → HaveNoRestart event → HaveNoRestart calls
joined calls before left event are h k l =
    subst (λ (all : List Call). HaveNoRestart all) (sym are)
    (more (before ++ left) event (more before left h k) l)

none : (p : Setup) (log : Log) (calls : List Call) → CallsOf p log calls → IsOneLife log
    → HaveNoRestart calls
none p [] calls are one = subst (λ (all : List Call). HaveNoRestart all) (sym are) tt
none p (Came now Restarted ∷ log) calls are one = absurd one
none p (Came now (LineIn octets) ∷ log) calls (before, left, shown, asks, are) one =
    joined calls before left _ are (none p log before shown one)
    (ends p log (is_asking log) left asks) tt
none p (Came now Opened ∷ log) calls (before, left, shown, asks, are) one =
    joined calls before left _ are (none p log before shown one)
    (ends p log (is_asking log) left asks) tt
none p (Came now (TcpIn octets) ∷ log) calls (before, left, shown, asks, are) one =
    joined calls before left _ are (none p log before shown one)
    (ends p log (is_asking log) left asks) tt
none p (Came now CutOff ∷ log) calls (before, left, shown, asks, are) one =
    joined calls before left _ are (none p log before shown one)
    (ends p log (is_asking log) left asks) tt
none p (Came now Ticked ∷ log) calls (before, left, shown, asks, are) one =
    joined calls before left _ are (none p log before shown one)
    (ends p log (is_asking log) left asks) tt
none p (Came now (WallIs number) ∷ log) calls (before, left, shown, asks, are) one =
    joined calls before left _ are (none p log before shown one)
    (ends p log (is_asking log) left asks) tt
none p (Went now (LineOut octets) ∷ log) calls (before, asked, shown, asks, are) one =
    subst (λ (all : List Call). HaveNoRestart all) (sym are)
    (more before asked (none p log before shown one) (ends p log true asked asks))
none p (Went now (TcpOut octets) ∷ log) calls shown one = none p log calls shown one
none p (Went now (Closed cause) ∷ log) calls shown one = none p log calls shown one
none p (Went now (GapOut station session) ∷ log) calls shown one = none p log calls shown one

pub none_asked : (p : Setup) (log : Log) (i : ℕ) → KeepsTurns p log → IsOneLife log
    → AskNoneThatIsUp p.link (address_at p.addresses i) Down (exchanges_with p i log)
none_asked p log i keeps one = keeps.spares i (none p log keeps.calls keeps.shown one)
