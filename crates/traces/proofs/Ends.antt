-- The end of a run, and runs one after another.
use Rattle.std.proofs.Common.{◌≡◌, ℕ, ◌+◌, length, Option, Some, None, refl, ap, subst, arith}
use Rattle.gateway.specs.Log.{Log, events_of}
use Rattle.gateway.specs.Runs.{MoreEvents, UnlessDevice}
use Rattle.gateway.specs.declared.runs.End.{End}
use Rattle.gateway.specs.declared.runs.End.TheVariants.{Turns}

-- what is promised of each end but that of a device
pub at_turns : (end : End) (P : Type 0) → end ≡ Turns → UnlessDevice end P → P
at_turns end P is promised = subst (λ (e : End). UnlessDevice e P) is promised

same_number : (m n : ℕ) → Some m ≡ Some n → m ≡ n
same_number m n e = cc

-- so many turns, and then so many more
pub turns_joined : (n m k : ℕ) (a b c : Option Log) → k ≡ n + m → MoreEvents n a b
    → MoreEvents m b c
    → MoreEvents k a c
turns_joined n m k None None None e p q = refl
turns_joined n m k None None (Some z) e p q = cc
turns_joined n m k None (Some y) c e p q = cc
turns_joined n m k (Some x) None c e p q = cc
turns_joined n m k (Some x) (Some y) None e p q = cc
turns_joined n m k (Some x) (Some y) (Some z) e p q =
    let first : length (events_of y) ≡ length (events_of x) + n =
    same_number (length (events_of y)) (length (events_of x) + n) p in
    let second : length (events_of z) ≡ length (events_of y) + m =
    same_number (length (events_of z)) (length (events_of y) + m) q in
    ap Some (omega (arith, first, second, e))
