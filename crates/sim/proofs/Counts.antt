-- Counts of connections go on.
use Rattle.std.proofs.Common.{◌≡◌, ℕ, zero, suc, ◌+◌, ◌-◌, ◌<◌, ◌≤◌, ◌^◌, min, List, [], ◌∷◌}
use Rattle.std.proofs.Common.{length, get_or, refl, ap, arith}
use Rattle.std.specs.Prelude.{slice_set}
use Rattle.sim.specs.Connections.{add_latest}

-- the last count is put
last_set : (more i : ℕ) (ns : List ℕ) (n : ℕ) → i + 1 ≡ length ns
    → n ≡ min (get_or ns i 0 + more) (2 ^ 64 - 1)
    → slice_set ns i n ≡ add_latest more ns
last_set more i [] n e is = absurd (omega arith)
last_set more zero (m ∷ []) n e is = ap (λ (k : ℕ). k ∷ []) is
last_set more (suc i) (m ∷ []) n e is = absurd (omega arith)
last_set more zero (m ∷ k ∷ ns) n e is = absurd (omega arith)
last_set more (suc i) (m ∷ k ∷ ns) n e is =
    ap (λ (l : List ℕ). m ∷ l) (last_set more i (k ∷ ns) n (omega arith) is)

pub latest_set : (more n : ℕ) (ns : List ℕ) → 0 < length ns
    → n ≡ min (get_or ns (length ns - 1) 0 + more) (2 ^ 64 - 1)
    → slice_set ns (length ns - 1) n ≡ add_latest more ns
latest_set more n ns some is = last_set more (length ns - 1) ns n (omega arith) is

pub latest_none : (more : ℕ) (ns : List ℕ) → length ns ≤ 0 → ns ≡ add_latest more ns
latest_none more [] none = refl
latest_none more (n ∷ ns) none = absurd (omega arith)
