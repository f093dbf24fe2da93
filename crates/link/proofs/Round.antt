-- Places, round the stations.
use Rattle.std.proofs.Common.{◌≡◌, ℕ, zero, suc, ◌+◌, ◌<◌, ◌%◌, nat_lt, Bool, true, false, refl}
use Rattle.std.proofs.Common.{sym, ap, ◌∙◌, arith, if◌then◌else◌}
use Rattle.std.proofs.Math.Nat.{add-mod_left, mod-eq_of_lt}
use Rattle.link.specs.Runs.{nth_after}
use Rattle.link.specs.Turns.{place_after}

-- the next place is the next number, or 0 behind the last
after_by : (count place : ℕ) (b : Bool) → nat_lt (suc place) count ≡ b → place < count
    → ((if b then suc place else 0) < count)
    × ((n : ℕ) → ((if b then suc place else 0) + n) % count ≡ (place + suc n) % count)
after_by count place true e lt = (
  grind arith,
  λ n. ap (λ (m : ℕ). m % count) (let e : suc place + n ≡ place + suc n = omega arith in e),
)
after_by count place false e lt =
    let last : suc place ≡ count = grind arith in (
      omega arith,
      λ n. sym (ap (λ (m : ℕ). m % count)
          (let e : place + suc n ≡ count + n = omega (arith, last) in e)
          ∙ add-mod_left count n
          ∙ ap (λ (m : ℕ). m % count) (let e : n ≡ 0 + n = omega arith in e)),
    )

next_place : (count place : ℕ) → place < count
    → (place_after count place < count)
    × ((n : ℕ) → (place_after count place + n) % count ≡ (place + suc n) % count)
next_place count place lt = after_by count place (nat_lt (suc place) count) refl lt

pub nth_is : (count place n : ℕ) → place < count → nth_after count place n ≡ (place + n) % count
nth_is count place zero lt =
    sym (ap (λ (m : ℕ). m % count) (let e : place + 0 ≡ place = omega arith in e)
    ∙ mod-eq_of_lt lt)
nth_is count place (suc n) lt =
    let next = next_place count place lt in
    nth_is count (place_after count place) n next.0 ∙ next.1 n
