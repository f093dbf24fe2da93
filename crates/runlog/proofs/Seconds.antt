-- Lines of one kind.
use Rattle.std.proofs.Common.{◌≡◌, ℕ, ◌+◌, ◌-◌, ◌^◌, ◌<◌, ◌≤◌, Bool, true, false, List, [], ◌∷◌}
use Rattle.std.proofs.Common.{length, Option, Some, None, nat_le, min, refl, arith}
use Rattle.runlog.specs.Limits.{is_free, is_free_after, asked_by, none_left, one_left, logged_by}
use Rattle.runlog.specs.Limits.{logged_in}
use Rattle.runlog.specs.Limits.{IsSecondAfter, AreSecondsApart, logged_of, left_in}
use Rattle.runlog.specs.declared.limit.Limit.{Limit}

free_after : (logged now : ℕ) → nat_le 1000 (now - logged) ≡ true → logged + 1000 ≤ now
free_after logged now free = grind (arith, free)

pub second_after : (before : Option ℕ) (now : ℕ) → is_free_after before now ≡ true
    → IsSecondAfter before now
second_after None now free = tt
second_after (Some logged) now free = free_after logged now free

Apart : List ℕ → Type 0
Apart moments = (limit : Limit) → AreSecondsApart limit.logged (logged_in limit moments)

apart_by : (b : Bool) (limit : Limit) (now : ℕ) (moments : List ℕ) → is_free limit now ≡ b
    → Apart moments →
    AreSecondsApart limit.logged
    (logged_by (asked_by b limit now).1 now (logged_in (asked_by b limit now).0 moments))
unfolding Apart
apart_by true limit now moments free others = (
  second_after limit.logged now free,
  others (record { logged = Some now; left_out = none_left }),
)
apart_by false limit now moments free others =
    others (record limit { left_out = one_left now limit.left_out })

apart_all : (moments : List ℕ) → Apart moments
unfolding Apart
apart_all [] limit = tt
apart_all (now ∷ moments) limit = apart_by (is_free limit now) limit now moments refl
    (apart_all moments)

pub apart : (limit : Limit) (moments : List ℕ)
    → AreSecondsApart limit.logged (logged_in limit moments)
unfolding Apart
apart limit moments = apart_all moments limit

Counted : List ℕ → Type 0
Counted moments = (limit : Limit) → limit.left_out.count + length moments < 2 ^ 64
    → logged_of (logged_in limit moments) + left_in limit moments ≡ limit.left_out.count
    + length moments

no_more_than : (n m : ℕ) → n + (m + 1) < 2 ^ 64 → min (n + 1) (2 ^ 64 - 1) ≡ n + 1
no_more_than n m small = grind (arith, small)

counted_by : (b : Bool) (limit : Limit) (now : ℕ) (moments : List ℕ)
    → limit.left_out.count + length (now ∷ moments) < 2 ^ 64
    → Counted moments →
    logged_of (logged_by (asked_by b limit now).1 now (logged_in (asked_by b limit now).0 moments))
    + left_in
    (asked_by b limit now).0 moments ≡ limit.left_out.count + length (now ∷ moments)
unfolding Counted
counted_by true limit now moments small others =
    let rest = others (record { logged = Some now; left_out = none_left }) (omega (arith, small)) in
    omega (arith, rest)
counted_by false limit now moments small others =
    let more = no_more_than limit.left_out.count (length moments) (omega (arith, small)) in
    let rest = others (record limit { left_out = one_left now limit.left_out })
    (omega (arith, small, more)) in
    omega (arith, rest, more)

counted_all : (moments : List ℕ) → Counted moments
unfolding Counted
counted_all [] limit small = omega arith
counted_all (now ∷ moments) limit small = counted_by (is_free limit now) limit now moments small
    (counted_all moments)

pub counted : (limit : Limit) (moments : List ℕ) → limit.left_out.count + length moments < 2 ^ 64
    → logged_of (logged_in limit moments) + left_in limit moments ≡ limit.left_out.count
    + length moments
unfolding Counted
counted limit moments small = counted_all moments limit small
