-- The moment of a step is the greatest that was given.
use Rattle.std.proofs.Common.{◌≡◌, ℕ, ◌≤◌, ◌<◌, nat_le, true, false, [], ◌∷◌, max, min, refl, sym}
use Rattle.std.proofs.Common.{subst, inl, inr, le_trans, le_refl, le_of_lt, zero-le}
use Rattle.std.specs.Prelude.{◌⊎◌}
use Rattle.std.specs.List.{AllByRecursion}
use Rattle.std.proofs.Math.Nat.{le-max_left, le-max_right, max-le, min-le_right, max-eq_left}
use Rattle.std.proofs.Math.Nat.{max-eq_right}
use Rattle.std.proofs.lemmas.Bool.Decides.{leb_tells}
use Rattle.gateway.specs.Log.{Log, Input, Output, Came, Went, latest, last_moment}
use Rattle.gateway.specs.Reports.{Setup}
use Rattle.gateway.specs.Traffic.{ActsRightly}
use Rattle.gateway.specs.Moments.{moment_of, IsOneOf, IsGreatest, BearGreatest}

abbrev AreUpTo : ℕ → Log → Type 0
AreUpTo at log = AllByRecursion (λ entry. moment_of entry ≤ at) log

later : (a b : ℕ) → a ≤ b → (log : Log) → AreUpTo a log → AreUpTo b log
later a b h [] all = all
later a b h (entry ∷ log) all = (le_trans all.0 h, later a b h log all.1)

-- an event comes
came_logged : (now : ℕ) (event : Input) (log : Log) → IsOneOf (latest log) log →
    IsOneOf (max (latest log) (min now last_moment)) (Came now event ∷ log)
came_logged now event log old = by_order (leb_tells (latest log) (min now last_moment))
  where
    by_order : ((nat_le (latest log) (min now last_moment) ≡ true)
        × (latest log ≤ min now last_moment))
        ⊎ ((nat_le (latest log) (min now last_moment) ≡ false) × (min now last_moment < latest log))
        →
        IsOneOf (max (latest log) (min now last_moment)) (Came now event ∷ log)
    by_order (inl h) = inl (max-eq_right h.1)
    by_order (inr h) = inr (subst (λ m. IsOneOf m log) (sym (max-eq_left (le_of_lt h.1))) old)

came : (now : ℕ) (event : Input) (log : Log) → IsGreatest log (latest log) →
    IsGreatest (Came now event ∷ log) (latest (Came now event ∷ log))
came now event log old = record {
  counts = max-le old.counts (min-le_right now last_moment);
  none_later = (
    le-max_right (latest log) (min now last_moment),
    later (latest log) (max (latest log) (min now last_moment))
        (le-max_left (latest log) (min now last_moment)) log old.none_later,
  );
  logged = came_logged now event log old.logged;
}

-- an action goes out at the step's moment
went : (now : ℕ) (action : Output) (log : Log) → now ≡ latest log → IsGreatest log (latest log) →
    IsGreatest (Went now action ∷ log) (latest log)
went now action log e old = record {
  counts = old.counts;
  none_later = (subst (λ m. m ≤ latest log) (sym e) (le_refl (latest log)), old.none_later);
  logged = old.logged;
}

pub latest_is_greatest : (p : Setup) (log : Log) → ActsRightly p log → IsGreatest log (latest log)
latest_is_greatest p [] acts = record { counts = zero-le; none_later = tt; logged = refl }
latest_is_greatest p (Came now event ∷ log) acts =
    came now event log (latest_is_greatest p log acts)
latest_is_greatest p (Went now action ∷ log) acts =
    went now action log acts.0.moment (latest_is_greatest p log acts.1)

pub bear_greatest : (p : Setup) (log : Log) → ActsRightly p log → BearGreatest log
bear_greatest p [] acts = acts
bear_greatest p (Came now event ∷ log) acts = bear_greatest p log acts
bear_greatest p (Went now action ∷ log) acts = (
  subst (λ m. IsGreatest log m) (sym acts.0.moment) (latest_is_greatest p log acts.1),
  bear_greatest p log acts.1,
)
