-- What comes decides what goes out: two logs with the same events have the same actions.
use Rattle.std.proofs.Common.{◌≡◌, ℕ, ◌+◌, ◌<◌, List, [], ◌∷◌, ◌++◌}
use Rattle.std.proofs.Common.{refl, ap, sym, ◌∙◌, subst, inl, inr}
use Rattle.std.specs.Prelude.{◌⊎◌}
use Rattle.session.specs.History as talk
use Rattle.gateway.specs.Log.{Log, Output, Went}
use Rattle.gateway.specs.Reports.{Setup}
use Rattle.gateway.proofs.OneCourse.{Laws}
use Rattle.gateway.proofs.OneAction.{Stands, fewer}
use Rattle.gateway.proofs.OneAction.{one_action}

-- Nothing goes out behind a step that has done all that it could

-- actions go out behind a log, the oldest first
abbrev put : List (ℕ × Output) → Log → Log
put [] log = log
put (x ∷ xs) log = put xs (Went x.0 x.1 ∷ log)

put_last : (xs : List (ℕ × Output)) (now : ℕ) (a : Output) (log : Log)
    → put (xs ++ (now, a) ∷ []) log ≡ Went now a ∷ put xs log
put_last [] now a log = refl
put_last (x ∷ xs) now a log = put_last xs now a (Went x.0 x.1 ∷ log)

-- one log goes on from the other by actions alone
abbrev GoesOnFrom : Log → Log → Type 0
GoesOnFrom log later = (xs : List (ℕ × Output)) × (later ≡ put xs log)

before_put : (p : Setup) (xs : List (ℕ × Output)) (log : Log) → Stands p (put xs log)
    → Stands p log
before_put p [] log s = s
before_put p (x ∷ xs) log s = fewer p (Went x.0 x.1) log (before_put p xs (Went x.0 x.1 ∷ log) s)

one_more : Laws → (p : Setup) (log other : Log) (now : ℕ) (a : Output) → Stands p log
    → Stands p (Went now a ∷ other) → GoesOnFrom log other ⊎ GoesOnFrom other log
    → GoesOnFrom log (Went now a ∷ other) ⊎ GoesOnFrom (Went now a ∷ other) log
one_more laws p log other now a s t (inl g) = inl (
  g.0 ++ (now, a) ∷ [],
  ap (λ l. Went now a ∷ l) g.1 ∙ sym (put_last g.0 now a log),
)
one_more laws p log other now a s t (inr g) = by_actions g.0 g.1
  where
    by_actions : (xs : List (ℕ × Output)) → log ≡ put xs other
        → GoesOnFrom log (Went now a ∷ other) ⊎ GoesOnFrom (Went now a ∷ other) log
    by_actions [] e = inl ((now, a) ∷ [], ap (λ l. Went now a ∷ l) (sym e))
    by_actions (x ∷ xs) e =
        let first : Stands p (Went x.0 x.1 ∷ other) = before_put p xs (Went x.0 x.1 ∷ other)
        (subst (Stands p) e s) in
        inr (
          xs,
          e ∙ ap (λ y. put xs (y ∷ other)) (one_action laws p other x.0 now x.1 a first t),
        )
