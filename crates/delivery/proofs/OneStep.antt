-- What a step puts out once.
use Rattle.std.specs.List.{list_any}
use Rattle.std.proofs.Common.{◌≡◌, ℕ, ◌||◌, Bool, true, false, List, [], ◌∷◌, ◌++◌, refl, ap, sym}
use Rattle.std.proofs.Common.{◌∙◌}
use Rattle.session.specs.declared.kinds.Close.{Close}
use Rattle.session.specs.declared.kinds.Close.TheVariants.{Timeout}
use Rattle.gateway.specs.Log.{Log, Output, Came, Went, LineOut, TcpOut, Closed, GapOut}
use Rattle.gateway.specs.Order.{step_actions, is_request, is_close, is_late, KeepsOrder}
use Rattle.delivery.specs.Octets.{AreActions}

order_before : (newer older : Log) → KeepsOrder (newer ++ older) → KeepsOrder older
order_before [] older h = h
order_before (Went now action ∷ newer) older h = order_before newer older h.1
order_before (Came now event ∷ newer) older h = order_before newer older h

or_true : (b : Bool) → (b || true) ≡ true
or_true true = refl
or_true false = refl

-- one of the actions so far is such a one
has_one : (f : Output → Bool) (actions older : Log) (at : ℕ) (action : Output)
    → AreActions actions → f action ≡ true
    → list_any f (step_actions (actions ++ Went at action ∷ older)) ≡ true
has_one f [] older at action are e = ap (λ (b : Bool). b || list_any f (step_actions older)) e
has_one f (Came now event ∷ actions) older at action are e = absurd are
has_one f (Went now other ∷ actions) older at action are e =
    ap (λ (b : Bool). f other || b) (has_one f actions older at action are e)
    ∙ or_true (f other)

no_more : (f : Output → Bool) (actions older : Log) (at : ℕ) (action : Output)
    → AreActions actions → f action ≡ true
    → list_any f (step_actions (actions ++ Went at action ∷ older)) ≡ false → ⊥
no_more f actions older at action are is none =
    let wrong : false ≡ true = sym none ∙ has_one f actions older at action are is in cc

module _ (newer actions older : Log) (now at : ℕ) (are : AreActions actions) where
  pub requests : (second first : List ℕ)
      → KeepsOrder (newer ++ Went now (LineOut second)
      ∷ (actions ++ Went at (LineOut first) ∷ older))
      → ⊥
  requests second first order = no_more is_request actions older at (LineOut first) are refl
      (order_before newer
      (Went now (LineOut second) ∷ (actions ++ Went at (LineOut first) ∷ older)) order).0.0

  pub closes : (second first : Close)
      → KeepsOrder (newer ++ Went now (Closed second) ∷ (actions ++ Went at (Closed first) ∷ older))
      → ⊥
  closes second first order = no_more is_close actions older at (Closed first) are refl
      (order_before newer
      (Went now (Closed second) ∷ (actions ++ Went at (Closed first) ∷ older)) order).0.0

  pub octets : (sent : List ℕ) (cause : Close)
      → KeepsOrder (newer ++ Went now (TcpOut sent) ∷ (actions ++ Went at (Closed cause) ∷ older))
      → ⊥
  octets sent cause order = no_more is_close actions older at (Closed cause) are refl
      (order_before newer
      (Went now (TcpOut sent) ∷ (actions ++ Went at (Closed cause) ∷ older)) order).0

  pub closed : (cause : Close) (asked : List ℕ)
      → KeepsOrder (newer ++ Went now (Closed cause) ∷ (actions ++ Went at (LineOut asked) ∷ older))
      → ⊥
  closed cause asked order = no_more is_request actions older at (LineOut asked) are refl
      (order_before newer
      (Went now (Closed cause) ∷ (actions ++ Went at (LineOut asked) ∷ older)) order).0.1

  pub told : (station session : ℕ) (asked : List ℕ)
      → KeepsOrder (newer ++ Went now (GapOut station session)
      ∷ (actions ++ Went at (LineOut asked) ∷ older)) → ⊥
  told station session asked order =
      no_more is_request actions older at (LineOut asked) are refl
      (order_before newer
      (Went now (GapOut station session) ∷ (actions ++ Went at (LineOut asked) ∷ older))
      order).0.1

  pub told_late : (station session : ℕ)
      → KeepsOrder (newer ++ Went now (GapOut station session)
      ∷ (actions ++ Went at (Closed Timeout) ∷ older)) → ⊥
  told_late station session order =
      no_more is_late actions older at (Closed Timeout) are refl
      (order_before newer
      (Went now (GapOut station session) ∷ (actions ++ Went at (Closed Timeout) ∷ older)) order).0.0
