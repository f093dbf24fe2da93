-- Frames that are described one after another.
use Rattle.std.proofs.Common.{◌≡◌, ℕ, ◌<◌, ◌≤◌, ◌-◌, List, [], ◌∷◌, ◌++◌, length, take, drop, refl}
use Rattle.std.proofs.Common.{sym, subst, ap, ◌∙◌, append_assoc, arith}
use Rattle.std.proofs.lemmas.List.{append-nil, length-drop, take_all}
use Rattle.words.specs.declared.facts.condition.Condition.{Condition}
use Rattle.words.specs.declared.facts.condition.Condition.TheVariants.{Good, Faulty}
use Rattle.words.specs.Described.{AreFramesDescribed, both, no_octets, frame_first}

both_along : (a b c : Condition) → both a (both b c) ≡ both (both a b) c
both_along Good b c = refl
both_along Faulty b c = refl

pub both_good : (a : Condition) → both a Good ≡ a
both_good Good = refl
both_good Faulty = refl

module _ (IsEnd : (octets : List ℕ) → (end : ℕ) → Type 0) (IsLogged : (octets text : List ℕ)
    → Condition
    → Type 0) where
  -- what is said of all octets, if so much is said of the first, and these are left
  abbrev pub IsLoggedUpTo : (all so_far left : List ℕ) → Condition → Type 0
  IsLoggedUpTo all so_far left condition = (texts : List ℕ) (rest : Condition)
      → AreFramesDescribed IsEnd IsLogged left texts rest
      → AreFramesDescribed IsEnd IsLogged all (so_far ++ texts) (both condition rest)

  -- one frame more
  pub logged_on : (all so_far left text later : List ℕ) (end : ℕ) (condition one new : Condition)
      → IsLoggedUpTo all so_far left condition → 0 < end → IsEnd left end
      → IsLogged (take end left) text one
      → later ≡ so_far ++ text → new ≡ both condition one
      → IsLoggedUpTo all later (drop end left) new
  logged_on all so_far left text later end condition one new h some ends described joined judged =
      λ texts rest others.
      let whole =
      h (text ++ texts) (both one rest) (frame_first left text texts end one rest some ends
      described
      others) in
      subst (λ (o : Condition). AreFramesDescribed IsEnd IsLogged all (later ++ texts) o)
      (both_along condition one rest ∙ ap (λ (o : Condition). both o rest) (sym judged))
      (subst (λ (ts : List ℕ). AreFramesDescribed IsEnd IsLogged all ts
      (both condition (both one rest)))
      (sym (append_assoc so_far text texts) ∙ ap (λ (ts : List ℕ). ts ++ texts) (sym joined)) whole)

  -- and none is left
  pub logged_all : (all so_far left : List ℕ) (condition : Condition)
      → IsLoggedUpTo all so_far left condition
      → left ≡ []
      → AreFramesDescribed IsEnd IsLogged all so_far condition
  logged_all all so_far left condition h none =
      let whole =
      h [] Good (subst (λ (xs : List ℕ). AreFramesDescribed IsEnd IsLogged xs [] Good) (sym none)
      no_octets) in
      subst (λ (o : Condition). AreFramesDescribed IsEnd IsLogged all so_far o)
      (both_good condition)
      (subst (λ (ts : List ℕ). AreFramesDescribed IsEnd IsLogged all ts (both condition Good))
      (append-nil so_far) whole)

-- what is left behind so many octets
pub rest_is : (end : ℕ) (xs : List ℕ) → end ≤ length xs → take (length xs - end) (drop end xs)
    ≡ drop end xs
rest_is end xs within = take_all (length xs - end) (drop end xs) (omega (arith, length-drop end xs))

pub none_left : (xs : List ℕ) → length xs ≡ 0 → xs ≡ []
none_left [] e = refl
none_left (x ∷ xs) e = cc
