-- What comes before the first session, and the sessions, joined are the whole.
use Rattle.std.proofs.Common.{◌≡◌, ℕ, Bool, true, false, List, [], ◌∷◌, ◌++◌, refl, ap, sym, ◌∙◌}
use Rattle.std.proofs.Common.{append_assoc, if◌then◌else◌}
use Rattle.std.specs.List.{flat_map}
use Rattle.std.proofs.lemmas.List.{append_cancel_right}
use Rattle.link.specs.Exchanges.{Exchange, answer_to}
use Rattle.link.specs.Outstation.{Outstation, Turn, unreset, OutstationRun, all_done}
use Rattle.link.specs.Delivery.{learnt, learnt_by, requests_of, IsHonest, is_reset, Session}
use Rattle.link.specs.Delivery.{with_first, before_reset, sessions}

-- a turn at each exchange
abbrev AreTaken : List Exchange → List Turn → Type 0
AreTaken [] [] = Unit {0}
AreTaken [] (turn ∷ turns) = ⊥
AreTaken (x ∷ xs) [] = ⊥
AreTaken (x ∷ xs) (turn ∷ turns) = AreTaken xs turns

taken : (station : ℕ) (old new : Outstation) (xs : List Exchange) (turns : List Turn)
    → OutstationRun station old (requests_of xs) turns new → AreTaken xs turns
taken station old new [] [] run = tt
taken station old new [] (turn ∷ turns) run = run
taken station old new (x ∷ xs) [] run = run
taken station old new (x ∷ xs) (turn ∷ turns) run = taken station run.0 new xs turns run.2

-- what is made of the parts of some exchanges and turns, one after another
record IsByParts {A : Type 0} (of : List Exchange → List Turn → List A) : Type 0 where
  none : of [] [] ≡ []
  part : Exchange → Turn → List A
  more : (x : Exchange) (turn : Turn) (xs : List Exchange) (turns : List Turn)
      → of (x ∷ xs) (turn ∷ turns) ≡ part x turn ++ of xs turns

abbrev at_session : {A : Type 0} → (List Exchange → List Turn → List A) → Session → List A
at_session {A} of s = of s.exchanges s.turns

join : {A : Type 0} (of : List Exchange → List Turn → List A) (by : IsByParts of) (station : ℕ)
    (xs : List Exchange)
    (turns : List Turn) → AreTaken xs turns →
    at_session of (before_reset station xs turns) ++ flat_map (at_session of)
    (sessions station xs turns) ≡ of xs turns
join {A} of by station [] [] h = ap (λ (l : List A). l ++ []) by.none ∙ sym by.none
join {A} of by station [] (turn ∷ turns) h = absurd h
join {A} of by station (x ∷ xs) [] h = absurd h
join {A} of by station (x ∷ xs) (turn ∷ turns) h = go (is_reset x.request (answer_to station x))
    (join of by station xs turns h)
  where
    with_rest : at_session of (before_reset station xs turns) ++ flat_map (at_session of)
        (sessions station xs turns)
        ≡ of xs turns →
        of (x ∷ (before_reset station xs turns).exchanges)
        (turn ∷ (before_reset station xs turns).turns)
        ++ flat_map (at_session of) (sessions station xs turns) ≡ of (x ∷ xs) (turn ∷ turns)
    with_rest ih =
        ap (λ (l : List A). l ++ flat_map (at_session of) (sessions station xs turns))
        (by.more x turn (before_reset station xs turns).exchanges
        (before_reset station xs turns).turns)
        ∙ append_assoc (by.part x turn) (at_session of (before_reset station xs turns))
        (flat_map (at_session of) (sessions station xs turns))
        ∙ ap (λ (l : List A). by.part x turn ++ l) ih
        ∙ sym (by.more x turn xs turns)

    go : (b : Bool) → at_session of (before_reset station xs turns)
        ++ flat_map (at_session of) (sessions station xs turns) ≡ of xs turns →
        at_session of (if b then record {
          exchanges = [];
          turns =
              [];
        } else with_first x turn (before_reset station xs turns))
        ++ flat_map (at_session of) (if b then with_first x turn (before_reset station xs turns)
        ∷ sessions station xs turns else sessions station xs turns)
        ≡ of (x ∷ xs) (turn ∷ turns)
    go true ih =
        ap (λ (l : List A). l ++ (at_session of (with_first x turn (before_reset station xs turns))
        ++ flat_map (at_session of) (sessions station xs turns))) by.none ∙ with_rest ih
    go false ih = with_rest ih

-- The exchanges are those before the first session and those of the sessions.
pub exchanges_join : (station : ℕ) (xs : List Exchange) (turns : List Turn)
    → IsHonest station xs turns →
    (before_reset station xs turns).exchanges ++ flat_map (λ (s : Session). s.exchanges)
    (sessions station xs turns)
    ≡ xs
exchanges_join station xs turns honest =
    join (λ xs turns. xs) (record {
      none = refl;
      part = λ x turn. x ∷ [];
      more =
          λ x turn xs turns. refl;
    }) station xs
    turns (taken station unreset honest.end xs turns honest.run)

-- If all that was done was done in the sessions, nothing was done before.
pub none_done : (station : ℕ) (xs : List Exchange) (turns : List Turn) → IsHonest station xs turns →
    flat_map (λ (s : Session). all_done s.turns) (sessions station xs turns) ≡ all_done turns
    → all_done (before_reset station xs turns).turns ≡ []
none_done station xs turns honest same =
    append_cancel_right (all_done (before_reset station xs turns).turns) []
    (flat_map (λ (s : Session). all_done s.turns) (sessions station xs turns))
    (join (λ xs turns. all_done turns) (record {
      none = refl;
      part = λ x turn. turn.done;
      more =
          λ x turn xs turns. refl;
    }) station xs turns (taken station unreset honest.end xs turns honest.run) ∙ sym same)

-- And so for what was learnt.
pub none_learnt : (station : ℕ) (xs : List Exchange) (turns : List Turn) → IsHonest station xs turns
    →
    flat_map (λ (s : Session). learnt station s.exchanges) (sessions station xs turns)
    ≡ learnt station xs
    → learnt station (before_reset station xs turns).exchanges ≡ []
none_learnt station xs turns honest same =
    append_cancel_right (learnt station (before_reset station xs turns).exchanges) []
    (flat_map (λ (s : Session). learnt station s.exchanges) (sessions station xs turns))
    (join (λ xs turns. learnt station xs) (record {
      none = refl;
      part =
          λ x turn. learnt_by x.request (answer_to station x);
      more = λ x turn xs turns. refl;
    }) station xs turns
    (taken station unreset honest.end xs turns honest.run) ∙ sym same)
