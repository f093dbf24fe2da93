-- What is due is handed over right behind what it is due for, and nothing else is.
use Rattle.std.proofs.Common.{◌≡◌, ℕ, Bool, true, false, List, [], ◌∷◌, Option, Some, None, refl}
use Rattle.std.proofs.Common.{sym, subst, ◌∙◌}
use Rattle.asdu.specs.Asdu.{AsduValue}
use Rattle.asdu.specs.declared.sizes.Sizes.{Sizes}
use Rattle.command.specs.History.{History, Judged, Sent, Accepted, Refused, GivenUp, Mirrored}
use Rattle.command.specs.History.{Offered, Answered, Ended}
use Rattle.gateway.specs.Given.{due_in, with_piece, passed_on, IsNextPiece, IsOwed, GivesWhatIsDue}
use Rattle.delivery.specs.OwnAnswers.{GivesAnswers}

-- a station's answer and the pieces of it that were handed over
abbrev Passed : Type 0
Passed = Option (AsduValue × List (List ℕ))

-- what is handed over next is a piece, so a station's answer was passed on before
is_some : (sizes : Sizes) (o : Passed) (octets : List ℕ) → IsNextPiece sizes o octets
    → (passed : AsduValue × List (List ℕ)) × (o ≡ Some passed)
is_some sizes None octets e = absurd e
is_some sizes (Some passed) octets e = (passed, refl)

before_piece : (octets : List ℕ) (o : Passed) (passed : AsduValue × List (List ℕ))
    → with_piece octets o ≡ Some passed → (q : AsduValue × List (List ℕ)) × (o ≡ Some q)
before_piece octets None passed e = absurd (nothing passed e)
  where
    nothing : (q : AsduValue × List (List ℕ)) → None ≡ Some q → ⊥
    nothing q e = cc
before_piece octets (Some q) passed e = (q, refl)

module _ (sizes : Sizes) where
  -- what is handed over right behind these, by what they leave due
  record Behind (h : History) : Type 0 where
    none : due_in h ≡ None → GivesAnswers [] h
    one : (answer : List ℕ) → due_in h ≡ Some answer → GivesAnswers (answer ∷ []) h
    pieces : (given : List (List ℕ)) (passed : AsduValue × List (List ℕ))
        → passed_on h ≡ Some passed → GivesAnswers given h

  -- behind what leaves nothing due
  quiet : (h : History) → GivesAnswers [] h → due_in h ≡ None → passed_on h ≡ None → Behind h
  quiet h gives due none = record {
    none = λ e. gives;
    one = λ answer e. absurd (nothing answer (sym due ∙ e));
    pieces = λ given passed e. absurd (no_pieces passed (sym none ∙ e));
  }
    where
      nothing : (answer : List ℕ) → None ≡ Some answer → ⊥
      nothing answer e = cc

      no_pieces : (passed : AsduValue × List (List ℕ)) → None ≡ Some passed → ⊥
      no_pieces passed e = cc

  -- behind what leaves this due
  due_one : (answer : List ℕ) (h : History) → GivesAnswers (answer ∷ []) h
      → due_in h ≡ Some answer → passed_on h ≡ None → Behind h
  due_one answer h gives due none = record {
    none = λ e. absurd (nothing (sym e ∙ due));
    one = λ other e. subst (λ (x : List ℕ). GivesAnswers (x ∷ []) h)
        (same other (sym due ∙ e)) gives;
    pieces = λ given passed e. absurd (no_pieces passed (sym none ∙ e));
  }
    where
      nothing : None ≡ Some answer → ⊥
      nothing e = cc

      same : (other : List ℕ) → Some answer ≡ Some other → answer ≡ other
      same other e = cc

      no_pieces : (passed : AsduValue × List (List ℕ)) → None ≡ Some passed → ⊥
      no_pieces passed e = cc

  -- something is handed over, as these leave it due
  owed : (due : Option (List ℕ)) (octets : List ℕ) (h : History) → due_in h ≡ due
      → IsOwed sizes due h octets → Behind h → GivesAnswers (octets ∷ []) h
  owed (Some answer) octets h e is b =
      subst (λ (x : List ℕ). GivesAnswers (x ∷ []) h) (sym is) (b.one answer e)
  owed None octets h e is b =
      let some = is_some sizes (passed_on h) octets is in
      b.pieces (octets ∷ []) some.0 some.1

  offered : (octets : List ℕ) (kept : Bool) (h : History)
      → IsOwed sizes (due_in h) h octets → Behind h → Behind (Offered octets kept ∷ h)
  offered octets kept h is b = record {
    none = λ e. owed (due_in h) octets h refl is b;
    one = λ answer e. absurd (nothing answer e);
    pieces = by_kept kept;
  }
    where
      nothing : (answer : List ℕ) → None ≡ Some answer → ⊥
      nothing answer e = cc

      no_pieces : (passed : AsduValue × List (List ℕ)) → None ≡ Some passed → ⊥
      no_pieces passed e = cc

      by_kept : (b : Bool) (given : List (List ℕ)) (passed : AsduValue × List (List ℕ))
          → passed_on (Offered octets b ∷ h) ≡ Some passed
          → GivesAnswers given (Offered octets b ∷ h)
      by_kept true given passed e =
          let some = before_piece octets (passed_on h) passed e in
          b.pieces (octets ∷ given) some.0 some.1
      by_kept false given passed e = absurd (no_pieces passed e)

  behind : (h : History) → GivesWhatIsDue sizes h → Behind h
  behind [] g = quiet [] refl refl refl
  behind (Judged now wall asdu None ∷ h) g =
      quiet (Judged now wall asdu None ∷ h) (refl, (behind h g.1).none g.0) refl refl
  behind (Judged now wall asdu (Some answer) ∷ h) g =
      due_one answer (Judged now wall asdu (Some answer) ∷ h)
      (refl, (behind h g.1).none g.0) refl refl
  behind (Refused k None ∷ h) g =
      quiet (Refused k None ∷ h) (refl, (behind h g.1).none g.0) refl refl
  behind (Refused k (Some answer) ∷ h) g =
      due_one answer (Refused k (Some answer) ∷ h) (refl, (behind h g.1).none g.0) refl refl
  behind (Sent k octets ∷ h) g =
      quiet (Sent k octets ∷ h) (refl, (behind h g.1).none g.0) refl refl
  behind (Accepted k ∷ h) g =
      quiet (Accepted k ∷ h) (refl, (behind h g.1).none g.0) refl refl
  behind (GivenUp k was ∷ h) g =
      quiet (GivenUp k was ∷ h) (refl, (behind h g.1).none g.0) refl refl
  behind (Answered octets ∷ h) g =
      quiet (Answered octets ∷ h) (refl, (behind h g.1).none g.0) refl refl
  behind (Ended ∷ h) g = quiet (Ended ∷ h) (refl, (behind h g.1).none g.0) refl refl
  behind (Mirrored now v ∷ h) g = record {
    none = λ e. (behind h g.1).none g.0;
    one = λ answer e. absurd (nothing answer e);
    pieces = λ given passed e. (behind h g.1).none g.0;
  }
    where
      nothing : (answer : List ℕ) → None ≡ Some answer → ⊥
      nothing answer e = cc
  behind (Offered octets kept ∷ h) g = offered octets kept h g.0 (behind h g.1)

  pub none_due : (h : History) → GivesWhatIsDue sizes h → due_in h ≡ None → GivesAnswers [] h
  none_due h g e = (behind h g).none e
