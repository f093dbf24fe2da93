-- Behind a station's answer no more is handed over than carries it.
use Rattle.std.proofs.Common.{◌≡◌, ◌⊎◌, inl, inr, ℕ, suc, ◌+◌, true, false, List}
use Rattle.std.proofs.Common.{[], ◌∷◌, ◌++◌, length, Option, Some, None, refl, ap, sym, subst, ◌∙◌}
use Rattle.std.proofs.Common.{arith, length-append}
use Rattle.asdu.specs.declared.sizes.Sizes.{Sizes}
use Rattle.asdu.specs.Asdu.{AsduValue}
use Rattle.asdu.specs.Translation.{parts}
use Rattle.elements.specs.declared.tag.Cp56.{Cp56}
use Rattle.command.specs.History.{History, Judged, Sent, Accepted, Refused, GivenUp, Mirrored}
use Rattle.command.specs.History.{Offered, Answered, Ended}
use Rattle.gateway.specs.Given.{due_in, with_piece, passed_on, IsPieceOf, IsNextPiece, IsOwed}
use Rattle.gateway.specs.Given.{GivesWhatIsDue}
use Rattle.gateway.specs.Tags.{AreTagged}
use Rattle.delivery.specs.OwnAnswers.{IsAtMost, GivesNoMore}

abbrev Passed : Type 0
Passed = Option (AsduValue × List (List ℕ))

unwrapped : (a b : AsduValue × List (List ℕ)) → Some a ≡ Some b → a ≡ b
unwrapped a b e = cc

as_many : (tag : Option Cp56) (plain pieces : List (List ℕ)) → AreTagged tag plain pieces
    → length pieces ≡ length plain
as_many None plain pieces t = ap length t
as_many (Some tag) [] pieces t = ap length t
as_many (Some tag) (x ∷ []) pieces t = ap length t.1
as_many (Some tag) (x ∷ y ∷ plain) pieces t = ap length t

added : (done rest : List (List ℕ)) (octets : List ℕ)
    → length (done ++ octets ∷ rest) ≡ length done + (length rest + 1)
added done rest octets = let joined = length-append done (octets ∷ rest) in omega (arith, joined)

module _ (sizes : Sizes) where
  -- a next piece, behind so many
  one_more : (v : AsduValue) (done : List (List ℕ)) (octets : List ℕ)
      → IsPieceOf sizes v done octets → IsAtMost sizes v (suc (length done))
  one_more v done octets p =
      let many : length p.pieces ≡ length p.plain = as_many p.tag p.plain p.pieces p.tagged in
      let all : length p.pieces ≡ length done + (length p.rest + 1) =
      ap length p.are ∙ added done p.rest octets in
      let number : length p.plain ≡ parts sizes p.report = p.passed.number in
      (p.report, p.passed.value, omega (arith, many, all, number))

  at_most : (v : AsduValue) (n m : ℕ) → n ≡ m → IsAtMost sizes v n → IsAtMost sizes v m
  at_most v n m e h = subst (IsAtMost sizes v) e h

  -- what is owed behind a station's answer is its next piece
  owed_piece : (due : Option (List ℕ)) (o : Passed) (h : History) (octets : List ℕ) (v : AsduValue)
      (done : List (List ℕ)) → due ≡ None → passed_on h ≡ Some (v, done)
      → IsOwed sizes due h octets → IsAtMost sizes v (suc (length done))
  owed_piece (Some answer) o h octets v done none is owed = cc
  owed_piece None o h octets v done none is owed =
      one_more v done octets (subst (λ (p : Passed). IsNextPiece sizes p octets) is owed)

  -- a station's answer leaves nothing due
  nothing_due : (h : History) (v : AsduValue) (done : List (List ℕ))
      → passed_on h ≡ Some (v, done) → due_in h ≡ None
  nothing_due (Mirrored now w ∷ h) v done is = refl
  nothing_due (Offered octets kept ∷ h) v done is = refl
  nothing_due [] v done is = refl
  nothing_due (Judged now wall asdu a ∷ h) v done is = cc
  nothing_due (Sent k octets ∷ h) v done is = refl
  nothing_due (Accepted k ∷ h) v done is = refl
  nothing_due (Refused k a ∷ h) v done is = cc
  nothing_due (GivenUp k was ∷ h) v done is = refl
  nothing_due (Answered octets ∷ h) v done is = refl
  nothing_due (Ended ∷ h) v done is = refl

  piece_before : (octets : List ℕ) (o : Passed) (v : AsduValue) (done : List (List ℕ))
      → with_piece octets o ≡ Some (v, done)
      → (less : List (List ℕ)) × (o ≡ Some (v, less)) × (done ≡ less ++ octets ∷ [])
  piece_before octets None v done e = cc
  piece_before octets (Some passed) v done e =
      let both = unwrapped (passed.0, passed.1 ++ octets ∷ []) (v, done) e in (
        passed.1,
        ap (λ (w : AsduValue). Some (w, passed.1))
            (ap (λ (q : AsduValue × List (List ℕ)). q.0) both),
        sym (ap (λ (q : AsduValue × List (List ℕ)). q.1) both),
      )

  longer : (done less : List (List ℕ)) (octets : List ℕ) → done ≡ less ++ octets ∷ []
      → suc (length less) ≡ length done
  longer done less octets e =
      let is : length done ≡ length less + (0 + 1) = ap length e ∙ added less [] octets in
      omega (arith, is)

  -- what was handed over so far is no more
  own : (h : History) → GivesWhatIsDue sizes h → (v : AsduValue) (done : List (List ℕ))
      → passed_on h ≡ Some (v, done) → IsAtMost sizes v (length done)
  own (Mirrored now w ∷ h) g v done is =
      let both = unwrapped (w, []) (v, done) is in
      at_most v 0 (length done)
      (ap (λ (q : AsduValue × List (List ℕ)). length q.1) both) tt
  own (Offered octets true ∷ h) g v done is =
      let b = piece_before octets (passed_on h) v done is in
      at_most v (suc (length b.0)) (length done) (longer done b.0 octets b.2)
      (owed_piece (due_in h) None h octets v b.0 (nothing_due h v b.0 b.1) b.1 g.0)
  own (Offered octets false ∷ h) g v done is = cc
  own [] g v done is = cc
  own (Judged now wall asdu a ∷ h) g v done is = cc
  own (Sent k octets ∷ h) g v done is = cc
  own (Accepted k ∷ h) g v done is = cc
  own (Refused k a ∷ h) g v done is = cc
  own (GivenUp k was ∷ h) g v done is = cc
  own (Answered octets ∷ h) g v done is = cc
  own (Ended ∷ h) g v done is = cc

  abbrev Bounds : ℕ → History → Type 0
  Bounds given h = (v : AsduValue) (done : List (List ℕ)) → passed_on h ≡ Some (v, done)
      → IsAtMost sizes v (given + length done)

  -- nothing is handed over behind these, or what is owed is
  abbrev IsTop : ℕ → History → Type 0
  IsTop given h = (given ≡ 0) ⊎ ((octets : List ℕ) × IsOwed sizes (due_in h) h octets)

  anew : (h : History) → GivesWhatIsDue sizes h → Bounds 0 h
  anew h g v done is = at_most v (length done) (0 + length done) (omega arith) (own h g v done is)

  kept_bounds : (given : ℕ) (octets : List ℕ) (h : History)
      → Bounds given (Offered octets true ∷ h) → Bounds (suc given) h
  kept_bounds given octets h b v done is =
      let joined = added done [] octets in
      at_most v (given + length (done ++ octets ∷ [])) (suc given + length done)
      (omega (arith, joined))
      (b v (done ++ octets ∷ []) (ap (with_piece octets) is))

  last_bounds : (given : ℕ) (octets : List ℕ) (h : History) → IsTop given (Offered octets false ∷ h)
      → IsOwed sizes (due_in h) h octets → Bounds (suc given) h
  last_bounds given octets h (inl none) owed v done is =
      at_most v (suc (length done)) (suc given + length done) (omega (arith, none))
      (owed_piece (due_in h) None h octets v done (nothing_due h v done is) is owed)
  last_bounds given octets h (inr more) owed v done is = absurd more.1

  no_more : (given : ℕ) (h : History) → GivesWhatIsDue sizes h → Bounds given h → IsTop given h
      → GivesNoMore sizes given h
  no_more given [] g b t = tt
  no_more given (Mirrored now v ∷ h) g b t = (
    at_most v (given + 0) given (omega arith) (b v [] refl),
    no_more 0 h g.1 (anew h g.1) (inl refl),
  )
  no_more given (Offered octets true ∷ h) g b t =
      no_more (suc given) h g.1 (kept_bounds given octets h b) (inr (octets, g.0))
  no_more given (Offered octets false ∷ h) g b t =
      no_more (suc given) h g.1 (last_bounds given octets h t g.0) (inr (octets, g.0))
  no_more given (Judged now wall asdu a ∷ h) g b t = no_more 0 h g.1 (anew h g.1) (inl refl)
  no_more given (Sent k octets ∷ h) g b t = no_more 0 h g.1 (anew h g.1) (inl refl)
  no_more given (Accepted k ∷ h) g b t = no_more 0 h g.1 (anew h g.1) (inl refl)
  no_more given (Refused k a ∷ h) g b t = no_more 0 h g.1 (anew h g.1) (inl refl)
  no_more given (GivenUp k was ∷ h) g b t = no_more 0 h g.1 (anew h g.1) (inl refl)
  no_more given (Answered octets ∷ h) g b t = no_more 0 h g.1 (anew h g.1) (inl refl)
  no_more given (Ended ∷ h) g b t = no_more 0 h g.1 (anew h g.1) (inl refl)

  pub given_no_more : (h : History) → GivesWhatIsDue sizes h → GivesNoMore sizes 0 h
  given_no_more h g = no_more 0 h g (anew h g) (inl refl)
