-- What the exit status of a pipe says of its lines.
use Rattle.std.proofs.Common.{◌≡◌, ◌⊎◌, ℕ, Bool, List, [], ◌∷◌, Option, Some, None, inl, inr, refl}
use Rattle.std.proofs.Common.{arith, sym, subst, ◌∙◌}
use Rattle.std.specs.Prelude.{Contains, Result, Ok, Err, ◌++◌}
use Rattle.std.proofs.lemmas.List.Elements.{Contains-append_left, Contains-append_right}
use Rattle.std.proofs.lemmas.List.Elements.{Contains-push}
use Rattle.std.specs.List.{AllByRecursion}
use Rattle.words.specs.declared.facts.condition.Condition.{Condition}
use Rattle.words.specs.declared.facts.condition.Condition.TheVariants.{Good, Faulty}
use Rattle.traces.specs.Trace.{lines_of}
use Rattle.words.specs.Described.{both}
use Rattle.words.specs.Pipes.{octets_in}
use Rattle.telegate.specs.Piping.{AreFrames, AreLinesShown, HasPiped, IsFaultyLine, IsGoodLine}
use Rattle.telegate.specs.Piping.{IsLineShown, IsPiped, Pipes, status_of_pipe}
use Rattle.telegate.specs.Faults.{status_of}
use Rattle.telegate.specs.declared.fault.Fault.{Fault}
use Rattle.telegate.specs.declared.fault.Fault.TheVariants as fault
use Rattle.telegate.specs.declared.piping.Piped.{Piped}

module _ (piped : Piped) (words : Bool) where
  good_line : (line : List ℕ) (octets : Option (List ℕ)) (text : List ℕ) → octets_in line ≡ octets
      → IsLineShown piped words octets text Good → IsGoodLine piped words line
  good_line line None text is h = let wrong : Good ≡ Faulty = h.1 in absurd (cc)
  good_line line (Some xs) text is h = (xs, text, is, h)

  both_parts : (one others : Condition) → Good ≡ both one others → (one ≡ Good) × (others ≡ Good)
  both_parts Good others is = (refl, sym is)
  both_parts Faulty others is = let wrong : Good ≡ Faulty = is in absurd (cc)

  good_lines : (lines : List (List ℕ)) (text : List ℕ) → AreLinesShown piped words lines text Good
      → AllByRecursion (IsGoodLine piped words) lines
  good_lines [] text h = tt
  good_lines (line ∷ lines) text h =
      let parts = both_parts h.1 h.3 h.7 in (
        good_line line (octets_in line) h.0 refl
            (subst (λ (c : Condition). IsLineShown piped words (octets_in line) h.0 c) parts.0 h.4),
        good_lines lines h.2
            (subst (λ (c : Condition). AreLinesShown piped words lines h.2 c) parts.1 h.5),
      )

  faulty_line : (line : List ℕ) (octets : Option (List ℕ)) (text : List ℕ)
      → octets_in line ≡ octets → IsLineShown piped words octets text Faulty
      → IsFaultyLine piped words line
  faulty_line line None text is h = inl is
  faulty_line line (Some xs) text is h = inr (xs, text, is, h)

  -- a line of these is faulty
  HasFaulty : List (List ℕ) → Type 0
  HasFaulty lines =
      (line : List ℕ) × Contains lines line × IsFaultyLine piped words line

  faulty_by : (line : List ℕ) (lines : List (List ℕ)) (first texts : List ℕ)
      (one others : Condition) → Faulty ≡ both one others
      → IsLineShown piped words (octets_in line) first one
      → AreLinesShown piped words lines texts others
      → (AreLinesShown piped words lines texts Faulty → HasFaulty lines)
      → HasFaulty (line ∷ lines)
  unfolding HasFaulty
  faulty_by line lines first texts Good others is h k later =
      let it = later (subst (λ (c : Condition). AreLinesShown piped words lines texts c) (sym is) k)
      in (it.0, Contains-append_right (line ∷ []) lines it.0 it.1, it.2)
  faulty_by line lines first texts Faulty others is h k later = (
    line,
    Contains-append_left (line ∷ []) lines line (Contains-push [] line),
    faulty_line line (octets_in line) first refl h,
  )

  faulty_lines : (lines : List (List ℕ)) (text : List ℕ)
      → AreLinesShown piped words lines text Faulty → HasFaulty lines
  faulty_lines [] text h = let wrong : Faulty ≡ Good = h.1 in absurd (cc)
  faulty_lines (line ∷ lines) text h =
      faulty_by line lines h.0 h.2 h.1 h.3 h.7 h.4 h.5 (faulty_lines lines h.2)

  module _ (text : List ℕ) (old new : Option (List ℕ)) where
    good_piped : (result : Result Condition Fault)
        → Pipes piped words (λ octets. octets ≡ text) old new result → 0 ≡ status_of_pipe result
        → AllByRecursion (IsGoodLine piped words) (lines_of text)
    good_piped (Ok Good) h is = subst (λ (t : List ℕ). AllByRecursion (IsGoodLine piped words)
        (lines_of t)) h.is (good_lines (lines_of h.octets) h.text h.shown)
    good_piped (Ok Faulty) h is = absurd (omega (arith, is))
    good_piped (Err fault.Device) h is = absurd (omega (arith, is))
    good_piped (Err fault.Unread) h is = absurd (omega (arith, is))
    good_piped (Err fault.NoMemory) h is = absurd (omega (arith, is))
    good_piped (Err other) h is = absurd h

    pub ends_good : HasPiped piped words (λ octets. octets ≡ text) old new 0
        → AllByRecursion (IsGoodLine piped words) (lines_of text)
    ends_good h = good_piped h.result h.pipes h.status

    faulty_piped : (result : Result Condition Fault)
        → Pipes piped words (λ octets. octets ≡ text) old new result → 1 ≡ status_of_pipe result
        → (line : List ℕ) × Contains (lines_of text) line × IsFaultyLine piped words line
    unfolding HasFaulty
    faulty_piped (Ok Good) h is = absurd (omega (arith, is))
    faulty_piped (Ok Faulty) h is = subst (λ (t : List ℕ). HasFaulty (lines_of t)) h.is
        (faulty_lines (lines_of h.octets) h.text h.shown)
    faulty_piped (Err fault.Device) h is = absurd (omega (arith, is))
    faulty_piped (Err fault.Unread) h is = absurd (omega (arith, is))
    faulty_piped (Err fault.NoMemory) h is = absurd (omega (arith, is))
    faulty_piped (Err other) h is = absurd h

    pub ends_faulty : HasPiped piped words (λ octets. octets ≡ text) old new 1
        → (line : List ℕ) × Contains (lines_of text) line × IsFaultyLine piped words line
    ends_faulty h = faulty_piped h.result h.pipes h.status
