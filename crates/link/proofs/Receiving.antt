-- A frame that stands in the first octets is received as the machine receives the octets.
use Rattle.std.proofs.Common.{◌≡◌, ℕ, ◌<◌, ◌==◌, ◌||◌, Bool, true, false, not, List, [], ◌∷◌, ◌++◌}
use Rattle.std.proofs.Common.{length, take, drop, Option, Some, None, option_map, refl, sym, ap}
use Rattle.std.proofs.Common.{◌∙◌, append_assoc, ne_eqb, arith}
use Rattle.std.proofs.lemmas.List.{take-append-drop}
use Rattle.ft12.specs.declared.frame.Frame.{Frame}
use Rattle.ft12.specs.declared.frame.Front.{Front}
use Rattle.link.specs.Answers.{Answer}
use Rattle.link.specs.Exchanges.{whole_of}
use Rattle.link.specs.Holding.{is_fresh, is_at_front_of, is_at_front, noted, gathered_in, gathered}
use Rattle.link.specs.Primary.{Outstanding, Primary, answer_at, said_by, took, open_octets}
use Rattle.link.specs.Primary.{with_octets, received_after, received_from, received, awaits}
use Rattle.link.specs.Primary.{answered_with, answer_outcome, received_outcome, outcome_at}
use Rattle.link.specs.Primary.{outcome_after, outcome_from}

-- a frame stands at the front of the first octets
pub received_at_front : (front : List ℕ → Front) (p : Primary) (octets : List ℕ) (frame : Frame) →
    is_at_front p ≡ true → whole_of (front octets) ≡ Some frame →
    (answered_with (noted octets p) (noted octets p).outstanding frame ≡ received front p octets)
    × (answer_outcome (noted octets p) (noted octets p).outstanding frame
    ≡ received_outcome front p octets)
received_at_front front p octets frame free whole = from p.outstanding free
  where
    at : Option Outstanding → Primary
    at oo = record p { outstanding = oo }

    said : (o : Outstanding) (m : Option Answer) → said_by (at (Some o)) o frame m
        ≡ said_by p o frame m
    said o None = refl
    said o (Some answer) = refl

    after : (o : Outstanding) (h : Option (List ℕ)) → is_fresh h ≡ true →
        (answered_with (at (Some (with_octets octets o))) (Some (with_octets octets o)) frame
        ≡ received_after front p (with_octets octets o) h octets)
        × (answer_outcome (at (Some (with_octets octets o))) (Some (with_octets octets o)) frame
        ≡ outcome_after front p o h octets)
    after o None fresh = let bad : ⊥ = cc in absurd bad
    after o (Some []) fresh = (
      said (with_octets octets o) (answer_at p (with_octets octets o) frame)
          ∙ sym
          (ap (λ (w : Option Frame). took p (with_octets octets o)
          (open_octets octets (front octets))
          w) whole),
      sym (ap (λ (w : Option Frame). outcome_at p o w) whole),
    )
    after o (Some (x ∷ xs)) fresh = let bad : ⊥ = cc in absurd bad

    from : (oo : Option Outstanding) → is_at_front_of oo ≡ true →
        (answered_with (at (option_map (with_octets octets) oo))
        (option_map (with_octets octets) oo)
        frame
        ≡ received_from front p oo octets)
        × (answer_outcome (at (option_map (with_octets octets) oo))
        (option_map (with_octets octets) oo) frame
        ≡ outcome_from front p oo octets)
    from None free = let bad : ⊥ = cc in absurd bad
    from (Some o) free = after o o.arrived free

-- octets that come after others were noted already
noted_twice : (a : Bool) (n : ℕ) (octets : List ℕ) → n < length octets
    → (a || not (length octets == 0)) || not (length (drop n octets) == 0)
    ≡ a || not (length octets == 0)
noted_twice true n octets lt = refl
noted_twice false n octets lt =
    let some : length octets ≡ 0 → ⊥ = λ e. omega arith in
    rw (ne_eqb (length octets) 0 some) refl

-- When the first octets are gathered, the others give what all give.
pub rest_of : (front : List ℕ → Front) (p : Primary) (n : ℕ) (octets : List ℕ) → n < length octets →
    (received front (gathered n octets p) (drop n octets) ≡ received front p octets)
    × (received_outcome front (gathered n octets p) (drop n octets)
    ≡ received_outcome front p octets)
rest_of front p n octets lt = from p.outstanding
  where
    at : Option Outstanding → Primary
    at oo = record p { outstanding = oo }

    made : Outstanding → Option (List ℕ) → Bool → Outstanding
    made o h b = record { request = o.request; since = o.since; arrived = h; has_octets = b }

    some : Outstanding → Bool
    some o = o.has_octets || not (length octets == 0)

    both : (before : List ℕ) → (before ++ take n octets) ++ drop n octets ≡ before ++ octets
    both before = append_assoc before (take n octets) (drop n octets)
        ∙ ap (λ (l : List ℕ). before ++ l) (take-append-drop n octets)

    said : (a b : Option Outstanding) (o : Outstanding) (h i : Option (List ℕ)) (has : Bool)
        (frame : Frame)
        (m : Option Answer) → said_by (at a) (made o h has) frame m
        ≡ said_by (at b) (made o i has) frame m
    said a b o h i has frame None = refl
    said a b o h i has frame (Some answer) = refl

    taken : (a b : Option Outstanding) (o : Outstanding) (h i : Option (List ℕ)) (has : Bool)
        (arrived : Option (List ℕ))
        (w : Option Frame) → took (at a) (made o h has) arrived w
        ≡ took (at b) (made o i has) arrived w
    taken a b o h i has arrived None = refl
    taken a b o h i has arrived (Some frame) = said a b o h i has frame (answer_at p o frame)

    outcome_for : (a b : Option Outstanding) (o : Outstanding) (w : Option Frame) →
        outcome_at (at a) (gathered_in n octets o) w ≡ outcome_at (at b) o w
    outcome_for a b o None = refl
    outcome_for a b o (Some frame) = refl

    after : (o : Outstanding) (h i : Option (List ℕ)) →
        (received_after front (at (Some (gathered_in n octets o)))
        (made o h (some o || not (length (drop n octets) == 0)))
        (option_map (λ before. before ++ take n octets) i) (drop n octets)
        ≡ received_after front (at (Some o)) (with_octets octets o) i octets)
        × (outcome_after front (at (Some (gathered_in n octets o))) (gathered_in n octets o)
        (option_map (λ before. before ++ take n octets) i) (drop n octets)
        ≡ outcome_after front (at (Some o)) o i octets)
    after o h None = (
      ap (λ (b : Bool). awaits (at (Some (gathered_in n octets o))) (made o h b) None)
          (noted_twice o.has_octets n octets lt),
      refl,
    )
    after o h (Some before) = (
      ap (λ (l : List ℕ). took (at (Some (gathered_in n octets o)))
          (made o h (some o || not (length (drop n octets) == 0))) (open_octets l (front l))
          (whole_of (front l)))
          (both before)
          ∙ ap (λ (b : Bool). took (at (Some (gathered_in n octets o))) (made o h b)
          (open_octets (before ++ octets) (front (before ++ octets)))
          (whole_of (front (before ++ octets))))
          (noted_twice o.has_octets n octets lt)
          ∙ taken (Some (gathered_in n octets o)) (Some o) o h o.arrived (some o)
          (open_octets (before ++ octets) (front (before ++ octets)))
          (whole_of (front (before ++ octets))),
      ap (λ (l : List ℕ). outcome_at (at (Some (gathered_in n octets o))) (gathered_in n octets o)
          (whole_of (front l)))
          (both before)
          ∙ outcome_for (Some (gathered_in n octets o)) (Some o) o
          (whole_of (front (before ++ octets))),
    )

    from : (oo : Option Outstanding) →
        (received_from front (at (option_map (gathered_in n octets) oo))
        (option_map (gathered_in n octets) oo)
        (drop n octets) ≡ received_from front (at oo) oo octets)
        × (outcome_from front (at (option_map (gathered_in n octets) oo))
        (option_map (gathered_in n octets) oo)
        (drop n octets) ≡ outcome_from front (at oo) oo octets)
    from None = (refl, refl)
    from (Some o) = after o (option_map (λ before. before ++ take n octets) o.arrived) o.arrived

-- so does a machine that is the one with them gathered
pub rest_received : (front : List ℕ → Front) (p : Primary) (n : ℕ) (octets : List ℕ) (q : Primary) →
    n < length octets → q ≡ gathered n octets p →
    (received front q (drop n octets) ≡ received front p octets)
    × (received_outcome front q (drop n octets) ≡ received_outcome front p octets)
rest_received front p n octets q lt same = rw same (rest_of front p n octets lt)
