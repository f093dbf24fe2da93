-- An assembler is taken up again with the octets that it had.
use Rattle.std.proofs.Common.{◌≡◌, ℕ, ◌+◌, List, [], ◌++◌, length, Option, Some, None, refl, sym}
use Rattle.std.proofs.Common.{ap, subst, IfSome}
use Rattle.ft12.specs.declared.frame.LinkSize.{LinkSize}
use Rattle.ft12.specs.declared.frame.Front.TheVariants as front
use Rattle.ft12.specs.declared.assembling.Received.{Received}
use Rattle.ft12.specs.declared.assembling.Received.TheVariants as arrived
use Rattle.ft12.specs.Assembly.{Receives}
use Rattle.ft12.specs.Reading.{IsProperBeginning}
use Rattle.std.specs.Option.{option_map, ForSome}
use Rattle.ft12.specs.declared.stage.DueOctet.{DueOctet}
use Rattle.ft12.specs.DueOctet.{IsStage, so_far}
use Rattle.ft12.proofs.Stages.{stage_more}
use Rattle.ft12.specs.Reading.{IsFront}
use Rattle.std.proofs.Common.{◌∷◌}
use Rattle.std.specs.List.{All}
use Rattle.std.proofs.Math.Seq.{take-append_seam}
use Rattle.std.proofs.lemmas.List.Elements.{All-take}
use Rattle.ft12.specs.Spelling.{IsOctet}
use Rattle.ft12.proofs.Frames.{spelling_fits}
use Rattle.ft12.proofs.Exact.{one_front}

-- after nothing, the beginning of a frame isn't received as anything else
pub is_more : (size : LinkSize) (octets : List ℕ) (n : ℕ) (h : Received)
    (so_far after : Option (List ℕ))
    → IsProperBeginning size octets → so_far ≡ Some []
    → IfSome so_far (λ before. Receives size before octets n h after) → h ≡ arrived.More
is_more size octets n h None after is e receives = let bad : ⊥ = cc in absurd bad
is_more size octets n h (Some before) after is e receives = by h receives
  where
    nil : before ≡ []
    nil = cc

    same : before ++ octets ≡ octets
    same = ap (λ (x : List ℕ). x ++ octets) nil

    by : (h : Received) → Receives size before octets n h after → h ≡ arrived.More
    by arrived.More receives = refl
    by (arrived.Frame f) receives =
        let P : List ℕ → Type 0 = λ x. IsFront size x (front.Whole f (length before + n)) in
        let bad = one_front size octets front.More (front.Whole f (length before + n)) is
        (subst P same receives.0) in
        let no : ⊥ = cc in absurd no
    by (arrived.Never place why) receives =
        let P : List ℕ → Type 0 = λ x. IsFront size x (front.Never place why) in
        let bad = one_front size octets front.More (front.Never place why) is
        (subst P same receives.0) in
        let no : ⊥ = cc in absurd no
    by arrived.Deaf receives = absurd receives

pub resumable : (size : LinkSize) (stage : Option DueOctet) (kept : List ℕ)
    → ForSome stage (λ s. IsStage size s kept)
    → IfSome (option_map (λ s. so_far size s kept) stage) (IsProperBeginning size)
resumable size None kept h = tt
resumable size (Some s) kept h = stage_more size s kept (h s refl)

proper_octets : (size : LinkSize) (x : List ℕ) → IsProperBeginning size x → All IsOctet x
proper_octets size x p =
    let A : List ℕ → Type 0 = λ y. All IsOctet y in
    let all = subst A (sym p.line.spelled) (spelling_fits size p.frame p.line.fits) in
    subst A (take-append_seam x (p.next ∷ p.rest))
    (All-take IsOctet (length x) (x ++ p.next ∷ p.rest) all)

pub resumable_octets : (size : LinkSize) (stage : Option DueOctet) (kept : List ℕ)
    → ForSome stage (λ s. IsStage size s kept)
    → IfSome (option_map (λ s. so_far size s kept) stage) (λ octets. All IsOctet octets)
resumable_octets size None kept h = tt
resumable_octets size (Some s) kept h =
    proper_octets size (so_far size s kept) (stage_more size s kept (h s refl))
