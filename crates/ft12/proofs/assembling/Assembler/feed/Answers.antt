use Rattle.std.proofs.Common.{◌≡◌, ◌∷◌, ◌++◌, ◌+◌, ◌∙◌, Some, sym, ap, subst, refl, List, ℕ, []}
use Rattle.std.proofs.Common.{length, take}
use Rattle.std.proofs.lemmas.List.{take_all}
use Rattle.ft12.specs.declared.frame.Front.TheVariants.{Whole, More, Never}
use Rattle.ft12.specs.Reading.{IsFront, IsProperBeginning}
use Rattle.ft12.specs.DueOctet.{so_far}
use Rattle.ft12.proofs.Stream.{received_frame, received_never}
use Rattle.ft12.proofs.Stages.{stage_more, counted_refusal}
use Rattle.ft12.proofs.assembling.Assembler.feed.Goals as goal

-- the frame ends at the octet looked at last
pub returns-in-Whole-clause-listening : goal.returns-in-Whole-clause-listening
returns-in-Whole-clause-listening c =
    let size = c.loop-i.self-inside.size in
    let now : List ℕ = so_far size c.loop-i.stage c.loop-i.self-inside.kept.items in
    let before : List ℕ = so_far c.self.inside.size c.in-Some.stage c.self.inside.kept.items in
    let whole : IsFront size (now ++ c.look-octet.result ∷ [])
    (Whole c.with_data.result (length (now ++ c.look-octet.result ∷ []))) =
    subst (λ f. IsFront size (now ++ c.look-octet.result ∷ [])
    (Whole f (length (now ++ c.look-octet.result ∷ []))))
    (sym c.with_data.ensures.frame) c.in-Whole.ensures.0 in
    let arrived = received_frame size before c.args.piece.now now _ c.loop-i.i c.with_data.result _
    c.loop-i.invariant.joined c.loop-i-test.true
    (stage_more size c.loop-i.stage c.loop-i.self-inside.kept.items c.loop-i.invariant.is_stage)
    (ap (λ (o : ℕ). now ++ o ∷ []) c.look-octet.ensures.value) whole in
    rw (← c.self.view_is, c.in-Some.is) (
      subst (λ s. IsFront s (before ++ c.args.piece.now)
          (Whole c.with_data.result (length before + (c.loop-i.i + 1)))) c.loop-i.invariant.size
          arrived,
      refl,
    )

-- the octet looked at last begins no frame
pub returns-in-Never-clause-listening : goal.returns-in-Never-clause-listening
returns-in-Never-clause-listening c =
    let size = c.loop-i.self-inside.size in
    let now : List ℕ = so_far size c.loop-i.stage c.loop-i.self-inside.kept.items in
    let before : List ℕ = so_far c.self.inside.size c.in-Some.stage c.self.inside.kept.items in
    let arrived = received_never size before c.args.piece.now now _ c.loop-i.i c.in-Never.place
    c.in-Never.why
    c.loop-i.invariant.joined c.loop-i-test.true
    (ap (λ (o : ℕ). now ++ o ∷ []) c.look-octet.ensures.value) c.in-Never.ensures in
    rw (← c.self.view_is, c.in-Some.is) (
      subst (λ s. IsFront s (before ++ c.args.piece.now) (Never c.in-Never.place c.in-Never.why))
          c.loop-i.invariant.size arrived,
      refl,
      refl,
    )

pub returns-in-Never-clause-counted : goal.returns-in-Never-clause-counted
returns-in-Never-clause-counted c =
    let size = c.loop-i.self-inside.size in
    let now : List ℕ = so_far size c.loop-i.stage c.loop-i.self-inside.kept.items in
    let before : List ℕ = so_far c.self.inside.size c.in-Some.stage c.self.inside.kept.items in
    rw (← c.self.view_is, c.in-Some.is)
    (counted_refusal size before c.args.piece.now now c.loop-i.i c.look-octet.result
    c.in-Never.place c.in-Never.why _
    _ _ c.loop-i.invariant.joined c.loop-i-test.true
    (stage_more size c.loop-i.stage c.loop-i.self-inside.kept.items c.loop-i.invariant.is_stage)
    c.in-Never.ensures c.loop-i.invariant.looked c.look-octet.ensures.counted)

-- all octets of the piece are kept
pub returns-clause-listening : goal.returns-clause-listening
returns-clause-listening c =
    let size = c.loop-i.self-inside.size in
    let before : List ℕ = so_far c.self.inside.size c.in-Some.stage c.self.inside.kept.items in
    let all : take c.loop-i.i c.args.piece.now ≡ c.args.piece.now =
    take_all c.loop-i.i c.args.piece.now c.loop-i-test.false in
    let now : so_far size c.loop-i.stage c.loop-i.self-inside.kept.items
    ≡ before ++ c.args.piece.now =
    c.loop-i.invariant.joined ∙ ap (λ (l : List ℕ). before ++ l) all in
    let more : IsProperBeginning size (before ++ c.args.piece.now) =
    subst (IsProperBeginning size) now
    (stage_more size c.loop-i.stage c.loop-i.self-inside.kept.items
    c.loop-i.invariant.is_stage) in
    rw (← c.self.view_is, c.in-Some.is) (
      subst (λ s. IsFront s (before ++ c.args.piece.now) More)
          c.loop-i.invariant.size more,
      refl,
      ap Some now,
    )
