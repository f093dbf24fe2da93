use Rattle.std.proofs.Common.{◌≡◌, ◌∷◌, ◌++◌, ◌∙◌, ap, arith, subst, refl, sym, List, ℕ, [], take}
use Rattle.std.proofs.Common.{length}
use Rattle.ft12.specs.declared.frame.Front.TheVariants.{Never}
use Rattle.ft12.specs.Reading.{IsFront, IsProperBeginning}
use Rattle.ft12.specs.Assembly.{IsEndDue}
use Rattle.ft12.specs.DueOctet.{so_far}
use Rattle.ft12.proofs.Stream.{received_never}
use Rattle.ft12.proofs.Stages.{stage_more, end_due, counted_refusal}
use Rattle.ft12.proofs.assembling.Assembler.feed_stages.Goals as goal

-- the end octet is due: the octets before it are kept
pub returns-then-is_end-clause-listening : goal.returns-then-is_end-clause-listening
returns-then-is_end-clause-listening c =
    let size = c.loop-i.self-inside.size in
    let now : List ℕ = so_far size c.loop-i.stage c.loop-i.self-inside.kept.items in
    rw (← c.self.view_is, c.in-Some.is) (
      subst (λ s. IsProperBeginning s now) c.loop-i.invariant.size (stage_more size c.loop-i.stage
          c.loop-i.self-inside.kept.items c.loop-i.invariant.is_stage),
      c.loop-i.invariant.joined,
      c.loop-i.invariant.looked,
      λ lt. subst (λ s. IsEndDue s now) c.loop-i.invariant.size (end_due size c.loop-i.stage
          c.loop-i.self-inside.kept.items c.loop-i.invariant.is_stage
          (sym (sym c.if-is_end.true ∙ c.is_end.ensures))),
    )

-- the octet looked at last begins no frame
pub returns-in-Never-clause-listening : goal.returns-in-Never-clause-listening
returns-in-Never-clause-listening c =
    let size = c.loop-i.self-inside.size in
    let now : List ℕ = so_far size c.loop-i.stage c.loop-i.self-inside.kept.items in
    let before : List ℕ = so_far c.self.inside.size c.in-Some.stage c.self.inside.kept.items in
    let arrived = received_never size before c.args.piece.now now _ c.loop-i.i c.in-Never.field-0
    c.in-Never.field-1
    c.loop-i.invariant.joined c.loop-i-test.true
    (ap (λ (o : ℕ). now ++ o ∷ []) c.look-octet.ensures.value) c.in-Never.ensures in
    let counted = counted_refusal size before c.args.piece.now now c.loop-i.i c.look-octet.result
    c.in-Never.field-0
    c.in-Never.field-1 _ _ _ c.loop-i.invariant.joined c.loop-i-test.true
    (stage_more size c.loop-i.stage c.loop-i.self-inside.kept.items c.loop-i.invariant.is_stage)
    c.in-Never.ensures c.loop-i.invariant.looked c.look-octet.ensures.counted in
    rw (← c.self.view_is, c.in-Some.is) (
      c.in-Never.field-0,
      c.in-Never.field-1,
      subst (λ s. IsFront s (before ++ c.args.piece.now)
          (Never c.in-Never.field-0 c.in-Never.field-1))
          c.loop-i.invariant.size arrived,
      refl,
      counted,
    )

-- all octets of the piece are kept
pub returns-clause-listening : goal.returns-clause-listening
returns-clause-listening c =
    let size = c.loop-i.self-inside.size in
    let now : List ℕ = so_far size c.loop-i.stage c.loop-i.self-inside.kept.items in
    let before : List ℕ = so_far c.self.inside.size c.in-Some.stage c.self.inside.kept.items in
    let all : c.loop-i.i ≡ length c.args.piece.now = omega arith in
    rw (← c.self.view_is, c.in-Some.is) (
      subst (λ s. IsProperBeginning s now) c.loop-i.invariant.size (stage_more size c.loop-i.stage
          c.loop-i.self-inside.kept.items c.loop-i.invariant.is_stage),
      c.loop-i.invariant.joined ∙ ap (λ (n : ℕ). before ++ take n c.args.piece.now) all,
      omega arith,
      λ lt. absurd (omega arith),
    )
