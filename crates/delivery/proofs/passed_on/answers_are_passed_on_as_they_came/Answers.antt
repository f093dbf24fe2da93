use Rattle.std.proofs.Common.{◌≤◌, List, length, ap, sym, ◌∙◌}
use Rattle.std.specs.Prelude.{ℕ, slice_get}
use Rattle.asdu.specs.InformationObjects.{InformationObject}
use Rattle.asdu.specs.Layout.{HaveOneHead}
use Rattle.asdu.specs.Sizes.{tcp}
use Rattle.asdu.specs.Translation.{IsPiece}
use Rattle.asdu.specs.Writing.{with_infos}
use Rattle.delivery.proofs.Answers.{one_piece}
use Rattle.delivery.proofs.FullPieces.{each_one}
use Rattle.delivery.proofs.passed_on.answers_are_passed_on_as_they_came.Goals as goal

pub returns-clause-one : goal.returns-clause-one
returns-clause-one c = λ sizes u report pieces h n.
    let laid = c.octets_stand_where_the_standard_has_them.ensures in
    one_piece c.objects_are_those_of_the_asdu.ensures.objects sizes u report pieces h
    (sym (laid.number sizes u report h.value) ∙ n)

pub returns-clause-value : goal.returns-clause-value
returns-clause-value c = λ sizes u v report pieces h is.
    c.one_asdu_one_spelling.ensures.one_asdu sizes u v report h.value is

pub returns-clause-heads : goal.returns-clause-heads
returns-clause-heads c = λ sizes u report pieces h.
    let laid = c.octets_stand_where_the_standard_has_them.ensures in
    let head : (piece : List ℕ) → IsPiece u piece
    → HaveOneHead report piece × (length piece ≤ 249) = λ piece k. (
      record {
        kind = laid.kind tcp (with_infos u k.infos) piece k.spells
            ∙ sym (laid.kind sizes u report h.value);
        sequence = laid.sequence tcp (with_infos u k.infos) piece k.spells
            ∙ sym (laid.sequence sizes u report h.value);
        cause = laid.cause tcp (with_infos u k.infos) piece k.spells
            ∙ sym (laid.cause sizes u report h.value);
      },
      k.fits,
    ) in
    each_one head pieces h.each

pub returns-clause-number : goal.returns-clause-number
returns-clause-number c = λ sizes u v report pieces h is.
    ap length h.joined ∙ c.objects_have_all_their_parts.ensures.number sizes v report is

pub returns-clause-parts : goal.returns-clause-parts
returns-clause-parts c = λ sizes u v report pieces h is k i at.
    let found = c.objects_have_all_their_parts.ensures.parts sizes v report is k i at in
    (found.0, ap (λ (os : List InformationObject). slice_get os k) h.joined ∙ found.1, found.2)
