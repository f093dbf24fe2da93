use Rattle.std.specs.Prelude.{slice_index}
use Rattle.std.proofs.Common.{◌≡◌, ℕ, ◌%◌, ◌≤◌, List, [], ◌∷◌, length, ap, sym, subst, ◌∙◌}
use Rattle.std.proofs.Common.{Option, arith}
use Rattle.std.specs.List.{flat_map, AllByRecursion}
use Rattle.std.proofs.lemmas.List.{append-nil}
use Rattle.asdu.specs.InformationObjects.{InformationObject, objects_of}
use Rattle.asdu.specs.Sizes.{tcp}
use Rattle.asdu.specs.Translation.{IsPiece}
use Rattle.asdu.specs.Writing.{with_infos}
use Rattle.gateway.specs.Tags.{AreTagged}
use Rattle.gateway.specs.Works.{IsPassedOn}
use Rattle.delivery.specs.Answers.{answer_form, form_with}
use Rattle.delivery.proofs.GivenOnce.{given, one_form, given_once, untagged}
use Rattle.delivery.proofs.passed_on.each_answer_is_given_once.Goals as goal

pub returns-clause-one : goal.returns-clause-one
returns-clause-one c = λ p at report before after g n.
    let alone : g.plain ≡ answer_form p.sizes report ∷ [] =
    c.answers_are_passed_on_as_they_came.ensures.one p.sizes g.value report g.plain g.passed n in
    let tags = c.answers_bear_the_tag_of_their_command.ensures in
    given_once p at report before after g
    (one_form tags.tagged tags.other_types g.tag (answer_form p.sizes report) g.pieces n
    (subst (λ (l : List (List ℕ)). AreTagged g.tag l g.pieces) alone g.tagged)
    ∙ ap (λ (t : Option (List ℕ)). form_with t (answer_form p.sizes report) ∷ []) g.newest)

pub returns-clause-more : goal.returns-clause-more
returns-clause-more c = λ p at report before after g n.
    let laid = c.octets_stand_where_the_standard_has_them.ensures in
    let parts = c.objects_have_all_their_parts.ensures in
    let many : (x : List ℕ) → g.plain ≡ x ∷ [] → 2 ≤ slice_index x 1 % 128 = λ x e.
    let piece : IsPiece g.value x =
    (subst (λ (l : List (List ℕ)). AllByRecursion (λ piece. IsPiece g.value piece) l) e
    g.passed.each).0 in
    let all : objects_of tcp x ≡ objects_of p.sizes report =
    sym (append-nil (objects_of tcp x))
    ∙ sym (ap (λ (l : List (List ℕ)). flat_map (λ piece. objects_of tcp piece) l) e)
    ∙ g.passed.joined in
    omega (
      arith,
      n,
      laid.number tcp (with_infos g.value piece.infos) x piece.spells,
      parts.number tcp (with_infos g.value piece.infos) x piece.spells,
      laid.number p.sizes g.value report g.passed.value,
      parts.number p.sizes g.value report g.passed.value,
      ap (λ (os : List InformationObject). length os) all,
    ) in
    let plain : g.pieces ≡ g.plain = untagged
    c.answers_bear_the_tag_of_their_command.ensures.more_objects g.tag g.plain g.pieces many
    g.tagged in
    record {
      value = g.value;
      pieces = g.pieces;
      passed = subst (λ (l : List (List ℕ)). IsPassedOn p.sizes g.value report l) (sym plain)
          g.passed;
      given = given g.pieces _ after g.given;
    }
