use Rattle.std.proofs.Common.{◌≤◌, ◌<◌, ◌⊎◌, ℕ, List, [], ◌∷◌, ap, sym, subst, ◌∙◌}
use Rattle.asdu.specs.Sizes.{tcp}
use Rattle.gateway.specs.Tags.{bears_tag}
use Rattle.delivery.proofs.Answers.{with_the_tag, without_tag_by, other_type, more, as_they_are}
use Rattle.delivery.proofs.passed_on.answers_bear_the_tag_of_their_command.Goals as goal

pub returns-clause-tagged : goal.returns-clause-tagged
returns-clause-tagged c = λ tag x pieces h low high one.
    let laid = c.octets_stand_where_the_standard_has_them.ensures in
    let code = laid.kind tcp h.2.0 x h.2.1 in
    let count = laid.number tcp h.2.0 x h.2.1 in
    h.1 ∙ ap (λ (y : List ℕ). y ∷ [])
    (with_the_tag c.tagged_types_are_thirteen_above.ensures.plain
    c.tags_stand_behind_the_element.ensures.tagged tag h.2.0 x h.0 h.2.1 h.2.2
    (subst (λ (n : ℕ). 45 ≤ n) code low) (subst (λ (n : ℕ). n ≤ 49) code high) (sym count ∙ one))

pub returns-clause-other_types : goal.returns-clause-other_types
returns-clause-other_types c = λ tag x pieces h other.
    let laid = c.octets_stand_where_the_standard_has_them.ensures in
    let code = laid.kind tcp h.2.0 x h.2.1 in
    h.1 ∙ ap (λ (y : List ℕ). y ∷ [])
    (without_tag_by (bears_tag h.2.0) tag h.2.0 x h.0
    (other_type c.tagged_types_are_thirteen_above.ensures.plain h.2.0
    (subst (λ (n : ℕ). (n < 45) ⊎ (49 < n)) code other)) h.2.2)

pub returns-clause-more_objects : goal.returns-clause-more_objects
returns-clause-more_objects c = λ tag x pieces h many.
    let laid = c.octets_stand_where_the_standard_has_them.ensures in
    let count = laid.number tcp h.2.0 x h.2.1 in
    h.1 ∙ ap (λ (y : List ℕ). y ∷ [])
    (without_tag_by (bears_tag h.2.0) tag h.2.0 x h.0
    (more h.2.0 (subst (λ (n : ℕ). 2 ≤ n) count many)) h.2.2)

pub returns-clause-more_pieces : goal.returns-clause-more_pieces
returns-clause-more_pieces c = as_they_are

pub returns-clause-no_tag : goal.returns-clause-no_tag
returns-clause-no_tag c = λ plain pieces h. h
