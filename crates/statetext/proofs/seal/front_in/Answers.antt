use Rattle.std.proofs.Common.{◌∙◌, sym, ap, ℕ, take}
use Rattle.std.proofs.lemmas.List.{take_rest}
use Rattle.statetext.specs.Sum.{remainder_after}
use Rattle.statetext.proofs.Seals.{front_lost, front_none, front_torn, front_whole}
use Rattle.statetext.proofs.seal.front_in.Goals as goal

pub returns-in_default-clause-front : goal.returns-in_default-clause-front
returns-in_default-clause-front c = λ head is.
    front_none head c.args.place c.args.text.now (sym c.place_of_mark.ensures.first ∙ c.in_default.is)

pub returns-then-contains-clause-front : goal.returns-then-contains-clause-front
returns-then-contains-clause-front c = λ head is.
    front_lost head c.args.place c.args.text.now c.in-Some.n
    (sym c.place_of_mark.ensures.first ∙ c.in-Some.is) _ _ _ _
    (sym c.contains.ensures.value ∙ c.if-contains.true)
    (take_rest c.args.text.now c.in-Some.n) c.mark_of.ensures c.may_be.ensures c.torn_if.ensures

pub returns-then-starts_with-clause-front : goal.returns-then-starts_with-clause-front
returns-then-starts_with-clause-front c = λ head is.
    front_whole head c.args.place c.args.text.now c.in-Some.n
    (sym c.place_of_mark.ensures.first ∙ c.in-Some.is) _ _ _
    (sym c.contains.ensures.value ∙ c.if-contains.false)
    (take_rest c.args.text.now c.in-Some.n)
    (c.seal_of-seal.ensures head (take c.in-Some.n c.args.text.now)
    (c.add.ensures ∙ ap (λ (r : ℕ). remainder_after r (take c.in-Some.n c.args.text.now)) is))
    c.starts_with.ensures.value c.if-starts_with.true

pub returns-clause-front : goal.returns-clause-front
returns-clause-front c = λ head is.
    front_torn head c.args.place c.args.text.now c.in-Some.n
    (sym c.place_of_mark.ensures.first ∙ c.in-Some.is) _ _ _ _ _
    (sym c.contains.ensures.value ∙ c.if-contains.false)
    (take_rest c.args.text.now c.in-Some.n)
    (c.seal_of-seal.ensures head (take c.in-Some.n c.args.text.now)
    (c.add.ensures ∙ ap (λ (r : ℕ). remainder_after r (take c.in-Some.n c.args.text.now)) is))
    c.starts_with.ensures.value c.if-starts_with.false c.may_be-2.ensures c.torn_if-2.ensures
