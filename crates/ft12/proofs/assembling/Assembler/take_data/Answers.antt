use Rattle.std.proofs.Common.{◌≡◌, ◌∷◌, ◌++◌, ◌∙◌, Some, sym, ap, List, ℕ, [], take, arith}
use Rattle.std.proofs.lemmas.List.{take_more}
use Rattle.ft12.specs.declared.stage.DueOctet.TheVariants.{User}
use Rattle.ft12.specs.DueOctet.{so_far}
use Rattle.ft12.proofs.Stages.{stage_more}
use Rattle.ft12.proofs.assembling.Assembler.take_data.Goals as goal

pub push_data-requires-clause-summing : goal.push_data-requires-clause-summing
push_data-requires-clause-summing c =
    let e : c.self.inside.stage ≡ Some (User c.in-Some-User.summing) = cc in
    c.self.invariant (User c.in-Some-User.summing) e

-- the octet stands behind those before it
pub returns-else-not-has_more_data-clause-taken : goal.returns-else-not-has_more_data-clause-taken
returns-else-not-has_more_data-clause-taken c = λ taken.
    let e : c.self.inside.stage ≡ Some (User c.in-Some-User.summing) = cc in
    let before : List ℕ = so_far c.self.inside.size (User c.in-Some-User.summing)
    c.self.inside.kept.items in
    let one : c.look-octet.result ∷ [] ≡ take 1 c.args.piece.now =
    ap (λ (o : ℕ). o ∷ []) c.look-octet.ensures.value
    ∙ sym (take_more c.args.piece.now 0 0 (omega arith)) in
    rw (← c.self.view_is, e) (
      stage_more c.self.inside.size (User c.push_data.new.self) c.push_data.new.kept.items
          c.push_data.ensures.summing,
      c.push_data.ensures.octets ∙ ap (λ (l : List ℕ). before ++ l) one,
      c.look-octet.ensures.counted,
      λ lt. absurd (omega arith),
    )
