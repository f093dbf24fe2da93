use Rattle.std.proofs.Common.{refl, sym}
use Rattle.asdu.specs.Asdu.{spelled}
use Rattle.asdu.proofs.Tags.{IsAsdu-tagged, IsAsdu-untagged}
use Rattle.asdu.proofs.tagging.tags_stand_behind_the_element.Goals as goal

pub returns-clause-tagged : goal.returns-clause-tagged
returns-clause-tagged c = λ s tag v fits one is seven all. sym
    (IsAsdu-tagged s v (spelled s v) _ tag (record { value = fits; octets = refl }) one is seven all
    refl).octets

pub returns-clause-untagged : goal.returns-clause-untagged
returns-clause-untagged c = λ s v fits one is. sym
    (IsAsdu-untagged s v (spelled s v) _ (record { value = fits; octets = refl }) one is
    refl).octets
