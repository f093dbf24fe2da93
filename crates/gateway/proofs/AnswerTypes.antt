-- By which types stations answer commands.
use Rattle.std.proofs.Common.{◌≡◌, refl}
use Rattle.elements.specs.Types.{row}
use Rattle.elements.specs.declared.types.TypeId.{TypeId}
use Rattle.elements.specs.declared.types.TypeId.TheVariants.{MSpNa1, MDpNa1, MStNa1, MBoNa1, MMeNa1}
use Rattle.elements.specs.declared.types.TypeId.TheVariants.{MMeNb1, MMeNc1, MItNa1, MSpTb1, MDpTb1}
use Rattle.elements.specs.declared.types.TypeId.TheVariants.{MStTb1, MBoTb1, MMeTd1, MMeTe1, MMeTf1}
use Rattle.elements.specs.declared.types.TypeId.TheVariants.{MItTb1, MEiNa1, CScNa1, CDcNa1, CRcNa1}
use Rattle.elements.specs.declared.types.TypeId.TheVariants.{CSeNa1, CSeNb1, CIcNa1, CScTa1, CDcTa1}
use Rattle.elements.specs.declared.types.TypeId.TheVariants.{CRcTa1, CSeTa1, CSeTb1}
use Rattle.gateway.specs.Counting.{is_answer_type, is_answer_code}

pub type_is : (t : TypeId) → is_answer_type t ≡ is_answer_code (row t).code
type_is MSpNa1 = refl
type_is MDpNa1 = refl
type_is MStNa1 = refl
type_is MBoNa1 = refl
type_is MMeNa1 = refl
type_is MMeNb1 = refl
type_is MMeNc1 = refl
type_is MItNa1 = refl
type_is MSpTb1 = refl
type_is MDpTb1 = refl
type_is MStTb1 = refl
type_is MBoTb1 = refl
type_is MMeTd1 = refl
type_is MMeTe1 = refl
type_is MMeTf1 = refl
type_is MItTb1 = refl
type_is MEiNa1 = refl
type_is CScNa1 = refl
type_is CDcNa1 = refl
type_is CRcNa1 = refl
type_is CSeNa1 = refl
type_is CSeNb1 = refl
type_is CIcNa1 = refl
type_is CScTa1 = refl
type_is CDcTa1 = refl
type_is CRcTa1 = refl
type_is CSeTa1 = refl
type_is CSeTb1 = refl
