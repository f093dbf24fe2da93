-- The worked examples hold, and the tables of pieces and tags are what the standard's numbers give.
use Rattle.std.proofs.Common.{◌≡◌, ◌+◌, refl}
use Rattle.std.specs.Prelude.{◌&&◌, nat_le, if◌then◌else◌}
use Rattle.std.specs.List.{AllByRecursion}
use Rattle.elements.specs.declared.types.TypeId.{TypeId}
use Rattle.elements.specs.declared.types.TypeId.TheVariants.{MSpNa1, MDpNa1, MStNa1, MBoNa1, MMeNa1}
use Rattle.elements.specs.declared.types.TypeId.TheVariants.{MMeNb1, MMeNc1, MItNa1, MSpTb1, MDpTb1}
use Rattle.elements.specs.declared.types.TypeId.TheVariants.{MStTb1, MBoTb1, MMeTd1, MMeTe1, MMeTf1}
use Rattle.elements.specs.declared.types.TypeId.TheVariants.{MItTb1, MEiNa1, CScNa1, CDcNa1, CRcNa1}
use Rattle.elements.specs.declared.types.TypeId.TheVariants.{CSeNa1, CSeNb1, CIcNa1, CScTa1, CDcTa1}
use Rattle.elements.specs.declared.types.TypeId.TheVariants.{CRcTa1, CSeTa1, CSeTb1}
use Rattle.elements.specs.Types.{row, type_of}
use Rattle.asdu.specs.InformationObjects.{objects_of}
use Rattle.asdu.specs.Translation.{parts}
use Rattle.asdu.specs.Tagging.{is_plain_command, is_tagged_command, tagged_type, untagged_type}
use Rattle.asdu.specs.Examples.{IsWorkedSo, IsRefusedSo, PassedExamples, PartExamples}
use Rattle.asdu.specs.Examples.{TagsByType, octet_examples, refusal_examples}

pub octets_hold : AllByRecursion IsWorkedSo octet_examples
unfolding type_of objects_of
octets_hold =
    ((refl, refl, refl), ((refl, refl, refl), ((refl, refl, refl), ((refl, refl, refl), tt))))

pub refusals_hold : AllByRecursion IsRefusedSo refusal_examples
unfolding type_of
refusals_hold = (
  refl,
  (refl, (refl, (refl, (refl, (refl, (refl, (refl, (refl, (refl, (refl, (refl, tt))))))))))),
)

pub passed_hold : PassedExamples
passed_hold = record {
  spontaneous = refl;
  initialised = refl;
  positive = refl;
  unknown_cause = refl;
  unknown_type = refl;
  tested_unknown_type = refl;
  command = refl;
  interrogation = refl;
}

pub parts_hold : PartExamples
unfolding type_of parts
parts_hold = record { totals = refl; points = refl; one = refl }

plain : (t : TypeId) → is_plain_command t ≡ (nat_le 45 (row t).code && nat_le (row t).code 49)
plain MSpNa1 = refl
plain MDpNa1 = refl
plain MStNa1 = refl
plain MBoNa1 = refl
plain MMeNa1 = refl
plain MMeNb1 = refl
plain MMeNc1 = refl
plain MItNa1 = refl
plain MSpTb1 = refl
plain MDpTb1 = refl
plain MStTb1 = refl
plain MBoTb1 = refl
plain MMeTd1 = refl
plain MMeTe1 = refl
plain MMeTf1 = refl
plain MItTb1 = refl
plain MEiNa1 = refl
plain CScNa1 = refl
plain CDcNa1 = refl
plain CRcNa1 = refl
plain CSeNa1 = refl
plain CSeNb1 = refl
plain CIcNa1 = refl
plain CScTa1 = refl
plain CDcTa1 = refl
plain CRcTa1 = refl
plain CSeTa1 = refl
plain CSeTb1 = refl

tagged : (t : TypeId) → is_tagged_command t ≡ (nat_le 58 (row t).code && nat_le (row t).code 62)
tagged MSpNa1 = refl
tagged MDpNa1 = refl
tagged MStNa1 = refl
tagged MBoNa1 = refl
tagged MMeNa1 = refl
tagged MMeNb1 = refl
tagged MMeNc1 = refl
tagged MItNa1 = refl
tagged MSpTb1 = refl
tagged MDpTb1 = refl
tagged MStTb1 = refl
tagged MBoTb1 = refl
tagged MMeTd1 = refl
tagged MMeTe1 = refl
tagged MMeTf1 = refl
tagged MItTb1 = refl
tagged MEiNa1 = refl
tagged CScNa1 = refl
tagged CDcNa1 = refl
tagged CRcNa1 = refl
tagged CSeNa1 = refl
tagged CSeNb1 = refl
tagged CIcNa1 = refl
tagged CScTa1 = refl
tagged CDcTa1 = refl
tagged CRcTa1 = refl
tagged CSeTa1 = refl
tagged CSeTb1 = refl

above : (t : TypeId) → (row (tagged_type t)).code ≡ (row t).code + (if is_plain_command t then 13
    else 0)
above MSpNa1 = refl
above MDpNa1 = refl
above MStNa1 = refl
above MBoNa1 = refl
above MMeNa1 = refl
above MMeNb1 = refl
above MMeNc1 = refl
above MItNa1 = refl
above MSpTb1 = refl
above MDpTb1 = refl
above MStTb1 = refl
above MBoTb1 = refl
above MMeTd1 = refl
above MMeTe1 = refl
above MMeTf1 = refl
above MItTb1 = refl
above MEiNa1 = refl
above CScNa1 = refl
above CDcNa1 = refl
above CRcNa1 = refl
above CSeNa1 = refl
above CSeNb1 = refl
above CIcNa1 = refl
above CScTa1 = refl
above CDcTa1 = refl
above CRcTa1 = refl
above CSeTa1 = refl
above CSeTb1 = refl

below : (t : TypeId) → (row (untagged_type t)).code + (if is_tagged_command t then 13 else 0)
    ≡ (row t).code
below MSpNa1 = refl
below MDpNa1 = refl
below MStNa1 = refl
below MBoNa1 = refl
below MMeNa1 = refl
below MMeNb1 = refl
below MMeNc1 = refl
below MItNa1 = refl
below MSpTb1 = refl
below MDpTb1 = refl
below MStTb1 = refl
below MBoTb1 = refl
below MMeTd1 = refl
below MMeTe1 = refl
below MMeTf1 = refl
below MItTb1 = refl
below MEiNa1 = refl
below CScNa1 = refl
below CDcNa1 = refl
below CRcNa1 = refl
below CSeNa1 = refl
below CSeNb1 = refl
below CIcNa1 = refl
below CScTa1 = refl
below CDcTa1 = refl
below CRcTa1 = refl
below CSeTa1 = refl
below CSeTb1 = refl

pub tags_hold : TagsByType
tags_hold = record { plain = plain; tagged = tagged; above = above; below = below }
