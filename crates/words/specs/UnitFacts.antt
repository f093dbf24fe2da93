-- The lines that show an ASDU and its objects (texts of this gateway's own profile; the fields are
-- those of IEC 60870-5-101, 7.2).
use Rattle.std.specs.Prelude.{ℕ, ℤ, ◌%◌, codes, List, [], ◌∷◌, ◌++◌, length, slice_index, Option}
use Rattle.std.specs.Prelude.{Some, None}
use Rattle.std.specs.List.{flat_map}
use Rattle.std.specs.Fmt.{decimal, signed_decimal}
use Rattle.hex.specs.Hex.{encode_upper}
use Rattle.elements.specs.declared.types.TypeId.{TypeId}
use Rattle.elements.specs.declared.tag.Verdict.{Verdict}
use Rattle.elements.specs.declared.tag.Verdict.TheVariants.{Good, MarkedInvalid, OutOfRange}
use Rattle.elements.specs.declared.tag.Verdict.TheVariants.{NoSuchDay, WrongWeekday}
use Rattle.elements.specs.TimeTag.{verdict_of}
use Rattle.elements.specs.Types.{row, value_shown, type_of}
use Rattle.asdu.specs.Asdu.{Info, AsduValue}
use Rattle.asdu.specs.Fields.{value_at}
use Rattle.asdu.specs.Refusals.{refusal}
use Rattle.asdu.specs.declared.sizes.Sizes.{Sizes}
use Rattle.words.specs.Bits.{bit, flag}
use Rattle.words.specs.declared.facts.condition.Condition.{Condition}
use Rattle.words.specs.declared.facts.condition.Condition.TheVariants as condition

abbrev pub verdict_text : Verdict → List ℕ
verdict_text (Good ms) = codes "good " ++ decimal ms
verdict_text MarkedInvalid = codes "marked invalid"
verdict_text OutOfRange = codes "out of range"
verdict_text NoSuchDay = codes "no such day"
verdict_text WrongWeekday = codes "wrong weekday"

-- a time tag in hexadecimal, and the verdict on it
abbrev pub judged_text : List ℕ → List ℕ
judged_text octets =
    codes " tag=" ++ encode_upper octets ++ codes " " ++ verdict_text (verdict_of octets)

abbrev pub tag_text : Option (List ℕ) → List ℕ
tag_text None = []
tag_text (Some octets) = judged_text octets

-- the address and the value of an object
abbrev pub value_text : ℕ → ℤ → List ℕ
value_text address value =
    codes "object address=" ++ decimal address ++ codes " value=" ++ signed_decimal value

-- the octets of its element, and its tag, if it has one
abbrev pub content_text : Info → List ℕ
content_text i = codes " element=" ++ encode_upper i.element ++ tag_text i.tag ++ 10 ∷ []

abbrev pub object_line : TypeId → Info → List ℕ
object_line t i = value_text i.address (value_shown t i.element) ++ content_text i

-- type, SQ and number of objects (7.2.1, 7.2.2)
abbrev pub structure_text : AsduValue → List ℕ
structure_text u =
    codes "asdu type=" ++ decimal (row u.kind).code ++ codes " sq=" ++ decimal (flag u.sequence)
    ++ codes " number=" ++ decimal (length u.infos)

-- the cause octet (7.2.3): test in bit 7, P/N in bit 6, the cause in bits 5 to 0
abbrev pub cause_text : ℕ → List ℕ
cause_text octet =
    codes " test=" ++ decimal (bit 7 octet) ++ codes " negative=" ++ decimal (bit 6 octet)
    ++ codes " cause=" ++ decimal (octet % 64)

-- originator and common address (7.2.3, 7.2.4)
abbrev pub addresses_text : AsduValue → List ℕ
addresses_text u =
    codes " originator=" ++ decimal u.originator ++ codes " ca=" ++ decimal u.ca ++ 10 ∷ []

abbrev pub header_line : AsduValue → List ℕ
header_line u = structure_text u ++ (cause_text u.cause ++ addresses_text u)

abbrev pub asdu_lines : AsduValue → List ℕ
asdu_lines u = header_line u ++ flat_map (object_line u.kind) u.infos

abbrev pub typed_lines : Sizes → List ℕ → Option TypeId → List ℕ
typed_lines s xs None = []
typed_lines s xs (Some t) = asdu_lines (value_at s t xs)

-- the lines of an ASDU, or the line that says why the octets are none
abbrev pub lines_by : Sizes → List ℕ → Option ℕ → List ℕ
lines_by s xs None = typed_lines s xs (type_of (slice_index xs 0))
lines_by s xs (Some why) = codes "asdu refused " ++ decimal why ++ 10 ∷ []

-- the lines that show the data of a frame; no data has none
abbrev pub unit_lines : Sizes → List ℕ → List ℕ
unit_lines s [] = []
unit_lines s (x ∷ xs) = lines_by s (x ∷ xs) (refusal s (x ∷ xs))

abbrev pub condition_by : Option ℕ → Condition
condition_by None = condition.Good
condition_by (Some why) = condition.Faulty

-- data that are no ASDU are a fault
abbrev pub unit_condition : Sizes → List ℕ → Condition
unit_condition s [] = condition.Good
unit_condition s (x ∷ xs) = condition_by (refusal s (x ∷ xs))
