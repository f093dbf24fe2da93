-- What an information object shows (IEC 60870-5-101, 7.2.5 and 7.2.6).
use Rattle.std.specs.Prelude.{ℕ, List, Option, Some, None}
use Rattle.elements.specs.declared.types.TypeId.{TypeId}
use Rattle.elements.specs.declared.tag.Verdict.{Verdict}
use Rattle.elements.specs.TimeTag.{verdict_of}
use Rattle.elements.specs.Types.{value_shown}
use Rattle.asdu.specs.Asdu.{Info}
use Rattle.library_example.specs.declared.points.Point.{Point}

-- the verdict on a time tag, if there is one
abbrev pub made_by : Option (List ℕ) → Option Verdict
made_by None = None
made_by (Some octets) = Some (verdict_of octets)

-- the address, the value that the table of types gives the element, and the verdict on the tag
abbrev pub point_of : TypeId → Info → Point
point_of t i = record {
  address = i.address;
  value = value_shown t i.element;
  made = made_by i.tag;
}
