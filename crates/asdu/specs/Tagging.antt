-- Commands with and without a time tag (IEC 60870-5-104, 8: types 58 to 62 are types 45 to 49 with
-- CP56Time2a behind the element).
use Rattle.std.specs.Prelude.{ℕ, Bool, true, false, List, map, None, Some}
use Rattle.elements.specs.declared.types.TypeId.{TypeId}
use Rattle.elements.specs.declared.types.TypeId.TheVariants.{CScNa1, CDcNa1, CRcNa1, CSeNa1, CSeNb1}
use Rattle.elements.specs.declared.types.TypeId.TheVariants.{CScTa1, CDcTa1, CRcTa1, CSeTa1, CSeTb1}
use Rattle.asdu.specs.Asdu.{AsduValue, Info}

-- types 58 to 62
abbrev pub is_tagged_command : TypeId → Bool
is_tagged_command CScTa1 = true
is_tagged_command CDcTa1 = true
is_tagged_command CRcTa1 = true
is_tagged_command CSeTa1 = true
is_tagged_command CSeTb1 = true
is_tagged_command t = false

-- types 45 to 49
abbrev pub is_plain_command : TypeId → Bool
is_plain_command CScNa1 = true
is_plain_command CDcNa1 = true
is_plain_command CRcNa1 = true
is_plain_command CSeNa1 = true
is_plain_command CSeNb1 = true
is_plain_command t = false

-- the same command without a tag; any other type stays
abbrev pub untagged_type : TypeId → TypeId
untagged_type CScTa1 = CScNa1
untagged_type CDcTa1 = CDcNa1
untagged_type CRcTa1 = CRcNa1
untagged_type CSeTa1 = CSeNa1
untagged_type CSeTb1 = CSeNb1
untagged_type t = t

-- the same command with a tag; any other type stays
abbrev pub tagged_type : TypeId → TypeId
tagged_type CScNa1 = CScTa1
tagged_type CDcNa1 = CDcTa1
tagged_type CRcNa1 = CRcTa1
tagged_type CSeNa1 = CSeTa1
tagged_type CSeNb1 = CSeTb1
tagged_type t = t

abbrev pub without_tag : Info → Info
without_tag i = record { address = i.address; element = i.element; tag = None }

abbrev pub with_tag : (tag : List ℕ) → Info → Info
with_tag tag i = record { address = i.address; element = i.element; tag = Some tag }

-- the command without its tag: addresses, value and qualifier stay
abbrev pub untagged : AsduValue → AsduValue
untagged v = record v { kind = untagged_type v.kind; infos = map without_tag v.infos }

-- the command with this tag: addresses, value and qualifier stay
abbrev pub tagged : (tag : List ℕ) → AsduValue → AsduValue
tagged tag v = record v { kind = tagged_type v.kind; infos = map (with_tag tag) v.infos }
