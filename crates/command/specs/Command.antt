-- A command with one object: what its octets hold and what it says (IEC 60870-5-101, 7.2.6 and
-- 7.3.2; IEC 60870-5-104, 8, for time tags).
use Rattle.std.specs.Prelude.{ℕ, ◌+◌, ◌-◌, ◌%◌, Bool, true, not, ◌&&◌, ◌||◌, ◌==◌, nat_lt, nat_le}
use Rattle.std.specs.Prelude.{if◌then◌else◌, List, [], ◌∷◌, ◌++◌, drop, slice_index}
use Rattle.byteorder.specs.Endian.{little_bytes}
use Rattle.asdu.specs.Sizes.{ca_len, ioa_len, tcp}
use Rattle.asdu.specs.Asdu.{originator_octets}
use Rattle.asdu.specs.Fields.{ca_at, first_address}
use Rattle.asdu.specs.declared.sizes.Sizes.{Sizes}
use Rattle.command.specs.declared.content.Command.{Command}
use Rattle.command.specs.declared.content.CommandElement.{CommandElement}
use Rattle.command.specs.declared.content.CommandElement.TheVariants.{Octet, SetPoint}

-- ---- What the octets hold

-- types 45 to 49, which operate an object and have S/E
abbrev pub is_process_command : ℕ → Bool
is_process_command code = nat_le 45 code && nat_le code 49

-- types 58 to 62: types 45 to 49 with a time tag behind the element
abbrev pub is_tagged : ℕ → Bool
is_tagged code = nat_le 58 code && nat_le code 62

-- the type of the command on the line, which has no tag
abbrev pub line_kind : ℕ → ℕ
line_kind code = if is_tagged code then code - 13 else code

-- the types that the control centre may send: 45 to 49, with and without a tag, and the
-- interrogation
abbrev pub is_command_type : ℕ → Bool
is_command_type code = is_process_command (line_kind code) || code == 100

abbrev pub is_set_point : ℕ → Bool
is_set_point code = code == 48 || code == 49

-- how many octets the element of a type on the line has
abbrev pub element_len : ℕ → ℕ
element_len code = if is_set_point code then 3 else 1

-- how many octets the time tag of a type has
abbrev pub tag_len : ℕ → ℕ
tag_len code = if is_tagged code then 7 else 0

-- how many octets a command with one object has, as it comes
abbrev pub command_len : ℕ → ℕ
command_len code = 9 + element_len (line_kind code) + tag_len code

abbrev pub element_at : ℕ → List ℕ → CommandElement
element_at code xs =
    if is_set_point code then SetPoint (slice_index xs 0) (slice_index xs 1) (slice_index xs 2)
    else Octet (slice_index xs 0)

-- the one command that the octets from the control centre hold
abbrev pub command_at : List ℕ → Command
command_at xs = record {
  kind = line_kind (slice_index xs 0);
  received = slice_index xs 0;
  cause = slice_index xs 2;
  originator = slice_index xs 3;
  ca = ca_at tcp xs;
  address = first_address tcp xs;
  element = element_at (line_kind (slice_index xs 0)) (drop 9 xs);
}

abbrev pub element_octets : CommandElement → List ℕ
element_octets (Octet x) = x ∷ []
element_octets (SetPoint low high qos) = low ∷ high ∷ qos ∷ []

-- the octets of the command in these sizes, to this common address
abbrev pub command_octets : Sizes → ℕ → Command → List ℕ
command_octets s ca c =
    c.kind ∷ 1 ∷ c.cause
    ∷ (originator_octets s.cause c.originator
    ++ (little_bytes (ca_len s.ca) ca
    ++ (little_bytes (ioa_len s.ioa) c.address ++ element_octets c.element)))

-- ---- What a command says

-- the octet with S/E in bit 7: SCO, DCO, RCO, QOS
abbrev pub qualifier : CommandElement → ℕ
qualifier (Octet x) = x
qualifier (SetPoint low high qos) = qos

-- the element with S/E 0, as an execute has it
abbrev pub without_select : CommandElement → CommandElement
without_select (Octet x) = Octet (x % 128)
without_select (SetPoint low high qos) = SetPoint low high (qos % 128)

-- cause 8 ends what an activation (6) began
abbrev pub is_deactivation : Command → Bool
is_deactivation c = c.cause % 64 == 8

-- a select: an activation with S/E 1
abbrev pub is_select : Command → Bool
is_select c =
    not (is_deactivation c) && is_process_command c.kind && nat_le 128 (qualifier c.element)

-- an execute: an activation with S/E 0
abbrev pub is_execute : Command → Bool
is_execute c =
    not (is_deactivation c) && is_process_command c.kind && nat_lt (qualifier c.element) 128

-- it may operate: states 1 and 2 of a double or step command, interrogations 20 to 36
abbrev pub is_permitted : Command → Bool
is_permitted c =
    if c.kind == 46 || c.kind == 47
    then (let state : ℕ = qualifier c.element % 4 in state == 1 || state == 2)
    else (if c.kind == 100 then nat_le 20 (qualifier c.element) && nat_le (qualifier c.element) 36
    else true)
