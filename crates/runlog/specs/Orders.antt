-- What a line of the log says of a command (IEC 60870-5-101, 7.2.6 and 7.3.2).
use Rattle.std.specs.Prelude.{ℕ, ◌+◌, ◌-◌, ◌*◌, ◌%◌, ◌==◌, ◌&&◌, ◌||◌, nat_le, nat_lt, Bool, List}
use Rattle.std.specs.Prelude.{length, drop, slice_index, Option, Some, None, if◌then◌else◌}
use Rattle.asdu.specs.Sizes.{header_len, ioa_len}
use Rattle.asdu.specs.Fields.{ca_at, first_address}
use Rattle.asdu.specs.declared.sizes.Sizes.{Sizes}
use Rattle.runlog.specs.declared.order.OrderKind.{OrderKind}
use Rattle.runlog.specs.declared.order.OrderKind.TheVariants as act
use Rattle.runlog.specs.declared.order.Value.{Value}
use Rattle.runlog.specs.declared.order.Value.TheVariants as value
use Rattle.runlog.specs.declared.order.Order.{Order}

-- the octet at this place, or 0 if there is none
abbrev pub octet : List ℕ → ℕ → ℕ
octet octets place = if nat_lt place (length octets) then slice_index octets place else 0

-- types 58 to 62 are 45 to 49 with a time tag (IEC 60870-5-104, 8)
abbrev pub plain : ℕ → ℕ
plain kind = if nat_le 58 kind && nat_le kind 62 then kind - 13 else kind

abbrev pub is_set_point : ℕ → Bool
is_set_point kind = kind == 48 || kind == 49

-- S/E is bit 7 of the octet behind the value of a set point, and of the only octet of the others
abbrev pub is_select : (kind : ℕ) → (element : List ℕ) → Bool
is_select kind element =
    if is_set_point kind then nat_le 128 (octet element 2) else nat_le 128 (octet element 0)

-- what it wants: by its cause (8 deactivation, 9 its confirmation), and of types 45 to 49 by S/E
abbrev pub act_of : (kind cause : ℕ) → (element : List ℕ) → OrderKind
act_of kind cause element =
    if cause % 64 == 8 || cause % 64 == 9 then act.Deactivate
    else if nat_le 45 kind && nat_le kind 49
    then (if is_select kind element then act.Select else act.Execute)
    else if kind == 100 then act.Activate else act.Other

abbrev pub number_of : ℕ → Value
number_of n = if nat_lt n 32768 then value.Number n else value.Below (65536 - n)

-- the states of a double command and of a step command, of which 0 and 3 aren't permitted
abbrev pub double_of : ℕ → Value
double_of n = if n == 1 then value.Off else if n == 2 then value.On else value.Number n

abbrev pub step_of : ℕ → Value
step_of n = if n == 1 then value.Lower else if n == 2 then value.Higher else value.Number n

-- the value of an element of a type without a time tag
abbrev pub value_of : (kind : ℕ) → (element : List ℕ) → Value
value_of kind element =
    if kind == 45 then (if octet element 0 % 2 == 0 then value.Off else value.On)
    else if kind == 46 then double_of (octet element 0 % 4)
    else if kind == 47 then step_of (octet element 0 % 4)
    else if is_set_point kind then number_of (octet element 0 + 256 * octet element 1)
    else if kind == 100 then value.Number (octet element 0) else value.Unknown

abbrev pub order_in : Sizes → List ℕ → Order
order_in sizes octets =
    let element = drop (header_len sizes + ioa_len sizes.ioa) octets in record {
      kind = slice_index octets 0;
      act = act_of (plain (slice_index octets 0)) (slice_index octets 2) element;
      ca = ca_at sizes octets;
      object = first_address sizes octets;
      value = value_of (plain (slice_index octets 0)) element;
    }

-- of an ASDU in these sizes, if it is long enough for its addresses
abbrev pub order_of : Sizes → List ℕ → Option Order
order_of sizes octets =
    if nat_le (header_len sizes + ioa_len sizes.ioa) (length octets)
    then Some (order_in sizes octets) else None

-- This command, as it came, is the one that goes out to the line so: without a time tag, and with
-- the station's own common address. Of several to one object the oldest goes out first.
abbrev pub goes_out_as : (sent came : Order) → Bool
goes_out_as sent came =
    plain came.kind == sent.kind
    && (came.object == sent.object
    && ((sent.kind == 100 && came.ca == 65535) || came.ca == sent.ca))
