-- What stands at the front of octets, computed: the octets are read one after another, as FT1.2 of
-- IEC 60870-5-1 (6.2.4.2) lays them out. (What a front is, `IsFront` says. That this is the front,
-- and the only one, is the law `front_is_computed`.)
use Rattle.std.specs.Prelude.{ℕ, ◌+◌, ◌*◌, ◌%◌, ◌==◌, nat_lt, if◌then◌else◌, Bool, List, [], ◌∷◌}
use Rattle.std.specs.Prelude.{length, take, drop, sum, slice_index}
use Rattle.std.specs.List.{prefix_len}
use Rattle.ft12.specs.declared.frame.LinkSize.{LinkSize}
use Rattle.ft12.specs.declared.frame.LinkSize.TheVariants.{One, Two}
use Rattle.ft12.specs.declared.frame.Frame.{Frame}
use Rattle.ft12.specs.declared.frame.Frame.TheVariants.{Single, Fixed, Data}
use Rattle.ft12.specs.declared.frame.Why.TheVariants.{Start, LengthsDiffer, SecondStart}
use Rattle.ft12.specs.declared.frame.Why.TheVariants.{LengthSmall, Sum, End}
use Rattle.ft12.specs.declared.frame.Front.{Front}
use Rattle.ft12.specs.declared.frame.Front.TheVariants.{Whole, More, Never}
use Rattle.ft12.specs.Spelling.{address_len}
use Rattle.ft12.specs.Reading.{refusal}

-- the address in octets that begin with a control octet, low octet first
abbrev pub address_in : LinkSize → List ℕ → ℕ
address_in One octets = slice_index octets 1
address_in Two octets = slice_index octets 1 + 256 * slice_index octets 2

-- the end octet is due at this place
abbrev pub end_due : (place : ℕ) → Frame → List ℕ → Front
end_due place frame [] = More
end_due place frame (octet ∷ rest) =
    if octet == 0x16 then Whole frame (place + 1) else Never place End

-- this sum is due at this place, and then the end octet
abbrev pub sum_due : (place total : ℕ) → Frame → List ℕ → Front
sum_due place total frame [] = More
sum_due place total frame (octet ∷ rest) =
    if octet == total then end_due (place + 1) frame rest else Never place Sum

-- len octets are due at this place, then their sum and the end octet
abbrev pub checked_due : (place len : ℕ) → Frame → List ℕ → Front
checked_due place len frame octets =
    sum_due (place + len) (sum (take len octets) % 256) frame (drop len octets)

-- the octets of a fixed frame are due after its start octet
abbrev pub fixed_due : LinkSize → List ℕ → Front
fixed_due size octets =
    checked_due 1 (1 + address_len size)
    (Fixed (slice_index octets 0) (address_in size octets)) octets

-- the octets of a variable frame are due after its header
abbrev pub data_due : LinkSize → (len : ℕ) → List ℕ → Front
data_due size len octets =
    checked_due 4 len
    (Data (slice_index octets 0) (address_in size octets)
    (record { items = drop (1 + address_len size) (take len octets) })) octets

-- the second start octet is due
abbrev pub start_due : LinkSize → (len : ℕ) → List ℕ → Front
start_due size len [] = More
start_due size len (octet ∷ rest) =
    if octet == 0x68 then data_due size len rest else Never 3 SecondStart

-- the length is due again
abbrev pub again_due : LinkSize → (len : ℕ) → List ℕ → Front
again_due size len [] = More
again_due size len (octet ∷ rest) =
    if octet == len then start_due size len rest else Never 2 LengthsDiffer

-- the length is due
abbrev pub length_due : LinkSize → List ℕ → Front
length_due size [] = More
length_due size (len ∷ rest) =
    if nat_lt len (1 + address_len size) then Never 1 LengthSmall else again_due size len rest

-- a frame is due
abbrev pub frame_due : LinkSize → List ℕ → Front
frame_due size [] = More
frame_due size (octet ∷ rest) =
    if octet == 0xE5 then Whole Single 1 else
    if octet == 0x10 then fixed_due size rest else
    if octet == 0x68 then length_due size rest else Never 0 Start

abbrev pub is_octet : ℕ → Bool
is_octet n = nat_lt n 256

-- the front, given that of the count octets before the first number that is none: no frame goes on
-- with that number
abbrev pub front_with : LinkSize → List ℕ → (count : ℕ) → Front → Front
front_with size octets count (Whole frame n) = Whole frame n
front_with size octets count More =
    if count == length octets then More else Never count (refusal size octets count)
front_with size octets count (Never place why) = Never place why

abbrev pub front_up_to : LinkSize → List ℕ → (count : ℕ) → Front
front_up_to size octets count = front_with size octets count (frame_due size (take count octets))

-- What stands at the front of any list of numbers. It is shut unless a proof says `unfolding
-- front_of`; the law says what is needed of it.
unfoldable pub front_of : LinkSize → List ℕ → Front
front_of size octets = front_up_to size octets (prefix_len is_octet octets)
