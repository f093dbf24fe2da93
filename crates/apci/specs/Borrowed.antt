-- APDUs whose ASDUs are borrowed, as APDUs.
use Rattle.std.specs.Prelude.{◌≤◌, length}
use Rattle.apci.specs.declared.apdu.Apdu.{Apdu}
use Rattle.apci.specs.declared.apdu.Apdu.TheVariants as apdu
use Rattle.apci.specs.declared.apdu.Front.{Front}
use Rattle.apci.specs.declared.apdu.Front.TheVariants as front
use Rattle.apci.specs.declared.apdu.ApduRef.{ApduRef}
use Rattle.apci.specs.declared.apdu.ApduRef.TheVariants as apdu_ref
use Rattle.apci.specs.declared.apdu.FrontRef.{FrontRef}
use Rattle.apci.specs.declared.apdu.FrontRef.TheVariants as front_ref

-- the APDU, wherever its ASDU stands
abbrev pub owned : ApduRef → Apdu
owned (apdu_ref.I ns nr asdu) = apdu.I ns nr (record { items = asdu.now })
owned (apdu_ref.S nr) = apdu.S nr
owned (apdu_ref.U function) = apdu.U function

-- the front, wherever its ASDU stands
abbrev pub owned_front : FrontRef → Front
owned_front (front_ref.Whole a n) = front.Whole (owned a) n
owned_front front_ref.More = front.More
owned_front (front_ref.Never place why) = front.Never place why

-- the ASDU fits an APDU
abbrev pub FitsMemory : ApduRef → Type 0
FitsMemory (apdu_ref.I ns nr asdu) = length asdu.now ≤ 249
FitsMemory (apdu_ref.S nr) = Unit {0}
FitsMemory (apdu_ref.U function) = Unit {0}
