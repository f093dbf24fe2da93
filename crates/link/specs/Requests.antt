-- Requests as frames, and what a frame asks for (IEC 60870-5-2, 5.1: the control field of a primary
-- station).
use Rattle.std.specs.Prelude.{ℕ, ◌+◌, ◌^◌, ◌<◌, ◌≤◌, ◌==◌, ◌&&◌, Bool, true, false, List, [], ◌∷◌}
use Rattle.std.specs.Prelude.{length, All, Option, Some, None, if◌then◌else◌}
use Rattle.ft12.specs.declared.frame.LinkSize.{LinkSize}
use Rattle.ft12.specs.declared.frame.Front.{Front}
use Rattle.ft12.specs.declared.frame.Front.TheVariants.{Whole, More, Never}
use Rattle.ft12.specs.Spelling.{address_len, IsOctet}
use Rattle.ft12.specs.Fronts.{front_of}
use Rattle.link.specs.declared.control.PrimaryFunction.TheVariants as function
use Rattle.link.specs.Control.{PrimaryFunction, primary_code as number, primary_octet, is_primary}
use Rattle.link.specs.Control.{fcb_bit, fcv_bit, function_code}
use Rattle.link.specs.Answers.{Frame, Single, Fixed, Data, Service, Class1, Class2, Command, Asked}
use Rattle.link.specs.Answers.{Status, Reset, Counted}
pub use Rattle.link.specs.declared.request.Reading.{Reading}
pub use Rattle.link.specs.declared.request.Reading.TheVariants.{Foreign, Unknown, Asks}
pub use Rattle.link.specs.declared.request.RequestKind.{RequestKind}
pub use Rattle.link.specs.declared.request.RequestKind.TheVariants as kind

-- a function with a valid frame count bit, and one with none
abbrev pub counted_control : (fcb : Bool) → PrimaryFunction → ℕ
counted_control fcb by = primary_octet fcb true (number by)

abbrev pub plain_control : PrimaryFunction → ℕ
plain_control by = primary_octet false false (number by)

-- the frame of a request to the station with this address
abbrev pub request_frame : (address : ℕ) → Asked → Frame
request_frame address Status = Fixed (plain_control function.LinkStatus) address
request_frame address Reset = Fixed (plain_control function.ResetLink) address
request_frame address (Counted fcb Class1) = Fixed (counted_control fcb function.Class1) address
request_frame address (Counted fcb Class2) = Fixed (counted_control fcb function.Class2) address
request_frame address (Counted fcb (Command asdu)) =
    Data (counted_control fcb function.UserData) address (record { items = asdu })

abbrev pub FitsAddress : LinkSize → (address : ℕ) → Type 0
FitsAddress size address = address < 256 ^ address_len size

-- data fit a frame
abbrev pub FitsFrame : LinkSize → List ℕ → Type 0
FitsFrame size asdu = 1 + address_len size + length asdu < 256

-- user data that a frame can carry: at least one octet
pub record IsUserData (size : LinkSize) (asdu : List ℕ) : Type 0 where
  pub some : 1 ≤ length asdu
  pub fits : FitsFrame size asdu
  pub octets : All IsOctet asdu

abbrev pub FitsService : LinkSize → Service → Type 0
FitsService size Class1 = Unit {0}
FitsService size Class2 = Unit {0}
FitsService size (Command asdu) = IsUserData size asdu

abbrev pub FitsAsked : LinkSize → Asked → Type 0
FitsAsked size Status = Unit {0}
FitsAsked size Reset = Unit {0}
FitsAsked size (Counted fcb service) = FitsService size service

abbrev pub service_kind : Service → RequestKind
service_kind Class1 = kind.Class1
service_kind Class2 = kind.Class2
service_kind (Command asdu) = kind.Command

abbrev pub kind_of : Asked → RequestKind
kind_of Status = kind.Status
kind_of Reset = kind.Reset
kind_of (Counted fcb service) = service_kind service

-- the control octet is a primary station's (PRM 1), and the address is this one
abbrev pub comes_to : (station control address : ℕ) → Bool
comes_to station control address = is_primary control && (address == station)

-- by the function of a request with a valid frame count bit
abbrev pub counted_reading : (fcb : Bool) → (code : ℕ) → Reading
counted_reading fcb code =
    if code == number function.Class1 then Asks (Counted fcb Class1)
    else if code == number function.Class2 then Asks (Counted fcb Class2) else Unknown

-- and of one without
abbrev pub plain_reading : (code : ℕ) → Reading
plain_reading code =
    if code == number function.LinkStatus then Asks Status
    else if code == number function.ResetLink then Asks Reset else Unknown

abbrev pub short_by : (fcb fcv : Bool) → (code : ℕ) → Reading
short_by fcb fcv code = if fcv then counted_reading fcb code else plain_reading code

abbrev pub short_reading : (control : ℕ) → Reading
short_reading control = short_by (fcb_bit control) (fcv_bit control) (function_code control)

-- user data ask for a service only if they have an octet
abbrev pub data_by : (fcb fcv : Bool) → (code : ℕ) → List ℕ → Reading
data_by fcb fcv code [] = Unknown
data_by fcb fcv code (octet ∷ octets) =
    if fcv && (code == number function.UserData)
    then Asks (Counted fcb (Command (octet ∷ octets))) else Unknown

abbrev pub data_reading : (control : ℕ) → List ℕ → Reading
data_reading control octets =
    data_by (fcb_bit control) (fcv_bit control) (function_code control) octets

-- what a frame asks of the station with this address
abbrev pub reading_of : (station : ℕ) → Frame → Reading
reading_of station Single = Foreign
reading_of station (Fixed c a) = if comes_to station c a then short_reading c else Foreign
reading_of station (Data c a body) =
    if comes_to station c a then data_reading c body.items else Foreign

abbrev pub asked_by : (address : ℕ) → Reading → Option (ℕ × Asked)
asked_by address (Asks request) = Some (address, request)
asked_by address reading = None

-- the address of a request's frame, and what it asks for
abbrev pub asked_in : Frame → Option (ℕ × Asked)
asked_in Single = None
asked_in (Fixed c a) = asked_by a (reading_of a (Fixed c a))
asked_in (Data c a body) = asked_by a (reading_of a (Data c a body))

abbrev pub request_at : (len : ℕ) → Front → Option (ℕ × Asked)
request_at len (Whole frame n) = if n == len then asked_in frame else None
request_at len More = None
request_at len (Never place why) = None

-- the address and the request of the frame that the octets are
abbrev pub request_in : LinkSize → List ℕ → Option (ℕ × Asked)
request_in size octets = request_at (length octets) (front_of size octets)
