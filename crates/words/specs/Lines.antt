-- Frames of the serial line in words (IEC 60870-5-2, 5.1; IEC 60870-5-101, 6).
use Rattle.std.specs.Prelude.{◌≡◌, ℕ, ◌-◌, ◌==◌, Bool, if◌then◌else◌, codes, List, []}
use Rattle.std.specs.Prelude.{◌∷◌, ◌++◌, length}
use Rattle.std.specs.Fmt.{decimal}
use Rattle.ft12.specs.declared.frame.Frame.{Frame}
use Rattle.ft12.specs.declared.frame.Frame.TheVariants.{Single, Fixed, Data}
use Rattle.ft12.specs.declared.frame.Why.{Why}
use Rattle.ft12.specs.declared.frame.Why.TheVariants as why
use Rattle.ft12.specs.declared.frame.Front.{Front}
use Rattle.ft12.specs.declared.frame.Front.TheVariants.{Whole, More, Never}
use Rattle.ft12.specs.Reading.{IsFront}
use Rattle.link.specs.Control.{is_primary, fcb_bit, fcv_bit, acd_bit, dfc_bit, function_code}
use Rattle.words.specs.declared.facts.condition.Condition.{Condition}
use Rattle.words.specs.declared.facts.sizes.LineSizes.{LineSizes}
use Rattle.words.specs.LineFacts.{front_condition}
use Rattle.words.specs.Faults.{rest_words, no_frame, cut_off}
use Rattle.words.specs.Units.{data_words}

-- ---- The control octet

-- the functions of a primary station
unfoldable pub primary_name : ℕ → List ℕ
primary_name n =
    if n == 0 then codes "reset link"
    else (if n == 1 then codes "reset process"
    else (if n == 3 then codes "user data"
    else (if n == 4 then codes "user data, no reply"
    else (if n == 8 then codes "access demand"
    else (if n == 9 then codes "link status"
    else (if n == 10 then codes "poll class 1"
    else (if n == 11 then codes "poll class 2" else codes "reserved function")))))))

-- and of a secondary one
unfoldable pub secondary_name : ℕ → List ℕ
secondary_name n =
    if n == 0 then codes "ACK"
    else (if n == 1 then codes "NACK"
    else (if n == 8 then codes "user data"
    else (if n == 9 then codes "no data"
    else (if n == 11 then codes "link status"
    else (if n == 14 then codes "not functioning"
    else (if n == 15 then codes "not implemented" else codes "reserved function"))))))

-- the frame count bit, if it is valid
unfoldable pub fcb_text : (fcb fcv : Bool) → List ℕ
fcb_text fcb fcv =
    if fcv then (if fcb then codes " (FCB 1)" else codes " (FCB 0)") else []

-- access demand, and data flow control
unfoldable pub demand_text : (acd dfc : Bool) → List ℕ
demand_text acd dfc =
    if acd then (if dfc then codes ", ACD, DFC" else codes ", ACD")
    else (if dfc then codes ", DFC" else [])

-- what a primary station asks of an address, and what a secondary one answers from it
unfoldable pub asked_words : (function a : ℕ) → (fcb fcv : Bool) → List ℕ
asked_words function a fcb fcv =
    primary_name function ++ (codes " to " ++ (decimal a ++ fcb_text fcb fcv))

unfoldable pub answered_words : (function a : ℕ) → (acd dfc : Bool) → List ℕ
answered_words function a acd dfc =
    secondary_name function ++ (codes " from " ++ (decimal a ++ demand_text acd dfc))

-- control octet and address
unfoldable pub control_words : (c a : ℕ) → List ℕ
control_words c a =
    if is_primary c then asked_words (function_code c) a (fcb_bit c) (fcv_bit c)
    else answered_words (function_code c) a (acd_bit c) (dfc_bit c)

-- ---- Frames

unfoldable pub frame_words : LineSizes → Frame → List ℕ
frame_words s Single = codes "ACK (E5)"
frame_words s (Fixed c a) = control_words c a
frame_words s (Data c a body) = control_words c a ++ data_words s.asdu body.items

-- ---- What stands at the front of octets

-- what is wrong at the first wrong place
unfoldable pub fault_of : Why → List ℕ
fault_of why.Start = codes "no start octet"
fault_of why.LengthsDiffer = codes "unlike lengths"
fault_of why.SecondStart = codes "no second start octet"
fault_of why.LengthSmall = codes "too small a length"
fault_of why.Sum = codes "a wrong sum"
fault_of why.End = codes "no end octet"

-- the front of n octets
unfoldable pub front_words : LineSizes → ℕ → Front → List ℕ
front_words s n (Whole frame len) = frame_words s frame ++ rest_words (n - len)
front_words s n More = cut_off n
front_words s n (Never place w) = no_frame (fault_of w) place

-- the text is that of the front of the octets, and the condition is that of `show_line`
pub record AreLineWords (s : LineSizes) (octets text : List ℕ) (result : Condition) : Type 0 where
  pub front : Front
  pub is_front : IsFront s.link octets front
  pub words : text ≡ front_words s (length octets) front ++ 10 ∷ []
  pub condition : result ≡ front_condition s (length octets) front
