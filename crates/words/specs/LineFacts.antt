-- The lines that show octets of the serial line (texts of this gateway's own profile; the frames
-- and the fields of the control octet are those of IEC 60870-5-1, 6.2.4.2 and IEC 60870-5-2, 5.1).
use Rattle.std.specs.Prelude.{◌≡◌, ℕ, ◌-◌, if◌then◌else◌, codes, List, [], ◌∷◌, ◌++◌, length}
use Rattle.std.specs.Fmt.{decimal}
use Rattle.hex.specs.Hex.{encode_upper}
use Rattle.ft12.specs.declared.frame.Frame.{Frame}
use Rattle.ft12.specs.declared.frame.Frame.TheVariants.{Single, Fixed, Data}
use Rattle.ft12.specs.declared.frame.Why.{Why}
use Rattle.ft12.specs.declared.frame.Why.TheVariants as why
use Rattle.ft12.specs.declared.frame.Front.{Front}
use Rattle.ft12.specs.declared.frame.Front.TheVariants.{Whole, More, Never}
use Rattle.ft12.specs.Reading.{IsFront}
use Rattle.link.specs.Control.{is_primary, fcb_bit, fcv_bit, acd_bit, dfc_bit, function_code}
use Rattle.words.specs.Bits.{flag}
use Rattle.words.specs.Condition.{rest_line, with_rest}
use Rattle.words.specs.UnitFacts.{unit_lines, unit_condition}
use Rattle.words.specs.declared.facts.sizes.LineSizes.{LineSizes}
use Rattle.words.specs.declared.facts.condition.Condition.{Condition}
use Rattle.words.specs.declared.facts.condition.Condition.TheVariants as condition

-- The control octet and its fields: PRM, and then FCB and FCV of a primary station, or ACD and DFC
-- of a secondary one, and the number of the function.
abbrev pub primary_text : ℕ → List ℕ
primary_text c =
    codes "c=" ++ encode_upper (c ∷ []) ++ codes " prm=1 fcb=" ++ decimal (flag (fcb_bit c))
    ++ codes " fcv=" ++ decimal (flag (fcv_bit c))
    ++ codes " function=" ++ decimal (function_code c)

abbrev pub secondary_text : ℕ → List ℕ
secondary_text c =
    codes "c=" ++ encode_upper (c ∷ []) ++ codes " prm=0 acd=" ++ decimal (flag (acd_bit c))
    ++ codes " dfc=" ++ decimal (flag (dfc_bit c))
    ++ codes " function=" ++ decimal (function_code c)

abbrev pub control_text : ℕ → List ℕ
control_text c = if is_primary c then primary_text c else secondary_text c

abbrev pub frame_line : Frame → List ℕ
frame_line Single = codes "single" ++ 10 ∷ []
frame_line (Fixed c a) =
    codes "fixed " ++ control_text c ++ codes " address=" ++ decimal a ++ 10 ∷ []
frame_line (Data c a body) =
    codes "data " ++ control_text c ++ codes " address=" ++ decimal a
    ++ codes " octets=" ++ decimal (length body.items) ++ 10 ∷ []

-- the number of a refusal
abbrev pub number_of : Why → ℕ
number_of why.Start = 1
number_of why.LengthsDiffer = 2
number_of why.SecondStart = 3
number_of why.LengthSmall = 4
number_of why.Sum = 5
number_of why.End = 6

-- a frame, and what its data are
abbrev pub frame_lines : LineSizes → Frame → List ℕ
frame_lines s (Data c a body) = frame_line (Data c a body) ++ unit_lines s.asdu body.items
frame_lines s Single = frame_line Single
frame_lines s (Fixed c a) = frame_line (Fixed c a)

abbrev pub frame_condition : LineSizes → Frame → Condition
frame_condition s (Data c a body) = unit_condition s.asdu body.items
frame_condition s Single = condition.Good
frame_condition s (Fixed c a) = condition.Good

-- what stands at the front of n octets
abbrev pub front_lines : LineSizes → ℕ → Front → List ℕ
front_lines s n (Whole frame len) = frame_lines s frame ++ rest_line (n - len)
front_lines s n More = codes "truncated" ++ 10 ∷ []
front_lines s n (Never place w) =
    codes "refused " ++ decimal (number_of w) ++ codes " at " ++ decimal place ++ 10 ∷ []

abbrev pub front_condition : LineSizes → ℕ → Front → Condition
front_condition s n (Whole frame len) = with_rest (n - len) (frame_condition s frame)
front_condition s n More = condition.Faulty
front_condition s n (Never place w) = condition.Faulty

-- the lines are those of the front of the octets, and so is the condition
pub record IsLineShown (s : LineSizes) (octets text : List ℕ) (result : Condition) : Type 0 where
  pub front : Front
  pub is_front : IsFront s.link octets front
  pub lines : text ≡ front_lines s (length octets) front
  pub condition : result ≡ front_condition s (length octets) front
