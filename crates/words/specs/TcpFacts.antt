-- The lines that show octets of the connection (texts of this gateway's own profile; the formats
-- are those of IEC 60870-5-104, 5.1).
use Rattle.std.specs.Prelude.{◌≡◌, ℕ, ◌-◌, codes, List, [], ◌∷◌, ◌++◌, length}
use Rattle.std.specs.Fmt.{decimal}
use Rattle.apci.specs.declared.apdu.Uf.{Uf}
use Rattle.apci.specs.declared.apdu.Uf.TheVariants.{StartAct, StartCon, StopAct, StopCon, TestAct}
use Rattle.apci.specs.declared.apdu.Uf.TheVariants.{TestCon}
use Rattle.apci.specs.declared.apdu.Apdu.{Apdu}
use Rattle.apci.specs.declared.apdu.Apdu.TheVariants.{I, S, U}
use Rattle.apci.specs.declared.apdu.Why.{Why}
use Rattle.apci.specs.declared.apdu.Why.TheVariants as why
use Rattle.apci.specs.declared.apdu.Front.{Front}
use Rattle.apci.specs.declared.apdu.Front.TheVariants.{Whole, More, Never}
use Rattle.apci.specs.Reading.{IsFront}
use Rattle.asdu.specs.Sizes.{tcp}
use Rattle.words.specs.Condition.{rest_line, with_rest}
use Rattle.words.specs.UnitFacts.{unit_lines, unit_condition}
use Rattle.words.specs.declared.facts.condition.Condition.{Condition}
use Rattle.words.specs.declared.facts.condition.Condition.TheVariants as condition

abbrev pub function_text : Uf → List ℕ
function_text StartAct = codes "STARTDT act"
function_text StartCon = codes "STARTDT con"
function_text StopAct = codes "STOPDT act"
function_text StopCon = codes "STOPDT con"
function_text TestAct = codes "TESTFR act"
function_text TestCon = codes "TESTFR con"

abbrev pub apdu_line : Apdu → List ℕ
apdu_line (I ns nr asdu) =
    codes "I ns=" ++ decimal ns ++ codes " nr=" ++ decimal nr
    ++ codes " octets=" ++ decimal (length asdu.items) ++ 10 ∷ []
apdu_line (S nr) = codes "S nr=" ++ decimal nr ++ 10 ∷ []
apdu_line (U f) = codes "U " ++ function_text f ++ 10 ∷ []

-- the number of a refusal
abbrev pub number_of : Why → ℕ
number_of why.Start = 1
number_of why.Length = 2
number_of why.Control = 3
number_of why.NotFour = 4
number_of why.Short = 5

-- an APDU, and what its ASDU is
abbrev pub apdu_lines : Apdu → List ℕ
apdu_lines (I ns nr asdu) = apdu_line (I ns nr asdu) ++ unit_lines tcp asdu.items
apdu_lines (S nr) = apdu_line (S nr)
apdu_lines (U f) = apdu_line (U f)

abbrev pub apdu_condition : Apdu → Condition
apdu_condition (I ns nr asdu) = unit_condition tcp asdu.items
apdu_condition (S nr) = condition.Good
apdu_condition (U f) = condition.Good

-- what stands at the front of n octets
abbrev pub front_lines : ℕ → Front → List ℕ
front_lines n (Whole apdu len) = apdu_lines apdu ++ rest_line (n - len)
front_lines n More = codes "truncated" ++ 10 ∷ []
front_lines n (Never place w) =
    codes "refused " ++ decimal (number_of w) ++ codes " at " ++ decimal place ++ 10 ∷ []

abbrev pub front_condition : ℕ → Front → Condition
front_condition n (Whole apdu len) = with_rest (n - len) (apdu_condition apdu)
front_condition n More = condition.Faulty
front_condition n (Never place w) = condition.Faulty

-- the lines are those of the front of the octets, and so is the condition
pub record IsTcpShown (octets text : List ℕ) (result : Condition) : Type 0 where
  pub front : Front
  pub is_front : IsFront octets front
  pub lines : text ≡ front_lines (length octets) front
  pub condition : result ≡ front_condition (length octets) front
