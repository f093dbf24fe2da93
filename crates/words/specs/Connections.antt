-- APDUs of the connection in words (IEC 60870-5-104, 5).
use Rattle.std.specs.Prelude.{◌≡◌, ℕ, ◌-◌, codes, List, [], ◌∷◌, ◌++◌, length}
use Rattle.std.specs.Fmt.{decimal}
use Rattle.apci.specs.declared.apdu.Apdu.{Apdu}
use Rattle.apci.specs.declared.apdu.Apdu.TheVariants.{I, S, U}
use Rattle.apci.specs.declared.apdu.Why.{Why}
use Rattle.apci.specs.declared.apdu.Why.TheVariants as why
use Rattle.apci.specs.declared.apdu.Front.{Front}
use Rattle.apci.specs.declared.apdu.Front.TheVariants.{Whole, More, Never}
use Rattle.apci.specs.Reading.{IsFront}
use Rattle.asdu.specs.Sizes.{tcp}
use Rattle.words.specs.declared.facts.condition.Condition.{Condition}
use Rattle.words.specs.TcpFacts.{function_text, front_condition}
use Rattle.words.specs.Faults.{rest_words, no_frame, cut_off}
use Rattle.words.specs.Units.{data_words}

-- send and receive number
unfoldable pub numbers_words : (ns nr : ℕ) → List ℕ
numbers_words ns nr = codes "I " ++ (decimal ns ++ (codes " " ++ decimal nr))

unfoldable pub apdu_words : Apdu → List ℕ
apdu_words (I ns nr asdu) = numbers_words ns nr ++ data_words tcp asdu.items
apdu_words (S nr) = codes "S " ++ decimal nr
apdu_words (U f) = function_text f

-- what is wrong at the first wrong place
unfoldable pub fault_of : Why → List ℕ
fault_of why.Start = codes "no start octet"
fault_of why.Length = codes "a length out of range"
fault_of why.Control = codes "no such format"
fault_of why.NotFour = codes "a length other than 4"
fault_of why.Short = codes "no room for an ASDU"

-- the front of n octets
unfoldable pub front_words : ℕ → Front → List ℕ
front_words n (Whole apdu len) = apdu_words apdu ++ rest_words (n - len)
front_words n More = cut_off n
front_words n (Never place w) = no_frame (fault_of w) place

-- the text is that of the front of the octets, and the condition is that of `show_tcp`
pub record AreConnectionWords (octets text : List ℕ) (result : Condition) : Type 0 where
  pub front : Front
  pub is_front : IsFront octets front
  pub words : text ≡ front_words (length octets) front ++ 10 ∷ []
  pub condition : result ≡ front_condition (length octets) front
