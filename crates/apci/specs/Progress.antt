-- What an assembler has kept of an APDU, as the octets that it stands for.
use Rattle.std.specs.Prelude.{◌≡◌, ℕ, ◌+◌, ◌%◌, ◌^◌, ◌<◌, ◌≤◌, List, [], ◌∷◌, ◌++◌, length, All}
use Rattle.std.specs.Prelude.{Option, Some, None}
use Rattle.apci.specs.declared.apdu.Apdu.{Apdu}
use Rattle.apci.specs.declared.apdu.Apdu.TheVariants as apdu
use Rattle.apci.specs.Short.{apdu_of}
use Rattle.apci.specs.declared.apdu.Front.TheVariants.{Whole, Never}
use Rattle.apci.specs.declared.assembling.State.{State}
use Rattle.apci.specs.declared.assembling.State.TheVariants as state
use Rattle.apci.specs.declared.assembling.OctetStep.{OctetStep}
use Rattle.apci.specs.declared.assembling.OctetStep.TheVariants as step
use Rattle.apci.specs.Spelling.{counter, function, IsOctet}
use Rattle.apci.specs.Reading.{IsFront}

-- the octets that came since the last APDU, or none if the assembler is deaf
abbrev pub so_far : State → List ℕ → Option (List ℕ)
so_far state.Deaf asdu = None
so_far state.Start asdu = Some []
so_far state.Length asdu = Some (0x68 ∷ [])
so_far (state.Control len) asdu = Some (0x68 ∷ len ∷ [])
so_far (state.ISecond len low) asdu = Some (0x68 ∷ len ∷ low ∷ [])
so_far (state.IThird len ns) asdu = Some (0x68 ∷ len ∷ counter ns)
so_far (state.IFourth len ns low) asdu = Some (0x68 ∷ len ∷ (counter ns ++ low ∷ []))
so_far (state.Asdu len ns nr) asdu = Some (0x68 ∷ len ∷ (counter ns ++ counter nr ++ asdu))
so_far state.SSecond asdu = Some (0x68 ∷ 4 ∷ 0x01 ∷ [])
so_far state.SThird asdu = Some (0x68 ∷ 4 ∷ 0x01 ∷ 0x00 ∷ [])
so_far (state.SFourth low) asdu = Some (0x68 ∷ 4 ∷ 0x01 ∷ 0x00 ∷ low ∷ [])
so_far (state.USecond f) asdu = Some (0x68 ∷ 4 ∷ function f ∷ [])
so_far (state.UThird f) asdu = Some (0x68 ∷ 4 ∷ function f ∷ 0x00 ∷ [])
so_far (state.UFourth f) asdu = Some (0x68 ∷ 4 ∷ function f ∷ 0x00 ∷ 0x00 ∷ [])
so_far (state.Information ns nr) asdu = Some []
so_far (state.Short a) asdu = Some []

-- the APDU that is whole and isn't taken yet
abbrev pub whole : State → List ℕ → Option Apdu
whole (state.Information ns nr) asdu = Some (apdu.I ns nr (record { items = asdu }))
whole (state.Short a) asdu = Some (apdu_of a)
whole other asdu = None

-- the length of an I format
abbrev pub IsLong : ℕ → Type 0
IsLong len = (13 ≤ len) × (len ≤ 253)

-- the first octet of a counter
abbrev pub IsLow : ℕ → Type 0
IsLow low = (low < 256) × (low % 2 ≡ 0)

-- the octets so far begin an APDU, and nothing of an ASDU is kept if none has come
abbrev pub IsState : State → List ℕ → Type 0
IsState state.Deaf asdu = Unit {0}
IsState (state.Control len) asdu = (asdu ≡ []) × (4 ≤ len) × (len ≤ 253)
IsState (state.ISecond len low) asdu = (asdu ≡ []) × IsLong len × IsLow low
IsState (state.IThird len ns) asdu = (asdu ≡ []) × IsLong len × (ns < 2 ^ 15)
IsState (state.IFourth len ns low) asdu = (asdu ≡ []) × IsLong len × (ns < 2 ^ 15) × IsLow low
IsState (state.Asdu len ns nr) asdu =
    IsLong len × (ns < 2 ^ 15) × (nr < 2 ^ 15) × All IsOctet asdu × (length asdu + 4 < len)
IsState (state.SFourth low) asdu = (asdu ≡ []) × IsLow low
IsState state.Start asdu = asdu ≡ []
IsState state.Length asdu = asdu ≡ []
IsState state.SSecond asdu = asdu ≡ []
IsState state.SThird asdu = asdu ≡ []
IsState (state.USecond f) asdu = asdu ≡ []
IsState (state.UThird f) asdu = asdu ≡ []
IsState (state.UFourth f) asdu = asdu ≡ []
IsState (state.Information ns nr) asdu = Unit {0}
IsState (state.Short a) asdu = asdu ≡ []

-- What one more octet gives: the octets with it, the ASDU so far, the octet, the state before it.
abbrev pub Gives : List ℕ → List ℕ → ℕ → State → OctetStep → Type 0
Gives octets asdu o old (step.Goes new) =
    (so_far new asdu ≡ Some octets) × IsState new asdu × (whole new asdu ≡ None)
Gives octets asdu o old step.Keeps =
    (so_far old (asdu ++ o ∷ []) ≡ Some octets) × IsState old (asdu ++ o ∷ []) × (length asdu < 249)
    × (whole old (asdu ++ o ∷ []) ≡ None)
Gives octets asdu o old (step.I ns nr) =
    IsFront octets (Whole (apdu.I ns nr (record { items = asdu ++ o ∷ [] })) (length octets))
    × (length asdu < 249)
Gives octets asdu o old (step.S nr) =
    IsFront octets (Whole (apdu.S nr) (length octets)) × (asdu ≡ [])
Gives octets asdu o old (step.U f) = IsFront octets (Whole (apdu.U f) (length octets)) × (asdu ≡ [])
Gives octets asdu o old (step.Never place why) = IsFront octets (Never place why)
