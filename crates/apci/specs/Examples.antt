-- APDUs worked by hand from IEC 60870-5-104, 5: their octets, and what distinguishes their formats.
use Rattle.std.specs.Prelude.{◌≡◌, ℕ, ◌%◌, ◌<◌, ◌≤◌, List, [], ◌∷◌}
use Rattle.apci.specs.declared.apdu.Uf.TheVariants.{StartAct, StartCon, StopAct, StopCon, TestAct}
use Rattle.apci.specs.declared.apdu.Uf.TheVariants.{TestCon}
use Rattle.apci.specs.declared.apdu.Apdu.{Apdu}
use Rattle.apci.specs.declared.apdu.Apdu.TheVariants.{I, S, U}
use Rattle.apci.specs.declared.apdu.Why.{Why}
use Rattle.apci.specs.declared.apdu.Why.TheVariants.{Start, Length, Control, NotFour, Short}
use Rattle.apci.specs.Spelling.{spelling, Fits}
use Rattle.apci.specs.Reading.{refusal}

-- ---- Octets

pub record Spelled : Type 0 where
  pub apdu : Apdu
  pub octets : List ℕ

abbrev pub is_spelled : Apdu → List ℕ → Spelled
is_spelled apdu octets = record { apdu = apdu; octets = octets }

-- the APDU fits, and these are its octets
abbrev pub IsSpelledSo : Spelled → Type 0
IsSpelledSo e = Fits e.apdu × (spelling e.apdu ≡ e.octets)

abbrev pub with_asdu : (ns nr : ℕ) → List ℕ → Apdu
with_asdu ns nr asdu = I ns nr (record { items = asdu })

-- the shortest ASDU: an interrogation without its qualifier
abbrev pub nine_octets : List ℕ
nine_octets = 0x64 ∷ 0x01 ∷ 0x06 ∷ 0x00 ∷ 0x01 ∷ 0x00 ∷ 0x00 ∷ 0x00 ∷ 0x00 ∷ []

abbrev pub spelling_examples : List Spelled
spelling_examples =
    -- STARTDT, STOPDT and TESTFR, each act and con (5.3)
    is_spelled (U StartAct) (0x68 ∷ 0x04 ∷ 0x07 ∷ 0x00 ∷ 0x00 ∷ 0x00 ∷ [])
    ∷ is_spelled (U StartCon) (0x68 ∷ 0x04 ∷ 0x0B ∷ 0x00 ∷ 0x00 ∷ 0x00 ∷ [])
    ∷ is_spelled (U StopAct) (0x68 ∷ 0x04 ∷ 0x13 ∷ 0x00 ∷ 0x00 ∷ 0x00 ∷ [])
    ∷ is_spelled (U StopCon) (0x68 ∷ 0x04 ∷ 0x23 ∷ 0x00 ∷ 0x00 ∷ 0x00 ∷ [])
    ∷ is_spelled (U TestAct) (0x68 ∷ 0x04 ∷ 0x43 ∷ 0x00 ∷ 0x00 ∷ 0x00 ∷ [])
    ∷ is_spelled (U TestCon) (0x68 ∷ 0x04 ∷ 0x83 ∷ 0x00 ∷ 0x00 ∷ 0x00 ∷ [])
    -- N(R) stands in bits 15 to 1, the low octet first
    ∷ is_spelled (S 1) (0x68 ∷ 0x04 ∷ 0x01 ∷ 0x00 ∷ 0x02 ∷ 0x00 ∷ [])
    ∷ is_spelled (S 128) (0x68 ∷ 0x04 ∷ 0x01 ∷ 0x00 ∷ 0x00 ∷ 0x01 ∷ [])
    ∷ is_spelled (S 32767) (0x68 ∷ 0x04 ∷ 0x01 ∷ 0x00 ∷ 0xFE ∷ 0xFF ∷ [])
    -- N(S) before N(R) before the ASDU; the length counts what follows it
    ∷ is_spelled (with_asdu 32767 1 nine_octets)
    (0x68 ∷ 0x0D ∷ 0xFE ∷ 0xFF ∷ 0x02 ∷ 0x00 ∷ nine_octets)
    ∷ []

-- ---- Formats

pub record Refused : Type 0 where
  pub octets : List ℕ
  pub decides : ℕ
  pub place : ℕ
  pub why : Why

-- octets, the place of the one that decides, and the place and refusal that are given
abbrev pub is_refused : List ℕ → ℕ → ℕ → Why → Refused
is_refused octets decides place why =
    record { octets = octets; decides = decides; place = place; why = why }

abbrev pub IsRefusedSo : Refused → Type 0
IsRefusedSo e = refusal e.octets e.decides ≡ (e.place, e.why)

abbrev pub refusal_examples : List Refused
refusal_examples =
    is_refused (0xE5 ∷ 0x03 ∷ []) 0 0 Start
    ∷ is_refused (0x68 ∷ 0x03 ∷ []) 1 1 Length
    ∷ is_refused (0x68 ∷ 0xFE ∷ []) 1 1 Length
    -- no format has these control octets
    ∷ is_refused (0x68 ∷ 0x04 ∷ 0x03 ∷ []) 2 2 Control
    ∷ is_refused (0x68 ∷ 0x05 ∷ 0x0F ∷ []) 2 2 Control
    -- the control octet decides on the length
    ∷ is_refused (0x68 ∷ 0x05 ∷ 0x07 ∷ []) 2 1 NotFour
    ∷ is_refused (0x68 ∷ 0x06 ∷ 0x01 ∷ []) 2 1 NotFour
    ∷ is_refused (0x68 ∷ 0x0C ∷ 0x00 ∷ []) 2 1 Short
    -- a control octet that isn't 0, and one whose lowest bit isn't
    ∷ is_refused (0x68 ∷ 0x04 ∷ 0x43 ∷ 0x01 ∷ []) 3 3 Control
    ∷ is_refused (0x68 ∷ 0x0D ∷ 0x00 ∷ 0x00 ∷ 0x01 ∷ []) 4 4 Control
    ∷ is_refused (0x68 ∷ 0x04 ∷ 0x43 ∷ 0x00 ∷ 0x00 ∷ 0x01 ∷ []) 5 5 Control
    ∷ []
