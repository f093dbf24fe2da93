-- An ASDU of the control centre that is refused, octet by octet (IEC 60870-5-101, 7.2.3: cause of
-- transmission, P/N and test bit stand in the third octet). Nothing here is borrowed from
-- `command`.
use Rattle.std.specs.Prelude.{◌≡◌, ℕ, ◌+◌, nat_lt, if◌then◌else◌, List, [], ◌∷◌}
use Rattle.command.specs.History.{History, Sent, Accepted, Refused, GivenUp, Ended}

-- the cause stands in bits 5 to 0, bit 6 is P/N, which is 1, and bit 7 is the test bit as it was
abbrev pub refused_octet : (why octet : ℕ) → ℕ
refused_octet why octet = if nat_lt octet 128 then 64 + why else 192 + why

-- all other octets are those that came
abbrev pub refused_as : (why : ℕ) → List ℕ → List ℕ
refused_as why (kind ∷ number ∷ octet ∷ rest) = kind ∷ number ∷ refused_octet why octet ∷ rest
refused_as why xs = xs

-- None of these ends what stands on the line of a station. No command to it goes out, and none is
-- accepted, refused as busy or given up. The connection goes on.
abbrev pub StaysOnLine : (station : ℕ) → History → Type 0
StaysOnLine k [] = Unit {0}
StaysOnLine k (Sent j octets ∷ h) = (k ≡ j → ⊥) × StaysOnLine k h
StaysOnLine k (Accepted j ∷ h) = (k ≡ j → ⊥) × StaysOnLine k h
StaysOnLine k (Refused j answer ∷ h) = (k ≡ j → ⊥) × StaysOnLine k h
StaysOnLine k (GivenUp j was ∷ h) = (k ≡ j → ⊥) × StaysOnLine k h
StaysOnLine k (Ended ∷ h) = ⊥
StaysOnLine k (entry ∷ h) = StaysOnLine k h
