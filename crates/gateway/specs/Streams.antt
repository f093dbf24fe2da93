-- APDUs one after another in joined octets (IEC 60870-5-104, 5). Lists of frames are the newest
-- first.
use Rattle.std.specs.Prelude.{◌≡◌, ℕ, List, [], ◌∷◌, ◌++◌}
use Rattle.apci.specs.declared.apdu.Apdu.{Apdu}
use Rattle.apci.specs.declared.apdu.Front.TheVariants.{Never}
use Rattle.apci.specs.declared.apdu.Why.{Why}
use Rattle.apci.specs.Spelling.{spelling, Fits}
use Rattle.apci.specs.Reading.{IsFront}

-- the octets of frames, joined
abbrev pub spelled : List Apdu → List ℕ
spelled [] = []
spelled (frame ∷ older) = spelled older ++ spelling frame

abbrev pub AllFit : List Apdu → Type 0
AllFit [] = Unit {0}
AllFit (frame ∷ older) = Fits frame × AllFit older

-- the octets are these frames and nothing more
pub record AreFrames (octets : List ℕ) (frames : List Apdu) : Type 0 where
  pub joined : octets ≡ spelled frames
  pub fit : AllFit frames

-- the octets are one frame
pub record IsOneFrame (octets : List ℕ) : Type 0 where
  pub frame : Apdu
  pub fits : Fits frame
  pub spelled_so : octets ≡ spelling frame

-- no APDU begins with the octets, nor is one at their front
abbrev pub IsRefused : List ℕ → Type 0
IsRefused octets = (place : ℕ) × (why : Why) × IsFront octets (Never place why)
