-- ACD and DFC: what a station says of itself in its answers (IEC 60870-5-2, 5.1: the control field
-- of a secondary station). That the single character clears both is this gateway's own profile.
use Rattle.std.specs.Prelude.{◌≡◌, ℕ, Bool, true, false, List, [], ◌∷◌, Option, Some, slice_index}
use Rattle.ft12.specs.declared.frame.Front.{Front}
use Rattle.link.specs.Control.{shows_acd, shows_dfc}
use Rattle.link.specs.Answers.{Frame, Single, Fixed, Data, Class1, Class2, Command, Asked, Status}
use Rattle.link.specs.Answers.{Reset, Counted, Answer}
use Rattle.link.specs.Exchanges.{Exchange, Exchanges, answer_to, all_of, views, with_station}
use Rattle.link.specs.Procedure.{LinkSettings, Link, Down, link_after}

-- ACD: class 1 data wait. DFC: further user data may be lost.
pub record Flags : Type 0 where
  pub acd : Bool
  pub dfc : Bool

abbrev pub clear : Flags
clear = record { acd = false; dfc = false }

-- the flags that a station's frame shows
abbrev pub flags_in : Frame → Flags
flags_in Single = clear
flags_in (Fixed control address) = record { acd = shows_acd control; dfc = shows_dfc control }
flags_in (Data control address body) = record { acd = shows_acd control; dfc = shows_dfc control }

-- the flags after an exchange: an answer brings new ones
abbrev pub flags_by : Option Answer → Option Frame → Flags → Flags
flags_by (Some answer) (Some frame) flags = flags_in frame
flags_by answer front flags = flags

-- The flags that these exchanges with a station leave: those of its latest answer, or these if
-- there is none.
abbrev pub flags_after : (station : ℕ) → Flags → List Exchange → Flags
flags_after station flags [] = flags
flags_after station flags (x ∷ xs) =
    flags_after station (flags_by (answer_to station x) x.front flags) xs

-- the flags of the station with this index, by the exchanges of its line
abbrev pub flags_at : (front : List ℕ → Front) → (addresses : List ℕ) → (station : ℕ) → Exchanges →
    Flags
flags_at front addresses station e =
    flags_after (slice_index addresses station) clear
    (with_station station (views front (all_of e)))

-- and its link
abbrev pub link_at : LinkSettings → (front : List ℕ → Front) → (addresses : List ℕ) →
    (station : ℕ) → Exchanges → Link
link_at settings front addresses station e =
    link_after settings (slice_index addresses station) Down
    (with_station station (views front (all_of e)))

-- A service with a new frame count bit heeds the flags. Class 1 is polled if its data wait, and
-- class 2 if none wait. A command is sent if the station takes user data.
abbrev pub Heeds : Flags → Asked → Type 0
Heeds flags Status = Unit {0}
Heeds flags Reset = Unit {0}
Heeds flags (Counted fcb Class1) = flags.acd ≡ true
Heeds flags (Counted fcb Class2) = flags.acd ≡ false
Heeds flags (Counted fcb (Command asdu)) = flags.dfc ≡ false
