-- What the frames of a connection say (IEC 60870-5-104, 5.1 and 5.3).
use Rattle.std.specs.Prelude.{◌≡◌, ℕ, suc, ◌+◌, ◌%◌, Bool, true, false, not, ◌==◌, nat_lt}
use Rattle.std.specs.Prelude.{if◌then◌else◌, List, [], ◌∷◌, ◌++◌, length, take, drop, Option, Some}
use Rattle.std.specs.Prelude.{None}
use Rattle.std.specs.List.{flat_map}
use Rattle.apci.specs.declared.apdu.Apdu.{Apdu}
use Rattle.apci.specs.declared.apdu.Apdu.TheVariants.{I, S, U}
use Rattle.apci.specs.declared.apdu.Uf.TheVariants.{StartAct, StopAct}
use Rattle.asdu.specs.InformationObjects.{InformationObject}
use Rattle.session.specs.History.{reached}
use Rattle.session.specs.declared.kinds.Close.{Close}
use Rattle.session.specs.declared.kinds.Close.TheVariants.{SendNumber, ReceiveNumber, Stopped}
use Rattle.gateway.specs.Objects.{objects, has_objects}

-- an I frame that was handed to TCP
pub record Sent : Type 0 where
  pub ns : ℕ
  pub nr : ℕ
  pub asdu : List ℕ

pub record Connection : Type 0 where
  -- the I frames handed to TCP, oldest first
  pub sent_frames : List Sent
  -- the frames received, the latest first, up to the first that is at fault
  pub received_frames : List Apdu

abbrev pub new_connection : Connection
new_connection = record { sent_frames = []; received_frames = [] }

-- the I frames among frames handed to TCP, oldest first
abbrev pub data_frames : List Apdu → List Sent
data_frames [] = []
data_frames (I ns nr asdu ∷ older) = data_frames older
    ++ record { ns = ns; nr = nr; asdu = asdu.items } ∷ []
data_frames (_ ∷ older) = data_frames older

-- each bears the next N(S), from n on (5.1)
abbrev pub IsNumberedFrom : ℕ → List Sent → Type 0
IsNumberedFrom n [] = Unit {0}
IsNumberedFrom n (f ∷ fs) = (f.ns ≡ n % 32768) × IsNumberedFrom (suc n) fs

-- the latest STARTDT act or STOPDT act, if any, is a STARTDT act (5.3)
abbrev pub transfers : List Apdu → Bool
transfers [] = false
transfers (U StartAct ∷ older) = true
transfers (U StopAct ∷ older) = false
transfers (_ ∷ older) = transfers older

abbrev pub i_frames : List Apdu → ℕ
i_frames [] = 0
i_frames (I ns nr asdu ∷ older) = suc (i_frames older)
i_frames (_ ∷ older) = i_frames older

-- How many sent I frames these frames acknowledge: each N(R) moves the count to the least number
-- that isn't below it and equals N(R) modulo 32768 (5.1).
abbrev pub acknowledged_count : List Apdu → ℕ
acknowledged_count [] = 0
acknowledged_count (I ns nr asdu ∷ older) = reached (acknowledged_count older) nr
acknowledged_count (S nr ∷ older) = reached (acknowledged_count older) nr
acknowledged_count (U u ∷ older) = acknowledged_count older

-- more I frames would be acknowledged than were sent
abbrev pub receive_fault : ℕ → List Apdu → ℕ → Option Close
receive_fault sent older nr =
    if nat_lt sent (reached (acknowledged_count older) nr) then Some ReceiveNumber else None

-- The fault of a frame behind these, if so many I frames were sent: an I frame while data transfer
-- is stopped (5.3), an N(S) that isn't the next, or an N(R) that isn't valid (5.1).
abbrev pub fault_of : ℕ → List Apdu → Apdu → Option Close
fault_of sent older (I ns nr asdu) =
    if not (transfers older) then Some Stopped
    else (if not (ns == i_frames older % 32768) then Some SendNumber
    else receive_fault sent older nr)
fault_of sent older (S nr) = receive_fault sent older nr
fault_of sent older (U u) = None

-- the monitor objects of I frames
abbrev pub objects_of_frames : List Sent → List InformationObject
objects_of_frames frames = flat_map (λ f. objects f.asdu) frames

abbrev pub monitor_objects_sent : Connection → List InformationObject
monitor_objects_sent c = objects_of_frames c.sent_frames

abbrev pub acknowledged_frames : Connection → List Sent
acknowledged_frames c = take (acknowledged_count c.received_frames) c.sent_frames

-- the place of the first object that none of these connections acknowledged, among all objects
-- taken
abbrev pub first_unacknowledged : List Connection → ℕ
first_unacknowledged [] = 0
first_unacknowledged (c ∷ before) =
    length (objects_of_frames (acknowledged_frames c)) + first_unacknowledged before

-- how many frames have monitor objects
abbrev pub reports_among : List Sent → ℕ
reports_among [] = 0
reports_among (f ∷ fs) = if has_objects f.asdu then suc (reports_among fs) else reports_among fs

-- how many of these connections' frames with monitor objects were acknowledged
abbrev pub acknowledged_reports : List Connection → ℕ
acknowledged_reports [] = 0
acknowledged_reports (c ∷ before) =
    reports_among (acknowledged_frames c) + acknowledged_reports before

-- What a connection sent is a contiguous run of what was taken, from the first object on that no
-- connection before it acknowledged; and its I frames are numbered.
pub record IsInOrder (taken : List InformationObject) (c : Connection)
    (before : List Connection) : Type 0 where
  pub run : monitor_objects_sent c
      ≡ take (length (monitor_objects_sent c)) (drop (first_unacknowledged before) taken)
  pub numbered : IsNumberedFrom 0 c.sent_frames

-- each connection, the newest first
abbrev pub AreInOrder : List InformationObject → List Connection → Type 0
AreInOrder taken [] = Unit {0}
AreInOrder taken (c ∷ before) = IsInOrder taken c before × AreInOrder taken before
