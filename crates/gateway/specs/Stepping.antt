-- What stands before what in a step, and what own answers and polls need places for (IEC
-- 60870-5-104, 5.1 to 5.5; the order within a step, and the places, are this gateway's own
-- profile).
use Rattle.std.specs.Prelude.{◌≡◌, ◌⊎◌, ◌+◌, ◌<◌, ℕ, Bool, true, false, [], ◌∷◌, length, None}
use Rattle.apci.specs.declared.apdu.Apdu.{Apdu}
use Rattle.apci.specs.declared.apdu.Apdu.TheVariants.{I}
use Rattle.session.specs.History.{is_started, still_unacknowledged, confirmation_of, frame_due}
use Rattle.command.specs.History.{History, Offered, Ended}
use Rattle.gateway.specs.Log.{Log}
use Rattle.gateway.specs.Streams.{spelled}
use Rattle.gateway.specs.Frames.{first_unacknowledged, monitor_objects_sent}
use Rattle.gateway.specs.Connections.{received_before}
use Rattle.gateway.specs.Reports.{Setup, taken_objects}
use Rattle.gateway.specs.Course.{Course, here_of, came_frames}

-- ---- What may still go out

-- Neither an own answer nor a report may go out: data transfer is stopped, or k I frames are
-- unacknowledged, or all of them have gone out (5.3, 5.5).
abbrev pub NoDataMayGo : Setup → Log → Course → Type 0
NoDataMayGo p log c =
    is_started c.talk ≡ true → length (still_unacknowledged c.talk) < p.session.k →
    (c.works.serial.commands.answers ≡ [])
    × (first_unacknowledged c.earlier + length (monitor_objects_sent (here_of c))
    ≡ length (taken_objects p log))

-- All that frames so far have made due has gone out: each confirmation, all data, and the S frame
-- or the test that is due at this moment (5.1 to 5.3).
pub record IsAllOut (p : Setup) (log : Log) (now : ℕ) (c : Course) : Type 0 where
  pub confirmed : confirmation_of c.talk ≡ None
  pub flushed : NoDataMayGo p log c
  pub short : frame_due p.session.w p.session.t2 p.session.t3 now c.talk ≡ None

-- a frame that ends in the octets of the latest event was taken
abbrev pub HasTakenOne : Log → Course → Type 0
HasTakenOne log c = length (received_before log) < length (spelled (came_frames c.talk))

-- ---- S frames and tests

-- the frame bears an ASDU
abbrev pub bears_asdu : Apdu → Bool
bears_asdu (I ns nr asdu) = true
bears_asdu frame = false

-- how many own answers of the open connection found no place
abbrev pub unplaced : History → ℕ
unplaced [] = 0
unplaced (Offered octets false ∷ h) = unplaced h + 1
unplaced (Ended ∷ h) = 0
unplaced (_ ∷ h) = unplaced h
