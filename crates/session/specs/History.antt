-- What has happened on a connection, and what IEC 60870-5-104, clause 5, makes of it. Histories are
-- newest first. All counts are numbers that never fall; only the N(S) and N(R) that frames bear run
-- modulo 32768.
use Rattle.std.specs.Prelude.{◌≡◌, ℕ, suc, ◌+◌, ◌-◌, ◌%◌, Bool, true, false, not, ◌&&◌, ◌||◌, ◌==◌}
use Rattle.std.specs.Prelude.{nat_lt, nat_le, if◌then◌else◌, List, [], ◌∷◌, ◌++◌, length, take}
use Rattle.std.specs.Prelude.{drop, is_none, Option, Some, None}
use Rattle.apci.specs.declared.apdu.Apdu.{Apdu}
use Rattle.apci.specs.declared.apdu.Apdu.TheVariants.{I, S, U}
use Rattle.apci.specs.declared.apdu.Uf.{Uf}
use Rattle.apci.specs.declared.apdu.Uf.TheVariants.{StartAct, StartCon, StopAct, StopCon, TestAct}
use Rattle.apci.specs.declared.apdu.Uf.TheVariants.{TestCon}
use Rattle.session.specs.declared.kinds.FrameOrigin.{FrameOrigin}
use Rattle.session.specs.declared.kinds.Unacknowledged.{Unacknowledged}
use Rattle.session.specs.declared.kinds.Close.TheVariants.{SendNumber, ReceiveNumber, Stopped}
use Rattle.session.specs.declared.kinds.Taken.{Taken}
use Rattle.session.specs.declared.kinds.Taken.TheVariants.{Nothing, Asdu, Close}

pub data Happened : Type 0 where
  -- the connection began at this moment
  Opened : ℕ → Happened
  -- this frame came, and was taken
  Came : Apdu → ℕ → Happened
  -- a frame came that closes the connection
  Refused : ℕ → Happened
  -- an I frame went out: its N(S) and N(R), where it came from, and when
  Sent : ℕ → ℕ → FrameOrigin → ℕ → Happened
  -- this S or U frame went out
  Went : Apdu → ℕ → Happened

-- what happened on the open connection, its opening last; empty if none is open
abbrev pub History : Type 0
History = List Happened

abbrev pub is_open : History → Bool
is_open [] = false
is_open (_ ∷ _) = true

-- ---- 5.1: numbers

-- the I frames sent, oldest first
abbrev pub sent_frames : History → List Unacknowledged
sent_frames [] = []
sent_frames (Sent ns nr kind now ∷ older) =
    sent_frames older ++ record { kind = kind; moment = now } ∷ []
sent_frames (_ ∷ older) = sent_frames older

-- how many I frames were received
abbrev pub received_count : History → ℕ
received_count [] = 0
received_count (Came (I ns nr asdu) now ∷ older) = suc (received_count older)
received_count (_ ∷ older) = received_count older

-- the least number that isn't below n and equals nr modulo 32768
abbrev pub reached : ℕ → ℕ → ℕ
reached n nr = n + (nr + (32768 - n % 32768)) % 32768

-- how many of the I frames sent are acknowledged
abbrev pub acknowledged_count : History → ℕ
acknowledged_count [] = 0
acknowledged_count (Came (I ns nr asdu) now ∷ older) = reached (acknowledged_count older) nr
acknowledged_count (Came (S nr) now ∷ older) = reached (acknowledged_count older) nr
acknowledged_count (_ ∷ older) = acknowledged_count older

-- Each frame that went out bears the counts before it: N(S) that of the I frames sent, N(R) that of
-- those received.
abbrev pub IsNumbered : History → Type 0
IsNumbered [] = Unit {0}
IsNumbered (Sent ns nr kind now ∷ older) =
    (ns ≡ length (sent_frames older) % 32768) × (nr ≡ received_count older % 32768)
    × IsNumbered older
IsNumbered (Went (S nr) now ∷ older) = (nr ≡ received_count older % 32768) × IsNumbered older
IsNumbered (_ ∷ older) = IsNumbered older

-- N(R) counts acknowledged frames, and more of those sent or none
abbrev pub is_valid_receive_number : ℕ → History → Bool
is_valid_receive_number nr h = nat_le (reached (acknowledged_count h) nr) (length (sent_frames h))

-- the frames that N(R) newly acknowledges, oldest first
abbrev pub newly_acknowledged : ℕ → History → List Unacknowledged
newly_acknowledged nr h =
    drop (acknowledged_count h) (take (reached (acknowledged_count h) nr) (sent_frames h))

-- the sent frames that aren't acknowledged, oldest first
abbrev pub still_unacknowledged : History → List Unacknowledged
still_unacknowledged h = drop (acknowledged_count h) (sent_frames h)

-- ---- 5.3: start and stop of data transfer

-- the latest STARTDT act or STOPDT act, if any, is a STARTDT act
abbrev pub is_started : History → Bool
is_started [] = false
is_started (Came (U StartAct) now ∷ older) = true
is_started (Came (U StopAct) now ∷ older) = false
is_started (_ ∷ older) = is_started older

-- a STOPDT act came, and since then no STARTDT act, and no STOPDT con went out
abbrev pub is_stop_pending : History → Bool
is_stop_pending [] = false
is_stop_pending (Came (U StartAct) now ∷ older) = false
is_stop_pending (Came (U StopAct) now ∷ older) = true
is_stop_pending (Went (U StopCon) now ∷ older) = false
is_stop_pending (_ ∷ older) = is_stop_pending older

-- what a frame leads to, by the first of its faults
abbrev pub verdict_on : Apdu → History → Taken
verdict_on (I ns nr asdu) h =
    if not (is_started h) then Close Stopped
    else (if not (ns == received_count h % 32768) then Close SendNumber
    else (if not (is_valid_receive_number nr h) then Close ReceiveNumber
    else Asdu))
verdict_on (S nr) h = if not (is_valid_receive_number nr h) then Close ReceiveNumber else Nothing
verdict_on (U function) h = Nothing

-- ---- confirmations of U frames

-- the confirmations of STARTDT act and TESTFR act that are due to what came, and those that went
-- out
abbrev pub confirmations_due : History → List Uf
confirmations_due [] = []
confirmations_due (Came (U StartAct) now ∷ older) = StartCon ∷ confirmations_due older
confirmations_due (Came (U TestAct) now ∷ older) = TestCon ∷ confirmations_due older
confirmations_due (_ ∷ older) = confirmations_due older

abbrev pub confirmations_sent : History → List Uf
confirmations_sent [] = []
confirmations_sent (Went (U StartCon) now ∷ older) = StartCon ∷ confirmations_sent older
confirmations_sent (Went (U TestCon) now ∷ older) = TestCon ∷ confirmations_sent older
confirmations_sent (_ ∷ older) = confirmations_sent older

-- the confirmation due to the latest STARTDT act or TESTFR act, if it hasn't gone out since
abbrev pub confirmation_owed : History → Option Uf
confirmation_owed [] = None
confirmation_owed (Came (U StartAct) now ∷ older) = Some StartCon
confirmation_owed (Came (U TestAct) now ∷ older) = Some TestCon
confirmation_owed (Went (U StartCon) now ∷ older) = None
confirmation_owed (Went (U TestCon) now ∷ older) = None
confirmation_owed (_ ∷ older) = confirmation_owed older

-- ---- 5.2, 5.5 and 9.6: timers

-- when the received I frames came that neither an I frame nor an S frame acknowledged since, oldest
-- first
abbrev pub unconfirmed_moments : History → List ℕ
unconfirmed_moments [] = []
unconfirmed_moments (Came (I ns nr asdu) now ∷ older) = unconfirmed_moments older ++ now ∷ []
unconfirmed_moments (Sent ns nr kind now ∷ older) = []
unconfirmed_moments (Went (S nr) now ∷ older) = []
unconfirmed_moments (_ ∷ older) = unconfirmed_moments older

-- when the latest frame came, or the connection began
abbrev pub last_frame : History → ℕ
last_frame [] = 0
last_frame (Opened now ∷ older) = now
last_frame (Came frame now ∷ older) = now
last_frame (Refused now ∷ older) = now
last_frame (_ ∷ older) = last_frame older

-- when the TESTFR act went out that no TESTFR con answered, if one is outstanding
abbrev pub outstanding_test : History → Option ℕ
outstanding_test [] = None
outstanding_test (Went (U TestAct) now ∷ older) = Some now
outstanding_test (Came (U TestCon) now ∷ older) = None
outstanding_test (_ ∷ older) = outstanding_test older

-- so long has passed since the first of these moments, if any
abbrev pub has_passed : ℕ → ℕ → List ℕ → Bool
has_passed time now [] = false
has_passed time now (moment ∷ _) = nat_le time (now - moment)

abbrev pub moments_of : List Unacknowledged → List ℕ
moments_of [] = []
moments_of (frame ∷ frames) = frame.moment ∷ moments_of frames

abbrev pub moment_of : Option ℕ → List ℕ
moment_of None = []
moment_of (Some moment) = moment ∷ []

-- the oldest unacknowledged I frame, or the outstanding test, went out t1 ago
abbrev pub has_timed_out : ℕ → ℕ → History → Bool
has_timed_out t1 now h =
    has_passed t1 now (moments_of (still_unacknowledged h))
    || has_passed t1 now (moment_of (outstanding_test h))

-- w received I frames aren't acknowledged, or the oldest of them came t2 ago
abbrev pub is_acknowledgement_due : ℕ → ℕ → ℕ → History → Bool
is_acknowledgement_due w t2 now h =
    nat_le w (length (unconfirmed_moments h)) || has_passed t2 now (unconfirmed_moments h)

-- no frame came for t3, and no test is outstanding
abbrev pub is_test_due : ℕ → ℕ → History → Bool
is_test_due t3 now h = is_open h && is_none (outstanding_test h) && nat_le t3 (now - last_frame h)

-- ---- what goes out

-- the S frame for all that was received
abbrev pub acknowledgement_of : History → Apdu
acknowledgement_of h = S (received_count h % 32768)

abbrev pub stop_confirmation_of : History → Option Apdu
stop_confirmation_of h =
    if is_stop_pending h && length (still_unacknowledged h) == 0 then Some (U StopCon) else None

abbrev pub function_of : Option Uf → Option Apdu → Option Apdu
function_of None other = other
function_of (Some function) other = Some (U function)

-- A pending STOPDT act has its S frame first, and its STOPDT con last, once no sent frame is
-- unacknowledged.
abbrev pub confirmation_of : History → Option Apdu
confirmation_of h =
    if is_stop_pending h && nat_lt 0 (length (unconfirmed_moments h))
    then Some (acknowledgement_of h)
    else function_of (confirmation_owed h) (stop_confirmation_of h)

-- the S frame, and else the TESTFR act
abbrev pub frame_due : ℕ → ℕ → ℕ → ℕ → History → Option Apdu
frame_due w t2 t3 now h =
    if is_acknowledgement_due w t2 now h then Some (acknowledgement_of h)
    else (if is_test_due t3 now h then Some (U TestAct)
    else None)
