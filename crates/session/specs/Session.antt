-- What a contract sees of a session, and what each call makes of it (IEC 60870-5-104, clause 5).
use Rattle.std.specs.Prelude.{ℕ, ◌+◌, ◌-◌, ◌%◌, Bool, true, false, not, ◌&&◌, ◌||◌, ◌==◌, nat_lt}
use Rattle.std.specs.Prelude.{nat_le, if◌then◌else◌, List, [], ◌∷◌, ◌++◌, length, take, drop, min}
use Rattle.std.specs.Prelude.{count_by, is_none, Option, Some, None}
use Rattle.apci.specs.declared.apdu.Apdu.{Apdu}
use Rattle.apci.specs.declared.apdu.Apdu.TheVariants.{I, S, U}
use Rattle.apci.specs.declared.apdu.Uf.{Uf}
use Rattle.apci.specs.declared.apdu.Uf.TheVariants.{StartAct, StartCon, StopAct, StopCon, TestAct}
use Rattle.apci.specs.declared.apdu.Uf.TheVariants.{TestCon}
use Rattle.session.specs.declared.kinds.FrameOrigin.{FrameOrigin}
use Rattle.session.specs.declared.kinds.FrameOrigin.TheVariants.{Queue, Own}
use Rattle.session.specs.declared.kinds.Unacknowledged.{Unacknowledged}
use Rattle.session.specs.declared.kinds.Transfer.{Transfer}
use Rattle.session.specs.declared.kinds.Transfer.TheVariants as Transfer
use Rattle.session.specs.declared.kinds.Close.TheVariants.{SendNumber, ReceiveNumber, Stopped}
use Rattle.session.specs.declared.kinds.Taken.{Taken}
use Rattle.session.specs.declared.kinds.Taken.TheVariants.{Nothing, Asdu, Close}

pub record Session : Type 0 where
  -- the settings
  pub k : ℕ
  pub w : ℕ
  pub t1 : ℕ
  pub t2 : ℕ
  pub t3 : ℕ
  -- how far data transfer is (5.3)
  pub transfer : Transfer
  -- the sent I frames that are not acknowledged, oldest first
  pub unacknowledged : List Unacknowledged
  -- how many of the queue's and of the own frames the last frame acknowledged
  pub acked_queue : ℕ
  pub acked_own : ℕ
  -- N(S) of the next I frame to send
  pub next_sent : ℕ
  -- N(S) of the next I frame to receive
  pub next_received : ℕ
  -- how many received I frames are not acknowledged, counted up to w, and when the oldest of them
  -- came
  pub unconfirmed : ℕ
  pub unconfirmed_since : ℕ
  -- when the latest frame came
  pub last_frame : ℕ
  -- when the outstanding TESTFR act was sent
  pub test_sent : Option ℕ
  -- a STARTDT con or TESTFR con that is due
  pub reply : Option Uf

abbrev pub new_session : ℕ → ℕ → ℕ → ℕ → ℕ → Session
new_session k w t1 t2 t3 = record {
  k = k;
  w = w;
  t1 = t1;
  t2 = t2;
  t3 = t3;
  transfer = Transfer.Closed;
  unacknowledged = [];
  acked_queue = 0;
  acked_own = 0;
  next_sent = 0;
  next_received = 0;
  unconfirmed = 0;
  unconfirmed_since = 0;
  last_frame = 0;
  test_sent = None;
  reply = None;
}

abbrev pub opened : ℕ → Session → Session
opened now s = record (new_session s.k s.w s.t1 s.t2 s.t3) {
  transfer = Transfer.Stopped;
  last_frame = now;
}

abbrev pub closed : Session → Session
closed s = new_session s.k s.w s.t1 s.t2 s.t3

abbrev pub opens : Transfer → Bool
opens Transfer.Closed = false
opens Transfer.Stopped = true
opens Transfer.Started = true
opens Transfer.Stopping = true

abbrev pub transfers : Transfer → Bool
transfers Transfer.Closed = false
transfers Transfer.Stopped = false
transfers Transfer.Started = true
transfers Transfer.Stopping = false

abbrev pub stops : Transfer → Bool
stops Transfer.Closed = false
stops Transfer.Stopped = false
stops Transfer.Started = false
stops Transfer.Stopping = true

abbrev pub is_open : Session → Bool
is_open s = opens s.transfer

-- data transfer is started, and no STOPDT act is pending
abbrev pub is_transferring : Session → Bool
is_transferring s = transfers s.transfer

-- a STOPDT act is not confirmed yet
abbrev pub is_stopping : Session → Bool
is_stopping s = stops s.transfer

-- how far data transfer is after a STARTDT act or STOPDT act: without a connection they say nothing
abbrev pub turned_to : Transfer → Session → Transfer
turned_to transfer s = if is_open s then transfer else Transfer.Closed

abbrev pub may_send : Session → Bool
may_send s = is_transferring s && nat_lt (length s.unacknowledged) s.k

-- an I frame of this kind goes out
abbrev pub sent : FrameOrigin → ℕ → Session → Session
sent kind now s = record s {
  unacknowledged = s.unacknowledged ++ record { kind = kind; moment = now } ∷ [];
  next_sent = (s.next_sent + 1) % 32768;
  unconfirmed = 0;
}

-- how many sent frames N(R) leaves unacknowledged, if it is valid
abbrev pub left_by : ℕ → Session → ℕ
left_by nr s = (s.next_sent + (32768 - nr % 32768)) % 32768

abbrev pub is_valid : ℕ → Session → Bool
is_valid nr s = nat_le (left_by nr s) (length s.unacknowledged)

-- how many frames a valid N(R) newly acknowledges
abbrev pub newly : ℕ → Session → ℕ
newly nr s = length s.unacknowledged - left_by nr s

abbrev pub is_from_queue : FrameOrigin → Bool
is_from_queue Queue = true
is_from_queue Own = false

-- how many of these came from the queue
abbrev pub from_queue : List Unacknowledged → ℕ
from_queue us = count_by (λ u. is_from_queue u.kind) us

-- the n oldest are acknowledged
abbrev pub acknowledged : ℕ → Session → Session
acknowledged n s = record s {
  unacknowledged = drop n s.unacknowledged;
  acked_queue = from_queue (take n s.unacknowledged);
  acked_own = n - from_queue (take n s.unacknowledged);
}

-- what a frame leads to, by the first of its faults
abbrev pub outcome_of : Session → Apdu → Taken
outcome_of s (I ns nr asdu) =
    if not (is_transferring s) then Close Stopped
    else (if not (ns == s.next_received) then Close SendNumber
    else (if not (is_valid nr s) then Close ReceiveNumber
    else Asdu))
outcome_of s (S nr) = if not (is_valid nr s) then Close ReceiveNumber else Nothing
outcome_of s (U u) = Nothing

abbrev pub is_close : Taken → Bool
is_close (Close cause) = true
is_close Asdu = false
is_close Nothing = false

-- the frame closes the connection
abbrev pub refuses : Session → Apdu → Bool
refuses s frame = is_close (outcome_of s frame)

-- how many frames a frame newly acknowledges
abbrev pub newly_by : Apdu → Session → ℕ
newly_by (I ns nr asdu) s = newly nr s
newly_by (S nr) s = newly nr s
newly_by (U u) s = 0

-- an I frame that is not refused, but for its N(R)
abbrev pub counted : ℕ → Session → Session
counted now s = record s {
  next_received = (s.next_received + 1) % 32768;
  unconfirmed = min s.w (s.unconfirmed + 1);
  unconfirmed_since = if s.unconfirmed == 0 then now else s.unconfirmed_since;
}

abbrev pub after_u : Uf → Session → Session
after_u StartAct s = record s { transfer = turned_to Transfer.Started s; reply = Some StartCon }
after_u StartCon s = s
after_u StopAct s = record s { transfer = turned_to Transfer.Stopping s }
after_u StopCon s = s
after_u TestAct s = record s { reply = Some TestCon }
after_u TestCon s = record s { test_sent = None }

-- what a frame says, apart from what it acknowledges
abbrev pub after_frame : Apdu → ℕ → Session → Session
after_frame (I ns nr asdu) now s = counted now s
after_frame (S nr) now s = s
after_frame (U u) now s = after_u u s

-- a frame came
abbrev pub taken : Apdu → ℕ → Session → Session
taken frame now s =
    if refuses s frame then acknowledged 0 (record s { last_frame = now })
    else after_frame frame now (acknowledged (newly_by frame s) (record s { last_frame = now }))

-- the oldest unacknowledged frame, or the test, waits for t1
abbrev pub is_late : ℕ → Session → List Unacknowledged → Bool
is_late now s [] = false
is_late now s (u ∷ us) = nat_le s.t1 (now - u.moment)

abbrev pub is_test_late : ℕ → Session → Option ℕ → Bool
is_test_late now s None = false
is_test_late now s (Some moment) = nat_le s.t1 (now - moment)

abbrev pub timed_out : ℕ → Session → Bool
timed_out now s = is_open s && (is_late now s s.unacknowledged || is_test_late now s s.test_sent)

-- what is sent next, if anything, and the session after it
abbrev pub Due : Type 0
Due = Option Apdu × Session

abbrev pub nothing_due : Session → Due
nothing_due s = (None, s)

abbrev pub acknowledgement : Session → Due
acknowledgement s = (Some (S s.next_received), record s { unconfirmed = 0 })

abbrev pub replied : Option Uf → Session → Due
replied None s =
    if is_stopping s && length s.unacknowledged == 0
    then (Some (U StopCon), record s { transfer = Transfer.Stopped })
    else nothing_due s
replied (Some u) s = (Some (U u), record s { reply = None })

-- the confirmations, with the S frame of a STOPDT act first
abbrev pub confirmed : Session → Due
confirmed s =
    if not (is_open s) then nothing_due s
    else (if is_stopping s && nat_lt 0 s.unconfirmed then acknowledgement s
    else replied s.reply s)

abbrev pub is_s_due : ℕ → Session → Bool
is_s_due now s =
    nat_lt 0 s.unconfirmed && (nat_le s.w s.unconfirmed || nat_le s.t2 (now - s.unconfirmed_since))

abbrev pub is_test_due : ℕ → Session → Bool
is_test_due now s = is_none s.test_sent && nat_le s.t3 (now - s.last_frame)

-- an S frame if due, then a TESTFR act if due
abbrev pub pulled : ℕ → Session → Due
pulled now s =
    if not (is_open s) then nothing_due s
    else (if is_s_due now s then acknowledgement s
    else (if is_test_due now s then (Some (U TestAct), record s { test_sent = Some now })
    else nothing_due s))
