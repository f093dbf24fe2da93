-- Connections worked by hand from IEC 60870-5-104, clause 5, with k 12, w 8, t1 15 s, t2 10 s and
-- t3
-- 20 s (9.6), or with smaller windows: what a session answers behind these calls.
use Rattle.std.specs.Prelude.{◌≡◌, ℕ, Bool, true, false, List, [], ◌∷◌, ◌++◌, replicate, Option}
use Rattle.std.specs.Prelude.{Some, None}
use Rattle.apci.specs.declared.apdu.Apdu.{Apdu}
use Rattle.apci.specs.declared.apdu.Apdu.TheVariants.{I, S, U}
use Rattle.apci.specs.declared.apdu.Uf.TheVariants.{StartAct, StartCon, StopAct, StopCon, TestAct}
use Rattle.apci.specs.declared.apdu.Uf.TheVariants.{TestCon}
use Rattle.session.specs.declared.kinds.FrameOrigin.TheVariants.{Queue, Own}
use Rattle.session.specs.declared.kinds.Close.TheVariants as close
use Rattle.session.specs.declared.kinds.Taken.{Taken}
use Rattle.session.specs.declared.kinds.Taken.TheVariants.{Nothing, Asdu, Close}
use Rattle.session.specs.Session.{Session, is_transferring, may_send, outcome_of, timed_out}
use Rattle.session.specs.Session.{confirmed, pulled}
use Rattle.session.specs.Runs.{Settings, Call, Open, Cut, Take, Send, Confirm, Pull, run}

-- what a session answers, and the answer
pub data Answer : Type 0 where
  -- whether data transfer runs
  Runs : Bool → Answer
  -- whether an I frame may go out
  MaySend : Bool → Answer
  -- N(S) and N(R) of the next I frame
  Numbers : ℕ → ℕ → Answer
  -- what a frame would lead to
  Leads : Apdu → Taken → Answer
  -- how many frames of the queue and how many own answers the latest frame acknowledged
  Acknowledged : ℕ → ℕ → Answer
  -- the confirmation that is due
  Confirms : Option Apdu → Answer
  -- the frame that is due at a moment
  Asks : ℕ → Option Apdu → Answer
  -- whether t1 has run out at a moment
  IsLate : ℕ → Bool → Answer

abbrev pub IsAnswered : Answer → Session → Type 0
IsAnswered (Runs b) s = is_transferring s ≡ b
IsAnswered (MaySend b) s = may_send s ≡ b
IsAnswered (Numbers ns nr) s = (s.next_sent ≡ ns) × (s.next_received ≡ nr)
IsAnswered (Leads frame taken) s = outcome_of s frame ≡ taken
IsAnswered (Acknowledged queue own) s = (s.acked_queue ≡ queue) × (s.acked_own ≡ own)
IsAnswered (Confirms frame) s = (confirmed s).0 ≡ frame
IsAnswered (Asks now frame) s = (pulled now s).0 ≡ frame
IsAnswered (IsLate now b) s = timed_out now s ≡ b

-- behind these calls, the newest first, the session answers this
pub record Example : Type 0 where
  pub settings : Settings
  pub calls : List Call
  pub answer : Answer

abbrev pub IsRight : Example → Type 0
IsRight e = IsAnswered e.answer (run e.settings e.calls).session

-- the standard's own settings (9.6)
abbrev pub usual : Settings
usual = record { k = 12; w = 8; t1 = 15000; t2 = 10000; t3 = 20000 }

-- the smallest windows
abbrev pub narrow : Settings
narrow = record { k = 1; w = 1; t1 = 15000; t2 = 10000; t3 = 20000 }

abbrev pub behind : List Call → Answer → Example
behind calls answer = record { settings = usual; calls = calls; answer = answer }

abbrev pub narrowly : List Call → Answer → Example
narrowly calls answer = record { settings = narrow; calls = calls; answer = answer }

abbrev pub data_frame : ℕ → ℕ → Apdu
data_frame ns nr = I ns nr (record { items = [] })

-- opened at 0, and started at 5
abbrev pub opened : List Call
opened = Open 0 ∷ []

abbrev pub started : List Call
started = Confirm 5 ∷ Take (U StartAct) 5 ∷ opened

-- a frame of the queue, an own answer and another frame of the queue went out at 6, 8 and 9
abbrev pub three_sent : List Call
three_sent = Send Queue 9 ∷ Send Own 8 ∷ Send Queue 6 ∷ started

-- a data frame came at 7, and another one at 11
abbrev pub one_received : List Call
one_received = Take (data_frame 0 0) 7 ∷ started

abbrev pub two_received : List Call
two_received = Take (data_frame 1 0) 11 ∷ one_received

-- a STOPDT act came at 12 while a sent frame isn't acknowledged
abbrev pub stopping : List Call
stopping = Take (U StopAct) 12 ∷ Send Queue 6 ∷ started

-- so many frames of the queue went out at this moment
abbrev pub sent : ℕ → ℕ → List Call
sent n now = replicate n (Send Queue now)

-- ---- 5.1 and 5.5: numbers and windows

abbrev pub number_examples : List Example
number_examples =
    -- twelve may be unacknowledged, with k 1 one; an acknowledgement makes room
    behind opened (MaySend false)
    ∷ behind started (MaySend true)
    ∷ behind (sent 11 6 ++ started) (MaySend true)
    ∷ behind (sent 12 6 ++ started) (MaySend false)
    ∷ behind (Take (S 1) 7 ∷ (sent 12 6 ++ started)) (MaySend true)
    ∷ behind (Take (data_frame 0 1) 7 ∷ (sent 12 6 ++ started)) (MaySend true)
    ∷ narrowly started (MaySend true)
    ∷ narrowly (Send Own 6 ∷ started) (MaySend false)
    -- N(S) counts what went out, N(R) what came, also what isn't acknowledged
    ∷ behind three_sent (Numbers 3 0)
    ∷ behind two_received (Numbers 0 2)
    ∷ behind (Open 20 ∷ three_sent) (Numbers 0 0)
    -- N(R) counts from what is acknowledged to what went out; a connection is stopped at first
    ∷ behind three_sent (Leads (S 0) Nothing)
    ∷ behind three_sent (Leads (S 3) Nothing)
    ∷ behind three_sent (Leads (S 4) (Close close.ReceiveNumber))
    ∷ behind three_sent (Leads (S 32767) (Close close.ReceiveNumber))
    ∷ behind (Take (S 2) 10 ∷ three_sent) (Leads (S 1) (Close close.ReceiveNumber))
    ∷ behind (Take (S 2) 10 ∷ three_sent) (Leads (S 2) Nothing)
    ∷ behind opened (Leads (S 0) Nothing)
    ∷ behind opened (Leads (S 1) (Close close.ReceiveNumber))
    -- the first fault counts: transfer that is stopped, N(S), N(R)
    ∷ behind three_sent (Leads (data_frame 0 3) Asdu)
    ∷ behind three_sent (Leads (data_frame 0 4) (Close close.ReceiveNumber))
    ∷ behind three_sent (Leads (data_frame 1 3) (Close close.SendNumber))
    ∷ behind three_sent (Leads (data_frame 32767 4) (Close close.SendNumber))
    ∷ behind one_received (Leads (data_frame 0 0) (Close close.SendNumber))
    ∷ behind one_received (Leads (data_frame 1 0) Asdu)
    ∷ behind opened (Leads (data_frame 0 0) (Close close.Stopped))
    ∷ behind opened (Leads (data_frame 1 1) (Close close.Stopped))
    ∷ behind stopping (Leads (data_frame 0 0) (Close close.Stopped))
    ∷ behind stopping (Leads (S 1) Nothing)
    ∷ behind opened (Leads (U StopCon) Nothing)
    -- what is acknowledged, by the kind that it went out as; a refused frame and a U frame
    -- acknowledge nothing
    ∷ behind (Take (S 1) 10 ∷ three_sent) (Acknowledged 1 0)
    ∷ behind (Take (S 2) 10 ∷ three_sent) (Acknowledged 1 1)
    ∷ behind (Take (data_frame 0 3) 10 ∷ three_sent) (Acknowledged 2 1)
    ∷ behind (Take (S 3) 11 ∷ Take (S 2) 10 ∷ three_sent) (Acknowledged 1 0)
    ∷ behind (Take (U TestAct) 11 ∷ Take (S 2) 10 ∷ three_sent) (Acknowledged 0 0)
    ∷ behind (Take (S 4) 11 ∷ Take (S 2) 10 ∷ three_sent) (Acknowledged 0 0)
    ∷ []

-- ---- 5.3: start and stop of data transfer

abbrev pub transfer_examples : List Example
transfer_examples =
    behind opened (Runs false)
    ∷ behind opened (Confirms None)
    ∷ behind (Take (U StartAct) 5 ∷ opened) (Runs true)
    ∷ behind (Take (U StartAct) 5 ∷ opened) (Confirms (Some (U StartCon)))
    ∷ behind started (Confirms None)
    ∷ behind (Take (U TestAct) 6 ∷ opened) (Confirms (Some (U TestCon)))
    ∷ behind (Confirm 6 ∷ Take (U TestAct) 6 ∷ opened) (Confirms None)
    ∷ behind (Take (U StartCon) 6 ∷ opened) (Runs false)
    ∷ behind (Take (U StopCon) 6 ∷ started) (Runs true)
    -- a STOPDT act is confirmed at once, or once the sent frame is acknowledged
    ∷ behind (Take (U StopAct) 6 ∷ started) (Confirms (Some (U StopCon)))
    ∷ behind (Confirm 6 ∷ Take (U StopAct) 6 ∷ started) (Confirms None)
    ∷ behind (Take (U StopAct) 6 ∷ opened) (Confirms (Some (U StopCon)))
    ∷ behind stopping (Runs false)
    ∷ behind stopping (MaySend false)
    ∷ behind stopping (Confirms None)
    ∷ behind (Take (S 1) 13 ∷ stopping) (Confirms (Some (U StopCon)))
    ∷ behind (Take (U TestAct) 13 ∷ stopping) (Confirms (Some (U TestCon)))
    -- the received frames are acknowledged first
    ∷ behind (Take (U StopAct) 12 ∷ two_received) (Confirms (Some (S 2)))
    ∷ behind (Confirm 12 ∷ Take (U StopAct) 12 ∷ two_received) (Confirms (Some (U StopCon)))
    -- a STARTDT act forgets the stop (this gateway's own profile)
    ∷ behind (Take (U StartAct) 13 ∷ stopping) (Runs true)
    ∷ behind (Take (S 1) 14 ∷ Confirm 13 ∷ Take (U StartAct) 13 ∷ stopping) (Confirms None)
    -- nothing is left of a connection that ended
    ∷ behind (Cut ∷ Take (U StopAct) 12 ∷ two_received) (Confirms None)
    ∷ behind (Open 20 ∷ three_sent) (Runs false)
    ∷ []

-- ---- 5.2 and 5.5: timers

abbrev pub timer_examples : List Example
timer_examples =
    -- t1 of the oldest frame that isn't acknowledged, and of a test
    behind three_sent (IsLate 15005 false)
    ∷ behind three_sent (IsLate 15006 true)
    ∷ behind (Take (S 1) 10 ∷ three_sent) (IsLate 15007 false)
    ∷ behind (Take (S 1) 10 ∷ three_sent) (IsLate 15008 true)
    ∷ behind (Take (S 3) 10 ∷ three_sent) (IsLate 999999 false)
    ∷ behind (Pull 20005 ∷ started) (IsLate 35004 false)
    ∷ behind (Pull 20005 ∷ started) (IsLate 35005 true)
    ∷ behind (Take (U TestCon) 20006 ∷ Pull 20005 ∷ started) (IsLate 35005 false)
    ∷ behind (Take (S 0) 20006 ∷ Pull 20005 ∷ started) (IsLate 35005 true)
    ∷ behind (Cut ∷ three_sent) (IsLate 15006 false)
    -- t2 of the oldest received frame; w at once; a sent frame acknowledges too
    ∷ behind two_received (Asks 10006 None)
    ∷ behind two_received (Asks 10007 (Some (S 2)))
    ∷ behind (Pull 10007 ∷ two_received) (Asks 20006 None)
    ∷ behind (Send Queue 12 ∷ two_received) (Asks 10007 None)
    ∷ narrowly one_received (Asks 7 (Some (S 1)))
    ∷ narrowly (Pull 7 ∷ one_received) (Asks 7 None)
    -- t3 from the opening, from the latest frame that came, whatever it was; one test at a time
    ∷ behind opened (Asks 19999 None)
    ∷ behind opened (Asks 20000 (Some (U TestAct)))
    ∷ behind started (Asks 20004 None)
    ∷ behind started (Asks 20005 (Some (U TestAct)))
    ∷ behind (Send Queue 19000 ∷ started) (Asks 20005 (Some (U TestAct)))
    ∷ behind (Take (data_frame 0 0) 100 ∷ opened) (Asks 20099 None)
    ∷ behind (Take (data_frame 0 0) 100 ∷ opened) (Asks 20100 (Some (U TestAct)))
    ∷ behind (Pull 20005 ∷ started) (Asks 99999 None)
    ∷ behind (Take (U TestCon) 20006 ∷ Pull 20005 ∷ started) (Asks 40005 None)
    ∷ behind (Take (U TestCon) 20006 ∷ Pull 20005 ∷ started) (Asks 40006 (Some (U TestAct)))
    -- the acknowledgement before the test (this gateway's own profile)
    ∷ behind one_received (Asks 20007 (Some (S 1)))
    ∷ behind (Pull 20007 ∷ one_received) (Asks 20007 (Some (U TestAct)))
    ∷ behind (Cut ∷ two_received) (Asks 99999 None)
    ∷ []
