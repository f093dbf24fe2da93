-- A session's state as lines of numbers, and what such lines say (a form of this gateway's own).
use Rattle.std.specs.Prelude.{◌≡◌, ℕ, ◌<◌, ◌≤◌, ◌==◌, ◌&&◌, nat_lt, if◌then◌else◌, List, [], ◌∷◌}
use Rattle.std.specs.Prelude.{length, Option, Some, None}
use Rattle.apci.specs.declared.apdu.Uf.{Uf}
use Rattle.apci.specs.declared.apdu.Uf.TheVariants.{StartAct, StartCon, StopAct, StopCon, TestAct}
use Rattle.apci.specs.declared.apdu.Uf.TheVariants.{TestCon}
use Rattle.session.specs.declared.kinds.FrameOrigin.{FrameOrigin}
use Rattle.session.specs.declared.kinds.FrameOrigin.TheVariants.{Queue, Own}
use Rattle.session.specs.declared.kinds.Unacknowledged.{Unacknowledged}
use Rattle.session.specs.declared.kinds.Transfer.{Transfer}
use Rattle.session.specs.declared.kinds.Transfer.TheVariants.{Closed, Stopped, Started, Stopping}
use Rattle.session.specs.declared.saving.Numbers.{Numbers}
use Rattle.session.specs.declared.saving.Dues.{Dues}
use Rattle.session.specs.Session.{Session}

-- ---- what is written

abbrev pub transfer_number : Transfer → ℕ
transfer_number Closed = 0
transfer_number Stopped = 1
transfer_number Started = 2
transfer_number Stopping = 3

abbrev pub kind_number : FrameOrigin → ℕ
kind_number Queue = 0
kind_number Own = 1

abbrev pub reply_number : Option Uf → ℕ
reply_number None = 0
reply_number (Some StartAct) = 1
reply_number (Some StartCon) = 2
reply_number (Some StopAct) = 3
reply_number (Some StopCon) = 4
reply_number (Some TestAct) = 5
reply_number (Some TestCon) = 6

abbrev pub moment_numbers : Option ℕ → List ℕ
moment_numbers None = []
moment_numbers (Some moment) = moment ∷ []

-- the line of the counters
abbrev pub numbers_line : Numbers → List ℕ
numbers_line n =
    transfer_number n.transfer ∷ n.next_sent ∷ n.next_received ∷ n.acked_queue ∷ n.acked_own ∷ []

-- the line of what is due, and of how many frame lines follow
abbrev pub dues_line : Dues → List ℕ
dues_line d =
    d.frames ∷ d.unconfirmed ∷ d.unconfirmed_since ∷ d.last_frame ∷ reply_number d.reply
    ∷ moment_numbers d.test_sent

-- the line of an unacknowledged frame
abbrev pub frame_line : Unacknowledged → List ℕ
frame_line frame = kind_number frame.kind ∷ frame.moment ∷ []

abbrev pub frame_lines : List Unacknowledged → List (List ℕ)
frame_lines [] = []
frame_lines (frame ∷ frames) = frame_line frame ∷ frame_lines frames

-- what the two first lines of a session say
abbrev pub numbers_of : Session → Numbers
numbers_of s = record {
  transfer = s.transfer;
  next_sent = s.next_sent;
  next_received = s.next_received;
  acked_queue = s.acked_queue;
  acked_own = s.acked_own;
}

abbrev pub dues_of : Session → Dues
dues_of s = record {
  frames = length s.unacknowledged;
  unconfirmed = s.unconfirmed;
  unconfirmed_since = s.unconfirmed_since;
  last_frame = s.last_frame;
  reply = s.reply;
  test_sent = s.test_sent;
}

-- the lines of the whole state but the settings, which stand elsewhere
abbrev pub session_lines : Session → List (List ℕ)
session_lines s =
    numbers_line (numbers_of s) ∷ dues_line (dues_of s) ∷ frame_lines s.unacknowledged

-- What holds of each session, and is needed to read it back.
pub record IsSavable (s : Session) : Type 0 where
  pub few : length s.unacknowledged ≤ s.k
  pub sent_small : s.next_sent < 32768
  pub received_small : s.next_received < 32768
  pub unconfirmed_small : s.unconfirmed < 65536

-- its settings are these
pub record HasSettings (s : Session) (k w t1 t2 t3 : ℕ) : Type 0 where
  pub k_is : s.k ≡ k
  pub w_is : s.w ≡ w
  pub t1_is : s.t1 ≡ t1
  pub t2_is : s.t2 ≡ t2
  pub t3_is : s.t3 ≡ t3

-- ---- what is read

abbrev pub transfer_from : ℕ → Option Transfer
transfer_from n =
    if n == 0 then Some Closed else if n == 1 then Some Stopped
    else if n == 2 then Some Started else if n == 3 then Some Stopping else None

abbrev pub kind_from : ℕ → Option FrameOrigin
kind_from n = if n == 0 then Some Queue else if n == 1 then Some Own else None

abbrev pub reply_from : ℕ → Option (Option Uf)
reply_from n =
    if n == 0 then Some None
    else if n == 1 then Some (Some StartAct) else if n == 2 then Some (Some StartCon)
    else if n == 3 then Some (Some StopAct) else if n == 4 then Some (Some StopCon)
    else if n == 5 then Some (Some TestAct) else if n == 6 then Some (Some TestCon)
    else None

abbrev pub moment_from : List ℕ → Option (Option ℕ)
moment_from [] = Some None
moment_from (moment ∷ []) = Some (Some moment)
moment_from ns = None

abbrev pub frame_with : Option FrameOrigin → (moment : ℕ) → Option Unacknowledged
frame_with None moment = None
frame_with (Some kind) moment = Some (record { kind = kind; moment = moment })

abbrev pub frame_from : List ℕ → Option Unacknowledged
frame_from (kind ∷ moment ∷ []) = frame_with (kind_from kind) moment
frame_from ns = None

abbrev pub numbers_with : Option Transfer → (ns nr queue own : ℕ) → Option Numbers
numbers_with None ns nr queue own = None
numbers_with (Some transfer) ns nr queue own =
    if nat_lt ns 32768 && nat_lt nr 32768 then
    Some (record {
      transfer = transfer;
      next_sent = ns;
      next_received = nr;
      acked_queue = queue;
      acked_own = own;
    })
    else None

abbrev pub numbers_from : List ℕ → Option Numbers
numbers_from (transfer ∷ ns ∷ nr ∷ queue ∷ own ∷ []) =
    numbers_with (transfer_from transfer) ns nr queue own
numbers_from ns = None

abbrev pub dues_with : (frames unconfirmed since last : ℕ) → Option (Option Uf) →
    Option (Option ℕ) → Option Dues
dues_with frames unconfirmed since last (Some reply) (Some test) =
    if nat_lt unconfirmed 65536 then
    Some (record {
      frames = frames;
      unconfirmed = unconfirmed;
      unconfirmed_since = since;
      last_frame = last;
      reply = reply;
      test_sent = test;
    })
    else None
dues_with frames unconfirmed since last reply test = None

abbrev pub dues_from : List ℕ → Option Dues
dues_from (frames ∷ unconfirmed ∷ since ∷ last ∷ reply ∷ test) =
    dues_with frames unconfirmed since last (reply_from reply) (moment_from test)
dues_from ns = None
