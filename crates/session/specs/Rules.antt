-- The rules of IEC 60870-5-104, clause 5, that each entry of a history keeps with what came before
-- it.
use Rattle.std.specs.Prelude.{◌≡◌, ℕ, ◌%◌, ◌<◌, ◌⊎◌, true, false, [], ◌∷◌, length, Some, None}
use Rattle.apci.specs.declared.apdu.Apdu.{Apdu}
use Rattle.session.specs.Session.{is_close}
use Rattle.session.specs.History.{Happened, History, Opened, Came, Refused, Sent, Went, is_open}
use Rattle.session.specs.History.{sent_frames, received_count, still_unacknowledged, is_started}
use Rattle.session.specs.History.{verdict_on, confirmation_of, frame_due}
use Rattle.session.specs.Runs.{Settings}

-- A frame is received on an open connection, once all confirmations are out (5.3).
pub record IsReceived (older : History) : Type 0 where
  pub connected : is_open older ≡ true
  pub confirmed : confirmation_of older ≡ None

-- An I frame bears the counts modulo 32768, and goes out while data transfer runs and fewer than k
-- are unacknowledged (5.1, 5.3, 5.5).
pub record MaySend (p : Settings) (ns nr : ℕ) (older : History) : Type 0 where
  pub send_number : ns ≡ length (sent_frames older) % 32768
  pub receive_number : nr ≡ received_count older % 32768
  pub started : is_started older ≡ true
  pub window : length (still_unacknowledged older) < p.k

abbrev pub KeepsRule : Settings → Happened → History → Type 0
KeepsRule p (Opened now) older = older ≡ []
KeepsRule p (Came frame now) older = IsReceived older × (is_close (verdict_on frame older) ≡ false)
-- some frame came that closes the connection
KeepsRule p (Refused now) older =
    IsReceived older × ((frame : Apdu) × (is_close (verdict_on frame older) ≡ true))
KeepsRule p (Sent ns nr kind now) older = MaySend p ns nr older
-- a confirmation that was due, or a frame that a timer or the window w asked for
KeepsRule p (Went frame now) older =
    (confirmation_of older ≡ Some frame) ⊎ (frame_due p.w p.t2 p.t3 now older ≡ Some frame)

abbrev pub KeepsRules : Settings → History → Type 0
KeepsRules p [] = Unit {0}
KeepsRules p (entry ∷ older) = KeepsRule p entry older × KeepsRules p older
