-- What each thing that is said on a connection does of itself, whatever was said before it (IEC
-- 60870-5-104, 5.1 to 5.3 and 5.5). Nothing here is borrowed from `History`.
use Rattle.std.specs.Prelude.{◌≡◌, ℕ, ◌%◌, ◌≤◌, ◌⊎◌, Bool, true, false, [], ◌∷◌, length}
use Rattle.apci.specs.declared.apdu.Apdu.TheVariants.{S}
use Rattle.session.specs.History.{Happened, History, Sent, Went}
use Rattle.session.specs.History.{sent_frames, acknowledged_count}

-- an I frame or an S frame went out: its N(R) acknowledges all I frames that came (5.1)
abbrev pub acknowledges : Happened → Bool
acknowledges (Sent ns nr kind now) = true
acknowledges (Went (S nr) now) = true
acknowledges entry = false

-- N(R) is, modulo 32768, a count from that of the frames acknowledged to that of those sent (5.1)
pub record Acknowledges (nr : ℕ) (h : History) : Type 0 where
  pub count : ℕ
  pub not_fewer : acknowledged_count h ≤ count
  pub sent : count ≤ length (sent_frames h)
  pub same : count % 32768 ≡ nr % 32768
