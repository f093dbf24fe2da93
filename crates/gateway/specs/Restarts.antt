-- What a restart is in the course of a log (this gateway's own profile).
use Rattle.std.specs.Prelude.{◌≡◌, ℕ, ◌<◌, Bool, true, false, if◌then◌else◌, [], ◌∷◌, length}
use Rattle.link.specs.Carried.{awaits_command, station_given_up, station_doubted}
use Rattle.link.specs.Turns.{station_at}
use Rattle.gateway.specs.Course.{Course, here_of}

-- Each station whose latest service is a command without an answer is given up: its link is down,
-- and awaits none. No other link changes, and of no station is it known whether it was restarted,
-- too. The connection that was open, if any, is over: no
-- command waits, nothing is selected, and no own answer is left to be sent. Nothing is due.
pub record GivesUpCommands (is_open : Bool) (before after : Course) : Type 0 where
  pub done : (k : ℕ) → k < length before.works.serial.line.stations →
      awaits_command after.works.serial.line k ≡ false
  pub down : (k : ℕ) → k < length before.works.serial.line.stations →
      awaits_command before.works.serial.line k ≡ true →
      station_at after.works.serial.line.stations k
      ≡ station_doubted (station_given_up (station_at before.works.serial.line.stations k))
  pub others : (k : ℕ) → k < length before.works.serial.line.stations →
      awaits_command before.works.serial.line k ≡ false →
      station_at after.works.serial.line.stations k
      ≡ station_doubted (station_at before.works.serial.line.stations k)
  pub talk : after.talk ≡ []
  pub sent : after.sent ≡ []
  pub earlier : after.earlier ≡ (if is_open then here_of before ∷ before.earlier
      else before.earlier)
  pub waiting : after.works.serial.commands.waiting ≡ []
  pub selections : after.works.serial.commands.selections ≡ []
  pub answers : after.works.serial.commands.answers ≡ []
  pub undue : after.works.is_due ≡ false
