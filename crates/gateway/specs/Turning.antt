-- The turns of the line, as a log shows them (this gateway's own profile, over the procedures of
-- IEC 60870-5-2).
use Rattle.std.specs.Prelude.{◌≡◌, ℕ, suc, ◌<◌, ◌≤◌, ◌*◌, ◌-◌, List, ◌++◌, length, None, false}
use Rattle.ft12.specs.Fronts.{front_of}
use Rattle.link.specs.Exchanges.{no_exchanges, all_of, views}
use Rattle.link.specs.Primary.{Primary, start}
use Rattle.link.specs.Runs.{Call, called_all, exchanged_all}
use Rattle.link.specs.Visits.{AreInVisits, most_of_visit, whole_visit}
use Rattle.link.specs.Waits.{AlwaysWants, stations_asked, waited}
use Rattle.link.specs.Precedence.{CommandsGoFirst}
use Rattle.link.specs.Bursts.{BurstsGoOn, Other}
use Rattle.link.specs.AtOnce.{RepeatsComeAtOnce, TurnsGoOn}
use Rattle.link.specs.OneVisit.{TurnsAreVisits}
use Rattle.link.specs.Timing.{AnswersHaveTheirTime}
use Rattle.link.specs.Doubts.{HaveNoRestart, StatusesFollowRestarts}
use Rattle.link.specs.Procedure.{AskNoneThatIsUp}
use Rattle.link.specs.declared.procedure.Link.TheVariants.{Down}
use Rattle.gateway.specs.Log.{Log}
use Rattle.gateway.specs.Reports.{Setup, address_at, exchanges_of, exchanges_with}
use Rattle.gateway.specs.Calling.{CallsOf}

-- a primary station of the line that has sent nothing yet
abbrev pub new_line : Setup → Primary
new_line p = start p.link p.addresses

-- After these calls, and while those behind them are made: a station of which something is left to
-- be asked each time that a request goes out is asked before the others have had more than a visit
-- each.
abbrev pub StarvesNone : Setup → (first later : List Call) → Type 0
StarvesNone p first later = (station : ℕ) → station < length p.addresses →
    AlwaysWants (called_all (new_line p) first) station later →
    waited station 0 (stations_asked (called_all (new_line p) first) later)
    ≤ most_of_visit p.link * (length p.addresses - 1)

-- The exchanges of the log's line are visits, one after another, each of one station and as long as
-- a visit is. They are the exchanges of the calls that the log shows. In these calls no station
-- starves, from any of them on; a command that waits goes before any new poll of its station; a
-- poll follows a new command, and polls of class 1 go on while ACD is set, up to `burst`; a service
-- without an answer is sent again before any other request; and the turn goes on behind a held
-- service. Each turn is one visit, and each request is awaited for `answer_ms`. A station that is
-- up is asked for its status only behind a restart, so none is if there was no restart.
pub record KeepsTurns (p : Setup) (log : Log) : Type 0 where
  pub visits : AreInVisits p.link p.addresses
      (views (front_of p.link.size) (all_of (exchanges_of p log)))
  pub calls : List Call
  pub shown : CallsOf p log calls
  pub exchanges : exchanged_all (new_line p) calls no_exchanges ≡ exchanges_of p log
  pub fair : (first later : List Call) → first ++ later ≡ calls → StarvesNone p first later
  pub commands : (station : ℕ) → CommandsGoFirst (new_line p) station (suc p.link.burst) calls
  pub bursts : BurstsGoOn (new_line p) Other calls
  pub repeats : RepeatsComeAtOnce (new_line p) None calls
  pub held : TurnsGoOn (new_line p) None calls
  pub each : TurnsAreVisits (new_line p)
      (record { station = 0; left = whole_visit p.link Down }) calls
  pub times : AnswersHaveTheirTime (new_line p) None calls
  pub statuses : (station : ℕ) → StatusesFollowRestarts (new_line p) station false calls
  pub spares : (station : ℕ) → HaveNoRestart calls →
      AskNoneThatIsUp p.link (address_at p.addresses station) Down (exchanges_with p station log)
