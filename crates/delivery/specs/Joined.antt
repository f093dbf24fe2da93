-- The course of a log and the exchanges of its line are one story (IEC 60870-5-2, unbalanced
-- transmission procedures; IEC 60870-5-101, 7.2: commands and their answers).
use Rattle.std.specs.Prelude.{◌==◌, ◌&&◌, not, suc, Bool, false}
use Rattle.std.specs.Prelude.{◌≡◌, ℕ, ◌<◌, List, [], ◌∷◌, ◌++◌, All, map, length, None}
use Rattle.std.specs.Prelude.{if◌then◌else◌}
use Rattle.asdu.specs.declared.sizes.Sizes.{Sizes}
use Rattle.asdu.specs.Asdu.{AsduValue, IsAsdu}
use Rattle.std.specs.Io.Iter.{u64_saturate}
use Rattle.link.specs.Delivery.{learnt, commands}
use Rattle.link.specs.Requests.{FitsAddress}
use Rattle.link.specs.Matching.{Matches}
use Rattle.command.specs.History.{History, Mirrored}
use Rattle.gateway.specs.Log.{Log}
use Rattle.gateway.specs.Objects.{monitor_objects}
use Rattle.gateway.specs.Reports.{Setup, AreFound, address_at}
use Rattle.gateway.specs.Reports.{exchanges_of, exchanges_with, reports_in}
use Rattle.gateway.specs.Works.{is_command_report, unless_silent_works}
use Rattle.gateway.specs.Course.{Course, came_frames, here_of}
use Rattle.delivery.specs.Commands.{steps_in, unmissed, steps_logged, confirmed_by, first_sendings}
use Rattle.delivery.specs.Commands.{sent_to}
use Rattle.delivery.specs.Commands.{judged_in, as_judged, judged_here, asdus_in}
use Rattle.delivery.specs.Arrivals.{arrivals}

-- There are stations, their link addresses fit the line, and each is another.
pub record IsSetUp (p : Setup) : Type 0 where
  pub some : 0 < length p.addresses
  pub fit : All (FitsAddress p.link.size) p.addresses
  pub found : AreFound p.addresses

-- the answers of stations to commands that were passed on or counted, the oldest first
abbrev pub mirrored_in : History → List AsduValue
mirrored_in [] = []
mirrored_in (Mirrored now v ∷ h) = mirrored_in h ++ v ∷ []
mirrored_in (_ ∷ h) = mirrored_in h

-- the reports whose type is a command's
abbrev pub command_reports : Sizes → List (ℕ × List ℕ) → List (List ℕ)
command_reports sizes [] = []
command_reports sizes (report ∷ reports) =
    if is_command_report sizes report.1 then report.1 ∷ command_reports sizes reports
    else command_reports sizes reports

-- A report is skipped that has nothing to be passed on and is no answer to a command: it can't be
-- read, or it is of a monitor type with a negative 'unknown type' (7.2.3; this gateway's own
-- profile).
abbrev pub is_skipped : Sizes → List ℕ → Bool
is_skipped sizes report =
    length (monitor_objects sizes report) == 0 && not (is_command_report sizes report)

-- how many of the reports
abbrev pub skipped_among : Sizes → List (ℕ × List ℕ) → ℕ
skipped_among sizes [] = 0
skipped_among sizes (report ∷ reports) =
    if is_skipped sizes report.1 then suc (skipped_among sizes reports)
    else skipped_among sizes reports

-- the values are those of the reports, one after another
abbrev pub AreValues : Sizes → List AsduValue → List (List ℕ) → Type 0
AreValues sizes [] [] = Unit {0}
AreValues sizes (v ∷ vs) (report ∷ reports) = IsAsdu sizes v report × AreValues sizes vs reports
AreValues sizes _ _ = ⊥

-- The course of the log says of the line what its exchanges say.
pub record IsJoined (p : Setup) (log : Log) (c : Course) : Type 0 where
  -- its primary station is what the exchanges make it
  pub matches : Matches p.link p.addresses c.works.serial.line (exchanges_of p log)
  -- What it logs of commands on each station's line, which of them was confirmed and which found
  -- the link busy, is what the exchanges show. What stands on a line is given up exactly when they
  -- show that its link goes down. What silence takes down is logged in the same step, once the
  -- event's frames are taken. So this is said of the history with what is still to be logged.
  pub steps : (k : ℕ) → steps_logged k (unless_silent_works c.works.serial.silent c.works).history
      ≡ steps_in p.link (address_at p.addresses k) unmissed None (exchanges_with p k log)
  -- once the step is done, nothing is
  pub all_logged : c.works.is_due ≡ false → c.works.serial.silent ≡ None
  pub sent : (k : ℕ) → sent_to k c.works.history
      ≡ first_sendings (address_at p.addresses k) None (exchanges_with p k log)
  -- those confirmed are those that the exchanges show as accepted by the outstation
  pub confirmed : (k : ℕ) → confirmed_by (steps_logged k c.works.history)
      ≡ commands (learnt (address_at p.addresses k) (exchanges_with p k log))
  -- the stations' answers to commands are, in order, the reports of command types that were taken
  pub mirrored : AreValues p.sizes (mirrored_in c.works.history)
      (command_reports p.sizes (reports_in p log))
  -- the reports that it counts as skipped are those of the log that are skipped
  pub skipped : c.works.serial.counts.skipped
      ≡ u64_saturate (skipped_among p.sizes (reports_in p log))
  -- and what it judged are the ASDUs of the I frames of its connections, each with what the wall
  -- clock showed when it had come
  pub judged : judged_in c.works.history
      ≡ map as_judged (arrivals log (here_of c ∷ c.earlier))
  -- Since the latest connection was over it judged those of the open one alone. So what waits for
  -- the line has come on the connection that is open. While none is, nothing waits.
  pub here : judged_here c.works.history ≡ asdus_in (came_frames c.talk)
