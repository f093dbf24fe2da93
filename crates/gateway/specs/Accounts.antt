-- What a gateway still keeps, and what it has counted, by its log.
use Rattle.std.specs.Prelude.{◌≡◌, drop, ◌∷◌}
use Rattle.std.specs.List.{flat_map}
use Rattle.ft12.specs.Fronts.{front_of}
use Rattle.std.specs.Io.Iter.{u64_saturate}
use Rattle.link.specs.Exchanges.{all_of, spoilt_count}
use Rattle.events.specs.Queue.{kept}
use Rattle.gateway.specs.Log.{Log}
use Rattle.gateway.specs.Objects.{objects}
use Rattle.gateway.specs.Frames.{first_unacknowledged}
use Rattle.gateway.specs.Room.{AreConnectionsOf}
use Rattle.gateway.specs.Reports.{Setup, address_at, exchanges_of, taken_objects}
use Rattle.gateway.specs.Course.{Course, here_of, Runs}
use Rattle.gateway.specs.Line.{done_in}
use Rattle.gateway.specs.State.{State, counts_of}

-- What a gateway in this state would go on with. The pieces kept have, joined, the objects that
-- were taken from the line and that no connection, the open one among them, has acknowledged (IEC
-- 60870-5-104, 5.1: what is sent is kept until it is acknowledged). What it tells as counted is
-- what the log shows, each under its name: reports and answers to commands that weren't passed on,
-- commands that were given up, and exchanges that closed with octets but without an answer
-- (profile).
pub record IsAccounted (p : Setup) (s : State) (log : Log) : Type 0 where
  pub course : Course
  pub course_runs : Runs p log course
  pub are : AreConnectionsOf log (here_of course) course.earlier
  pub left : flat_map objects (kept s.centre.queue)
      ≡ drop (first_unacknowledged (here_of course ∷ course.earlier)) (taken_objects p log)
  pub skipped : (counts_of s).skipped ≡ (done_in p log course).serial.counts.skipped
  pub mirrors : (counts_of s).mirrors ≡ (done_in p log course).serial.counts.mirrors
  pub lost : (counts_of s).lost ≡ (done_in p log course).serial.counts.lost
  pub spoilt : (counts_of s).spoilt
      ≡ u64_saturate (spoilt_count (front_of p.link.size) (address_at p.addresses)
      (all_of (exchanges_of p log)))
