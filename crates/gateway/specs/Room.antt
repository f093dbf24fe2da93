-- When the queue has room, as the log shows.
use Rattle.std.specs.Prelude.{◌≡◌, true, List, None}
use Rattle.gateway.specs.Log.{Log}
use Rattle.gateway.specs.Frames.{Connection}
use Rattle.gateway.specs.Connections.{present, past, IsConnection, AreConnections}
use Rattle.gateway.specs.Reports.{Setup}
use Rattle.gateway.specs.Course.{Course, here_of, room_in, Runs}

-- the connections of a log, the newest first: the one that is open, or an empty one if there is
-- none, and those before it
pub record AreConnectionsOf (log : Log) (c : Connection) (before : List Connection) : Type 0 where
  pub open_one : IsConnection (present log) c None
  pub earlier : AreConnections (past log) before

-- there are places for the pieces of any report
pub record HasRoom (p : Setup) (log : Log) : Type 0 where
  pub course : Course
  pub runs : Runs p log course
  pub are : AreConnectionsOf log (here_of course) course.earlier
  pub room : room_in p log course ≡ true
