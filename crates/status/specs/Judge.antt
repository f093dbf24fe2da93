-- What the state of the gateway calls for (this gateway's own profile).
use Rattle.std.specs.Prelude.{ℕ, ◌-◌, ◌/◌, nat_lt, nat_le, Bool, true, false, not, ◌&&◌, ◌||◌}
use Rattle.std.specs.Prelude.{◌==◌, List, length, if◌then◌else◌}
use Rattle.std.specs.List.{list_any}
use Rattle.std.specs.Option.{is_none}
use Rattle.status.specs.declared.judging.Judgement.{Judgement}
use Rattle.status.specs.declared.judging.Judgement.TheVariants as judgement
use Rattle.status.specs.declared.snapshot.Keeping.{Keeping}
use Rattle.status.specs.declared.snapshot.Keeping.TheVariants.{Off, Kept, NotKept}
use Rattle.status.specs.declared.snapshot.LinkState.{LinkState}
use Rattle.status.specs.declared.snapshot.LinkState.TheVariants.{NotAsked, Asked, Up, Silent}
use Rattle.status.specs.declared.snapshot.LinkState.TheVariants.{Down}
use Rattle.status.specs.declared.snapshot.StationView.{StationView}
use Rattle.status.specs.declared.snapshot.LineView.{LineView}
use Rattle.status.specs.declared.snapshot.Queue.{Queue}
use Rattle.status.specs.declared.snapshot.Snapshot.{Snapshot}

-- the line is away, and has been for a minute
abbrev pub is_lost : LineView → (now : ℕ) → Bool
is_lost line now = not line.is_there && nat_le 60000 (now - line.since_ms)

-- it was there, and isn't any more; or it hasn't been there yet
abbrev pub has_gone : LineView → Bool
has_gone line = not line.is_there && line.was_there

abbrev pub is_awaited : LineView → Bool
is_awaited line = not line.is_there && not line.was_there

-- fewer places are free than a report may take
abbrev pub is_full : Queue → Bool
is_full queue = nat_lt (queue.places - queue.taken) 3

-- so many places may be taken while a report still finds room
abbrev pub unfilled : Queue → ℕ
unfilled queue = queue.places - 3

abbrev pub does_not_answer : LinkState → Bool
does_not_answer NotAsked = false
does_not_answer Asked = false
does_not_answer Up = false
does_not_answer Silent = true
does_not_answer Down = true

abbrev pub is_silent : StationView → Bool
is_silent station = does_not_answer station.standing

abbrev pub stands_up : LinkState → Bool
stands_up NotAsked = false
stands_up Asked = false
stands_up Up = true
stands_up Silent = false
stands_up Down = false

abbrev pub is_up : StationView → Bool
is_up station = stands_up station.standing

-- the state is to be kept on the disk, and can't be
abbrev pub cannot_keep : Keeping → Bool
cannot_keep Off = false
cannot_keep Kept = false
cannot_keep NotKept = true

abbrev pub keeps : Keeping → Bool
keeps Off = false
keeps Kept = true
keeps NotKept = false

abbrev pub is_off : Keeping → Bool
is_off Off = true
is_off Kept = false
is_off NotKept = false

abbrev pub may_answer : StationView → Bool
may_answer station = not (is_silent station)

-- there are stations, and none of them answers
abbrev pub are_all_silent : List StationView → Bool
are_all_silent stations = not (length stations == 0) && not (list_any may_answer stations)

-- Critical: the line is away for a minute, no control centre is connected, the queue is full, the
-- state can't be kept, or no station answers.
abbrev pub is_critical : Snapshot → Bool
is_critical s =
    is_lost s.line s.now_ms || is_none s.centre.peer || is_full s.queue || cannot_keep s.keeping
    || are_all_silent s.stations.now

-- A warning: the line is away, more than half of the queue is taken, or a station doesn't answer.
abbrev pub is_warning : Snapshot → Bool
is_warning s =
    not s.line.is_there || nat_lt (s.queue.places / 2) s.queue.taken
    || list_any is_silent s.stations.now

abbrev pub judgement_of : Snapshot → Judgement
judgement_of s =
    if is_critical s then judgement.Critical
    else if is_warning s then judgement.Warning else judgement.Ok
