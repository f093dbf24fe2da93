-- How a station stands by the requests that went out to it, and whose a request is (IEC 60870-5-2,
-- 5.1.2; what is said of a station is this gateway's own profile, docs/STATUS.md and
-- docs/LOG.md).
use Rattle.std.specs.Prelude.{◌≡◌, ℕ, ◌+◌, nat_lt, Bool, true, false, List, [], ◌∷◌}
use Rattle.std.specs.Prelude.{Option, Some, None, is_some, if◌then◌else◌}
use Rattle.std.specs.Bool.{beq}
use Rattle.link.specs.declared.service.Asked.TheVariants as request
use Rattle.gateway.specs.Log.{LineOut, GapOut}
use Rattle.gateway.specs.declared.settings.StationSettings.{StationSettings}
use Rattle.runlog.specs.Passing.{Passed, Went}
use Rattle.runlog.specs.Stations.{is_other, link_asked, standing_by, station_asked}
use Rattle.runlog.specs.declared.stations.LinkKnown.{LinkKnown}
use Rattle.runlog.specs.declared.stations.LinkKnown.TheVariants as known
use Rattle.runlog.specs.declared.stations.Asking.{Asking}
use Rattle.runlog.specs.declared.stations.Asking.TheVariants.{Status, Reset, Counted, Other, Missed}
use Rattle.runlog.specs.declared.stations.StationStanding.{StationStanding}
use Rattle.runlog.specs.declared.stations.StationStanding.TheVariants as standing
use Rattle.runlog.specs.declared.stations.StationWatch.{StationWatch}

-- whose a watch is, and how often a request goes out to that station before it counts as silent
abbrev pub seat : StationWatch → ℕ × ℕ
seat w = (w.address, w.tries)

abbrev pub seat_of : (tries : ℕ) → StationSettings → ℕ × ℕ
seat_of tries s = (s.address, tries)

-- neither a request to a station nor a gap of one
abbrev pub IsNoRequest : Passed → Type 0
IsNoRequest (Went now (LineOut octets)) = ⊥
IsNoRequest (Went now (GapOut station session)) = ⊥
IsNoRequest p = Unit {0}

-- ---- How a station stands

-- What was asked of a station, the newest first, each with its moment; and the questions for its
-- status and the services of it.
abbrev pub tells : Asking → Bool
tells Status = true
tells (Counted bit) = true
tells Reset = false
tells Other = false
tells Missed = false

abbrev pub telling : List (ℕ × Asking) → List Asking
telling [] = []
telling (x ∷ earlier) = if tells x.1 then x.1 ∷ telling earlier else telling earlier

-- the status once more, or a service with the frame count bit of the one before
abbrev pub is_alike : (asking before : Asking) → Bool
is_alike Status Status = true
is_alike (Counted bit) (Counted before) = beq before bit
is_alike asking before = false

-- how often the latest of these went out, one behind another
abbrev pub times : List Asking → ℕ
times [] = 0
times (asking ∷ []) = 1
times (asking ∷ (before ∷ earlier)) =
    if is_alike asking before then times (before ∷ earlier) + 1 else 1

-- the frame count bit of the latest service since the link was reset
abbrev pub latest_bit : List (ℕ × Asking) → Option Bool
latest_bit [] = None
latest_bit ((now, Counted bit) ∷ earlier) = Some bit
latest_bit ((now, Reset) ∷ earlier) = None
latest_bit (x ∷ earlier) = latest_bit earlier

-- A service was answered if one with the other frame count bit follows it, before any reset: then
-- the link is up. It went down if its status is asked while it is up, or if it is reset behind a
-- service. A question for the status alone says nothing of a link that isn't known to be up: behind
-- a start that may go out between two repeats of a service.
abbrev pub link_so : List (ℕ × Asking) → LinkKnown
link_so [] = known.Nothing
link_so ((now, Counted bit) ∷ earlier) =
    if is_other (latest_bit earlier) bit then known.Up else link_so earlier
link_so ((now, Status) ∷ earlier) = link_asked (link_so earlier)
link_so ((now, Reset) ∷ earlier) =
    if is_some (latest_bit earlier) then known.Down else link_so earlier
link_so (x ∷ earlier) = link_so earlier

-- A station doesn't answer if the latest request went out more often than that. Else it stands as
-- its link does.
abbrev pub stands_by : (tries : ℕ) → List Asking → LinkKnown → StationStanding
stands_by tries [] link = standing.NotAsked
stands_by tries (asking ∷ earlier) link =
    if nat_lt tries (times (asking ∷ earlier)) then standing.Silent else standing_by link

abbrev pub stands : (tries : ℕ) → List (ℕ × Asking) → StationStanding
stands tries requests = stands_by tries (telling requests) (link_so requests)

-- how often reports may have been lost
abbrev pub missed : List (ℕ × Asking) → ℕ
missed [] = 0
missed ((now, Missed) ∷ earlier) = missed earlier + 1
missed (x ∷ earlier) = missed earlier

-- the watch of a station behind all this
abbrev pub after : StationWatch → List (ℕ × Asking) → StationWatch
after w [] = w
after w (x ∷ earlier) = (station_asked x.1 x.0 (after w earlier)).0

-- ---- What is logged
