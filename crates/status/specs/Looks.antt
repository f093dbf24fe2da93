-- Words of the laws of what is shown (this gateway's own profile).
use Rattle.std.specs.Prelude.{◌≡◌, ℕ, ◌-◌, ◌<◌, List, [], ◌∷◌, ◌++◌, Option}
use Rattle.std.specs.Prelude.{None}
use Rattle.gateway.specs.State.{State}
use Rattle.live.specs.declared.watched.Notice.{Notice}
use Rattle.status.specs.Looking.{looked, noted, turned_after}
use Rattle.status.specs.Shown.{standing_of}
use Rattle.status.specs.declared.lookout.ShownRun.{ShownRun}
use Rattle.runlog.specs.Logging.{taken_in}
use Rattle.runlog.specs.Stations as stations
use Rattle.runlog.specs.Watching.{Watching}
use Rattle.runlog.specs.declared.stations.StationWatch.{StationWatch}
use Rattle.status.specs.Labels.{standing_text}

-- the word for how a station stands, on a page
abbrev pub standing_word : StationWatch → List ℕ
standing_word w = standing_text (standing_of (stations.standing_of w))

-- a look at the run: the gateway, what the watch knows, and what was reported of the state
pub record Look : Type 0 where
  pub gateway : State
  pub watch : Watching
  pub notice : Option Notice

-- no connection was open then
abbrev pub IsClosed : Look → Type 0
IsClosed l = l.watch.connection.opening ≡ None

-- nothing was reported then
abbrev pub IsSilent : Look → Type 0
IsSilent l = l.notice ≡ None

-- what is noted after these looks, the oldest first
abbrev pub noted_after : ShownRun → List Look → ShownRun
noted_after s [] = s
noted_after s (l ∷ looks) = noted_after (noted l.watch l.notice s) looks

-- when the visitors had a turn last, and what is shown
pub record Standing : Type 0 where
  pub turned : Option ℕ
  pub shown : ShownRun

abbrev pub after_look : Look → Standing → Standing
after_look l s = record {
  turned = turned_after s.turned l.watch.moment;
  shown = looked s.turned l.gateway l.watch l.notice s.shown;
}

abbrev pub after_looks : Standing → List Look → Standing
after_looks s [] = s
after_looks s (l ∷ looks) = after_looks (after_look l s) looks

-- so many places were taken at one of these looks, less than a second ago
pub record HasCounted (looks : List Look) (now taken : ℕ) : Type 0 where
  pub earlier : List Look
  pub counted : Look
  pub later : List Look
  pub among : looks ≡ earlier ++ counted ∷ later
  pub number : taken ≡ taken_in counted.gateway
  pub fresh : now - counted.watch.moment < 1000
