-- What is noted of a run at each look, for those who look at it (this gateway's own profile).
use Rattle.std.specs.Prelude.{◌≡◌, ℕ, ◌-◌, nat_le, Bool, true, false, not, ◌&&◌, ◌||◌, []}
use Rattle.std.specs.Prelude.{map, take, Option, Some, None, is_some, is_none, option_map}
use Rattle.std.specs.Prelude.{List, codes, string_bytes}
use Rattle.std.specs.Prelude.{if◌then◌else◌}
use Rattle.std.specs.Net.Text.{ip_text}
use Rattle.std.specs.declared.net.ip_addr.IpAddr.{IpAddr}
use Rattle.gateway.specs.Config.{Settings}
use Rattle.gateway.specs.State.{State}
use Rattle.live.specs.declared.watched.Notice.{Notice}
use Rattle.status.specs.Shown.{AreEvents, AreKnown, AreRows, IsCentre, in_force, chosen_as}
use Rattle.status.specs.Shown.{is_there}
use Rattle.status.specs.Shown.{keeping_after, lost_after, text_or_none, viewed_as, why_away}
use Rattle.status.specs.declared.lookout.ShownRun.{ShownRun}
use Rattle.runlog.specs.Causes.{cause_words}
use Rattle.runlog.specs.Ends.{was_there}
use Rattle.runlog.specs.Logging.{taken_in}
use Rattle.runlog.specs.Watching.{Watching, wall_of}
use Rattle.runlog.specs.declared.names.LogNames.{LogNames}
use Rattle.status.specs.Hour as hour
use Rattle.status.specs.Oldest.{marked, waited}
use Rattle.status.specs.declared.snapshot.Keeping.{Keeping}
use Rattle.status.specs.declared.snapshot.Keeping.TheVariants.{Kept, Off}
use Rattle.status.specs.declared.snapshot.Snapshot.{Snapshot}

-- so many ms have passed since then, or it never was
abbrev pub is_over : Option ℕ → (now ms : ℕ) → Bool
is_over None now ms = true
is_over (Some since) now ms = nat_le ms (now - since)

abbrev pub keeping_at_first : (keeps : Bool) → Keeping
keeping_at_first true = Kept
keeping_at_first false = Off

abbrev pub keeping_by : Option Notice → Keeping → Keeping
keeping_by None before = before
keeping_by (Some notice) before = keeping_after notice

-- nothing of the run has been seen: the settings' stations and places are known, and their names
pub record IsFreshLookout (c : Settings) (names : LogNames) (keeps : Bool) (s : ShownRun) : Type
    0 where
  pub name : string_bytes s.name ≡ text_or_none (option_map (λ n. n.now) names.line)
  pub known : AreKnown names.stations.now c.stations s.known.items
  pub chosen : map chosen_as s.chosen.items ≡ in_force c
  pub places : s.places ≡ c.line.queue
  pub began : s.began ≡ None
  pub keeping : s.keeping ≡ keeping_at_first keeps
  pub lost_by : s.lost_by ≡ None
  pub numbers : s.hour ≡ record { numbers = []; noted_ms = None }
  pub taken : s.taken ≡ 0
  pub counted : s.counted ≡ None
  pub mark : s.mark ≡ None
  pub opened : s.opened ≡ 0
  pub gone_since : s.gone_since ≡ 0
  pub was_open : s.was_open ≡ false

abbrev pub first_of : Option ℕ → (now : ℕ) → ℕ
first_of None now = now
first_of (Some began) now = began

-- since when no connection is open: from the first look on, or from the one that missed one
abbrev pub gone_after : Option ℕ → (was is : Bool) → (now since : ℕ) → ℕ
gone_after began was is now since = if is_none began || (was && not is) then now else since

-- a look at a run that was watched so, beside the name of who has connected
abbrev pub noted : Watching → Option Notice → ShownRun → ShownRun
noted w notice s = let is_open = is_some w.connection.opening in record s {
  began = Some (first_of s.began w.moment);
  keeping = keeping_by notice s.keeping;
  lost_by = lost_after notice s.lost_by;
  gone_since = gone_after s.began s.was_open is_open w.moment s.gone_since;
  was_open = is_open;
  opened = w.connection.count;
}

-- the text of an address: that it isn't known, or none if memory is refused
pub data IsPeerText (peer : Option IpAddr) : (text : List ℕ) → Type 0 where
  Known : (address : IpAddr) → peer ≡ Some address → IsPeerText peer (ip_text address)
  Unknown : peer ≡ None → IsPeerText peer (codes "unknown")
  NoMemory : IsPeerText peer []

-- once a second the gateway's pieces are counted
abbrev pub counted : State → Watching → ShownRun → ShownRun
counted gateway w s =
    if is_over s.counted w.moment 1000
    then record s {
      counted = Some w.moment;
      taken = taken_in gateway;
      mark = marked gateway w (taken_in gateway) s.mark;
      hour = hour.noted w.moment (taken_in gateway) s.hour;
    }
    else s

-- and a look at which the visitors have a turn counts them, if that is due
abbrev pub looked : (turned : Option ℕ) → State → Watching → Option Notice → ShownRun → ShownRun
looked turned gateway w notice s =
    if is_over turned w.moment 20
    then counted gateway w (noted w notice s)
    else noted w notice s

-- when the visitors had their latest turn
abbrev pub turned_after : Option ℕ → (now : ℕ) → Option ℕ
turned_after turned now = if is_over turned now 20 then Some now else turned

-- what is shown of a run that is watched so, beside rows and settings: each number in its place
pub record IsSnapshotOf (shown : ShownRun) (w : Watching) (s : Snapshot) : Type 0 where
  pub version : s.version.now ≡ shown.version.now
  pub now_ms : s.now_ms ≡ w.moment
  pub started : s.started_ms ≡ first_of shown.began w.moment
  pub wall : s.wall_ms ≡ wall_of w
  pub name : s.name.now ≡ string_bytes shown.name
  pub there : s.line.is_there ≡ is_there w.line.presence
  pub was : s.line.was_there ≡ was_there w.line.logged
  pub since : s.line.since_ms ≡ w.line.since
  pub cause : option_map (λ c. c.now) s.line.cause ≡ why_away w.line.presence
  pub centre : IsCentre w.connection.opening (string_bytes shown.peer) shown.gone_since shown.taken
      s.centre
  pub taken : s.queue.taken ≡ shown.taken
  pub places : s.queue.places ≡ shown.places
  pub oldest : s.queue.oldest_ms ≡ waited shown.counted shown.mark
  pub hour : s.queue.hour.now ≡ shown.hour.numbers
  pub keeping : s.keeping ≡ shown.keeping
  pub lost_by : option_map (λ c. c.now) s.lost_by ≡ option_map cause_words shown.lost_by
  pub syncs : s.syncs ≡ w.syncs

-- all that is shown: these numbers, a row for each station, the latest lines of the log, and the
-- settings in force
pub record IsShown (shown : ShownRun) (w : Watching) (s : Snapshot) : Type 0 where
  pub numbers : IsSnapshotOf shown w s
  pub rows : AreRows 32 shown.known.items w.stations w.traffic s.stations.now
  pub latest : AreEvents (take 20 w.latest) s.latest.now
  pub settings : map viewed_as s.settings.now ≡ take 16 (map chosen_as shown.chosen.items)
