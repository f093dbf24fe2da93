-- The replies of the stations' applications to the commands that they accepted (profile).
use Rattle.std.specs.Prelude.{◌≡◌, ℕ, zero, suc, ◌==◌, Bool, true, false, if◌then◌else◌, List, []}
use Rattle.std.specs.Prelude.{◌∷◌, slice_get, Option, Some, None}
use Rattle.link.specs.Requests.{FitsFrame}
use Rattle.link.specs.Secondary.{Secondary}
use Rattle.sim.specs.Losses.{or_else}
use Rattle.sim.specs.declared.directive.Class.TheVariants.{One}
use Rattle.sim.specs.Exchanges.{OutstationsState}
use Rattle.sim.specs.Progress.{next_step}
use Rattle.sim.specs.Replies.{IsReply}
use Rattle.sim.specs.Reporting.{IsReported, changed_at}
use Rattle.sim.specs.declared.stations.cue.Cue.{Cue}
use Rattle.sim.specs.declared.stations.cue.Cue.TheVariants.{Confirm, Refuse}
use Rattle.sim.specs.declared.stations.outstations.replying.NextReply.{NextReply}
use Rattle.sim.specs.declared.stations.outstations.replying.NextReply.TheVariants.{Nothing, NoReply}
use Rattle.sim.specs.declared.stations.outstations.replying.NextReply.TheVariants.{Reply}
use Rattle.sim.specs.declared.stations.outstations.replying.ReplyProgress.{ReplyProgress}

-- how the first line that speaks of it has a station reply to commands: whether it refuses them
abbrev pub manner_in : (station : ℕ) → Cue → Option Bool
manner_in station (Confirm i) = if i == station then Some false else None
manner_in station (Refuse i) = if i == station then Some true else None
manner_in station cue = None

abbrev pub manner_of : (station : ℕ) → List Cue → Option Bool
manner_of station [] = None
manner_of station (cue ∷ cues) = or_else (manner_in station cue) (manner_of station cues)

abbrev pub advanced : (station : ℕ) → OutstationsState → OutstationsState
advanced i s = record s { progress = changed_at i next_step s.progress }

-- the command with this number, from 0, that a station accepted
abbrev pub accepted_by : Option Secondary → (number : ℕ) → Option (List ℕ)
accepted_by None k = None
accepted_by (Some s) k = slice_get s.accepted k

abbrev pub command_at : (station number : ℕ) → List Secondary → Option (List ℕ)
command_at i k ss = accepted_by (slice_get ss i) k

-- A station that refuses commands, or confirms them, gives its next reply as a report of class 1.
-- As long as it takes no report the reply waits. To a command without such a reply it is one
-- further at once.
abbrev pub GivesReply : (station : ℕ) → (reply : Option (List ℕ)) → (old new : OutstationsState)
    → Type 0
GivesReply i None old new = new ≡ advanced i old
GivesReply i (Some reply) old new =
    (is_taken : Bool) × (mid : OutstationsState) × IsReported i One reply old is_taken mid
    × (new ≡ (if is_taken then advanced i mid else mid))

abbrev pub RepliesTo : (station : ℕ) → (refuses is_confirmed : Bool) → (command : Option (List ℕ))
    → (old new : OutstationsState) → Type 0
RepliesTo i refuses is_confirmed None old new = new ≡ old
RepliesTo i refuses is_confirmed (Some command) old new =
    (reply : Option (List ℕ)) × IsReply old.size old.sizes refuses is_confirmed command reply
    × GivesReply i reply old new

abbrev pub RepliesFrom : (station : ℕ) → (refuses : Bool) → Option ReplyProgress
    → (old new : OutstationsState) → Type 0
RepliesFrom i refuses None old new = new ≡ old
RepliesFrom i refuses (Some p) old new =
    RepliesTo i refuses p.is_confirmed (command_at i p.commands old.stations) old new

abbrev pub RepliesBy : (station : ℕ) → (refuses : Option Bool) → (old new : OutstationsState)
    → Type 0
RepliesBy i None old new = new ≡ old
RepliesBy i (Some refuses) old new = RepliesFrom i refuses (slice_get old.progress i) old new

abbrev pub Replies : (station : ℕ) → (old new : OutstationsState) → Type 0
Replies i old new = RepliesBy i (manner_of i old.cues) old new

-- so many stations, one after another
abbrev pub RepliesEach : (stations : ℕ) → (old new : OutstationsState) → Type 0
RepliesEach zero old new = new ≡ old
RepliesEach (suc n) old new = (mid : OutstationsState) × RepliesEach n old mid × Replies n mid new

-- What is next: nothing, since all is replied to; or there is a command, and this is the reply.
abbrev pub IsNextTo : OutstationsState → (refuses : Bool) → Option ReplyProgress → (station : ℕ)
    → (reply : Option (List ℕ)) → Type 0
IsNextTo s refuses None i reply = ⊥
IsNextTo s refuses (Some p) i reply =
    (command : List ℕ) × (command_at i p.commands s.stations ≡ Some command)
    × IsReply s.size s.sizes refuses p.is_confirmed command reply

abbrev pub IsAllReplied : OutstationsState → Option ReplyProgress → (station : ℕ) → Type 0
IsAllReplied s None i = Unit {0}
IsAllReplied s (Some p) i = command_at i p.commands s.stations ≡ None

abbrev pub IsNext : OutstationsState → (station : ℕ) → (refuses : Bool) → NextReply → Type 0
IsNext s i refuses Nothing = IsAllReplied s (slice_get s.progress i) i
IsNext s i refuses NoReply = IsNextTo s refuses (slice_get s.progress i) i None
IsNext s i refuses (Reply reply) =
    IsNextTo s refuses (slice_get s.progress i) i (Some reply) × FitsFrame s.size reply
