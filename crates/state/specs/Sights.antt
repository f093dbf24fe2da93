-- What a start would find in a directory, for who looks at it (profile).
use Rattle.std.specs.Prelude.{◌≡◌, ◌⊎◌, Bool, true, false, ℕ, List, length, MatchOption}
use Rattle.std.specs.Prelude.{Option, Ok}
use Rattle.gateway.specs.Config.{Settings}
use Rattle.gateway.specs.Log.{Log}
use Rattle.segments.specs.Room.{damage_in, log_in}
use Rattle.segments.specs.Starts.{ArePlaced, HasNoNewer, IsNewest, IsShut}
use Rattle.segments.specs.declared.start.Side.{Side}
use Rattle.settings.specs.Settings.{IsReadOfText}
use Rattle.state.specs.Beginnings.{IsReadWhole, BearsNumber, IsHeadOf, IsMoved, IsRead, SayState}
use Rattle.state.specs.Beginnings.{has_past}
use Rattle.state.specs.GivenUps.{given_up_by}
use Rattle.state.specs.Replays.{ReportedGap, events_in_front, whole_lines}
use Rattle.state.specs.Unread.{IsUnread}
use Rattle.state.specs.declared.looking.Seen.{Seen}
use Rattle.state.specs.declared.looking.Sight.{Sight}
use Rattle.state.specs.declared.start.Beginning.{Beginning}
use Rattle.state.specs.declared.start.Beginning.TheVariants as beginnings

-- how many of these lines log an event, up to the first that logs none, and how many there are
pub record AreCounted (lines : List (List ℕ)) (events all : ℕ) : Type 0 where
  pub logged : events ≡ length (events_in_front lines)
  pub whole : all ≡ length lines

-- A file has this log, behind what passed before: the settings at its head are a file of settings
-- that can be read, and the gateway with these has received the events behind the state at its
-- head, as one does that goes on with the log (`WentOn`). It has given up nothing yet, and what a
-- start would give up is named.
pub record IsSeen (log : Log) (file : List ℕ) (s : Seen) : Type 0 where
  pub number : BearsNumber file s.number
  pub begins : ℕ
  pub lines : List (List ℕ)
  pub head : IsHeadOf file begins s.settings.items lines
  pub said : SayState lines
  pub wrote : Settings
  pub readable : IsReadOfText s.settings.items (Ok wrote)
  pub counted : AreCounted (whole_lines (log_in begins file)) s.events s.lines
  pub gap : Option ReportedGap
  pub whole : Log
  pub read : IsRead wrote log lines (log_in begins file) gap whole s.gateway
  pub damaged : s.damage ≡ damage_in begins file
  pub named : s.given_up.items ≡ given_up_by wrote.line.sizes s.gateway

-- Whether the settings that the second text says are others than those of the first, under which a
-- log was written. A text that can't be read says none.
abbrev pub AreChanged : (written text : List ℕ) → Bool → Type 0
AreChanged written text true =
    (c : Settings) → IsReadOfText text (Ok c) → IsMoved c written true
AreChanged written text false =
    (c : Settings) × IsReadOfText text (Ok c) × IsMoved c written false

-- if links aren't trusted, each of them would be reset
abbrev pub IsDistrusted : (is_stale : Bool) → (newest other : List ℕ) → Type 0
IsDistrusted is_stale newest other = (is_stale ≡ true)
    ⊎ (HasNoNewer newest other → IsReadWhole newest → ⊥)

-- A run would begin so with two files, as `IsBegun` says it of one that does. It would begin anew
-- if both are shut; what can't be read would be put aside; and else it would go on with the newer
-- segment.
abbrev pub BeginsSo : Beginning → (is_stale : Bool) → (newest other : List ℕ) → Type 0
BeginsSo beginnings.Anew is_stale newest other = IsShut newest × IsShut other
BeginsSo beginnings.PutAside is_stale newest other =
    IsUnread newest other
BeginsSo beginnings.LinksReset is_stale newest other =
    IsNewest newest other × IsDistrusted is_stale newest other
BeginsSo beginnings.GoesOn is_stale newest other =
    IsNewest newest other × HasNoNewer newest other × IsReadWhole newest × (is_stale ≡ false)

-- there is a log, or none
abbrev pub IsShown : (log : Log) → (has_past : Bool) → (first second newest other : List ℕ)
    → Option Seen → Type 0
IsShown log past first second newest other seen =
    MatchOption seen (past ≡ false) (λ s. (past ≡ true) × ArePlaced s.side first second newest other
    × IsSeen log newest s)

-- This is found in two files, marked as stale or not, behind what passed before: the log that
-- counts, if one does, stands in the first of them or in the second.
pub record IsSight (log : Log) (is_stale : Bool) (first second : List ℕ) (o : Sight) : Type 0 where
  pub side : Side
  pub newest : List ℕ
  pub other : List ℕ
  pub placed : ArePlaced side first second newest other
  pub begins : BeginsSo o.beginning is_stale newest other
  pub shown : IsShown log (has_past o.beginning) first second newest other o.seen
