-- What a run begins with (profile).
use Rattle.std.specs.Prelude.{◌≡◌, ℕ, ◌+◌, Bool, true, false, not, ◌&&◌, List, ◌∷◌, ◌++◌}
use Rattle.std.specs.Prelude.{length, Option, Some, None, Ok, if◌then◌else◌, option_and_then}
use Rattle.std.specs.Prelude.{option_map, slice_get}
use Rattle.gateway.specs.Agrees.{Follows, Rests}
use Rattle.gateway.specs.Carried.{carried, place_of, restarted}
use Rattle.gateway.specs.Config.{Settings}
use Rattle.gateway.specs.Log.{Came, Log, Restarted}
use Rattle.gateway.specs.Restored.{IsSaid, IsSavable, state_lines}
use Rattle.gateway.specs.Setups.{setup_of}
use Rattle.gateway.specs.State.{State}
use Rattle.gateway.specs.declared.settings.StationSettings.{StationSettings}
use Rattle.segments.specs.Crashes.{damage_behind, lines_behind}
use Rattle.segments.specs.Head.{Fits}
use Rattle.segments.specs.Room.{damage_in, log_in}
use Rattle.segments.specs.Starts.{IsFoundIn}
use Rattle.segments.specs.declared.head.SegmentHead.{SegmentHead}
use Rattle.settings.specs.Settings.{IsReadOfText}
use Rattle.statetext.specs.Text.{lines_in}
use Rattle.state.specs.GivenUps.{given_up_by}
use Rattle.state.specs.Replays.{AreRead, IsReplayed, ReportedGap, events_in_front, whole_lines}
use Rattle.state.specs.declared.given_up.GivenUp.{GivenUp}
use Rattle.state.specs.declared.start.Beginning.{Beginning}
use Rattle.state.specs.declared.start.Beginning.TheVariants as beginnings

-- the run goes on with a state that was kept
abbrev pub has_past : Beginning → Bool
has_past beginnings.Anew = false
has_past beginnings.PutAside = false
has_past beginnings.LinksReset = true
has_past beginnings.GoesOn = true

-- and its links too, since nothing is missing from it
abbrev pub is_trusted : Beginning → Bool
is_trusted beginnings.Anew = false
is_trusted beginnings.PutAside = false
is_trusted beginnings.LinksReset = false
is_trusted beginnings.GoesOn = true

-- the moment at which the clock goes on, if there was one
abbrev pub moment_at : Beginning → ℕ → Option ℕ
moment_at beginning moment = if has_past beginning then Some moment else None

-- The gateway is in the state that some lines say, and follows this log if that state does.
abbrev pub HasRead : Settings → Log → (lines : List (List ℕ)) → State → Type 0
HasRead c log lines s =
    (first : State) (rest : List (List ℕ)) → lines ≡ state_lines first ++ rest → IsSavable first
    → Follows (setup_of c) first (Some log) → Follows (setup_of c) s (Some log)

-- The gateway has received these events behind the state that some lines say, whose log was this
-- one; the whole log has them too.
abbrev pub IsRead : Settings → (log : Log) → (lines : List (List ℕ)) → (events : List ℕ)
    → Option ReportedGap → (whole : Log) → State → Type 0
IsRead c log lines events gap whole s =
    (first : State) (rest : List (List ℕ)) → lines ≡ state_lines first ++ rest → IsSavable first
    → Follows (setup_of c) first (Some log) → Rests (setup_of c) (Some log)
    → IsReplayed (setup_of c) log (events_in_front (whole_lines events)) gap whole s

-- These settings and these lines stand at the head of the log in a file, whose events begin there.
pub record IsHeadOf (file : List ℕ) (begins : ℕ) (settings : List ℕ) (lines : List (List ℕ)) :
    Type 0 where
  pub head : SegmentHead
  pub body : List ℕ
  pub fits : Fits head
  pub found : IsFoundIn file head body
  pub says : lines_in body ≡ settings ∷ lines
  pub behind : begins ≡ 87 + length body

-- the file's segment has this number
pub record BearsNumber (file : List ℕ) (number : ℕ) : Type 0 where
  pub head : SegmentHead
  pub body : List ℕ
  pub fits : Fits head
  pub found : IsFoundIn file head body
  pub is : number ≡ head.number

-- each whole line of a log logs an event, and no damage ends it
abbrev pub IsWhole : (lines : List ℕ) → (damage : Option ℕ) → Type 0
IsWhole lines damage = AreRead (whole_lines lines) × (damage ≡ None)

-- So it is behind the checkpoint of the file's segment.
abbrev pub IsReadWhole : List ℕ → Type 0
IsReadWhole file = (head : SegmentHead) (body : List ℕ) → Fits head → IsFoundIn file head body →
    IsWhole (lines_behind body file) (damage_behind body file)

-- The gateway follows this whole log, if the log before the state that these lines say was that
-- one.
abbrev pub GoesOnWith : Settings → (log : Log) → (lines : List (List ℕ)) → (whole : Log) → State
    → Type 0
GoesOnWith c log lines whole s =
    (first : State) (rest : List (List ℕ)) → lines ≡ state_lines first ++ rest → IsSavable first
    → Follows (setup_of c) first (Some log) → Rests (setup_of c) (Some log)
    → Follows (setup_of c) s (Some whole) × Rests (setup_of c) (Some whole)

-- The first of these lines say a gateway's state, and the others stand behind them.
pub record SayState (lines : List (List ℕ)) : Type 0 where
  pub first : State
  pub rest : List (List ℕ)
  pub said : IsSaid first lines rest

-- It has received the events behind the state that these lines say. It has then ended the
-- connection and given up what it held of that, which is named whole, and each command without an
-- answer. The whole log has this restart at its end, and the gateway follows it.
pub record WentOn (c : Settings) (log : Log) (lines : List (List ℕ)) (events : List ℕ)
    (gap : Option ReportedGap) (given_up : List GivenUp) (whole : Log) (s : State) : Type 0 where
  pub said : SayState lines
  pub left : State
  pub arrived : Log
  pub read : IsRead c log lines events gap arrived left
  pub named : given_up ≡ given_up_by c.line.sizes left
  pub given : s ≡ restarted left
  pub restarted : whole ≡ Came left.moment Restarted ∷ arrived
  pub follows : GoesOnWith c log lines whole s

-- the place that a station has now which had this one before: it is known by its link address
abbrev pub place_now : (before now : List StationSettings) → (place : ℕ) → Option ℕ
place_now before now place =
    option_and_then (λ (s : StationSettings). place_of s.address now) (slice_get before place)

-- the gap of the same station, by the place that it has now, if it is still there
abbrev pub gap_now : (before now : List StationSettings) → Option ReportedGap → Option ReportedGap
gap_now before now None = None
gap_now before now (Some gap) =
    option_map (λ (place : ℕ). (place, gap.1)) (place_now before now gap.0)

-- It went on so under the settings that wrote the log, and was then moved to these: a gap of its
-- last step is told by the place that its station has now.
pub record MovedOn (trusted : Bool) (c : Settings) (written : List ℕ) (log : Log)
    (lines : List (List ℕ)) (events : List ℕ) (gap : Option ReportedGap)
    (given_up : List GivenUp) (whole : Log) (s : State) : Type 0 where
  pub wrote : Settings
  pub read : IsReadOfText written (Ok wrote)
  pub left : State
  pub last : Option ReportedGap
  pub went : WentOn wrote log lines events last given_up whole left
  pub told : gap ≡ gap_now wrote.stations c.stations last
  pub moved : s ≡ carried trusted wrote c left

-- under the same settings with each link, or else moved
abbrev pub GoesOnBy : (is_same : Bool) → (trusted : Bool) → Settings → (written : List ℕ)
    → (log : Log) → (lines : List (List ℕ)) → (events : List ℕ) → Option ReportedGap
    → List GivenUp → (whole : Log) → State → Type 0
GoesOnBy true trusted c written log lines events gap given_up whole s =
    WentOn c log lines events gap given_up whole s
GoesOnBy false trusted c written log lines events gap given_up whole s =
    MovedOn trusted c written log lines events gap given_up whole s

-- whether the text under which a log was written says other settings than these
abbrev pub IsMoved : Settings → (written : List ℕ) → Bool → Type 0
IsMoved c written true = IsReadOfText written (Ok c) → ⊥
IsMoved c written false = IsReadOfText written (Ok c)

-- A gateway with these settings goes on with what stands in a file. If the log there was written
-- under others it is moved, and also if its links aren't trusted: then each of them is reset.
pub record GoesOnFrom (trusted : Bool) (c : Settings) (log : Log) (file : List ℕ)
    (is_moved : Bool) (damage : Option ℕ) (gap : Option ReportedGap) (given_up : List GivenUp)
    (whole : Log) (s : State) : Type 0 where
  pub begins : ℕ
  pub written : List ℕ
  pub lines : List (List ℕ)
  pub head : IsHeadOf file begins written lines
  pub moved : IsMoved c written is_moved
  pub goes : GoesOnBy (trusted && not is_moved) trusted c written log lines
      (log_in begins file) gap given_up whole s
  pub damaged : damage ≡ damage_in begins file
