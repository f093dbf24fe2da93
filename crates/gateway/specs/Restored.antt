-- A gateway's state between two steps as lines, and what such lines say (a form of this gateway's
-- own).
use Rattle.std.specs.Prelude.{◌≡◌, ℕ, List, [], ◌∷◌, ◌++◌, length, map, Option, Some, None, IfSome}
use Rattle.apci.specs.Assembly.{so_far_numbers, IsResumable}
use Rattle.link.specs.Restored.{primary_lines, IsStateOf, IsSavable as IsSavableLine}
use Rattle.session.specs.Restored.{session_lines, IsSavable as IsSavableSession}
use Rattle.session.specs.Restored.{HasSettings as HasSessionSettings}
use Rattle.command.specs.Restored.{commands_lines, IsSavable as AreSavableCommands}
use Rattle.command.specs.Restored.{HasSettings as HaveCommandSettings}
use Rattle.events.specs.Restored.{queue_lines, IsSavable as IsSavableQueue}
use Rattle.gateway.specs.declared.counts.Tally.{Tally}
use Rattle.gateway.specs.declared.walls.Wall.{Wall}
use Rattle.gateway.specs.declared.engine.restoring.ClockLine.{ClockLine}
use Rattle.gateway.specs.Config.{Settings}
use Rattle.gateway.specs.Setups.{link_of, info_of}
use Rattle.gateway.specs.Serial.{Serial}
use Rattle.gateway.specs.Centre.{Centre, IsWhole}
use Rattle.gateway.specs.State.{State, HasPlaces, IsBetweenSteps}

-- ---- What is written

-- when the wall clock gave its number last, and that number
abbrev pub wall_numbers : Option Wall → List ℕ
wall_numbers None = []
wall_numbers (Some wall) = wall.moment ∷ wall.number ∷ []

abbrev pub clock_line : State → List ℕ
clock_line s = s.moment ∷ wall_numbers s.wall

abbrev pub tally_line : Tally → List ℕ
tally_line t = t.skipped ∷ t.mirrors ∷ t.lost ∷ []

abbrev pub serial_lines : Serial → List (List ℕ)
serial_lines s = tally_line s.counts ∷ (primary_lines s.line ++ commands_lines s.commands)

abbrev pub centre_lines : Centre → List (List ℕ)
centre_lines s =
    so_far_numbers s.so_far ∷ (session_lines s.session ++ queue_lines s.queue)

-- the lines of the whole state but the settings, which stand elsewhere
abbrev pub state_lines : State → List (List ℕ)
state_lines s = clock_line s ∷ (serial_lines s.serial ++ centre_lines s.centre)

-- The first of these lines say the state of the line's side, and the rest stands behind them.
pub record IsSerialSaid (s : Serial) (lines rest : List (List ℕ)) : Type 0 where
  pub line : List (List ℕ)
  pub counts : lines ≡ tally_line s.counts ∷ line
  pub stations : IsStateOf s.line line (commands_lines s.commands ++ rest)

-- They say this state.
pub record IsSaid (s : State) (lines rest : List (List ℕ)) : Type 0 where
  pub serial : List (List ℕ)
  pub clock : lines ≡ clock_line s ∷ serial
  pub said : IsSerialSaid s.serial serial (centre_lines s.centre ++ rest)

-- ---- Which states these are

pub record IsSavableSerial (s : Serial) : Type 0 where
  pub line : IsSavableLine s.line
  pub commands : AreSavableCommands s.commands

pub record IsSavableCentre (s : Centre) : Type 0 where
  pub session : IsSavableSession s.session
  pub octets : IfSome s.so_far IsResumable
  pub queue : IsSavableQueue s.queue
  pub whole : IsWhole s.session s.so_far s.queue

-- What holds of the state of each gateway between two steps, and is needed to read it back.
pub record IsSavable (s : State) : Type 0 where
  pub serial : IsSavableSerial s.serial
  pub centre : IsSavableCentre s.centre
  pub places : HasPlaces s.serial.line s.centre.queue
  pub between : IsBetweenSteps s

-- ---- Whose settings these are

pub record HasSerialSettings (c : Settings) (s : Serial) : Type 0 where
  pub line : s.line.settings ≡ link_of c.line
  pub stations : length s.line.stations ≡ length c.stations
  pub commands : HaveCommandSettings (map info_of c.stations) c.line.sizes c.tcp.select_ms
      c.tcp.max_age_ms s.commands

pub record HasCentreSettings (c : Settings) (s : Centre) : Type 0 where
  pub session : HasSessionSettings s.session c.tcp.k c.tcp.w c.tcp.t1_ms c.tcp.t2_ms c.tcp.t3_ms
  pub places : s.queue.places ≡ c.line.queue

-- the state is one of a gateway with these settings
pub record HasSettings (c : Settings) (s : State) : Type 0 where
  pub serial : HasSerialSettings c s.serial
  pub centre : HasCentreSettings c s.centre
  pub sizes : s.sizes ≡ c.line.sizes

-- ---- What is read

abbrev pub clock_of : State → ClockLine
clock_of s = record { moment = s.moment; wall = s.wall }

abbrev pub clock_numbers : ClockLine → List ℕ
clock_numbers c = c.moment ∷ wall_numbers c.wall

abbrev pub clock_from : List ℕ → Option ClockLine
clock_from (moment ∷ []) = Some (record { moment = moment; wall = None })
clock_from (moment ∷ since ∷ number ∷ []) =
    Some (record { moment = moment; wall = Some (record { moment = since; number = number }) })
clock_from ns = None

abbrev pub tally_from : List ℕ → Option Tally
tally_from (skipped ∷ mirrors ∷ lost ∷ []) =
    Some (record { skipped = skipped; mirrors = mirrors; lost = lost })
tally_from ns = None
