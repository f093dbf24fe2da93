-- What the state has to do with the history.
use Rattle.std.proofs.Common.{◌≡◌, ℕ, ◌≤◌, List, ◌++◌, length, drop}
use Rattle.std.specs.Prelude.{Option, Some, None, get_or}
use Rattle.std.specs.List.{AllByRecursion}
use Rattle.asdu.specs.declared.sizes.Sizes.{Sizes}
use Rattle.command.specs.declared.station.StationInfo.{StationInfo}
use Rattle.command.specs.declared.waiting.Waiting.{Waiting}
use Rattle.command.specs.declared.waiting.Line.{Line}
use Rattle.command.specs.declared.waiting.Line.TheVariants as line
use Rattle.command.specs.declared.selection.Selection.{Selection}
use Rattle.command.specs.State.{State, is_used}
use Rattle.command.specs.History.{History, forwarded_to, sent_count, ForwardsCommands, on_line}
use Rattle.command.specs.History.{is_on_line, GivesOwnAnswers, own_kept, own_sent, KeepsOwnAnswers}
use Rattle.command.proofs.Sendings.{waiting_for, AreShaped}
use Rattle.command.proofs.Machine.{ExecutesAreSelected}
use Rattle.command.proofs.Tied.{Tied}

-- the command of the open connection that a line holds
abbrev pub held : Line → Option (List ℕ)
held line.Free = None
held (line.Holds received) = Some received
held line.CutOff = None

-- what was forwarded to a station and didn't go out waits for it, in the form in which it goes out
pub record KeepsQueue (sizes : Sizes) (stations : List StationInfo) (ms age : ℕ)
    (waiting : List Waiting)
    (h : History) : Type 0 where
  pub count : (k : ℕ) → sent_count sizes stations ms age k h
      ≤ length (forwarded_to sizes stations ms age k h)
  pub in_turn : (k : ℕ)
      → drop (sent_count sizes stations ms age k h) (forwarded_to sizes stations ms age k h)
      ≡ waiting_for k waiting
  pub shaped : AreShaped sizes stations waiting
  pub sends : ForwardsCommands sizes stations ms age h

-- each line holds what stands on it
pub record KeepsLines (sizes : Sizes) (stations : List StationInfo) (ms age : ℕ) (lines : List Line)
    (h : History) : Type 0 where
  pub number : length lines ≡ length stations
  pub held : (k : ℕ) → held (get_or lines k line.Free) ≡ on_line sizes stations ms age k h
  pub used : (k : ℕ) → is_used (get_or lines k line.Free) ≡ is_on_line sizes stations ms age k h

-- own answers go out first in, first out
pub record KeepsOwn (answers : List (List ℕ)) (h : History) : Type 0 where
  pub in_turn : own_kept h ≡ own_sent h ++ answers
  pub kept : KeepsOwnAnswers h

pub record Keeps (sizes : Sizes) (stations : List StationInfo) (ms age : ℕ) (waiting : List Waiting)
    (lines : List Line) (selections : List Selection) (answers : List (List ℕ)) (h : History) : Type
    0 where
  pub queue : KeepsQueue sizes stations ms age waiting h
  pub on_lines : KeepsLines sizes stations ms age lines h
  pub own : KeepsOwn answers h
  pub tied : AllByRecursion (Tied sizes stations ms age h) selections
  pub executes : ExecutesAreSelected sizes stations ms age h
  pub rightly : GivesOwnAnswers sizes stations ms age h

-- the settings stay
pub record Same (s t : State) : Type 0 where
  pub sizes : t.sizes ≡ s.sizes
  pub stations : t.stations ≡ s.stations
  pub select_ms : t.select_ms ≡ s.select_ms
  pub max_age_ms : t.max_age_ms ≡ s.max_age_ms
