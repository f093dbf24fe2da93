-- What a start can't read (profile).
use Rattle.std.specs.Prelude.{◌≡◌, ℕ, List, ◌∷◌, ◌++◌, Ok, IsTrue}
use Rattle.checkpoint.specs.Octets.{IsOctetLine}
use Rattle.gateway.specs.Config.{Settings}
use Rattle.gateway.specs.Restored.{HasSettings, IsSavable, state_lines}
use Rattle.gateway.specs.State.{State}
use Rattle.segments.specs.Head.{Fits}
use Rattle.segments.specs.Starts.{IsBacked, IsFoundIn, IsShut}
use Rattle.segments.specs.declared.head.SegmentHead.{SegmentHead}
use Rattle.settings.specs.Settings.{IsReadOfText}
use Rattle.sqlite_disk.specs.declared.Disk.{Ghosts}
use Rattle.statetext.specs.Text.{lines_in}

-- these are the lines of the state of a gateway with these settings, whatever comes behind them
pub record AreStateOf (c : Settings) (lines : List (List ℕ)) : Type 0 where
  pub state : State
  pub rest : List (List ℕ)
  pub are : lines ≡ state_lines state ++ rest
  pub savable : IsSavable state
  pub settings : HasSettings c state

-- A file has a segment, at whose head a gateway's state stands: a file of settings that can be
-- read, and the lines of the state of a gateway with these.
pub record HasState (file : List ℕ) : Type 0 where
  pub head : SegmentHead
  pub body : List ℕ
  pub written : List ℕ
  pub lines : List (List ℕ)
  pub fits : Fits head
  pub found : IsFoundIn file head body
  pub says : lines_in body ≡ written ∷ lines
  pub octets : IsOctetLine written
  pub wrote : Settings
  pub read : IsReadOfText written (Ok wrote)
  pub states : (by : Settings) → IsReadOfText written (Ok by) → AreStateOf by lines

-- What two files have is no state to go on with: the newest segment hasn't one at its head, or
-- there is none; and not both files are shut.
pub record IsUnread (newest other : List ℕ) : Type 0 where
  pub wins : IsBacked newest other
  pub none : HasState newest → ⊥
  pub some : IsShut newest → IsShut other → ⊥

-- two files were put aside, whose state can't be read
pub record WasAside {D : Type 0} (g : Ghosts D) (aside : D → D → Type 0) : Type 0 where
  pub newest : D
  pub other : D
  pub was : aside newest other
  pub unread : IsTrue (g.is_clean newest) → IsTrue (g.is_clean other) →
      IsUnread (g.seen newest) (g.seen other)
