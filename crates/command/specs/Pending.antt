-- What is kept of commands, as it is told one by one.
use Rattle.std.specs.Prelude.{ℕ, List}
use Rattle.command.specs.declared.selection.SelectedObject.{SelectedObject}
use Rattle.command.specs.declared.selection.Selection.{Selection}
use Rattle.command.specs.declared.waiting.Waiting.{Waiting}

-- a command that waits: the place of its station, and its ASDU as it came
abbrev pub waiting_of : Waiting → ℕ × List ℕ
waiting_of w = (w.station, w.received)

-- what is selected, and the place of the station that was asked to
abbrev pub selected_of : Selection → SelectedObject
selected_of s = record {
  station = s.station;
  kind = s.command.kind;
  ca = s.command.ca;
  address = s.command.address;
}
