use Rattle.std.proofs.Common.{◌≡◌, map, take}
use Rattle.command.specs.Carried.{line_carried}
use Rattle.command.proofs.commands.carrying.lines_carried.Given as goal

abbrev pub invariant-loop-place : goal.invariant-loop-place
invariant-loop-place l = l.kept.items ≡ map (line_carried l.lines) (take l.place-index l.before)
