use Rattle.std.proofs.Common.{length, ◌≤◌, take}
use Rattle.std.specs.Io.KnownBytes.{Appends}
use Rattle.traces.proofs.writing.print.Given as goal

abbrev pub invariant-writing : goal.invariant-writing
invariant-writing g l = record {
  within : l.done ≤ length l.text;
  written : Appends (g.W.Write.contents l.initial.out) (g.W.Write.contents l.out)
      (take l.done l.text);
}
