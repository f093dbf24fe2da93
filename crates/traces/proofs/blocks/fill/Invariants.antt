use Rattle.std.proofs.Common.{length, ◌≤◌}
use Rattle.std.specs.Io.KnownBytes.{Keeps}
use Rattle.traces.specs.Blocks.{held_and_left}
use Rattle.traces.proofs.blocks.fill.Given as goal

-- what was read and what is still to come are what they were together
abbrev pub invariant-filling : goal.invariant-filling
invariant-filling g l = record {
  within : l.filled ≤ length l.buf.items;
  kept : Keeps (held_and_left l.initial.filled l.initial.buf.items
      (g.R.Read.remaining l.initial.reader))
      (held_and_left l.filled l.buf.items (g.R.Read.remaining l.reader));
}
