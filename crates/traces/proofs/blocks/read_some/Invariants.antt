use Rattle.std.specs.Io.KnownBytes.{Keeps}
use Rattle.traces.proofs.blocks.read_some.Given as goal

-- the reads that failed took nothing
abbrev pub invariant-reading : goal.invariant-reading
invariant-reading g l = Keeps (g.R.Read.remaining l.initial.reader) (g.R.Read.remaining l.reader)
