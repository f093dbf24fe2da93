use Rattle.std.specs.Io.KnownBytes.{Keeps}
use Rattle.state.proofs.files.reading.next_piece.Given as goal

-- the reads that failed took nothing
abbrev pub invariant-reading : goal.invariant-reading
invariant-reading g l = Keeps (g.R.Read.remaining l.initial.from) (g.R.Read.remaining l.from)
