use Rattle.std.proofs.Common.{◌+◌, ◌<◌}
use Rattle.traces.specs.FirstLines.{Paired}
use Rattle.traces.proofs.octets.write_block.Given as goal

-- all so far are decoded if all were of digits
abbrev pub invariant-pairs : goal.invariant-pairs
invariant-pairs l = record {
  all : l.bits < 256 → Paired l.text l.buf (l.from + l.i);
  before : Paired l.text l.buf l.from;
}
