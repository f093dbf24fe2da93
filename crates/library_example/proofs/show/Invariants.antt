use Rattle.std.proofs.Common.{◌<◌, ◌^◌}
use Rattle.library_example.proofs.show.Given as goal

abbrev pub invariant-loop-apdu : goal.invariant-loop-apdu
invariant-loop-apdu g l = l.next < 2 ^ 15
