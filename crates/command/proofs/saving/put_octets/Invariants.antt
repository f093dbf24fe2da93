use Rattle.std.proofs.Common.{◌≡◌, ◌++◌, take, true}
use Rattle.command.specs.Saved.{are_octets}
use Rattle.command.proofs.saving.put_octets.Given as goal

abbrev pub invariant-loop-octet : goal.invariant-loop-octet
invariant-loop-octet l = record {
  line : l.line.items ≡ l.fn.line.items ++ take l.octet-index l.octets;
  octets : are_octets (take l.octet-index l.octets) ≡ true;
}
