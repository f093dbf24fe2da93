use Rattle.std.proofs.Common.{◌≡◌, ◌+◌, ◌*◌, ◌≤◌, ◌++◌, length, false}
use Rattle.asdu.specs.Sizes.{ioa_len}
use Rattle.asdu.specs.Asdu.{content_len}
use Rattle.asdu.specs.Fields.{each_located}
use Rattle.asdu.specs.Objects.{infos_left}
use Rattle.asdu.specs.Writing.{spelled_infos}
use Rattle.asdu.proofs.writing.append_resized.Given as goal

-- what is written and what is left to be written are the whole
abbrev pub invariant-loop-left : goal.invariant-loop-left
invariant-loop-left g l = record {
  text : l.out.items
      ++ spelled_infos (ioa_len l.size) false (each_located l.objects.kind (ioa_len l.objects.ioa)
      l.left l.octets)
      ≡ l.fn.out.items ++ spelled_infos (ioa_len l.size) false (infos_left l.objects);
  fits : length l.out.items
      + length (spelled_infos (ioa_len l.size) false
      (each_located l.objects.kind (ioa_len l.objects.ioa) l.left l.octets)) ≤ g.row.N;
  long : l.left * (ioa_len l.objects.ioa + content_len l.objects.kind) ≤ length l.octets;
}

abbrev pub decreases-loop-left : goal.decreases-loop-left
decreases-loop-left g l = l.left
