use Rattle.std.proofs.Common.{◌≡◌, ◌+◌, ◌*◌, ◌≤◌, ◌++◌, length, take, false}
use Rattle.asdu.specs.Sizes.{ioa_len}
use Rattle.asdu.specs.Asdu.{content_len}
use Rattle.asdu.specs.Fields.{each_located}
use Rattle.asdu.specs.Objects.{infos_left}
use Rattle.asdu.specs.Writing.{spelled_infos}
use Rattle.asdu.proofs.writing.append_each.Given as goal

-- what is in the row and what is left to be put there are the whole
abbrev pub invariant-loop-left : goal.invariant-loop-left
invariant-loop-left g l = record {
  text : take l.end l.row
      ++ spelled_infos 3 false (each_located l.objects.kind (ioa_len l.objects.ioa) l.left l.octets)
      ≡ spelled_infos 3 false (infos_left l.objects);
  fits : length (take l.end l.row)
      + length (spelled_infos 3 false
      (each_located l.objects.kind (ioa_len l.objects.ioa) l.left l.octets)) ≤ g.row.N;
  within : l.end ≤ g.row.N;
  long : l.left * (ioa_len l.objects.ioa + content_len l.objects.kind) ≤ length l.octets;
}

abbrev pub decreases-loop-left : goal.decreases-loop-left
decreases-loop-left g l = l.left
