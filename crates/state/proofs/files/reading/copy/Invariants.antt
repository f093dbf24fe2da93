use Rattle.std.proofs.Common.{◌≡◌, IsTrue, length}
use Rattle.std.specs.Io.KnownBytes.{Keeps, prepend_known}
use Rattle.sqlite_disk.specs.Memory.{memory_bytes, memory_is_usable}
use Rattle.state.proofs.files.reading.copy.Given as goal

-- what was copied and what is still to come are what they were together
abbrev pub invariant-copying : goal.invariant-copying
invariant-copying g l = record {
  usable : IsTrue (memory_is_usable l.to);
  room : length l.room.items ≡ 65536;
  kept : Keeps (prepend_known (memory_bytes l.initial.to) (g.R.Read.remaining l.initial.from))
      (prepend_known (memory_bytes l.to) (g.R.Read.remaining l.from));
}
