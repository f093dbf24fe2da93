-- What a segment shows that is begun.
use Rattle.std.specs.Prelude.{ℕ, List, drop}
use Rattle.sqlite_disk.specs.declared.Disk.{Ghosts}
use Rattle.segments.specs.declared.writer.Writer.{Writer}
use Rattle.segments.specs.Written.{text_in}

module _ {D : Type 0} {g : Ghosts D} where
  -- the octets of the checkpoint that were appended, written or not
  abbrev pub appended_to : Writer D g → List ℕ
  appended_to w = drop 87 (text_in w.stored (g.seen w.file) w.page.items)
