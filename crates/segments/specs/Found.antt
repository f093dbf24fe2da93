-- What a start shows of the newest segment.
use Rattle.std.specs.Prelude.{ℕ, List, Option, IsTrue}
use Rattle.sqlite_disk.specs.declared.Disk.{Ghosts}
use Rattle.segments.specs.Room.{damage_in, log_in}
use Rattle.segments.specs.declared.start.Side.{Side}
use Rattle.segments.specs.declared.start.Start.{Start}

module _ {D : Type 0} {g : Ghosts D} where
  -- the file in which it stands
  abbrev pub newest_of : Start D g → D
  newest_of s = s.newest

  -- where its lines begin, behind the checkpoint
  abbrev pub begins_at : Start D g → ℕ
  begins_at s = s.at

  -- its lines
  abbrev pub events_in : Start D g → List ℕ
  events_in s = log_in s.at (g.seen s.newest)

  -- where they end for damage
  abbrev pub damage_of : Start D g → Option ℕ
  damage_of s = damage_in s.at (g.seen s.newest)

  -- the other file, into which the next segment goes
  abbrev pub other_of : Start D g → D
  other_of s = s.other

  -- what both files have
  abbrev pub newest_in : Start D g → List ℕ
  newest_in s = g.seen s.newest

  abbrev pub other_in : Start D g → List ℕ
  other_in s = g.seen s.other

  -- each read of both has gone well
  abbrev pub AreClean : Start D g → Type 0
  AreClean s = IsTrue (g.is_clean s.newest) × IsTrue (g.is_clean s.other)

  -- where the newest segment stands, and the number of the next one
  abbrev pub next_of : Start D g → Side × ℕ
  next_of s = (s.side, s.number)
