-- With what a run begins in some directory (profile).
use Rattle.std.specs.Prelude.{Bool, Option, IsTrue}
use Rattle.gateway.specs.Config.{Settings}
use Rattle.gateway.specs.Log.{Log}
use Rattle.sqlite_disk.specs.declared.Disk.{Ghosts}
use Rattle.state.specs.Origins.{IsBegun}
use Rattle.state.specs.declared.beginning.Origin.{Origin}
use Rattle.state.specs.declared.opened.Opened.{Opened}
use Rattle.state.specs.declared.opened.Opened.TheVariants as opens

-- With these settings it begins so if the directory has some mark and some files, whose log so far
-- was this one.
pub record BeginsIn {D : Type 0} (g : Ghosts D) (c : Settings) (log : Log)
    (o : Origin) : Type 0 where
  pub mark : Option Bool
  pub opened : Opened D g
  pub begun : IsBegun {D = D} {g = g} c log mark opened o

-- With these settings it begins so over these two files, each read of which has gone well, if the
-- directory has this mark and the log so far was this one.
pub record BeginsOver {D : Type 0} (g : Ghosts D) (c : Settings) (log : Log)
    (mark : Option Bool) (newest other : D) (o : Origin) : Type 0 where
  pub first : IsTrue (g.is_clean newest)
  pub second : IsTrue (g.is_clean other)
  pub begun : IsBegun {D = D} {g = g} c log mark (opens.Both newest other) o
