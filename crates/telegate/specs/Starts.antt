-- With what a run begins whose state is to be kept (this gateway's own profile).
use Rattle.std.specs.Prelude.{◌≡◌, true, None}
use Rattle.gateway.specs.Config.{Settings}
use Rattle.gateway.specs.Log.{Log}
use Rattle.sqlite_disk.specs.declared.Disk.{Ghosts}
use Rattle.state.specs.Directories.{BeginsIn}
use Rattle.state.specs.Origins.{IsNew}
use Rattle.state.specs.declared.beginning.Origin.{Origin}
use Rattle.state.specs.declared.start.Beginning.TheVariants.{Anew}
use Rattle.telegate.specs.declared.host.Wishes.{Wishes}

-- It begins anew and without a state, if that is borne.
pub record IsWithout (wishes : Wishes) (c : Settings) (o : Origin) : Type 0 where
  pub borne : wishes.bears_loss ≡ true
  pub new : IsNew c o
  pub anew : o.beginning ≡ Anew
  pub moment : o.moment ≡ None

-- With these settings a run so wished begins so, if the log so far was this one: with what the
-- directory has, or without that.
pub data StartsIn {D : Type 0} (g : Ghosts D) (wishes : Wishes) (c : Settings) (log : Log)
    (o : Origin) : Type 0 where
  Found : BeginsIn g c log o → StartsIn g wishes c log o
  Without : IsWithout wishes c o → StartsIn g wishes c log o
