-- How a run begins, by what the directory has (profile).
use Rattle.std.specs.Prelude.{◌≡◌, ◌⊎◌, Bool, true, false, List, ℕ, [], IsTrue, Option, Some, None}
use Rattle.gateway.specs.Agrees.{Follows}
use Rattle.gateway.specs.Config.{Settings}
use Rattle.gateway.specs.Log.{Log}
use Rattle.gateway.specs.Setups.{setup_of}
use Rattle.gateway.specs.State.{first_state}
use Rattle.segments.specs.Starts.{HasNoNewer, IsAbove, IsNewest, IsNext, IsShut, first_number}
use Rattle.sqlite_disk.specs.declared.Disk.{Ghosts}
use Rattle.state.specs.Beginnings.{IsReadWhole, GoesOnFrom, has_past, is_trusted, moment_at}
use Rattle.state.specs.Logs.{NewestIs}
use Rattle.state.specs.declared.beginning.Origin.{Origin}
use Rattle.state.specs.declared.opened.Opened.{Opened}
use Rattle.state.specs.declared.opened.Opened.TheVariants as opens
use Rattle.state.specs.declared.start.Beginning.{Beginning}
use Rattle.state.specs.declared.start.Beginning.TheVariants as beginnings

-- A new gateway, before which nothing passed. It may begin with any port that gives an empty log.
pub record IsNew (c : Settings) (o : Origin) : Type 0 where
  pub gateway : o.gateway ≡ first_state c
  pub gap : o.gap ≡ None
  pub given_up : o.given_up.items ≡ []
  pub damage : o.damage ≡ None
  pub before : o.before.entries ≡ []
  pub moved : o.is_moved ≡ false
  pub follows : Follows (setup_of c) o.gateway (Some [])

-- Whether the state is marked as stale on the disk: one that is gone on with isn't, and one that
-- was put aside was marked first.
abbrev pub IsMarkedBy : Beginning → (mark : Option Bool) → Type 0
IsMarkedBy beginnings.Anew mark = Unit {0}
IsMarkedBy beginnings.PutAside mark = mark ≡ Some true
IsMarkedBy beginnings.LinksReset mark = Unit {0}
IsMarkedBy beginnings.GoesOn mark = mark ≡ Some false

module _ {D : Type 0} {g : Ghosts D} where
  -- of what two files have that are open this holds, if each read of them has gone well
  abbrev pub OnBoth : (List ℕ → List ℕ → Type 0) → Opened D g → Type 0
  OnBoth P opens.Neither = ⊥
  OnBoth P (opens.Both newest spare) =
      IsTrue (g.is_clean newest) → IsTrue (g.is_clean spare) → P (g.seen newest) (g.seen spare)
  OnBoth P (opens.Current c) = ⊥

  -- The number of the next log is above that of each whose first line stands in one of these files,
  -- unless it is the greatest of 64 bits. No number is left out. Behind files that were put aside
  -- it is the first.
  abbrev pub IsNumbered : ℕ → Opened D g → Type 0
  IsNumbered number opens.Neither = number ≡ first_number
  IsNumbered number (opens.Both newest spare) =
      IsTrue (g.is_clean newest) → IsTrue (g.is_clean spare) →
      IsAbove number (g.seen newest) × IsAbove number (g.seen spare)
      × IsNext number (g.seen newest) (g.seen spare)
  IsNumbered number (opens.Current c) = Unit {0}

  -- With these settings a run begins so, if the directory has this mark and these files, whose log
  -- so far was this one. It begins anew only if both files are shut, and goes on with the newer of
  -- two segments. Each link is reset only if the state is marked as stale, or the other file may
  -- have had a segment as new, or a line of the log can't be read. If links are trusted, no segment
  -- as new ever stood in that file, and each line of the log can be read.
  pub record IsBegun (c : Settings) (log : Log) (mark : Option Bool)
      (opened : Opened D g) (o : Origin) : Type 0 where
    pub moment : o.moment ≡ moment_at o.beginning o.gateway.moment
    pub marked : IsMarkedBy o.beginning mark
    pub anew : has_past o.beginning ≡ false → IsNew c o
    pub empty : o.beginning ≡ beginnings.Anew →
        OnBoth (λ newest spare. IsShut newest × IsShut spare) opened
    pub newest : has_past o.beginning ≡ true → OnBoth IsNewest opened
    pub sure : o.beginning ≡ beginnings.GoesOn → OnBoth HasNoNewer opened
    pub read : o.beginning ≡ beginnings.GoesOn →
        OnBoth (λ newest spare. IsReadWhole newest) opened
    pub reset : o.beginning ≡ beginnings.LinksReset → (mark ≡ Some true)
        ⊎ OnBoth (λ newest spare. HasNoNewer newest spare → IsReadWhole newest → ⊥) opened
    pub goes_on : has_past o.beginning ≡ true → NewestIs (λ newest. IsTrue (g.is_clean newest) →
        GoesOnFrom (is_trusted o.beginning) c log (g.seen newest) o.is_moved o.damage o.gap
        o.given_up.items o.before.entries o.gateway) opened
