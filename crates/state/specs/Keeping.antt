-- What a keeper is to its callers (profile).
use Rattle.std.specs.Prelude.{◌≡◌, ◌⊎◌, ℕ, ◌<◌, ◌^◌, Bool, true, false, List, Option, Some, nat_lt}
use Rattle.std.specs.Prelude.{if◌then◌else◌}
use Rattle.std.specs.declared.io.ErrorKind.{ErrorKind}
use Rattle.gateway.specs.Log.{Log}
use Rattle.gateway.specs.State.{State}
use Rattle.live.specs.declared.watched.Failure.{Failure}
use Rattle.live.specs.declared.watched.Failure.TheVariants as failures
use Rattle.live.specs.declared.watched.Notice.{Notice}
use Rattle.state.specs.Deeds.{Deeds, AreRight, HasPassed, IsInTime, grown, heads}
use Rattle.state.specs.Lines.{is_renewal_due}
use Rattle.state.specs.Renewals.{after_notice, after_try, is_try_due, notice_of}
use Rattle.state.specs.Standings.{IsStanding, Renews, is_lost}
use Rattle.state.specs.declared.renewal.Patience.{Patience}
use Rattle.state.specs.declared.standing.Standing.{Standing}

-- the ends that it stands between; how far the received events are on the disk; whether the run
-- goes on once the store has failed; how often it was stopped for that; and what was tried and
-- reported while the state wasn't kept
pub record Keeping (E : Type 0) : Type 0 where
  pub ends : E
  pub standing : Standing
  pub bears_loss : Bool
  pub stops : ℕ
  pub patience : Patience

-- what is fixed of a run that is kept: what is of its ends, and whether a loss is borne
pub record KeptFixture (F : Type 0) : Type 0 where
  pub ends : F
  pub bears_loss : Bool

abbrev pub kept_fixture : {F : Type 0} → F → (bears_loss : Bool) → KeptFixture F
kept_fixture ends bears_loss = record { ends = ends; bears_loss = bears_loss }

-- what is fixed between two looks: the logs that were begun too
pub record UnlookedFixture (F : Type 0) : Type 0 where
  pub kept : KeptFixture F
  pub heads : List (State × Log)

abbrev pub unlooked_fixture : {F : Type 0} → F → (bears_loss : Bool) → Deeds → UnlookedFixture F
unlooked_fixture ends bears_loss deeds =
    record { kept = kept_fixture ends bears_loss; heads = heads deeds }

-- what always holds of a history: how far the events are on the disk, that none waited too long,
-- and that each deed might be done when it was
pub record IsOrderly (bears_loss : Bool) (standing : Standing) (deeds : Deeds) : Type 0 where
  pub stands : IsStanding standing deeds
  pub time : IsInTime deeds
  pub right : AreRight bears_loss deeds

-- what always holds of a keeper, whose port may give its log
pub record IsKeeping (port : Option Log) (deeds : Deeds) (standing : Standing) (bears_loss : Bool)
    (failed : ℕ) : Type 0 where
  pub passed : HasPassed port deeds
  pub orderly : IsOrderly bears_loss standing deeds
  pub few : failed < 2 ^ 64

-- What a keeper does between two steps, when the gateway is in this state. If the store has failed,
-- a new log is tried if that is due, and none otherwise. If it hasn't, a new one is begun if the
-- present one has grown, and none otherwise. So behind a look there is room for a line.
pub record HasLooked {E : Type 0} (deeds : E → Deeds) (old : Keeping E) (state : State)
    (new : Keeping E) : Type 0 where
  pub tries : is_lost old.standing ≡ true → is_try_due old.patience ≡ true →
      Renews (deeds old.ends) state (deeds new.ends)
  pub waits : is_lost old.standing ≡ true → is_try_due old.patience ≡ false → new ≡ old
  pub renews : is_lost old.standing ≡ false → is_renewal_due (grown (deeds old.ends)) ≡ true →
      Renews (deeds old.ends) state (deeds new.ends)
  pub keeps : is_lost old.standing ≡ false → is_renewal_due (grown (deeds old.ends)) ≡ false →
      new ≡ old
  pub room : is_lost new.standing ≡ false → is_renewal_due (grown (deeds new.ends)) ≡ false
  pub looks : (new ≡ old) ⊎ Renews (deeds old.ends) state (deeds new.ends)
  pub tried : (new ≡ old) ⊎ (new.patience ≡ after_try (is_lost new.standing) old.patience)

-- It looks, and then gives what is to be reported. What has passed at its port, if that gives its
-- log, is what the deeds say.
pub record HasTended {E : Type 0} (log : E → Option Log) (deeds : E → Deeds) (old : Keeping E)
    (state : State) (new : Keeping E) (notice : Option Notice) : Type 0 where
  pub passed : HasPassed (log old.ends) (deeds old.ends)
  pub looked : Keeping E
  pub looks : HasLooked deeds old state looked
  pub cause : Option ErrorKind
  pub logs : notice ≡ notice_of (is_lost looked.standing) cause looked.patience
  pub after : new ≡ record looked { patience = after_notice notice looked.patience }

-- What has failed, if the run was stopped so often since its store had failed: the state, and else
-- what the port says.
abbrev pub failure_of : (stops : ℕ) → (of_port : Option Failure) → Option Failure
failure_of stops of_port = if nat_lt 0 stops then Some failures.State else of_port
