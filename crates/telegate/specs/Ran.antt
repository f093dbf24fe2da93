-- What came of a live run that was wished (this gateway's own profile).
use Rattle.std.specs.Prelude.{◌≡◌, ◌⊎◌, ◌+◌, ℕ, List, [], Bool, false, Option, Some}
use Rattle.std.specs.Prelude.{MatchOption, Result, Ok, Err}
use Rattle.gateway.specs.Config.{Settings}
use Rattle.live.specs.Ends.{LiveEnds}
use Rattle.record.specs.Recording.{Recording}
use Rattle.runlog.specs.Logging.{Book}
use Rattle.settings.specs.Live.{Places, places_of}
use Rattle.settings.specs.Settings.{IsLiveReadOfText}
use Rattle.settings.specs.declared.live.LiveSettings.{LiveSettings}
use Rattle.state.specs.declared.beginning.Origin.{Origin}
use Rattle.telegate.specs.AsWished.{IsAsWished}
use Rattle.telegate.specs.Asked.{Asked, run_asked}
use Rattle.telegate.specs.Faults.{fault_of_run}
use Rattle.telegate.specs.Kept.{HasLivedFrom, IsKeptFault}
use Rattle.telegate.specs.Living.{HasLived}
use Rattle.telegate.specs.Running.{HasRun, IsLiveConfigFault}
use Rattle.telegate.specs.declared.fault.Fault.{Fault}
use Rattle.telegate.specs.declared.fault.RunFault.{RunFault}
use Rattle.telegate.specs.declared.fault.RunFault.TheVariants.{Device}
use Rattle.telegate.specs.declared.host.Wishes.{Wishes}
use Rattle.telegate.specs.declared.living.Over.{Over}
use Rattle.telegate.specs.declared.living.Over.TheVariants.{Anew, Kept}
use Rattle.telegate.specs.declared.running.DeviceFailed.{DeviceFailed}

-- What is left of a run that is over: its port, its record, which says what passed before it, and
-- its log; whether it was shown; and, if its state was kept, whether it bore the loss of that, and
-- how often it stopped for it.
pub record RunLeft : Type 0 where
  pub port : LiveEnds
  pub pen : Recording
  pub book : Book
  pub is_shown : Bool
  pub bears_loss : Option Bool
  pub stops : ℕ

-- A run without a state is over. It began anew, and was as it was wished. It asked its site for
-- what it is to ask for, with a clock that begins at 0. It stopped only because its device failed,
-- and that once.
pub record HasLivedAnew {E : Type 0} (settings : Settings) (wishes : Wishes) (old new : Asked)
    (left : RunLeft) (ended : Result (Unit {0}) E) : Type 0 where
  pub asked : new ≡ run_asked wishes 0 old
  pub anew : left.pen.before ≡ []
  pub lived : HasLived settings wishes.allow_list false left.port left.pen ended
  pub device : HasRun 0 left.port.failed ended
  pub wished : IsAsWished wishes left.book left.pen left.is_shown

-- A run whose state is kept is over: it began so, went on from there, and was as it was wished. It
-- bore the loss of its state where that was wished. Its clock began where it went on. It stopped
-- only because its device failed, or because its state couldn't be kept.
pub record HasLivedKept {E : Type 0} (begins : Origin → Type 0) (settings : Settings)
    (wishes : Wishes) (old new : Asked) (left : RunLeft) (ended : Result (Unit {0}) E)
    : Type 0 where
  pub lived : HasLivedFrom begins settings wishes.allow_list
      (λ moment. new ≡ run_asked wishes moment old) left.port left.pen ended
  pub device : HasRun 0 (left.port.failed + left.stops) ended
  pub wished : IsAsWished wishes left.book left.pen left.is_shown
  pub bears : left.bears_loss ≡ Some wishes.bears_loss

-- A run with these settings is over, of which this is left, as it was wished. Its site was asked
-- for this before and after it.
abbrev pub HasLivedAs : {E : Type 0} → (begins : Origin → Type 0) → Settings → Wishes
    → (old new : Asked) → RunLeft → Result (Unit {0}) E → Type 0
HasLivedAs begins settings wishes old new left ended =
    MatchOption wishes.state (HasLivedAnew settings wishes old new left ended)
    (λ _. HasLivedKept begins settings wishes old new left ended)

-- this holds of a run that began anew, or that of one whose state is kept
abbrev pub IfOver : {A K : Type 0} → Over A K → (A → Type 0) → (K → Type 0) → Type 0
IfOver (Anew run) anew kept = anew run
IfOver (Kept run) anew kept = kept run

-- what is answered of a run that has ended so: a device that failed is a fault
abbrev pub answer_to : Result (Unit {0}) DeviceFailed → Result (Unit {0}) RunFault
answer_to (Ok done) = Ok done
answer_to (Err failed) = Err Device

-- a run with these settings is over, as it was wished, and this is answered of it
pub record HasCome (begins : Origin → Type 0) (settings : Settings) (wishes : Wishes)
    (old new : Asked) (answer : Result (Unit {0}) RunFault) : Type 0 where
  pub left : RunLeft
  pub ended : Result (Unit {0}) DeviceFailed
  pub lived : HasLivedAs begins settings wishes old new left ended
  pub answered : answer ≡ answer_to ended

-- It didn't begin: an end of it, or its state, can't be had. No clock was given for it, without
-- which nothing runs.
abbrev pub HasNotBegun : (old new : Asked) → Result (Unit {0}) RunFault → Type 0
HasNotBegun old new (Ok done) = ⊥
HasNotBegun old new (Err fault) = IsKeptFault fault × (new.clocks ≡ old.clocks)

-- it didn't begin, or it is over
abbrev pub HasComeAt : (begins : Origin → Type 0) → Settings → Wishes → (old new : Asked)
    → Result (Unit {0}) RunFault → Type 0
HasComeAt begins settings wishes old new answer =
    HasNotBegun old new answer ⊎ HasCome begins settings wishes old new answer

-- as the answer of a command
abbrev pub told : Result (Unit {0}) RunFault → Result (Unit {0}) Fault
told (Ok done) = Ok done
told (Err fault) = Err (fault_of_run fault)

-- The settings of a live run are those of its file, and this is answered of it. This was asked for
-- before and after it, at a site with its places.
pub record HasRunWith (begins : Settings → Origin → Type 0) (old new : Places → Asked)
    (text : List ℕ) (wishes : Wishes) (answer : Result (Unit {0}) Fault) : Type 0 where
  pub settings : Settings
  pub places : LiveSettings
  pub are : IsLiveReadOfText text (Ok (settings, places))
  pub run : Result (Unit {0}) RunFault
  pub came : HasComeAt (begins settings) settings wishes (old (places_of places))
      (new (places_of places)) run
  pub answered : answer ≡ told run

-- or the file is refused by the first fault, and nothing is run
abbrev pub IsRefused : List ℕ → Result (Unit {0}) Fault → Type 0
IsRefused text (Ok done) = ⊥
IsRefused text (Err fault) = IsLiveConfigFault text fault

abbrev pub HasRunBy : (begins : Settings → Origin → Type 0) → (old new : Places → Asked) → List ℕ
    → Wishes → Result (Unit {0}) Fault → Type 0
HasRunBy begins old new text wishes answer =
    HasRunWith begins old new text wishes answer ⊎ (IsRefused text answer × (new ≡ old))
