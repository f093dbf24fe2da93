-- How a live run begins and ends, by what is left of it.
use Rattle.std.proofs.Common.{◌≡◌, ◌∙◌, ◌⊎◌, ◌+◌, ℕ, Bool, true, false, length, Option}
use Rattle.std.proofs.Common.{None, Some, Result, inl, inr, is_some, ap, subst, sym}
use Rattle.std.specs.Borrow.{Bor}
use Rattle.std.specs.Prelude.{MatchOption, Ok, OnOk}
use Rattle.clap.specs.Words.{Text}
use Rattle.gateway.specs.Config.{Settings}
use Rattle.gateway.specs.Log.{Log, events_of}
use Rattle.gateway.specs.Runs.{MoreEvents}
use Rattle.live.specs.Cuts.{CutsFirst}
use Rattle.live.specs.Ends.{Fixture, LiveEnds}
use Rattle.live.specs.Runs.{WallFirst}
use Rattle.record.specs.Recording.{all_passed}
use Rattle.state.specs.Beginnings.{moment_at}
use Rattle.state.specs.declared.beginning.Origin.{Origin}
use Rattle.state.specs.declared.start.Beginning.{Beginning}
use Rattle.state.specs.declared.start.Beginning.TheVariants as beginnings
use Rattle.telegate.specs.Asked.{Asked}
use Rattle.telegate.specs.Living.{HasLived, IsPortOfRun}
use Rattle.telegate.specs.Ran.{HasLivedAnew, HasLivedAs, HasLivedKept, RunLeft}
use Rattle.telegate.specs.Running.{HasEnded}
use Rattle.telegate.specs.declared.host.Wishes.{Wishes}
use Rattle.telegate.proofs.RanLemmas.{by_state}

-- ---- All turns

counted : (n : ℕ) (before log : Log) (shown : Option Log) → MoreEvents n (Some before) shown
    → shown ≡ Some log → length (events_of log) ≡ length (events_of before) + n
counted n before log shown more is =
    let same : Some (length (events_of log)) ≡ Some (length (events_of before) + n) =
    subst (λ (s : Option Log). MoreEvents n (Some before) s) is more in cc

never_over : (n : ℕ) (before log : Log) (shown : Option Log)
    → (false ≡ true) ⊎ MoreEvents n (Some before) shown → shown ≡ Some log
    → length (events_of log) ≡ length (events_of before) + n
never_over n before log shown (inl over) is = absurd (cc)
never_over n before log shown (inr more) is = counted n before log shown more is

-- a run that ended well took so many events
pub used_all : {E : Type 0} (n : ℕ) (ended : Result (Unit {0}) E) (before log : Log)
    (shown : Option Log)
    → OnOk ended ((false ≡ true) ⊎ MoreEvents n (Some before) shown) → ended ≡ Ok tt
    → shown ≡ Some log → length (events_of log) ≡ length (events_of before) + n
used_all {E} n ended before log shown over well is =
    let P : Result (Unit {0}) E → Type 0 = λ r.
    OnOk r ((false ≡ true) ⊎ MoreEvents n (Some before) shown) in
    never_over n before log shown (subst P well over) is

-- what is said of each run that is over
pub over_as : {E : Type 0} (begins : Origin → Type 0) (settings : Settings) (wishes : Wishes)
    (old new : Asked) (left : RunLeft) (ended : Result (Unit {0}) E)
    → HasLivedAs begins settings wishes old new left ended
    → OnOk ended (HasEnded false (Some left.pen.before)
    (all_passed left.pen (Some left.port.log)))
over_as begins settings wishes old new left ended h =
    by_state wishes.state
    (λ (a : HasLivedAnew settings wishes old new left ended). a.lived.over)
    (λ (k : HasLivedKept begins settings wishes old new left ended). k.lived.on.over) h

-- ---- The first events

pub wall_first : {E : Type 0} (begins : Origin → Type 0) (settings : Settings)
    (wishes : Wishes) (old new : Asked) (left : RunLeft) (ended : Result (Unit {0}) E)
    → HasLivedAs begins settings wishes old new left ended → WallFirst left.port.log
wall_first begins settings wishes old new left ended h =
    by_state wishes.state
    (λ (a : HasLivedAnew settings wishes old new left ended). a.lived.port_is.begins.wall)
    (λ (k : HasLivedKept begins settings wishes old new left ended).
    k.lived.on.port_is.begins.wall) h

-- if the clock goes on, the connection is cut first
pub moment_there : (o : Origin) → o.moment ≡ moment_at o.beginning o.gateway.moment
    → (o.beginning ≡ beginnings.GoesOn) ⊎ (o.beginning ≡ beginnings.LinksReset)
    → is_some o.moment ≡ true
moment_there o is (inl on) =
    ap (λ (m : Option ℕ). is_some m) (is ∙ ap (λ (b : Beginning). moment_at b o.gateway.moment) on)
moment_there o is (inr on) =
    ap (λ (m : Option ℕ). is_some m) (is ∙ ap (λ (b : Beginning). moment_at b o.gateway.moment) on)

pub cut_of : (settings : Settings) (wishes : Wishes) (goes_on : Bool) (port : LiveEnds)
    → IsPortOfRun settings wishes.allow_list goes_on port → goes_on ≡ true → CutsFirst port.log
cut_of settings wishes goes_on port is on =
    is.begins.cut (ap (λ (f : Fixture). f.goes_on) is.fixed ∙ on)

pub kept_of : {E : Type 0} (begins : Origin → Type 0) (settings : Settings) (wishes : Wishes)
    (old new : Asked) (left : RunLeft) (ended : Result (Unit {0}) E) (directory : Bor Text)
    → HasLivedAs begins settings wishes old new left ended → wishes.state ≡ Some directory
    → HasLivedKept begins settings wishes old new left ended
kept_of {E} begins settings wishes old new left ended directory h named =
    let P : Option (Bor Text) → Type 0 = λ state.
    MatchOption state (HasLivedAnew settings wishes old new left ended)
    (λ _. HasLivedKept begins settings wishes old new left ended) in
    subst P named h

-- a run that began anew
pub lived_anew : {E : Type 0} (begins : Origin → Type 0) (settings : Settings) (wishes : Wishes)
    (old new : Asked) (left : RunLeft) (ended : Result (Unit {0}) E)
    → HasLivedAs begins settings wishes old new left ended → wishes.state ≡ None
    → HasLived settings wishes.allow_list false left.port left.pen ended
lived_anew {E} begins settings wishes old new left ended h none =
    let P : Option (Bor Text) → Type 0 = λ state.
    MatchOption state (HasLivedAnew settings wishes old new left ended)
    (λ _. HasLivedKept begins settings wishes old new left ended) in
    (subst P none h).lived
