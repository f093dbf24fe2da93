-- Where the clock of a live run begins.
use Rattle.std.proofs.Common.{◌≡◌, ◌⊎◌, ℕ, List, ◌∷◌, Option, Some, None, Result, inl, inr, subst}
use Rattle.std.proofs.Common.{ap, ◌∙◌}
use Rattle.std.specs.Borrow.{Bor}
use Rattle.std.specs.Prelude.{MatchOption}
use Rattle.clap.specs.Words.{Text}
use Rattle.gateway.specs.Config.{Settings}
use Rattle.gateway.specs.Log.{Log}
use Rattle.settings.specs.Live.{Places}
use Rattle.sqlite_disk.specs.declared.Disk.{Ghosts}
use Rattle.state.specs.Beginnings.{moment_at}
use Rattle.state.specs.declared.beginning.Origin.{Origin}
use Rattle.state.specs.declared.start.Beginning.{Beginning}
use Rattle.state.specs.declared.start.Beginning.TheVariants as beginnings
use Rattle.telegate.specs.Asked.{Asked, SiteCall, run_asked}
use Rattle.telegate.specs.Kept.{first_moment}
use Rattle.telegate.specs.Ran.{HasLivedAnew, HasLivedAs, HasLivedKept, RunLeft}
use Rattle.telegate.specs.Starts.{StartsIn}
use Rattle.telegate.specs.declared.host.Wishes.{Wishes}
use Rattle.telegate.proofs.KeptLemmas.{moment_in}
use Rattle.telegate.proofs.RanLemmas.{all_noted}

first_by : (o : Origin) (beginning : Beginning)
    → o.moment ≡ moment_at o.beginning o.gateway.moment → o.beginning ≡ beginning
    → first_moment o.moment ≡ first_moment (moment_at beginning o.gateway.moment)
first_by o beginning is so = ap first_moment (is ∙ ap (λ b. moment_at b o.gateway.moment) so)

first_on : (o : Origin) → o.moment ≡ moment_at o.beginning o.gateway.moment
    → (o.beginning ≡ beginnings.GoesOn) ⊎ (o.beginning ≡ beginnings.LinksReset)
    → first_moment o.moment ≡ o.gateway.moment
first_on o is (inl on) = first_by o beginnings.GoesOn is on
first_on o is (inr on) = first_by o beginnings.LinksReset is on

first_anew : (o : Origin) → o.moment ≡ moment_at o.beginning o.gateway.moment
    → (o.beginning ≡ beginnings.Anew) ⊎ (o.beginning ≡ beginnings.PutAside)
    → first_moment o.moment ≡ 0
first_anew o is (inl anew) = first_by o beginnings.Anew is anew
first_anew o is (inr aside) = first_by o beginnings.PutAside is aside

module _ {E : Type 0} (begins : Origin → Type 0) (settings : Settings) (wishes : Wishes)
    (places : Places) (lineage : Log) (before : List SiteCall) (moments : List ℕ) (new : Asked)
    (left : RunLeft) (ended : Result (Unit {0}) E) where
  was : Asked
  was = record {
    places = places;
    lineage = lineage;
    calls = Some before;
    clocks = Some moments;
  }

  noted_at : (moment : ℕ) → new ≡ run_asked wishes moment was
      → new.clocks ≡ Some (moment ∷ moments)
  unfolding was
  noted_at moment at = ap (λ (a : Asked). a.clocks) at
      ∙ (all_noted wishes.redial moment wishes.state wishes.status places lineage before moments).1

  By : Option (Bor Text) → Type 0
  By state = MatchOption state (HasLivedAnew settings wishes was new left ended)
      (λ _. HasLivedKept begins settings wishes was new left ended)

  of_none : By wishes.state → wishes.state ≡ None → HasLivedAnew settings wishes was new left ended
  unfolding By
  of_none h none = subst By none h

  of_some : (directory : Bor Text) → By wishes.state → wishes.state ≡ Some directory
      → HasLivedKept begins settings wishes was new left ended
  unfolding By
  of_some directory h named = subst By named h

-- a run without a state
pub clocked_anew : {E : Type 0} (begins : Origin → Type 0) (settings : Settings) (wishes : Wishes)
    (places : Places) (lineage : Log) (before : List SiteCall) (moments : List ℕ) (new : Asked)
    (left : RunLeft) (ended : Result (Unit {0}) E)
    → HasLivedAs begins settings wishes (record {
      places = places;
      lineage = lineage;
      calls = Some before;
      clocks = Some moments;
    }) new left ended → wishes.state ≡ None → new.clocks ≡ Some (0 ∷ moments)
unfolding was By
clocked_anew begins settings wishes places lineage before moments new left ended h none =
    noted_at begins settings wishes places lineage before moments new left ended 0
    (of_none begins settings wishes places lineage before moments new left ended h none).asked

-- one whose state is kept
pub clocked_kept : {E D : Type 0} (g : Ghosts D) (settings : Settings) (wishes : Wishes)
    (places : Places) (lineage : Log) (before : List SiteCall)
    (moments : List ℕ) (new : Asked) (left : RunLeft) (ended : Result (Unit {0}) E)
    (directory : Bor Text)
    → HasLivedAs (StartsIn g wishes settings lineage) settings wishes (record {
      places = places;
      lineage = lineage;
      calls = Some before;
      clocks = Some moments;
    }) new left ended → wishes.state ≡ Some directory
    → (o : Origin) × StartsIn g wishes settings lineage o × (left.pen.before ≡ o.before.entries)
    × ((o.beginning ≡ beginnings.GoesOn) ⊎ (o.beginning ≡ beginnings.LinksReset)
    → new.clocks ≡ Some (o.gateway.moment ∷ moments))
    × ((o.beginning ≡ beginnings.Anew) ⊎ (o.beginning ≡ beginnings.PutAside)
    → new.clocks ≡ Some (0 ∷ moments))
unfolding was By
clocked_kept {E} {D} g settings wishes places lineage before moments new left ended directory h
    named =
    let begins : Origin → Type 0 = StartsIn g wishes settings lineage in
    let k = of_some begins settings wishes places lineage before moments new left ended directory h
    named in
    let o = k.lived.origin in
    let moment = moment_in g wishes settings lineage o k.lived.begun in
    let at : new.clocks ≡ Some (first_moment o.moment ∷ moments) =
    noted_at begins settings wishes places lineage before moments new left ended
    (first_moment o.moment) k.lived.clock in (
      o,
      k.lived.begun,
      k.lived.on.behind,
      λ on. at ∙ ap (λ m. Some (m ∷ moments)) (first_on o moment on),
      λ anew. at ∙ ap (λ m. Some (m ∷ moments)) (first_anew o moment anew),
    )
