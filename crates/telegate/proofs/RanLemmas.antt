-- What came of a live run as it was wished.
use Rattle.std.proofs.Common.{◌≡◌, ℕ, Bool, List, [], ◌∷◌, ◌++◌, false, true, Option, Some, None}
use Rattle.std.proofs.Common.{Result, Ok, Err, refl, sym, subst, ap, ◌∙◌, ◌⊎◌, ◌+◌, inl, inr, is_some}
use Rattle.std.specs.Borrow.{Bor}
use Rattle.std.specs.Prelude.{MatchOption}
use Rattle.clap.specs.Words.{Text}
use Rattle.gateway.specs.Config.{Settings}
use Rattle.gateway.specs.Log.{Log}
use Rattle.live.specs.Ends.{Fixture}
use Rattle.settings.specs.Live.{Places}
use Rattle.sqlite_disk.specs.declared.Disk.{Ghosts}
use Rattle.state.specs.declared.beginning.Origin.{Origin}
use Rattle.telegate.specs.AsWished.{IsAsWished}
use Rattle.telegate.specs.Asked.{Asked, StateIn, asked_by, asked_for, call_if, ends_asked}
use Rattle.telegate.specs.Asked.{run_asked}
use Rattle.telegate.specs.Asked.{LineAt, ListenAt, LogAt, RecordAt, SiteCall, StatusAt}
use Rattle.telegate.specs.Asked.{scribes_asked}
use Rattle.telegate.specs.Kept.{HasLivedFrom, IsKeptFault, first_moment}
use Rattle.telegate.specs.Living.{HasLived}
use Rattle.telegate.specs.Ran.{HasCome, HasLivedAnew, HasLivedAs, HasLivedKept, HasNotBegun}
use Rattle.telegate.specs.Ran.{HasComeAt, IfOver, RunLeft}
use Rattle.telegate.specs.Running.{HasRun}
use Rattle.telegate.specs.Starts.{StartsIn}
use Rattle.telegate.specs.declared.fault.RunFault.{RunFault}
use Rattle.telegate.specs.declared.host.Wishes.{Wishes}
use Rattle.telegate.specs.declared.living.Over.{Over}
use Rattle.telegate.specs.declared.living.Over.TheVariants.{Anew, Kept}

pub lived_anew : {E : Type 0} (begins : Origin → Type 0) (settings : Settings) (wishes : Wishes)
    (old new : Asked) (left : RunLeft) (ended : Result (Unit {0}) E) → wishes.state ≡ None
    → new ≡ ends_asked wishes.redial 0 (scribes_asked wishes.status old)
    → left.pen.before ≡ []
    → HasLived settings wishes.allow_list false left.port left.pen ended
    → HasRun 0 left.port.failed ended
    → IsAsWished wishes left.book left.pen left.is_shown
    → HasLivedAs begins settings wishes old new left ended
lived_anew begins settings wishes old new left ended none asked anew lived device wished =
    let P : Option (Bor Text) → Type 0 = λ state.
    MatchOption state (HasLivedAnew settings wishes old new left ended)
    (λ _. HasLivedKept begins settings wishes old new left ended) in
    let A : Option (Bor Text) → Type 0 = λ state.
    new ≡ ends_asked wishes.redial 0 (asked_for (call_if StateIn state)
    (scribes_asked wishes.status old)) in
    subst P (sym none)
    (record {
      asked = subst A (sym none) asked;
      anew = anew;
      lived = lived;
      device = device;
      wished = wished;
    })

pub lived_kept : {E : Type 0} (begins : Origin → Type 0) (settings : Settings) (wishes : Wishes)
    (old new : Asked) (directory : Bor Text) (left : RunLeft) (ended : Result (Unit {0}) E)
    → wishes.state ≡ Some directory
    → HasLivedFrom begins settings wishes.allow_list
    (λ moment. new ≡ ends_asked wishes.redial moment (asked_for (StateIn directory.now true ∷ [])
    (scribes_asked wishes.status old))) left.port left.pen ended
    → HasRun 0 (left.port.failed + left.stops) ended
    → IsAsWished wishes left.book left.pen left.is_shown
    → left.bears_loss ≡ Some wishes.bears_loss
    → HasLivedAs begins settings wishes old new left ended
lived_kept begins settings wishes old new directory left ended named lived device wished bears =
    let P : Option (Bor Text) → Type 0 = λ state.
    MatchOption state (HasLivedAnew settings wishes old new left ended)
    (λ _. HasLivedKept begins settings wishes old new left ended) in
    let F : Option (Bor Text) → Type 0 = λ state. HasLivedFrom begins settings wishes.allow_list
    (λ moment. new ≡ ends_asked wishes.redial moment (asked_for (call_if StateIn state)
    (scribes_asked wishes.status old))) left.port left.pen ended in
    subst P (sym named)
    (record {
      lived = subst F (sym named) lived;
      device = device;
      wished = wished;
      bears = bears;
    })

pub by_state : {P A K : Type 0} (state : Option (Bor Text)) → (A → P) → (K → P)
    → MatchOption state A (λ _. K) → P
by_state None anew kept h = anew h
by_state (Some directory) anew kept h = kept h

-- what holds of a run that began anew, and of one whose state is kept
pub by_over : {A K C : Type 0} (over : Over A K) (P R : A → Type 0) (Q S : K → Type 0)
    → IfOver over P Q → IfOver over R S → ((run : A) → P run → R run → C)
    → ((run : K) → Q run → S run → C) → C
by_over (Anew run) P R Q S p r anew kept = anew run p r
by_over (Kept run) P R Q S q s anew kept = kept run q s

-- the log so far under another name
pub starts_by : {D : Type 0} (g : Ghosts D) (wishes : Wishes) (c : Settings) (one other : Log)
    (o : Origin) → one ≡ other → StartsIn g wishes c one o → StartsIn g wishes c other o
starts_by g wishes c one other o same starts = subst (λ log. StartsIn g wishes c log o) same starts

-- a run that began so began in a way that follows from that
pub begins_weaker : {E : Type 0} (strong weak : Origin → Type 0) (settings : Settings)
    (wishes : Wishes) (old new : Asked) (left : RunLeft) (ended : Result (Unit {0}) E)
    → HasLivedAs strong settings wishes old new left ended → ((o : Origin) → strong o → weak o)
    → HasLivedAs weak settings wishes old new left ended
begins_weaker {E} strong weak settings wishes old new left ended h implies = by wishes.state h
  where
    by : (state : Option (Bor Text))
        → MatchOption state (HasLivedAnew settings wishes old new left ended)
        (λ _. HasLivedKept strong settings wishes old new left ended)
        → MatchOption state (HasLivedAnew settings wishes old new left ended)
        (λ _. HasLivedKept weak settings wishes old new left ended)
    by None anew = anew
    by (Some directory) kept = record {
      lived = record {
        origin = kept.lived.origin;
        begun = implies kept.lived.origin kept.lived.begun;
        clock = kept.lived.clock;
        on = kept.lived.on;
      };
      device = kept.device;
      wished = kept.wished;
      bears = kept.bears;
    }

-- all that a run asks for
asked_at : {E : Type 0} (begins : Origin → Type 0) (settings : Settings) (wishes : Wishes)
    (old new : Asked) (left : RunLeft) (ended : Result (Unit {0}) E)
    → HasLivedAs begins settings wishes old new left ended
    → (moment : ℕ) × (new ≡ run_asked wishes moment old)
asked_at begins settings wishes old new left ended h =
    by_state wishes.state
    (λ (a : HasLivedAnew settings wishes old new left ended). (0, a.asked))
    (λ (k : HasLivedKept begins settings wishes old new left ended). (
      first_moment k.lived.origin.moment,
      k.lived.clock,
    )) h

-- what a run asks for leaves the places, and what led to the state, as they are
asked_so : {E : Type 0} (begins : Origin → Type 0) (settings : Settings) (wishes : Wishes)
    (lineage : Log) (calls : Option (List SiteCall)) (clocks : Option (List ℕ)) (places : Places)
    (new : Asked) (left : RunLeft) (ended : Result (Unit {0}) E)
    → HasLivedAs begins settings wishes (asked_by lineage calls clocks places) new left ended
    → new ≡ asked_by lineage new.calls new.clocks places
asked_so begins settings wishes lineage calls clocks places new left ended h =
    let at = asked_at begins settings wishes (asked_by lineage calls clocks places) new left ended
    h in
    at.1 ∙ sym (ap (λ (a : Asked). asked_by lineage a.calls a.clocks places) at.1)

none_by : (one other new : Asked) (answer : Result (Unit {0}) RunFault) → new.clocks ≡ other.clocks
    → HasNotBegun one new answer → HasNotBegun one other answer
none_by one other new (Ok done) same none = none
none_by one other new (Err fault) same none = (none.0, sym same ∙ none.1)

-- a run at a site that was asked for this before
pub come_at : {D : Type 0} (g : Ghosts D) (settings : Settings) (wishes : Wishes) (old : Asked)
    (lineage : Log) (calls : Option (List SiteCall)) (clocks : Option (List ℕ)) (places : Places)
    (new : Asked) (answer : Result (Unit {0}) RunFault)
    → old ≡ asked_by lineage calls clocks places
    → HasComeAt (StartsIn g wishes settings old.lineage) settings wishes old new answer
    → HasComeAt (StartsIn g wishes settings lineage) settings wishes
    (asked_by lineage calls clocks places) (asked_by lineage new.calls new.clocks places) answer
come_at g settings wishes old lineage calls clocks places new answer same came =
    let at : Asked = asked_by lineage calls clocks places in
    elim (subst (λ (a : Asked). HasComeAt (StartsIn g wishes settings a.lineage) settings wishes a
    new answer) same came) [
      | inl none ↦ inl (none_by at (asked_by lineage new.calls new.clocks places) new answer refl
          none)
      | inr over ↦ inr (subst (λ (a : Asked). HasCome (StartsIn g wishes settings lineage) settings
          wishes at a answer)
          (asked_so _ settings wishes lineage calls clocks places new over.left over.ended
          over.lived)
          over)
    ]

-- one that had no memory, or no end, before it asked a site for anything
pub never_at : (begins : Origin → Type 0) (settings : Settings) (wishes : Wishes) (asked : Asked)
    (fault : RunFault) → IsKeptFault fault
    → HasComeAt begins settings wishes asked asked (Err fault)
never_at begins settings wishes asked fault is = inl (is, refl)

-- what is left of it is as it was wished
pub as_wished : {E : Type 0} (begins : Origin → Type 0) (settings : Settings) (wishes : Wishes)
    (old new : Asked) (left : RunLeft) (ended : Result (Unit {0}) E)
    → HasLivedAs begins settings wishes old new left ended
    → (left.book.is_wished ≡ wishes.log) × (left.pen.is_wished ≡ wishes.«record»)
    × (left.book.is_watching ≡ is_some wishes.status) × (left.is_shown ≡ is_some wishes.status)
    × (left.port.allow_list ≡ wishes.allow_list)
as_wished begins settings wishes old new left ended h =
    by_state wishes.state
    (λ (a : HasLivedAnew settings wishes old new left ended). (
      a.wished.logged,
      a.wished.recorded,
      a.wished.watched,
      a.wished.shown,
      ap (λ (f : Fixture). f.allow_list) a.lived.port_is.fixed,
    ))
    (λ (k : HasLivedKept begins settings wishes old new left ended). (
      k.wished.logged,
      k.wished.recorded,
      k.wished.watched,
      k.wished.shown,
      ap (λ (f : Fixture). f.allow_list) k.lived.on.port_is.fixed,
    )) h

pub bears_as_wished : {E : Type 0} (begins : Origin → Type 0) (settings : Settings)
    (wishes : Wishes) (old new : Asked) (left : RunLeft) (ended : Result (Unit {0}) E)
    (directory : Bor Text) → HasLivedAs begins settings wishes old new left ended
    → wishes.state ≡ Some directory → left.bears_loss ≡ Some wishes.bears_loss
bears_as_wished begins settings wishes old new left ended directory h named =
    let P : Option (Bor Text) → Type 0 = λ state.
    MatchOption state (HasLivedAnew settings wishes old new left ended)
    (λ _. HasLivedKept begins settings wishes old new left ended) in
    let kept : HasLivedKept begins settings wishes old new left ended = subst P named h in
    kept.bears

-- each call that is asked for is noted
pub all_noted : (again : Bool) (moment : ℕ) (state status : Option (Bor Text)) (places : Places)
    (lineage : Log) (before : List SiteCall) (moments : List ℕ)
    → let a : Asked = ends_asked again moment (asked_for (call_if StateIn state)
    (scribes_asked status (record {
      places = places;
      lineage = lineage;
      calls = Some before;
      clocks = Some moments;
    }))) in
    (a.calls ≡ Some (LineAt places.line again true ∷ ListenAt places.listen true
    ∷ call_if StateIn state ++ RecordAt ∷ call_if StatusAt status ++ LogAt ∷ before))
    × (a.clocks ≡ Some (moment ∷ moments))
all_noted again moment None None places lineage before moments = (refl, refl)
all_noted again moment None (Some place) places lineage before moments = (refl, refl)
all_noted again moment (Some name) None places lineage before moments = (refl, refl)
all_noted again moment (Some name) (Some place) places lineage before moments = (refl, refl)

-- so is what it asked for
pub asked_as_wished : {E : Type 0} (begins : Origin → Type 0) (settings : Settings)
    (wishes : Wishes) (places : Places) (lineage : Log) (before : List SiteCall)
    (moments : List ℕ) (new : Asked) (left : RunLeft) (ended : Result (Unit {0}) E)
    → HasLivedAs begins settings wishes (record {
      places = places;
      lineage = lineage;
      calls = Some before;
      clocks = Some moments;
    }) new left ended
    → (moment : ℕ) × (new.calls ≡ Some (LineAt places.line wishes.redial true
    ∷ ListenAt places.listen true
    ∷ call_if StateIn wishes.state ++ RecordAt ∷ call_if StatusAt wishes.status ++ LogAt ∷ before))
    × (new.clocks ≡ Some (moment ∷ moments))
asked_as_wished begins settings wishes places lineage before moments new left ended h =
    let old : Asked = record {
      places = places;
      lineage = lineage;
      calls = Some before;
      clocks = Some moments;
    } in
    let at = asked_at begins settings wishes old new left ended h in
    let all = all_noted wishes.redial at.0 wishes.state wishes.status places lineage before
    moments in (
      at.0,
      ap (λ (a : Asked). a.calls) at.1 ∙ all.0,
      ap (λ (a : Asked). a.clocks) at.1 ∙ all.1,
    )
