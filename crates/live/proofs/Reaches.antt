-- One address of a host after another is tried, and what a connect came to.
use Rattle.std.proofs.Common.{◌≡◌, ℕ, ◌+◌, ◌<◌, List, Bool, true, false, Option, Some, None, Result}
use Rattle.std.proofs.Common.{Ok, Err, IsErrAnd, refl, sym, ap, subst, ◌∙◌}
use Rattle.std.specs.IoError.{error_kind}
use Rattle.std.specs.Result.{is_ok}
use Rattle.std.specs.declared.io.Error.{Error}
use Rattle.std.specs.declared.io.ErrorKind.{ErrorKind}
use Rattle.std.specs.declared.io.ErrorKind.TheVariants.{TimedOut}
use Rattle.std.specs.declared.net.socket_addr.SocketAddr.{SocketAddr}
use Rattle.std.specs.declared.time.Instant.{Instant}
use Rattle.live.specs.Reaching.{AsksOn, AtPath, Began, BrokeOff, Came, CameThrough, ConnectsAt}
use Rattle.live.specs.Reaching.{DialsAt, DialsHost, Ends, Enough, FailsAt, GoesOn, GoesOnAsIs}
use Rattle.live.specs.Reaching.{InTime}
use Rattle.live.specs.Reaching.{IsUnderWay, LookedUp, NoneLeft, OneMore, OpensAt, Opened}
use Rattle.live.specs.Reaching.{Absent, ReachSteps, Refused, Showed, Stood, There, TooLate, Tries}
use Rattle.live.specs.Reaching.{TriesOn, Untimed, is_in_time, step_noted, unfound}
use Rattle.live.specs.declared.reach.Connecting.{Connecting}
use Rattle.live.specs.declared.reach.ReachedStream.{ReachedStream}
use Rattle.live.specs.declared.reach.Standing.{Standing}
use Rattle.live.specs.declared.reach.Standing.TheVariants.{Through, UnderWay, Broken}
use Rattle.live.specs.declared.redial.Dialled.{Dialled}
use Rattle.live.specs.declared.redial.Dialled.TheVariants.{Failed, Pending}

-- no connect to the address goes on
pub refused_at : (address : SocketAddr) (before after : ReachSteps)
    (answer : Result ReachedStream Error) (fault : Error) (result : Result Connecting Error)
    → after ≡ step_noted (Began address answer) before → answer ≡ Err fault
    → IsErrAnd result (λ y. y ≡ fault) → ConnectsAt address before result after
refused_at address before after answer fault (Ok connecting) noted was is = absurd is
refused_at address before after answer fault (Err other) noted was is =
    subst (λ e. FailsAt address e before after) (sym is)
    (Refused (noted ∙ ap (λ a. step_noted (Began address a) before) was))

pub untimed_at : (address : SocketAddr) (before mid after : ReachSteps)
    (answer : Result ReachedStream Error) (stream : ReachedStream)
    (shown : Result Instant Error) (fault : Error) (result : Result Connecting Error)
    → mid ≡ step_noted (Began address answer) before → answer ≡ Ok stream
    → after ≡ step_noted (Showed shown) mid → shown ≡ Err fault
    → IsErrAnd result (λ y. y ≡ fault) → ConnectsAt address before result after
untimed_at address before mid after answer stream shown fault (Ok c) noted was then says is =
    absurd is
untimed_at address before mid after answer stream shown fault (Err e) noted was then says is =
    subst (λ e. FailsAt address e before after) (sym is)
    (Untimed stream (then ∙ (ap (λ s. step_noted (Showed s) mid) says
    ∙ ap (λ m. step_noted (Showed (Err fault)) m)
    (noted ∙ ap (λ a. step_noted (Began address a) before) was))))

-- so the next one is tried
pub next_try : (first cause kind : ErrorKind) (before between mid after : ReachSteps) (count : ℕ)
    (address : SocketAddr) (answer : Result Connecting Error) (fault : Error)
    → Tries first before count cause between
    → mid ≡ step_noted (Came (Some address)) between → answer ≡ Err fault
    → ConnectsAt address mid answer after → kind ≡ error_kind fault
    → Tries first before (count + 1) kind after
next_try first cause kind before between mid after count address answer fault tries came was
    connects
    is =
    let fails : FailsAt address fault mid after =
    subst (λ a. ConnectsAt address mid a after) was connects in
    subst (λ k. Tries first before (count + 1) k after) (sym is)
    (OneMore count between after address cause fault tries
    (subst (λ m. FailsAt address fault m after) came fails))

-- or goes on
pub tried_on : {A : Type 0} (first cause : ErrorKind) (old : Option Connecting)
    (before between mid after : ReachSteps) (count : ℕ) (address : SocketAddr)
    (answer : Result Connecting Error) (connecting : Connecting)
    → Tries first before count cause between → count < 32
    → mid ≡ step_noted (Came (Some address)) between → answer ≡ Ok connecting
    → ConnectsAt address mid answer after
    → TriesOn {A = A} Pending first old before (Some connecting) after
tried_on first cause old before between mid after count address answer connecting tries few came was
    connects =
    let so : ConnectsAt address mid (Ok connecting) after =
    subst (λ a. ConnectsAt address mid a after) was connects in
    GoesOn count between address cause connecting tries few
    (subst (λ m. ConnectsAt address m (Ok connecting) after) came so) refl refl

-- the socket at a path
pub absent_at : {A : Type 0} (path : List ℕ) (before after : ReachSteps)
    (answer : Result ReachedStream Error) (fault : Error) (result : Result A Error)
    → after ≡ step_noted (AtPath path answer) before → answer ≡ Err fault
    → IsErrAnd result (λ y. y ≡ fault) → OpensAt path result before after
absent_at path before after answer fault (Ok line) noted was is = absurd is
absent_at path before after answer fault (Err other) noted was is =
    Absent fault is (noted ∙ ap (λ a. step_noted (AtPath path a) before) was)

pub there_at : {A : Type 0} (path : List ℕ) (before mid after : ReachSteps)
    (answer : Result ReachedStream Error) (stream : ReachedStream) (line : Result A Error)
    → mid ≡ step_noted (AtPath path answer) before → answer ≡ Ok stream
    → after ≡ step_noted (Opened stream (is_ok line)) mid → OpensAt path line before after
there_at path before mid after answer stream line noted was opened =
    There stream (opened ∙ ap (λ m. step_noted (Opened stream (is_ok line)) m)
    (noted ∙ ap (λ a. step_noted (AtPath path a) before) was))

pub dialled_at : {A : Type 0} (path its : List ℕ) (answer : Dialled A) (line : Result A Error)
    (before after : ReachSteps) → its ≡ path → OpensAt its line before after
    → Ends answer line → DialsAt path answer before after
dialled_at path its answer line before after is opens ends = record {
  line = line;
  ends = ends;
  opens = subst (λ p. OpensAt p line before after) is opens;
}

pub dialled_host : {A : Type 0} (host its : List ℕ) (answer : Dialled A) (cause : ErrorKind)
    (old new : Option Connecting) (before mid after : ReachSteps)
    (found : Result (Unit {0}) Error) → its ≡ host → mid ≡ step_noted (LookedUp its found) before
    → cause ≡ unfound found → TriesOn answer cause old mid new after
    → DialsHost host answer old before new after
dialled_host host its answer cause old new before mid after found is noted says tries = record {
  found = found;
  tries = subst (λ k. TriesOn answer k old (step_noted (LookedUp host found) before) new after) says
      (subst (λ m. TriesOn answer cause old m new after)
      (noted ∙ ap (λ h. step_noted (LookedUp h found) before) is) tries);
}

-- a connect that is under way
abbrev pub Shown : Connecting → (before after : ReachSteps) → (result : Bool) → Type 0
Shown connecting before after result = (shown : Result Instant Error)
    × (after ≡ step_noted (Showed shown) before) × (result ≡ is_in_time connecting.since shown)

pub in_time : {A : Type 0} (connecting : Connecting) (before after : ReachSteps) (result : Bool)
    → Shown connecting before after result → result ≡ true
    → GoesOnAsIs {A = A} connecting before Pending (Some connecting) after
in_time connecting before after result s is = InTime s.0 (sym s.2 ∙ is) s.1 refl refl

pub too_late : {A : Type 0} (connecting : Connecting) (answer : Dialled A)
    (old new : Option Connecting) (before mid after : ReachSteps) (result : Bool)
    → Shown connecting before mid result → result ≡ false → old ≡ None
    → TriesOn answer TimedOut old mid new after → GoesOnAsIs connecting before answer new after
too_late connecting answer old new before mid after result s is none tries =
    TooLate s.0 (sym s.2 ∙ is)
    (subst (λ m. TriesOn answer TimedOut None m new after) s.1
    (subst (λ o. TriesOn answer TimedOut o mid new after) none tries))

-- what a connect that was asked about came to
pub came_through : {A : Type 0} (old new : Option Connecting) (connecting : Connecting)
    (standing : Standing) (line : Result A Error) (before mid after : ReachSteps)
    (answer : Dialled A) → old ≡ Some connecting
    → mid ≡ step_noted (Stood connecting.stream standing) before → standing ≡ Through
    → after ≡ step_noted (Opened connecting.stream (is_ok line)) mid → Ends answer line
    → new ≡ None → AsksOn old before answer new after
came_through old new connecting standing line before mid after answer was stood so opened
    ends none =
    CameThrough connecting line was
    (opened ∙ ap (λ m. step_noted (Opened connecting.stream (is_ok line)) m)
    (stood ∙ ap (λ s. step_noted (Stood connecting.stream s) before) so)) ends none

pub under_way : {A : Type 0} (old new : Option Connecting) (connecting : Connecting)
    (standing : Standing) (before mid after : ReachSteps) (answer : Dialled A)
    → old ≡ Some connecting → mid ≡ step_noted (Stood connecting.stream standing) before
    → standing ≡ UnderWay → GoesOnAsIs connecting mid answer new after
    → AsksOn old before answer new after
under_way old new connecting standing before mid after answer was stood so on =
    IsUnderWay connecting was (subst (λ m. GoesOnAsIs connecting m answer new after)
    (stood ∙ ap (λ s. step_noted (Stood connecting.stream s) before) so) on)

pub broke_off : {A : Type 0} (old asked new : Option Connecting) (connecting : Connecting)
    (standing : Standing) (cause : ErrorKind) (before mid after : ReachSteps) (answer : Dialled A)
    → old ≡ Some connecting → mid ≡ step_noted (Stood connecting.stream standing) before
    → standing ≡ Broken cause → asked ≡ None → TriesOn answer cause asked mid new after
    → AsksOn old before answer new after
broke_off old asked new connecting standing cause before mid after answer was stood so is tries =
    BrokeOff connecting cause was (subst (λ m. TriesOn answer cause None m new after)
    (stood ∙ ap (λ s. step_noted (Stood connecting.stream s) before) so)
    (subst (λ o. TriesOn answer cause o mid new after) is tries))

-- or none is left
pub none_on : {A : Type 0} (first cause : ErrorKind) (old new : Option Connecting)
    (before between after : ReachSteps) (count : ℕ) (came : Option SocketAddr)
    → Tries first before count cause between
    → after ≡ step_noted (Came came) between → came ≡ None → new ≡ old
    → TriesOn {A = A} (Failed cause) first old before new after
none_on first cause old new before between after count came tries noted is same =
    NoneLeft count between cause tries (noted ∙ ap (λ c. step_noted (Came c) between) is) refl same

-- or 32 were tried
pub enough_on : {A : Type 0} (first cause : ErrorKind) (old new : Option Connecting)
    (before after : ReachSteps) (count : ℕ) → Tries first before count cause after → count ≡ 32
    → new ≡ old → TriesOn {A = A} (Failed cause) first old before new after
enough_on first cause old new before after count tries all same =
    Enough cause (subst (λ n. Tries first before n cause after) all tries) refl same
