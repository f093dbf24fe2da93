-- Confirmations that follow a frame: how many there are, and that no time runs out meanwhile.
use Rattle.std.proofs.Common.{◌≡◌, ℕ, ◌<◌, Bool, true, false, List, arith, length-append, refl, ap}
use Rattle.std.proofs.Common.{sym, ◌∙◌, subst, Option, Some, None, inr}
use Rattle.std.specs.Bool.{OnTrue}
use Rattle.apci.specs.declared.apdu.Apdu.{Apdu}
use Rattle.session.specs.Session as session
use Rattle.session.specs.Session.{Session, may_send}
use Rattle.gateway.specs.Log.{Log}
use Rattle.gateway.specs.Reports.{Setup}
use Rattle.session.specs.declared.kinds.FrameOrigin.{FrameOrigin}
use Rattle.gateway.specs.State.{State, with_session}
use Rattle.gateway.specs.Phases.{Judged}
use Rattle.session.specs.Ends.{after_confirm, after_pull, IsConfirmed, IsInTime}
use Rattle.gateway.specs.Agrees.{IsClear, Tracks, Awaits, IsSpent, StaysInTime, pending}
use Rattle.gateway.proofs.Talking.{confirm_t1, pull_t1}
use Rattle.gateway.proofs.Receiving.{now_taking}
use Rattle.gateway.proofs.Put.{IsData, pulled_spent}

-- Confirmations

pub awaits : (p : Setup) (logged : Option Log) (s : State) (unjudged : List ℕ)
    → IsConfirmed s.centre.session → IsSpent s
    → (session.pulled s.moment s.centre.session).0 ≡ None → Tracks p s logged unjudged Judged
    → Awaits p s logged unjudged
awaits p None s unjudged ready spent pulled h = tt
awaits p (Some log) s unjudged ready spent pulled a = (
  now_taking p s log unjudged a,
  record { confirmed = ready; spent = spent },
  inr pulled,
  omega (arith, a.left, length-append (pending s.centre.so_far) unjudged),
)

-- no time runs out meanwhile

pub in_time_same : (s t : State) → t.centre.session ≡ s.centre.session → t.moment ≡ s.moment
    → IsInTime s.moment s.centre.session → IsInTime t.moment t.centre.session
in_time_same s t same moment h = subst (λ (x : Session). session.timed_out t.moment x ≡ false)
    (sym same)
    (subst (λ m. session.timed_out m s.centre.session ≡ false) (sym moment) h)

pub stays_after : (s t u : State) → StaysInTime s t → StaysInTime t u → StaysInTime s u
stays_after s t u first second some h = let k = first some h in second k.1 k.0

pub stays_by : (s : State) (t : Session) (u : State) → u ≡ with_session t s
    → (0 < s.centre.session.t1 → IsInTime s.moment s.centre.session → IsInTime s.moment t)
    → t.t1 ≡ s.centre.session.t1
    → StaysInTime s u
stays_by s t u is early same some h = subst (λ (x : State). IsInTime x.moment x.centre.session
    × (0 < x.centre.session.t1)) (sym is) (early some h, subst (λ n. 0 < n) (sym same) some)

pub on_true : (b : Bool) (P : Type 0) → P → OnTrue b P
on_true true P h = h
on_true false P h = tt

pub on_map : (b : Bool) (P Q : Type 0) → (P → Q) → OnTrue b P → OnTrue b Q
on_map true P Q f h = f h
on_map false P Q f h = tt

pub confirmed_next : (s t : State) (r : Option Apdu) → ◌≡◌ {A =
    Option Apdu × Session} (r, t.centre.session) (session.confirmed s.centre.session)
    → t ≡ with_session t.centre.session s → t ≡ with_session (after_confirm s.centre.session) s
confirmed_next s t r e rest = rest
    ∙ ap (λ (x : Session). with_session x s) (ap (λ (d : Option Apdu × Session). d.1) e)

pub pulled_next : (s t : State) (r : Option Apdu) → ◌≡◌ {A =
    Option Apdu × Session} (r, t.centre.session) (session.pulled s.moment s.centre.session)
    → t ≡ with_session t.centre.session s → t ≡ with_session (after_pull s.moment s.centre.session)
    s
pulled_next s t r e rest = rest
    ∙ ap (λ (x : Session). with_session x s) (ap (λ (d : Option Apdu × Session). d.1) e)

pub confirm_in_time : ((now : ℕ) (s : Session) → IsInTime now s → IsInTime now (after_confirm s))
    → (s t : State)
    → t ≡ with_session (after_confirm s.centre.session) s → StaysInTime s t
confirm_in_time law s t is = stays_by s (after_confirm s.centre.session) t is
    (λ some h. law s.moment s.centre.session h) (confirm_t1 s.centre.session)

pub pull_in_time : ((now : ℕ) (s : Session) → 0 < s.t1 → IsInTime now s
    → IsInTime now (after_pull now s))
    → (s t : State) → t ≡ with_session (after_pull s.moment s.centre.session) s → StaysInTime s t
pull_in_time law s t is = stays_by s (after_pull s.moment s.centre.session) t is
    (λ some h. law s.moment s.centre.session some h) (pull_t1 s.moment s.centre.session)

pub pull_confirmed : ((now : ℕ) (s : Session) → IsConfirmed s → IsConfirmed (after_pull now s))
    → (s t : State)
    → t ≡ with_session (after_pull s.moment s.centre.session) s → IsConfirmed s.centre.session
    → IsConfirmed t.centre.session
pull_confirmed law s t is h = subst (λ (x : State). IsConfirmed x.centre.session) (sym is)
    (law s.moment s.centre.session h)

-- three calls of confirm are the most that answer a frame
pub confirms_end : ((s : Session) → IsConfirmed (after_confirm (after_confirm (after_confirm s))))
    → (s t u v : State) → t ≡ with_session (after_confirm s.centre.session) s
    → u ≡ with_session (after_confirm t.centre.session) t
    → v ≡ with_session (after_confirm u.centre.session) u
    → IsConfirmed v.centre.session
confirms_end law s t u v first second third =
    subst (λ (x : State). IsConfirmed x.centre.session) (sym third)
    (subst (λ (x : State). IsConfirmed (after_confirm x.centre.session)) (sym second)
    (subst (λ (x : State). IsConfirmed (after_confirm (after_confirm x.centre.session))) (sym first)
    (law s.centre.session)))

-- two calls of pull are the most that answer a frame
pub pull_ends : ((now : ℕ) (s : Session)
    → (session.pulled now (after_pull now (after_pull now s))).0 ≡ None)
    → (s t u : State) → t ≡ with_session (after_pull s.moment s.centre.session) s
    → u ≡ with_session (after_pull t.moment t.centre.session) t
    → (session.pulled u.moment u.centre.session).0 ≡ None
pull_ends law s t u first last =
    subst (λ (x : State). (session.pulled x.moment x.centre.session).0 ≡ None) (sym last)
    (subst (λ (x : State). (session.pulled x.moment (after_pull x.moment x.centre.session)).0
    ≡ None) (sym first)
    (law s.moment s.centre.session))

pub pull_spent : (s t : State) → t ≡ with_session (after_pull s.moment s.centre.session) s
    → IsSpent s → IsSpent t
pull_spent s t is spent =
    subst IsSpent (sym is) (pulled_spent (session.pulled s.moment s.centre.session).0 s
    (with_session (after_pull s.moment s.centre.session) s) refl refl spent)

pub pull_clear : ((now : ℕ) (s : Session) → IsConfirmed s → IsConfirmed (after_pull now s))
    → (s t : State)
    → t ≡ with_session (after_pull s.moment s.centre.session) s → IsClear s → IsClear t
pull_clear law s t is clear = record {
  confirmed = pull_confirmed law s t is clear.confirmed;
  spent =
      pull_spent s t is clear.spent;
}

pub data_confirmed : ((kind : FrameOrigin) (now : ℕ) (s : Session) → may_send s ≡ true
    → IsConfirmed s
    → IsConfirmed (session.sent kind now s)) → (s t : State) (kind : FrameOrigin) → IsData s t kind
    → IsConfirmed s.centre.session → IsConfirmed t.centre.session
data_confirmed law s t kind d h =
    subst IsConfirmed (sym d.session) (law kind s.moment s.centre.session d.may h)

pub data_in_time : ((kind : FrameOrigin) (now : ℕ) (s : Session) → 0 < s.t1 → IsInTime now s
    → IsInTime now (session.sent kind now s)) → (s t : State) (kind : FrameOrigin) → IsData s t kind
    → StaysInTime s t
data_in_time law s t kind d some h = (
  subst (λ m. IsInTime m t.centre.session) (sym d.moment)
      (subst (IsInTime s.moment) (sym d.session) (law kind s.moment s.centre.session some h)),
  subst (λ (x : Session). 0 < x.t1) (sym d.session) some,
)
