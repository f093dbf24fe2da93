-- The lemmas of Agreement for a port that may give no log, in the form that answers cite.
use Rattle.std.proofs.Common.{◌≡◌, ℕ, ◌<◌, ◌&&◌, ◌||◌, Bool, true, false, not, cond, List, [], ◌∷◌}
use Rattle.std.proofs.Common.{length, refl, ap, sym, ◌∙◌, subst, Option, Some, None, inl, inr}
use Rattle.std.specs.Prelude.{IfSome, IfNone, nat_lt, if◌then◌else◌, ◌==◌, ◌⊎◌}
use Rattle.std.specs.Bool.{OnTrue}
use Rattle.std.proofs.lemmas.Bool.{and_parts, not-false}
use Rattle.apci.specs.declared.apdu.Apdu.{Apdu}
use Rattle.apci.specs.declared.apdu.Uf.{Uf}
use Rattle.apci.specs.Spelling.{spelling, Fits}
use Rattle.session.specs.declared.kinds.Close.{Close}
use Rattle.session.specs.Session as session
use Rattle.session.specs.Session.{Session, may_send, is_transferring}
use Rattle.gateway.specs.Log.{latest, Log, events_of, Restarted, Came, Went, Output, TcpOut, Closed}
use Rattle.gateway.specs.Log.{with_news}
use Rattle.gateway.specs.Reports.{Setup}
use Rattle.gateway.specs.Traffic.{IsFaithful}
use Rattle.gateway.specs.Runs.{events_logged}
use Rattle.link.specs.LineLaws.{LineLaws}
use Rattle.session.specs.declared.kinds.FrameOrigin.{FrameOrigin}
use Rattle.session.specs.declared.kinds.FrameOrigin.TheVariants.{Queue as FromQueue, Own}
use Rattle.gateway.specs.State.{State, with_centre, with_sides, with_session, disconnected}
use Rattle.gateway.specs.Centre.{Centre}
use Rattle.gateway.specs.Phases.{Phase, Timed, Asked, IsFlushing}
use Rattle.session.specs.declared.kinds.Close.TheVariants.{Timeout}
use Rattle.session.specs.History.{confirmation_of, has_timed_out}
use Rattle.session.specs.Runs.{Confirm, Pull}
use Rattle.session.specs.Ends.{IsConfirmed, IsInTime}
use Rattle.session.proofs.States.{transferring_opens, stopping_transfers_not}
use Rattle.gateway.specs.Agrees.{IsClear, Agrees, Tracks, Leaves, Rests, IsSpent, IsQuiet}
use Rattle.gateway.specs.Agrees.{StaysInTime}
use Rattle.gateway.specs.Steps.{SendsPiece, SendsOwn, SendsData, MayClose}
use Rattle.gateway.proofs.Tied.{SameWindow}
use Rattle.gateway.proofs.Talking.{HasNoData, confirms, pulls, patient, all_taken, confirmed_by}
use Rattle.gateway.proofs.Talking.{late_by}
use Rattle.gateway.specs.Course.{room_in, IsFlushed, HasBegun}
use Rattle.gateway.specs.Serial.{Serial}
use Rattle.gateway.proofs.Working.{gap_in}
use Rattle.gateway.proofs.Phases.{flushed_by, begun_by}
use Rattle.gateway.proofs.Agreement.{GoesOut, faithful, after_piece, after_own, after_due}
use Rattle.gateway.proofs.Closing.{stands_now, after_close}
use Rattle.gateway.proofs.Resting.{rested}

pub logged_faithful : (p : Setup) (logged : Option Log) (s : State) (unjudged : List ℕ)
    (phase : Phase)
    → Tracks p s logged unjudged phase → IfSome logged (IsFaithful p)
logged_faithful p None s unjudged phase h = tt
logged_faithful p (Some log) s unjudged phase a = faithful p s log unjudged phase a

pub logged_leaves : (p : Setup) (result : Bool) (logged : Option Log) (s : State) (phase : Phase)
    → Leaves result p s logged [] phase → IfSome logged (IsFaithful p)
logged_leaves p true logged s phase h = logged_faithful p logged s [] phase h
logged_leaves p false logged s phase h = h

-- in a phase handing this frame to TCP leads from one state to the other
abbrev pub SendsIn : Setup → List ℕ → Phase → State → Apdu → State → Type 0
SendsIn p unjudged phase s f t = (log : Log) → Agrees p s log unjudged phase
    → Agrees p t (Went s.moment (TcpOut (spelling f)) ∷ log) unjudged phase

pub logged_sent : (p : Setup) (logged after : Option Log) (s t : State) (f : Apdu) (now : ℕ)
    (unjudged : List ℕ)
    (phase : Phase) → after ≡ with_news logged (Went now (TcpOut (spelling f)) ∷ [])
    → now ≡ s.moment
    → SendsIn p unjudged phase s f t → Tracks p s logged unjudged phase
    → Tracks p t after unjudged phase
logged_sent p logged after s t f now unjudged phase e same sends h = rw (e, same) (by_log logged h)
  where
    by_log : (logged : Option Log) → Tracks p s logged unjudged phase
        → Tracks p t (with_news logged (Went s.moment (TcpOut (spelling f)) ∷ [])) unjudged phase
    by_log None h = tt
    by_log (Some log) a = sends log a

pub open_of : (s : Session) → may_send s ≡ true → session.is_open s ≡ true
open_of s may =
    transferring_opens s.transfer
    (and_parts (is_transferring s) (nat_lt (length s.unacknowledged) s.k) may).0

pub sends_piece : (s : State) (f : Apdu) (t : State) → s.serial.commands.answers ≡ []
    → SendsPiece s.moment s.centre f t.centre → t ≡ with_centre t.centre s
    → IsConfirmed s.centre.session
    → (p : Setup) (unjudged : List ℕ) (phase : Phase) → IsFlushing phase
    → SendsIn p unjudged phase s f t
sends_piece s f t none h only ready p unjudged phase flushing log a =
    rw (only, h.after, h.frame) (after_piece p s log unjudged h.asdu h.rest phase a flushing ready
    h.may
    (open_of s.centre.session h.may) none h.first (subst Fits h.frame h.fits))

pub sends_own : (s : State) (f : Apdu) (t : State)
    → SendsOwn s.moment s.serial s.centre f t.serial t.centre
    → t ≡ with_sides t.serial t.centre s → IsConfirmed s.centre.session
    → (p : Setup) (unjudged : List ℕ) (phase : Phase) → IsFlushing phase
    → SendsIn p unjudged phase s f t
sends_own s f t h only ready p unjudged phase flushing log a =
    rw (only, h.fewer, h.sent, h.frame) (after_own p s log unjudged h.asdu phase a flushing ready
    h.may
    (open_of s.centre.session h.may) h.first (subst Fits h.frame h.fits))

pub sends_data : (s : State) (f : Apdu) (t : State) → SendsData s f t → IsConfirmed s.centre.session
    → (p : Setup) (unjudged : List ℕ) (phase : Phase) → IsFlushing phase
    → SendsIn p unjudged phase s f t
sends_data s f t (inl h) = sends_own s f t h.0 h.1
sends_data s f t (inr h) = sends_piece s f t h.0 h.1 h.2

-- what every I frame leaves of the state
pub record IsData (s t : State) (kind : FrameOrigin) : Type 0 where
  pub may : may_send s.centre.session ≡ true
  pub session : t.centre.session ≡ session.sent kind s.moment s.centre.session
  pub moment : t.moment ≡ s.moment

pub data_sent : (s : State) (f : Apdu) (t : State) → SendsData s f t → (kind : FrameOrigin)
    × IsData s t kind
data_sent s f t (inl h) = (
  Own,
  record {
    may = h.0.may;
    session = ap (λ (x : Centre). x.session) h.0.sent;
    moment =
        ap (λ (x : State). x.moment) h.1;
  },
)
data_sent s f t (inr h) = (
  FromQueue,
  record {
    may = h.1.may;
    session = ap (λ (x : Centre). x.session) h.1.after;
    moment =
        ap (λ (x : State). x.moment) h.2;
  },
)

-- what is due leaves the window as it was, and is no I frame
record LeavesWindow (s : Session) (d : Option Apdu × Session) : Type 0 where
  same : SameWindow s d.1
  sends : IfSome d.0 (λ f. (session.is_open s ≡ true) × HasNoData f)
  none : IfNone d.0 (d.1 ≡ s)

unchanged : (s : Session) → SameWindow s s
unchanged s = record {
  same_connected = refl;
  same_transferring = refl;
  same_received = refl;
  same_next = refl;
  same_k =
      refl;
  same_frames = refl;
}

nothing_leaves : (s : Session) → LeavesWindow s (session.nothing_due s)
nothing_leaves s = record { same = unchanged s; sends = tt; none = refl }

acknowledgement_leaves : (s : Session) → session.is_open s ≡ true
    → LeavesWindow s (session.acknowledgement s)
acknowledgement_leaves s on =
    record {
      same = record {
        same_connected = refl;
        same_transferring = refl;
        same_received = refl;
        same_next =
            refl;
        same_k = refl;
        same_frames = refl;
      };
      sends = (on, λ put. refl);
      none = tt;
    }

both : (b : Bool) (x y : Option Apdu × Session) (P : (Option Apdu × Session) → Type 0)
    → (b ≡ true → P x)
    → (b ≡ false → P y) → P (cond b x y)
both true x y P f g = f refl
both false x y P f g = g refl

replied_leaves : (r : Option Uf) (s : Session) → session.is_open s ≡ true
    → LeavesWindow s (session.replied r s)
replied_leaves None s on =
    both (session.is_stopping s && length s.unacknowledged == 0) _ _ (LeavesWindow s)
    (λ h. record {
      same = record {
        same_connected = sym on;
        same_transferring =
            sym (stopping_transfers_not s.transfer (and_parts (session.is_stopping s)
            (length s.unacknowledged == 0) h).0);
        same_received = refl;
        same_next = refl;
        same_k = refl;
        same_frames = refl;
      };
      sends = (on, λ put. refl);
      none = tt;
    })
    (λ h. nothing_leaves s)
replied_leaves (Some u) s on =
    record {
      same = record {
        same_connected = refl;
        same_transferring = refl;
        same_received = refl;
        same_next =
            refl;
        same_k = refl;
        same_frames = refl;
      };
      sends = (on, λ put. refl);
      none = tt;
    }

confirmed_leaves : (s : Session) → LeavesWindow s (session.confirmed s)
confirmed_leaves s =
    both (not (session.is_open s)) _ _ (LeavesWindow s) (λ h. nothing_leaves s) (λ h.
    both (session.is_stopping s && nat_lt 0 s.unconfirmed) _ _ (LeavesWindow s)
    (λ g. acknowledgement_leaves s (not-false _ h)) (λ g. replied_leaves s.reply s (not-false _ h)))

pulled_leaves : (now : ℕ) (s : Session) → LeavesWindow s (session.pulled now s)
pulled_leaves now s =
    both (not (session.is_open s)) _ _ (LeavesWindow s) (λ h. nothing_leaves s) (λ h.
    both (session.is_s_due now s) _ _ (LeavesWindow s)
    (λ g. acknowledgement_leaves s (not-false _ h)) (λ g.
    both (session.is_test_due now s) _ _ (LeavesWindow s)
    (λ k. record {
      same = record {
        same_connected = refl;
        same_transferring = refl;
        same_received = refl;
        same_next =
            refl;
        same_k = refl;
        same_frames = refl;
      };
      sends = (not-false _ h, λ put. refl);
      none = tt;
    })
    (λ k. nothing_leaves s)))

-- a confirmation, or nothing else can be sent
abbrev IsNextDue : Setup → List ℕ → Phase → State → Apdu → Type 0
IsNextDue p unjudged phase s f = (log : Log) (a : Agrees p s log unjudged phase)
    → (confirmation_of a.course.talk ≡ Some f)
    ⊎ ((confirmation_of a.course.talk ≡ None) × IsFlushed p log a.course
    × HasBegun log a.course)

sends_due : (p : Setup) (unjudged : List ℕ) (phase : Phase) (s : State) (f : Apdu) (t : Session)
    → IsFlushing phase
    → Fits f → IsNextDue p unjudged phase s f → GoesOut s.centre.session t s.moment f
    → LeavesWindow s.centre.session (Some f, t) → SendsIn p unjudged phase s f (with_session t s)
sends_due p unjudged phase s f t flushing fits next goes h log a =
    after_due p s t log unjudged f phase a flushing (next log a) h.sends.0 fits h.sends.1 goes
    h.same

pub sends_confirmation : (s t : State) (f : Apdu) → Fits f
    → ◌≡◌ {A = Option Apdu × Session} (Some f, t.centre.session)
    (session.confirmed s.centre.session)
    → t ≡ with_session t.centre.session s → (p : Setup) (unjudged : List ℕ) (phase : Phase)
    → IsFlushing phase
    → SendsIn p unjudged phase s f t
sends_confirmation s t f fits e rest p unjudged phase flushing log a =
    rw rest (sends_due p unjudged phase s f t.centre.session flushing fits
    (λ log a. inl (sym (confirmed_by p s.centre.session log a.course a.talk)
    ∙ sym (ap (λ (d : Option Apdu × Session). d.0) e)))
    (record {
      call = Confirm s.moment;
      made = λ h. confirms s.centre.session t.centre.session h f s.moment
          (subst (LeavesWindow s.centre.session) (sym e)
          (confirmed_leaves s.centre.session)).sends.1 e;
    })
    (subst (LeavesWindow s.centre.session) (sym e) (confirmed_leaves s.centre.session)) log a)

pub sends_pulled : (s t : State) (f : Apdu) → IsClear s → Fits f
    → ◌≡◌ {A = Option Apdu × Session} (Some f, t.centre.session)
    (session.pulled s.moment s.centre.session)
    → t ≡ with_session t.centre.session s → (p : Setup) (unjudged : List ℕ) (phase : Phase)
    → IsFlushing phase
    → SendsIn p unjudged phase s f t
sends_pulled s t f clear fits e rest p unjudged phase flushing log a =
    rw rest (sends_due p unjudged phase s f t.centre.session flushing fits
    (λ log a. inr (
      sym (confirmed_by p s.centre.session log a.course a.talk)
          ∙ clear.confirmed,
      flushed_by p s log unjudged phase a clear.spent,
      begun_by p s log unjudged phase a flushing,
    ))
    (record {
      call = Pull s.moment;
      made = λ h. pulls s.centre.session t.centre.session h f s.moment
          (subst (LeavesWindow s.centre.session) (sym e)
          (pulled_leaves s.moment s.centre.session)).sends.1 e;
    })
    (subst (LeavesWindow s.centre.session) (sym e) (pulled_leaves s.moment s.centre.session)) log a)

-- if nothing is due, nothing changes
pub no_confirmation : (s t : State) → ◌≡◌ {A = Option Apdu × Session} (None, t.centre.session)
    (session.confirmed s.centre.session) → t ≡ with_session t.centre.session s → t ≡ s
no_confirmation s t e rest =
    let h : LeavesWindow s.centre.session (None, t.centre.session) =
    subst (LeavesWindow s.centre.session) (sym e) (confirmed_leaves s.centre.session) in
    rest ∙ ap (λ (x : Session). with_session x s) h.none

pub none_pulled : (s t : State) → ◌≡◌ {A = Option Apdu × Session} (None, t.centre.session)
    (session.pulled s.moment s.centre.session) → t ≡ with_session t.centre.session s → t ≡ s
none_pulled s t e rest =
    let h : LeavesWindow s.centre.session (None, t.centre.session) =
    subst (LeavesWindow s.centre.session) (sym e) (pulled_leaves s.moment s.centre.session) in
    rest ∙ ap (λ (x : Session). with_session x s) h.none

pub none_left : (s t : State) → ◌≡◌ {A = Option Apdu × Session} (None, t.centre.session)
    (session.pulled s.moment s.centre.session) → t ≡ with_session t.centre.session s
    → (session.pulled t.moment t.centre.session).0 ≡ None
none_left s t e rest =
    subst (λ (x : State). (session.pulled x.moment x.centre.session).0 ≡ None)
    (sym (none_pulled s t e rest))
    (sym (ap (λ (d : Option Apdu × Session). d.0) e))

pub confirmed_open : (r : Option Apdu) (s t : Session)
    → ◌≡◌ {A = Option Apdu × Session} (r, t) (session.confirmed s)
    → session.is_open t ≡ session.is_open s
confirmed_open r s t e = (subst (LeavesWindow s) (sym e) (confirmed_leaves s)).same.same_connected

pub pulled_open : (now : ℕ) (r : Option Apdu) (s t : Session)
    → ◌≡◌ {A = Option Apdu × Session} (r, t) (session.pulled now s) → session.is_open t
    ≡ session.is_open s
pulled_open now r s t e = (subst (LeavesWindow s) (sym e) (pulled_leaves now s)).same.same_connected

pub pulled_spent : (r : Option Apdu) (s t : State) → ◌≡◌ {A =
    Option Apdu × Session} (r, t.centre.session) (session.pulled s.moment s.centre.session)
    → t ≡ with_session t.centre.session s → IsSpent s → IsSpent t
pulled_spent r s t e rest spent may =
    let same =
    (subst (LeavesWindow s.centre.session) (sym e)
    (pulled_leaves s.moment s.centre.session)).same in
    let before : may_send s.centre.session ≡ true = sym
    (ap (λ b. b && nat_lt (length t.centre.session.unacknowledged) t.centre.session.k)
    same.same_transferring
    ∙ ap (λ us. is_transferring s.centre.session && nat_lt (length us) t.centre.session.k)
    same.same_frames
    ∙ ap (λ k. is_transferring s.centre.session && nat_lt (length s.centre.session.unacknowledged)
    k) same.same_k)
    ∙ may in
    let both = spent before in (
      ap (λ (x : State). x.centre.queue.unsent) rest ∙ both.0,
      ap (λ (x : State). x.serial.commands.answers) rest
          ∙ both.1,
    )

pub logged_closed : (p : Setup) (logged after : Option Log) (s t : State)
    (cause : Close) (now : ℕ)
    (phase : Phase) → after ≡ with_news logged (Went now (Closed cause) ∷ []) → now ≡ s.moment
    → t ≡ disconnected s
    → IfSome logged (MayClose p s cause phase) → Tracks p t after [] phase
logged_closed p logged after s t cause now phase e same is h =
    rw (e, same, is) (by_log logged h)
  where
    by_log : (logged : Option Log) → IfSome logged (MayClose p s cause phase)
        → Tracks p (disconnected s) (with_news logged (Went s.moment (Closed cause) ∷ [])) [] phase
    by_log None h = tt
    by_log (Some log) h =
        let moment : s.moment ≡ h.state.moment = ap (λ (x : State). x.moment) h.same in
        rw (h.same, moment, ← h.leads) (after_close p h.state log h.unjudged cause h.phase
        h.fault h.agrees
        h.open_is h.last h.timely h.stands h.why)

-- A step is done

pub logged_rested : (laws : LineLaws) (p : Setup) (logged : Option Log) (s : State) → IsSpent s
    → IsQuiet s
    → Tracks p s logged [] Asked → Rests p logged
logged_rested laws p None s spent quiet h = tt
logged_rested laws p (Some []) s spent quiet a = tt
logged_rested laws p (Some (Came now Restarted ∷ log)) s spent quiet a = a.before.rests.0
logged_rested laws p (Some (t ∷ log)) s spent quiet a = rested laws p s (t ∷ log) a spent quiet

-- t1 is some time
logged_patient : (p : Setup) (logged after : Option Log) (log : Log) (s : State)
    → events_logged after
    ≡ events_logged logged
    → after ≡ Some log → Tracks p s logged [] Asked → 0 < s.centre.session.t1
logged_patient p None after log s same is a = let e : Some (events_of log) ≡ None =
    sym (ap events_logged is) ∙ same in cc
logged_patient p (Some first) after log s same is a =
    patient p s.centre.session first a.course a.talk

pub logged_done : (laws : LineLaws) (p : Setup) (result : Bool) (logged after : Option Log)
    (s t : State)
    → events_logged after ≡ events_logged logged → IsInTime s.moment s.centre.session
    → Tracks p s logged [] Asked →
    OnTrue result (IsSpent t) → OnTrue result (IsConfirmed t.centre.session)
    → OnTrue result ((session.pulled t.moment t.centre.session).0 ≡ None)
    → OnTrue result (StaysInTime s t)
    → Leaves result p t after [] Asked → OnTrue result (Rests p after)
logged_done laws p true logged None s t same early a spent confirmed pulled stays h = tt
logged_done laws p true logged (Some log) s t same early a spent confirmed pulled stays h =
    logged_rested laws p (Some log) t spent (record {
      confirmed = confirmed;
      pulled_all = pulled;
      in_time =
          (stays (logged_patient p logged (Some log) log s same refl a) early).0;
    }) h
logged_done laws p false logged after s t same early a spent confirmed pulled stays h = tt

-- a step's answer is late

pub late_none : (b : Bool) → None ≡ (if b then Some Timeout else None) → b ≡ false
late_none true e = cc
late_none false e = refl

late_some : (b : Bool) (cause : Close) → Some cause ≡ (if b then Some Timeout else None)
    → (cause ≡ Timeout) × (b ≡ true)
late_some true cause e = let is : cause ≡ Timeout = cc in (is, refl)
late_some false cause e = cc

late_closes : (p : Setup) (s : State) (log : Log) → s.serial.gap ≡ None
    → session.timed_out s.moment s.centre.session ≡ true
    → Agrees p s log [] Timed → MayClose p s Timeout Timed log
late_closes p s log logged late a =
    let on : session.is_open s.centre.session ≡ true =
    (and_parts (session.is_open s.centre.session)
    (session.is_late s.moment s.centre.session s.centre.session.unacknowledged
    || session.is_test_late s.moment s.centre.session s.centre.session.test_sent) late).0 in
    record {
      last = refl;
      state = s;
      same = refl;
      open_is = on;
      unjudged = [];
      phase = Timed;
      leads = refl;
      timely = tt;
      agrees = a;
      fault = None;
      stands = stands_now p s log Timed a;
      why = record {
        all = all_taken log a.course a.here.so_far a.here.joined a.here.waits;
        answered = a.stands.answered;
        placed = a.stands.placed (sym a.here.link ∙ on);
        logged = sym (gap_in Timed (latest log) (room_in p log a.course) a.course.works)
            ∙ ap (λ (z : Serial). z.gap) (sym a.stands.does) ∙ logged;
        late = subst (λ m. has_timed_out p.session.t1 m a.course.talk ≡ true) a.clock
            (sym (late_by p s.centre.session log a.course a.talk s.moment) ∙ late);
      };
    }

pub logged_late : (p : Setup) (logged : Option Log) (s : State) (cause : Close)
    → Some cause ≡ (if session.timed_out s.moment s.centre.session then Some Timeout else None)
    → s.serial.gap ≡ None
    → Tracks p s logged [] Timed → IfSome logged (MayClose p s cause Timed)
logged_late p None s cause e none h = tt
logged_late p (Some log) s cause e none a =
    let late = late_some (session.timed_out s.moment s.centre.session) cause e in
    subst (λ x. MayClose p s x Timed log) (sym late.0) (late_closes p s log none late.1 a)

-- both when the frame goes out and when the device fails
pub logged_put : (result : Bool) (p : Setup) (logged after : Option Log) (s t : State) (f : Apdu)
    (now : ℕ)
    (unjudged : List ℕ) (phase : Phase)
    → after ≡ (if result then with_news logged (Went now (TcpOut (spelling f)) ∷ []) else logged)
    → now ≡ s.moment
    → SendsIn p unjudged phase s f t → Tracks p s logged unjudged phase →
    Leaves result p t after unjudged phase
logged_put true p logged after s t f now unjudged phase e same sends h =
    logged_sent p logged after s t f now unjudged phase e same sends h
logged_put false p logged after s t f now unjudged phase e same sends h =
    subst (λ l. IfSome l (IsFaithful p)) (sym e) (logged_faithful p logged s unjudged phase h)

pub unsent_faithful : (p : Setup) (logged after : Option Log) (s : State) (unjudged : List ℕ)
    (phase : Phase)
    → after ≡ logged → Tracks p s logged unjudged phase → IfSome after (IsFaithful p)
unsent_faithful p logged after s unjudged phase e h = subst (λ l. IfSome l (IsFaithful p)) (sym e)
    (logged_faithful p logged s unjudged phase h)
