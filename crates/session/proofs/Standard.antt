-- What a session that keeps its history answers.
use Rattle.std.proofs.Common.{◌≡◌, ℕ, ◌+◌, ◌-◌, ◌%◌, ◌<◌, ◌≤◌, ◌==◌, ◌&&◌, ◌||◌, Bool, true, false}
use Rattle.std.proofs.Common.{not, cond, nat_le, nat_lt, min, List, [], ◌∷◌, length, take, drop}
use Rattle.std.proofs.Common.{Option, Some, None, refl, ap, sym, subst, ◌∙◌, arith, inl, inr}
use Rattle.std.specs.Prelude.{is_none}
use Rattle.std.proofs.lemmas.Bool.{cases_lt, lt-leb, le-leb, lt-ltb, le-ltb}
use Rattle.std.proofs.lemmas.List.{length-take-le, drop-take}
use Rattle.apci.specs.declared.apdu.Apdu.{Apdu}
use Rattle.apci.specs.declared.apdu.Apdu.TheVariants.{I, S, U}
use Rattle.apci.specs.declared.apdu.Uf.{Uf}
use Rattle.apci.specs.declared.apdu.Uf.TheVariants.{StartAct, StartCon, StopAct, StopCon, TestAct}
use Rattle.apci.specs.declared.apdu.Uf.TheVariants.{TestCon}
use Rattle.session.specs.declared.kinds.Unacknowledged.{Unacknowledged}
use Rattle.session.specs.declared.kinds.Taken.TheVariants.{Nothing, Asdu, Close}
use Rattle.session.specs.declared.kinds.Close.TheVariants.{SendNumber, ReceiveNumber, Stopped}
use Rattle.session.specs.Session as session
use Rattle.session.specs.Session.{Session, is_close, is_transferring, may_send, is_valid, newly}
use Rattle.session.specs.Session.{newly_by, outcome_of, refuses, taken, after_frame, nothing_due}
use Rattle.session.specs.Session.{acknowledgement, replied, confirmed, pulled, Due, from_queue}
use Rattle.session.specs.History.{History, is_open, sent_frames, received_count, reached}
use Rattle.session.specs.History.{acknowledged_count, is_started, is_stop_pending}
use Rattle.session.specs.History.{unconfirmed_moments, last_frame, outstanding_test}
use Rattle.session.specs.History.{still_unacknowledged, is_valid_receive_number, verdict_on}
use Rattle.session.specs.History.{confirmation_of, stop_confirmation_of, acknowledgement_of}
use Rattle.session.specs.History.{function_of, has_passed, moments_of, moment_of, has_timed_out}
use Rattle.session.specs.History.{is_acknowledgement_due, frame_due, newly_acknowledged}
use Rattle.session.specs.Laws.{newly_acknowledged_by, MatchesAcknowledged}
use Rattle.session.specs.Runs.{Settings, IsInRange}
use Rattle.session.proofs.Keeps.{Keeps, valid_in, reaches, three_tests, one_test, first_moment}

-- ---- 5.1, 5.5: the window

pub at_most_k : (p : Settings) (s : Session) (h : History) → Keeps p s h
    → length (still_unacknowledged h) ≤ p.k
at_most_k p s h keeps =
    omega (arith, keeps.window.bound, ap length keeps.window.frames, keeps.set.0)

pub sends : (p : Settings) (s : Session) (h : History) → Keeps p s h
    → may_send s ≡ (is_started h && nat_lt (length (still_unacknowledged h)) p.k)
sends p s h keeps =
    ap (λ (b : Bool). b && nat_lt (length s.unacknowledged) s.k) keeps.transferring
    ∙ ap (λ (us : List Unacknowledged). is_started h && nat_lt (length us) s.k) keeps.window.frames
    ∙ ap (λ (k : ℕ). is_started h && nat_lt (length (still_unacknowledged h)) k) keeps.set.0

pub valid : (nr : ℕ) (p : Settings) (s : Session) (h : History) → IsInRange p → Keeps p s h
    → is_valid nr s ≡ is_valid_receive_number nr h
valid nr p s h range keeps = valid_in nr s.k s.unacknowledged s.next_sent (acknowledged_count h)
    (sent_frames h)
    (omega (arith, keeps.set.0, range.k_small)) keeps.window

pub verdict : (p : Settings) (s : Session) (h : History) → IsInRange p → Keeps p s h
    → (frame : Apdu)
    → outcome_of s frame ≡ verdict_on frame h
verdict p s h range keeps (I ns nr asdu) =
    ap (λ (b : Bool). cond (not b) (Close Stopped)
    (cond (not (ns == s.next_received)) (Close SendNumber)
    (cond (not (is_valid nr s)) (Close ReceiveNumber) Asdu))) keeps.transferring
    ∙ ap (λ (n : ℕ). cond (not (is_started h)) (Close Stopped)
    (cond (not (ns == n)) (Close SendNumber) (cond (not (is_valid nr s)) (Close ReceiveNumber)
    Asdu)))
    keeps.receipt.next_is
    ∙ ap (λ (b : Bool). cond (not (is_started h)) (Close Stopped)
    (cond (not (ns == received_count h % 32768)) (Close SendNumber)
    (cond (not b) (Close ReceiveNumber) Asdu)))
    (valid nr p s h range keeps)
verdict p s h range keeps (S nr) = ap (λ (b : Bool). cond (not b) (Close ReceiveNumber) Nothing)
    (valid nr p s h range keeps)
verdict p s h range keeps (U function) = refl

-- the frames that a valid N(R) acknowledges are the oldest that are kept
newly_is : (nr : ℕ) (p : Settings) (s : Session) (h : History) → IsInRange p → Keeps p s h
    → is_valid nr s ≡ true
    → take (newly nr s) s.unacknowledged ≡ newly_acknowledged nr h
newly_is nr p s h range keeps valid =
    let a : ℕ = acknowledged_count h in
    let there : reached a nr ≡ a + newly nr s = reaches nr s.k s.unacknowledged s.next_sent a
    (sent_frames h)
    (omega (arith, keeps.set.0, range.k_small)) keeps.window valid in
    ap (take (newly nr s)) keeps.window.frames ∙ sym (drop-take a (newly nr s) (sent_frames h))
    ∙ ap (λ (n : ℕ). drop a (take n (sent_frames h))) (sym there)

logs : (n : ℕ) (us frames : List Unacknowledged) → n ≤ length us → take n us ≡ frames
    → (from_queue (take n us) ≡ from_queue frames)
    × (n - from_queue (take n us) ≡ length frames - from_queue frames)
logs n us frames within is =
    let len : n ≡ length frames = sym (length-take-le n us within) ∙ ap length is in (
      ap from_queue is,
      ap (λ (xs : List Unacknowledged). n - from_queue xs) is
          ∙ ap (λ (m : ℕ). m - from_queue frames) len,
    )

abbrev after : Apdu → ℕ → Session → Session
after frame now s =
    after_frame frame now (session.acknowledged (newly_by frame s) (record s { last_frame = now }))

logs_after : (p : Settings) (s : Session) (h : History) → IsInRange p → Keeps p s h
    → (frame : Apdu) (now : ℕ)
    → refuses s frame ≡ false
    → MatchesAcknowledged (newly_acknowledged_by frame h) (after frame now s)
logs_after p s h range keeps (I ns nr asdu) now passes =
    logs (newly nr s) s.unacknowledged (newly_acknowledged nr h) (omega arith)
    (newly_is nr p s h range keeps (three_tests _ _ (is_valid nr s) passes))
logs_after p s h range keeps (S nr) now passes =
    logs (newly nr s) s.unacknowledged (newly_acknowledged nr h)
    (omega arith) (newly_is nr p s h range keeps (one_test (is_valid nr s) passes))
logs_after p s h range keeps (U StartAct) now passes = (refl, refl)
logs_after p s h range keeps (U StartCon) now passes = (refl, refl)
logs_after p s h range keeps (U StopAct) now passes = (refl, refl)
logs_after p s h range keeps (U StopCon) now passes = (refl, refl)
logs_after p s h range keeps (U TestAct) now passes = (refl, refl)
logs_after p s h range keeps (U TestCon) now passes = (refl, refl)

pub acknowledges : (p : Settings) (s : Session) (h : History) → IsInRange p → Keeps p s h
    → (frame : Apdu) (now : ℕ)
    → refuses s frame ≡ false
    → MatchesAcknowledged (newly_acknowledged_by frame h) (taken frame now s)
acknowledges p s h range keeps frame now passes =
    let is : taken frame now s ≡ after frame now s = ap
    (λ (b : Bool). cond b (session.acknowledged 0 (record s { last_frame = now }))
    (after frame now s)) passes
    in
    subst (MatchesAcknowledged (newly_acknowledged_by frame h)) (sym is)
    (logs_after p s h range keeps frame now passes)

-- ---- 5.2: t1

late_is : (t1 now : ℕ) (s : Session) (us : List Unacknowledged) → s.t1 ≡ t1
    → session.is_late now s us ≡ has_passed t1 now (moments_of us)
late_is t1 now s [] e = refl
late_is t1 now s (u ∷ us) e = ap (λ (t : ℕ). nat_le t (now - u.moment)) e

test_late_is : (t1 now : ℕ) (s : Session) (test : Option ℕ) → s.t1 ≡ t1
    → session.is_test_late now s test ≡ has_passed t1 now (moment_of test)
test_late_is t1 now s None e = refl
test_late_is t1 now s (Some moment) e = ap (λ (t : ℕ). nat_le t (now - moment)) e

closed_is : (t1 now : ℕ) (h : History) → (is_open h && has_timed_out t1 now h)
    ≡ has_timed_out t1 now h
closed_is t1 now [] = refl
closed_is t1 now (x ∷ h) = refl

pub timed_out : (p : Settings) (s : Session) (h : History) → Keeps p s h → (now : ℕ)
    → session.timed_out now s ≡ has_timed_out p.t1 now h
timed_out p s h keeps now =
    let t1 = keeps.set.2 in
    ap (λ (b : Bool). session.is_open s && (b || session.is_test_late now s s.test_sent))
    (late_is p.t1 now s s.unacknowledged t1
    ∙ ap (λ (us : List Unacknowledged). has_passed p.t1 now (moments_of us)) keeps.window.frames)
    ∙ ap (λ (b : Bool). session.is_open s
    && (has_passed p.t1 now (moments_of (still_unacknowledged h)) || b))
    (test_late_is p.t1 now s s.test_sent t1
    ∙ ap (λ (m : Option ℕ). has_passed p.t1 now (moment_of m)) keeps.test)
    ∙ ap (λ (b : Bool). b && has_timed_out p.t1 now h) keeps.connected
    ∙ closed_is p.t1 now h

-- ---- w, t2, t3

le_min : (w n : ℕ) → nat_le w (min w n) ≡ nat_le w n
le_min w n = elim (cases_lt n w) [
  | inl lt ↦ lt-leb w (min w n) (omega arith) ∙ sym (lt-leb w n lt)
  | inr le ↦ le-leb w (min w n) (omega arith) ∙ sym (le-leb w n le)
]

some_min : (w n : ℕ) → 0 < w → nat_lt 0 (min w n) ≡ nat_lt 0 n
some_min w n positive = elim (cases_lt 0 n) [
  | inl lt ↦ lt-ltb 0 (min w n) (omega arith) ∙ sym (lt-ltb 0 n lt)
  | inr le ↦ le-ltb 0 (min w n) (omega arith) ∙ sym (le-ltb 0 n le)
]

s_due_is : (w t2 now since : ℕ) (moments : List ℕ) → 0 < w
    → (0 < length moments → since ≡ first_moment moments)
    → (nat_lt 0 (length moments) && (nat_le w (length moments) || nat_le t2 (now - since)))
    ≡ (nat_le w (length moments) || has_passed t2 now moments)
s_due_is w t2 now since [] positive oldest = (let none : nat_le w 0 ≡ false = lt-leb w 0 positive in
    rw none)
s_due_is w t2 now since (moment ∷ rest) positive oldest =
    let some : nat_lt 0 (length (moment ∷ rest)) ≡ true =
    lt-ltb 0 (length (moment ∷ rest)) (omega arith) in
    ap (λ (b : Bool). b && (nat_le w (length (moment ∷ rest)) || nat_le t2 (now - since))) some
    ∙ ap (λ (m : ℕ). nat_le w (length (moment ∷ rest)) || nat_le t2 (now - m))
    (oldest (omega arith))

s_due : (p : Settings) (s : Session) (h : History) → IsInRange p → Keeps p s h → (now : ℕ)
    → session.is_s_due now s ≡ is_acknowledgement_due p.w p.t2 now h
s_due p s h range keeps now =
    let n : ℕ = length (unconfirmed_moments h) in
    let counted : s.unconfirmed ≡ min p.w n = keeps.receipt.counted
    ∙ ap (λ (w : ℕ). min w n) keeps.set.1 in
    ap (λ (m : ℕ). nat_lt 0 m && (nat_le s.w m || nat_le s.t2 (now - s.unconfirmed_since))) counted
    ∙ ap (λ (w : ℕ). nat_lt 0 (min p.w n)
    && (nat_le w (min p.w n) || nat_le s.t2 (now - s.unconfirmed_since)))
    keeps.set.1
    ∙ ap (λ (t : ℕ). nat_lt 0 (min p.w n)
    && (nat_le p.w (min p.w n) || nat_le t (now - s.unconfirmed_since)))
    keeps.set.3
    ∙ ap (λ (b : Bool). b && (nat_le p.w (min p.w n) || nat_le p.t2 (now - s.unconfirmed_since)))
    (some_min p.w n range.w_positive)
    ∙ ap (λ (b : Bool). nat_lt 0 n && (b || nat_le p.t2 (now - s.unconfirmed_since))) (le_min p.w n)
    ∙ s_due_is p.w p.t2 now s.unconfirmed_since (unconfirmed_moments h) range.w_positive
    keeps.receipt.oldest

test_due : (p : Settings) (s : Session) (h : History) → Keeps p s h → (now : ℕ)
    → session.is_test_due now s ≡ (is_none (outstanding_test h) && nat_le p.t3 (now - last_frame h))
test_due p s h keeps now =
    ap (λ (m : Option ℕ). is_none m && nat_le s.t3 (now - s.last_frame)) keeps.test
    ∙ ap (λ (t : ℕ). is_none (outstanding_test h) && nat_le t (now - s.last_frame)) keeps.set.4
    ∙ ap (λ (m : ℕ). is_none (outstanding_test h) && nat_le p.t3 (now - m)) keeps.last

first_due : (b c d : Bool) (s t u : Session) (n : ℕ)
    → (cond {A = Due} (not b) (None, s)
    (cond c (Some (S n), t) (cond d (Some (U TestAct), u) (None, s)))).0
    ≡ cond (not b) None (cond c (Some (S n)) (cond d (Some (U TestAct)) None))
first_due false c d s t u n = refl
first_due true true d s t u n = refl
first_due true false true s t u n = refl
first_due true false false s t u n = refl

-- without a connection nothing is due
open_due : (w t2 t3 now : ℕ) (h : History) → 0 < w
    → cond (not (is_open h)) None
    (cond (is_acknowledgement_due w t2 now h) (Some (acknowledgement_of h))
    (cond (is_none (outstanding_test h) && nat_le t3 (now - last_frame h)) (Some (U TestAct)) None))
    ≡ frame_due w t2 t3 now h
open_due w t2 t3 now [] positive = (let none : nat_le w 0 ≡ false = lt-leb w 0 positive in rw none)
open_due w t2 t3 now (x ∷ h) positive = refl

pub pulls : (p : Settings) (s : Session) (h : History) → IsInRange p → Keeps p s h → (now : ℕ)
    → (pulled now s).0 ≡ frame_due p.w p.t2 p.t3 now h
pulls p s h range keeps now =
    first_due (session.is_open s) (session.is_s_due now s) (session.is_test_due now s) s _ _
    s.next_received
    ∙ ap (λ (b : Bool). cond (not b) None (cond (session.is_s_due now s) (Some (S s.next_received))
    (cond (session.is_test_due now s) (Some (U TestAct)) None))) keeps.connected
    ∙ ap (λ (b : Bool). cond (not (is_open h)) None (cond b (Some (S s.next_received))
    (cond (session.is_test_due now s) (Some (U TestAct)) None))) (s_due p s h range keeps now)
    ∙ ap (λ (b : Bool). cond (not (is_open h)) None (cond (is_acknowledgement_due p.w p.t2 now h)
    (Some (S s.next_received)) (cond b (Some (U TestAct)) None))) (test_due p s h keeps now)
    ∙ ap
    (λ (n : ℕ). cond (not (is_open h)) None (cond (is_acknowledgement_due p.w p.t2 now h)
    (Some (S n))
    (cond (is_none (outstanding_test h) && nat_le p.t3 (now - last_frame h)) (Some (U TestAct))
    None)))
    keeps.receipt.next_is
    ∙ open_due p.w p.t2 p.t3 now h range.w_positive

-- ---- 5.3: confirmations

first_stop : (b : Bool) (s t : Session) → (cond {A = Due} b (Some (U StopCon), t) (None, s)).0
    ≡ cond b (Some (U StopCon)) None
first_stop true s t = refl
first_stop false s t = refl

first_reply : (r : Option Uf) (s : Session) → (replied r s).0
    ≡ function_of r (cond (session.is_stopping s && length s.unacknowledged == 0) (Some (U StopCon))
    None)
first_reply None s = first_stop (session.is_stopping s && length s.unacknowledged == 0) s _
first_reply (Some u) s = refl

first_confirmation : (b c : Bool) (s t : Session) (d : Due) (n : ℕ)
    → (cond {A = Due} (not b) (None, s) (cond c (Some (S n), t) d)).0
    ≡ cond (not b) None (cond c (Some (S n)) d.0)
first_confirmation false c s t d n = refl
first_confirmation true true s t d n = refl
first_confirmation true false s t d n = refl

open_confirmation : (h : History) → cond (not (is_open h)) None (confirmation_of h)
    ≡ confirmation_of h
open_confirmation [] = refl
open_confirmation (x ∷ h) = refl

pub confirms : (p : Settings) (s : Session) (h : History) → IsInRange p → Keeps p s h
    → (confirmed s).0 ≡ confirmation_of h
confirms p s h range keeps =
    let waiting : nat_lt 0 s.unconfirmed ≡ nat_lt 0 (length (unconfirmed_moments h)) =
    ap (nat_lt 0) (keeps.receipt.counted ∙ ap (λ (w : ℕ). min w (length (unconfirmed_moments h)))
    keeps.set.1)
    ∙ some_min p.w (length (unconfirmed_moments h)) range.w_positive in
    let stop : (session.is_stopping s && length s.unacknowledged == 0)
    ≡ (is_stop_pending h && length (still_unacknowledged h) == 0) =
    ap (λ (b : Bool). b && length s.unacknowledged == 0) keeps.stopping
    ∙ ap (λ (us : List Unacknowledged). is_stop_pending h && length us == 0) keeps.window.frames in
    first_confirmation (session.is_open s) (session.is_stopping s && nat_lt 0 s.unconfirmed) s _
    (replied s.reply s) s.next_received
    ∙ ap (λ (b : Bool). cond (not b) None (cond (session.is_stopping s && nat_lt 0 s.unconfirmed)
    (Some (S s.next_received))
    (replied s.reply s).0)) keeps.connected
    ∙ ap
    (λ (b : Bool). cond (not (is_open h)) None
    (cond (b && nat_lt 0 s.unconfirmed) (Some (S s.next_received))
    (replied s.reply s).0)) keeps.stopping
    ∙ ap
    (λ (b : Bool). cond (not (is_open h)) None
    (cond (is_stop_pending h && b) (Some (S s.next_received))
    (replied s.reply s).0)) waiting
    ∙ ap
    (λ (n : ℕ). cond (not (is_open h)) None
    (cond (is_stop_pending h && nat_lt 0 (length (unconfirmed_moments h)))
    (Some (S n)) (replied s.reply s).0)) keeps.receipt.next_is
    ∙ ap (λ (o : Option Apdu). cond (not (is_open h)) None
    (cond (is_stop_pending h && nat_lt 0 (length (unconfirmed_moments h)))
    (Some (acknowledgement_of h)) o))
    (first_reply s.reply s ∙ ap (λ (b : Bool). function_of s.reply (cond b (Some (U StopCon)) None))
    stop
    ∙ ap (λ (r : Option Uf). function_of r (stop_confirmation_of h)) keeps.reply)
    ∙ open_confirmation h
