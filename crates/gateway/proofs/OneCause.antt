-- Of a log one cause stands.
use Rattle.std.proofs.Common.{◌≡◌, ℕ, ◌%◌, ◌==◌, Bool, true, false, not, cond, nat_lt, nat_le, List}
use Rattle.std.proofs.Common.{[], ◌∷◌, ◌++◌, length, refl, ap, sym, ◌∙◌, subst, arith}
use Rattle.std.proofs.Common.{length-append, inl, inr, Option, Some, None}
use Rattle.std.specs.Prelude.{◌⊎◌}
use Rattle.std.proofs.lemmas.Bool.{cases_lt, lt-ltb, le-ltb, lt-leb, le-leb}
use Rattle.apci.specs.declared.apdu.Apdu.{Apdu}
use Rattle.apci.specs.declared.apdu.Apdu.TheVariants.{I, S, U}
use Rattle.apci.specs.declared.apdu.Uf.TheVariants.{StartAct, StartCon, StopAct, StopCon, TestAct}
use Rattle.apci.specs.declared.apdu.Uf.TheVariants.{TestCon}
use Rattle.apci.specs.Spelling.{spelling}
use Rattle.session.specs.declared.kinds.Close.{Close}
use Rattle.session.specs.declared.kinds.Close.TheVariants.{Grammar, SendNumber, ReceiveNumber}
use Rattle.session.specs.declared.kinds.Close.TheVariants.{Stopped, Timeout, OwnAnswers, Replaced}
use Rattle.session.specs.declared.kinds.Taken.{Taken}
use Rattle.session.specs.declared.kinds.Taken.TheVariants.{Nothing, Asdu, Close as Closes}
use Rattle.session.specs.Session.{is_close}
use Rattle.session.specs.History as talk
use Rattle.session.specs.History.{History, reached, sent_frames, received_count, is_started}
use Rattle.session.specs.History.{is_valid_receive_number, verdict_on}
use Rattle.gateway.specs.Log.{Log, Input, LineIn, Opened, TcpIn, CutOff, Ticked, WallIs, Restarted}
use Rattle.gateway.specs.Log.{Came, Went, LineOut, TcpOut, Closed, GapOut, latest}
use Rattle.gateway.specs.Frames.{transfers, i_frames, acknowledged_count, fault_of}
use Rattle.gateway.specs.Streams.{spelled, IsRefused}
use Rattle.gateway.specs.Connections.{present, ends, IsConnection, BeginsWithFault}
use Rattle.gateway.specs.Reports.{Setup}
use Rattle.gateway.specs.Works.{has_lacked_place}
use Rattle.gateway.specs.Course.{Course, here_of, came_frames, with_frames, kind_of, with_sent}
use Rattle.gateway.specs.Course.{closed_course, HasTakenAll, MayTake, StandsNext, IsLate, IsCause}
use Rattle.gateway.specs.Course.{Comes, Runs}
use Rattle.gateway.specs.One.{AreOne}
use Rattle.gateway.specs.Traffic.{HasCause}
use Rattle.gateway.proofs.Tied.{fault_in, three_faults, one_fault}
use Rattle.gateway.proofs.Unique.{AreUnique, whole_front, never_refused, one_reading}
use Rattle.gateway.proofs.OneCourse.{Laws, may_front, none_whole, replaced_none, present_plain}
use Rattle.gateway.proofs.OneCourse.{stays, one_course}

-- The frames that came say what the history says.

pub came_transfers : (h : History) → transfers (came_frames h) ≡ is_started h
came_transfers [] = refl
came_transfers (talk.Opened now ∷ h) = came_transfers h
came_transfers (talk.Came (I ns nr asdu) now ∷ h) = came_transfers h
came_transfers (talk.Came (S nr) now ∷ h) = came_transfers h
came_transfers (talk.Came (U StartAct) now ∷ h) = refl
came_transfers (talk.Came (U StartCon) now ∷ h) = came_transfers h
came_transfers (talk.Came (U StopAct) now ∷ h) = refl
came_transfers (talk.Came (U StopCon) now ∷ h) = came_transfers h
came_transfers (talk.Came (U TestAct) now ∷ h) = came_transfers h
came_transfers (talk.Came (U TestCon) now ∷ h) = came_transfers h
came_transfers (talk.Refused now ∷ h) = came_transfers h
came_transfers (talk.Sent ns nr kind now ∷ h) = came_transfers h
came_transfers (talk.Went f now ∷ h) = came_transfers h

came_count : (h : History) → i_frames (came_frames h) ≡ received_count h
came_count [] = refl
came_count (talk.Opened now ∷ h) = came_count h
came_count (talk.Came (I ns nr asdu) now ∷ h) = omega (arith, came_count h)
came_count (talk.Came (S nr) now ∷ h) = came_count h
came_count (talk.Came (U function) now ∷ h) = came_count h
came_count (talk.Refused now ∷ h) = came_count h
came_count (talk.Sent ns nr kind now ∷ h) = came_count h
came_count (talk.Went f now ∷ h) = came_count h

pub came_acknowledged : (h : History) → acknowledged_count (came_frames h)
    ≡ talk.acknowledged_count h
came_acknowledged [] = refl
came_acknowledged (talk.Opened now ∷ h) = came_acknowledged h
came_acknowledged (talk.Came (I ns nr asdu) now ∷ h) = ap (λ n. reached n nr) (came_acknowledged h)
came_acknowledged (talk.Came (S nr) now ∷ h) = ap (λ n. reached n nr) (came_acknowledged h)
came_acknowledged (talk.Came (U function) now ∷ h) = came_acknowledged h
came_acknowledged (talk.Refused now ∷ h) = came_acknowledged h
came_acknowledged (talk.Sent ns nr kind now ∷ h) = came_acknowledged h
came_acknowledged (talk.Went f now ∷ h) = came_acknowledged h

-- as many I frames went out as the history says
abbrev pub IsCounted : Course → Type 0
IsCounted c = length c.sent ≡ length (sent_frames c.talk)

counted_frames : (p : Setup) (fs : List Apdu) (now : ℕ) (wall : Option ℕ) (c : Course) → IsCounted c
    → IsCounted (with_frames p fs now wall c)
counted_frames p [] now wall c h = h
counted_frames p (f ∷ fs) now wall c h = counted_frames p fs now wall c h

counted_sent : (f : Apdu) (now : ℕ) (c : Course) → IsCounted c → IsCounted (with_sent f now c)
counted_sent (I ns nr asdu) now c h = omega (
  arith,
  h,
  length-append c.sent (record { ns = ns; nr = nr; asdu = asdu.items } ∷ []),
  length-append (sent_frames c.talk) (record { kind = kind_of asdu.items; moment = now } ∷ []),
)
counted_sent (S nr) now c h = h
counted_sent (U function) now c h = h

counted_closed : (p : Setup) (cause : Close) (is_open : Bool) (at : ℕ) (c : Course) → IsCounted c
    → IsCounted (closed_course p cause is_open at c)
counted_closed p Grammar is_open at c h = refl
counted_closed p SendNumber is_open at c h = refl
counted_closed p ReceiveNumber is_open at c h = refl
counted_closed p Stopped is_open at c h = refl
counted_closed p Timeout is_open at c h = refl
counted_closed p OwnAnswers is_open at c h = refl
counted_closed p Replaced is_open at c h = h

counted_come : (p : Setup) (log : Log) (at : ℕ) (event : Input) (l c : Course)
    → Comes p log at event l c → IsCounted l
    → IsCounted c
counted_come p log at (LineIn octets) l c k h = subst IsCounted (sym k.2) h
counted_come p log at (TcpIn octets) l c k h =
    subst IsCounted (sym k.taken) (counted_frames p k.frames at _ _ h)
counted_come p log at Ticked l c k h = subst IsCounted (sym k) h
counted_come p log at (WallIs number) l c k h = subst IsCounted (sym k) h
counted_come p log at Opened l c k h = subst IsCounted (sym k) refl
counted_come p log at CutOff l c k h = subst IsCounted (sym k) refl
counted_come p log at Restarted l c k h = subst IsCounted (sym k.1) refl

pub counted : (p : Setup) (log : Log) (c : Course) → Runs p log c → IsCounted c
counted p [] c r = subst IsCounted (sym r) refl
counted p (Came now event ∷ log) c r = counted_come p log _ event r.1 c r.5
    (subst IsCounted (sym r.4.is) (counted p log r.0 r.2))
counted p (Went now (LineOut octets) ∷ log) c r =
    subst IsCounted (sym r.2.is) (counted p log r.0 r.1)
counted p (Went now (GapOut station session) ∷ log) c r =
    subst IsCounted (sym r.2.is) (counted p log r.0 r.1)
counted p (Went now (TcpOut octets) ∷ log) c r =
    subst IsCounted (sym r.4.taken) (counted_frames p r.4.frames (latest log) _ r.1
    (subst IsCounted (sym r.3.put)
    (counted_sent r.3.frame (latest log) r.0 (counted p log r.0 r.2))))
counted p (Went now (Closed cause) ∷ log) c r = subst IsCounted (sym r.2)
    (counted_closed p cause (present log).is_open (latest log) r.0 (counted p log r.0 r.1))

-- so a frame has the same fault by both
more_than : (a b : ℕ) → nat_lt b a ≡ not (nat_le a b)
more_than a b = elim (cases_lt b a) [
  | inl lt ↦ lt-ltb b a lt ∙ sym (ap not (lt-leb a b lt))
  | inr le ↦ le-ltb b a le
      ∙ sym (ap not (le-leb a b le))
]

valid_as : (n nr : ℕ) (h : History) → n ≡ length (sent_frames h)
    → nat_lt n (reached (acknowledged_count (came_frames h)) nr)
    ≡ not (is_valid_receive_number nr h)
valid_as n nr h e =
    ap (λ m. nat_lt m (reached (acknowledged_count (came_frames h)) nr)) e
    ∙ ap (λ a. nat_lt (length (sent_frames h)) (reached a nr)) (came_acknowledged h)
    ∙ more_than (reached (talk.acknowledged_count h) nr) (length (sent_frames h))

same_fault : (n : ℕ) (f : Apdu) (h : History) → n ≡ length (sent_frames h)
    → fault_of n (came_frames h) f ≡ fault_in (verdict_on f h)
same_fault n (I ns nr asdu) h e = sym (
    three_faults (not (is_started h)) (not (ns == received_count h % 32768))
    (not (is_valid_receive_number nr h))
    ∙ ap
    (λ r. cond (not r) (Some Stopped) (cond (not (ns == received_count h % 32768)) (Some SendNumber)
    (cond (not (is_valid_receive_number nr h)) (Some ReceiveNumber) None))) (sym (came_transfers h))
    ∙ ap (λ m. cond (not (transfers (came_frames h))) (Some Stopped)
    (cond (not (ns == m % 32768)) (Some SendNumber)
    (cond (not (is_valid_receive_number nr h)) (Some ReceiveNumber) None))) (sym (came_count h))
    ∙ ap (λ v. cond (not (transfers (came_frames h))) (Some Stopped)
    (cond (not (ns == i_frames (came_frames h) % 32768)) (Some SendNumber)
    (cond v (Some ReceiveNumber) None)))
    (sym (valid_as n nr h e)))
same_fault n (S nr) h e = ap (λ v. cond v (Some ReceiveNumber) None) (valid_as n nr h e)
    ∙ sym (one_fault (not (is_valid_receive_number nr h)))
same_fault n (U function) h e = refl

no_fault : (t : Taken) → is_close t ≡ false → fault_in t ≡ None
no_fault Nothing e = refl
no_fault Asdu e = refl
no_fault (Closes cause) e = cc

-- While a cause stands no frame may be taken.

faulty_none : AreUnique → (p : Setup) (log : Log) (f : Apdu) (c : Course) (cause : Close)
    (rest : List ℕ) → IsCounted c
    → (present log).received ≡ spelled (came_frames c.talk) ++ rest
    → BeginsWithFault (length c.sent) (came_frames c.talk) cause rest
    → MayTake p log (latest log) f c → ⊥
faulty_none u p log f c cause rest count joined b may =
    let same : f ≡ b.frame =
    (u.cancel f b.frame may.rest b.more (sym (may_front p log (latest log) f c rest joined may)
    ∙ b.joined)).0
    in
    let none : fault_of (length c.sent) (came_frames c.talk) f ≡ None =
    same_fault (length c.sent) f c.talk count
    ∙ no_fault (verdict_on f c.talk) may.rules.0.1 in
    let no : None ≡ Some cause = sym none
    ∙ ap (λ g. fault_of (length c.sent) (came_frames c.talk) g) same ∙ b.fault in
    cc

garbled_none : AreUnique → (p : Setup) (log : Log) (f : Apdu) (c : Course) (rest : List ℕ)
    → (present log).received ≡ spelled (came_frames c.talk) ++ rest → IsRefused rest
    → MayTake p log (latest log) f c
    → ⊥
garbled_none u p log f c rest joined refused may =
    never_refused u rest f (length (spelling f)) (whole_front f may.rest rest may.fits
    (may_front p log (latest log) f c rest joined may)) refused

pub cause_none : AreUnique → (p : Setup) (log : Log) (cause : Close) (c : Course) → Runs p log c
    → IsCause p log cause c
    → (f : Apdu) → MayTake p log (latest log) f c → ⊥
cause_none u p log Grammar c r h f may = garbled_none u p log f c h.next.rest h.next.joined
    h.next.behind may
cause_none u p log SendNumber c r h f may = faulty_none u p log f c SendNumber h.next.rest
    (counted p log c r) h.next.joined h.next.behind may
cause_none u p log ReceiveNumber c r h f may = faulty_none u p log f c ReceiveNumber h.next.rest
    (counted p log c r) h.next.joined h.next.behind may
cause_none u p log Stopped c r h f may = faulty_none u p log f c Stopped h.next.rest
    (counted p log c r) h.next.joined h.next.behind may
cause_none u p log Timeout c r h f may = none_whole u p log (latest log) f c h.all may
cause_none u p log OwnAnswers c r h f may = let no : true ≡ false = sym h ∙ may.placed in cc
cause_none u p log Replaced c r h f may = replaced_none p log (latest log) f c h may

both_at : AreUnique → (p : Setup) (log : Log) (a b : Close) (c d : Course) → Runs p log c
    → Runs p log d
    → IsCause p log a c → IsCause p log b d → AreOne p log c d → c ≡ d
both_at u p log a b c d r s h k (inl g) = sym (stays p log c d g (cause_none u p log a c r h))
both_at u p log a b c d r s h k (inr g) = stays p log d c g (cause_none u p log b d s k)

-- At one place one cause stands.

-- what a cause is
abbrev pub Kinds : Setup → Log → Close → Course → Type 0
Kinds p log a c = ((a ≡ OwnAnswers) × (has_lacked_place c.works.history ≡ true))
    ⊎ (((a ≡ Timeout) × IsLate p log c) ⊎ StandsNext p log a c)

pub kinds : (p : Setup) (log : Log) (a : Close) (c : Course) → ends a ≡ true → IsCause p log a c
    → Kinds p log a c
kinds p log Grammar c e h = inr (inr h)
kinds p log SendNumber c e h = inr (inr h)
kinds p log ReceiveNumber c e h = inr (inr h)
kinds p log Stopped c e h = inr (inr h)
kinds p log Timeout c e h = inr (inl (refl, h))
kinds p log OwnAnswers c e h = inl (refl, h)
kinds p log Replaced c e h = cc

placed_so : (p : Setup) (c : Course) → has_lacked_place c.works.history ≡ true
    → has_lacked_place c.works.history ≡ false → ⊥
placed_so p c full placed = let no : true ≡ false = sym full ∙ placed in cc

-- if all that came is taken, nothing next closes the connection
pub all_and_next : AreUnique → (p : Setup) (log : Log) (b : Close) (c : Course)
    → HasTakenAll (present log) c.talk → StandsNext p log b c → ⊥
all_and_next u p log b c all next =
    let k = next.next in
    let none : IsConnection (present log) (here_of c) None =
    record {
      put = k.put;
      handed = k.handed;
      sent = k.sent;
      rest = all.rest;
      joined = all.joined;
      fit = k.fit;
      pass = k.pass;
      behind = all.more;
    } in
    let no : None ≡ Some b =
    (one_reading u (present log) (here_of c) (here_of c) None (Some b) (present_plain log) none
    k).1 in
    cc

pub same_kind : AreUnique → (p : Setup) (log : Log) (a b : Close) (c : Course) → Kinds p log a c
    → Kinds p log b c → a ≡ b
same_kind u p log a b c (inl h) (inl k) = h.0 ∙ sym k.0
same_kind u p log a b c (inl h) (inr (inl k)) = absurd (placed_so p c h.1 k.1.placed)
same_kind u p log a b c (inl h) (inr (inr k)) = absurd (placed_so p c h.1 k.placed)
same_kind u p log a b c (inr (inl h)) (inl k) = absurd (placed_so p c k.1 h.1.placed)
same_kind u p log a b c (inr (inl h)) (inr (inl k)) = h.0 ∙ sym k.0
same_kind u p log a b c (inr (inl h)) (inr (inr k)) = absurd (all_and_next u p log b c h.1.all k)
same_kind u p log a b c (inr (inr h)) (inl k) = absurd (placed_so p c k.1 h.placed)
same_kind u p log a b c (inr (inr h)) (inr (inl k)) = absurd (all_and_next u p log a c k.1.all h)
same_kind u p log a b c (inr (inr h)) (inr (inr k)) =
    let same : Some a ≡ Some b =
    (one_reading u (present log) (here_of c) (here_of c) (Some a) (Some b) (present_plain log)
    h.next k.next).1
    in
    cc

-- Of a log one cause stands.
pub one_cause : Laws → (p : Setup) (log : Log) (a b : Close) → ends a ≡ true → ends b ≡ true
    → HasCause p a log
    → HasCause p b log → a ≡ b
one_cause laws p log a b first second h k =
    let x = (h first).1 in
    let y = (k second).1 in
    let same : x.0 ≡ y.0 = both_at laws.unique p log a b x.0 y.0 x.1 y.1 x.2 y.2
    (one_course laws p log x.0 y.0 x.1 y.1) in
    same_kind laws.unique p log a b y.0 (kinds p log a y.0 first (subst (IsCause p log a) same x.2))
    (kinds p log b y.0 second y.2)
