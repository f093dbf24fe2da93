-- An open connection of the log, and the session and the queue.
use Rattle.std.proofs.Common.{◌≡◌, ℕ, ◌+◌, ◌-◌, ◌%◌, ◌<◌, ◌≤◌, ◌==◌, ◌||◌, Bool, true, false, not}
use Rattle.std.proofs.Common.{cond, nat_le, nat_lt, List, [], ◌∷◌, ◌++◌, length, take, drop, refl}
use Rattle.std.proofs.Common.{ap, sym, subst, ◌∙◌, arith, inl, inr, Option, Some, None}
use Rattle.std.proofs.lemmas.List.{length-drop, length-append}
use Rattle.std.proofs.lemmas.Bool.{cases_lt, lt-leb, le-leb, lt-ltb, le-ltb, cond-false, leb-true}
use Rattle.std.proofs.lemmas.Bool.{or_parts, and_parts, not-false, ltb-true}
use Rattle.apci.specs.declared.apdu.Apdu.{Apdu}
use Rattle.apci.specs.declared.apdu.Apdu.TheVariants.{I, S, U}
use Rattle.apci.specs.declared.apdu.Uf.TheVariants.{StartAct, StartCon, StopAct, StopCon, TestAct}
use Rattle.apci.specs.declared.apdu.Uf.TheVariants.{TestCon}
use Rattle.session.specs.declared.kinds.Unacknowledged.{Unacknowledged}
use Rattle.session.specs.declared.kinds.Taken.TheVariants.{Nothing, Asdu, Close as Closes}
use Rattle.session.specs.declared.kinds.Close.{Close}
use Rattle.session.specs.declared.kinds.Taken.{Taken}
use Rattle.session.specs.declared.kinds.Close.TheVariants.{SendNumber, ReceiveNumber, Stopped}
use Rattle.session.specs.declared.kinds.FrameOrigin.TheVariants.{Queue as FromQueue, Own}
use Rattle.session.specs.Session as session
use Rattle.session.specs.Session.{Session, is_close, outcome_of, after_frame, from_queue}
use Rattle.session.specs.Session.{is_transferring, may_send, is_valid, newly, newly_by, left_by}
use Rattle.session.specs.Session.{refuses, taken}
use Rattle.session.specs.History.{reached}
use Rattle.gateway.specs.Frames.{Connection, Sent, transfers, i_frames, acknowledged_count}
use Rattle.gateway.specs.Frames.{fault_of}
use Rattle.gateway.specs.Objects.{has_objects}
use Rattle.gateway.specs.Agrees.{Unconfirmed, Tied}
use Rattle.gateway.proofs.Counters.{reached-valid, reached-invalid}
use Rattle.gateway.proofs.Unconfirmed.{unconfirmed_more, unconfirmed_piece, unconfirmed_own}

valid_agrees : (a u nr next sent : ℕ) → u < 32768 → a + u ≡ sent → next ≡ sent % 32768
    → not (nat_le ((next + (32768 - nr % 32768)) % 32768) u) ≡ nat_lt sent (reached a nr)
valid_agrees a u nr next sent small count counter =
    let left : ℕ = (next + (32768 - nr % 32768)) % 32768 in
    elim (cases_lt u left) [
      | inl lt ↦ ap not (lt-leb left u lt)
          ∙ sym (lt-ltb sent (reached a nr) (omega (arith, reached-invalid a u nr small)))
      | inr le ↦ ap not (le-leb left u le)
          ∙ sym (le-ltb sent (reached a nr) (omega (arith, reached-valid a u nr small)))
    ]

reached_newly : (a u nr next sent : ℕ) → u < 32768 → a + u ≡ sent → next ≡ sent % 32768
    → nat_le ((next + (32768 - nr % 32768)) % 32768) u ≡ true
    → reached a nr ≡ a + (u - (next + (32768 - nr % 32768)) % 32768)
reached_newly a u nr next sent small count counter valid =
    omega (arith, reached-valid a u nr small, leb-true _ _ valid)

three_tests : (a b c : Bool)
    → is_close
    (cond a (Closes Stopped) (cond b (Closes SendNumber) (cond c (Closes ReceiveNumber) Asdu)))
    ≡ ((a || b) || c)
three_tests true b c = refl
three_tests false true c = refl
three_tests false false true = refl
three_tests false false false = refl

one_test : (a : Bool) → is_close (cond a (Closes ReceiveNumber) Nothing) ≡ a
one_test true = refl
one_test false = refl

valid_in : (nr : ℕ) (c : Connection) (s : Session) (ps : List (List ℕ)) → Tied c s ps
    → not (is_valid nr s)
    ≡ nat_lt (length c.sent_frames) (reached (acknowledged_count c.received_frames) nr)
valid_in nr c s ps h = valid_agrees (acknowledged_count c.received_frames) (length s.unacknowledged)
    nr s.next_sent
    (length c.sent_frames) (omega (arith, h.small, h.bound)) h.unconfirmed.count h.next

abbrev pub fault_in : Taken → Option Close
fault_in (Closes cause) = Some cause
fault_in Asdu = None
fault_in Nothing = None

pub three_faults : (a b c : Bool)
    → fault_in
    (cond a (Closes Stopped) (cond b (Closes SendNumber) (cond c (Closes ReceiveNumber) Asdu)))
    ≡ cond a (Some Stopped) (cond b (Some SendNumber) (cond c (Some ReceiveNumber) None))
three_faults true b c = refl
three_faults false true c = refl
three_faults false false true = refl
three_faults false false false = refl

pub one_fault : (a : Bool) → fault_in (cond a (Closes ReceiveNumber) Nothing)
    ≡ cond a (Some ReceiveNumber) None
one_fault true = refl
one_fault false = refl

-- The session finds the fault that the frames have.
fault_agrees : (f : Apdu) (c : Connection) (s : Session) (ps : List (List ℕ)) → Tied c s ps
    → fault_in (outcome_of s f) ≡ fault_of (length c.sent_frames) c.received_frames f
fault_agrees (I ns nr asdu) c s ps h =
    three_faults (not (is_transferring s)) (not (ns == s.next_received)) (not (is_valid nr s)) ∙ (
    let valid : not (is_valid nr s) ≡ nat_lt (length c.sent_frames)
    (reached (acknowledged_count c.received_frames) nr) = valid_in nr c s ps h in
    ap (λ r. cond (not r) (Some Stopped) (cond (not (ns == s.next_received)) (Some SendNumber)
    (cond (not (is_valid nr s)) (Some ReceiveNumber) None))) h.transferring
    ∙ ap (λ n. cond (not (transfers c.received_frames)) (Some Stopped)
    (cond (not (ns == n)) (Some SendNumber) (cond (not (is_valid nr s)) (Some ReceiveNumber) None)))
    h.received
    ∙ ap (λ v. cond (not (transfers c.received_frames)) (Some Stopped)
    (cond (not (ns == i_frames c.received_frames % 32768)) (Some SendNumber)
    (cond v (Some ReceiveNumber) None)))
    valid)
fault_agrees (S nr) c s ps h = one_fault (not (is_valid nr s))
    ∙ ap (λ v. cond v (Some ReceiveNumber) None) (valid_in nr c s ps h)
fault_agrees (U u) c s ps h = refl

pub fault_closes : (f : Apdu) (c : Connection) (s : Session) (ps : List (List ℕ)) (cause : Close)
    → Tied c s ps
    → Closes cause ≡ outcome_of s f → fault_of (length c.sent_frames) c.received_frames f
    ≡ Some cause
fault_closes f c s ps cause h e = sym (fault_agrees f c s ps h) ∙ sym (ap fault_in e)

-- what an outcome other than a close says
pub no_close : (f : Apdu) (c : Connection) (s : Session) (ps : List (List ℕ)) (outcome : Taken)
    → is_close outcome ≡ false → Tied c s ps → outcome ≡ outcome_of s f
    → (refuses s f ≡ false) × (fault_of (length c.sent_frames) c.received_frames f ≡ None)
no_close f c s ps outcome goes h e = (
  sym (ap is_close e) ∙ goes,
  sym (fault_agrees f c s ps h) ∙ sym (ap fault_in e)
      ∙ none outcome goes,
)
  where
    none : (outcome : Taken) → is_close outcome ≡ false → fault_in outcome ≡ None
    none (Closes cause) goes = cc
    none Asdu goes = refl
    none Nothing goes = refl

-- which faults frames have
pub fault_cases : (P : Close → Type 0) → P Stopped → P SendNumber → P ReceiveNumber
    → (sent : ℕ) (older : List Apdu) (f : Apdu) (cause : Close) → fault_of sent older f ≡ Some cause
    → P cause
fault_cases P p2 p3 p4 sent older (I ns nr asdu) cause e =
    three (not (transfers older)) (not (ns == i_frames older % 32768))
    (nat_lt sent (reached (acknowledged_count older) nr)) e
  where
    three : (a b c : Bool)
        → cond a (Some Stopped) (cond b (Some SendNumber) (cond c (Some ReceiveNumber) None))
        ≡ Some cause → P cause
    three true b c e = let same : Stopped ≡ cause = cc in subst P same p2
    three false true c e = let same : SendNumber ≡ cause = cc in subst P same p3
    three false false true e = let same : ReceiveNumber ≡ cause = cc in subst P same p4
    three false false false e = cc
fault_cases P p2 p3 p4 sent older (S nr) cause e =
    one (nat_lt sent (reached (acknowledged_count older) nr)) e
  where
    one : (c : Bool) → cond c (Some ReceiveNumber) None ≡ Some cause → P cause
    one true e = let same : ReceiveNumber ≡ cause = cc in subst P same p4
    one false e = cc
fault_cases P p2 p3 p4 sent older (U u) cause e = cc

-- the connection once it received one more frame
abbrev pub received_more : Apdu → Connection → Connection
received_more f c = record { sent_frames = c.sent_frames; received_frames = f ∷ c.received_frames }

abbrev pub less : Apdu → Session → List (List ℕ) → List (List ℕ)
less f s ps = drop (from_queue (take (newly_by f s) s.unacknowledged)) ps

newly_within : (nr : ℕ) (s : Session) → newly nr s ≤ length s.unacknowledged
newly_within nr s = omega arith

-- what a valid N(R) makes of the window
window_of : (nr : ℕ) (c : Connection) (s : Session) (ps : List (List ℕ)) → Tied c s ps
    → not (is_valid nr s) ≡ false →
    Unconfirmed (reached (acknowledged_count c.received_frames) nr) c.sent_frames
    (drop (newly nr s) s.unacknowledged)
    (drop (from_queue (take (newly nr s) s.unacknowledged)) ps)
window_of nr c s ps h valid =
    let a : ℕ = acknowledged_count c.received_frames in
    let there : reached a nr ≡ a + newly nr s = reached_newly a (length s.unacknowledged) nr
    s.next_sent
    (length c.sent_frames) (omega (arith, h.small, h.bound)) h.unconfirmed.count h.next
    (not-false _ valid) in
    subst (λ n. Unconfirmed n c.sent_frames (drop (newly nr s) s.unacknowledged)
    (drop (from_queue (take (newly nr s) s.unacknowledged)) ps)) (sym there)
    (unconfirmed_more a (newly nr s) c.sent_frames s.unacknowledged ps (newly_within nr s)
    h.unconfirmed)

bound_of : (nr : ℕ) (s : Session) → length s.unacknowledged ≤ s.k
    → length (drop (newly nr s) s.unacknowledged) ≤ s.k
bound_of nr s h = omega (arith, length-drop (newly nr s) s.unacknowledged)

abbrev after : Apdu → ℕ → Session → Session
after f now s =
    after_frame f now (session.acknowledged (newly_by f s) (record s { last_frame = now }))

tied_after : (f : Apdu) (now : ℕ) (c : Connection) (s : Session) (ps : List (List ℕ))
    → session.is_open s ≡ true
    → Tied c s ps → refuses s f ≡ false → Tied (received_more f c) (after f now s) (less f s ps)
tied_after (I ns nr asdu) now c s ps on h passes =
    let tests = or_parts (not (is_transferring s) || not (ns == s.next_received))
    (not (is_valid nr s))
    (sym (three_tests (not (is_transferring s)) (not (ns == s.next_received)) (not (is_valid nr s)))
    ∙ passes) in
    record {
      transferring = h.transferring;
      received = omega (arith, h.received);
      next = h.next;
      small = h.small;
      bound = bound_of nr s h.bound;
      unconfirmed = window_of nr c s ps h tests.1;
    }
tied_after (S nr) now c s ps on h passes =
    record {
      transferring = h.transferring;
      received = h.received;
      next = h.next;
      small = h.small;
      bound = bound_of nr s h.bound;
      unconfirmed = window_of nr c s ps h (sym (one_test (not (is_valid nr s))) ∙ passes);
    }
tied_after (U StartAct) now c s ps on h passes =
    record {
      transferring = rw on;
      received = h.received;
      next = h.next;
      small = h.small;
      bound = h.bound;
      unconfirmed =
          h.unconfirmed;
    }
tied_after (U StopAct) now c s ps on h passes =
    record {
      transferring = rw on;
      received = h.received;
      next = h.next;
      small = h.small;
      bound = h.bound;
      unconfirmed =
          h.unconfirmed;
    }
tied_after (U StartCon) now c s ps on h passes = record {
  transferring = h.transferring;
  received = h.received;
  next =
      h.next;
  small = h.small;
  bound = h.bound;
  unconfirmed = h.unconfirmed;
}
tied_after (U StopCon) now c s ps on h passes = record {
  transferring = h.transferring;
  received = h.received;
  next =
      h.next;
  small = h.small;
  bound = h.bound;
  unconfirmed = h.unconfirmed;
}
tied_after (U TestAct) now c s ps on h passes = record {
  transferring = h.transferring;
  received = h.received;
  next =
      h.next;
  small = h.small;
  bound = h.bound;
  unconfirmed = h.unconfirmed;
}
tied_after (U TestCon) now c s ps on h passes = record {
  transferring = h.transferring;
  received = h.received;
  next =
      h.next;
  small = h.small;
  bound = h.bound;
  unconfirmed = h.unconfirmed;
}

acked_after : (f : Apdu) (now : ℕ) (s : Session) → (after f now s).acked_queue
    ≡ from_queue (take (newly_by f s) s.unacknowledged)
acked_after (I ns nr asdu) now s = refl
acked_after (S nr) now s = refl
acked_after (U StartAct) now s = refl
acked_after (U StartCon) now s = refl
acked_after (U StopAct) now s = refl
acked_after (U StopCon) now s = refl
acked_after (U TestAct) now s = refl
acked_after (U TestCon) now s = refl

-- a frame that passes
pub tied_taken : (f : Apdu) (now : ℕ) (c : Connection) (s : Session) (ps : List (List ℕ))
    → session.is_open s ≡ true
    → Tied c s ps → refuses s f ≡ false
    → Tied (received_more f c) (taken f now s) (drop (taken f now s).acked_queue ps)
tied_taken f now c s ps on h passes =
    let is : taken f now s ≡ after f now s = cond-false (refuses s f) _ (after f now s) passes in
    subst (λ (x : Session). Tied (received_more f c) x (drop x.acked_queue ps)) (sym is)
    (subst (λ n. Tied (received_more f c) (after f now s) (drop n ps)) (sym (acked_after f now s))
    (tied_after f now c s ps on h passes))

-- a session whose window is the same
pub record SameWindow (s t : Session) : Type 0 where
  pub same_connected : session.is_open t ≡ session.is_open s
  pub same_transferring : is_transferring t ≡ is_transferring s
  pub same_received : t.next_received ≡ s.next_received
  pub same_next : t.next_sent ≡ s.next_sent
  pub same_k : t.k ≡ s.k
  pub same_frames : t.unacknowledged ≡ s.unacknowledged

pub tied_same : (c : Connection) (s t : Session) (ps : List (List ℕ)) → SameWindow s t → Tied c s ps
    → Tied c t ps
tied_same c s t ps e h = record {
  transferring = e.same_transferring ∙ h.transferring;
  received = e.same_received ∙ h.received;
  next = e.same_next ∙ h.next;
  small = omega (arith, e.same_k, h.small);
  bound = omega (arith, e.same_k, h.bound, ap length e.same_frames);
  unconfirmed = subst (λ us. Unconfirmed (acknowledged_count c.received_frames) c.sent_frames us ps)
      (sym e.same_frames) h.unconfirmed;
}

-- the connection once a frame was handed to TCP
abbrev pub sent_more : Sent → Connection → Connection
sent_more f c = record {
  sent_frames = c.sent_frames ++ f ∷ [];
  received_frames =
      c.received_frames;
}

counted : (xs : List Sent) (f : Sent) (next : ℕ) → next ≡ length xs % 32768
    → (next + 1) % 32768 ≡ length (xs ++ f ∷ []) % 32768
counted xs f next h = omega (arith, length-append xs (f ∷ []))

room_for : (s : Session) (u : Unacknowledged) → may_send s ≡ true
    → length (s.unacknowledged ++ u ∷ []) ≤ s.k
room_for s u h =
    let tests = and_parts (is_transferring s) (nat_lt (length s.unacknowledged) s.k) h in
    omega (arith, ltb-true _ _ tests.1, length-append s.unacknowledged (u ∷ []))

pub tied_piece : (f : Sent) (now : ℕ) (c : Connection) (s : Session) (ps : List (List ℕ))
    → Tied c s ps
    → may_send s ≡ true → has_objects f.asdu ≡ true
    → Tied (sent_more f c) (session.sent FromQueue now s) (ps ++ f.asdu
    ∷ [])
tied_piece f now c s ps h may has = record {
  transferring = h.transferring;
  received = h.received;
  next = counted c.sent_frames f s.next_sent h.next;
  small = h.small;
  bound = room_for s _ may;
  unconfirmed = unconfirmed_piece (acknowledged_count c.received_frames) c.sent_frames
      s.unacknowledged ps f _ refl has
      h.unconfirmed;
}

-- an own answer
pub tied_own : (f : Sent) (now : ℕ) (c : Connection) (s : Session) (ps : List (List ℕ))
    → Tied c s ps
    → may_send s ≡ true → has_objects f.asdu ≡ false
    → Tied (sent_more f c) (session.sent Own now s) ps
tied_own f now c s ps h may none = record {
  transferring = h.transferring;
  received = h.received;
  next = counted c.sent_frames f s.next_sent h.next;
  small = h.small;
  bound = room_for s _ may;
  unconfirmed = unconfirmed_own (acknowledged_count c.received_frames) c.sent_frames
      s.unacknowledged ps f _ refl none
      h.unconfirmed;
}
