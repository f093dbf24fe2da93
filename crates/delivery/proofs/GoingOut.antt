-- What goes out to TCP: whole frames, which bear the counts of their connection.
use Rattle.std.proofs.Common.{◌≡◌, ℕ, ◌%◌, Bool, true, false, List, [], ◌∷◌, ◌++◌, length}
use Rattle.std.proofs.Common.{Option, Some, None, refl, ap, sym, ◌∙◌, ◌⊎◌, subst, inl, inr, nat_lt}
use Rattle.std.specs.Prelude.{if◌then◌else◌, ◌&&◌, ◌==◌}
use Rattle.std.specs.List.{AllByRecursion}
use Rattle.apci.specs.declared.apdu.Apdu.{Apdu}
use Rattle.apci.specs.declared.apdu.Apdu.TheVariants.{I, S, U}
use Rattle.apci.specs.declared.apdu.Uf.{Uf}
use Rattle.apci.specs.declared.apdu.Uf.TheVariants.{TestAct, StopCon}
use Rattle.apci.specs.Spelling.{spelling, Fits}
use Rattle.session.specs.History as talk
use Rattle.session.specs.History.{received_count, sent_frames, confirmation_of, frame_due}
use Rattle.session.specs.History.{History, confirmation_owed}
use Rattle.session.specs.History.{function_of, is_acknowledgement_due, is_test_due}
use Rattle.session.specs.History.{is_stop_pending, unconfirmed_moments, still_unacknowledged}
use Rattle.session.specs.Rules.{KeepsRules}
use Rattle.gateway.specs.Log.{Log, Went, TcpOut, latest}
use Rattle.gateway.specs.Connections.{present}
use Rattle.gateway.specs.Course.{Course, with_frames, kind_of, logged_sent, Runs}
use Rattle.gateway.specs.Reports.{Setup}
use Rattle.gateway.specs.Traffic.{ActsRightly}
use Rattle.gateway.proofs.OneCause.{counted}
use Rattle.delivery.specs.Received.{BearsCounts, IsArrival, IsLatestSaid}
use Rattle.delivery.proofs.Faults.{came_count}
use Rattle.delivery.proofs.Replacing.{acts_before}

pub whole : (p : Setup) (newer log : Log) (now : ℕ) (octets : List ℕ)
    → ActsRightly p (newer ++ Went now (TcpOut octets) ∷ log)
    → ((present log).is_open ≡ true) × (frame : Apdu) × Fits frame × (octets ≡ spelling frame)
whole p newer log now octets acts =
    let may = (acts_before p newer (Went now (TcpOut octets) ∷ log) acts).0.may in
    (may.0, may.1.frame, may.1.fits, may.1.spelled_so)

-- an S frame that goes out is the one for all that was received
stops : (b : Bool) (nr : ℕ) → (if b then Some (U StopCon) else None) ≡ Some (S nr) → ⊥
stops true nr e = cc
stops false nr e = cc

owes : (o : Option Uf) (b : Bool) (nr : ℕ)
    → function_of o (if b then Some (U StopCon) else None) ≡ Some (S nr) → ⊥
owes None b nr e = stops b nr e
owes (Some function) b nr e = cc

confirms : (b c : Bool) (o : Option Uf) (n nr : ℕ)
    → (if b then Some (S n) else function_of o (if c then Some (U StopCon) else None))
    ≡ Some (S nr) → nr ≡ n
confirms true c o n nr e = cc
confirms false c o n nr e = absurd (owes o c nr e)

due : (b c : Bool) (n nr : ℕ)
    → (if b then Some (S n) else (if c then Some (U TestAct) else None)) ≡ Some (S nr) → nr ≡ n
due true c n nr e = cc
due false true n nr e = cc
due false false n nr e = cc

bears : (p : Setup) (frame : Apdu) (now : ℕ) (c : Course)
    → length c.sent ≡ length (sent_frames c.talk)
    → KeepsRules p.session (logged_sent frame now c.talk) → BearsCounts frame c
bears p (I ns nr asdu) now c same rules = (
  rules.0.send_number ∙ ap (λ (n : ℕ). n % 32768) (sym same),
  rules.0.receive_number ∙ ap (λ (n : ℕ). n % 32768) (sym (came_count c.talk)),
)
bears p (S nr) now c same rules = elim rules.0 [
  | inl e ↦ confirms (is_stop_pending c.talk && nat_lt 0 (length (unconfirmed_moments c.talk)))
      (is_stop_pending c.talk && length (still_unacknowledged c.talk) == 0)
      (confirmation_owed c.talk) (received_count c.talk % 32768) nr e
      ∙ ap (λ (n : ℕ). n % 32768) (sym (came_count c.talk))
  | inr e ↦ due (is_acknowledgement_due p.session.w p.session.t2 now c.talk)
      (is_test_due p.session.t3 now c.talk) (received_count c.talk % 32768) nr e
      ∙ ap (λ (n : ℕ). n % 32768) (sym (came_count c.talk))
]
bears p (U function) now c same rules = tt

pub counts : ((a b : Apdu) (x y : List ℕ) → spelling a ++ x ≡ spelling b ++ y → (a ≡ b) × (x ≡ y))
    → (p : Setup) (log : Log) (now : ℕ) (frame : Apdu) (c : Course)
    → Runs p (Went now (TcpOut (spelling frame)) ∷ log) c
    → (before : Course) × Runs p log before × BearsCounts frame before
counts cancel p log now frame c r =
    let same : frame ≡ r.3.frame =
    (cancel frame r.3.frame [] [] (ap (λ (l : List ℕ). l ++ []) r.3.spelled_so)).0 in (
      r.0,
      r.2,
      bears p frame (latest log) r.0 (counted p log r.0 r.2)
          (subst (λ (f : Apdu). KeepsRules p.session (logged_sent f (latest log) r.0.talk))
          (sym same) r.3.rules),
    )

-- ---- The history says of a frame what its octets say

abbrev pub arrivals : List Apdu → (now : ℕ) → talk.History
arrivals [] now = []
arrivals (frame ∷ frames) now = talk.Came frame now ∷ arrivals frames now

pub are_arrivals : (frames : List Apdu) (now : ℕ) → AllByRecursion IsArrival (arrivals frames now)
are_arrivals [] now = tt
are_arrivals (frame ∷ frames) now = (tt, are_arrivals frames now)

pub arrived : (p : Setup) (frames : List Apdu) (now : ℕ) (wall : Option ℕ) (c : Course)
    → (with_frames p frames now wall c).talk ≡ arrivals frames now ++ c.talk
arrived p [] now wall c = refl
arrived p (frame ∷ frames) now wall c =
    ap (λ (h : talk.History). talk.Came frame now ∷ h) (arrived p frames now wall c)

-- an S frame that goes out bears the count of all that came
numbered : (p : Setup) (nr now : ℕ) (h : talk.History)
    → (confirmation_of h ≡ Some (S nr))
    ⊎ (frame_due p.session.w p.session.t2 p.session.t3 now h ≡ Some (S nr))
    → nr ≡ received_count h % 32768
numbered p nr now h rule = elim rule [
  | inl e ↦ confirms (is_stop_pending h && nat_lt 0 (length (unconfirmed_moments h)))
      (is_stop_pending h && length (still_unacknowledged h) == 0)
      (confirmation_owed h) (received_count h % 32768) nr e
  | inr e ↦ due (is_acknowledgement_due p.session.w p.session.t2 now h)
      (is_test_due p.session.t3 now h) (received_count h % 32768) nr e
]

says : (p : Setup) (frame : Apdu) (now : ℕ) (since h : talk.History) (c : Course)
    → AllByRecursion IsArrival since → KeepsRules p.session (logged_sent frame now c.talk)
    → h ≡ since ++ logged_sent frame now c.talk → IsLatestSaid frame h
says p (I ns nr asdu) now since h c came rules is = record {
  since = since;
  came = came;
  entry = talk.Sent ns nr (kind_of asdu.items) now;
  before = c.talk;
  is = is;
  said = (refl, refl, rules.0.send_number, rules.0.receive_number);
}
says p (S nr) now since h c came rules is = record {
  since = since;
  came = came;
  entry = talk.Went (S nr) now;
  before = c.talk;
  is = is;
  said = (refl, numbered p nr now c.talk rules.0);
}
says p (U function) now since h c came rules is = record {
  since = since;
  came = came;
  entry = talk.Went (U function) now;
  before = c.talk;
  is = is;
  said = refl;
}

pub said : ((a b : Apdu) (x y : List ℕ) → spelling a ++ x ≡ spelling b ++ y → (a ≡ b) × (x ≡ y))
    → (p : Setup) (log : Log) (now : ℕ) (frame : Apdu) (c : Course)
    → Runs p (Went now (TcpOut (spelling frame)) ∷ log) c → IsLatestSaid frame c.talk
said cancel p log now frame c r =
    let same : frame ≡ r.3.frame =
    (cancel frame r.3.frame [] [] (ap (λ (l : List ℕ). l ++ []) r.3.spelled_so)).0 in
    subst (λ (f : Apdu). IsLatestSaid f c.talk) (sym same)
    (says p r.3.frame (latest log) (arrivals r.4.frames (latest log)) c.talk r.0
    (are_arrivals r.4.frames (latest log)) r.3.rules
    (ap (λ (d : Course). d.talk) r.4.taken
    ∙ arrived p r.4.frames (latest log) _ r.1
    ∙ ap (λ (h : talk.History). arrivals r.4.frames (latest log) ++ h)
    (ap (λ (d : Course). d.talk) r.3.put)))
