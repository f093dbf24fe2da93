-- What is received stays without fault as more is sent; what a session keeps when it takes a frame.
use Rattle.std.proofs.Common.{◌≡◌, ℕ, ◌%◌, ◌≤◌, ◌==◌, Bool, true, false, not, cond, nat_lt, List}
use Rattle.std.proofs.Common.{[], ◌∷◌, refl, ap, arith, inl, Option, Some, None}
use Rattle.std.proofs.lemmas.Bool.Decides.{nat_tests}
use Rattle.apci.specs.declared.apdu.Apdu.{Apdu}
use Rattle.apci.specs.declared.apdu.Apdu.TheVariants.{I, S, U}
use Rattle.apci.specs.declared.apdu.Uf.TheVariants.{StartAct, StartCon, StopAct, StopCon, TestAct}
use Rattle.apci.specs.declared.apdu.Uf.TheVariants.{TestCon}
use Rattle.apci.specs.Reading.{IsMore}
use Rattle.session.specs.declared.kinds.Close.{Close}
use Rattle.session.specs.declared.kinds.Close.TheVariants.{SendNumber, ReceiveNumber, Stopped}
use Rattle.session.specs.declared.kinds.Transfer.TheVariants.{Started, Stopping}
use Rattle.session.specs.Session as session
use Rattle.session.specs.Session.{Session, after_frame, newly_by, refuses, taken}
use Rattle.session.specs.History.{reached}
use Rattle.session.proofs.States.{turned_opens}
use Rattle.gateway.specs.Frames.{transfers, i_frames, acknowledged_count, fault_of}
use Rattle.gateway.specs.Connections.{Passes}

less_test : (n m r : ℕ) → n ≤ m → nat_lt n r ≡ false → nat_lt m r ≡ false
less_test n m r le h = grind (arith, nat_tests)

last_none : (n m r : ℕ) → n ≤ m → cond (nat_lt n r) (Some ReceiveNumber) None ≡ None
    → cond (nat_lt m r) (Some ReceiveNumber) None ≡ None
last_none n m r le h =
    ap (λ t. cond t (Some ReceiveNumber) None) (less_test n m r le (tested (nat_lt n r) h))
  where
    tested : (t : Bool) → cond t (Some ReceiveNumber) None ≡ None → t ≡ false
    tested true h = cc
    tested false h = refl

all_none : (a b : Bool) (few many : Option Close) → (few ≡ None → many ≡ None)
    → cond a (Some Stopped) (cond b (Some SendNumber) few) ≡ None
    → cond a (Some Stopped) (cond b (Some SendNumber) many) ≡ None
all_none true b few many f h = cc
all_none false true few many f h = cc
all_none false false few many f h = f h

-- a frame without fault stays so as more is sent
fault_grows : (n m : ℕ) → n ≤ m → (older : List Apdu) (f : Apdu) → fault_of n older f ≡ None
    → fault_of m older f ≡ None
fault_grows n m le older (I ns nr asdu) h =
    all_none (not (transfers older)) (not (ns == i_frames older % 32768)) _ _
    (last_none n m (reached (acknowledged_count older) nr) le) h
fault_grows n m le older (S nr) h = last_none n m (reached (acknowledged_count older) nr) le h
fault_grows n m le older (U u) h = refl

pub pass_grows : (n m : ℕ) → n ≤ m → (received : List Apdu) → Passes n received → Passes m received
pass_grows n m le [] h = tt
pass_grows n m le (f ∷ older) h = (fault_grows n m le older f h.0, pass_grows n m le older h.1)

-- what a session keeps when it takes a frame
pub record Stays (s t : Session) : Type 0 where
  pub k : t.k ≡ s.k
  pub connected : session.is_open t ≡ session.is_open s

pub taken_stays : (f : Apdu) (now : ℕ) (s : Session) → Stays s (taken f now s)
taken_stays f now s =
    let kept : Session = session.acknowledged 0 (record s { last_frame = now }) in
    let more : Session =
    after_frame f now (session.acknowledged (newly_by f s) (record s { last_frame = now })) in
    elim (refuses s f) as (λ b. Stays s (cond b kept more))
    [ true ↦ record { k = refl; connected = refl } | false ↦ after f ]
  where
    after : (f : Apdu)
        → Stays s
        (after_frame f now (session.acknowledged (newly_by f s) (record s { last_frame = now })))
    after (I ns nr asdu) = record { k = refl; connected = refl }
    after (S nr) = record { k = refl; connected = refl }
    after (U StartAct) = record { k = refl; connected = turned_opens Started s refl }
    after (U StartCon) = record { k = refl; connected = refl }
    after (U StopAct) = record { k = refl; connected = turned_opens Stopping s refl }
    after (U StopCon) = record { k = refl; connected = refl }
    after (U TestAct) = record { k = refl; connected = refl }
    after (U TestCon) = record { k = refl; connected = refl }

-- nothing is the beginning of a frame
pub nothing_waits : IsMore []
nothing_waits = inl (record {
  apdu = U TestAct;
  next = 0x68;
  rest = 4 ∷ 0x43 ∷ 0 ∷ 0 ∷ 0 ∷ [];
  line =
      record { fits = tt; spelled = refl };
})
