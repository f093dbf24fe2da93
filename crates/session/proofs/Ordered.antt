-- The unacknowledged frames in the order of their moments: the oldest of them waits longest.
use Rattle.std.proofs.Common.{◌≡◌, ℕ, suc, ◌-◌, ◌<◌, ◌≤◌, ◌&&◌, ◌||◌, Bool, true, false, cond}
use Rattle.std.proofs.Common.{nat_le, List, [], ◌∷◌, ◌++◌, drop, Option, Some, None, refl, ap}
use Rattle.std.proofs.Common.{◌∙◌, ◌⊎◌, arith, inl, inr}
use Rattle.std.proofs.lemmas.Bool.{lt-leb, leb-false}
use Rattle.apci.specs.declared.apdu.Apdu.{Apdu}
use Rattle.apci.specs.declared.apdu.Apdu.TheVariants.{I, S, U}
use Rattle.apci.specs.declared.apdu.Uf.TheVariants.{StartAct, StartCon, StopAct, StopCon, TestAct}
use Rattle.apci.specs.declared.apdu.Uf.TheVariants.{TestCon}
use Rattle.session.specs.declared.kinds.FrameOrigin.{FrameOrigin}
use Rattle.session.specs.declared.kinds.Unacknowledged.{Unacknowledged}
use Rattle.session.specs.declared.kinds.Transfer.TheVariants as Transfer
use Rattle.session.specs.Session as session
use Rattle.session.specs.Session.{Session, is_late, is_test_late, refuses, taken, after_frame}
use Rattle.session.specs.Session.{newly_by}
use Rattle.session.specs.Ends.{IsInTime, AreInOrder}
use Rattle.session.proofs.States.{turned_opens}

pub one_more : (from : ℕ) (frames : List Unacknowledged) (kind : FrameOrigin) (now : ℕ)
    → AreInOrder from frames now
    → AreInOrder from (frames ++ record { kind = kind; moment = now } ∷ []) now
one_more from [] kind now order = (order, omega arith)
one_more from (u ∷ us) kind now order = (order.0, one_more u.moment us kind now order.1)

-- what waits is later than what was acknowledged
still_in_time : (n from : ℕ) (frames : List Unacknowledged) (now : ℕ) (s : Session)
    → AreInOrder from frames now
    → is_late now s frames ≡ false → is_late now s (drop n frames) ≡ false
still_in_time (suc n) from [] now s order e = refl
still_in_time (suc n) from (u ∷ []) now s order e =
    still_in_time n from [] now s (omega (arith, order.0, order.1)) refl
still_in_time (suc n) from (u ∷ v ∷ us) now s order e =
    let soon : now - u.moment < s.t1 = leb-false s.t1 (now - u.moment) e in
    let older : u.moment ≤ v.moment = order.1.0 in
    still_in_time n u.moment (v ∷ us) now s order.1 (lt-leb s.t1 (now - v.moment) (omega arith))
still_in_time n from frames now s order e = e

late_is : (now : ℕ) (s t : Session) (frames : List Unacknowledged) → t.t1 ≡ s.t1
    → is_late now t frames ≡ is_late now s frames
late_is now s t [] e = refl
late_is now s t (u ∷ us) e = ap (λ (t1 : ℕ). nat_le t1 (now - u.moment)) e

test_late_is : (now : ℕ) (s t : Session) (test : Option ℕ) → t.t1 ≡ s.t1
    → is_test_late now t test ≡ is_test_late now s test
test_late_is now s t None e = refl
test_late_is now s t (Some moment) e = ap (λ (t1 : ℕ). nat_le t1 (now - moment)) e

both_false : (c l t l' t' : Bool) → (l ≡ false → l' ≡ false) → (t ≡ false → t' ≡ false)
    → (c && (l || t)) ≡ false
    → (c && (l' || t')) ≡ false
both_false false l t l' t' frames test e = refl
both_false true true t l' t' frames test e = absurd cc
both_false true false t l' t' frames test e = ap (λ (b : Bool). b || t') (frames refl) ∙ test e

-- t took frames from s's oldest, and its test may have ended
record Narrows (s t : Session) : Type 0 where
  t1 : t.t1 ≡ s.t1
  connected : session.is_open t ≡ session.is_open s
  count : ℕ
  frames : t.unacknowledged ≡ drop count s.unacknowledged
  test : (t.test_sent ≡ s.test_sent) ⊎ (t.test_sent ≡ None)

test_in_time : (now : ℕ) (s t : Session) → t.t1 ≡ s.t1 → (t.test_sent ≡ s.test_sent)
    ⊎ (t.test_sent ≡ None)
    → is_test_late now s s.test_sent ≡ false → is_test_late now t t.test_sent ≡ false
test_in_time now s t t1 (inl same) e = test_late_is now s t t.test_sent t1
    ∙ ap (is_test_late now s) same ∙ e
test_in_time now s t t1 (inr none) e = ap (is_test_late now t) none

narrow_in_time : (now : ℕ) (s t : Session) → Narrows s t → AreInOrder 0 s.unacknowledged now
    → IsInTime now s
    → IsInTime now t
narrow_in_time now s t narrow order e =
    ap (λ (b : Bool). b && (is_late now t t.unacknowledged || is_test_late now t t.test_sent))
    narrow.connected
    ∙ both_false (session.is_open s) (is_late now s s.unacknowledged)
    (is_test_late now s s.test_sent)
    (is_late now t t.unacknowledged) (is_test_late now t t.test_sent)
    (λ frames. late_is now s t t.unacknowledged narrow.t1 ∙ ap (is_late now s) narrow.frames
    ∙ still_in_time narrow.count 0 s.unacknowledged now s order frames)
    (test_in_time now s t narrow.t1 narrow.test)
    e

after_narrows : (frame : Apdu) (now n : ℕ) (s : Session)
    → Narrows s (after_frame frame now (session.acknowledged n (record s { last_frame = now })))
after_narrows (I ns nr asdu) now n s = record {
  t1 = refl;
  connected = refl;
  count = n;
  frames =
      refl;
  test = inl refl;
}
after_narrows (S nr) now n s = record {
  t1 = refl;
  connected = refl;
  count = n;
  frames =
      refl;
  test = inl refl;
}
after_narrows (U StartAct) now n s = record {
  t1 = refl;
  connected = turned_opens Transfer.Started s refl;
  count =
      n;
  frames = refl;
  test = inl refl;
}
after_narrows (U StartCon) now n s = record {
  t1 = refl;
  connected = refl;
  count = n;
  frames =
      refl;
  test = inl refl;
}
after_narrows (U StopAct) now n s = record {
  t1 = refl;
  connected = turned_opens Transfer.Stopping s refl;
  count =
      n;
  frames = refl;
  test = inl refl;
}
after_narrows (U StopCon) now n s = record {
  t1 = refl;
  connected = refl;
  count = n;
  frames =
      refl;
  test = inl refl;
}
after_narrows (U TestAct) now n s = record {
  t1 = refl;
  connected = refl;
  count = n;
  frames =
      refl;
  test = inl refl;
}
after_narrows (U TestCon) now n s = record {
  t1 = refl;
  connected = refl;
  count = n;
  frames =
      refl;
  test = inr refl;
}

taken_narrows : (frame : Apdu) (now : ℕ) (s : Session) (b : Bool)
    → Narrows s (cond b (session.acknowledged 0 (record s { last_frame = now }))
    (after_frame frame now
    (session.acknowledged (newly_by frame s) (record s { last_frame = now }))))
taken_narrows frame now s true = record {
  t1 = refl;
  connected = refl;
  count = 0;
  frames =
      refl;
  test = inl refl;
}
taken_narrows frame now s false = after_narrows frame now (newly_by frame s) s

pub taken_in_time : (frame : Apdu) (now : ℕ) (s : Session) → AreInOrder 0 s.unacknowledged now
    → IsInTime now s
    → IsInTime now (taken frame now s)
taken_in_time frame now s =
    narrow_in_time now s (taken frame now s) (taken_narrows frame now s (refuses s frame))
