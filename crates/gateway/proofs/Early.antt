-- No answer becomes late by a frame that goes out.
use Rattle.std.proofs.Common.{◌≡◌, ℕ, zero, suc, ◌-◌, ◌<◌, ◌||◌, Bool, true, false, nat_le}
use Rattle.std.proofs.Common.{List, [], ◌∷◌, ◌++◌, drop, refl, sym, subst, arith}
use Rattle.std.proofs.lemmas.Bool.{false≢true, lt-leb}
use Rattle.apci.specs.declared.apdu.Apdu.{Apdu}
use Rattle.apci.specs.declared.apdu.Apdu.TheVariants.{I, S, U}
use Rattle.apci.specs.declared.apdu.Uf.TheVariants.{StartAct, StartCon, StopAct, StopCon, TestAct}
use Rattle.apci.specs.declared.apdu.Uf.TheVariants.{TestCon}
use Rattle.gateway.specs.Log.{Log, latest}
use Rattle.gateway.specs.Reports.{Setup}
use Rattle.gateway.specs.Course.{Course, kind_of, logged_sent}
use Rattle.gateway.specs.Phases.{Phase, Fresh, Taking, Judged, Idle, Crowded, Timed, Asked}
use Rattle.gateway.specs.Phases.{IsFlushing}
use Rattle.session.specs.History as talk
use Rattle.session.specs.declared.kinds.Unacknowledged.{Unacknowledged}
use Rattle.session.specs.History.{History, has_timed_out}
use Rattle.gateway.specs.Agrees.{IsAnswered}

-- no time runs out by what goes out at this moment

sent_now : (t1 now moment : ℕ) → 0 < t1 → moment ≡ now → nat_le t1 (now - moment) ≡ false
sent_now t1 now moment some is = lt-leb t1 (now - moment) (omega (arith, some, is))

late_more : (t1 now n : ℕ) (us : List Unacknowledged) (u : Unacknowledged) → 0 < t1
    → u.moment ≡ now → talk.has_passed t1 now (talk.moments_of (drop n us)) ≡ false
    → talk.has_passed t1 now (talk.moments_of (drop n (us ++ u ∷ []))) ≡ false
late_more t1 now zero [] u some is early = sent_now t1 now u.moment some is
late_more t1 now zero (x ∷ us) u some is early = early
late_more t1 now (suc n) [] u some is early = nothing n
  where
    nothing : (n : ℕ) → talk.has_passed t1 now (talk.moments_of (drop n [])) ≡ false
    nothing zero = refl
    nothing (suc n) = refl
late_more t1 now (suc n) (x ∷ us) u some is early = late_more t1 now n us u some is early

both_false : (a b : Bool) → a ≡ false → b ≡ false → (a || b) ≡ false
both_false true b h k = h
both_false false b h k = k

first_false : (a b : Bool) → (a || b) ≡ false → a ≡ false
first_false true b h = h
first_false false b h = refl

second_false : (a b : Bool) → (a || b) ≡ false → b ≡ false
second_false true b h = absurd (false≢true (sym h))
second_false false b h = h

still_early : (t1 now moment : ℕ) (f : Apdu) (h : History) → 0 < t1 → moment ≡ now
    → has_timed_out t1 now h ≡ false → has_timed_out t1 now (logged_sent f moment h) ≡ false
still_early t1 now moment (I ns nr asdu) h some is early =
    let unacknowledged : Bool = talk.has_passed t1 now (talk.moments_of (talk.still_unacknowledged
    h)) in
    let tests : Bool = talk.has_passed t1 now (talk.moment_of (talk.outstanding_test h)) in
    both_false _ tests
    (late_more t1 now (talk.acknowledged_count h) (talk.sent_frames h)
    (record { kind = kind_of asdu.items; moment = moment }) some is
    (first_false unacknowledged tests early))
    (second_false unacknowledged tests early)
still_early t1 now moment (S nr) h some is early = early
still_early t1 now moment (U StartAct) h some is early = early
still_early t1 now moment (U StartCon) h some is early = early
still_early t1 now moment (U StopAct) h some is early = early
still_early t1 now moment (U StopCon) h some is early = early
still_early t1 now moment (U TestAct) h some is early =
    let unacknowledged : Bool = talk.has_passed t1 now (talk.moments_of (talk.still_unacknowledged
    h)) in
    let tests : Bool = talk.has_passed t1 now (talk.moment_of (talk.outstanding_test h)) in
    both_false unacknowledged _ (first_false unacknowledged tests early)
    (sent_now t1 now moment some is)
still_early t1 now moment (U TestCon) h some is early = early

-- when a frame goes out, no answer is late still
pub answered_out : (p : Setup) (phase : Phase) (log new : Log) (c d : Course) (f : Apdu)
    (moment : ℕ)
    → IsFlushing phase → 0 < p.session.t1 → latest new ≡ latest log → moment ≡ latest log
    → d.talk ≡ logged_sent f moment c.talk → IsAnswered phase p log c → IsAnswered phase p new d
answered_out p Fresh log new c d f moment flushing some same clock is h = absurd flushing
answered_out p Taking log new c d f moment flushing some same clock is h = absurd flushing
answered_out p Judged log new c d f moment flushing some same clock is h = tt
answered_out p Idle log new c d f moment flushing some same clock is h = absurd flushing
answered_out p Crowded log new c d f moment flushing some same clock is h = absurd flushing
answered_out p Timed log new c d f moment flushing some same clock is h = absurd flushing
answered_out p Asked log new c d f moment flushing some same clock is h =
    subst (λ n. has_timed_out p.session.t1 n d.talk ≡ false) (sym same)
    (subst (λ t. has_timed_out p.session.t1 (latest log) t ≡ false) (sym is)
    (still_early p.session.t1 (latest log) moment f c.talk some clock h))
