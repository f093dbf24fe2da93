-- What is counted exchange by exchange is what the sessions say.
use Rattle.std.proofs.Common.{◌≡◌, ℕ, ◌+◌, ◌-◌, ◌<◌, ◌^◌, ◌&&◌, Bool, true, false, List, [], ◌∷◌}
use Rattle.std.proofs.Common.{◌++◌, length, Option, Some, None, refl, sym, ap, subst, ◌∙◌, arith}
use Rattle.std.proofs.Common.{if◌then◌else◌}
use Rattle.std.specs.Prelude.{◌==◌, not}
use Rattle.std.proofs.lemmas.Bool.{ne_eqb}
use Rattle.link.specs.declared.service.Service.{Service}
use Rattle.link.specs.declared.service.Service.TheVariants.{Class1, Class2, Command}
use Rattle.link.specs.declared.service.Asked.{Asked}
use Rattle.link.specs.declared.service.Asked.TheVariants.{Status, Reset, Counted}
use Rattle.link.specs.declared.answer.Answer.{Answer}
use Rattle.link.specs.declared.answer.Answer.TheVariants.{Ready, Confirmed, Busy, Report, NoData}
use Rattle.link.specs.declared.answer.Answer.TheVariants.{Unable}
use Rattle.std.specs.Io.Iter.{u64_saturate}
use Rattle.link.specs.Delivery.{Session, with_first, before_reset, sessions, is_reset, learnt_by}
use Rattle.link.specs.Delivery.{learnt, reports, is_gap, pending_by, pending_after}
use Rattle.link.specs.Exchanges.{Exchange, answer_to}
use Rattle.link.specs.Outstation.{Turn, effects_of, all_done}
use Rattle.link.specs.Turns.{is_poll}
use Rattle.delivery.specs.Sessions.{ended, gaps_in, given_in, taken_in, counts_of}
use Rattle.sim.specs.declared.tally.StationTally.{StationTally}
use Rattle.sim.specs.Tallies.{fresh_tally, tally_asked, tally_reset, tally_served, tally_after}
use Rattle.sim.specs.Outstations.{IsCounted}
use Rattle.sim.proofs.Turns.{length_more}

-- one exchange of a station that has given so many reports before
abbrev pub tally_step : (a : ℕ) → Exchange → (given : ℕ) → StationTally → StationTally
tally_step a x given t = tally_after x.request (answer_to a x) (tally_asked x.request given t)

-- exchanges, with its turns at them
abbrev pub tally_over : (a given : ℕ) → StationTally → List Exchange → List Turn → StationTally
tally_over a given t [] turns = t
tally_over a given t (x ∷ xs) [] = t
tally_over a given t (x ∷ xs) (turn ∷ turns) = tally_over a (given + length (reports turn.done))
    (tally_step a x (u64_saturate given) t) xs turns

pub over_snoc : (a given : ℕ) (t : StationTally) (xs : List Exchange) (turns : List Turn)
    (x : Exchange)
    (turn : Turn)
    → length turns ≡ length xs →
    tally_over a given t (xs ++ x ∷ []) (turns ++ turn ∷ [])
    ≡ tally_step a x (u64_saturate (given + length (reports (all_done turns))))
    (tally_over a given t xs turns)
over_snoc a given t [] [] x turn e = let same : given ≡ given + 0 = omega arith in
    ap (λ (n : ℕ). tally_step a x (u64_saturate n) t) same
over_snoc a given t [] (u ∷ us) x turn e = absurd (omega arith)
over_snoc a given t (y ∷ ys) [] x turn e = absurd (omega arith)
over_snoc a given t (y ∷ ys) (u ∷ us) x turn e =
    let sum : (given + length (reports u.done)) + length (reports (all_done us))
    ≡ given + length (reports (u.done ++ all_done us)) =
    omega (arith, length_more u.done (all_done us)) in
    over_snoc a (given + length (reports u.done)) (tally_step a y (u64_saturate given) t) ys us x
    turn
    (omega arith)
    ∙ ap (λ (n : ℕ). tally_step a x (u64_saturate n) (tally_over a (given + length (reports u.done))
    (tally_step a y (u64_saturate given) t) ys us)) sum

-- One exchange

-- what an exchange that is no answered reset makes of a tally whose pending service is this
record GoesOn (request : Asked) (m : Option Answer) (pending : Option Service)
    (t s : StationTally) : Type
    0 where
  sessions : s.sessions ≡ t.sessions
  gaps : s.gaps ≡ t.gaps
  lost : s.lost ≡ t.lost
  taken : s.taken ≡ t.taken + length (reports (learnt_by request m))
  polled : s.is_polled ≡ is_gap (pending_by request m pending)

poll_gap : (service : Service) → is_poll service ≡ is_gap (Some service)
poll_gap Class1 = refl
poll_gap Class2 = refl
poll_gap (Command asdu) = refl

served_taken : (service : Service) (answer : Answer) (t : StationTally) → t.taken + 1 < 2 ^ 64
    → (tally_served service answer t).taken ≡ t.taken + length (reports (effects_of service answer))
served_taken Class1 Ready t lt = omega arith
served_taken Class1 Confirmed t lt = omega arith
served_taken Class1 Busy t lt = omega arith
served_taken Class1 (Report asdu) t lt = omega arith
served_taken Class1 NoData t lt = omega arith
served_taken Class1 Unable t lt = omega arith
served_taken Class2 Ready t lt = omega arith
served_taken Class2 Confirmed t lt = omega arith
served_taken Class2 Busy t lt = omega arith
served_taken Class2 (Report asdu) t lt = omega arith
served_taken Class2 NoData t lt = omega arith
served_taken Class2 Unable t lt = omega arith
served_taken (Command c) Ready t lt = omega arith
served_taken (Command c) Confirmed t lt = omega arith
served_taken (Command c) Busy t lt = omega arith
served_taken (Command c) (Report asdu) t lt = omega arith
served_taken (Command c) NoData t lt = omega arith
served_taken (Command c) Unable t lt = omega arith

served_on : (fcb : Bool) (service : Service) (answer : Answer) (given : ℕ)
    (pending : Option Service) (t : StationTally)
    → t.taken + 1 < 2 ^ 64 →
    GoesOn (Counted fcb service) (Some answer) pending t
    (tally_served service answer (tally_asked (Counted fcb service) given t))
served_on fcb service Ready given pending t lt = record {
  sessions = refl;
  gaps = refl;
  lost = refl;
  taken =
      served_taken service Ready (tally_asked (Counted fcb service) given t) lt;
  polled = refl;
}
served_on fcb service Confirmed given pending t lt = record {
  sessions = refl;
  gaps = refl;
  lost = refl;
  taken =
      served_taken service Confirmed (tally_asked (Counted fcb service) given t) lt;
  polled = refl;
}
served_on fcb service Busy given pending t lt = record {
  sessions = refl;
  gaps = refl;
  lost = refl;
  taken =
      served_taken service Busy (tally_asked (Counted fcb service) given t) lt;
  polled = refl;
}
served_on fcb service (Report asdu) given pending t lt =
    record {
      sessions = refl;
      gaps = refl;
      lost = refl;
      taken =
          served_taken service (Report asdu) (tally_asked (Counted fcb service) given t) lt;
      polled = refl;
    }
served_on fcb service NoData given pending t lt = record {
  sessions = refl;
  gaps = refl;
  lost = refl;
  taken =
      served_taken service NoData (tally_asked (Counted fcb service) given t) lt;
  polled = refl;
}
served_on fcb service Unable given pending t lt = record {
  sessions = refl;
  gaps = refl;
  lost = refl;
  taken =
      served_taken service Unable (tally_asked (Counted fcb service) given t) lt;
  polled = poll_gap service;
}

goes_on : (request : Asked) (m : Option Answer) (given : ℕ) (pending : Option Service)
    (t : StationTally)
    → is_reset request m ≡ false → t.taken + 1 < 2 ^ 64 → t.is_polled ≡ is_gap pending →
    GoesOn request m pending t (tally_after request m (tally_asked request given t))
goes_on Status None given pending t still lt polled = record {
  sessions = refl;
  gaps = refl;
  lost = refl;
  taken =
      omega arith;
  polled = polled;
}
goes_on Status (Some answer) given pending t still lt polled =
    record { sessions = refl; gaps = refl; lost = refl; taken = omega arith; polled = polled }
goes_on Reset None given pending t still lt polled = record {
  sessions = refl;
  gaps = refl;
  lost = refl;
  taken =
      omega arith;
  polled = polled;
}
goes_on Reset (Some Ready) given pending t still lt polled =
    record { sessions = refl; gaps = refl; lost = refl; taken = omega arith; polled = polled }
goes_on Reset (Some Confirmed) given pending t still lt polled = let bad : ⊥ = cc in absurd bad
goes_on Reset (Some Busy) given pending t still lt polled =
    record { sessions = refl; gaps = refl; lost = refl; taken = omega arith; polled = polled }
goes_on Reset (Some (Report asdu)) given pending t still lt polled =
    record { sessions = refl; gaps = refl; lost = refl; taken = omega arith; polled = polled }
goes_on Reset (Some NoData) given pending t still lt polled =
    record { sessions = refl; gaps = refl; lost = refl; taken = omega arith; polled = polled }
goes_on Reset (Some Unable) given pending t still lt polled =
    record { sessions = refl; gaps = refl; lost = refl; taken = omega arith; polled = polled }
goes_on (Counted fcb service) None given pending t still lt polled =
    record {
      sessions = refl;
      gaps = refl;
      lost = refl;
      taken = omega arith;
      polled =
          poll_gap service;
    }
goes_on (Counted fcb service) (Some answer) given pending t still lt polled =
    served_on fcb service answer given pending t lt

-- one that is
record Begins (request : Asked) (m : Option Answer) (given : ℕ) (t s : StationTally) : Type 0 where
  is : s ≡ tally_reset (record t { given = given })
  learns : learnt_by request m ≡ []
  pending : (before : Option Service) → pending_by request m before ≡ None

begins : (request : Asked) (m : Option Answer) (given : ℕ) (t : StationTally) → is_reset request m
    ≡ true
    → Begins request m given t (tally_after request m (tally_asked request given t))
begins Status m given t now = let bad : ⊥ = cc in absurd bad
begins (Counted fcb service) m given t now = let bad : ⊥ = cc in absurd bad
begins Reset None given t now = let bad : ⊥ = cc in absurd bad
begins Reset (Some Ready) given t now = let bad : ⊥ = cc in absurd bad
begins Reset (Some Confirmed) given t now = record {
  is = refl;
  learns = refl;
  pending =
      λ before. refl;
}
begins Reset (Some Busy) given t now = let bad : ⊥ = cc in absurd bad
begins Reset (Some (Report asdu)) given t now = let bad : ⊥ = cc in absurd bad
begins Reset (Some NoData) given t now = let bad : ⊥ = cc in absurd bad
begins Reset (Some Unable) given t now = let bad : ⊥ = cc in absurd bad

-- an answer brings one report at most
pub effects_one : (service : Service) (answer : Answer)
    → length (reports (effects_of service answer)) < 2
effects_one Class1 Ready = omega arith
effects_one Class1 Confirmed = omega arith
effects_one Class1 Busy = omega arith
effects_one Class1 (Report asdu) = omega arith
effects_one Class1 NoData = omega arith
effects_one Class1 Unable = omega arith
effects_one Class2 Ready = omega arith
effects_one Class2 Confirmed = omega arith
effects_one Class2 Busy = omega arith
effects_one Class2 (Report asdu) = omega arith
effects_one Class2 NoData = omega arith
effects_one Class2 Unable = omega arith
effects_one (Command c) Ready = omega arith
effects_one (Command c) Confirmed = omega arith
effects_one (Command c) Busy = omega arith
effects_one (Command c) (Report asdu) = omega arith
effects_one (Command c) NoData = omega arith
effects_one (Command c) Unable = omega arith

learns_one : (request : Asked) (m : Option Answer) → length (reports (learnt_by request m)) < 2
learns_one Status m = omega arith
learns_one Reset m = omega arith
learns_one (Counted fcb service) None = omega arith
learns_one (Counted fcb service) (Some answer) = effects_one service answer

-- All of them

-- the new count, if a session ended, else the old one
abbrev where_ended : List Session → (old new : ℕ) → ℕ
where_ended [] old new = old
where_ended (s ∷ ss) old new = new

-- one, if a session was open, ended, and has a gap
abbrev gap_where : List Session → (is_open has_gap : Bool) → ℕ
gap_where [] is_open has_gap = 0
gap_where (s ∷ ss) is_open has_gap = if has_gap && is_open then 1 else 0

abbrev given_here : List Turn → ℕ
given_here turns = length (reports (all_done turns))

abbrev taken_here : (a : ℕ) → List Exchange → ℕ
taken_here a xs = length (reports (learnt a xs))

-- what is counted is what these sessions say, after those before
record Counts (a given : ℕ) (t s : StationTally) (pending : Option Service) (here : Session)
    (ss : List Session) : Type 0 where
  sessions : s.sessions ≡ t.sessions + length ss
  gaps : s.gaps ≡ t.gaps + gap_where ss (not (t.sessions == 0))
      (is_gap (pending_after a pending here.exchanges)) + gaps_in a (ended ss)
  lost : s.lost ≡ where_ended ss t.lost ((given + given_here here.turns + given_in (ended ss)) -
      (t.taken + taken_here a here.exchanges + taken_in a (ended ss)))

record AreBelow (given : ℕ) (t : StationTally) (xs : List Exchange) (turns : List Turn) : Type
    0 where
  sessions : t.sessions + length xs < 2 ^ 64
  gaps : t.gaps + length xs < 2 ^ 64
  taken : t.taken + length xs < 2 ^ 64
  gives : given + given_here turns < 2 ^ 64

-- with an answered reset first
counts_reset : (a given : ℕ) (t s : StationTally) (pending : Option Service) (x : Exchange)
    (turn : Turn)
    (here : Session)
    (ss : List Session) → given < 2 ^ 64 → t.sessions + 1 < 2 ^ 64 → t.gaps + 1 < 2 ^ 64 →
    t.is_polled ≡ is_gap pending → learnt_by x.request (answer_to a x) ≡ []
    → pending_by x.request (answer_to a x) None ≡ None →
    Counts a (given + length (reports turn.done))
    (tally_reset (record t { given = u64_saturate given })) s None here ss →
    Counts a given t s pending (record { exchanges = []; turns = [] }) (with_first x turn here ∷ ss)
counts_reset a given t s pending x turn here ss lt few less polled learns after h = record {
  sessions = let all : s.sessions ≡ u64_saturate (t.sessions + 1) + length ss = h.sessions in
      omega arith;
  gaps = gaps_so ss h.gaps;
  lost = lost_so ss h.lost;
}
  where
    mid : StationTally
    mid = tally_reset (record t { given = u64_saturate given })

    opened : not (mid.sessions == 0) ≡ true
    opened = let some : mid.sessions ≡ 0 → ⊥ = λ e. omega arith in
        ap not (ne_eqb mid.sessions 0 some)

    gap : ℕ
    gap = if is_gap pending && not (t.sessions == 0) then 1 else 0

    mid_gaps : mid.gaps ≡ t.gaps + gap
    mid_gaps = ap (λ (b : Bool). if b && not (t.sessions == 0) then u64_saturate (t.gaps + 1)
        else t.gaps) polled
        ∙ go (is_gap pending && not (t.sessions == 0))
      where
        go : (b : Bool) → (if b then u64_saturate (t.gaps + 1) else t.gaps)
            ≡ t.gaps + (if b then 1 else 0)
        go true = omega arith
        go false = omega arith

    first_gap : is_gap (pending_after a None (x ∷ here.exchanges))
        ≡ is_gap (pending_after a None here.exchanges)
    first_gap = ap (λ (p : Option Service). is_gap (pending_after a p here.exchanges)) after

    gaps_so : (l : List Session) → s.gaps ≡ mid.gaps + gap_where l (not (mid.sessions == 0))
        (is_gap (pending_after a None here.exchanges)) + gaps_in a (ended l) →
        s.gaps ≡ t.gaps + gap + gaps_in a (ended (with_first x turn here ∷ l))
    gaps_so [] e = omega (arith, e, mid_gaps)
    gaps_so (l ∷ ls) e = go (is_gap (pending_after a None here.exchanges)) refl
      where
        go : (b : Bool) → is_gap (pending_after a None here.exchanges) ≡ b
            → s.gaps ≡ t.gaps + gap + (if is_gap (pending_after a None (x ∷ here.exchanges))
            then gaps_in a
            (ended (l ∷ ls)) + 1 else gaps_in a (ended (l ∷ ls)))
        go true is =
            let now : s.gaps ≡ mid.gaps + 1 + gaps_in a (ended (l ∷ ls)) =
            subst (λ (b : Bool). s.gaps ≡ mid.gaps + (if b then 1 else 0)
            + gaps_in a (ended (l ∷ ls)))
            (ap (λ (b : Bool). b && not (mid.sessions == 0)) is ∙ opened) e in
            rw (first_gap ∙ is) (omega (arith, now, mid_gaps))
        go false is =
            let now : s.gaps ≡ mid.gaps + 0 + gaps_in a (ended (l ∷ ls)) =
            subst (λ (b : Bool). s.gaps ≡ mid.gaps + (if b then 1 else 0)
            + gaps_in a (ended (l ∷ ls)))
            (ap (λ (b : Bool). b && not (mid.sessions == 0)) is) e in
            rw (first_gap ∙ is) (omega (arith, now, mid_gaps))

    took_none : length (reports (learnt_by x.request (answer_to a x) ++ learnt a here.exchanges))
        ≡ taken_here a here.exchanges
    took_none = ap (λ l. length (reports (l ++ learnt a here.exchanges))) learns

    gave : length (reports (turn.done ++ all_done here.turns)) ≡ length (reports turn.done)
        + given_here here.turns
    gave = length_more turn.done (all_done here.turns)

    lost_so : (l : List Session) → s.lost ≡ where_ended l mid.lost
        (((given + length (reports turn.done)) + given_here here.turns + given_in (ended l)) -
        (mid.taken + taken_here a here.exchanges + taken_in a (ended l))) →
        s.lost ≡ (given + 0 + given_in (ended (with_first x turn here ∷ l))) -
        (t.taken + 0 + taken_in a (ended (with_first x turn here ∷ l)))
    lost_so [] e = omega (arith, e)
    lost_so (l ∷ ls) e = omega (arith, e, took_none, gave)

-- with any other exchange first
counts_on : (a given : ℕ) (t mid s : StationTally) (pending : Option Service) (x : Exchange)
    (turn : Turn)
    (here : Session)
    (ss : List Session) → GoesOn x.request (answer_to a x) pending t mid →
    Counts a (given + length (reports turn.done)) mid s
    (pending_by x.request (answer_to a x) pending) here ss
    → Counts a given t s pending (with_first x turn here) ss
counts_on a given t mid s pending x turn here ss on h = record {
  sessions = h.sessions ∙ ap (λ (n : ℕ). n + length ss) on.sessions;
  gaps = h.gaps ∙ ap (λ (n : ℕ). n + gap_where ss (not (mid.sessions == 0))
      (is_gap (pending_after a (pending_by x.request (answer_to a x) pending) here.exchanges))
      + gaps_in a (ended ss))
      on.gaps
      ∙ ap (λ (n : ℕ). t.gaps + gap_where ss (not (n == 0))
      (is_gap (pending_after a (pending_by x.request (answer_to a x) pending) here.exchanges))
      + gaps_in a
      (ended ss)) on.sessions;
  lost = lost_so ss h.lost;
}
  where
    took : length (reports (learnt_by x.request (answer_to a x) ++ learnt a here.exchanges))
        ≡ length (reports (learnt_by x.request (answer_to a x))) + taken_here a here.exchanges
    took = length_more (learnt_by x.request (answer_to a x)) (learnt a here.exchanges)

    gave : length (reports (turn.done ++ all_done here.turns)) ≡ length (reports turn.done)
        + given_here here.turns
    gave = length_more turn.done (all_done here.turns)

    lost_so : (l : List Session) → s.lost ≡ where_ended l mid.lost
        (((given + length (reports turn.done)) + given_here here.turns + given_in (ended l)) -
        (mid.taken + taken_here a here.exchanges + taken_in a (ended l))) →
        s.lost ≡ where_ended l t.lost ((given + given_here (turn ∷ here.turns) + given_in (ended l))
        -
        (t.taken + taken_here a (x ∷ here.exchanges) + taken_in a (ended l)))
    lost_so [] e = e ∙ on.lost
    lost_so (l ∷ ls) e =
        let more : mid.taken ≡ t.taken + length (reports (learnt_by x.request (answer_to a x))) =
        on.taken in
        omega (arith, e, more, took, gave)

counted : (a given : ℕ) (t : StationTally) (pending : Option Service) (xs : List Exchange)
    (turns : List Turn)
    → length turns ≡ length xs → AreBelow given t xs turns → t.is_polled ≡ is_gap pending →
    Counts a given t (tally_over a given t xs turns) pending (before_reset a xs turns)
    (sessions a xs turns)
counted a given t pending [] [] long below polled =
    record { sessions = omega arith; gaps = omega arith; lost = refl }
counted a given t pending [] (turn ∷ turns) long below polled = absurd (omega arith)
counted a given t pending (x ∷ xs) [] long below polled = absurd (omega arith)
counted a given t pending (x ∷ xs) (turn ∷ turns) long below polled =
    go (is_reset x.request (answer_to a x)) refl (λ g u p under same. counted a g u p xs turns
    (omega arith) under same)
  where
    mid : StationTally
    mid = tally_step a x (u64_saturate given) t

    end : StationTally
    end = tally_over a (given + length (reports turn.done)) mid xs turns

    gave : length (reports (turn.done ++ all_done turns)) ≡ length (reports turn.done)
        + given_here turns
    gave = length_more turn.done (all_done turns)

    go : (b : Bool) → is_reset x.request (answer_to a x) ≡ b →
        ((g : ℕ) (u : StationTally) (p : Option Service) → AreBelow g u xs turns → u.is_polled
        ≡ is_gap p
        → Counts a g u (tally_over a g u xs turns) p (before_reset a xs turns)
        (sessions a xs turns)) →
        Counts a given t end pending (if b then record {
          exchanges = [];
          turns =
              [];
        } else with_first x turn (before_reset a xs turns))
        (if b then with_first x turn (before_reset a xs turns) ∷ sessions a xs turns
        else sessions a xs turns)
    go true now all_rest =
        let first = begins x.request (answer_to a x) (u64_saturate given) t now in
        let sum : given + given_here (turn ∷ turns) < 2 ^ 64 = below.gives in
        let few : t.sessions + length (x ∷ xs) < 2 ^ 64 = below.sessions in
        let less : t.gaps + length (x ∷ xs) < 2 ^ 64 = below.gaps in
        let rarely : t.taken + length (x ∷ xs) < 2 ^ 64 = below.taken in
        let next : StationTally = tally_reset (record t { given = u64_saturate given }) in
        let room : AreBelow (given + length (reports turn.done)) next xs turns = record {
          sessions = omega arith;
          gaps = below_gaps (t.is_polled && not (t.sessions == 0)) less;
          taken = omega arith;
          gives = omega (arith, gave);
        } in
        let rest : Counts a (given + length (reports turn.done)) next
        (tally_over a (given + length (reports turn.done)) next xs turns) None
        (before_reset a xs turns)
        (sessions a xs turns) =
        all_rest (given + length (reports turn.done)) next None room refl in
        counts_reset a given t end pending x turn (before_reset a xs turns) (sessions a xs turns)
        (omega arith)
        (omega arith) (omega arith) polled first.learns (first.pending None)
        (subst (λ (u : StationTally). Counts a (given + length (reports turn.done)) next
        (tally_over a (given + length (reports turn.done)) u xs turns) None
        (before_reset a xs turns)
        (sessions a xs turns)) (sym first.is) rest)
      where
        below_gaps : (b : Bool) → t.gaps + length (x ∷ xs) < 2 ^ 64
            → (if b then u64_saturate (t.gaps + 1) else t.gaps) + length xs < 2 ^ 64
        below_gaps true lt = omega arith
        below_gaps false lt = omega arith
    go false still all_rest =
        let few : t.sessions + length (x ∷ xs) < 2 ^ 64 = below.sessions in
        let less : t.gaps + length (x ∷ xs) < 2 ^ 64 = below.gaps in
        let rarely : t.taken + length (x ∷ xs) < 2 ^ 64 = below.taken in
        let sum : given + given_here (turn ∷ turns) < 2 ^ 64 = below.gives in
        let on = goes_on x.request (answer_to a x) (u64_saturate given) pending t still
        (omega arith)
        polled in
        let same : mid.sessions ≡ t.sessions = on.sessions in
        let as_many : mid.gaps ≡ t.gaps = on.gaps in
        let more : mid.taken ≡ t.taken + length (reports (learnt_by x.request (answer_to a x))) =
        on.taken in
        let one : length (reports (learnt_by x.request (answer_to a x))) < 2 =
        learns_one x.request (answer_to a x) in
        counts_on a given t mid end pending x turn (before_reset a xs turns) (sessions a xs turns)
        on
        (all_rest (given + length (reports turn.done)) mid
        (pending_by x.request (answer_to a x) pending)
        (record {
          sessions = omega arith;
          gaps = omega arith;
          taken = omega arith;
          gives =
              omega (arith, gave);
        })
        on.polled)

-- The tally of a station, from its first request on, is what its sessions say.
pub counted_all : (a : ℕ) (xs : List Exchange) (turns : List Turn) → length turns ≡ length xs
    → length xs < 2 ^ 64
    → length (reports (all_done turns)) < 2 ^ 64 →
    learnt a (before_reset a xs turns).exchanges ≡ [] → all_done (before_reset a xs turns).turns
    ≡ []
    → IsCounted (counts_of a (sessions a xs turns)) (tally_over a 0 fresh_tally xs turns)
counted_all a xs turns long few small learns idle =
    let all = counted a 0 fresh_tally None xs turns long
    (record {
      sessions = omega arith;
      gaps = omega arith;
      taken = omega arith;
      gives =
          omega arith;
    }) refl in
    record {
      sessions =
          let n : (tally_over a 0 fresh_tally xs turns).sessions
          ≡ 0 + length (sessions a xs turns) = all.sessions in
          omega arith;
      gaps =
          gaps_so (sessions a xs turns)
          (is_gap (pending_after a None (before_reset a xs turns).exchanges)) all.gaps;
      lost = lost_so (sessions a xs turns) all.lost;
    }
  where
    end : StationTally
    end = tally_over a 0 fresh_tally xs turns

    closed : (l : List Session) (b : Bool) → gap_where l false b ≡ 0
    closed [] b = refl
    closed (l ∷ ls) true = refl
    closed (l ∷ ls) false = refl

    gaps_so : (l : List Session) (b : Bool) → end.gaps ≡ 0 + gap_where l false b
        + gaps_in a (ended l)
        → end.gaps ≡ gaps_in a (ended l)
    gaps_so l b e = omega (arith, e, closed l b)

    none_given : given_here (before_reset a xs turns).turns ≡ 0
    none_given = ap (λ l. length (reports l)) idle

    none_taken : taken_here a (before_reset a xs turns).exchanges ≡ 0
    none_taken = ap (λ l. length (reports l)) learns

    lost_so : (l : List Session) → end.lost ≡ where_ended l 0
        ((0 + given_here (before_reset a xs turns).turns + given_in (ended l)) -
        (0 + taken_here a (before_reset a xs turns).exchanges + taken_in a (ended l))) →
        end.lost ≡ given_in (ended l) - taken_in a (ended l)
    lost_so [] e = omega (arith, e)
    lost_so (l ∷ ls) e = omega (arith, e, none_given, none_taken)
