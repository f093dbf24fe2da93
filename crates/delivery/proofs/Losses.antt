-- Each session loses at most its last report, and one without a gap loses none.
use Rattle.std.proofs.Common.{◌≡◌, ◌⊎◌, ℕ, suc, ◌+◌, ◌≤◌, Bool, true, false, List, [], ◌∷◌, ◌++◌}
use Rattle.std.proofs.Common.{length, Some, None, refl, sym, ap, subst, ◌∙◌, inl, inr, arith}
use Rattle.std.proofs.Common.{if◌then◌else◌}
use Rattle.std.specs.List.{AllByRecursion}
use Rattle.std.proofs.lemmas.List.{length-append}
use Rattle.ft12.specs.Fronts.{front_of}
use Rattle.link.specs.Outstation.{all_done}
use Rattle.link.specs.Delivery.{Session, learnt, reports, is_gap, pending_after, IsAllOrButLast}
use Rattle.link.specs.Delivery.{HasReports}
use Rattle.std.specs.Io.Iter.{u64_saturate}
use Rattle.link.specs.Carried.{commands_given_up}
use Rattle.link.specs.Exchanges.{Exchanges}
use Rattle.link.specs.Gaps.{as_numbers, ended_with_gap, gaps_at}
use Rattle.gateway.specs.Gaps.{gaps_of, gaps_reported}
use Rattle.gateway.specs.Log.{Log, Came, Went, Opened, LineIn, TcpIn, CutOff, Ticked, WallIs}
use Rattle.gateway.specs.Log.{Restarted}
use Rattle.gateway.specs.Reports.{Setup, exchanges_of}
use Rattle.gateway.specs.Traffic.{HasRested}
use Rattle.delivery.specs.Sessions.{ended, gaps_in, given_in, taken_in, LosesNone, LosesLastAtMost}
use Rattle.delivery.specs.Sessions.{LoseAsReported}

-- each that ended is reported if it has a gap
as_logged : (station number : ℕ) (ss : List Session) → AllByRecursion (λ s. HasReports station s) ss
    → LoseAsReported station number ss (ended_with_gap station number ss)
as_logged station number [] all = refl
as_logged station number (s ∷ []) all = refl
as_logged station number (s ∷ (next ∷ later)) all =
    go (is_gap (pending_after station None s.exchanges)) refl
    (as_logged station (suc number) (next ∷ later) all.1)
  where
    rest : List ℕ
    rest = ended_with_gap station (suc number) (next ∷ later)

    numbers : Bool → List ℕ
    numbers b = as_numbers (if b then Some (u64_saturate number) else None) ++ rest

    go : (b : Bool) → is_gap (pending_after station None s.exchanges) ≡ b
        → LoseAsReported station (suc number) (next ∷ later) rest →
        (LosesNone station s × LoseAsReported station (suc number) (next ∷ later)
        (as_numbers (if b then Some (u64_saturate number) else None) ++ rest))
        ⊎ ((others : List ℕ) × (as_numbers (if b then Some (u64_saturate number) else None) ++ rest
        ≡ u64_saturate number
        ∷ others) × LosesLastAtMost station s × LoseAsReported station (suc number) (next ∷ later)
        others)
    go true e ih = inr (rest, refl, all.0.most, ih)
    go false e ih = inl (all.0.all e, ih)

pub logged_so : (station : ℕ) (ss : List Session) (logged : List ℕ)
    → AllByRecursion (λ s. HasReports station s) ss
    → logged ≡ ended_with_gap station 1 ss → LoseAsReported station 1 ss logged
logged_so station ss logged all is = subst (LoseAsReported station 1 ss) (sym is)
    (as_logged station 1 ss all)

-- once a step is over each gap is reported, and a restart makes none
pub gaps_rested : (p : Setup) → ((e : Exchanges) (i : ℕ)
    → gaps_at (front_of p.link.size) p.addresses i
    (commands_given_up p.link (front_of p.link.size) p.addresses e)
    ≡ gaps_at (front_of p.link.size) p.addresses i e)
    → (log : Log) (i : ℕ) → HasRested p log → gaps_reported i log ≡ gaps_of p i log
gaps_rested p same [] i rests = refl
gaps_rested p same (Came now Restarted ∷ log) i rests =
    gaps_rested p same log i rests ∙ sym (same (exchanges_of p log) i)
gaps_rested p same (Came now (LineIn octets) ∷ log) i rests = rests.gaps i
gaps_rested p same (Came now Opened ∷ log) i rests = rests.gaps i
gaps_rested p same (Came now (TcpIn octets) ∷ log) i rests = rests.gaps i
gaps_rested p same (Came now CutOff ∷ log) i rests = rests.gaps i
gaps_rested p same (Came now Ticked ∷ log) i rests = rests.gaps i
gaps_rested p same (Came now (WallIs number) ∷ log) i rests = rests.gaps i
gaps_rested p same (Went now action ∷ log) i rests = rests.gaps i

-- at most one fewer
within_one : (all some : List (List ℕ)) → IsAllOrButLast all some
    → (length some ≤ length all) × (length all ≤ length some + 1)
within_one all some (inl same) = let even : length some ≡ length all = ap length same in
    (omega arith, omega arith)
within_one all some (inr more) =
    let whole : length (some ++ more.0 ∷ []) ≡ length all = ap length more.1 in
    let one : length (some ++ more.0 ∷ []) ≡ length some + 1 = length-append some (more.0 ∷ []) in
    (omega arith, omega arith)

-- what these sessions took and gave
pub record AreWithin (station : ℕ) (ss : List Session) : Type 0 where
  pub taken : taken_in station ss ≤ given_in ss
  pub lost : given_in ss ≤ taken_in station ss + gaps_in station ss

within_more : (station : ℕ) (s : Session) (ss : List Session) → HasReports station s
    → AreWithin station ss
    → AreWithin station (s ∷ ss)
within_more station s ss has h = go (is_gap (pending_after station None s.exchanges)) refl
  where
    gave : ℕ
    gave = length (reports (all_done s.turns))

    took : ℕ
    took = length (reports (learnt station s.exchanges))

    one : (took ≤ gave) × (gave ≤ took + 1)
    one = within_one (reports (all_done s.turns)) (reports (learnt station s.exchanges)) has.most

    go : (b : Bool) → is_gap (pending_after station None s.exchanges) ≡ b
        → AreWithin station (s ∷ ss)
    go true e = record {
      taken = omega (arith, one.0, h.taken);
      lost = rw e (omega (arith, one.1, h.lost));
    }
    go false e = record {
      taken = omega (arith, one.0, h.taken);
      lost = let even : took ≡ gave = ap length (has.all e) in rw e (omega (arith, even, h.lost));
    }

pub within_ended : (station : ℕ) (ss : List Session) → AllByRecursion (λ s. HasReports station s) ss
    → AreWithin station (ended ss)
within_ended station [] all = record { taken = omega arith; lost = omega arith }
within_ended station (s ∷ []) all = record { taken = omega arith; lost = omega arith }
within_ended station (s ∷ (next ∷ later)) all = within_more station s (ended (next ∷ later)) all.0
    (within_ended station (next ∷ later) all.1)
