-- What is known of a station's session outlives a restart.
use Rattle.std.proofs.Common.{◌≡◌, ◌≢◌, ◌<◌, ◌≤◌, ℕ, true, length, List, Option, Some, None}
use Rattle.std.proofs.Common.{slice_set, refl, sym, ap, subst, ◌∙◌, inl, inr, ◌⊎◌, arith}
use Rattle.std.proofs.lemmas.Bool.{cases_eq, cases_lt}
use Rattle.std.proofs.lemmas.List.{get_or-set_same, get_or-set_other, get_or_past, length-set}
use Rattle.link.specs.Turns.{StationState, no_station, station_at}
use Rattle.link.specs.Primary.{Primary, Outstanding}
use Rattle.link.specs.Carried.{gap_marked, given_up, released, released_from, station_carried}
use Rattle.link.specs.Carried.{station_given_up, station_left, with_gap_mark}

-- A station changes but for its session: then no session changes.
kept : (ss : List StationState) (k j : ℕ) (s : StationState) → s.session ≡ (station_at ss k).session
    → (station_at (slice_set ss k s) j).session ≡ (station_at ss j).session
kept ss k j s same = go (cases_eq j k) (cases_lt k (length ss))
  where
    go : (j ≡ k) ⊎ (j ≡ k → ⊥) → (k < length ss) ⊎ (length ss ≤ k)
        → (station_at (slice_set ss k s) j).session ≡ (station_at ss j).session
    go (inl here) (inl within) =
        subst (λ (i : ℕ). (station_at (slice_set ss k s) i).session ≡ (station_at ss i).session)
        (sym here)
        (ap (λ (x : StationState). x.session) (get_or-set_same ss k s no_station within) ∙ same)
    go (inl here) (inr past) =
        let old : station_at ss j ≡ no_station =
        get_or_past ss j no_station (omega (arith, here, past)) in
        let new : station_at (slice_set ss k s) j ≡ no_station =
        get_or_past (slice_set ss k s) j no_station
        (omega (arith, here, past, length-set ss k s)) in
        ap (λ (x : StationState). x.session) (new ∙ sym old)
    go (inr other) within =
        ap (λ (x : StationState). x.session) (get_or-set_other ss k j s no_station other)

pub sessions_given_up : (p : Primary) (k j : ℕ)
    → (station_at (given_up k p).stations j).session ≡ (station_at p.stations j).session
sessions_given_up p k j = kept p.stations k j (station_given_up (station_at p.stations k)) refl

pub sessions_released : (p : Primary) (j : ℕ)
    → (station_at (released p).stations j).session ≡ (station_at p.stations j).session
sessions_released p j = go p.outstanding
  where
    go : (o : Option Outstanding) → (station_at (released_from p o).stations j).session
        ≡ (station_at p.stations j).session
    go None = refl
    go (Some o) =
        kept p.stations p.turn j (station_left p.settings (station_at p.stations p.turn) o.request)
        refl

pub sessions_carried : (retries address : ℕ) (s : StationState)
    → (station_carried retries address s).session ≡ s.session
sessions_carried retries address s = refl

pub session_marked : (p : Primary) (k : ℕ) → k < length p.stations
    → (station_at (gap_marked k p).stations k).session
    ≡ record (station_at p.stations k).session { has_gap = true }
session_marked p k within = ap (λ (x : StationState). x.session)
    (get_or-set_same p.stations k (with_gap_mark (station_at p.stations k)) no_station within)

pub session_alone_marked : (p : Primary) (k : ℕ) → k < length p.stations
    → station_at (gap_marked k p).stations k ≡ record (station_at p.stations k) {
      session = (station_at (gap_marked k p).stations k).session;
    }
session_alone_marked p k within =
    let is : station_at (gap_marked k p).stations k ≡ with_gap_mark (station_at p.stations k) =
    get_or-set_same p.stations k (with_gap_mark (station_at p.stations k)) no_station within in
    is
    ∙ sym (ap (λ (x : StationState). record (station_at p.stations k) { session = x.session }) is)

pub others_unmarked : (p : Primary) (k j : ℕ) → j ≢ k → station_at (gap_marked k p).stations j
    ≡ station_at p.stations j
others_unmarked p k j other =
    get_or-set_other p.stations k j (with_gap_mark (station_at p.stations k)) no_station other
