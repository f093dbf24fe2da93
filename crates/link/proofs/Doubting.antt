-- A restart, behind which it isn't known of a station whether it was restarted, too.
use Rattle.std.proofs.Common.{◌≡◌, ℕ, zero, suc, List, [], ◌∷◌, length, map, refl, ap}
use Rattle.std.proofs.Common.{◌++◌, ◌∙◌, take, arith}
use Rattle.std.proofs.lemmas.List.{take-append-le, take_all}
use Rattle.link.specs.Procedure.{Link}
use Rattle.link.specs.Turns.{StationState, station_at}
use Rattle.std.proofs.Common.{◌<◌, ◌==◌, ◌&&◌, ◌||◌, Option, Some, None}
use Rattle.link.specs.Procedure.{holds_command}
use Rattle.link.specs.Primary.{Primary, Outstanding, is_sending_command}
use Rattle.link.specs.Leave.{is_polling, is_polling_by, holds_poll}
use Rattle.link.specs.Carried.{station_doubted, doubted, awaits_command}

-- what it doesn't change of the stations
pub doubted_view : {A : Type 0} (f : StationState → A)
    → ((s : StationState) → f (station_doubted s) ≡ f s) → (stations : List StationState) (i : ℕ)
    → f (station_at (map station_doubted stations) i) ≡ f (station_at stations i)
doubted_view {A} f same [] zero = refl
doubted_view {A} f same [] (suc i) = refl
doubted_view {A} f same (s ∷ ss) zero = same s
doubted_view {A} f same (s ∷ ss) (suc i) = doubted_view f same ss i

pub doubted_link : (stations : List StationState) (i : ℕ)
    → (station_at (map station_doubted stations) i).link ≡ (station_at stations i).link
doubted_link stations i = doubted_view (λ (s : StationState). s.link) (λ s. refl) stations i

pub doubted_count : (stations : List StationState)
    → length (map station_doubted stations) ≡ length stations
doubted_count [] = refl
doubted_count (s ∷ ss) = ap suc (doubted_count ss)

-- what stands at the front of a list
pub front_of_list : (count : ℕ) (front others : List StationState) → length front ≡ count
    → take count (front ++ others) ≡ front
front_of_list count front others is =
    take-append-le count front others (omega (arith, is)) ∙ take_all count front (omega (arith, is))

-- ---- what a restart leaves of a line

pub station_there : (stations : List StationState) (k : ℕ) → k < length stations
    → station_at (map station_doubted stations) k ≡ station_doubted (station_at stations k)
station_there [] k within = absurd (omega (arith, within))
station_there (s ∷ ss) zero within = refl
station_there (s ∷ ss) (suc k) within = station_there ss k (omega (arith, within))

pub still_awaits : (p : Primary) (k : ℕ) → awaits_command (doubted p) k ≡ awaits_command p k
still_awaits p k = ap (λ (l : Link). holds_command l
    || ((p.turn == k) && is_sending_command p.outstanding)) (doubted_link p.stations k)

pub still_polls : (p : Primary) → is_polling (doubted p) ≡ is_polling p
still_polls p = go p.outstanding
  where
    go : (o : Option Outstanding) → is_polling_by (doubted p) o ≡ is_polling_by p o
    go (Some o) = refl
    go None = ap (λ (l : Link). p.again && holds_poll l) (doubted_link p.stations p.turn)
