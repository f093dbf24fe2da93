-- A station that goes on keeps its frame count bit, and its seat.
use Rattle.std.proofs.Common.{◌≡◌, ◌≢◌, ◌<◌, ℕ, List, map, length, Bool, false, Option, Some, None}
use Rattle.std.proofs.Common.{refl, sym, ap, subst, ◌∙◌}
use Rattle.std.specs.Prelude.{◌⊎◌, slice_get, option_map}
use Rattle.std.proofs.Common.{inl, inr}
use Rattle.std.proofs.lemmas.List.{get_or-set_same, get_or-set_other, length-set, length-map}
use Rattle.std.proofs.lemmas.Option.{slice_get-map, get_or_from_slice_get}
use Rattle.std.proofs.lemmas.Bool.{cases_eq}
use Rattle.link.specs.Answers.{Asked, Status, Reset, Counted}
use Rattle.link.specs.Procedure.{LinkSettings, Link, Down, Available, Next, Held, MaySend}
use Rattle.link.specs.Procedure.{after_silence}
use Rattle.link.specs.Turns.{StationState, no_station, station_at}
use Rattle.link.specs.Primary.{Primary, Outstanding, station_down}
use Rattle.link.specs.Matching.{IsAllowed}
use Rattle.link.specs.declared.seat.ResumedStation.{ResumedStation}
use Rattle.link.specs.Carried.{station_left, released_from, released, station_carried, seated}
use Rattle.link.specs.Carried.{reseated, bit_of, service_of}
use Rattle.link.specs.Answers.{Service}
use Rattle.link.proofs.Links.{set_view}

-- a request that may be sent leaves the bit as it is if it has no answer
bit_left : (settings : LinkSettings) (request : Asked) (link : Link) → MaySend link request
    → bit_of (after_silence settings request false link) ≡ bit_of link
bit_left settings Status Down may = refl
bit_left settings Status Available may = refl
bit_left settings Status (Next fcb) may = absurd may
bit_left settings Status (Held fcb service missed) may = refl
bit_left settings Reset Down may = absurd may
bit_left settings Reset Available may = refl
bit_left settings Reset (Next fcb) may = absurd may
bit_left settings Reset (Held fcb service missed) may = absurd may
bit_left settings (Counted sent again) Down may = absurd may
bit_left settings (Counted sent again) Available may = absurd may
bit_left settings (Counted sent again) (Next fcb) may = ap (λ (b : Bool). Some b) may
bit_left settings (Counted sent again) (Held fcb service missed) may =
    ap (λ (b : Bool). Some b) may.0

pub bits_released : (p : Primary) (k : ℕ) → p.turn < length p.stations
    → IsAllowed p.stations p.turn p.outstanding
    → bit_of (station_at (released p).stations k).link ≡ bit_of (station_at p.stations k).link
bits_released p k within allowed = go p.outstanding allowed (cases_eq k p.turn)
  where
    go : (o : Option Outstanding) → IsAllowed p.stations p.turn o → (k ≡ p.turn) ⊎ (k ≡ p.turn → ⊥)
        → bit_of (station_at (released_from p o).stations k).link
        ≡ bit_of (station_at p.stations k).link
    go None allowed place = refl
    go (Some o) allowed (inl here) =
        subst (λ (j : ℕ). bit_of (station_at (released_from p (Some o)).stations j).link
        ≡ bit_of (station_at p.stations j).link) (sym here)
        (ap (λ (s : StationState). bit_of s.link) (get_or-set_same p.stations p.turn
        (station_left p.settings (station_at p.stations p.turn) o.request) no_station within)
        ∙ bit_left p.settings o.request (station_at p.stations p.turn).link allowed)
    go (Some o) allowed (inr other) =
        ap (λ (s : StationState). bit_of s.link) (get_or-set_other p.stations p.turn k
        (station_left p.settings (station_at p.stations p.turn) o.request) no_station other)

pub bits_carried : (retries address : ℕ) (s : StationState)
    → bit_of (station_carried retries address s).link ≡ bit_of s.link
bits_carried retries address s = go s.link
  where
    go : (link : Link) → bit_of (station_carried retries address (record s { link = link })).link
        ≡ bit_of link
    go Down = refl
    go Available = refl
    go (Next fcb) = refl
    go (Held fcb service missed) = refl

pub seats_stay : (settings : LinkSettings) (seats : List ResumedStation) (p : Primary) (i : ℕ)
    (seat : ResumedStation)
    → slice_get seats i ≡ Some seat → station_at (reseated settings seats p).stations i
    ≡ seated settings.retries seat.address p.stations seat.before
seats_stay settings seats p i seat there =
    let f : ResumedStation → StationState = λ s. seated settings.retries s.address p.stations
    s.before in
    get_or_from_slice_get (map f seats) i (f seat) no_station
    (slice_get-map f seats i ∙ ap (λ (o : Option ResumedStation). option_map f o) there)

pub number : (p : Primary) → length (released p).stations ≡ length p.stations
number p = go p.outstanding
  where
    go : (o : Option Outstanding) → length (released_from p o).stations ≡ length p.stations
    go None = refl
    go (Some o) =
        length-set p.stations p.turn (station_left p.settings (station_at p.stations p.turn)
        o.request)

pub service_carried : (retries address : ℕ) (s : StationState)
    → service_of (station_carried retries address s).link ≡ service_of s.link
service_carried retries address s = go s.link
  where
    go : (link : Link)
        → service_of (station_carried retries address (record s { link = link })).link
        ≡ service_of link
    go Down = refl
    go Available = refl
    go (Next fcb) = refl
    go (Held fcb service missed) = refl

pub broken_off : (p : Primary) (o : Outstanding) (fcb : Bool) (service : Service)
    → p.turn < length p.stations → p.outstanding ≡ Some o → o.request ≡ Counted fcb service
    → service_of (station_at (released p).stations p.turn).link ≡ Some (Counted fcb service)
broken_off p o fcb service within out is =
    ap
    (λ (x : Option Outstanding). service_of (station_at (released_from p x).stations p.turn).link)
    out
    ∙ ap (λ (s : StationState). service_of s.link) (get_or-set_same p.stations p.turn
    (station_left p.settings (station_at p.stations p.turn) o.request) no_station within)
    ∙ ap (λ (r : Asked). service_of (after_silence p.settings r false
    (station_at p.stations p.turn).link)) is

pub flags_released : (p : Primary) (k : ℕ)
    → ((station_at (released p).stations k).acd ≡ (station_at p.stations k).acd)
    × ((station_at (released p).stations k).dfc ≡ (station_at p.stations k).dfc)
flags_released p k = go p.outstanding
  where
    go : (o : Option Outstanding)
        → ((station_at (released_from p o).stations k).acd ≡ (station_at p.stations k).acd)
        × ((station_at (released_from p o).stations k).dfc ≡ (station_at p.stations k).dfc)
    go None = (refl, refl)
    go (Some o) = (
      set_view (λ (s : StationState). s.acd) p.stations p.turn
          (station_left p.settings (station_at p.stations p.turn) o.request) refl k,
      set_view (λ (s : StationState). s.dfc) p.stations p.turn
          (station_left p.settings (station_at p.stations p.turn) o.request) refl k,
    )

pub seats_number : (settings : LinkSettings) (seats : List ResumedStation) (p : Primary)
    → length (reseated settings seats p).stations ≡ length seats
seats_number settings seats p =
    length-map seats (λ (s : ResumedStation). seated settings.retries s.address p.stations s.before)

seated_address : (retries address : ℕ) (stations : List StationState) (before : Option ℕ)
    → (seated retries address stations before).address ≡ address
seated_address retries address stations None = refl
seated_address retries address stations (Some k) = refl

pub seats_address : (settings : LinkSettings) (seats : List ResumedStation) (p : Primary) (i : ℕ)
    (seat : ResumedStation) → slice_get seats i ≡ Some seat
    → (station_at (reseated settings seats p).stations i).address ≡ seat.address
seats_address settings seats p i seat there =
    ap (λ (s : StationState). s.address) (seats_stay settings seats p i seat there)
    ∙ seated_address settings.retries seat.address p.stations seat.before

pub seats_new : (settings : LinkSettings) (seats : List ResumedStation) (p : Primary) (i : ℕ)
    (seat : ResumedStation) → slice_get seats i ≡ Some seat → seat.before ≡ None
    → station_at (reseated settings seats p).stations i ≡ station_down seat.address
seats_new settings seats p i seat there new =
    seats_stay settings seats p i seat there
    ∙ ap (λ (b : Option ℕ). seated settings.retries seat.address p.stations b) new
