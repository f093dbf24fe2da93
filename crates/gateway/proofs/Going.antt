-- What becomes of each station when a gateway goes on with other settings.
use Rattle.std.proofs.Common.{◌≡◌, ◌≢◌, ◌<◌, ◌≤◌, ℕ, zero, suc, Bool, List, length, Option, Some}
use Rattle.std.proofs.Common.{None, refl, sym, ap, subst, ◌∙◌, arith, inl, inr}
use Rattle.std.specs.Prelude.{◌⊎◌, slice_get, option_map, is_some, slice_set, if◌then◌else◌}
use Rattle.std.specs.Prelude.{true, false}
use Rattle.std.proofs.lemmas.Bool.{cases_eq}
use Rattle.std.proofs.lemmas.List.{get_or-set_same, get_or-set_other, length-set, length-map}
use Rattle.std.proofs.lemmas.Option.{slice_get-map, get_or_from_slice_get, slice_get_within}
use Rattle.link.specs.declared.settings.LinkSettings.{LinkSettings}
use Rattle.link.specs.Turns.{no_station, station_at}
use Rattle.link.specs.Primary.{Primary}
use Rattle.link.specs.declared.turn.StationState.{StationState}
use Rattle.link.specs.declared.seat.ResumedStation.{ResumedStation}
use Rattle.link.specs.Carried.{given_up, with_gap_mark, gap_marked, released, station_carried}
use Rattle.link.specs.Carried.{seated, reseated}
use Rattle.gateway.specs.declared.settings.StationSettings.{StationSettings}
use Rattle.gateway.specs.declared.starting_links.LinkStart.{LinkStart}
use Rattle.gateway.specs.declared.starting_links.LinkStart.TheVariants.{Down, Dropped}
use Rattle.gateway.specs.declared.starting_links.LinkStart.TheVariants.{ResetAfterGap, Reset}
use Rattle.gateway.specs.declared.starting_links.LinkStart.TheVariants.{GoesOn}
use Rattle.gateway.specs.Config.{Settings}
use Rattle.gateway.specs.Setups.{link_of}
use Rattle.gateway.specs.Serial.{Serial}
use Rattle.gateway.specs.State.{State}
use Rattle.gateway.specs.Carried.{place_of, start_of, link_started, links_started_upto}
use Rattle.gateway.specs.Carried.{links_started, seat_of, seats, station_started, carried}
use Rattle.gateway.specs.Carried.{station_new, seat_at, stations_marked, newcomers_marked}
use Rattle.gateway.proofs.Carrying.{IsForOne}

-- a station takes its seat, as `frame_count_bits_go_on` says it
abbrev pub SeatsStay : Type 0
SeatsStay = (settings : LinkSettings) (seats : List ResumedStation) (p : Primary) (i : ℕ)
    (seat : ResumedStation)
    → slice_get seats i ≡ Some seat → station_at (reseated settings seats p).stations i
    ≡ seated settings.retries seat.address p.stations seat.before

-- as many as there are seats, as `seats_have_their_addresses` says it
abbrev pub HaveSeats : Type 0
HaveSeats = (settings : LinkSettings) (seats : List ResumedStation) (p : Primary)
    → length (reseated settings seats p).stations ≡ length seats

-- those that are new are marked, and no other is
marked_length : (b : Bool) (n : ℕ) (marked : List StationState)
    → length (if b then marked else slice_set marked n (with_gap_mark (station_at marked n)))
    ≡ length marked
marked_length true n marked = refl
marked_length false n marked = length-set marked n (with_gap_mark (station_at marked n))

marked_before : (all : List ResumedStation) (n : ℕ) (stations : List StationState)
    → length (stations_marked all n stations) ≡ length stations
marked_before all zero stations = refl
marked_before all (suc n) stations =
    marked_length (is_some (seat_at all n).before) n (stations_marked all n stations)
    ∙ marked_before all n stations

-- what becomes of a station at this place
abbrev marked_at : List ResumedStation → ℕ → StationState → StationState
marked_at all i s = if is_some (seat_at all i).before then s else with_gap_mark s

marked_one : (b : Bool) (n j : ℕ) (marked : List StationState) → j ≢ n
    → station_at (if b then marked else slice_set marked n (with_gap_mark (station_at marked n)))
    j ≡ station_at marked j
marked_one true n j marked other = refl
marked_one false n j marked other =
    get_or-set_other marked n j (with_gap_mark (station_at marked n)) no_station other

marked_here : (b : Bool) (n : ℕ) (marked : List StationState) → n < length marked
    → station_at (if b then marked else slice_set marked n (with_gap_mark (station_at marked n)))
    n ≡ (if b then station_at marked n else with_gap_mark (station_at marked n))
marked_here true n marked within = refl
marked_here false n marked within =
    get_or-set_same marked n (with_gap_mark (station_at marked n)) no_station within

marked_later : (all : List ResumedStation) (n j : ℕ) (stations : List StationState) → n ≤ j
    → station_at (stations_marked all n stations) j ≡ station_at stations j
marked_later all zero j stations le = refl
marked_later all (suc n) j stations le =
    marked_one (is_some (seat_at all n).before) n j (stations_marked all n stations)
    (omega arith) ∙ marked_later all n j stations (omega arith)

marked_upto : (all : List ResumedStation) (n j : ℕ) (stations : List StationState)
    → n ≤ length stations → j < n
    → station_at (stations_marked all n stations) j
    ≡ marked_at all j (station_at stations j)
marked_upto all zero j stations most lt = absurd (omega (arith, lt))
marked_upto all (suc n) j stations most lt =
    go (λ less. marked_upto all n j stations (omega arith) less) (cases_eq j n)
  where
    go : (j < n → station_at (stations_marked all n stations) j
        ≡ marked_at all j (station_at stations j))
        → (j ≡ n) ⊎ (j ≡ n → ⊥)
        → station_at (stations_marked all (suc n) stations) j
        ≡ marked_at all j (station_at stations j)
    go earlier (inl here) =
        let there : n < length (stations_marked all n stations) =
        omega (arith, marked_before all n stations, most) in
        subst
        (λ (i : ℕ). station_at (stations_marked all (suc n) stations) i
        ≡ marked_at all i (station_at stations i))
        (sym here)
        (marked_here (is_some (seat_at all n).before) n (stations_marked all n stations)
        there
        ∙ ap (marked_at all n) (marked_later all n n stations (omega arith)))
    go earlier (inr other) =
        marked_one (is_some (seat_at all n).before) n j (stations_marked all n stations)
        other
        ∙ earlier (omega (arith, lt, other))

-- by the place that the station had before
seat_is : (all : List ResumedStation) (i : ℕ) (seat : ResumedStation)
    → slice_get all i ≡ Some seat → (seat_at all i ≡ seat) × (i < length all)
seat_is all i seat there = (
  get_or_from_slice_get all i seat (record { address = 0; before = None }) there,
  slice_get_within all i seat there,
)

-- each station has one
pub stations_carried : (before now : Settings) (p : Primary)
    → length (newcomers_marked (seats before now)
    (reseated (link_of now.line) (seats before now) p)).stations ≡ length now.stations
stations_carried before now p =
    let all = seats before now in
    let stations = (reseated (link_of now.line) all p).stations in
    marked_before all (length all) stations
    ∙ length-map all (λ (s : ResumedStation). seated now.line.retries s.address p.stations s.before)
    ∙ length-map now.stations (seat_of before.stations)

module _ (law : IsForOne) where
  marked_number : (k : ℕ) (p : Primary) → length (gap_marked k p).stations ≡ length p.stations
  marked_number k p = length-set p.stations k (with_gap_mark (station_at p.stations k))

  one_number : (x : LinkStart) (k : ℕ) (s : Serial) → length (link_started x k s).line.stations
      ≡ length s.line.stations
  one_number Down k s = refl
  one_number GoesOn k s = refl
  one_number Dropped k s = law.number s.line k
  one_number Reset k s = law.number s.line k
  one_number ResetAfterGap k s = marked_number k (given_up k s.line) ∙ law.number s.line k

  one_other : (x : LinkStart) (k j : ℕ) (s : Serial) → j ≢ k
      → station_at (link_started x k s).line.stations j ≡ station_at s.line.stations j
  one_other Down k j s other = refl
  one_other GoesOn k j s other = refl
  one_other Dropped k j s other = law.others s.line k j other
  one_other Reset k j s other = law.others s.line k j other
  one_other ResetAfterGap k j s other =
      get_or-set_other (given_up k s.line).stations k j
      (with_gap_mark (station_at (given_up k s.line).stations k))
      no_station other ∙ law.others s.line k j other

  one_itself : (x : LinkStart) (k : ℕ) (s : Serial) → k < length s.line.stations
      → station_at (link_started x k s).line.stations k
      ≡ station_started x (station_at s.line.stations k)
  one_itself Down k s within = refl
  one_itself GoesOn k s within = refl
  one_itself Dropped k s within = law.itself s.line k within
  one_itself Reset k s within = law.itself s.line k within
  one_itself ResetAfterGap k s within =
      let there : k < length (given_up k s.line).stations =
      omega (arith, law.number s.line k, within) in
      get_or-set_same (given_up k s.line).stations k
      (with_gap_mark (station_at (given_up k s.line).stations k))
      no_station there ∙ ap with_gap_mark (law.itself s.line k within)

  module _ (goes_on : Bool) (before now : Settings) where
    number : (n : ℕ) (s : Serial) → length (links_started_upto goes_on before now n s).line.stations
        ≡ length s.line.stations
    number zero s = refl
    number (suc n) s = one_number (start_of goes_on before now n) n
        (links_started_upto goes_on before now n s)
        ∙ number n s

    later : (n j : ℕ) (s : Serial) → n ≤ j
        → station_at (links_started_upto goes_on before now n s).line.stations j
        ≡ station_at s.line.stations j
    later zero j s le = refl
    later (suc n) j s le =
        let other : j ≢ n = omega arith in
        one_other (start_of goes_on before now n) n j (links_started_upto goes_on before now n s)
        other
        ∙ later n j s (omega arith)

    upto : (n j : ℕ) (s : Serial) → n ≤ length s.line.stations → j < n
        → station_at (links_started_upto goes_on before now n s).line.stations j
        ≡ station_started (start_of goes_on before now j) (station_at s.line.stations j)
    upto zero j s most lt = absurd (omega (arith, lt))
    upto (suc n) j s most lt = go (λ less. upto n j s (omega arith) less) (cases_eq j n)
      where
        go : (j < n → station_at (links_started_upto goes_on before now n s).line.stations j
            ≡ station_started (start_of goes_on before now j) (station_at s.line.stations j))
            → (j ≡ n) ⊎ (j ≡ n → ⊥)
            → station_at (links_started_upto goes_on before now (suc n) s).line.stations j
            ≡ station_started (start_of goes_on before now j) (station_at s.line.stations j)
        go earlier (inl here) =
            let t : Serial = links_started_upto goes_on before now n s in
            let there : n < length t.line.stations = omega (arith, number n s, most) in
            subst
            (λ (i : ℕ). station_at (links_started_upto goes_on before now (suc n) s).line.stations i
            ≡ station_started (start_of goes_on before now i) (station_at s.line.stations i))
            (sym here)
            (one_itself (start_of goes_on before now n) n t there
            ∙ ap (station_started (start_of goes_on before now n)) (later n n s (omega arith)))
        go earlier (inr other) =
            one_other (start_of goes_on before now n) n j (links_started_upto goes_on before now n
            s) other
            ∙ earlier (omega (arith, lt, other))

    started : (k : ℕ) (s : Serial) → length (released s.line).stations ≡ length s.line.stations
        → k < length s.line.stations → station_at (links_started goes_on before now s).line.stations
        k
        ≡ station_started (start_of goes_on before now k) (station_at (released s.line).stations k)
    started k s same lt = upto (length s.line.stations) k (record s { line = released s.line })
        (omega (arith, same)) lt

    seat_there : (i : ℕ) (station : StationSettings) → slice_get now.stations i ≡ Some station
        → slice_get (seats before now) i ≡ Some (seat_of before.stations station)
    seat_there i station there =
        slice_get-map (seat_of before.stations) now.stations i
        ∙ ap (λ (o : Option StationSettings). option_map (seat_of before.stations) o) there

    placed : SeatsStay → (p : Primary) (i : ℕ) (seat : ResumedStation)
        → length (reseated (link_of now.line) (seats before now) p).stations
        ≡ length (seats before now)
        → slice_get (seats before now) i ≡ Some seat
        → station_at (newcomers_marked (seats before now)
        (reseated (link_of now.line) (seats before now) p)).stations i
        ≡ (if is_some seat.before then seated now.line.retries seat.address p.stations seat.before
        else with_gap_mark (seated now.line.retries seat.address p.stations seat.before))
    placed stay p i seat number there =
        let all = seats before now in
        let is = seat_is all i seat there in
        let q = reseated (link_of now.line) all p in
        let mark : StationState → StationState =
        λ s. if is_some seat.before then s else with_gap_mark s in
        marked_upto all (length all) i q.stations (omega (arith, number)) is.1
        ∙ ap (λ (x : ResumedStation). if is_some x.before then station_at q.stations i
        else with_gap_mark (station_at q.stations i)) is.0
        ∙ ap mark (stay (link_of now.line) all p i seat there)

    pub known : SeatsStay → HaveSeats → ((p : Primary) → length (released p).stations
        ≡ length p.stations)
        → (s : State) (i k : ℕ) (station : StationSettings) → slice_get now.stations i
        ≡ Some station
        → place_of station.address before.stations ≡ Some k → k < length s.serial.line.stations
        → station_at (carried goes_on before now s).serial.line.stations i
        ≡ station_carried now.line.retries station.address
        (station_started (start_of goes_on before now k)
        (station_at (released s.serial.line).stations k))
    known stay number same s i k station there place lt =
        let t : Serial = links_started goes_on before now s.serial in
        let f : Option ℕ → StationState = λ o. (
        let x = seated now.line.retries station.address t.line.stations o in
        if is_some o then x else with_gap_mark x
        ) in
        placed stay t.line i (seat_of before.stations station)
        (number (link_of now.line) (seats before now) t.line) (seat_there i station there)
        ∙ ap f place
        ∙ ap (station_carried now.line.retries station.address)
        (started k s.serial (same s.serial.line) lt)

    pub other : SeatsStay → HaveSeats → (s : State) (i : ℕ) (station : StationSettings)
        → slice_get now.stations i
        ≡ Some station
        → place_of station.address before.stations ≡ None
        → station_at (carried goes_on before now s).serial.line.stations i
        ≡ station_new station.address
    other stay number s i station there place =
        let t : Serial = links_started goes_on before now s.serial in
        let f : Option ℕ → StationState = λ o. (
        let x = seated now.line.retries station.address t.line.stations o in
        if is_some o then x else with_gap_mark x
        ) in
        placed stay t.line i (seat_of before.stations station)
        (number (link_of now.line) (seats before now) t.line) (seat_there i station there)
        ∙ ap f place
