-- No link is up after a start but that of a station which is as it was.
use Rattle.std.proofs.Common.{◌≡◌, ◌<◌, ◌==◌, ℕ, Bool, true, false, cond, get_or, length}
use Rattle.std.proofs.Common.{Option, Some, None, refl, sym, ap, ◌∙◌, arith}
use Rattle.std.specs.Prelude.{slice_get, option_and_then, ◌&&◌}
use Rattle.std.proofs.lemmas.Bool.{and_parts, eqb-true}
use Rattle.std.proofs.lemmas.List.Quantifiers.{position-Some}
use Rattle.std.proofs.lemmas.Option.{slice_get-get_or}
use Rattle.ft12.specs.Spelling.{address_len}
use Rattle.asdu.specs.Sizes.{cause_len, ca_len, ioa_len}
use Rattle.link.specs.Procedure.{is_up}
use Rattle.link.specs.declared.turn.StationState.{StationState}
use Rattle.link.specs.Turns.{station_at}
use Rattle.link.specs.Carried.{released, station_carried, station_given_up}
use Rattle.gateway.specs.declared.settings.LineSettings.{LineSettings}
use Rattle.gateway.specs.declared.settings.StationSettings.{StationSettings}
use Rattle.gateway.specs.declared.starting_links.LinkStart.{LinkStart}
use Rattle.gateway.specs.declared.starting_links.LinkStart.TheVariants as links
use Rattle.gateway.specs.Config.{Settings}
use Rattle.gateway.specs.State.{State}
use Rattle.gateway.specs.Starts.{have_same_sizes, are_alike, are_same, link_start}
use Rattle.gateway.specs.Carried.{place_of, station_with, start_of, station_started, carried}
use Rattle.gateway.specs.Carried.{station_new}
use Rattle.gateway.specs.Unchanged.{IsUnchanged, MayGoOn}

-- The table

alike : (a b : Bool) → are_alike a b ≡ true → a ≡ b
alike true true h = refl
alike true false h = cc
alike false true h = cc
alike false false h = refl

-- what a link that goes on shows of the table's row
record IsRow (holds same : Bool) (before now : Option StationSettings) : Type 0 where
  trusted : holds ≡ true
  sizes : same ≡ true
  was : StationSettings
  stood : before ≡ Some was
  is : StationSettings
  found : now ≡ Some is
  alike : are_same was is ≡ true

row_by : (was is : StationSettings) (b : Bool) → are_same was is ≡ b
    → cond b links.GoesOn links.Reset
    ≡ links.GoesOn
    → IsRow true true (Some was) (Some is)
row_by was is true e h =
    record {
      trusted = refl;
      sizes = refl;
      was = was;
      stood = refl;
      is = is;
      found = refl;
      alike =
          e;
    }
row_by was is false e h = absurd (other h)
  where
    other : links.Reset ≡ links.GoesOn → ⊥
    other x = cc

row : (holds same : Bool) (before now : Option StationSettings) → link_start holds same before now
    ≡ links.GoesOn
    → IsRow holds same before now
row holds same None now h = absurd (other h)
  where
    other : links.Down ≡ links.GoesOn → ⊥
    other x = cc
row holds same (Some was) None h = absurd (other h)
  where
    other : links.Dropped ≡ links.GoesOn → ⊥
    other x = cc
row false same (Some was) (Some is) h = absurd (other h)
  where
    other : links.ResetAfterGap ≡ links.GoesOn → ⊥
    other x = cc
row true false (Some was) (Some is) h = absurd (other h)
  where
    other : links.Reset ≡ links.GoesOn → ⊥
    other x = cc
row true true (Some was) (Some is) h = row_by was is (are_same was is) refl h

pub never_down : (holds same : Bool) (was : StationSettings) (now : Option StationSettings)
    → link_start holds same (Some was) now ≡ links.Down
    → ⊥
never_down holds same was None h = cc
never_down false same was (Some is) h = cc
never_down true false was (Some is) h = cc
never_down true true was (Some is) h = go (are_same was is) h
  where
    go : (b : Bool) → cond b links.GoesOn links.Reset ≡ links.Down → ⊥
    go true x = cc
    go false x = cc

sizes_same : (a b : LineSettings) → have_same_sizes a b ≡ true
    → (address_len a.link ≡ address_len b.link)
    × (cause_len a.sizes.cause ≡ cause_len b.sizes.cause) × (ca_len a.sizes.ca ≡ ca_len b.sizes.ca)
    × (ioa_len a.sizes.ioa ≡ ioa_len b.sizes.ioa)
sizes_same a b h =
    let first = and_parts (address_len a.link == address_len b.link) _ h in
    let second = and_parts (cause_len a.sizes.cause == cause_len b.sizes.cause) _ first.1 in
    let third = and_parts (ca_len a.sizes.ca == ca_len b.sizes.ca) _ second.1 in (
      eqb-true _ _ first.0,
      eqb-true _ _ second.0,
      eqb-true _ _ third.0,
      eqb-true _ _ third.1,
    )

-- the place of a station that stood there
pub unchanged : (goes_on : Bool) (before now : Settings) (k : ℕ) → start_of goes_on before now k
    ≡ links.GoesOn
    → (goes_on ≡ true) × IsUnchanged before now k
unchanged goes_on before now k h =
    let r = row goes_on (have_same_sizes before.line now.line) (slice_get before.stations k)
    (option_and_then (λ (s : StationSettings). station_with s.address now.stations)
    (slice_get before.stations k)) h in
    let sizes = sizes_same before.line now.line r.sizes in
    let parts = and_parts (r.was.ca == r.is.ca) (are_alike r.was.select r.is.select) r.alike in (
      r.trusted,
      record {
        was = r.was;
        stood = r.stood;
        is = r.is;
        found =
            sym
            (ap
            (λ (o : Option StationSettings). option_and_then
            (λ (s : StationSettings). station_with s.address
            now.stations) o) r.stood)
            ∙ r.found;
        ca = eqb-true r.was.ca r.is.ca parts.0;
        select = alike r.was.select r.is.select parts.1;
        link_size = sizes.0;
        cause_size = sizes.1;
        ca_size = sizes.2;
        ioa_size = sizes.3;
      },
    )

-- The link of a station that is given up is down

down_up : (address : ℕ) → is_up (station_new address).link ≡ true → ⊥
down_up address h = cc

up_start : (retries address : ℕ) (x : LinkStart) (s : StationState)
    → is_up (station_carried retries address (station_started x s)).link ≡ true
    → (x ≡ links.Down → ⊥) → x ≡ links.GoesOn
up_start retries address links.Down s h some = absurd (some refl)
up_start retries address links.GoesOn s h some = refl
up_start retries address links.Dropped s h some = cc
up_start retries address links.Reset s h some = cc
up_start retries address links.ResetAfterGap s h some = cc

-- what is known of stations, as `stations_go_on_by_their_addresses` says it
pub record AreKnown (goes_on : Bool) (before now : Settings) (s : State) : Type 0 where
  pub known : (i k : ℕ) (station : StationSettings) → slice_get now.stations i ≡ Some station
      → place_of station.address before.stations ≡ Some k → k < length s.serial.line.stations
      → station_at (carried goes_on before now s).serial.line.stations i
      ≡ station_carried now.line.retries station.address
      (station_started (start_of goes_on before now k) (station_at (released s.serial.line).stations
      k))
  pub other : (i : ℕ) (station : StationSettings) → slice_get now.stations i ≡ Some station
      → place_of station.address before.stations ≡ None
      → station_at (carried goes_on before now s).serial.line.stations i
      ≡ station_new station.address

pub up_means : (goes_on : Bool) (before now : Settings) (s : State) (i : ℕ)
    (station : StationSettings)
    → AreKnown goes_on before now s → length s.serial.line.stations ≡ length before.stations
    → slice_get now.stations i ≡ Some station
    → is_up (station_at (carried goes_on before now s).serial.line.stations i).link ≡ true
    → MayGoOn goes_on before now station.address
up_means goes_on before now s i station are count there up =
    go (place_of station.address before.stations) refl
  where
    up_is : (a : StationState) → station_at (carried goes_on before now s).serial.line.stations i
        ≡ a → is_up a.link ≡ true
    up_is a e = ap (λ (x : StationState). is_up x.link) (sym e) ∙ up

    at_place : (k : ℕ) (was : StationSettings) → place_of station.address before.stations ≡ Some k
        → slice_get before.stations k ≡ Some was → k < length s.serial.line.stations
        → MayGoOn goes_on before now station.address
    at_place k was place stood lt =
        let start = start_of goes_on before now k in
        let up_here = up_is (station_carried now.line.retries station.address
        (station_started start (station_at (released s.serial.line).stations k)))
        (are.known i k station there place lt) in
        let some : start ≡ links.Down → ⊥ =
        λ down. never_down goes_on (have_same_sizes before.line now.line) was
        (option_and_then (λ (x : StationSettings). station_with x.address now.stations)
        (slice_get before.stations k))
        (ap (λ (o : Option StationSettings). link_start goes_on
        (have_same_sizes before.line now.line) o
        (option_and_then (λ (x : StationSettings). station_with x.address now.stations)
        (slice_get before.stations k))) (sym stood)
        ∙ down) in
        let on = up_start now.line.retries station.address start
        (station_at (released s.serial.line).stations k) up_here some in
        let is = unchanged goes_on before now k on in
        record { trusted = is.0; place = k; known = place; unchanged = is.1 }

    go : (o : Option ℕ) → place_of station.address before.stations ≡ o
        → MayGoOn goes_on before now station.address
    go None place =
        absurd
        (down_up station.address
        (up_is (station_new station.address) (are.other i station there place)))
    go (Some k) place =
        let within =
        (position-Some (λ (x : StationSettings). x.address == station.address) before.stations k
        station
        place).0 in
        at_place k (get_or before.stations k station) place
        (slice_get-get_or before.stations k station within) (omega (arith, within, count))

-- And the link of each such station goes on
