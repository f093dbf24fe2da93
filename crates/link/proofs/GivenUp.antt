-- The link to a station is given up: the others stay as they were.
use Rattle.std.proofs.Common.{◌≡◌, ◌≢◌, ◌<◌, ◌==◌, ◌&&◌, ◌||◌, ℕ, Bool, true, false, length}
use Rattle.std.proofs.Common.{slice_set, Option, Some, None, refl, sym, ap, ◌∙◌, if◌then◌else◌, ◌+◌}
use Rattle.std.proofs.Common.{List, [], ◌∷◌, ◌++◌, map, take, get_or, eq-eqb}
use Rattle.std.proofs.lemmas.List.{get_or-set_same, get_or-set_other, length-set, map-append}
use Rattle.std.proofs.lemmas.List.{take_more}
use Rattle.std.proofs.lemmas.Bool.{eqb-true, eqb-false}
use Rattle.link.specs.Answers.{Command, Asked, Counted}
use Rattle.link.specs.Procedure.{Link, Held, holds_command}
use Rattle.link.specs.Turns.{StationState, station_at, no_station, Over}
use Rattle.link.specs.Primary.{Primary, Outstanding, is_command, is_sending_command}
use Rattle.link.specs.Leave.{is_polling, is_polling_by, holds_poll}
use Rattle.link.specs.Carried.{awaits_command, station_given_up, given_up}
use Rattle.link.specs.Procedure.{Silence}

pub itself : (p : Primary) (k : ℕ) → k < length p.stations
    → station_at (given_up k p).stations k ≡ station_given_up (station_at p.stations k)
itself p k within =
    get_or-set_same p.stations k (station_given_up (station_at p.stations k)) no_station within

pub others : (p : Primary) (k j : ℕ) → j ≢ k → station_at (given_up k p).stations j
    ≡ station_at p.stations j
others p k j other =
    get_or-set_other p.stations k j (station_given_up (station_at p.stations k)) no_station other

pub number : (p : Primary) (k : ℕ) → length (given_up k p).stations ≡ length p.stations
number p k = length-set p.stations k (station_given_up (station_at p.stations k))

-- if it was this station's turn, nothing is outstanding any more
sends : (b : Bool) (o : Option Outstanding)
    → b && is_sending_command (if b then None else o) ≡ false
sends true o = refl
sends false o = refl

pub done : (p : Primary) (k : ℕ) → k < length p.stations → awaits_command (given_up k p) k ≡ false
done p k within =
    ap (λ (s : StationState). holds_command s.link
    || ((p.turn == k) && is_sending_command (given_up k p).outstanding))
    (itself p k within)
    ∙ sends (p.turn == k) p.outstanding

abbrev awaits_by : (there turn : Bool) → Option Outstanding → Bool
awaits_by there turn o = there || (turn && is_sending_command o)

pub awaited : (p : Primary) (k j : ℕ) → j ≢ k → awaits_command (given_up k p) j ≡ awaits_command p j
awaited p k j other =
    ap (λ (s : StationState). awaits_by (holds_command s.link) (p.turn == j)
    (given_up k p).outstanding)
    (others p k j other)
    ∙ go (p.turn == k) (p.turn == j) refl refl
  where
    go : (b d : Bool) → (p.turn == k) ≡ b → (p.turn == j) ≡ d
        → awaits_by (holds_command (station_at p.stations j).link) d (if b then None
        else p.outstanding)
        ≡ awaits_by (holds_command (station_at p.stations j).link) d p.outstanding
    go false d here there = refl
    go true false here there = refl
    go true true here there =
        absurd (other (sym (eqb-true p.turn j there) ∙ eqb-true p.turn k here))

pub held : (p : Primary) (k : ℕ) (fcb : Bool) (asdu : List ℕ) (missed : Silence)
    → (station_at p.stations k).link ≡ Held fcb (Command asdu) missed → awaits_command p k ≡ true
held p k fcb asdu missed is =
    ap (λ (l : Link). awaits_by (holds_command l) (p.turn == k) p.outstanding) is

pub out : (p : Primary) (o : Outstanding) (fcb : Bool) (asdu : List ℕ)
    → p.outstanding ≡ Some o → o.request ≡ Counted fcb (Command asdu)
    → awaits_command p p.turn ≡ true
out p o fcb asdu is command =
    ap (λ (b : Bool). awaits_by there b p.outstanding) (eq-eqb p.turn p.turn refl)
    ∙ ap (awaits_by there true) is
    ∙ ap (λ (r : Asked). there || is_command r) command
    ∙ go there
  where
    there : Bool
    there = holds_command (station_at p.stations p.turn).link

    go : (b : Bool) → (b || true) ≡ true
    go true = refl
    go false = refl

pub polls : (p : Primary) (k : ℕ) → is_polling (given_up k p) ≡ true → is_polling p ≡ true
polls p k = go (p.turn == k) p.outstanding refl
  where
    go : (b : Bool) (o : Option Outstanding) → (p.turn == k) ≡ b
        → is_polling_by (record p {
          stations = slice_set p.stations k (station_given_up (station_at p.stations k));
          phase = if b then Over else p.phase;
          again = if b then false else p.again;
          outstanding = if b then None else o;
        }) (if b then None else o) ≡ true
        → is_polling_by p o ≡ true
    go true o here polling = cc
    go false (Some o) here polling = polling
    go false None here polling =
        sym (ap (λ (s : StationState). p.again && holds_poll s.link)
        (others p k p.turn (eqb-false p.turn k here)))
        ∙ polling

-- one more of a list that is mapped
pub one_more : {X Y : Type 0} (f : X → Y) (xs : List X) (i : ℕ) (d : X) (ys : List Y) (y : Y)
    → i < length xs
    → ys ≡ map f (take i xs) → y ≡ f (get_or xs i d) → ys ++ y ∷ [] ≡ map f (take (i + 1) xs)
one_more f xs i d ys y within before is =
    ap (λ zs. zs ++ y ∷ []) before ∙ ap (λ z. map f (take i xs) ++ z ∷ []) is
    ∙ sym (map-append f (take i xs) (get_or xs i d ∷ []))
    ∙ ap (map f) (sym (take_more xs i d within))
