-- The stations of a line that goes on with other settings.
use Rattle.std.proofs.Common.{◌≡◌, ◌<◌, ◌+◌, ◌++◌, ◌∙◌, ℕ, List, [], ◌∷◌, map, take, get_or, length}
use Rattle.std.proofs.Common.{sym, ap, arith}
use Rattle.std.proofs.lemmas.List.{map-append, take_more}
use Rattle.std.specs.List.{All, AllByRecursion}
use Rattle.std.proofs.lemmas.List.Elements.{All-cons, All-nil}
use Rattle.ft12.specs.declared.frame.LinkSize.{LinkSize}
use Rattle.asdu.specs.declared.sizes.CaSize.{CaSize}
use Rattle.link.specs.Requests.{FitsAddress}
use Rattle.link.specs.declared.seat.ResumedStation.{ResumedStation}
use Rattle.gateway.specs.declared.settings.StationSettings.{StationSettings}
use Rattle.gateway.specs.Config.{IsStation}
use Rattle.gateway.specs.Carried.{seat_of}

-- their addresses fit the line
pub seats_fit : (link : LinkSize) (ca : CaSize) (before stations : List StationSettings)
    → AllByRecursion (IsStation link ca) stations
    → All (λ (s : ResumedStation). FitsAddress link s.address) (map (seat_of before) stations)
seats_fit link ca before [] h = All-nil (λ (s : ResumedStation). FitsAddress link s.address)
seats_fit link ca before (s ∷ stations) h =
    All-cons (λ (s : ResumedStation). FitsAddress link s.address) (seat_of before s)
    (map (seat_of before) stations)
    (omega (arith, h.0.address.1)) (seats_fit link ca before stations h.1)

-- one more of a list that is mapped
pub one_more : {X Y : Type 0} (f : X → Y) (xs : List X) (i : ℕ) (d : X) (ys : List Y) (y : Y)
    → i < length xs
    → ys ≡ map f (take i xs) → y ≡ f (get_or xs i d) → ys ++ y ∷ [] ≡ map f (take (i + 1) xs)
one_more f xs i d ys y within before is =
    ap (λ zs. zs ++ y ∷ []) before ∙ ap (λ z. map f (take i xs) ++ z ∷ []) is
    ∙ sym (map-append f (take i xs) (get_or xs i d ∷ []))
    ∙ ap (map f) (sym (take_more xs i d within))
