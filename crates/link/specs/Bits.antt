-- The frame count bit from one exchange with a station to the next (IEC 60870-5-2, 5.1.2: FCB and
-- FCV of a primary station).
use Rattle.std.specs.Prelude.{◌≡◌, ◌≢◌, ℕ, Bool, true, not, List, [], ◌∷◌, Option, Some, None}
use Rattle.link.specs.Answers.{Service, Asked, Status, Reset, Counted, Answer, Confirmed, Unable}
use Rattle.link.specs.Exchanges.{Exchange, answer_to}

-- A service has FCB 1 behind a reset that was confirmed, and the other bit behind a service that
-- was served. Behind one with no answer it is that service again, with its bit. None comes behind a
-- service that couldn't be served.
abbrev pub FollowsBy : Asked → Option Answer → (fcb : Bool) → Service → Type 0
FollowsBy Status answer fcb service = ⊥
FollowsBy Reset answer fcb service = (answer ≡ Some Confirmed) × (fcb ≡ true)
FollowsBy (Counted sent before) None fcb service = (fcb ≡ sent) × (service ≡ before)
FollowsBy (Counted sent before) (Some answer) fcb service = (answer ≢ Unable) × (fcb ≡ not sent)

-- the same of any request behind an exchange, if there was one
abbrev pub MayFollowBit : (station : ℕ) → Option Exchange → Asked → Type 0
MayFollowBit station latest Status = Unit {0}
MayFollowBit station latest Reset = Unit {0}
MayFollowBit station None (Counted fcb service) = ⊥
MayFollowBit station (Some x) (Counted fcb service) =
    FollowsBy x.request (answer_to station x) fcb service

-- A status changes no bit.
abbrev pub latest_of : Asked → Exchange → Option Exchange → Option Exchange
latest_of Status x latest = latest
latest_of Reset x latest = Some x
latest_of (Counted fcb service) x latest = Some x

-- Each exchange with the station is so behind the latest one before it that is no status.
abbrev pub BitsFollow : (station : ℕ) → (latest : Option Exchange) → List Exchange → Type 0
BitsFollow station latest [] = Unit {0}
BitsFollow station latest (x ∷ xs) =
    MayFollowBit station latest x.request
    × BitsFollow station (latest_of x.request x latest) xs
