-- What a gateway finds in octets that came.
use Rattle.std.specs.Prelude.{◌≡◌, ℕ, ◌<◌, ◌≤◌, List, [], ◌++◌, length, drop, Some, None}
use Rattle.apci.specs.declared.apdu.Apdu.{Apdu}
use Rattle.apci.specs.Spelling.{spelling, Fits}
use Rattle.apci.specs.Reading.{IsMore}
use Rattle.gateway.specs.Streams.{IsRefused}
use Rattle.gateway.specs.declared.engine.Arrival.{Arrival}
use Rattle.gateway.specs.declared.engine.Arrival.TheVariants.{Whole, More, Refused}
use Rattle.gateway.specs.Centre.{Centre}

-- a frame stands at the front of the octets of one so far and a piece, and ends with n of the piece
abbrev pub StandsFirst : (so_far piece : List ℕ) → Apdu → ℕ → Type 0
StandsFirst so_far piece f n = Fits f × (so_far ++ piece ≡ spelling f ++ drop n piece)
    × (0 < n) × (n ≤ length piece)

abbrev pub FindsAfter : List ℕ → Centre → List ℕ → Arrival → Centre → Type 0
FindsAfter so_far s piece (Whole n) t = (f : Apdu) × StandsFirst so_far piece f n
    × (t ≡ record s { so_far = Some []; arrived = Some f })
FindsAfter so_far s piece More t = IsMore (so_far ++ piece)
    × (t ≡ record s { so_far = Some (so_far ++ piece); arrived = None })
FindsAfter so_far s piece Refused t = IsRefused (so_far ++ piece)
    × (t ≡ record s { so_far = Some []; arrived = None })

-- what stands at the front of the octets of a frame so far and those that came
abbrev pub Finds : Centre → List ℕ → Arrival → Centre → Type 0
Finds s piece found t = (so_far : List ℕ) × (s.so_far ≡ Some so_far)
    × FindsAfter so_far s piece found t

-- a frame stands at the front of octets that came, and nothing is left of those before
abbrev pub FindsWhole : Centre → List ℕ → Apdu → ℕ → Type 0
FindsWhole s piece f n = StandsFirst [] piece f n × (s.so_far ≡ Some []) × (s.arrived ≡ None)
