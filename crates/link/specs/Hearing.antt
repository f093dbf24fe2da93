-- What a primary station hears of an exchange, piece by piece.
use Rattle.std.specs.Prelude.{ℕ, List, [], ◌∷◌}
use Rattle.ft12.specs.declared.frame.Front.{Front}
use Rattle.link.specs.Primary.{Primary, received}

-- the primary after these pieces of octets, one after another
abbrev pub received_all : (front : List ℕ → Front) → Primary → List (List ℕ) → Primary
received_all front p [] = p
received_all front p (piece ∷ pieces) = received_all front (received front p piece) pieces
