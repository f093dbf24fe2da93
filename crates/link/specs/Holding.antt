-- What a `Master` holds, as the machine's state, and what fits the line.
use Rattle.std.specs.Prelude.{ℕ, ◌≡◌, ◌<◌, ◌==◌, ◌||◌, Bool, true, false, not, List, [], ◌∷◌, All}
use Rattle.std.specs.Prelude.{length, take, ◌++◌, Option, Some, None, option_map, if◌then◌else◌}
use Rattle.ft12.specs.declared.frame.LinkSize.{LinkSize}
use Rattle.ft12.specs.declared.frame.Frame.{Frame}
use Rattle.ft12.specs.declared.frame.Front.{Front}
use Rattle.link.specs.Exchanges.{whole_of}
use Rattle.link.specs.Procedure.{Link, Held}
use Rattle.link.specs.Requests.{FitsAddress, FitsService, FitsAsked}
use Rattle.link.specs.Turns.{StationState, Chosen, station_at}
use Rattle.link.specs.Primary.{Outstanding, Primary, open_octets, with_octets}
pub use Rattle.link.specs.declared.awaited.Awaited.{Awaited}

-- octets come in the exchange
abbrev pub awaited_with : List ℕ → Awaited → Awaited
awaited_with octets a =
    record {
      request = a.request;
      since = a.since;
      deaf = a.deaf;
      has_octets = a.has_octets || not (length octets == 0);
    }

-- the outstanding request, with what the assembler has of its answer
abbrev pub outstanding_of : Awaited → (so_far : Option (List ℕ)) → Outstanding
outstanding_of a so_far = record {
  request = a.request;
  since = a.since;
  arrived = if a.deaf then None else so_far;
  has_octets = a.has_octets;
}

abbrev pub outstanding_from : Option Awaited → (so_far : Option (List ℕ)) → Option Outstanding
outstanding_from None so_far = None
outstanding_from (Some a) so_far = Some (outstanding_of a so_far)

-- what an assembler with these octets so far makes of a piece: the frame that it completes, if it
-- does, and the octets so far
abbrev pub frame_after : (front : List ℕ → Front) → (so_far : Option (List ℕ)) → List ℕ →
    Option Frame
frame_after front None piece = None
frame_after front (Some before) piece = whole_of (front (before ++ piece))

abbrev pub so_far_after : (front : List ℕ → Front) → (so_far : Option (List ℕ)) → List ℕ →
    Option (List ℕ)
so_far_after front None piece = None
so_far_after front (Some before) piece = open_octets (before ++ piece) (front (before ++ piece))

-- one more octet may complete a frame
abbrev pub MayEnd : (front : List ℕ → Front) → (so_far : Option (List ℕ)) → Type 0
MayEnd front so_far =
    (last : ℕ) × (frame : Frame) × (frame_after front so_far (last ∷ []) ≡ Some frame)

-- no octet has come
abbrev pub is_fresh : (so_far : Option (List ℕ)) → Bool
is_fresh None = false
is_fresh (Some []) = true
is_fresh (Some (octet ∷ octets)) = false

-- a request is outstanding, and nothing of its answer has come
abbrev pub is_at_front_of : Option Outstanding → Bool
is_at_front_of None = false
is_at_front_of (Some o) = is_fresh o.arrived

abbrev pub is_at_front : Primary → Bool
is_at_front p = is_at_front_of p.outstanding

-- octets come in the exchange
abbrev pub noted : List ℕ → Primary → Primary
noted octets p = record p { outstanding = option_map (with_octets octets) p.outstanding }

-- the frame at the front of the exchange that octets complete, if they do
abbrev pub completed_from : (front : List ℕ → Front) → Option Outstanding → List ℕ → Option Frame
completed_from front None octets = None
completed_from front (Some o) octets = frame_after front o.arrived octets

abbrev pub completed : (front : List ℕ → Front) → Primary → List ℕ → Option Frame
completed front p octets = completed_from front p.outstanding octets

-- one more octet may be the last of the answer
abbrev pub MayComplete : (front : List ℕ → Front) → Primary → Type 0
MayComplete front p = (last : ℕ) × (frame : Frame) × (completed front p (last ∷ []) ≡ Some frame)

-- the first n of these octets came in the exchange, and more of them
abbrev pub gathered_in : (n : ℕ) → List ℕ → Outstanding → Outstanding
gathered_in n octets o = record {
  request = o.request;
  since = o.since;
  arrived = option_map (λ before. before ++ take n octets) o.arrived;
  has_octets = o.has_octets || not (length octets == 0);
}

abbrev pub gathered : (n : ℕ) → List ℕ → Primary → Primary
gathered n octets p = record p { outstanding = option_map (gathered_in n octets) p.outstanding }

abbrev pub FitsLink : LinkSize → Link → Type 0
FitsLink size (Held fcb service silence) = FitsService size service
FitsLink size link = Unit {0}

-- The station's address and the command that it holds fit the line.
pub record FitsStation (size : LinkSize) (s : StationState) : Type 0 where
  pub address : FitsAddress size s.address
  pub link : FitsLink size s.link

abbrev pub FitsOutstanding : LinkSize → Option Outstanding → Type 0
FitsOutstanding size None = Unit {0}
FitsOutstanding size (Some o) = FitsAsked size o.request

-- One of the stations has its turn, and all that is held fits the line.
pub record IsFitting (p : Primary) : Type 0 where
  pub turn : p.turn < length p.stations
  pub stations : All (FitsStation p.settings.size) p.stations
  pub outstanding : FitsOutstanding p.settings.size p.outstanding

-- What is chosen fits the line.
abbrev pub IsFittingChoice : Primary → Option Chosen → Type 0
IsFittingChoice p None = Unit {0}
IsFittingChoice p (Some c) =
    (c.station < length p.stations)
    × FitsAddress p.settings.size (station_at p.stations c.station).address
    × FitsAsked p.settings.size c.wanted.request
