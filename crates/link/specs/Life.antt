-- Whole lives of a station: what it was called for, and what an outstation did meanwhile.
use Rattle.std.specs.Prelude.{ℕ, Bool, true, false, List, [], ◌∷◌, ◌++◌, Option, Some, None}
use Rattle.ft12.specs.declared.frame.Frame.{Frame}
use Rattle.link.specs.Answers.{Class1, Class2, Asked, Counted}
use Rattle.link.specs.Outstation.{Turn}
use Rattle.link.specs.Delivery.{reports}
use Rattle.link.specs.Requests.{Reading, Foreign, Unknown, Asks, reading_of}
use Rattle.link.specs.Secondary.{Secondary, received_reading}
pub use Rattle.std.specs.Io.Iter.{u64_saturate}

-- a call, with what memory allowed; a frame is received, or octets that are none
pub data Call : Type 0 where
  Report1 : (granted : Bool) → (report : List ℕ) → Call
  Report2 : (granted : Bool) → (report : List ℕ) → Call
  Receive : (granted : Bool) → (frame : Option Frame) → Call

abbrev pub received_call : Bool → Secondary → Option Frame → Secondary
received_call granted s None = s
received_call granted s (Some frame) =
    (received_reading granted s (reading_of s.address frame)).state

-- what a call leaves
abbrev pub called : Secondary → Call → Secondary
called s (Report1 true report) = record s { class1 = s.class1 ++ report ∷ [] }
called s (Report1 false report) = s
called s (Report2 true report) = record s { class2 = s.class2 ++ report ∷ [] }
called s (Report2 false report) = s
called s (Receive granted frame) = received_call granted s frame

abbrev pub after : Secondary → List Call → Secondary
after s [] = s
after s (call ∷ calls) = after (called s call) calls

-- the requests that the station receives
abbrev pub request_asked : Reading → List Asked
request_asked Foreign = []
request_asked Unknown = []
request_asked (Asks request) = request ∷ []

abbrev pub request_received : (address : ℕ) → Call → List Asked
request_received address (Report1 granted report) = []
request_received address (Report2 granted report) = []
request_received address (Receive granted None) = []
request_received address (Receive granted (Some frame)) = request_asked (reading_of address frame)

abbrev pub requests_received : (address : ℕ) → List Call → List Asked
requests_received address [] = []
requests_received address (call ∷ calls) = request_received address call
    ++ requests_received address calls

-- its turns at them
abbrev pub turn_asked : Bool → Secondary → Reading → List Turn
turn_asked granted s Foreign = []
turn_asked granted s Unknown = []
turn_asked granted s (Asks request) = (received_reading granted s (Asks request)).turn ∷ []

abbrev pub turn_in : Secondary → Call → List Turn
turn_in s (Report1 granted report) = []
turn_in s (Report2 granted report) = []
turn_in s (Receive granted None) = []
turn_in s (Receive granted (Some frame)) = turn_asked granted s (reading_of s.address frame)

abbrev pub turns_in : Secondary → List Call → List Turn
turns_in s [] = []
turns_in s (call ∷ calls) = turn_in s call ++ turns_in (called s call) calls

-- the reports given at a request of class 1, and of class 2
abbrev pub given1_at : Asked → Turn → List (List ℕ)
given1_at (Counted fcb Class1) turn = reports turn.done
given1_at request turn = []

abbrev pub given2_at : Asked → Turn → List (List ℕ)
given2_at (Counted fcb Class2) turn = reports turn.done
given2_at request turn = []

abbrev pub given1 : List Asked → List Turn → List (List ℕ)
given1 (request ∷ requests) (turn ∷ turns) = given1_at request turn ++ given1 requests turns
given1 requests turns = []

abbrev pub given2 : List Asked → List Turn → List (List ℕ)
given2 (request ∷ requests) (turn ∷ turns) = given2_at request turn ++ given2 requests turns
given2 requests turns = []

-- the reports of each class that it was given
abbrev pub reported1 : List Call → List (List ℕ)
reported1 [] = []
reported1 (Report1 true report ∷ calls) = report ∷ reported1 calls
reported1 (call ∷ calls) = reported1 calls

abbrev pub reported2 : List Call → List (List ℕ)
reported2 [] = []
reported2 (Report2 true report ∷ calls) = report ∷ reported2 calls
reported2 (call ∷ calls) = reported2 calls
