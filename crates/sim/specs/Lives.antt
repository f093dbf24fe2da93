-- The stations of a simulated line: how they begin, and what each request that isn't lost makes of
-- them.
use Rattle.std.specs.Prelude.{◌≡◌, ℕ, ◌+◌, ◌%◌, List, [], ◌∷◌, ◌++◌, length, Option, Some, None}
use Rattle.std.specs.List.{flat_map}
use Rattle.ft12.specs.declared.frame.LinkSize.{LinkSize}
use Rattle.ft12.specs.declared.frame.Frame.{Frame}
use Rattle.ft12.specs.Spelling.{spelling}
use Rattle.ft12.specs.Spoiling.{spoilt}
use Rattle.link.specs.Secondary.{Secondary, fresh_station, ReceivesOctets}
use Rattle.gateway.specs.declared.settings.StationSettings.{StationSettings}
use Rattle.gateway.specs.Config.{Settings}
use Rattle.gateway.specs.Reports.{Setup}
use Rattle.gateway.specs.Setups.{setup_of}
use Rattle.gateway.specs.Log.{Log, Came, Went, LineIn, LineOut}
use Rattle.sim.specs.declared.directive.Class.TheVariants.{One, Two}
use Rattle.sim.specs.declared.directive.Directive.{Directive}
use Rattle.sim.specs.declared.directive.RequestFate.{RequestFate}
use Rattle.sim.specs.declared.directive.RequestFate.TheVariants.{RequestLost, AnswerLost}
use Rattle.sim.specs.declared.directive.RequestFate.TheVariants.{AnswerSpoilt}
use Rattle.sim.specs.declared.directive.RequestFate.TheVariants.{Answered}
use Rattle.sim.specs.Losses.{fate_of, report_said}

-- what is fixed in a run: what the gateway is set to, the size of link addresses, how long an
-- answer is awaited, what the script says, and the stations as they begin
pub record Plan : Type 0 where
  pub setup : Setup
  pub size : LinkSize
  pub answer_ms : ℕ
  pub directives : List Directive
  pub stations : List Secondary

-- a station that was never reset, with the reports that the script gives it
abbrev pub begun : LinkSize → (index : ℕ) → List Directive → StationSettings → Secondary
begun size index ds s = record (fresh_station size s.address) {
  class1 = flat_map (report_said index One) ds;
  class2 = flat_map (report_said index Two) ds;
}

abbrev pub begun_from : LinkSize → (index : ℕ) → List Directive → List StationSettings
    → List Secondary
begun_from size index ds [] = []
begun_from size index ds (s ∷ ss) = begun size index ds s ∷ begun_from size (index + 1) ds ss

-- what settings and a script fix
abbrev pub plan_of : Settings → List Directive → Plan
plan_of c ds = record {
  setup = setup_of c;
  size = c.line.link;
  answer_ms = c.line.answer_ms;
  directives = ds;
  stations = begun_from c.line.link 0 ds c.stations;
}

abbrev pub later : Option Frame → Option Frame → Option Frame
later a None = a
later a (Some frame) = Some frame

-- Each station receives the octets. What comes is what the last one that answers says (only the one
-- that is asked answers).
abbrev pub ReceivedByAll : List ℕ → List Secondary → Option Frame → List Secondary → Type 0
ReceivedByAll octets [] answer [] = answer ≡ None
ReceivedByAll octets (s ∷ ss) answer (t ∷ ts) =
    (first : Option Frame) × (others : Option Frame) × ReceivesOctets s octets first t
    × ReceivedByAll octets ss others ts × (answer ≡ later first others)
ReceivedByAll octets ss answer ts = ⊥

-- a request that is lost is received by none, any other by all
abbrev pub IsPutOut : RequestFate → List ℕ → List Secondary → Option Frame → List Secondary → Type 0
IsPutOut RequestLost octets before answer stations = (answer ≡ None) × (stations ≡ before)
IsPutOut fate octets before answer stations = ReceivedByAll octets before answer stations

-- how many requests went out
abbrev pub requests_in : Log → ℕ
requests_in [] = 0
requests_in (Went now (LineOut octets) ∷ log) = requests_in log + 1
requests_in (entry ∷ log) = requests_in log

-- The stations stand so after this log, in which they answered so, the newest first.
abbrev pub AreLived : Plan → Log → List (Option Frame) → List Secondary → Type 0
AreLived plan [] [] stations = stations ≡ plan.stations
AreLived plan [] (answer ∷ answers) stations = ⊥
AreLived plan (Went now (LineOut octets) ∷ log) [] stations = ⊥
AreLived plan (Went now (LineOut octets) ∷ log) (answer ∷ answers) stations =
    (before : List Secondary)
    × IsPutOut (fate_of plan.directives (requests_in log + 1)) octets before answer stations
    × AreLived plan log answers before
AreLived plan (entry ∷ log) answers stations = AreLived plan log answers stations

-- what of an answer comes to wait: nothing if it is lost, and one octet is changed if it is spoilt
abbrev pub arriving : LinkSize → RequestFate → Option Frame → Option (List ℕ)
arriving size fate None = None
arriving size RequestLost (Some frame) = None
arriving size AnswerLost (Some frame) = None
arriving size (AnswerSpoilt place) (Some frame) =
    Some (spoilt (place % length (spelling size frame)) (spelling size frame))
arriving size Answered (Some frame) = Some (spelling size frame)

-- What waits: the answer to the latest request, until octets are given. A next request takes its
-- place.
abbrev pub waiting_in : Plan → Log → List (Option Frame) → Option (List ℕ)
waiting_in plan [] answers = None
waiting_in plan (Came now (LineIn octets) ∷ log) answers = None
waiting_in plan (Went now (LineOut octets) ∷ log) [] = None
waiting_in plan (Went now (LineOut octets) ∷ log) (answer ∷ answers) =
    arriving plan.size (fate_of plan.directives (requests_in log + 1)) answer
waiting_in plan (entry ∷ log) answers = waiting_in plan log answers

-- the station with these reports of each class after those that it has
abbrev pub with_reports : Secondary → List (List ℕ) → List (List ℕ) → Secondary
with_reports s class1 class2 = record s { class1 = s.class1 ++ class1; class2 = s.class2 ++ class2 }
