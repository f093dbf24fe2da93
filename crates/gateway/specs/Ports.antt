-- What a port's answers and an action's octets mean in a log.
use Rattle.std.specs.Prelude.{ℕ, List, [], ◌∷◌, take, ◌≤◌}
use Rattle.gateway.specs.Log.{Input, LineIn, Opened, TcpIn, CutOff, Ticked, WallIs, Restarted}
use Rattle.gateway.specs.Log.{Output, LineOut, TcpOut, Closed, GapOut, LogEntry, Came}
use Rattle.gateway.specs.declared.ports.Event.{Event}
use Rattle.gateway.specs.declared.ports.Event.TheVariants as events
use Rattle.gateway.specs.declared.ports.Action.{Action}
use Rattle.gateway.specs.declared.ports.Action.TheVariants as actions
use Rattle.gateway.specs.declared.ports.Next.{Next}
use Rattle.gateway.specs.declared.ports.Next.TheVariants as answers

abbrev pub input_of : Event → Input
input_of (events.Line octets) = LineIn octets.now
input_of events.Open = Opened
input_of (events.Bytes octets) = TcpIn octets.now
input_of events.Cut = CutOff
input_of events.Tick = Ticked
input_of (events.Wall number) = WallIs number

-- a port gives each event but a restart
abbrev pub IsOfPort : Input → Type 0
IsOfPort Restarted = ⊥
IsOfPort event = Unit {0}

abbrev pub output_of : Action → Output
output_of (actions.Line octets) = LineOut octets.now
output_of (actions.Tcp octets) = TcpOut octets.now
output_of (actions.Close cause) = Closed cause
output_of (actions.Gap station session) = GapOut station session

-- the event that an answer adds to the log; its octets are the front of the buffer
abbrev pub logged_by : Next → List ℕ → List LogEntry
logged_by (answers.Line now len) buf = Came now (LineIn (take len buf)) ∷ []
logged_by (answers.Open now) buf = Came now Opened ∷ []
logged_by (answers.Bytes now len) buf = Came now (TcpIn (take len buf)) ∷ []
logged_by (answers.Cut now) buf = Came now CutOff ∷ []
logged_by (answers.Tick now) buf = Came now Ticked ∷ []
logged_by (answers.Wall now number) buf = Came now (WallIs number) ∷ []
logged_by answers.Done buf = []
logged_by answers.Fault buf = []

-- the octets of an answer are within the buffer
abbrev pub FitsBuffer : Next → Type 0
FitsBuffer (answers.Line now len) = len ≤ 1024
FitsBuffer (answers.Bytes now len) = len ≤ 1024
FitsBuffer answer = Unit {0}

-- how many failures of the device an answer reports
abbrev pub faults_of : Next → ℕ
faults_of answers.Fault = 1
faults_of answer = 0
