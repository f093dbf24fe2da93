-- What is kept of commands, and what the calls round the line, the own answers and the connection
-- make of it.
use Rattle.std.specs.Prelude.{ℕ, Bool, true, false, ◌==◌, nat_lt, if◌then◌else◌, List, [], ◌∷◌}
use Rattle.std.specs.Prelude.{◌++◌, length, map, drop, set, get_or, Option, Some, None, option_map}
use Rattle.std.specs.List.{filter_map}
use Rattle.asdu.specs.declared.sizes.Sizes.{Sizes}
use Rattle.command.specs.Octets.{answer, negative}
use Rattle.command.specs.Selection.{advanced}
use Rattle.command.specs.Tags.{with_sending}
use Rattle.command.specs.declared.station.StationInfo.{StationInfo}
use Rattle.command.specs.declared.selection.Selection.{Selection}
use Rattle.command.specs.declared.selection.Sign.{Sign}
use Rattle.command.specs.declared.selection.Sign.TheVariants as sign
use Rattle.command.specs.declared.tags.Sending.{Sending}
use Rattle.command.specs.declared.waiting.Waiting.{Waiting}
use Rattle.command.specs.declared.waiting.Line.{Line}
use Rattle.command.specs.declared.waiting.Line.TheVariants.{Free, Holds, CutOff}

pub record State : Type 0 where
  -- the settings
  pub stations : List StationInfo
  pub sizes : Sizes
  pub select_ms : ℕ
  pub max_age_ms : ℕ
  -- the commands that were forwarded and never put on the line, oldest first
  pub waiting : List Waiting
  -- for each station, what was put on its line and isn't done
  pub lines : List Line
  pub selections : List Selection
  -- the latest first sendings of types 45 to 49 on the open connection, oldest first
  pub sendings : List Sending
  -- the own answers that weren't sent, oldest first
  pub answers : List (List ℕ)

abbrev pub free_line : StationInfo → Line
free_line station = Free

abbrev pub new_state : List StationInfo → Sizes → ℕ → ℕ → State
new_state stations sizes select_ms max_age_ms = record {
  stations = stations;
  sizes = sizes;
  select_ms = select_ms;
  max_age_ms = max_age_ms;
  waiting = [];
  lines = map free_line stations;
  selections = [];
  sendings = [];
  answers = [];
}

-- each selection heeds a sign
abbrev pub heeded : Sign → State → State
heeded what s = record s { selections = filter_map (advanced s.select_ms what) s.selections }

-- ---- The line

-- the oldest command that waits for the station
abbrev pub oldest : ℕ → List Waiting → Option Waiting
oldest station [] = None
oldest station (w ∷ ws) = if w.station == station then Some w else oldest station ws

abbrev pub oldest_for : ℕ → State → Option Waiting
oldest_for station s = oldest station s.waiting

-- its octets on the line
abbrev pub octets_waiting : ℕ → State → Option (List ℕ)
octets_waiting station s = option_map (λ w. w.octets) (oldest_for station s)

abbrev pub without_oldest : ℕ → List Waiting → List Waiting
without_oldest station [] = []
without_oldest station (w ∷ ws) = if w.station == station then ws else w ∷ without_oldest station ws

abbrev pub with_line : ℕ → Line → State → State
with_line station line s = record s { lines = set s.lines station line }

-- a command goes out for the first time, which came so
abbrev pub noted : List ℕ → State → State
noted xs s = record s { sendings = with_sending xs s.sendings }

abbrev pub put_out : Option Waiting → ℕ → State → State
put_out None station s = s
put_out (Some w) station s =
    with_line station (Holds w.received)
    (noted w.received (record (heeded (sign.Sending station) s) {
      waiting = without_oldest station s.waiting;
    }))

-- the oldest command that waits for the station, if any, goes out for the first time
abbrev pub sent : ℕ → State → State
sent station s = put_out (oldest_for station s) station s

abbrev pub line_of : ℕ → State → Line
line_of station s = get_or s.lines station Free

-- the station accepted the command on its line
abbrev pub accepted : ℕ → State → State
accepted station s = with_line station Free (heeded (sign.Acceptance station) s)

-- the station was busy, or the command on its line is given up
abbrev pub given_up : ℕ → State → State
given_up station s = with_line station Free (heeded (sign.Loss station) s)

-- the answer to a command that a busy station refused: a negative one, if its connection is open
abbrev pub refusal_of : Line → Option (List ℕ)
refusal_of Free = None
refusal_of (Holds received) = Some (answer (negative received) received)
refusal_of CutOff = None

abbrev pub is_used : Line → Bool
is_used Free = false
is_used (Holds received) = true
is_used CutOff = true

-- ---- Own answers

abbrev pub has_answer_place : State → Bool
has_answer_place s = nat_lt (length s.answers) 16

abbrev pub kept : List ℕ → State → State
kept octets s = record s { answers = s.answers ++ octets ∷ [] }

-- an own answer is kept if fewer than 16 are
abbrev pub offered : List ℕ → State → State
offered octets s = if has_answer_place s then kept octets s else s

abbrev pub first_answer : List (List ℕ) → Option (List ℕ)
first_answer [] = None
first_answer (xs ∷ xss) = Some xs

-- the oldest own answer went out
abbrev pub answered : State → State
answered s = record s { answers = drop 1 s.answers }

-- ---- The end of a connection, and time

abbrev pub cut_off : Line → Line
cut_off Free = Free
cut_off (Holds received) = CutOff
cut_off CutOff = CutOff

-- nothing that was never put on the line is left, no selection, no first sending and no own answer
abbrev pub closed : State → State
closed s = record s {
  waiting = [];
  lines = map cut_off s.lines;
  selections = [];
  sendings = [];
  answers = [];
}

-- selections whose time has passed are over
abbrev pub timed : ℕ → State → State
timed now s = heeded (sign.Time now) s
