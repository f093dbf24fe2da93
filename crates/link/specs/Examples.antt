-- What the worked examples of the tables speak of: user data of one octet, a station in each state,
-- a line with two repeats, and an outstation with what waits there.
use Rattle.std.specs.Prelude.{ℕ, Bool, true, false, List, [], ◌∷◌, Option, Some}
use Rattle.ft12.specs.declared.frame.LinkSize.TheVariants.{One}
use Rattle.link.specs.Answers.{Frame}
use Rattle.link.specs.Procedure.{Link, LinkSettings, Silence, Never, short_silence, spent_silence}
use Rattle.link.specs.Requests.{reading_of}
use Rattle.link.specs.Secondary.{Secondary, fresh_station, received_reading}
use Rattle.link.specs.Turns.{StationState, no_session}

abbrev pub octet : List ℕ
octet = 7 ∷ []

abbrev pub other_octet : List ℕ
other_octet = 9 ∷ []

abbrev pub in_state : Link → (acd dfc : Bool) → StationState
in_state link acd dfc =
    record {
      address = 1;
      link = link;
      acd = acd;
      dfc = dfc;
      session = no_session;
      unsure = false;
    }

abbrev pub two_repeats : (hold : Bool) → LinkSettings
two_repeats hold =
    record {
      size = One;
      answer_ms = 300;
      retries = 2;
      hold = hold;
      burst = 2;
    }

-- a station behind a restart
abbrev pub unsure_in : Link → StationState
unsure_in link = record (in_state link false false) { unsure = true }

abbrev pub missed : ℕ → Silence
missed many = short_silence many Never

-- two repeats had no answer, either
abbrev pub silent : Silence
silent = spent_silence (two_repeats true) Never

-- the outstation 1 before its first reset, and right after a reset, with these reports to give
abbrev pub unreset_with : (class1 class2 : List (List ℕ)) → Secondary
unreset_with class1 class2 = record (fresh_station One 1) { class1 = class1; class2 = class2 }

abbrev pub reset_with : (class1 class2 : List (List ℕ)) → Secondary
reset_with class1 class2 = record (unreset_with class1 class2) { bit = Some false }

-- what it answers to a frame, by whether memory is granted
abbrev pub answer_by : (granted : Bool) → Secondary → Frame → Option Frame
answer_by granted s frame = (received_reading granted s (reading_of s.address frame)).turn.answer

-- and what it answers to a frame after another
abbrev pub answer_behind : Secondary → (first : Frame) → Frame → Option Frame
answer_behind s first frame =
    (received_reading true (received_reading true s (reading_of s.address first)).state
    (reading_of s.address frame)).turn.answer
