-- How the links to the stations stand, in words (texts of this gateway's own profile).
use Rattle.std.specs.Prelude.{ℕ, suc, ◌==◌, Bool, true, false, List, [], ◌∷◌, ◌++◌, codes}
use Rattle.std.specs.Prelude.{Option, Some, None, option_map, if◌then◌else◌}
use Rattle.std.specs.Fmt.{decimal}
use Rattle.link.specs.Carried.{awaits_command}
use Rattle.link.specs.Primary.{Primary}
use Rattle.link.specs.Procedure.{after_silence}
use Rattle.link.specs.declared.procedure.Link.{Link}
use Rattle.link.specs.declared.procedure.Link.TheVariants.{Down, Available, Next, Held}
use Rattle.link.specs.declared.service.Asked.{Asked}
use Rattle.link.specs.declared.service.Service.{Service}
use Rattle.link.specs.declared.service.Service.TheVariants.{Class1, Class2, Command}
use Rattle.link.specs.declared.settings.LinkSettings.{LinkSettings}
use Rattle.link.specs.declared.turn.StationState.{StationState}

-- a service without an answer
abbrev pub unanswered_words : Service → List ℕ
unanswered_words Class1 = codes ", poll of class 1 without an answer"
unanswered_words Class2 = codes ", poll of class 2 without an answer"
unanswered_words (Command asdu) = codes ", command without an answer"

-- the frame count bit of the next service, or of the one without an answer
abbrev pub up_words : (fcb : Bool) → List ℕ
up_words false = codes " up, frame count bit 0"
up_words true = codes " up, frame count bit 1"

abbrev pub held_words : (fcb : Bool) → Service → List ℕ
held_words fcb service = up_words fcb ++ unanswered_words service

abbrev pub link_words : Link → List ℕ
link_words Down = codes " down"
link_words Available = codes " down, its status is known"
link_words (Next fcb) = up_words fcb
link_words (Held fcb service missed) = held_words fcb service

-- the link after a request that had no answer so far
abbrev pub left_by : LinkSettings → Option Asked → Link → Link
left_by settings None link = link
left_by settings (Some request) link = after_silence settings request false link

-- the request to a station whose answer is awaited
abbrev pub awaited_at : Primary → (station : ℕ) → Option Asked
awaited_at p station =
    if p.turn == station then option_map (λ o. o.request) p.outstanding else None

-- the link to a station, as the request leaves it whose answer is awaited
abbrev pub link_left : Primary → (station : ℕ) → StationState → Link
link_left p station s = left_by p.settings (awaited_at p station) s.link

-- a restart gives up a command without an answer
abbrev pub given_up_words : (awaits_command : Bool) → List ℕ
given_up_words false = []
given_up_words true = codes ", given up at a start"

-- a report may be lost if the link is reset
abbrev pub gap_words : (has_gap : Bool) → List ℕ
gap_words false = []
gap_words true = codes ", gap if it is reset"

-- behind the link
abbrev pub rest_of_line : (awaits_command : Bool) → (session : ℕ) → (has_gap : Bool) → List ℕ
rest_of_line awaits_command session has_gap = given_up_words awaits_command
    ++ (codes ", session " ++ decimal session) ++ gap_words has_gap ++ 10 ∷ []

-- the station with this index
abbrev pub station_line : Primary → (station : ℕ) → StationState → List ℕ
station_line p station s = (codes "station " ++ decimal s.address)
    ++ link_words (left_by p.settings (awaited_at p station) s.link)
    ++ rest_of_line (awaits_command p station) s.session.number s.session.has_gap

-- these words and the end of their line
abbrev pub line : List ℕ → List ℕ
line words = words ++ 10 ∷ []

-- the stations from this index on
abbrev pub station_lines : Primary → (station : ℕ) → List StationState → List ℕ
station_lines p station [] = []
station_lines p station (s ∷ stations) =
    station_line p station s ++ station_lines p (suc station) stations
