-- The lines of a ladder: outstation, gateway, control centre (texts of this gateway's own profile).
use Rattle.std.specs.Prelude.{◌≡◌, ℕ, ◌+◌, Bool, if◌then◌else◌, codes, List, [], ◌∷◌, ◌++◌}
use Rattle.std.specs.Fmt.{decimal}
use Rattle.ft12.specs.declared.assembling.Received.{Received as LineReceived}
use Rattle.ft12.specs.declared.assembling.Received.TheVariants as line
use Rattle.gateway.specs.Log.{Output, LineOut, TcpOut, Closed, GapOut}
use Rattle.session.specs.declared.kinds.Close.{Close}
use Rattle.session.specs.declared.kinds.Close.TheVariants.{Grammar, SendNumber, ReceiveNumber}
use Rattle.session.specs.declared.kinds.Close.TheVariants.{Stopped, Timeout, OwnAnswers, Replaced}
use Rattle.words.specs.declared.facts.condition.Condition.{Condition}
use Rattle.words.specs.declared.facts.sizes.LineSizes.{LineSizes}
use Rattle.words.specs.declared.ladder.rungs.Way.{Way}
use Rattle.words.specs.declared.ladder.rungs.Way.TheVariants.{FromOutstation, ToOutstation, FromCentre}
use Rattle.words.specs.declared.ladder.rungs.Way.TheVariants.{ToCentre, Inside}
use Rattle.words.specs.Connections.{AreConnectionWords}
use Rattle.words.specs.Faults.{cut_off, no_frame}
use Rattle.words.specs.Lines.{fault_of, frame_words, AreLineWords}

-- ---- The head of a line

abbrev pub way_text : Way → List ℕ
way_text FromOutstation = codes "outstation > gateway"
way_text ToOutstation = codes "gateway > outstation"
way_text FromCentre = codes "control centre > gateway"
way_text ToCentre = codes "gateway > control centre"
way_text Inside = codes "gateway"

-- the codes of a terminal: cyan on the side of the outstations, green on that of the control
-- centre, yellow for the gateway itself
abbrev pub colour_code : Way → List ℕ
colour_code FromOutstation = 27 ∷ codes "[36m"
colour_code ToOutstation = 27 ∷ codes "[36m"
colour_code FromCentre = 27 ∷ codes "[32m"
colour_code ToCentre = 27 ∷ codes "[32m"
colour_code Inside = 27 ∷ codes "[33m"

unfoldable pub colour : (is_coloured : Bool) → Way → List ℕ
colour is_coloured way = if is_coloured then colour_code way else []

unfoldable pub plain : (is_coloured : Bool) → List ℕ
plain is_coloured = if is_coloured then 27 ∷ codes "[0m" else []

-- the way, and a remark
unfoldable pub side : (is_coloured : Bool) → Way → (remark : List ℕ) → List ℕ
side is_coloured way remark =
    colour is_coloured way ++ (way_text way ++ (remark ++ plain is_coloured))

-- the moment in milliseconds, the way, and a remark
unfoldable pub head : (is_coloured : Bool) → (now : ℕ) → Way → (remark : List ℕ) → List ℕ
head is_coloured now way remark =
    decimal now ++ (codes " " ++ (side is_coloured way remark ++ codes "  "))

-- ---- Actions

-- why a connection is closed
abbrev pub close_text : Close → List ℕ
close_text Grammar = codes "closes: octets that begin no APDU"
close_text SendNumber = codes "closes: a wrong send number"
close_text ReceiveNumber = codes "closes: a wrong receive number"
close_text Stopped = codes "closes: an I frame while stopped"
close_text Timeout = codes "closes: no acknowledgement for t1"
close_text OwnAnswers = codes "closes: no place for an answer"
close_text Replaced = codes "closes: a new connection"

-- stations are counted from 1
unfoldable pub station_text : ℕ → List ℕ
station_text number = codes "gap: station " ++ decimal number

unfoldable pub session_text : ℕ → List ℕ
session_text session = codes ", session " ++ decimal session

abbrev pub gap_text : (station session : ℕ) → List ℕ
gap_text station session = station_text (station + 1) ++ session_text session

-- the words of an action
abbrev pub AreActionWords : LineSizes → Output → List ℕ → Type 0
AreActionWords s (LineOut octets) text = (condition : Condition)
    × AreLineWords s octets text condition
AreActionWords s (TcpOut octets) text = (condition : Condition)
    × AreConnectionWords octets text condition
AreActionWords s (Closed cause) text = text ≡ close_text cause ++ 10 ∷ []
AreActionWords s (GapOut station session) text = text ≡ gap_text station session ++ 10 ∷ []

abbrev pub way_of : Output → Way
way_of (LineOut octets) = ToOutstation
way_of (TcpOut octets) = ToCentre
way_of (Closed cause) = ToCentre
way_of (GapOut station session) = Inside

-- a line for an action
pub record IsActionLine (s : LineSizes) (is_coloured : Bool) (now : ℕ) (remark : List ℕ)
    (action : Output) (line : List ℕ) : Type 0 where
  pub words : List ℕ
  pub are_words : AreActionWords s action words
  pub joined : line ≡ head is_coloured now (way_of action) remark ++ words

-- ---- What is received from the line

-- the octets of the latest request again
abbrev pub repeat_remark : Bool → List ℕ
repeat_remark is_repeat = if is_repeat then codes ", repeat" else []

-- an answer that nobody waits for
abbrev pub late_remark : Bool → List ℕ
late_remark is_late = if is_late then codes ", late" else []

-- what n octets of a piece of the line bring
unfoldable pub received_words : LineSizes → ℕ → LineReceived → List ℕ
received_words s n (line.Frame frame) = frame_words s frame
received_words s n line.More = cut_off n
received_words s n (line.Never place why) = no_frame (fault_of why) place
received_words s n line.Deaf = cut_off n

abbrev pub received_remark : Bool → LineReceived → List ℕ
received_remark is_late (line.Frame frame) = late_remark is_late
received_remark is_late line.More = []
received_remark is_late (line.Never place why) = codes ", spoilt"
received_remark is_late line.Deaf = codes ", spoilt"

unfoldable pub received_line : LineSizes → (is_coloured is_late : Bool) → (now n : ℕ) → LineReceived
    →
    List ℕ
received_line s is_coloured is_late now n arrived =
    head is_coloured now FromOutstation (received_remark is_late arrived)
    ++ (received_words s n arrived ++ 10 ∷ [])
