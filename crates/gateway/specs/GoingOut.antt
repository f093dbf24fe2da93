-- What I frames wait for, and what they bear (IEC 60870-5-104, 5.3; that own answers go first, and
-- the pieces of reports, are this gateway's own profile).
use Rattle.std.specs.Prelude.{◌≡◌, ℕ, List, [], ◌∷◌, ◌++◌, length, take, drop}
use Rattle.std.specs.Prelude.{map, Option, Some, None, if◌then◌else◌}
use Rattle.apci.specs.declared.apdu.Apdu.{Apdu}
use Rattle.apci.specs.declared.apdu.Apdu.TheVariants.{I}
use Rattle.session.specs.History.{History, Sent, Went}
use Rattle.command.specs.History.{own_kept}
use Rattle.gateway.specs.Objects.{has_objects}
use Rattle.gateway.specs.Log.{Log}
use Rattle.gateway.specs.Streams.{AreFrames}
use Rattle.gateway.specs.Frames.{Connection, Sent as SentFrame, acknowledged_reports, data_frames}
use Rattle.gateway.specs.Connections.{present}
use Rattle.gateway.specs.Agrees.{pieces_of}
use Rattle.gateway.specs.Course.{Course}

-- What a connection sent of reports are whole pieces of those taken, octet by octet, in order, from
-- the first on that no connection before it acknowledged: each I frame with monitor objects bears
-- one piece of one report (profile).
abbrev pub BearsWholePieces : (taken : List (List ℕ)) → Connection → List Connection → Type 0
BearsWholePieces taken c before = pieces_of c.sent_frames
    ≡ take (length (pieces_of c.sent_frames)) (drop (acknowledged_reports before) taken)

-- each connection, the newest first
abbrev pub BearWholePieces : (taken : List (List ℕ)) → List Connection → Type 0
BearWholePieces taken [] = Unit {0}
BearWholePieces taken (c ∷ before) =
    BearsWholePieces taken c before × BearWholePieces taken before

-- the ASDUs of I frames without monitor objects: own answers
abbrev pub answers_among : List SentFrame → List (List ℕ)
answers_among [] = []
answers_among (f ∷ fs) =
    if has_objects f.asdu then answers_among fs else f.asdu ∷ answers_among fs

-- Of the own answers that were kept on the open connection the oldest have gone out, octet by octet
-- and in their order, in its I frames without monitor objects. The others wait (profile).
abbrev pub AnswersGoOut : Course → Type 0
AnswersGoOut c =
    own_kept c.works.history ≡ answers_among c.sent ++ c.works.serial.commands.answers

-- the S and U frames that were said to go out, in their places among the I frames (None); the
-- latest first
abbrev pub short_frames : History → List (Option Apdu)
short_frames [] = []
short_frames (Sent ns nr kind now ∷ older) = None ∷ short_frames older
short_frames (Went frame now ∷ older) = Some frame ∷ short_frames older
short_frames (_ ∷ older) = short_frames older

abbrev pub short_frame : Apdu → Option Apdu
short_frame (I ns nr asdu) = None
short_frame frame = Some frame

-- What was handed to TCP on the open connection are frames, and nothing else: these I frames, and
-- among them the S and U frames that were said to go out, each in its place (5.1).
pub record HasGoneOut (log : Log) (c : Course) : Type 0 where
  pub frames : List Apdu
  pub handed : AreFrames (present log).sent frames
  pub i_frames : c.sent ≡ data_frames frames
  pub short : short_frames c.talk ≡ map short_frame frames
