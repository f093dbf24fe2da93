-- What the control centre has received of what was handed to TCP (IEC 60870-5-104, 5.1 and 5.2).
use Rattle.std.specs.Prelude.{◌≡◌, ℕ, ◌+◌, ◌%◌, ◌≤◌, List, [], ◌∷◌, ◌++◌, length, take, drop}
use Rattle.std.specs.Prelude.{Option}
use Rattle.std.specs.Prelude.{Some, None}
use Rattle.std.specs.List.{AllByRecursion}
use Rattle.asdu.specs.InformationObjects.{InformationObject}
use Rattle.apci.specs.declared.apdu.Apdu.{Apdu}
use Rattle.apci.specs.declared.apdu.Apdu.TheVariants.{I, S, U}
use Rattle.session.specs.History as talk
use Rattle.session.specs.declared.kinds.Close.{Close}
use Rattle.session.specs.declared.kinds.Taken.{Taken}
use Rattle.session.specs.declared.kinds.Taken.TheVariants.{Nothing, Asdu, Close as Closes}
use Rattle.gateway.specs.Connections.{Channel}
use Rattle.gateway.specs.Frames.{Connection, Sent, IsNumberedFrom, acknowledged_count}
use Rattle.gateway.specs.Frames.{data_frames, first_unacknowledged, i_frames, objects_of_frames}
use Rattle.gateway.specs.Course.{Course, came_frames}
use Rattle.gateway.specs.Streams.{spelled, AllFit}

-- A beginning of the octets that were handed to TCP has come, and these are the I frames that stand
-- whole in it, the oldest first. What was cut off, a part of a frame too, is lost.
pub record HasCome (handed : List ℕ) (came : List Sent) : Type 0 where
  pub octets : List ℕ
  pub lost : List ℕ
  pub beginning : handed ≡ octets ++ lost
  pub frames : List Apdu
  pub part : List ℕ
  pub joined : octets ≡ spelled frames ++ part
  pub fit : AllFit frames
  pub read : came ≡ data_frames frames

-- such frames of each connection, the latest of which is first
abbrev pub HaveCome : List Channel → List (List Sent) → Type 0
HaveCome [] [] = Unit {0}
HaveCome (octets ∷ past) (came ∷ earlier) = HasCome octets.sent came × HaveCome past earlier
HaveCome _ _ = ⊥

-- What came on a connection is a contiguous run of the objects taken, from the first that no
-- connection before it acknowledged; and its frames are numbered from 0, none of them missing.
pub record IsRun (taken : List InformationObject) (came : List Sent)
    (before : List Connection) : Type 0 where
  pub run : objects_of_frames came
      ≡ take (length (objects_of_frames came)) (drop (first_unacknowledged before) taken)
  pub numbered : IsNumberedFrom 0 came

-- what came on each
abbrev pub AreRuns : List InformationObject → List Connection → List (List Sent) → Type 0
AreRuns taken [] [] = Unit {0}
AreRuns taken (c ∷ before) (came ∷ earlier) =
    IsRun taken came before × AreRuns taken before earlier
AreRuns taken _ _ = ⊥

-- no frame is acknowledged that hasn't come (5.1)
abbrev pub AcknowledgeWhatCame : List Connection → List (List Sent) → Type 0
AcknowledgeWhatCame [] [] = Unit {0}
AcknowledgeWhatCame (c ∷ before) (came ∷ earlier) =
    (acknowledged_count c.received_frames ≤ length came) × AcknowledgeWhatCame before earlier
AcknowledgeWhatCame _ _ = ⊥

-- objects are put at a place of others: what stood there before gives way
abbrev pub put_at : ℕ → (new old : List InformationObject) → List InformationObject
put_at place new old = take place old ++ (new ++ drop (place + length new) old)

-- What has come on all of these connections. What came on each is put behind what the connections
-- before it acknowledged: an object that comes again is put where it stood.
abbrev pub received_on : List Connection → List (List Sent) → List InformationObject
received_on (c ∷ before) (came ∷ earlier) =
    put_at (first_unacknowledged before) (objects_of_frames came) (received_on before earlier)
received_on _ _ = []

-- It is one run, a beginning of the objects taken, each once: none is missing, and each that was
-- acknowledged is among them.
pub record IsOneRun (taken : List InformationObject) (connections : List Connection)
    (came : List (List Sent)) : Type 0 where
  pub run : received_on connections came ≡ take (length (received_on connections came)) taken
  pub acknowledged : first_unacknowledged connections ≤ length (received_on connections came)

-- An I frame bears as N(S) how many I frames went out before it on the connection, and as N(R) how
-- many came, both modulo 32768. An S frame bears this N(R) (5.1).
abbrev pub BearsCounts : Apdu → Course → Type 0
BearsCounts (I ns nr asdu) c =
    (ns ≡ length c.sent % 32768) × (nr ≡ i_frames (came_frames c.talk) % 32768)
BearsCounts (S nr) c = nr ≡ i_frames (came_frames c.talk) % 32768
BearsCounts (U function) c = Unit {0}

-- a frame that came
abbrev pub IsArrival : talk.Happened → Type 0
IsArrival (talk.Came frame now) = Unit {0}
IsArrival entry = ⊥

-- The entry says of the frame what its octets say, and they are the counts of what was said before
-- it: of an I frame N(S) and N(R), of an S frame N(R) (5.1).
abbrev pub IsSaid : Apdu → (entry : talk.Happened) → (before : talk.History) → Type 0
IsSaid (I ns nr asdu) (talk.Sent said_ns said_nr kind now) before =
    (ns ≡ said_ns) × (nr ≡ said_nr) × (ns ≡ length (talk.sent_frames before) % 32768)
    × (nr ≡ talk.received_count before % 32768)
IsSaid (S nr) (talk.Went frame now) before =
    (frame ≡ S nr) × (nr ≡ talk.received_count before % 32768)
IsSaid (U function) (talk.Went frame now) before = frame ≡ U function
IsSaid frame entry before = ⊥

-- The frame is the latest that went out on the connection: behind it there are only frames that
-- came.
pub record IsLatestSaid (frame : Apdu) (h : talk.History) : Type 0 where
  pub since : talk.History
  pub came : AllByRecursion IsArrival since
  pub entry : talk.Happened
  pub before : talk.History
  pub is : h ≡ since ++ entry ∷ before
  pub said : IsSaid frame entry before

-- the cause to close the connection that a frame leads to, if any (5.1 and 5.3)
abbrev pub close_by : Taken → Option Close
close_by (Closes cause) = Some cause
close_by Asdu = None
close_by Nothing = None
