-- What a ladder says of a run: the lines of its log, the oldest first (texts of this gateway's own
-- profile).
use Rattle.std.specs.Prelude.{◌≡◌, ◌<◌, ℕ, Bool, true, false, not, codes, List, [], ◌∷◌, ◌++◌, drop}
use Rattle.std.specs.Prelude.{length, Option, Some, None, IsTrue, ◌↔◌}
use Rattle.std.specs.Fmt.{decimal}
use Rattle.ft12.specs.Assembly.{Receives as ReceivesLine}
use Rattle.ft12.specs.declared.assembling.Received.{Received as LineReceived}
use Rattle.ft12.specs.declared.assembling.Received.TheVariants as line
use Rattle.ft12.specs.declared.frame.LinkSize.{LinkSize}
use Rattle.apci.specs.Assembly.{Assembly, Receives as ReceivesApdu}
use Rattle.apci.specs.declared.apdu.Apdu.{Apdu}
use Rattle.apci.specs.declared.assembling.Received.{Received as ApduReceived}
use Rattle.apci.specs.declared.assembling.Received.TheVariants as tcp
use Rattle.gateway.specs.Log.{Log, LogEntry, Came, Went, LineIn, Opened, TcpIn, CutOff, Ticked}
use Rattle.gateway.specs.Log.{WallIs, Restarted, Output, LineOut, TcpOut, Closed, GapOut}
use Rattle.words.specs.Connections.{apdu_words, fault_of as apdu_fault_of}
use Rattle.words.specs.Faults.{cut_off, no_frame}
use Rattle.words.specs.Rungs.{IsActionLine, head, received_line, repeat_remark}
use Rattle.words.specs.declared.ladder.rungs.Style.{Style}
use Rattle.words.specs.declared.ladder.rungs.Way.TheVariants.{FromCentre, Inside}

-- What is remembered: the octets of the line since its last frame, and those of the connection
-- since its last APDU (none, if octets began none); those of the latest request, and whether no
-- frame has come since.
pub record Remembered : Type 0 where
  pub size : LinkSize
  pub line : Option (List ℕ)
  pub centre : Option (List ℕ)
  pub request : List ℕ
  pub is_awaited : Bool

abbrev pub first_remembered : LinkSize → Remembered
first_remembered size = record {
  size = size;
  line = Some [];
  centre = Some [];
  request = [];
  is_awaited = false;
}

-- ---- Octets of the line

-- so many octets of a piece are taken, and this is received (IEC 60870-5-1, 6.2.4.2)
abbrev pub Listens : LinkSize → Option (List ℕ) → (piece : List ℕ) → (n : ℕ) → LineReceived
    → (later : Option (List ℕ)) → Type 0
Listens size None piece n arrived later =
    (n ≡ length piece) × (arrived ≡ line.Deaf) × (later ≡ None)
Listens size (Some so_far) piece n arrived later = ReceivesLine size so_far piece n arrived later

-- a frame is the answer that was waited for
abbrev pub still_awaited : Bool → LineReceived → Bool
still_awaited is_awaited (line.Frame frame) = false
still_awaited is_awaited line.More = is_awaited
still_awaited is_awaited (line.Never place why) = is_awaited
still_awaited is_awaited line.Deaf = is_awaited

-- A piece of the line: a line for each frame that ends in it, and one for the rest. A frame is late
-- if one came since the latest request.
pub data AreFramesReceived (style : Style) (now : ℕ) : Remembered → (octets : List ℕ)
    → (after : Remembered) → (lines : List ℕ) → Type 0 where
  no_more : (mind : Remembered) → AreFramesReceived style now mind [] mind []
  one_more : (mind after : Remembered) → (octets lines : List ℕ) → (n : ℕ)
      → (arrived : LineReceived)
      → (later : Option (List ℕ)) → 0 < n → Listens mind.size mind.line octets n arrived later
      → AreFramesReceived style now (record mind {
        line = later;
        is_awaited = still_awaited mind.is_awaited arrived;
      }) (drop n octets) after lines
      → AreFramesReceived style now mind octets after
      (received_line style.sizes style.is_coloured (not mind.is_awaited) now n arrived ++ lines)

-- ---- Octets of the connection

-- the same of the connection (IEC 60870-5-104, 5); an APDU that is whole is taken
abbrev pub ListensTo : Option (List ℕ) → (piece : List ℕ) → (n : ℕ) → ApduReceived
    → (whole : Option Apdu) → (later : Option (List ℕ)) → Type 0
ListensTo None piece n arrived whole later =
    (n ≡ length piece) × (arrived ≡ tcp.Deaf) × (later ≡ None)
ListensTo (Some so_far) piece n arrived whole later =
    (after : Assembly) × ReceivesApdu so_far piece n arrived after × (whole ≡ after.whole)
    × (later ≡ after.so_far)

abbrev pub whole_words : Option Apdu → List ℕ
whole_words None = []
whole_words (Some apdu) = apdu_words apdu

-- what n octets of a piece of the connection bring
unfoldable pub apdu_received_words : ℕ → ApduReceived → (whole : Option Apdu) → List ℕ
apdu_received_words n tcp.Whole whole = whole_words whole
apdu_received_words n tcp.More whole = cut_off n
apdu_received_words n (tcp.Never place why) whole = no_frame (apdu_fault_of why) place
apdu_received_words n tcp.Deaf whole = cut_off n

unfoldable pub apdu_received_line : (is_coloured : Bool) → (now n : ℕ) → ApduReceived
    → (whole : Option Apdu) → List ℕ
apdu_received_line is_coloured now n arrived whole =
    head is_coloured now FromCentre [] ++ (apdu_received_words n arrived whole ++ 10 ∷ [])

pub data AreApdusReceived (style : Style) (now : ℕ) : Remembered → (octets : List ℕ)
    → (after : Remembered) → (lines : List ℕ) → Type 0 where
  no_more_apdus : (mind : Remembered) → AreApdusReceived style now mind [] mind []
  one_more_apdu : (mind after : Remembered) → (octets lines : List ℕ) → (n : ℕ)
      → (arrived : ApduReceived) → (whole : Option Apdu) → (later : Option (List ℕ)) → 0 < n
      → ListensTo mind.centre octets n arrived whole later
      → AreApdusReceived style now (record mind { centre = later }) (drop n octets) after lines
      → AreApdusReceived style now mind octets after
      (apdu_received_line style.is_coloured now n arrived whole ++ lines)

-- ---- Entries

-- the line of a connection that is opened or cut, and of the wall clock
unfoldable pub centre_line : (is_coloured : Bool) → (now : ℕ) → (words : List ℕ) → List ℕ
centre_line is_coloured now words = head is_coloured now FromCentre [] ++ (words ++ 10 ∷ [])

unfoldable pub wall_line : (is_coloured : Bool) → (now wall : ℕ) → List ℕ
wall_line is_coloured now wall =
    head is_coloured now Inside [] ++ (codes "the wall clock shows " ++ (decimal wall ++ 10 ∷ []))

-- if these are the octets of the latest request again, the remark says so
pub record IsRequest (latest octets remark : List ℕ) : Type 0 where
  pub is_repeat : Bool
  pub repeats : IsTrue is_repeat ↔ (latest ≡ octets)
  pub logged : remark ≡ repeat_remark is_repeat

-- What is remembered behind an action, and the remark on it. A request begins an exchange: what
-- came of the line before is no beginning of its answer. A close ends what came of the connection.
abbrev pub IsRemembered : (before : Remembered) → Output → (after : Remembered)
    → (remark : List ℕ) → Type 0
IsRemembered before (LineOut octets) after remark =
    (after ≡ record before { line = Some []; request = octets; is_awaited = true })
    × IsRequest before.request octets remark
IsRemembered before (TcpOut octets) after remark = (after ≡ before) × (remark ≡ [])
IsRemembered before (Closed cause) after remark =
    (after ≡ record before { centre = Some [] }) × (remark ≡ [])
IsRemembered before (GapOut station session) after remark = (after ≡ before) × (remark ≡ [])

-- the line of an action
pub record IsActionLogged (style : Style) (before : Remembered) (now : ℕ) (action : Output)
    (after : Remembered) (lines : List ℕ) : Type 0 where
  pub remark : List ℕ
  pub remembered : IsRemembered before action after remark
  pub line : IsActionLine style.sizes style.is_coloured now remark action lines

-- the lines of an entry of the log; if only time passes there is none, nor for a restart, which no
-- port gives
abbrev pub IsEntryLogged : Style → (before : Remembered) → LogEntry → (after : Remembered)
    → (lines : List ℕ) → Type 0
IsEntryLogged style before (Came now (LineIn octets)) after lines =
    AreFramesReceived style now before octets after lines
IsEntryLogged style before (Came now (TcpIn octets)) after lines =
    AreApdusReceived style now before octets after lines
IsEntryLogged style before (Came now Opened) after lines =
    (after ≡ record before { centre = Some [] })
    × (lines ≡ centre_line style.is_coloured now (codes "connects"))
IsEntryLogged style before (Came now CutOff) after lines =
    (after ≡ record before { centre = Some [] })
    × (lines ≡ centre_line style.is_coloured now (codes "the connection is cut"))
IsEntryLogged style before (Came now Ticked) after lines = (after ≡ before) × (lines ≡ [])
IsEntryLogged style before (Came now (WallIs wall)) after lines =
    (after ≡ before) × (lines ≡ wall_line style.is_coloured now wall)
IsEntryLogged style before (Came now Restarted) after lines = (after ≡ before) × (lines ≡ [])
IsEntryLogged style before (Went now action) after lines =
    IsActionLogged style before now action after lines

-- ---- The log

-- the lines of a log, and what is remembered behind it
abbrev pub IsLoggedTo : Style → Log → Remembered → (text : List ℕ) → Type 0
IsLoggedTo style [] mind text = (mind ≡ first_remembered style.sizes.link) × (text ≡ [])
IsLoggedTo style (entry ∷ log) mind text =
    (before : Remembered) × (earlier : List ℕ) × (lines : List ℕ)
    × IsLoggedTo style log before earlier × IsEntryLogged style before entry mind lines
    × (text ≡ earlier ++ lines)

-- the text of a ladder: these are the lines of a whole log
pub record IsLadder (style : Style) (log : Log) (text : List ℕ) : Type 0 where
  pub mind : Remembered
  pub logged : IsLoggedTo style log mind text

-- behind any log these news are described so
abbrev pub LogsNews : Style → (old : Remembered) → (news : Log) → (new : Remembered)
    → (old_text new_text : List ℕ) → Type 0
LogsNews style old news new old_text new_text =
    (log : Log) (taken : List ℕ) → IsLoggedTo style log old (taken ++ old_text)
    → IsLoggedTo style (news ++ log) new (taken ++ new_text)

-- text is added, and this holds of it
abbrev pub Adds : (P : List ℕ → Type 0) → (old new : List ℕ) → Type 0
Adds P old new = (lines : List ℕ) × (new ≡ old ++ lines) × P lines
