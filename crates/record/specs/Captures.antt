-- Records as captures, entry by entry (profile).
use Rattle.std.specs.Prelude.{ℕ, true, false, List, [], ◌∷◌, ◌++◌, codes}
use Rattle.std.specs.Prelude.{Option, Some, None}
use Rattle.ft12.specs.declared.frame.LinkSize.{LinkSize}
use Rattle.gateway.specs.Log.{LogEntry, Came, Went, LineIn, Opened, TcpIn, CutOff, LineOut, TcpOut}
use Rattle.gateway.specs.Log.{Closed, GapOut}
use Rattle.session.specs.declared.kinds.Close.{Close}
use Rattle.session.specs.declared.kinds.Close.TheVariants.{Grammar, SendNumber, ReceiveNumber}
use Rattle.session.specs.declared.kinds.Close.TheVariants.{Stopped, Timeout, OwnAnswers, Replaced}
use Rattle.record.specs.Blocks.{file_header}
use Rattle.record.specs.Clocks.{clock_after, micros_of}
use Rattle.record.specs.Connections.{Deed, Opens, Carries, Closes, Cuts, Sent, after_deeds}
use Rattle.record.specs.Connections.{sent_blocks, sent_in}
use Rattle.record.specs.Recorded.{entry_logged}
use Rattle.record.specs.Wires.{Line, Serial, after_answer, after_request, asked, gap, arrived}
use Rattle.record.specs.Wires.{no_frame, serial_blocks}
use Rattle.record.specs.declared.capture.clock.Clock.{Clock}
use Rattle.record.specs.declared.capture.connection.Connection.{Connection}

-- what is kept between the lines of a record
pub record Captured : Type 0 where
  pub connection : Connection
  pub line : Line
  pub clock : Clock

-- before the first line: no connection, nothing of the line, and 1970-01-01 at moment 0
abbrev pub begun : LinkSize → Captured
begun size = record {
  connection = record { is_open = false; port = 49151; up = 0; down = 0 };
  line = record { size = size; pending = []; request = []; is_awaited = false };
  clock = record { latest = 0; wall = 0; wall_at = 0 };
}

-- ---- What an entry does

-- what the connection is closed for
abbrev pub close_comment : Close → List ℕ
close_comment Grammar = codes "closed: octets that begin no APDU"
close_comment SendNumber = codes "closed: a wrong send number"
close_comment ReceiveNumber = codes "closed: a wrong receive number"
close_comment Stopped = codes "closed: an I frame while stopped"
close_comment Timeout = codes "closed: no acknowledgement for t1"
close_comment OwnAnswers = codes "closed: no place for an answer"
close_comment Replaced = codes "closed: a new connection"

-- the connection whose place a new one takes was closed when that one was opened
abbrev pub closes_for : Close → List Deed
closes_for Replaced = []
closes_for cause = Closes (close_comment cause) ∷ []

-- what happens to the connection
abbrev pub deeds_of : LogEntry → List Deed
deeds_of (Came now Opened) = Closes (close_comment Replaced) ∷ Opens ∷ []
deeds_of (Came now (TcpIn octets)) = Carries false octets ∷ []
deeds_of (Came now CutOff) = Cuts ∷ []
deeds_of (Went now (TcpOut octets)) = Carries true octets ∷ []
deeds_of (Went now (Closed cause)) = closes_for cause
deeds_of entry = []

-- what goes over the line, and a gap
abbrev pub serial_of : Line → LogEntry → List Serial
serial_of line (Came now (LineIn octets)) = arrived line octets
serial_of line (Went now (LineOut octets)) = asked line octets
serial_of line (Went now (GapOut station session)) = gap station session ∷ []
serial_of line entry = []

abbrev pub line_after : Line → LogEntry → Line
line_after line (Came now (LineIn octets)) = after_answer line octets
line_after line (Went now (LineOut octets)) = after_request line octets
line_after line entry = line

abbrev pub after : Captured → LogEntry → Captured
after c entry = record {
  connection = after_deeds c.connection (deeds_of entry);
  line = line_after c.line entry;
  clock = clock_after c.clock entry;
}

-- ---- Packets

-- segments of the connection and packets of the line, which have one time, in microseconds since
-- 1970-01-01 UTC
pub record Packets : Type 0 where
  pub micros : ℕ
  pub segments : List Sent
  pub serial : List Serial

abbrev pub blocks_of : Packets → List ℕ
blocks_of p = sent_blocks p.micros p.segments ++ serial_blocks p.micros p.serial

-- those of an entry
abbrev pub packets_of : Captured → LogEntry → Packets
packets_of c entry = record {
  micros = micros_of (clock_after c.clock entry);
  segments = sent_in c.connection (deeds_of entry);
  serial = serial_of c.line entry;
}

-- those of what came of the line at the end, and is no whole frame
abbrev pub last_packets : Captured → Packets
last_packets c = record {
  micros = micros_of c.clock;
  segments = [];
  serial = no_frame (codes "no whole frame") c.line.pending;
}

abbrev pub ended : Captured → Captured
ended c = record c { line = record c.line { pending = [] } }

-- ---- Lines

-- what is put for a line, and what is kept behind it
abbrev pub blocks_for : Captured → Option LogEntry → List ℕ
blocks_for c None = []
blocks_for c (Some entry) = blocks_of (packets_of c entry)

abbrev pub after_logged : Captured → Option LogEntry → Captured
after_logged c None = c
after_logged c (Some entry) = after c entry

abbrev pub line_blocks : Captured → (line : List ℕ) → List ℕ
line_blocks c line = blocks_for c (entry_logged line)

abbrev pub after_line : Captured → (line : List ℕ) → Captured
after_line c line = after_logged c (entry_logged line)

abbrev pub after_lines : Captured → (lines : List (List ℕ)) → Captured
after_lines c [] = c
after_lines c (line ∷ lines) = after_lines (after_line c line) lines

abbrev pub blocks_of_lines : Captured → (lines : List (List ℕ)) → List ℕ
blocks_of_lines c [] = []
blocks_of_lines c (line ∷ lines) = line_blocks c line ++ blocks_of_lines (after_line c line) lines

-- a whole file: its header, the blocks of the lines, and those of what is pending at the end
abbrev pub capture_of : LinkSize → (lines : List (List ℕ)) → List ℕ
capture_of size lines =
    file_header ++ (blocks_of_lines (begun size) lines
    ++ blocks_of (last_packets (after_lines (begun size) lines)))

-- ---- Records

-- the packets of the entries of a record, one after another
abbrev pub packets_in : Captured → List LogEntry → List Packets
packets_in c [] = []
packets_in c (entry ∷ entries) = packets_of c entry ∷ packets_in (after c entry) entries

abbrev pub after_all : Captured → List LogEntry → Captured
after_all c [] = c
after_all c (entry ∷ entries) = after_all (after c entry) entries

-- with those at its end
abbrev pub whole_capture : LinkSize → List LogEntry → List Packets
whole_capture size entries =
    packets_in (begun size) entries ++ last_packets (after_all (begun size) entries) ∷ []

-- ---- Octets
