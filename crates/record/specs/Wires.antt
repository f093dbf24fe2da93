-- The line as packets: octets of a serial line as captured (link type 250, RTAC serial). Each frame
-- (IEC 60870-5-1, 6.2.4.2) is a packet of its own.
use Rattle.std.specs.Prelude.{ℕ, zero, suc, ◌+◌, ◌/◌, ◌%◌, Bool, true, false, if◌then◌else◌, List}
use Rattle.std.specs.Prelude.{[], ◌∷◌, ◌++◌, codes, length, take, drop}
use Rattle.std.specs.Fmt.{decimal}
use Rattle.std.specs.List.{flat_map}
use Rattle.std.specs.Str.{bytes_eq}
use Rattle.ft12.specs.Fronts.{front_of}
use Rattle.ft12.specs.declared.frame.Front.{Front}
use Rattle.ft12.specs.declared.frame.Front.TheVariants.{Whole, More, Never}
use Rattle.ft12.specs.declared.frame.LinkSize.{LinkSize}
use Rattle.record.specs.Blocks.{block}
use Rattle.record.specs.Octets.{high_first}

-- ---- Packets

-- sent (1) or received (2), and no more of the line's state
unfoldable pub way_octets : (is_request : Bool) → List ℕ
way_octets is_request = if is_request then 1 ∷ 0 ∷ 0 ∷ 0 ∷ [] else 2 ∷ 0 ∷ 0 ∷ 0 ∷ []

-- seconds and microseconds, the way, and the octets
unfoldable pub serial_octets : (micros : ℕ) → (is_request : Bool) → List ℕ → List ℕ
serial_octets micros is_request octets =
    high_first (micros / 1000000 % 4294967296) ++ (high_first (micros % 1000000)
    ++ (way_octets is_request ++ octets))

-- octets of the line in one packet, from the gateway (a request) or to it, and a comment on them
pub record Serial : Type 0 where
  pub is_request : Bool
  pub octets : List ℕ
  pub comment : List ℕ

-- its block, on the interface of the line
unfoldable pub serial_block : (micros : ℕ) → Serial → List ℕ
serial_block micros s = block 1 micros (serial_octets micros s.is_request s.octets) s.comment

abbrev pub serial_blocks : (micros : ℕ) → List Serial → List ℕ
serial_blocks micros packets = flat_map (serial_block micros) packets

-- ---- Frames

-- the frames at the front of octets, and what is left, at whose front no whole frame stands
pub record Cut : Type 0 where
  pub frames : List (List ℕ)
  pub rest : List ℕ

abbrev pub before : List ℕ → Cut → Cut
before frame cut = record cut { frames = frame ∷ cut.frames }

-- octets that begin with this front, if those behind a frame are cut so
abbrev pub cut_at : Front → List ℕ → (cut_rest : List ℕ → Cut) → Cut
cut_at (Whole frame n) octets cut_rest = before (take n octets) (cut_rest (drop n octets))
cut_at More octets cut_rest = record { frames = []; rest = octets }
cut_at (Never place why) octets cut_rest = record { frames = []; rest = octets }

-- octets cut into frames, of which they begin with at most so many
abbrev pub cut_up_to : (most : ℕ) → LinkSize → List ℕ → Cut
cut_up_to zero size octets = record { frames = []; rest = octets }
cut_up_to (suc most) size octets = cut_at (front_of size octets) octets (cut_up_to most size)

-- each frame has an octet at least
abbrev pub cut_of : LinkSize → List ℕ → Cut
cut_of size octets = cut_up_to (length octets) size octets

-- ---- The line

-- what is kept of the line: octets that begin a frame, the latest request, and whether no frame
-- came since it
pub record Line : Type 0 where
  pub size : LinkSize
  pub pending : List ℕ
  pub request : List ℕ
  pub is_awaited : Bool

-- octets that are no whole frame, if there are any, in one packet
abbrev pub no_frame : (comment : List ℕ) → List ℕ → List Serial
no_frame comment [] = []
no_frame comment (octet ∷ octets) =
    record { is_request = false; octets = octet ∷ octets; comment = comment } ∷ []

-- A request; octets that began a frame before it don't become one any more. A request that has the
-- octets of the latest one repeats it.
abbrev pub request_of : Line → List ℕ → Serial
request_of line octets = record {
  is_request = true;
  octets = octets;
  comment = if bytes_eq line.request octets then codes "repeat" else [];
}

abbrev pub asked : Line → List ℕ → List Serial
asked line octets = no_frame (codes "no whole frame") line.pending ++ request_of line octets ∷ []

abbrev pub after_request : Line → List ℕ → Line
after_request line octets = record line { pending = []; request = octets; is_awaited = true }

-- a frame from an outstation; it is late if one came since the latest request
abbrev pub answer : (is_awaited : Bool) → List ℕ → Serial
answer is_awaited octets = record {
  is_request = false;
  octets = octets;
  comment = if is_awaited then [] else codes "late";
}

abbrev pub answers : (is_awaited : Bool) → (frames : List (List ℕ)) → List Serial
answers is_awaited [] = []
answers is_awaited (frame ∷ frames) = answer is_awaited frame ∷ answers false frames

abbrev pub still_awaited : (is_awaited : Bool) → (frames : List (List ℕ)) → Bool
still_awaited is_awaited [] = is_awaited
still_awaited is_awaited (frame ∷ frames) = false

-- what begins no frame (no whole frame is at the front of what is left)
abbrev pub spoilt_part : Front → List ℕ → List ℕ
spoilt_part (Whole frame n) octets = octets
spoilt_part More octets = []
spoilt_part (Never place why) octets = octets

-- what begins one
abbrev pub begun_part : Front → List ℕ → List ℕ
begun_part (Whole frame n) octets = []
begun_part More octets = octets
begun_part (Never place why) octets = []

-- The frames in octets from an outstation, behind those that are pending. What begins no frame goes
-- as it is, and what begins one waits for the rest.
abbrev pub received_in : (is_awaited : Bool) → LinkSize → Cut → List Serial
received_in is_awaited size cut =
    answers is_awaited cut.frames
    ++ no_frame (codes "spoilt") (spoilt_part (front_of size cut.rest) cut.rest)

abbrev pub arrived : Line → List ℕ → List Serial
arrived line octets =
    received_in line.is_awaited line.size (cut_of line.size (line.pending ++ octets))

abbrev pub line_behind : Line → Cut → Line
line_behind line cut = record line {
  pending = begun_part (front_of line.size cut.rest) cut.rest;
  is_awaited = still_awaited line.is_awaited cut.frames;
}

abbrev pub after_answer : Line → List ℕ → Line
after_answer line octets = line_behind line (cut_of line.size (line.pending ++ octets))

-- ---- Gaps

-- the number of a station, counted from 1, and that of the session that ended
abbrev pub gap_comment : (station session : ℕ) → List ℕ
gap_comment station session =
    codes "gap: station " ++ (decimal (station + 1) ++ (codes ", session " ++ decimal session))

-- A gap in a station's reports: its packet has no octets, since the line brought none.
abbrev pub gap : (station session : ℕ) → Serial
gap station session = record {
  is_request = false;
  octets = [];
  comment = gap_comment station session;
}
