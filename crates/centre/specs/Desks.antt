-- A control centre over a stream of octets, with the text of what passes (this gateway's own
-- profile).
use Rattle.std.specs.Prelude.{◌≡◌, ◌⊎◌, ℕ, ◌+◌, Bool, if◌then◌else◌, List, [], ◌++◌, drop, length}
use Rattle.std.specs.Prelude.{Option, Some, None, IfSome, IfNone}
use Rattle.apci.specs.Assembly.{Assembly, Receives}
use Rattle.apci.specs.Spelling.{spelling}
use Rattle.apci.specs.declared.apdu.Apdu.{Apdu}
use Rattle.apci.specs.declared.assembling.Received.{Received}
use Rattle.apci.specs.declared.assembling.Received.TheVariants.{Whole, More, Never, Deaf}
use Rattle.live.specs.OctetStreams.{Happening, StreamHistory, FitsBuffer, looked, noted}
use Rattle.live.specs.OctetStreams.{Gave, WasQuiet, WasGone, Wrote}
use Rattle.live.specs.declared.ends.Got.{Got}
use Rattle.session.specs.declared.kinds.Close.TheVariants.{Grammar}
use Rattle.centre.specs.Centres.{cut_off, next_of, took}
use Rattle.centre.specs.Telling.{told}
use Rattle.centre.specs.declared.centre.Centre.{Centre}
use Rattle.centre.specs.declared.errand.Loss.TheVariants.{Closed, Gone, Untaken}
use Rattle.centre.specs.declared.telling.Style.{Style}
use Rattle.centre.specs.declared.telling.Way.TheVariants.{FromCentre, FromGateway}

-- how what passes is told, what has happened at the stream, what came since the last APDU, and the
-- control centre
pub record Desk : Type 0 where
  pub style : Style
  pub stream : StreamHistory
  pub assembly : Assembly
  pub centre : Centre

-- a desk, and the text of what passed so far
pub record Scene : Type 0 where
  pub desk : Desk
  pub text : List ℕ

abbrev pub scene : Desk → List ℕ → Scene
scene desk text = record { desk = desk; text = text }

abbrev pub with_centre : Centre → Scene → Scene
with_centre c s = record s { desk = record s.desk { centre = c } }

-- ---- What goes out

-- the centre behind what was due
abbrev pub stepped : (now : ℕ) → Scene → Scene
stepped now s = with_centre (next_of now s.desk.centre).1 s

-- an APDU is told and written; if the stream doesn't take it, the connection is lost
abbrev pub put_out : (now : ℕ) → Apdu → (is_taken : Bool) → Scene → Scene
put_out now a is_taken s = record {
  desk = record s.desk {
    stream = noted s.desk.stream (Wrote (spelling a) is_taken);
    centre = if is_taken then s.desk.centre else cut_off Untaken s.desk.centre;
  };
  text = s.text ++ told s.desk.style FromCentre now a;
}

abbrev pub IsPut : (now : ℕ) → Apdu → (old new : Scene) → Type 0
IsPut now a old new = (is_taken : Bool) × (new ≡ put_out now a is_taken old)

-- so many APDUs that were due went out, one after another
pub data Sends (now : ℕ) (first : Scene) : (count : ℕ) → Scene → Type 0 where
  None_yet : Sends now first 0 first
  One_more : (n : ℕ) (mid : Scene) (a : Apdu) (new : Scene) → Sends now first n mid
      → (next_of now mid.desk.centre).0 ≡ Some a → IsPut now a (stepped now mid) new
      → Sends now first (n + 1) new

-- nothing more is due, or 64 went out
abbrev pub IsSentOff : (now count : ℕ) → (mid new : Scene) → Type 0
IsSentOff now n mid new =
    (((next_of now mid.desk.centre).0 ≡ None) × (new ≡ stepped now mid))
    ⊎ ((n ≡ 64) × (new ≡ mid))

pub record HasSent (now : ℕ) (old new : Scene) : Type 0 where
  pub count : ℕ
  pub mid : Scene
  pub sends : Sends now old count mid
  pub all : IsSentOff now count mid new

-- ---- What comes

-- an assembler is fed
pub record IsFed (old : Assembly) (octets : List ℕ) (n : ℕ) (arrived : Received) (new : Assembly)
    : Type 0 where
  pub listening : IfSome old.so_far (λ so_far. Receives so_far octets n arrived new)
  pub deaf : IfNone old.so_far ((n ≡ length octets) × (arrived ≡ Deaf) × (new ≡ old))

abbrev pub with_assembly : Assembly → Scene → Scene
with_assembly assembly s = record s { desk = record s.desk { assembly = assembly } }

-- an APDU came and is told
abbrev pub taken_in : (now : ℕ) → Apdu → Scene → Scene
taken_in now a s = record {
  desk = record s.desk { centre = took a now s.desk.centre };
  text = s.text ++ told s.desk.style FromGateway now a;
}

-- what is due then is sent
abbrev pub IsTakenIn : (now : ℕ) → Apdu → (old new : Scene) → Type 0
IsTakenIn now a old new = HasSent now (taken_in now a old) new

abbrev pub AreTaken : (now : ℕ) → Option Apdu → (old new : Scene) → Type 0
AreTaken now None old new = new ≡ old
AreTaken now (Some a) old new = IsTakenIn now a old new

-- octets that begin no APDU end the connection
abbrev pub IsArrived : (now : ℕ) → Received → (fed : Assembly) → (old new : Scene) → Type 0
IsArrived now Whole fed old new =
    AreTaken now fed.whole (with_assembly (record fed { whole = None }) old) new
IsArrived now More fed old new = new ≡ with_assembly fed old
IsArrived now (Never place why) fed old new =
    new ≡ with_assembly fed (with_centre (cut_off (Closed Grammar) old.desk.centre) old)
IsArrived now Deaf fed old new =
    new ≡ with_assembly fed (with_centre (cut_off (Closed Grammar) old.desk.centre) old)

-- octets up to the end of an APDU, or else all
pub record IsFrontTaken (now : ℕ) (octets : List ℕ) (n : ℕ) (old new : Scene) : Type 0 where
  pub arrived : Received
  pub fed : Assembly
  pub feeds : IsFed old.desk.assembly octets n arrived fed
  pub takes : IsArrived now arrived fed old new

-- what is left of octets of which fronts were taken, one after another
pub data Takes (now : ℕ) (octets : List ℕ) (first : Scene) : (left : List ℕ) → Scene → Type 0 where
  Nothing_yet : Takes now octets first octets first
  Front : (left : List ℕ) (mid : Scene) (n : ℕ) (new : Scene) → Takes now octets first left mid
      → IsFrontTaken now left n mid new → Takes now octets first (drop n left) new

abbrev pub HasReceived : (now : ℕ) → (octets : List ℕ) → (old new : Scene) → Type 0
HasReceived now octets old new = Takes now octets old [] new

-- ---- A round

abbrev pub IsSeen : (now : ℕ) → Happening → (old new : Scene) → Type 0
IsSeen now (Gave octets) old new = HasReceived now octets old new
IsSeen now WasQuiet old new = new ≡ old
IsSeen now WasGone old new = new ≡ with_centre (cut_off Gone old.desk.centre) old
IsSeen now _ old new = ⊥

abbrev pub with_look : Happening → Scene → Scene
with_look found s = record s {
  desk = record s.desk { stream = noted s.desk.stream found };
}

-- a look at the stream, and what is due behind it
pub record IsRound (now : ℕ) (old new : Scene) : Type 0 where
  pub got : Got
  pub buf : List ℕ
  pub fits : FitsBuffer got
  pub seen : Scene
  pub looks : IsSeen now (looked got buf) (with_look (looked got buf) old) seen
  pub sends : HasSent now seen new
