-- What comes over a line to its outstations, and what goes out (profile).
use Rattle.std.specs.Prelude.{◌||◌, ◌≡◌, ℕ, ◌+◌, ◌-◌, ◌^◌, ◌≤◌, min, Bool, true, false, List, []}
use Rattle.std.specs.Prelude.{◌∷◌, ◌++◌, drop, length, Option, Some, None, zero, suc, count_by}
use Rattle.std.specs.List.{list_all}
use Rattle.std.specs.Option.{is_none}
use Rattle.asdu.specs.declared.sizes.Sizes.{Sizes}
use Rattle.ft12.specs.Reading.{IsFront}
use Rattle.ft12.specs.Spelling.{spelling}
use Rattle.ft12.specs.declared.frame.Frame.{Frame}
use Rattle.ft12.specs.declared.frame.Front.TheVariants.{Whole, More, Never}
use Rattle.ft12.specs.declared.frame.LinkSize.{LinkSize}
use Rattle.ft12.specs.declared.frame.Why.{Why}
use Rattle.gateway.specs.Config.{Settings}
use Rattle.link.specs.Secondary.{Secondary}
use Rattle.live.specs.OctetStreams.{StreamHistory, Wrote, noted}
use Rattle.sim.specs.declared.stations.outstations.ReceivedFront.{ReceivedFront}
use Rattle.sim.specs.declared.stations.outstations.ReceivedFront.TheVariants.{Answered, NotTaken}
use Rattle.sim.specs.declared.stations.outstations.ReceivedFront.TheVariants.{Rest}
use Rattle.sim.specs.Lives.{IsPutOut, arriving, begun_from}
use Rattle.sim.specs.Losses.{fate_of}
use Rattle.sim.specs.Texts.{reports_for}
use Rattle.sim.specs.declared.directive.Directive.{Directive}
use Rattle.sim.specs.Late.{LateAnswer, at_once, delay_of, late_behind}
use Rattle.sim.specs.Progress.{none_replied}
use Rattle.sim.specs.declared.stations.cue.Cue.{Cue}
use Rattle.sim.specs.declared.stations.outstations.replying.ReplyProgress.{ReplyProgress}
use Rattle.sim.specs.declared.stations.scenario.Scenario.{Scenario}

-- The outstations of a line: the size of link addresses and the sizes of ASDUs, what the script
-- says, in lines of `sim` and in lines for them alone, how each stands, how many reports each had,
-- how far its replies are, how many requests came, as far as 64 bits count, the answer that goes
-- out
-- late, if one waits, and the octets that came since the last frame.
pub record OutstationsState : Type 0 where
  pub size : LinkSize
  pub sizes : Sizes
  pub directives : List Directive
  pub cues : List Cue
  pub stations : List Secondary
  pub had : List ℕ
  pub progress : List ReplyProgress
  pub requests : ℕ
  pub late : Option LateAnswer
  pub so_far : List ℕ

-- how many reports each of so many stations has from the start
abbrev pub first_counts : (stations : ℕ) → List Directive → List ℕ
first_counts zero ds = []
first_counts (suc n) ds = first_counts n ds ++ count_by (reports_for n) ds ∷ []

-- before the first request: each was never reset, and has the reports that the script gives it
abbrev pub first_standing : Settings → Scenario → OutstationsState
first_standing c s = record {
  size = c.line.link;
  sizes = c.line.sizes;
  directives = s.script;
  cues = s.cues.items;
  stations = begun_from c.line.link 0 s.script c.stations;
  had = first_counts (length c.stations) s.script;
  progress = none_replied (length c.stations);
  requests = 0;
  late = None;
  so_far = [];
}

-- the number of the next request
abbrev pub next_number : OutstationsState → ℕ
next_number s = min (s.requests + 1) (2 ^ 64 - 1)

-- A request is put out to the stations as the script says of its number, of which each receives it
-- or none does; what comes back is what the script leaves of the answer.
pub record ComesBack (old : OutstationsState) (request : Frame) (back : Option (List ℕ))
    (new : OutstationsState) : Type 0 where
  pub reply : Option Frame
  pub stations : List Secondary
  pub received : IsPutOut (fate_of old.directives (next_number old)) (spelling old.size request)
      old.stations reply stations
  pub answered : back ≡ arriving old.size (fate_of old.directives (next_number old)) reply
  pub new_is : new ≡ record old { stations = stations; requests = next_number old }

-- how late the script has the answer to the latest request go out
abbrev pub latest_delay : OutstationsState → Option ℕ
latest_delay s = delay_of s.requests s.cues

-- What comes back to a request is the answer at once, unless a line of the script delays it: then
-- it
-- waits.
pub record IsRequestAnswered (old : OutstationsState) (request : Frame) (answer : Option (List ℕ))
    (new : OutstationsState) : Type 0 where
  pub back : Option (List ℕ)
  pub received : OutstationsState
  pub comes : ComesBack old request back received
  pub answered : answer ≡ at_once (latest_delay received) back
  pub new_is : new
      ≡ record received { late = late_behind (latest_delay received) back received.late }

-- a request, what was written for it, and whether the stream took that
pub record RequestExchange : Type 0 where
  pub request : Frame
  pub answer : Option (List ℕ)
  pub is_taken : Bool

-- the stream took what was written, or nothing was
abbrev pub took : RequestExchange → Bool
took x = is_none x.answer || x.is_taken

-- requests, one after another
abbrev pub Exchanged : (old : OutstationsState) → List RequestExchange → (new : OutstationsState)
    → Type 0
Exchanged old [] new = new ≡ old
Exchanged old (x ∷ xs) new =
    (mid : OutstationsState) × IsRequestAnswered old x.request x.answer mid × Exchanged mid xs new

-- an answer is written in one piece, and nothing if there is none
abbrev pub answer_written : StreamHistory → Option (List ℕ) → (is_taken : Bool) → StreamHistory
answer_written before None is_taken = before
answer_written before (Some octets) is_taken = noted before (Wrote octets is_taken)

abbrev pub written : StreamHistory → List RequestExchange → StreamHistory
written before [] = before
written before (x ∷ xs) = written (answer_written before x.answer x.is_taken) xs

-- Octets come behind those that came since the last frame. These are the requests of the whole
-- frames at their front, one after another (IEC 60870-5-1, 6.2.4.2); behind the last one these are
-- its octets so far, and these are left.
abbrev pub Brings : LinkSize → (so_far octets : List ℕ) → List RequestExchange
    → (last left : List ℕ)
    → Type 0
Brings size so_far octets [] last left = (last ≡ so_far) × (left ≡ octets)
Brings size so_far octets (x ∷ xs) last left =
    (n : ℕ) × IsFront size (so_far ++ octets) (Whole x.request (length so_far + n))
    × Brings size [] (drop n octets) xs last left

-- What is kept of octets that are left behind those so far, and aren't a whole frame. If none are
-- left, those so far are kept, else the beginning of a frame, or nothing if they begin none.
pub data IsKeptRest (size : LinkSize) (last left : List ℕ) : (kept : List ℕ) → Type 0 where
  NoneLeft : left ≡ [] → IsKeptRest size last left last
  Begun : IsFront size (last ++ left) More → IsKeptRest size last left (last ++ left)
  Spoilt : (place : ℕ) (why : Why) → IsFront size (last ++ left) (Never place why)
      → IsKeptRest size last left []

-- What is received at the front of octets that came: a whole frame, which ends behind so many of
-- them, and is answered; or else all are kept, or dropped.
pub record IsFrameReceived (old : OutstationsState) (octets : List ℕ) (before after : StreamHistory)
    (n : ℕ)
    (is_taken : Bool) (new : OutstationsState) : Type 0 where
  pub exchange : RequestExchange
  pub mid : OutstationsState
  pub front : IsFront old.size (old.so_far ++ octets)
      (Whole exchange.request (length old.so_far + n))
  pub answered : IsRequestAnswered old exchange.request exchange.answer mid
  pub wrote : after ≡ answer_written before exchange.answer exchange.is_taken
  pub taken : is_taken ≡ took exchange
  pub new_is : new ≡ record mid { so_far = [] }

pub record IsRestKept (old : OutstationsState) (octets : List ℕ) (before after : StreamHistory)
    (new : OutstationsState) : Type 0 where
  pub kept : List ℕ
  pub is_kept : IsKeptRest old.size old.so_far octets kept
  pub nothing_wrote : after ≡ before
  pub new_is : new ≡ record old { so_far = kept }

abbrev pub IsFrontReceived : (old : OutstationsState) → (octets : List ℕ)
    → (before after : StreamHistory) → ReceivedFront
    → (new : OutstationsState) → Type 0
IsFrontReceived old octets before after (Answered n) new =
    IsFrameReceived old octets before after n true new × (n ≤ length octets) × (1 ≤ n)
IsFrontReceived old octets before after NotTaken new =
    (n : ℕ) × IsFrameReceived old octets before after n false new
IsFrontReceived old octets before after Rest new = IsRestKept old octets before after new

-- behind one that the stream didn't take there is none
abbrev pub StopsAtUntaken : List RequestExchange → Type 0
StopsAtUntaken [] = Unit {0}
StopsAtUntaken (x ∷ xs) = (took x ≡ false → xs ≡ []) × StopsAtUntaken xs

-- Octets came: the stations answered each whole frame among them, and each answer was written,
-- once, in their order, up to the first that the stream didn't take. If it took all, what is kept
-- begins the next frame. If it didn't, nothing is kept.
pub record HasReceived (old : OutstationsState) (octets : List ℕ) (before after : StreamHistory)
    (is_taken : Bool) (new : OutstationsState) : Type 0 where
  pub exchanges : List RequestExchange
  pub last : List ℕ
  pub left : List ℕ
  pub mid : OutstationsState
  pub brought : Brings old.size old.so_far octets exchanges last left
  pub answered : Exchanged old exchanges mid
  pub wrote : after ≡ written before exchanges
  pub taken : is_taken ≡ list_all took exchanges
  pub stops : StopsAtUntaken exchanges
  pub whole : is_taken ≡ true → IsKeptRest old.size last left new.so_far
  pub cut : is_taken ≡ false → new.so_far ≡ []
  pub new_is : new ≡ record mid { so_far = new.so_far }
