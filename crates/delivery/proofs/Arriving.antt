-- When the octets of frames came: behind those of each frame taken before, and with the latest
-- event.
use Rattle.std.proofs.Common.{◌≡◌, ℕ, zero, suc, ◌+◌, ◌-◌, ◌≤◌, ◌<◌, Bool, true, false, Option}
use Rattle.std.proofs.Common.{Some, List, [], ◌∷◌, ◌++◌, length, take, map, refl, ap, sym, ◌∙◌}
use Rattle.std.proofs.Common.{length-append, arith, if◌then◌else◌}
use Rattle.std.specs.Prelude.{get_or, min}
use Rattle.std.proofs.lemmas.List.{take-append-le, get_or_append_left, get_or-append-add}
use Rattle.std.proofs.Math.Seq.{take-append_seam}
use Rattle.apci.specs.declared.apdu.Apdu.{Apdu}
use Rattle.apci.specs.declared.apdu.Apdu.TheVariants.{I, S, U}
use Rattle.apci.specs.declared.apdu.Front.{Front}
use Rattle.apci.specs.declared.apdu.Front.TheVariants.{Whole, More}
use Rattle.apci.specs.Spelling.{IsApdu, Fits, spelling}
use Rattle.apci.specs.Reading.{IsFront, IsMore}
use Rattle.session.specs.declared.kinds.Close.TheVariants.{Grammar, SendNumber, ReceiveNumber}
use Rattle.session.specs.declared.kinds.Close.TheVariants.{Stopped, Timeout, OwnAnswers, Replaced}
use Rattle.gateway.specs.Log.{Restarted}
use Rattle.gateway.specs.Log.{Log, LogEntry, Came, Went, Opened, LineIn, TcpIn, CutOff, Ticked}
use Rattle.gateway.specs.Log.{WallIs, LineOut, TcpOut, Closed, GapOut, latest}
use Rattle.gateway.specs.Streams.{spelled}
use Rattle.gateway.specs.Connections.{present, received_before}
use Rattle.gateway.specs.Walls.{wall_on}
use Rattle.delivery.specs.Arrivals.{present_logs, arrivals_in, Arrival, HasNoWall, ShowsAt}
use Rattle.delivery.proofs.Frames.{joined_by}

-- `apci`: octets have one front
abbrev pub HaveOneFront : Type 0
HaveOneFront = (x : List ℕ) (a b : Front) → IsFront x a → IsFront x b → a ≡ b

-- ---- A frame ends behind what was the beginning of one.

module _ (one : HaveOneFront) where
  -- no frame stands in what may still become one
  not_within : (frame : Apdu) (begun octets rest : List ℕ) → Fits frame → IsMore begun
      → begun ++ octets ≡ spelling frame ++ rest → length (spelling frame) ≤ length begun → ⊥
  not_within frame begun octets rest fits more joined within =
      let front : take (length (spelling frame)) begun ≡ spelling frame =
      sym (take-append-le (length (spelling frame)) begun octets within)
      ∙ ap (λ (l : List ℕ). take (length (spelling frame)) l) joined
      ∙ take-append_seam (spelling frame) rest in
      let line : IsApdu frame (take (length (spelling frame)) begun) =
      record { fits = fits; spelled = front } in
      let same : More ≡ Whole frame (length (spelling frame)) =
      one begun More (Whole frame (length (spelling frame))) more (line, within) in
      cc

  pub ends_behind : (frame : Apdu) (begun octets rest : List ℕ) → Fits frame → IsMore begun
      → begun ++ octets ≡ spelling frame ++ rest → length begun < length (spelling frame)
  ends_behind frame begun octets rest fits more joined =
      omega (arith, not_within frame begun octets rest fits more joined)

-- ---- The logs of octets

length_of_map : (f : ℕ → Log) (xs : List ℕ) → length (map f xs) ≡ length xs
length_of_map f [] = refl
length_of_map f (x ∷ xs) = ap suc (length_of_map f xs)

-- each octet received has one
pub logs_as_octets : (log : Log) → length (present_logs log) ≡ length (present log).received
logs_as_octets [] = refl
logs_as_octets (Came now Opened ∷ log) = refl
logs_as_octets (Came now CutOff ∷ log) = refl
logs_as_octets (Came now (TcpIn octets) ∷ log) = go (present log).is_open refl (logs_as_octets log)
  where
    each : List Log
    each = map (λ (octet : ℕ). let l : Log = Came now (TcpIn octets) ∷ log in l) octets

    go : (b : Bool) → (present log).is_open ≡ b → length (present_logs log)
        ≡ length (present log).received →
        length (if b then present_logs log ++ each else present_logs log)
        ≡ length (joined_by b (present log) octets).received
    go true is ih = omega (
      arith,
      ih,
      length-append (present_logs log) each,
      length-append (present log).received octets,
      length_of_map
          (λ (octet : ℕ). let l : Log = Came now (TcpIn octets) ∷ log in l) octets,
    )
    go false is ih = ih
logs_as_octets (Came now (LineIn octets) ∷ log) = logs_as_octets log
logs_as_octets (Came now Ticked ∷ log) = logs_as_octets log
logs_as_octets (Came now (WallIs number) ∷ log) = logs_as_octets log
logs_as_octets (Came now Restarted ∷ log) = refl
logs_as_octets (Went now (LineOut octets) ∷ log) = logs_as_octets log
logs_as_octets (Went now (GapOut station session) ∷ log) = logs_as_octets log
logs_as_octets (Went now (TcpOut octets) ∷ log) = logs_as_octets log
logs_as_octets (Went now (Closed Grammar) ∷ log) = refl
logs_as_octets (Went now (Closed SendNumber) ∷ log) = refl
logs_as_octets (Went now (Closed ReceiveNumber) ∷ log) = refl
logs_as_octets (Went now (Closed Stopped) ∷ log) = refl
logs_as_octets (Went now (Closed Timeout) ∷ log) = refl
logs_as_octets (Went now (Closed OwnAnswers) ∷ log) = refl
logs_as_octets (Went now (Closed Replaced) ∷ log) = logs_as_octets log

-- what the wall clock shows at the log's moment
abbrev pub wall_in : Log → Option ℕ
wall_in log = wall_on log (latest log)

in_constant : (l : Log) (octets : List ℕ) (n : ℕ) → n < length octets
    → get_or (map (λ (octet : ℕ). l) octets) n [] ≡ l
in_constant l [] n h = absurd (omega (arith, h))
in_constant l (x ∷ octets) zero h = refl
in_constant l (x ∷ octets) (suc n) h = in_constant l octets n (omega (arith, h))

-- An octet that came with the latest event came when the wall clock showed what it shows now.
pub came_now : (log : Log) (n : ℕ) → length (received_before log) ≤ n
    → n < length (present log).received
    → wall_in (get_or (present_logs log) n []) ≡ wall_in log
came_now [] n low high = absurd (omega (arith, high))
came_now (Came now Opened ∷ log) n low high = absurd (omega (arith, high))
came_now (Came now CutOff ∷ log) n low high = absurd (omega (arith, high))
came_now (Came now (TcpIn octets) ∷ log) n low high = go (present log).is_open refl high
  where
    here : Log
    here = Came now (TcpIn octets) ∷ log

    each : List Log
    each = map (λ (octet : ℕ). here) octets

    go : (b : Bool) → (present log).is_open ≡ b
        → n < length (joined_by b (present log) octets).received →
        wall_in (get_or (if b then present_logs log ++ each else present_logs log) n [])
        ≡ wall_in here
    go true is h =
        let count = logs_as_octets log in
        let place : ℕ = n - length (present_logs log) in
        let at : get_or (present_logs log ++ each) (length (present_logs log) + place) []
        ≡ get_or each place [] =
        get_or-append-add (present_logs log) each place [] in
        let index : length (present_logs log) + place ≡ n = omega (arith, low, count) in
        ap wall_in (ap (λ (m : ℕ). get_or (present_logs log ++ each) m []) (sym index) ∙ at
        ∙ in_constant here octets place
        (omega (arith, low, h, count, length-append (present log).received octets)))
    go false is h = absurd (omega (arith, low, h))
came_now (Came now (LineIn octets) ∷ log) n low high = absurd (omega (arith, low, high))
came_now (Came now Ticked ∷ log) n low high = absurd (omega (arith, low, high))
came_now (Came now (WallIs number) ∷ log) n low high = absurd (omega (arith, low, high))
came_now (Came now Restarted ∷ log) n low high = absurd (omega (arith, high))
came_now (Went now (LineOut octets) ∷ log) n low high = came_now log n low high
came_now (Went now (GapOut station session) ∷ log) n low high = came_now log n low high
came_now (Went now (TcpOut octets) ∷ log) n low high = came_now log n low high
came_now (Went now (Closed Grammar) ∷ log) n low high = absurd (omega (arith, high))
came_now (Went now (Closed SendNumber) ∷ log) n low high = absurd (omega (arith, high))
came_now (Went now (Closed ReceiveNumber) ∷ log) n low high = absurd (omega (arith, high))
came_now (Went now (Closed Stopped) ∷ log) n low high = absurd (omega (arith, high))
came_now (Went now (Closed Timeout) ∷ log) n low high = absurd (omega (arith, high))
came_now (Went now (Closed OwnAnswers) ∷ log) n low high = absurd (omega (arith, high))
came_now (Went now (Closed Replaced) ∷ log) n low high = came_now log n low high

-- ---- What came stays.

pub spelled_grows : (frame : Apdu) (older : List Apdu) → length (spelled older)
    < length (spelled (frame ∷ older))
spelled_grows frame older = omega (arith, length-append (spelled older) (spelling frame))

-- octets that come later change nothing of the frames that have come
pub arrivals_stay : (frames : List Apdu) (logs more : List Log) → length (spelled frames)
    ≤ length logs
    → arrivals_in frames (logs ++ more) ≡ arrivals_in frames logs
arrivals_stay [] logs more h = refl
arrivals_stay (I ns nr asdu ∷ older) logs more h =
    let longer = spelled_grows (I ns nr asdu) older in
    ap (λ (l : List Arrival). l ++ record {
      asdu = asdu.items;
      log =
          get_or (logs ++ more) (length (spelled (I ns nr asdu ∷ older)) - 1) [];
    } ∷ [])
    (arrivals_stay older logs more (omega (arith, h, longer)))
    ∙ ap (λ (l : Log). arrivals_in older logs ++ record { asdu = asdu.items; log = l } ∷ [])
    (get_or_append_left logs more [] (length (spelled (I ns nr asdu ∷ older)) - 1)
    (omega (arith, h, longer)))
arrivals_stay (S nr ∷ older) logs more h =
    arrivals_stay older logs more (omega (arith, h, spelled_grows (S nr) older))
arrivals_stay (U u ∷ older) logs more h =
    arrivals_stay older logs more (omega (arith, h, spelled_grows (U u) older))

-- ---- The wall clock

-- an entry that gives no wall clock changes nothing
further : (entry : LogEntry) (log : Log) (at clock : ℕ)
    → ((l : Log) → HasNoWall l → HasNoWall (entry ∷ l))
    → ShowsAt log at clock → ShowsAt (entry ∷ log) at clock
further entry log at clock none s = record {
  since = entry ∷ s.since;
  now = s.now;
  number = s.number;
  before = s.before;
  logged = ap (λ (l : Log). entry ∷ l) s.logged;
  latest_logged = none s.since s.latest_logged;
  shows = s.shows;
}

pub shown : (log : Log) (at clock : ℕ) → wall_on log at ≡ Some clock → ShowsAt log at clock
shown [] at clock h = cc
shown (Came now (WallIs number) ∷ log) at clock h = record {
  since = [];
  now = now;
  number = number;
  before = log;
  logged = refl;
  latest_logged = tt;
  shows = let is : min (number + (at - latest (Came now (WallIs number) ∷ log)))
      18446744073709551615 ≡ clock = cc in
      sym is;
}
shown (Came now Opened ∷ log) at clock h =
    further (Came now Opened) log at clock (λ (l : Log) (t : HasNoWall l). t)
    (shown log at clock h)
shown (Came now CutOff ∷ log) at clock h =
    further (Came now CutOff) log at clock (λ (l : Log) (t : HasNoWall l). t)
    (shown log at clock h)
shown (Came now (TcpIn octets) ∷ log) at clock h = further (Came now (TcpIn octets)) log at clock
    (λ (l : Log) (t : HasNoWall l). t) (shown log at clock h)
shown (Came now (LineIn octets) ∷ log) at clock h = further (Came now (LineIn octets)) log at clock
    (λ (l : Log) (t : HasNoWall l). t) (shown log at clock h)
shown (Came now Ticked ∷ log) at clock h =
    further (Came now Ticked) log at clock (λ (l : Log) (t : HasNoWall l). t)
    (shown log at clock h)
shown (Came now Restarted ∷ log) at clock h =
    further (Came now Restarted) log at clock (λ (l : Log) (t : HasNoWall l). t)
    (shown log at clock h)
shown (Went now action ∷ log) at clock h =
    further (Went now action) log at clock (λ (l : Log) (t : HasNoWall l). t)
    (shown log at clock h)
