-- The frames of a course: they fit, and if no connection is open there are none.
use Rattle.std.proofs.Common.{◌≡◌, ℕ, Bool, true, false, List, [], ◌∷◌, ◌++◌, length, refl, ap, sym}
use Rattle.std.proofs.Common.{◌∙◌, length-append, arith, if◌then◌else◌}
use Rattle.apci.specs.declared.apdu.Apdu.{Apdu}
use Rattle.apci.specs.declared.apdu.Apdu.TheVariants.{I, S, U}
use Rattle.apci.specs.Spelling.{spelling}
use Rattle.session.specs.declared.kinds.Close.TheVariants.{Grammar, SendNumber, ReceiveNumber}
use Rattle.session.specs.declared.kinds.Close.TheVariants.{Stopped, Timeout, OwnAnswers, Replaced}
use Rattle.session.specs.History.{History}
use Rattle.gateway.specs.Log.{Restarted}
use Rattle.gateway.specs.Log.{Log, Came, Went, Opened, LineIn, TcpIn, CutOff, Ticked, WallIs}
use Rattle.gateway.specs.Log.{LineOut, TcpOut, Closed, GapOut, latest}
use Rattle.gateway.specs.Streams.{spelled}
use Rattle.gateway.specs.Connections.{Channel, present}
use Rattle.gateway.specs.Reports.{Setup}
use Rattle.gateway.specs.Course.{Course, came_frames, logged_sent, Runs}

-- No frame has no octets.

no_frames : (frames : List Apdu) (rest : List ℕ) → spelled frames ++ rest ≡ [] → frames ≡ []
no_frames [] rest h = refl
no_frames (frame ∷ older) rest h =
    let count = ap (λ (l : List ℕ). length l) h in
    absurd (omega (
      arith,
      count,
      length-append (spelled older ++ spelling frame) rest,
      length-append (spelled older) (spelling frame),
    ))

-- octets come, if a connection is open
abbrev pub joined_by : Bool → Channel → List ℕ → Channel
joined_by b c octets = if b then record {
  is_open = true;
  sent = c.sent;
  received = c.received ++ octets;
  lacked_place =
      c.lacked_place;
} else c

pub none_received : (log : Log) → (present log).is_open ≡ false → (present log).received ≡ []
none_received [] h = refl
none_received (Came now Opened ∷ log) h = cc
none_received (Came now CutOff ∷ log) h = refl
none_received (Came now (TcpIn octets) ∷ log) h =
    go (present log).is_open refl h (λ e. none_received log e)
  where
    go : (b : Bool) → (present log).is_open ≡ b → (joined_by b (present log) octets).is_open ≡ false
        → ((present log).is_open ≡ false → (present log).received ≡ [])
        → (joined_by b (present log) octets).received ≡ []
    go true is e ih = cc
    go false is e ih = ih is
none_received (Came now (LineIn octets) ∷ log) h = none_received log h
none_received (Came now Ticked ∷ log) h = none_received log h
none_received (Came now (WallIs number) ∷ log) h = none_received log h
none_received (Came now Restarted ∷ log) h = refl
none_received (Went now (LineOut octets) ∷ log) h = none_received log h
none_received (Went now (GapOut station session) ∷ log) h = none_received log h
none_received (Went now (TcpOut octets) ∷ log) h = none_received log h
none_received (Went now (Closed Grammar) ∷ log) h = refl
none_received (Went now (Closed SendNumber) ∷ log) h = refl
none_received (Went now (Closed ReceiveNumber) ∷ log) h = refl
none_received (Went now (Closed Stopped) ∷ log) h = refl
none_received (Went now (Closed Timeout) ∷ log) h = refl
none_received (Went now (Closed OwnAnswers) ∷ log) h = refl
none_received (Went now (Closed Replaced) ∷ log) h = none_received log h

-- A frame that goes out is none that came.

pub logged_came : (frame : Apdu) (now : ℕ) (h : History) → came_frames (logged_sent frame now h)
    ≡ came_frames h
logged_came (I ns nr asdu) now h = refl
logged_came (S nr) now h = refl
logged_came (U u) now h = refl

-- If no connection is open, none came.

taken_none : (log : Log) (frames : List Apdu) (rest : List ℕ) → (present log).is_open ≡ false
    → (present log).received ≡ spelled frames ++ rest → frames ≡ []
taken_none log frames rest closed joined = no_frames frames rest (sym joined
    ∙ none_received log closed)

pub none_came : (p : Setup) (log : Log) (c : Course) → Runs p log c → (present log).is_open ≡ false
    → came_frames c.talk ≡ []
none_came p [] c r closed = ap (λ (x : Course). came_frames x.talk) r
none_came p (Came now Opened ∷ log) c r closed = cc
none_came p (Came now CutOff ∷ log) c r closed = ap (λ (x : Course). came_frames x.talk) r.5
none_came p (Came now (TcpIn octets) ∷ log) c r closed =
    taken_none (Came (latest (Came now (TcpIn octets) ∷ log)) (TcpIn octets) ∷ log)
    (came_frames c.talk) r.5.rest closed r.5.joined
none_came p (Came now (LineIn octets) ∷ log) c r closed =
    ap (λ (x : Course). came_frames x.talk) r.5.2 ∙ ap (λ (x : Course). came_frames x.talk) r.4.is
    ∙ none_came p log r.0 r.2 closed
none_came p (Came now Ticked ∷ log) c r closed = ap (λ (x : Course). came_frames x.talk) r.5
    ∙ ap (λ (x : Course). came_frames x.talk) r.4.is ∙ none_came p log r.0 r.2 closed
none_came p (Came now (WallIs number) ∷ log) c r closed =
    ap (λ (x : Course). came_frames x.talk) r.5
    ∙ ap (λ (x : Course). came_frames x.talk) r.4.is ∙ none_came p log r.0 r.2 closed
none_came p (Came now Restarted ∷ log) c r closed =
    ap (λ (x : Course). came_frames x.talk) r.5.1
none_came p (Went now (LineOut octets) ∷ log) c r closed =
    ap (λ (x : Course). came_frames x.talk) r.2.is
    ∙ none_came p log r.0 r.1 closed
none_came p (Went now (GapOut station session) ∷ log) c r closed =
    ap (λ (x : Course). came_frames x.talk) r.2.is
    ∙ none_came p log r.0 r.1 closed
none_came p (Went now (TcpOut octets) ∷ log) c r closed =
    taken_none (Went now (TcpOut octets) ∷ log) (came_frames c.talk) r.4.rest closed r.4.joined
none_came p (Went now (Closed Grammar) ∷ log) c r closed =
    ap (λ (x : Course). came_frames x.talk) r.2
none_came p (Went now (Closed SendNumber) ∷ log) c r closed =
    ap (λ (x : Course). came_frames x.talk) r.2
none_came p (Went now (Closed ReceiveNumber) ∷ log) c r closed =
    ap (λ (x : Course). came_frames x.talk) r.2
none_came p (Went now (Closed Stopped) ∷ log) c r closed =
    ap (λ (x : Course). came_frames x.talk) r.2
none_came p (Went now (Closed Timeout) ∷ log) c r closed =
    ap (λ (x : Course). came_frames x.talk) r.2
none_came p (Went now (Closed OwnAnswers) ∷ log) c r closed =
    ap (λ (x : Course). came_frames x.talk) r.2
none_came p (Went now (Closed Replaced) ∷ log) c r closed =
    ap (λ (x : Course). came_frames x.talk) r.2
    ∙ none_came p log r.0 r.1 closed
