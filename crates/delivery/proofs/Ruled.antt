-- What was said on the open connection of a log keeps the rules of the session.
use Rattle.std.proofs.Common.{ℕ, Bool, List, [], ◌∷◌, refl, sym, subst}
use Rattle.apci.specs.declared.apdu.Apdu.{Apdu}
use Rattle.apci.specs.declared.apdu.Apdu.TheVariants.{I, S, U}
use Rattle.session.specs.declared.kinds.Close.{Close}
use Rattle.session.specs.declared.kinds.Close.TheVariants.{Grammar, SendNumber, ReceiveNumber}
use Rattle.session.specs.declared.kinds.Close.TheVariants.{Stopped, Timeout, OwnAnswers, Replaced}
use Rattle.session.specs.Rules.{KeepsRules}
use Rattle.gateway.specs.Log.{Log, Input, Came, Went, Opened, LineIn, TcpIn, CutOff, Ticked, WallIs}
use Rattle.gateway.specs.Log.{Restarted, LineOut, TcpOut, Closed, GapOut, latest}
use Rattle.gateway.specs.Connections.{present}
use Rattle.gateway.specs.Walls.{wall_on}
use Rattle.gateway.specs.Reports.{Setup}
use Rattle.gateway.specs.Course.{Course, with_frames, with_sent, logged_sent, closed_course}
use Rattle.gateway.specs.Course.{AreTaken, Comes, Runs}

abbrev IsRuled : Setup → Course → Type 0
IsRuled p c = KeepsRules p.session c.talk

module _ (p : Setup) where
  ruled_frames : (log : Log) (now : ℕ) (frames : List Apdu) (c : Course)
      → AreTaken p log now frames c → IsRuled p c
      → IsRuled p (with_frames p frames now (wall_on log now) c)
  ruled_frames log now [] c each h = h
  ruled_frames log now (frame ∷ frames) c each h = each.0.rules

  ruled_sent : (frame : Apdu) (now : ℕ) (c : Course)
      → KeepsRules p.session (logged_sent frame now c.talk) → IsRuled p (with_sent frame now c)
  ruled_sent (I ns nr asdu) now c h = h
  ruled_sent (S nr) now c h = h
  ruled_sent (U function) now c h = h

  ruled_closed : (cause : Close) (is_open : Bool) (at : ℕ) (c : Course) → IsRuled p c
      → IsRuled p (closed_course p cause is_open at c)
  ruled_closed Grammar is_open at c h = tt
  ruled_closed SendNumber is_open at c h = tt
  ruled_closed ReceiveNumber is_open at c h = tt
  ruled_closed Stopped is_open at c h = tt
  ruled_closed Timeout is_open at c h = tt
  ruled_closed OwnAnswers is_open at c h = tt
  ruled_closed Replaced is_open at c h = h

  ruled_come : (log : Log) (at : ℕ) (event : Input) (l c : Course) → Comes p log at event l c
      → IsRuled p l → IsRuled p c
  ruled_come log at (LineIn octets) l c k h = subst (IsRuled p) (sym k.2) h
  ruled_come log at (TcpIn octets) l c k h =
      subst (IsRuled p) (sym k.taken) (ruled_frames _ at k.frames _ k.each h)
  ruled_come log at Ticked l c k h = subst (IsRuled p) (sym k) h
  ruled_come log at (WallIs number) l c k h = subst (IsRuled p) (sym k) h
  ruled_come log at Opened l c k h = subst (IsRuled p) (sym k) (refl, tt)
  ruled_come log at CutOff l c k h = subst (IsRuled p) (sym k) tt
  ruled_come log at Restarted l c k h = subst (IsRuled p) (sym k.1) tt

  pub ruled : (log : Log) (c : Course) → Runs p log c → IsRuled p c
  ruled [] c r = subst (IsRuled p) (sym r) tt
  ruled (Came now event ∷ log) c r = ruled_come log _ event r.1 c r.5
      (subst (IsRuled p) (sym r.4.is) (ruled log r.0 r.2))
  ruled (Went now (LineOut octets) ∷ log) c r =
      subst (IsRuled p) (sym r.2.is) (ruled log r.0 r.1)
  ruled (Went now (GapOut station session) ∷ log) c r =
      subst (IsRuled p) (sym r.2.is) (ruled log r.0 r.1)
  ruled (Went now (TcpOut octets) ∷ log) c r =
      subst (IsRuled p) (sym r.4.taken) (ruled_frames _ (latest log) r.4.frames r.1 r.4.each
      (subst (IsRuled p) (sym r.3.put) (ruled_sent r.3.frame (latest log) r.0 r.3.rules)))
  ruled (Went now (Closed cause) ∷ log) c r = subst (IsRuled p) (sym r.2)
      (ruled_closed cause (present log).is_open (latest log) r.0 (ruled log r.0 r.1))
