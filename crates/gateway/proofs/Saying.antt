-- What is said on a connection bears the moments of the log.
use Rattle.std.proofs.Common.{◌≡◌, ℕ, Bool, List, [], ◌∷◌, Option}
use Rattle.std.proofs.Common.{refl, ap, sym, subst}
use Rattle.apci.specs.declared.apdu.Apdu.{Apdu}
use Rattle.apci.specs.declared.apdu.Apdu.TheVariants.{I, S, U}
use Rattle.session.specs.declared.kinds.Close.{Close}
use Rattle.session.specs.declared.kinds.Close.TheVariants.{Grammar, SendNumber, ReceiveNumber}
use Rattle.session.specs.declared.kinds.Close.TheVariants.{Stopped, Timeout, OwnAnswers, Replaced}
use Rattle.session.specs.History as talk
use Rattle.session.specs.History.{Happened, History}
use Rattle.gateway.specs.Log.{Log, LogEntry, LineIn, Opened, TcpIn, CutOff, Ticked, WallIs}
use Rattle.gateway.specs.Log.{Restarted, Came, Went, LineOut, TcpOut, Closed, GapOut, latest}
use Rattle.gateway.specs.Connections.{present}
use Rattle.gateway.specs.Reports.{Setup}
use Rattle.gateway.specs.Course.{Course, with_frames, with_sent, closed_course, IsLeft, Runs}
use Rattle.gateway.specs.Moments.{said_at, IsSaidInSteps}

-- a connection that is over said nothing
nothing : (log : Log) → IsSaidInSteps log []
nothing [] = refl
nothing (entry ∷ log) = ([], [], refl, tt, nothing log)

-- an entry adds nothing
same : (entry : LogEntry) (log : Log) (h : History) → IsSaidInSteps log h
    → IsSaidInSteps (entry ∷ log) h
same entry log h s = ([], h, refl, tt, s)

-- one more is said in its step
more : (entry : LogEntry) (log : Log) (said : Happened) (h : History)
    → said_at said ≡ latest (entry ∷ log) → IsSaidInSteps (entry ∷ log) h
    → IsSaidInSteps (entry ∷ log) (said ∷ h)
more entry log said h at s =
    (said ∷ s.0, s.1, ap (λ (l : History). said ∷ l) s.2, (at, s.3), s.4)

frames : (entry : LogEntry) (log : Log) (p : Setup) (fs : List Apdu) (wall : Option ℕ)
    (c : Course) → IsSaidInSteps (entry ∷ log) c.talk
    → IsSaidInSteps (entry ∷ log) (with_frames p fs (latest (entry ∷ log)) wall c).talk
frames entry log p [] wall c s = s
frames entry log p (f ∷ fs) wall c s =
    let at : ℕ = latest (entry ∷ log) in
    more entry log (talk.Came f at) (with_frames p fs at wall c).talk refl
    (frames entry log p fs wall c s)

sent : (entry : LogEntry) (log : Log) (f : Apdu) (c : Course) → IsSaidInSteps (entry ∷ log) c.talk
    → IsSaidInSteps (entry ∷ log) (with_sent f (latest (entry ∷ log)) c).talk
sent entry log (I ns nr asdu) c s = more entry log _ c.talk refl s
sent entry log (S nr) c s = more entry log _ c.talk refl s
sent entry log (U u) c s = more entry log _ c.talk refl s

closed : (entry : LogEntry) (log : Log) (p : Setup) (cause : Close) (is_open : Bool) (at : ℕ)
    (c : Course) → IsSaidInSteps log c.talk
    → IsSaidInSteps (entry ∷ log) (closed_course p cause is_open at c).talk
closed entry log p Grammar is_open at c s = nothing (entry ∷ log)
closed entry log p SendNumber is_open at c s = nothing (entry ∷ log)
closed entry log p ReceiveNumber is_open at c s = nothing (entry ∷ log)
closed entry log p Stopped is_open at c s = nothing (entry ∷ log)
closed entry log p Timeout is_open at c s = nothing (entry ∷ log)
closed entry log p OwnAnswers is_open at c s = nothing (entry ∷ log)
closed entry log p Replaced is_open at c s = same entry log c.talk s

-- an event comes, once the step before is done
left : (entry : LogEntry) (p : Setup) (log : Log) (before after : Course)
    → IsLeft p log before after → IsSaidInSteps log before.talk
    → IsSaidInSteps (entry ∷ log) after.talk
left entry p log before after l s =
    same entry log after.talk (subst (λ (c : Course). IsSaidInSteps log c.talk) (sym l.is) s)

pub said_in_steps : (p : Setup) (log : Log) (c : Course) → Runs p log c
    → IsSaidInSteps log c.talk
said_in_steps p [] c r = subst (λ (d : Course). IsSaidInSteps [] d.talk) (sym r) refl
said_in_steps p (Came now (LineIn octets) ∷ log) c r =
    let new : Log = Came now (LineIn octets) ∷ log in
    subst (λ (d : Course). IsSaidInSteps new d.talk) (sym r.5.2)
    (left (Came now (LineIn octets)) p log r.0 r.1 r.4 (said_in_steps p log r.0 r.2))
said_in_steps p (Came now (TcpIn octets) ∷ log) c r =
    let new : Log = Came now (TcpIn octets) ∷ log in
    subst (λ (d : Course). IsSaidInSteps new d.talk) (sym r.5.taken)
    (frames (Came now (TcpIn octets)) log p r.5.frames _ _
    (left (Came now (TcpIn octets)) p log r.0 r.1 r.4 (said_in_steps p log r.0 r.2)))
said_in_steps p (Came now Ticked ∷ log) c r =
    subst (λ (d : Course). IsSaidInSteps (Came now Ticked ∷ log) d.talk) (sym r.5)
    (left (Came now Ticked) p log r.0 r.1 r.4 (said_in_steps p log r.0 r.2))
said_in_steps p (Came now (WallIs number) ∷ log) c r =
    subst (λ (d : Course). IsSaidInSteps (Came now (WallIs number) ∷ log) d.talk) (sym r.5)
    (left (Came now (WallIs number)) p log r.0 r.1 r.4 (said_in_steps p log r.0 r.2))
said_in_steps p (Came now Opened ∷ log) c r =
    let new : Log = Came now Opened ∷ log in
    subst (λ (d : Course). IsSaidInSteps new d.talk) (sym r.5)
    (more (Came now Opened) log (talk.Opened (latest new)) [] refl (nothing new))
said_in_steps p (Came now CutOff ∷ log) c r =
    let new : Log = Came now CutOff ∷ log in
    subst (λ (d : Course). IsSaidInSteps new d.talk) (sym r.5) (nothing new)
said_in_steps p (Came now Restarted ∷ log) c r =
    let new : Log = Came now Restarted ∷ log in
    subst (λ (d : Course). IsSaidInSteps new d.talk) (sym r.5.1) (nothing new)
said_in_steps p (Went now (LineOut octets) ∷ log) c r =
    subst (λ (d : Course). IsSaidInSteps (Went now (LineOut octets) ∷ log) d.talk) (sym r.2.is)
    (same (Went now (LineOut octets)) log r.0.talk (said_in_steps p log r.0 r.1))
said_in_steps p (Went now (GapOut station session) ∷ log) c r =
    subst (λ (d : Course). IsSaidInSteps (Went now (GapOut station session) ∷ log) d.talk)
    (sym r.2.is)
    (same (Went now (GapOut station session)) log r.0.talk (said_in_steps p log r.0 r.1))
said_in_steps p (Went now (TcpOut octets) ∷ log) c r =
    let entry : LogEntry = Went now (TcpOut octets) in
    subst (λ (d : Course). IsSaidInSteps (Went now (TcpOut octets) ∷ log) d.talk) (sym r.4.taken)
    (frames entry log p r.4.frames _ r.1
    (subst (λ (d : Course). IsSaidInSteps (Went now (TcpOut octets) ∷ log) d.talk) (sym r.3.put)
    (sent entry log r.3.frame r.0 (same entry log r.0.talk (said_in_steps p log r.0 r.2)))))
said_in_steps p (Went now (Closed cause) ∷ log) c r =
    subst (λ (d : Course). IsSaidInSteps (Went now (Closed cause) ∷ log) d.talk) (sym r.2)
    (closed (Went now (Closed cause)) log p cause (present log).is_open (latest log) r.0
    (said_in_steps p log r.0 r.1))
