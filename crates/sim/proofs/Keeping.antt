-- The fields of the port after one event or one action.
use Rattle.std.proofs.Common.{◌≡◌, ℕ, ◌+◌, ◌<◌, ◌^◌, min, List, [], ◌∷◌, ◌++◌, length, replicate}
use Rattle.std.proofs.Common.{take, drop, Option, None, IfSome, if◌then◌else◌, ap, ◌∙◌}
use Rattle.std.specs.List.{AllByRecursion}
use Rattle.std.proofs.lemmas.List.{take_at}
use Rattle.ft12.specs.declared.frame.Frame.{Frame}
use Rattle.ft12.specs.Spelling.{Fits}
use Rattle.link.specs.Secondary.{Secondary}
use Rattle.gateway.specs.Log.{Log, LogEntry, Came, Went, Input, LineOut, TcpOut, Closed, GapOut}
use Rattle.gateway.specs.Log.{last_moment}
use Rattle.session.specs.declared.kinds.Close.{Close}
use Rattle.sim.specs.declared.centre.Centre.{Centre}
use Rattle.sim.specs.Centres.{shut, after_receiving}
use Rattle.sim.specs.Connections.{objects_in_apdu, add_latest, counted_after}
use Rattle.sim.specs.Losses.{fate_of, turns_of}
use Rattle.sim.specs.Lives.{Plan, IsPutOut, arriving}
use Rattle.sim.specs.Calls.{event_at, lasting}
use Rattle.sim.specs.Played.{Standing, Stands, Simulated, coming, centre_after, moment_at, is_given}
use Rattle.sim.specs.Tallies.{Tallied, fresh_tally, tallied_after, tallied_asked}
use Rattle.sim.proofs.Standing.{stands_came, stands_asked, stands_handed, stands_closed}
use Rattle.sim.proofs.Standing.{stands_logged, stands_fresh}
use Rattle.sim.proofs.Below.{KeepsSize}
use Rattle.sim.proofs.ReceivingLemmas.{sizes_out}

pub entry_is : (s v : Simulated) (event : Input) (now : ℕ) → v ≡ s
    → event ≡ event_at v.plan.directives (v.standing.call + 1) v.standing.centre v.standing.waiting
    →
    now ≡ min (s.standing.moment + lasting s.plan.answer_ms event) last_moment
    → Came now event ≡ coming s.plan s.standing
entry_is s v event now e ev at =
    let due : event ≡ event_at s.plan.directives (s.standing.call + 1) s.standing.centre
    s.standing.waiting =
    ev
    ∙ ap (λ (w : Simulated). event_at w.plan.directives (w.standing.call + 1) w.standing.centre
    w.standing.waiting)
    e in
    ap (λ (n : ℕ). Came n event) at
    ∙ ap (λ (x : Input). Came (min (s.standing.moment + lasting s.plan.answer_ms x) last_moment) x)
    due

pub come_kept : (plan : Plan) (log new : Log) (stations : List Secondary) (at : Standing)
    (entry : LogEntry)
    (waiting : Option (List ℕ)) (centre : Centre) (moment : ℕ) (counts : List ℕ) (tallied : Tallied)
    →
    new ≡ entry ∷ log → entry ≡ coming plan at → at.call < turns_of plan.directives
    → waiting ≡ (if is_given entry then None else at.waiting)
    → centre ≡ centre_after entry at.centre
    → moment ≡ moment_at entry → counts ≡ counted_after entry at.counts
    → tallied ≡ tallied_after plan.setup entry at.tallied → Stands plan log stations at →
    Stands plan new stations (record {
      waiting = waiting;
      centre = centre;
      call = at.call + 1;
      moment = moment;
      requests = at.requests;
      counts = counts;
      tallied = tallied;
    })
come_kept plan log new stations at entry waiting centre moment counts tallied push due few w c m n t
    k =
    rw (push, w, c, m, n, t) (stands_came plan log stations at entry due few k)

pub hand_kept : (plan : Plan) (log new : Log) (stations : List Secondary) (at : Standing) (now : ℕ)
    (octets : List ℕ) (centre : Centre) (counts : List ℕ) →
    new ≡ Went now (TcpOut octets) ∷ log → centre ≡ after_receiving octets at.centre
    → counts ≡ add_latest (objects_in_apdu octets) at.counts → Stands plan log stations at →
    Stands plan new stations (record {
      waiting = at.waiting;
      centre = centre;
      call = at.call;
      moment = at.moment;
      requests = at.requests;
      counts = counts;
      tallied = at.tallied;
    })
hand_kept plan log new stations at now octets centre counts push c n k =
    rw (push, c, n) (stands_handed plan log stations at now octets k)

pub close_kept : (plan : Plan) (log new : Log) (stations : List Secondary) (at : Standing) (now : ℕ)
    (cause : Close) (centre : Centre) →
    new ≡ Went now (Closed cause) ∷ log → centre ≡ shut → Stands plan log stations at →
    Stands plan new stations (record {
      waiting = at.waiting;
      centre = centre;
      call = at.call;
      moment = at.moment;
      requests = at.requests;
      counts = at.counts;
      tallied = at.tallied;
    })
close_kept plan log new stations at now cause centre push c k =
    rw (push, c) (stands_closed plan log stations at now cause k)

pub log_kept : (plan : Plan) (log new : Log) (stations : List Secondary) (at : Standing)
    (now station session : ℕ) → new ≡ Went now (GapOut station session) ∷ log
    → Stands plan log stations at
    → Stands plan new stations at
log_kept plan log new stations at now station session push k =
    rw push (stands_logged plan log stations at now station session k)

pub ask_kept : KeepsSize → (plan : Plan) (log new : Log) (stations after written : List Secondary)
    (at : Standing) (now : ℕ) (octets : List ℕ) (answer : Option Frame) (requests : ℕ)
    (waiting : Option (List ℕ)) (tallied : Tallied) →
    new ≡ Went now (LineOut octets) ∷ log → requests ≡ at.requests + 1 → requests < 2 ^ 64
    → IsPutOut (fate_of plan.directives (at.requests + 1)) octets stations answer after → written
    ≡ after →
    waiting ≡ arriving plan.size (fate_of plan.directives (at.requests + 1)) answer
    → IfSome answer (Fits plan.size)
    → tallied ≡ tallied_asked plan.setup now octets stations at.tallied
    → Stands plan log stations at →
    Stands plan new written (record {
      waiting = waiting;
      centre = at.centre;
      call = at.call;
      moment = at.moment;
      requests = requests;
      counts = at.counts;
      tallied = tallied;
    })
ask_kept kept plan log new stations after written at now octets answer requests waiting tallied push
    more small out
    wrote w fits t k =
    let few : at.requests + 1 < 2 ^ 64 = rw more at small in
    rw (push, more, wrote, w, t) (stands_asked plan log stations after at now octets answer out
    (sizes_out kept plan.size (fate_of plan.directives (at.requests + 1)) octets stations after
    answer out k.sizes)
    fits few k)

-- the stations as they are written back
pub written : (xs ws : List Secondary) (len : ℕ) → length ws ≡ len
    → take len (ws ++ drop (length ws) xs) ≡ ws
written xs ws len e = take_at ws (drop (length ws) xs) len e

pub stands_new : (plan : Plan) (log : Log) (stations : List Secondary) (centre : Centre)
    (counts : List ℕ)
    (tallied : Tallied) → log ≡ [] → centre ≡ shut → counts ≡ [] → stations ≡ plan.stations
    → AllByRecursion (λ s. s.size ≡ plan.size) plan.stations →
    tallied ≡ record { awaited = None; each = replicate (length stations) fresh_tally } →
    Stands plan log stations (record {
      waiting = None;
      centre = centre;
      call = 0;
      moment = 0;
      requests = 0;
      counts = counts;
      tallied = tallied;
    })
stands_new plan log stations centre counts tallied none c n e sizes t =
    let fresh : Tallied =
    record { awaited = None; each = replicate (length plan.stations) fresh_tally } in
    let same : tallied ≡ fresh = t
    ∙ ap (λ (ss : List Secondary).
    let made : Tallied = record { awaited = None; each = replicate (length ss) fresh_tally } in
    made) e in
    rw (none, n, same) (stands_fresh plan stations centre c e sizes)
