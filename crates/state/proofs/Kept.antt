-- What keeping an event does to the history.
use Rattle.std.proofs.Common.{◌≡◌, ◌∙◌, ℕ, ◌+◌, ◌<◌, ◌≤◌, ◌^◌, Bool, true, false, [], ◌∷◌, ◌++◌}
use Rattle.std.proofs.Common.{map, List, Option, Some, None, ap, sym, subst, refl, inl, inr}
use Rattle.std.proofs.Common.{arith}
use Rattle.std.proofs.Common.{if◌then◌else◌, ◌⊎◌}
use Rattle.std.specs.Option.{is_some}
use Rattle.gateway.specs.Log.{Log}
use Rattle.gateway.specs.Log.{LogEntry, with_news}
use Rattle.gateway.specs.Ports.{faults_of, logged_by}
use Rattle.gateway.specs.State.{State}
use Rattle.gateway.specs.declared.ports.Next.{Next}
use Rattle.gateway.specs.declared.ports.Next.TheVariants as answers
use Rattle.state.specs.Deeds.{Begun, Deeds, GivenUp, AreRight, IsInTime, MayBe, Received, PutOut}
use Rattle.state.specs.Deeds.{HasPassed, IsAllOnDisk, arrived, loss_of}
use Rattle.state.specs.Deeds.{grown, is_kept, latest, passed, waiting}
use Rattle.state.specs.Keeping.{IsOrderly}
use Rattle.state.specs.Lines.{IsRefusedBy, is_renewal_due}
use Rattle.state.specs.Standings.{HasFailed, HasReceived, IsSettled, IsStanding, is_lost}
use Rattle.state.specs.Standings.{is_stopped}
use Rattle.state.specs.Standings.{since_of}
use Rattle.state.specs.Stores.{IsStored, Stored}
use Rattle.state.specs.declared.standing.Standing.{Standing}
use Rattle.state.specs.declared.standing.Standing.TheVariants.{Synced, Waiting, Lost}
use Rattle.state.specs.declared.loss.Loss.{Loss}
use Rattle.state.specs.declared.loss.Loss.TheVariants.{Marked, Unmarked}
use Rattle.state.specs.declared.loss.StoreFault.{StoreFault}
use Rattle.state.specs.declared.loss.StoreFault.TheVariants as faults

-- if an event waits, it is there
pub some_waits : (deeds : Deeds) (moment : ℕ) → since_of (waiting deeds) ≡ Some moment
    → waiting deeds ≡ [] → ⊥
some_waits deeds moment since none =
    let both : None ≡ Some moment = sym (ap since_of none) ∙ since in absurd (cc)

-- events are received

in_time : (news : Log) (deeds : Deeds) → IsInTime deeds → IsInTime (map Received news ++ deeds)
in_time [] deeds time = time
in_time (event ∷ news) deeds time = in_time news deeds time

pub received_right : (bears : Bool) (news : Log) (old new : Deeds) → new ≡ map Received news ++ old
    → IsInTime old
    → AreRight bears old → AreRight bears new
received_right bears news old new is time right = subst (AreRight bears) (sym is) (all news)
  where
    all : (news : Log) → AreRight bears (map Received news ++ old)
    all [] = right
    all (event ∷ news) = (in_time news old time, all news)

-- what has passed at the port is what the deeds say, with what comes and what goes out

received_passed : (news : Log) (deeds : Deeds)
    → passed (map Received news ++ deeds) ≡ news ++ passed deeds
received_passed [] deeds = refl
received_passed (event ∷ news) deeds = ap (λ (log : Log). event ∷ log) (received_passed news deeds)

has_passed : (port next : Option Log) (news : Log) (old new : Deeds) → HasPassed port old
    → next ≡ with_news port news → passed new ≡ news ++ passed old → HasPassed next new
has_passed None next news old new was more all =
    subst (λ (p : Option Log). HasPassed p new) (sym more) tt
has_passed (Some log) next news old new was more all =
    subst (λ (p : Option Log). HasPassed p new) (sym more)
    (ap (λ (log : Log). news ++ log) was ∙ sym all)

pub came_passed : (port mid next : Option Log) (news : Log) (old come new : Deeds)
    → HasPassed port old → mid ≡ with_news port news → next ≡ mid
    → come ≡ map Received news ++ old → passed new ≡ passed come → HasPassed next new
came_passed port mid next news old come new was more same is kept =
    has_passed port next news old new was (same ∙ more)
    (kept ∙ (ap passed is ∙ received_passed news old))

pub kept_passed : (port next : Option Log) (old new : Deeds) → HasPassed port old → next ≡ port
    → passed new ≡ passed old → HasPassed next new
kept_passed None next old new was same kept =
    subst (λ (p : Option Log). HasPassed p new) (sym same) tt
kept_passed (Some log) next old new was same kept =
    subst (λ (p : Option Log). HasPassed p new) (sym same) (was ∙ sym kept)

pub put_passed : (gone : Bool) (port next : Option Log) (action : LogEntry) (old new : Deeds)
    → HasPassed port old
    → next ≡ (if gone then with_news port (action ∷ []) else port)
    → new ≡ (if gone then PutOut action ∷ [] else []) ++ old → HasPassed next new
put_passed true port next action old new was more is =
    has_passed port next (action ∷ []) old new was more (ap passed is)
put_passed false port next action old new was same is =
    kept_passed port next old new was same (ap passed is)

-- it stood so before they were received
pub received_stands : (s : Standing) (news : Log) (old new : Deeds) → IsStanding s old
    → new ≡ map Received news ++ old
    → HasReceived s news new
received_stands s news old new stands is = record { earlier = old; stood = stands; arrived = is }

pub few_faults : (n : Next) → faults_of n ≤ 1
few_faults (answers.Line now len) = omega arith
few_faults (answers.Open now) = omega arith
few_faults (answers.Bytes now len) = omega arith
few_faults (answers.Cut now) = omega arith
few_faults (answers.Tick now) = omega arith
few_faults (answers.Wall now number) = omega arith
few_faults answers.Done = omega arith
few_faults answers.Fault = omega arith

-- how often a port failed stays countable

pub few_more : (first next last stops n : ℕ) → last ≡ next → next ≡ first + n → n ≤ 1
    → first + stops < 18446744073709551615 → last + stops < 2 ^ 64
few_more first next last stops n same more one few = omega arith

pub few_stops : (first last stops : ℕ) → last ≡ first → first + stops < 18446744073709551615
    → last + (stops + 1) < 2 ^ 64
few_stops first last stops same few = omega arith

pub few_put : (gone : Bool) (first next last stops : ℕ) → next ≡ first
    → last ≡ next + (if gone then 0 else 1)
    → first + stops < 18446744073709551615 → last + stops < 2 ^ 64
few_put true first next last stops same more few = omega arith
few_put false first next last stops same more few = omega arith

-- an action is handed out

put_stands : (s : Standing) (action : LogEntry) (deeds : Deeds) → IsStanding s deeds
    → IsStanding s (PutOut action ∷ deeds)
put_stands Synced action deeds stands =
    record { disk = stands.disk; whole = stands.whole; none = stands.none }
put_stands (Waiting moment) action deeds stands =
    record { kept = stands.kept; whole = stands.whole; since = stands.since }
put_stands (Lost loss) action deeds stands = stands

may_put : (bears : Bool) (s : Standing) (action : LogEntry) (deeds : Deeds) → IsSettled s
    → is_stopped s bears ≡ false → IsStanding s deeds → MayBe bears (PutOut action) deeds
may_put bears Synced action deeds settled goes stands = inl stands.disk
may_put bears (Waiting moment) action deeds settled goes stands = absurd settled
may_put true (Lost Marked) action deeds settled goes stands = inr (stands, refl)
may_put false (Lost Marked) action deeds settled goes stands = absurd (cc)
may_put bears (Lost Unmarked) action deeds settled goes stands = absurd (cc)

pub put_orderly : (gone bears : Bool) (s : Standing) (action : LogEntry) (old new : Deeds)
    → new ≡ (if gone then PutOut action ∷ [] else []) ++ old → IsSettled s
    → false ≡ is_stopped s bears
    → IsOrderly bears s old → IsOrderly bears s new
put_orderly true bears s action old new is settled goes h =
    subst (IsOrderly bears s) (sym is) (record {
      stands = put_stands s action old h.stands;
      time = h.time;
      right = (may_put bears s action old settled (sym goes) h.stands, h.right);
    })
put_orderly false bears s action old new is settled goes h = subst (IsOrderly bears s) (sym is) h

-- The store fails

refused_latest : (fault : StoreFault) (next : Next) (buf : List ℕ) (old earlier : Deeds)
    (octets : ℕ)
    → old ≡ map Received (logged_by next buf) ++ earlier
    → IsRefusedBy fault (logged_by next buf) octets
    → IsRefusedBy fault (latest (arrived old)) octets
refused_latest fault next buf old earlier octets is refused =
    subst (λ (deeds : Deeds). IsRefusedBy fault (latest (arrived deeds)) octets) (sym is)
    (by next fault refused)
  where
    by : (next : Next) (fault : StoreFault) → IsRefusedBy fault (logged_by next buf) octets
        → IsRefusedBy fault (latest (arrived (map Received (logged_by next buf) ++ earlier))) octets
    by next faults.Full refused = refused
    by next faults.Failed refused = tt
    by (answers.Line now len) faults.Unwritable refused = refused
    by (answers.Open now) faults.Unwritable refused = refused
    by (answers.Bytes now len) faults.Unwritable refused = refused
    by (answers.Cut now) faults.Unwritable refused = refused
    by (answers.Tick now) faults.Unwritable refused = refused
    by (answers.Wall now number) faults.Unwritable refused = refused
    by answers.Done faults.Unwritable refused = absurd (refused tt)
    by answers.Fault faults.Unwritable refused = absurd (refused tt)

pub failed_orderly : (bears : Bool) (s : Standing) (next : Next) (buf : List ℕ) (loss : Loss)
    (old new : Deeds)
    → HasReceived s (logged_by next buf) old → HasFailed (logged_by next buf) loss old new
    → AreRight bears old → IsOrderly bears (Lost loss) new
failed_orderly bears s next buf loss old new received failed right =
    subst (λ (deeds : Deeds). IsOrderly bears (Lost loss) deeds) (sym failed.failed) (record {
      stands = refl;
      time = inl refl;
      right = (
        refused_latest failed.fault next buf old received.earlier (grown old) received.arrived
            failed.refused,
        right,
      );
    })

pub failed_passed : (events : Log) (loss : Loss) (old new : Deeds) → HasFailed events loss old new
    → passed new ≡ passed old
failed_passed events loss old new failed = ap passed failed.failed

-- while the store hasn't failed a log is kept
pub stands_kept : (s : Standing) (deeds : Deeds) → IsStanding s deeds → is_lost s ≡ false
    → is_kept deeds ≡ true
stands_kept Synced deeds stands there = stands.disk.0
stands_kept (Waiting moment) deeds stands there = stands.kept
stands_kept (Lost loss) deeds stands there = absurd (cc)

-- a log that was begun has no events yet
pub begun_room : (state : State) (old new : Deeds) → new ≡ Begun state ∷ old
    → is_renewal_due (grown new) ≡ false
begun_room state old new is = ap (λ (deeds : Deeds). is_renewal_due (grown deeds)) is

-- what a store has grown by

stored_grown : (settings : List ℕ) (deeds : Deeds) (stored : Stored)
    → IsStored settings deeds stored
    → is_kept deeds ≡ true → stored.octets ≡ grown deeds
stored_grown settings deeds stored are kept = ap (λ (s : Stored). s.octets) (are kept)

pub due_by : (settings : List ℕ) (deeds : Deeds) (stored : Stored) (octets : ℕ) (is : Bool)
    → IsStored settings deeds stored → octets ≡ stored.octets → is ≡ is_renewal_due octets
    → is_kept deeds ≡ true → is ≡ is_renewal_due (grown deeds)
due_by settings deeds stored octets is are count due kept =
    due ∙ ap is_renewal_due (count ∙ stored_grown settings deeds stored are kept)

pub has_failed : (settings : List ℕ) (stored : Stored) (fault : StoreFault) (events : Log)
    (loss : Loss) (old new : Deeds) → IsStored settings old stored → is_kept old ≡ true
    → new ≡ GivenUp fault loss ∷ old → IsRefusedBy fault events stored.octets
    → HasFailed events loss old new
has_failed settings stored fault events loss old new are kept failed refused = record {
  fault = fault;
  failed = failed;
  refused = subst (λ (n : ℕ). IsRefusedBy fault events n)
      (stored_grown settings old stored are kept) refused;
}

-- If none waits

pub settled_all : (s : Standing) (deeds : Deeds) → IsSettled s → IsStanding s deeds
    → IsAllOnDisk deeds ⊎ (is_some (loss_of deeds) ≡ true)
settled_all Synced deeds settled stands = inl stands.disk
settled_all (Waiting moment) deeds settled stands = absurd settled
settled_all (Lost loss) deeds settled stands = inr (ap is_some stands)
