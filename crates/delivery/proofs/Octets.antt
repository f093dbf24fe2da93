-- The octets of a connection are those that came and went between its opening and its end.
use Rattle.std.proofs.Common.{◌≡◌, ℕ, Bool, true, false, List, [], ◌∷◌, ◌++◌, refl, ap, sym, subst}
use Rattle.std.proofs.Common.{◌∙◌}
use Rattle.std.specs.Prelude.{if◌then◌else◌}
use Rattle.std.proofs.lemmas.List.{append-nil}
use Rattle.session.specs.declared.kinds.Close.TheVariants.{Grammar, SendNumber, ReceiveNumber}
use Rattle.session.specs.declared.kinds.Close.TheVariants.{Stopped, Timeout, OwnAnswers, Replaced}
use Rattle.gateway.specs.Log.{Log, LogEntry, Input, Came, Went, Opened, LineIn, TcpIn, CutOff}
use Rattle.gateway.specs.Log.{Ticked, WallIs, Restarted, LineOut, TcpOut, Closed, GapOut}
use Rattle.gateway.specs.Connections.{Channel, present, past, received_before, receiving, sending}
use Rattle.gateway.specs.Connections.{over, closed_by}
use Rattle.delivery.specs.Octets.{Ends, GoesOn, AreActions, is_opening, lacks_place}
use Rattle.delivery.specs.Octets.{octets_in, octets_out}

abbrev opened : Bool → Log → Channel
opened lacked since = record {
  is_open = true;
  sent = octets_out since;
  received = octets_in since;
  lacked_place = lacked;
}

-- while a connection goes on none joins those that are over
past_on : (tail : Log) (since : Log) → GoesOn since → past (since ++ tail) ≡ past tail
past_on tail [] h = refl
past_on tail (Came t (LineIn octets) ∷ since) h = past_on tail since h.1
past_on tail (Came t Opened ∷ since) h = absurd (h.0 tt)
past_on tail (Came t (TcpIn octets) ∷ since) h = past_on tail since h.1
past_on tail (Came t CutOff ∷ since) h = absurd (h.0 tt)
past_on tail (Came t Ticked ∷ since) h = past_on tail since h.1
past_on tail (Came t (WallIs number) ∷ since) h = past_on tail since h.1
past_on tail (Came t Restarted ∷ since) h = absurd (h.0 tt)
past_on tail (Went t (LineOut octets) ∷ since) h = past_on tail since h.1
past_on tail (Went t (TcpOut octets) ∷ since) h = past_on tail since h.1
past_on tail (Went t (GapOut station session) ∷ since) h = past_on tail since h.1
past_on tail (Went t (Closed Grammar) ∷ since) h = absurd (h.0 (λ e. cc))
past_on tail (Went t (Closed SendNumber) ∷ since) h = absurd (h.0 (λ e. cc))
past_on tail (Went t (Closed ReceiveNumber) ∷ since) h = absurd (h.0 (λ e. cc))
past_on tail (Went t (Closed Stopped) ∷ since) h = absurd (h.0 (λ e. cc))
past_on tail (Went t (Closed Timeout) ∷ since) h = absurd (h.0 (λ e. cc))
past_on tail (Went t (Closed OwnAnswers) ∷ since) h = absurd (h.0 (λ e. cc))
past_on tail (Went t (Closed Replaced) ∷ since) h = past_on tail since h.1

module _ (now : ℕ) (before : Log) where
  pub present_on : (since : Log) → GoesOn since
      → present (since ++ Came now Opened ∷ before) ≡ opened false since
  present_on [] h = refl
  present_on (Came t (LineIn octets) ∷ since) h = present_on since h.1
  present_on (Came t Opened ∷ since) h = absurd (h.0 tt)
  present_on (Came t (TcpIn octets) ∷ since) h =
      ap (λ (c : Channel). receiving c octets) (present_on since h.1)
  present_on (Came t CutOff ∷ since) h = absurd (h.0 tt)
  present_on (Came t Ticked ∷ since) h = present_on since h.1
  present_on (Came t (WallIs number) ∷ since) h = present_on since h.1
  present_on (Came t Restarted ∷ since) h = absurd (h.0 tt)
  present_on (Went t (LineOut octets) ∷ since) h = present_on since h.1
  present_on (Went t (TcpOut octets) ∷ since) h =
      ap (λ (c : Channel). sending c octets) (present_on since h.1)
  present_on (Went t (GapOut station session) ∷ since) h = present_on since h.1
  present_on (Went t (Closed Grammar) ∷ since) h = absurd (h.0 (λ e. cc))
  present_on (Went t (Closed SendNumber) ∷ since) h = absurd (h.0 (λ e. cc))
  present_on (Went t (Closed ReceiveNumber) ∷ since) h = absurd (h.0 (λ e. cc))
  present_on (Went t (Closed Stopped) ∷ since) h = absurd (h.0 (λ e. cc))
  present_on (Went t (Closed Timeout) ∷ since) h = absurd (h.0 (λ e. cc))
  present_on (Went t (Closed OwnAnswers) ∷ since) h = absurd (h.0 (λ e. cc))
  present_on (Went t (Closed Replaced) ∷ since) h = present_on since h.1

  module _ (since : Log) (h : GoesOn since) where
    abbrev whole : Log
    whole = since ++ Came now Opened ∷ before

    joins : (f : Channel → Channel) → over (f (present whole)) (past whole)
        ≡ over (f (opened false since)) (past (Came now Opened ∷ before))
    joins f = ap (λ (c : Channel). over (f c) (past whole)) (present_on since h)
        ∙ ap (λ (l : List Channel). over (f (opened false since)) l)
        (past_on (Came now Opened ∷ before) since h)

    pub over_on : (entry : LogEntry) → Ends entry → past (entry ∷ whole)
        ≡ opened (lacks_place entry) since ∷ past (Came now Opened ∷ before)
    over_on (Came t (LineIn octets)) e = absurd e
    over_on (Came t Opened) e = joins (λ c. c)
    over_on (Came t (TcpIn octets)) e = absurd e
    over_on (Came t CutOff) e = joins (λ c. c)
    over_on (Came t Ticked) e = absurd e
    over_on (Came t (WallIs number)) e = absurd e
    over_on (Came t Restarted) e = joins (λ c. c)
    over_on (Went t (LineOut octets)) e = absurd e
    over_on (Went t (TcpOut octets)) e = absurd e
    over_on (Went t (GapOut station session)) e = absurd e
    over_on (Went t (Closed Grammar)) e = joins (closed_by Grammar)
    over_on (Went t (Closed SendNumber)) e = joins (closed_by SendNumber)
    over_on (Went t (Closed ReceiveNumber)) e = joins (closed_by ReceiveNumber)
    over_on (Went t (Closed Stopped)) e = joins (closed_by Stopped)
    over_on (Went t (Closed Timeout)) e = joins (closed_by Timeout)
    over_on (Went t (Closed OwnAnswers)) e = joins (closed_by OwnAnswers)
    over_on (Went t (Closed Replaced)) e = absurd (e refl)

-- Between two connections none is open.

abbrev IsShut : Channel → Type 0
IsShut c = (c.is_open ≡ false) × (c.received ≡ [])

shut_still : (c : Channel) (octets : List ℕ) → IsShut c → IsShut (receiving c octets)
shut_still c octets h = subst (λ b. IsShut (if b then record {
  is_open = true;
  sent = c.sent;
  received = c.received ++ octets;
  lacked_place = c.lacked_place;
} else c)) (sym h.0) h

shut_on : (tail : Log) (since : Log) → GoesOn since → IsShut (present tail)
    → IsShut (present (since ++ tail))
shut_on tail [] h k = k
shut_on tail (Came t (LineIn octets) ∷ since) h k = shut_on tail since h.1 k
shut_on tail (Came t Opened ∷ since) h k = absurd (h.0 tt)
shut_on tail (Came t (TcpIn octets) ∷ since) h k =
    shut_still (present (since ++ tail)) octets (shut_on tail since h.1 k)
shut_on tail (Came t CutOff ∷ since) h k = absurd (h.0 tt)
shut_on tail (Came t Ticked ∷ since) h k = shut_on tail since h.1 k
shut_on tail (Came t (WallIs number) ∷ since) h k = shut_on tail since h.1 k
shut_on tail (Came t Restarted ∷ since) h k = absurd (h.0 tt)
shut_on tail (Went t (LineOut octets) ∷ since) h k = shut_on tail since h.1 k
shut_on tail (Went t (TcpOut octets) ∷ since) h k = shut_on tail since h.1 k
shut_on tail (Went t (GapOut station session) ∷ since) h k = shut_on tail since h.1 k
shut_on tail (Went t (Closed Grammar) ∷ since) h k = absurd (h.0 (λ e. cc))
shut_on tail (Went t (Closed SendNumber) ∷ since) h k = absurd (h.0 (λ e. cc))
shut_on tail (Went t (Closed ReceiveNumber) ∷ since) h k = absurd (h.0 (λ e. cc))
shut_on tail (Went t (Closed Stopped) ∷ since) h k = absurd (h.0 (λ e. cc))
shut_on tail (Went t (Closed Timeout) ∷ since) h k = absurd (h.0 (λ e. cc))
shut_on tail (Went t (Closed OwnAnswers) ∷ since) h k = absurd (h.0 (λ e. cc))
shut_on tail (Went t (Closed Replaced) ∷ since) h k = shut_on tail since h.1 k

shut_by : (entry : LogEntry) (before : Log) → Ends entry → is_opening entry ≡ false
    → IsShut (present (entry ∷ before))
shut_by (Came t (LineIn octets)) before e o = absurd e
shut_by (Came t Opened) before e o = cc
shut_by (Came t (TcpIn octets)) before e o = absurd e
shut_by (Came t CutOff) before e o = (refl, refl)
shut_by (Came t Ticked) before e o = absurd e
shut_by (Came t (WallIs number)) before e o = absurd e
shut_by (Came t Restarted) before e o = (refl, refl)
shut_by (Went t (LineOut octets)) before e o = absurd e
shut_by (Went t (TcpOut octets)) before e o = absurd e
shut_by (Went t (GapOut station session)) before e o = absurd e
shut_by (Went t (Closed Grammar)) before e o = (refl, refl)
shut_by (Went t (Closed SendNumber)) before e o = (refl, refl)
shut_by (Went t (Closed ReceiveNumber)) before e o = (refl, refl)
shut_by (Went t (Closed Stopped)) before e o = (refl, refl)
shut_by (Went t (Closed Timeout)) before e o = (refl, refl)
shut_by (Went t (Closed OwnAnswers)) before e o = (refl, refl)
shut_by (Went t (Closed Replaced)) before e o = absurd (e refl)

pub shut : (entry : LogEntry) (since before : Log) → GoesOn since → Ends entry
    → is_opening entry ≡ false → IsShut (present (since ++ entry ∷ before))
shut entry since before h e o = shut_on (entry ∷ before) since h (shut_by entry before e o)

pub never_open : (since : Log) → GoesOn since → ((present since).is_open ≡ false)
    × ((present since).received ≡ []) × (past since ≡ [])
never_open since h =
    let whole : since ++ [] ≡ since = append-nil since in
    let closed : IsShut (present since) =
    subst (λ (l : Log). IsShut (present l)) whole (shut_on [] since h (refl, refl)) in
    (closed.0, closed.1, ap past (sym whole) ∙ past_on [] since h)

-- The octets before the latest event

pub before_event : (now : ℕ) (event : Input) (log : Log) (actions : Log) → AreActions actions
    → received_before (actions ++ Came now event ∷ log) ≡ (present log).received
before_event now event log [] h = refl
before_event now event log (Went t action ∷ actions) h = before_event now event log actions h
before_event now event log (Came t other ∷ actions) h = absurd h
