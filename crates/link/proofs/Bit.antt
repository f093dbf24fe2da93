-- The frame count bit: what the primary's link to a station says of the outstation.
use Rattle.std.proofs.Common.{◌≡◌, ◌≢◌, ℕ, suc, ◌⊎◌, Bool, true, false, not, List, [], ◌∷◌, ◌++◌}
use Rattle.std.proofs.Common.{Option, Some, None, option_and_then, refl, sym, ap, subst, ◌∙◌, inl}
use Rattle.std.proofs.Common.{inr, nat_lt, if◌then◌else◌}
use Rattle.link.specs.Answers.{Frame, Service, Class1, Class2, Command, Asked, Status, Reset}
use Rattle.link.specs.Answers.{Counted, Answer, Ready, Confirmed, Busy, Report, NoData, Unable}
use Rattle.link.specs.Answers.{Says, answer_of}
use Rattle.link.specs.Exchanges.{Exchange, answer_to}
use Rattle.link.specs.Procedure.{LinkSettings, Link, Down, Available, Next, Held, missed_so_far}
use Rattle.link.specs.Procedure.{after_answer, after_silence, after_outcome, MaySend, is_up}
use Rattle.link.specs.Outstation.{Effect, effects_of, Outstation, reset_link, Turn, Serves}
use Rattle.link.specs.Outstation.{OutstationStep, unreceived, unable, arrived}
use Rattle.link.specs.Delivery.{learnt_by, IsTrueFront, pending_by, MayOwe, is_reset}
use Rattle.link.proofs.Refusals.{refused_service, refused_reset}
use Rattle.link.specs.Procedure.{probed_so_far, is_kept, spent_silence, short_silence}
use Rattle.link.specs.Procedure.{Silence}

-- what the outstation has kept of a service that it has received
pub record HasServed (station : ℕ) (fcb : Bool) (service : Service) (state : Outstation)
    (owed : List Effect) : Type 0 where
  pub frame : Frame
  pub answer : Answer
  pub bit : state.bit ≡ Some fcb
  pub last : state.last ≡ Some frame
  pub says : Says station (Counted fcb service) answer frame
  pub able : answer ≢ Unable
  pub owes : owed ≡ effects_of service answer

-- it hasn't received a service with this bit
pub record AwaitsBit (fcb : Bool) (state : Outstation) (owed : List Effect) : Type 0 where
  pub bit : state.bit ≡ Some (not fcb)
  pub owes : owed ≡ []

-- what the link says of the outstation

abbrev pub Agrees : (station : ℕ) → Link → Option Service → Outstation → List Effect → Type 0
Agrees station Down pending state owed = MayOwe pending owed
Agrees station Available pending state owed = MayOwe pending owed
Agrees station (Next fcb) pending state owed = (pending ≡ None) × AwaitsBit fcb state owed
Agrees station (Held fcb service missed) pending state owed =
    (pending ≡ Some service) × (AwaitsBit fcb state owed ⊎ HasServed station fcb service state owed)

-- An exchange with this answer leaves the outstation and the link so.
pub record Leaves (settings : LinkSettings) (station : ℕ) (link : Link) (pending : Option Service)
    (x : Exchange)
    (m : Option Answer) (owed done : List Effect) (new : Outstation) : Type 0 where
  pub owed' : List Effect
  pub agrees : Agrees station (after_outcome settings m x.request x.closed link)
      (pending_by x.request m pending) new
      owed'
  pub sum : owed ++ done ≡ learnt_by x.request m ++ owed'

not-self : (b : Bool) → b ≡ not b → ⊥
not-self true e = cc
not-self false e = cc

not-not : (b : Bool) → b ≡ not (not b)
not-not true = refl
not-not false = refl

owes_nothing : (pending : Option Service) → MayOwe pending []
owes_nothing None = refl
owes_nothing (Some Class1) = inl refl
owes_nothing (Some Class2) = inl refl
owes_nothing (Some (Command c)) = inl refl

owes_effects : (service : Service) (answer : Answer)
    → MayOwe (Some service) (effects_of service answer)
owes_effects Class1 Ready = inl refl
owes_effects Class1 Confirmed = inl refl
owes_effects Class1 Busy = inl refl
owes_effects Class1 (Report asdu) = inr (asdu, refl)
owes_effects Class1 NoData = inl refl
owes_effects Class1 Unable = inl refl
owes_effects Class2 Ready = inl refl
owes_effects Class2 Confirmed = inl refl
owes_effects Class2 Busy = inl refl
owes_effects Class2 (Report asdu) = inr (asdu, refl)
owes_effects Class2 NoData = inl refl
owes_effects Class2 Unable = inl refl
owes_effects (Command c) Ready = inl refl
owes_effects (Command c) Confirmed = inr refl
owes_effects (Command c) Busy = inl refl
owes_effects (Command c) (Report asdu) = inl refl
owes_effects (Command c) NoData = inl refl
owes_effects (Command c) Unable = inl refl

-- what is owed for a service that was sent
owes_service : (station : ℕ) (fcb : Bool) (service : Service) (state : Outstation)
    (owed : List Effect) →
    AwaitsBit fcb state owed ⊎ HasServed station fcb service state owed → MayOwe (Some service) owed
owes_service station fcb service state owed (inl a) =
    subst (λ (o : List Effect). MayOwe (Some service) o) (sym a.owes)
    (owes_nothing (Some service))
owes_service station fcb service state owed (inr h) =
    subst (λ (o : List Effect). MayOwe (Some service) o) (sym h.owes)
    (owes_effects service h.answer)

-- what is owed, whatever the link
pub owes_of : (station : ℕ) (link : Link) (pending : Option Service) (state : Outstation)
    (owed : List Effect)
    → Agrees station link pending state owed → MayOwe pending owed
owes_of station Down pending state owed a = a
owes_of station Available pending state owed a = a
owes_of station (Next fcb) pending state owed a =
    subst (λ (o : List Effect). MayOwe pending o) (sym a.1.owes) (owes_nothing pending)
owes_of station (Held fcb service missed) pending state owed a =
    subst (λ (p : Option Service). MayOwe p owed) (sym a.0)
    (owes_service station fcb service state owed a.1)

-- a service that isn't answered, or is answered by another answer than Unable
answered_next : (fcb : Bool) (service : Service) (answer : Answer) (link : Link) → answer ≢ Unable
    → after_answer (Counted fcb service) answer link ≡ Next (not fcb)
answered_next fcb service Ready link h = refl
answered_next fcb service Confirmed link h = refl
answered_next fcb service Busy link h = refl
answered_next fcb service (Report asdu) link h = refl
answered_next fcb service NoData link h = refl
answered_next fcb service Unable link h = absurd (h refl)

answered_pending : (fcb : Bool) (service : Service) (answer : Answer) (pending : Option Service)
    → answer ≢ Unable
    → pending_by (Counted fcb service) (Some answer) pending ≡ None
answered_pending fcb service Ready pending h = refl
answered_pending fcb service Confirmed pending h = refl
answered_pending fcb service Busy pending h = refl
answered_pending fcb service (Report asdu) pending h = refl
answered_pending fcb service NoData pending h = refl
answered_pending fcb service Unable pending h = absurd (h refl)

pub append-nil : (xs : List Effect) → xs ++ [] ≡ xs
append-nil [] = refl
append-nil (x ∷ xs) = ap (λ (ys : List Effect). x ∷ ys) (append-nil xs)

-- an unanswered service, of which it is known whether the outstation received it
silence_agrees : (settings : LinkSettings) (station : ℕ) (fcb : Bool) (service : Service)
    (closed : Bool) (link : Link)
    (state : Outstation) (owed : List Effect) →
    AwaitsBit fcb state owed ⊎ HasServed station fcb service state owed →
    Agrees station (after_silence settings (Counted fcb service) closed link) (Some service) state
    owed
silence_agrees settings station fcb service false link state owed a = (refl, a)
silence_agrees settings station fcb service true link state owed a =
    go (nat_lt settings.retries (suc (missed_so_far link)))
    (is_kept settings (probed_so_far link))
  where
    go : (b hold : Bool) → Agrees station
        (if b then (if hold then Held fcb service (spent_silence settings (probed_so_far link))
        else Down) else Held fcb service
        (short_silence (suc (missed_so_far link)) (probed_so_far link))) (Some service) state owed
    go true true = (refl, a)
    go true false = owes_service station fcb service state owed a
    go false hold = (refl, a)

unable_effects : (service : Service) → effects_of service Unable ≡ []
unable_effects Class1 = refl
unable_effects Class2 = refl
unable_effects (Command c) = refl

-- One sending of a service that is new to the outstation, or that it has served already.
module _ (settings : LinkSettings) (station : ℕ) (fcb : Bool) (service : Service) (closed : Bool)
    (link : Link)
    (pending : Option Service)
    (old new : Outstation) (turn : Turn) (owed : List Effect) where
  sending : Option Frame → Exchange
  sending front = record {
    request = Counted fcb service;
    front = front;
    closed = closed;
    given_up =
        false;
  }

  -- it was answered by what the outstation keeps now
  when_answered : (f frame : Frame) (answer : Answer) → frame ≡ f
      → Says station (Counted fcb service) answer frame
      → answer ≢ Unable →
      new.bit ≡ Some fcb → owed ++ turn.done ≡ effects_of service answer →
      Leaves settings station link pending (sending (Some f))
      (answer_of station (Counted fcb service) f) owed turn.done new
  unfolding sending
  when_answered f frame answer same says able bit sum =
      subst (λ (m : Option Answer). Leaves settings station link pending (sending (Some f)) m owed
      turn.done new)
      (sym says ∙ ap (λ (g : Frame). answer_of station (Counted fcb service) g) same)
      (record {
        owed' = [];
        agrees =
            subst
            (λ (l : Link). Agrees station l (pending_by (Counted fcb service) (Some answer) pending)
            new [])
            (sym (answered_next fcb service answer link able)) (
              answered_pending fcb service answer pending able,
              record { bit = bit ∙ ap (λ (b : Bool). Some b) (not-not fcb); owes = refl },
            );
        sum = sum ∙ sym (append-nil (effects_of service answer));
      })

  -- it wasn't answered, and what the outstation has is known
  when_silent : AwaitsBit fcb new (owed ++ turn.done)
      ⊎ HasServed station fcb service new (owed ++ turn.done) →
      Leaves settings station link pending (sending None) None owed turn.done new
  unfolding sending
  when_silent a = record {
    owed' = owed ++ turn.done;
    agrees = silence_agrees settings station fcb service closed link new (owed ++ turn.done) a;
    sum = refl;
  }

  -- the outstation couldn't serve it
  when_unable : (f frame : Frame) → frame ≡ f → Says station (Counted fcb service) Unable frame
      → MayOwe (Some service) owed → turn.done ≡ [] →
      Leaves settings station link pending (sending (Some f))
      (answer_of station (Counted fcb service) f) owed turn.done new
  unfolding sending
  when_unable f frame same says owes idle =
      subst (λ (m : Option Answer). Leaves settings station link pending (sending (Some f)) m owed
      turn.done new)
      (sym says ∙ ap (λ (g : Frame). answer_of station (Counted fcb service) g) same)
      (record {
        owed' = owed;
        agrees = owes;
        sum = ap (λ (d : List Effect). owed ++ d) idle ∙ append-nil owed
            ∙ ap (λ (d : List Effect). d ++ owed) (sym (unable_effects service));
      })

-- whether the outstation still awaits the service, or has served it, it does so after a turn that
-- changes nothing
stays : (station : ℕ) (fcb : Bool) (service : Service) (old new : Outstation)
    (owed done : List Effect) → new ≡ old
    → done ≡ [] →
    AwaitsBit fcb old owed ⊎ HasServed station fcb service old owed →
    AwaitsBit fcb new (owed ++ done) ⊎ HasServed station fcb service new (owed ++ done)
stays station fcb service old new owed done same idle a =
    subst (λ (s : Outstation). AwaitsBit fcb s (owed ++ done)
    ⊎ HasServed station fcb service s (owed ++ done))
    (sym same)
    (subst (λ (d : List Effect). AwaitsBit fcb old d ⊎ HasServed station fcb service old d)
    (sym (append-nil owed) ∙ ap (λ (d : List Effect). owed ++ d) (sym idle)) a)

-- One exchange of a service, whatever is lost.
pub service_step : (settings : LinkSettings) (station : ℕ) (fcb : Bool) (service : Service)
    (closed : Bool)
    (link : Link) (pending : Option Service)
    (old new : Outstation) (turn : Turn) (owed : List Effect) (front : Option Frame) →
    AwaitsBit fcb old owed ⊎ HasServed station fcb service old owed →
    OutstationStep station old (Counted fcb service) turn new → IsTrueFront front turn →
    Leaves settings station link pending (record {
      request = Counted fcb service;
      front =
          front;
      closed = closed;
      given_up = false;
    })
    (answer_to station (record {
      request = Counted fcb service;
      front = front;
      closed =
          closed;
      given_up = false;
    }))
    owed turn.done new
unfolding sending
service_step settings station fcb service closed link pending old new turn owed None a
    (unreceived quiet same) front =
    when_silent settings station fcb service closed link pending old new turn owed
    (stays station fcb service old new owed turn.done same (ap (λ (t : Turn). t.done) quiet) a)
service_step settings station fcb service closed link pending old new turn owed (Some f) a
    (unreceived quiet same) front =
    let none : turn.answer ≡ None = ap (λ (t : Turn). t.answer) quiet in
    cc
service_step settings station fcb service closed link pending old new turn owed None a
    (unable frame refuses quiet same) front =
    when_silent settings station fcb service closed link pending old new turn owed
    (stays station fcb service old new owed turn.done same (ap (λ (t : Turn). t.done) quiet) a)
service_step settings station fcb service closed link pending old new turn owed (Some f) a
    (unable frame refuses quiet same) front =
    let some : turn.answer ≡ Some frame = ap (λ (t : Turn). t.answer) quiet in
    let eq : frame ≡ f = cc in
    when_unable settings station fcb service closed link pending old new turn owed f frame eq
    (refused_service station fcb service frame refuses)
    (owes_service station fcb service old owed a) (ap (λ (t : Turn). t.done) quiet)
service_step settings station fcb service closed link pending old new turn owed front (inl a)
    (arrived h) true_front =
    go front true_front (subst (λ (b : Option Bool). Serves station b old fcb service turn new)
    a.bit h)
  where
    go : (front : Option Frame) → IsTrueFront front turn
        → Serves station (Some (not fcb)) old fcb service turn new →
        Leaves settings station link pending (record {
          request = Counted fcb service;
          front =
              front;
          closed = closed;
          given_up = false;
        })
        (answer_to station (record {
          request = Counted fcb service;
          front = front;
          closed =
              closed;
          given_up = false;
        })) owed turn.done
        new
    go front true_front (inl same) = absurd (not-self fcb same.0)
    go None true_front (inr s) =
        when_silent settings station fcb service closed link pending old new turn owed
        (inr (record {
          frame = s.1.0;
          answer = s.1.1;
          bit = ap (λ (o : Outstation). o.bit) s.1.5;
          last = ap (λ (o : Outstation). o.last) s.1.5;
          says = s.1.2;
          able = s.1.3;
          owes = ap (λ (o : List Effect). o ++ turn.done) a.owes ∙ ap (λ (t : Turn). t.done) s.1.4;
        }))
    go (Some f) true_front (inr s) =
        when_answered settings station fcb service closed link pending old new turn owed f s.1.0
        s.1.1
        (let some : turn.answer ≡ Some s.1.0 = ap (λ (t : Turn). t.answer) s.1.4 in cc) s.1.2 s.1.3
        (ap (λ (o : Outstation). o.bit) s.1.5)
        (ap (λ (o : List Effect). o ++ turn.done) a.owes ∙ ap (λ (t : Turn). t.done) s.1.4)
service_step settings station fcb service closed link pending old new turn owed front (inr a)
    (arrived h) true_front =
    go front true_front (subst (λ (b : Option Bool). Serves station b old fcb service turn new)
    a.bit h)
  where
    go : (front : Option Frame) → IsTrueFront front turn
        → Serves station (Some fcb) old fcb service turn new →
        Leaves settings station link pending (record {
          request = Counted fcb service;
          front =
              front;
          closed = closed;
          given_up = false;
        })
        (answer_to station (record {
          request = Counted fcb service;
          front = front;
          closed =
              closed;
          given_up = false;
        })) owed turn.done
        new
    go front true_front (inr s) = absurd (s.0 refl)
    go None true_front (inl s) =
        when_silent settings station fcb service closed link pending old new turn owed
        (stays station fcb service old new owed turn.done s.2 (ap (λ (t : Turn). t.done) s.1)
        (inr a))
    go (Some f) true_front (inl s) =
        when_answered settings station fcb service closed link pending old new turn owed f a.frame
        a.answer
        (let some : turn.answer ≡ old.last = ap (λ (t : Turn). t.answer) s.1 in
        let kept : old.last ≡ Some a.frame = a.last in cc) a.says a.able
        (ap (λ (o : Outstation). o.bit) s.2 ∙ a.bit)
        (ap (λ (d : List Effect). owed ++ d) (ap (λ (t : Turn). t.done) s.1) ∙ append-nil owed
        ∙ a.owes)

-- A status or reset request does no service.
pub idle_status : (station : ℕ) (old new : Outstation) (turn : Turn)
    → OutstationStep station old Status turn new
    → turn.done ≡ []
idle_status station old new turn (unreceived quiet same) = ap (λ (t : Turn). t.done) quiet
idle_status station old new turn (unable frame refuses quiet same) = ap (λ (t : Turn). t.done) quiet
idle_status station old new turn (arrived h) = ap (λ (t : Turn). t.done) h.2

pub idle_reset : (station : ℕ) (old new : Outstation) (turn : Turn)
    → OutstationStep station old Reset turn new
    → turn.done ≡ []
idle_reset station old new turn (unreceived quiet same) = ap (λ (t : Turn). t.done) quiet
idle_reset station old new turn (unable frame refuses quiet same) = ap (λ (t : Turn). t.done) quiet
idle_reset station old new turn (arrived h) = ap (λ (t : Turn). t.done) h.2

-- An outstation whose reset was confirmed is reset.
pub reset_taken : (station : ℕ) (front : Option Frame) (old new : Outstation) (turn : Turn)
    → OutstationStep station old Reset turn new →
    IsTrueFront front turn → option_and_then (answer_of station Reset) front ≡ Some Confirmed
    → new ≡ reset_link
reset_taken station None old new turn step true_front confirmed = cc
reset_taken station (Some f) old new turn (unreceived quiet same) true_front confirmed =
    let none : turn.answer ≡ None = ap (λ (t : Turn). t.answer) quiet in cc
reset_taken station (Some f) old new turn (unable frame refuses quiet same) true_front confirmed =
    let some : turn.answer ≡ Some frame = ap (λ (t : Turn). t.answer) quiet in
    let eq : frame ≡ f = cc in
    let two : answer_of station Reset f ≡ None = ap (λ (g : Frame). answer_of station Reset g)
    (sym eq)
    ∙ refused_reset station frame refuses in
    cc
reset_taken station (Some f) old new turn (arrived h) true_front confirmed = h.3

pub no_more : (owed done : List Effect) → done ≡ [] → owed ++ done ≡ owed
no_more owed done idle = ap (λ (d : List Effect). owed ++ d) idle ∙ append-nil owed

-- what a status request leaves
status_leaves : (settings : LinkSettings) (station : ℕ) (link : Link) (pending : Option Service)
    (front : Option Frame)
    (closed : Bool)
    (m : Option Answer) (owed done : List Effect) (new : Outstation) → is_up link ≡ false
    → MayOwe pending owed
    → done ≡ [] →
    Leaves settings station link pending (record {
      request = Status;
      front = front;
      closed =
          closed;
      given_up = false;
    }) m owed done new
status_leaves settings station Down pending front closed None owed done new down owes
    idle =
    record { owed' = owed; agrees = owes; sum = no_more owed done idle }
status_leaves settings station Down pending front closed (Some Ready) owed done new down owes
    idle =
    record { owed' = owed; agrees = owes; sum = no_more owed done idle }
status_leaves settings station Down pending front closed (Some Unable) owed done new down owes
    idle =
    record { owed' = owed; agrees = owes; sum = no_more owed done idle }
status_leaves settings station Available pending front closed None owed done new down owes
    idle =
    record { owed' = owed; agrees = owes; sum = no_more owed done idle }
status_leaves settings station Available pending front closed (Some Ready) owed done new down owes
    idle =
    record { owed' = owed; agrees = owes; sum = no_more owed done idle }
status_leaves settings station Available pending front closed (Some Unable) owed done new down owes
    idle =
    record { owed' = owed; agrees = owes; sum = no_more owed done idle }
status_leaves settings station Down pending front closed (Some answer) owed done new down owes
    idle =
    record { owed' = owed; agrees = owes; sum = no_more owed done idle }
status_leaves settings station Available pending front closed (Some answer) owed done new down owes
    idle =
    record { owed' = owed; agrees = owes; sum = no_more owed done idle }
status_leaves settings station (Next fcb) pending front closed m owed done new down owes
    idle = cc
status_leaves settings station (Held fcb service missed) pending front closed m owed done new down
    owes idle = cc

-- a status changes nothing at the outstation
same_status : (station : ℕ) (old new : Outstation) (turn : Turn)
    → OutstationStep station old Status turn new → new ≡ old
same_status station old new turn (unreceived quiet same) = same
same_status station old new turn (unable frame refuses quiet same) = same
same_status station old new turn (arrived h) = h.3

-- what a status leaves of a service that is held
probe_leaves : (settings : LinkSettings) (station : ℕ) (fcb : Bool) (service : Service)
    (silence : Silence) (pending : Option Service) (front : Option Frame) (closed : Bool)
    (m : Option Answer) (old new : Outstation) (turn : Turn) (owed : List Effect) →
    Agrees station (Held fcb service silence) pending old owed →
    OutstationStep station old Status turn new →
    Leaves settings station (Held fcb service silence) pending (record {
      request = Status;
      front = front;
      closed = closed;
      given_up = false;
    }) m owed turn.done new
probe_leaves settings station fcb service silence pending front closed m old new turn owed agrees
    step = go m
  where
    idle : owed ++ turn.done ≡ owed
    idle = no_more owed turn.done (idle_status station old new turn step)

    still : (pending ≡ Some service)
        × (AwaitsBit fcb new owed ⊎ HasServed station fcb service new owed)
    still = subst (λ (s : Outstation). (pending ≡ Some service)
        × (AwaitsBit fcb s owed ⊎ HasServed station fcb service s owed))
        (sym (same_status station old new turn step)) agrees

    go : (m : Option Answer) → Leaves settings station (Held fcb service silence) pending (record {
      request = Status;
      front = front;
      closed = closed;
      given_up = false;
    }) m owed turn.done new
    go None = record { owed' = owed; agrees = still; sum = idle }
    go (Some Ready) = record { owed' = owed; agrees = still; sum = idle }
    go (Some Unable) = record {
      owed' = owed;
      agrees = owes_of station (Held fcb service silence) pending old owed agrees;
      sum = idle;
    }
    go (Some Confirmed) = record { owed' = owed; agrees = still; sum = idle }
    go (Some Busy) = record { owed' = owed; agrees = still; sum = idle }
    go (Some (Report asdu)) = record { owed' = owed; agrees = still; sum = idle }
    go (Some NoData) = record { owed' = owed; agrees = still; sum = idle }

-- what a reset request leaves that isn't confirmed
reset_leaves : (settings : LinkSettings) (station : ℕ) (pending : Option Service)
    (front : Option Frame) (closed : Bool)
    (m : Option Answer) (owed done : List Effect) (new : Outstation) → is_reset Reset m ≡ false
    → MayOwe pending owed
    → done ≡ [] →
    Leaves settings station Available pending (record {
      request = Reset;
      front = front;
      closed =
          closed;
      given_up = false;
    }) m owed done
    new
reset_leaves settings station pending front closed None owed done new other owes idle =
    record { owed' = owed; agrees = owes; sum = no_more owed done idle }
reset_leaves settings station pending front closed (Some Confirmed) owed done new other owes idle =
    cc
reset_leaves settings station pending front closed (Some answer) owed done new other owes idle =
    record { owed' = owed; agrees = owes; sum = no_more owed done idle }

-- One exchange that is no confirmed reset.
pub exchange_step : (settings : LinkSettings) (station : ℕ) (link : Link) (pending : Option Service)
    (request : Asked)
    (front : Option Frame) (closed : Bool)
    (old new : Outstation) (turn : Turn) (owed : List Effect) →
    Agrees station link pending old owed → MaySend link request
    → OutstationStep station old request turn new
    → IsTrueFront front turn →
    is_reset request (option_and_then (answer_of station request) front) ≡ false →
    Leaves settings station link pending (record {
      request = request;
      front = front;
      closed =
          closed;
      given_up = false;
    })
    (option_and_then (answer_of station request) front) owed turn.done new
exchange_step settings station Down pending Status front closed old new turn owed agrees may step
    true_front other =
    status_leaves settings station Down pending front closed _ owed turn.done new refl agrees
    (idle_status station old new turn step)
exchange_step settings station Available pending Status front closed old new turn owed agrees may
    step true_front
    other =
    status_leaves settings station Available pending front closed _ owed turn.done new refl agrees
    (idle_status station old new turn step)
exchange_step settings station Available pending Reset front closed old new turn owed agrees may
    step true_front other =
    reset_leaves settings station pending front closed _ owed turn.done new other agrees
    (idle_reset station old new turn step)
exchange_step settings station (Held fcb service silence) pending Status front closed old new turn
    owed agrees may step true_front other =
    probe_leaves settings station fcb service silence pending front closed _ old new turn owed
    agrees step
exchange_step settings station (Next fcb) pending (Counted sent service) front closed old new turn
    owed agrees may step
    true_front other =
    service_step settings station sent service closed (Next fcb) pending old new turn owed front
    (inl (subst (λ (b : Bool). AwaitsBit b old owed) (sym may) agrees.1)) step true_front
exchange_step settings station (Held fcb service missed) pending
    (Counted sent again) front closed old new turn owed agrees may step true_front other =
    service_step settings station sent again closed (Held fcb service missed) pending old new turn
    owed front
    (subst (λ (b : Bool). AwaitsBit b old owed ⊎ HasServed station b again old owed) (sym may.0)
    (subst (λ (s : Service). AwaitsBit fcb old owed ⊎ HasServed station fcb s old owed) (sym may.1)
    agrees.1)) step
    true_front
exchange_step settings station link pending request front closed old new turn owed agrees may step
    true_front other =
    absurd may

-- a confirmed reset
pub confirmed_reset : (request : Asked) (m : Option Answer) → is_reset request m ≡ true
    → (request ≡ Reset) × (m ≡ Some Confirmed)
confirmed_reset Reset (Some Confirmed) h = (refl, refl)
confirmed_reset Reset None h = cc
confirmed_reset Reset (Some Ready) h = cc
confirmed_reset Reset (Some Busy) h = cc
confirmed_reset Reset (Some (Report asdu)) h = cc
confirmed_reset Reset (Some NoData) h = cc
confirmed_reset Reset (Some Unable) h = cc
confirmed_reset Status m h = cc
confirmed_reset (Counted fcb service) m h = cc
