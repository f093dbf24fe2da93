-- What the primary knows of an outstation from a place in its exchanges on.
use Rattle.std.proofs.Common.{◌≡◌, ℕ, Bool, true, false, List, [], ◌∷◌, ◌++◌, flat_map, Option}
use Rattle.std.proofs.Common.{Some, None, option_and_then, refl, sym, ap, subst, ◌∙◌, append_assoc}
use Rattle.std.proofs.Common.{if◌then◌else◌}
use Rattle.std.specs.List.{AllByRecursion}
use Rattle.link.specs.Answers.{Frame, Service, Asked, Status, Reset, Counted, Answer, Ready}
use Rattle.link.specs.Answers.{Confirmed, Busy, Report, NoData, Unable, answer_of}
use Rattle.link.specs.Exchanges.{Exchange, answer_to}
use Rattle.link.specs.Procedure.{LinkSettings, Link, Down, Available, Next, Held, after_outcome}
use Rattle.link.specs.Procedure.{after, MaySend, KeepsFrameCountBit, is_up, IsSteady}
use Rattle.link.specs.Outstation.{Effect, Outstation, reset_link, Turn, OutstationStep}
use Rattle.link.specs.Outstation.{OutstationRun, all_done}
use Rattle.link.specs.Delivery.{learnt_by, learnt, requests_of, IsTrueFront, AreTrueFronts}
use Rattle.link.specs.Delivery.{pending_by, pending_after, IsKnown, is_reset, Session, with_first}
use Rattle.link.specs.Delivery.{before_reset, sessions, IsSessionKnown}
use Rattle.link.proofs.Bit.{Agrees, owes_of, exchange_step, reset_taken, idle_status, idle_reset}
use Rattle.link.proofs.Bit.{confirmed_reset, append-nil}
use Rattle.link.proofs.Marks.{by_mark, down_mark}

-- From a place with this pending and owed: the rest of its session is known, and the later ones.
pub record AreKnown (station : ℕ) (pending : Option Service) (owed : List Effect) (rest : Session)
    (later : List Session) : Type 0 where
  pub present : IsKnown (learnt station rest.exchanges)
      (pending_after station pending rest.exchanges) (owed
      ++ all_done rest.turns)
  pub each : AllByRecursion (λ (s : Session). IsSessionKnown station s) later

abbrev pub IsKnownFrom : (station : ℕ) → Option Service → List Effect → List Exchange → List Turn
    → Type 0
IsKnownFrom station pending owed xs turns =
    AreKnown station pending owed (before_reset station xs turns)
    (sessions station xs turns)

-- nothing is learnt by a reset, and nothing is pending after it
pub reset_learns : (request : Asked) (m : Option Answer) (pending : Option Service)
    → is_reset request m ≡ true →
    (learnt_by request m ≡ []) × (pending_by request m pending ≡ None)
reset_learns Reset (Some Confirmed) pending h = (refl, refl)
reset_learns Reset None pending h = cc
reset_learns Reset (Some Ready) pending h = cc
reset_learns Reset (Some Busy) pending h = cc
reset_learns Reset (Some (Report asdu)) pending h = cc
reset_learns Reset (Some NoData) pending h = cc
reset_learns Reset (Some Unable) pending h = cc
reset_learns Status m pending h = cc
reset_learns (Counted fcb service) m pending h = cc

-- one more exchange before what is known
one_more : (first : List Effect) (pending : Option Service) (owed done : List Effect)
    (some all : List Effect)
    (owed' : List Effect) →
    owed ++ done ≡ first ++ owed' → IsKnown some pending (owed' ++ all)
    → IsKnown (first ++ some) pending (owed ++ (done ++ all))
one_more first pending owed done some all owed' sum k = record {
  owed = k.owed;
  may_owe = k.may_owe;
  whole = append_assoc first some k.owed ∙ ap (λ (e : List Effect). first ++ e) k.whole
      ∙ sym (append_assoc first owed' all)
      ∙ ap (λ (e : List Effect). e ++ all) (sym sum) ∙ append_assoc owed done all;
}

-- a link that is given up knows no less
given_agrees : (station : ℕ) (given : Bool) (link : Link) (pending : Option Service)
    (state : Outstation) (owed : List Effect) → Agrees station link pending state owed
    → Agrees station (if given then Down else link) pending state owed
given_agrees station given link pending state owed a =
    by_mark (λ (l : Link). Agrees station l pending state owed) given link a
    (owes_of station link pending state owed a)

-- a confirmed reset, of which the outstation's turn is known
after_reset : (settings : LinkSettings) (station : ℕ) (link : Link) (pending : Option Service)
    (x : Exchange)
    (old mid : Outstation) (turn : Turn) →
    is_reset x.request (answer_to station x) ≡ true → OutstationStep station old x.request turn mid
    → IsTrueFront x.front turn →
    (turn.done ≡ []) × Agrees station (after settings station x link)
    (pending_by x.request (answer_to station x) pending) mid []
after_reset settings station link pending x old mid turn is step true_front =
    go x.request refl (confirmed_reset x.request (answer_to station x) is)
  where
    go : (request : Asked) → x.request ≡ request → (x.request ≡ Reset)
        × (answer_to station x ≡ Some Confirmed) →
        (turn.done ≡ []) × Agrees station (after settings station x link)
        (pending_by x.request (answer_to station x) pending) mid []
    go request same c =
        let taken : OutstationStep station old Reset turn mid =
        subst (λ (r : Asked). OutstationStep station old r turn mid) c.0 step in
        let confirmed : option_and_then (answer_of station Reset) x.front ≡ Some Confirmed =
        ap (λ (r : Asked). option_and_then (answer_of station r) x.front) (sym c.0) ∙ c.1 in
        let reset : mid ≡ reset_link = reset_taken station x.front old mid turn taken true_front
        confirmed in
        let up : after_outcome settings (answer_to station x) x.request x.closed link ≡ Next true =
        ap (λ (m : Option Answer). after_outcome settings m x.request x.closed link) c.1
        ∙ ap (λ (r : Asked). after_outcome settings (Some Confirmed)
        r x.closed link) c.0 in
        let clear : pending_by x.request (answer_to station x) pending ≡ None =
        (reset_learns x.request (answer_to station x) pending is).1 in (
          idle_reset station old mid turn taken,
          given_agrees station x.given_up _ _ mid []
              (subst
              (λ (l : Link). Agrees station l (pending_by x.request (answer_to station x) pending)
              mid []) (sym up)
              (clear, record { bit = ap (λ (o : Outstation). o.bit) reset; owes = refl })),
        )

pub known_from : (settings : LinkSettings) (station : ℕ) (link : Link) (pending : Option Service)
    (xs : List Exchange)
    (turns : List Turn)
    (old end : Outstation) (owed : List Effect) →
    Agrees station link pending old owed → KeepsFrameCountBit settings station link xs
    → OutstationRun station old (requests_of xs) turns end → AreTrueFronts xs turns →
    IsKnownFrom station pending owed xs turns
known_from settings station link pending [] [] old end owed agrees keeps run fronts = record {
  present = record {
    owed = owed;
    may_owe = owes_of station link pending old owed agrees;
    whole =
        sym (append-nil owed);
  };
  each = tt;
}
known_from settings station link pending [] (turn ∷ turns) old end owed agrees keeps run fronts =
    absurd run
known_from settings station link pending (x ∷ xs) [] old end owed agrees keeps run fronts =
    absurd run
known_from settings station link pending (x ∷ xs) (turn ∷ turns) old end owed agrees keeps run
    fronts =
    go (is_reset x.request (answer_to station x)) refl
    (λ (p : Option Service) (o : List Effect) (a : Agrees station (after settings station x link) p
    run.0 o).
    known_from settings station (after settings station x link) p xs turns run.0 end o a keeps.1
    run.2 fronts.1)
  where
    go : (b : Bool) → is_reset x.request (answer_to station x) ≡ b →
        ((p : Option Service) (o : List Effect)
        → Agrees station (after settings station x link) p run.0 o
        → IsKnownFrom station p o xs turns) →
        AreKnown station pending owed
        (if b then record { exchanges = []; turns = [] }
        else with_first x turn (before_reset station xs turns))
        (if b then with_first x turn (before_reset station xs turns)
        ∷ sessions station xs turns else sessions station xs turns)
    go true is ih =
        let r = after_reset settings station link pending x old run.0 turn is run.1 fronts.0 in
        let l = reset_learns x.request (answer_to station x) None is in
        let next = ih (pending_by x.request (answer_to station x) pending) [] r.1 in
        let clear : pending_by x.request (answer_to station x) pending
        ≡ pending_by x.request (answer_to station x) None =
        (reset_learns x.request (answer_to station x) pending is).1 ∙ sym l.1 in
        record {
          present = record {
            owed = owed;
            may_owe = owes_of station link pending old owed agrees;
            whole =
                sym (append-nil owed);
          };
          each = (
            one_more (learnt_by x.request (answer_to station x)) _ [] turn.done _ _ []
                (r.0 ∙ ap (λ (e : List Effect). e ++ []) (sym l.0))
                (subst
                (λ (p : Option Service). IsKnown
                (learnt station (before_reset station xs turns).exchanges)
                (pending_after station p (before_reset station xs turns).exchanges) ([]
                ++ all_done (before_reset station xs turns).turns)) clear next.present),
            next.each,
          );
        }
    go false is ih =
        let step = exchange_step settings station link pending x.request x.front x.closed old run.0
        turn owed agrees
        keeps.0 run.1 fronts.0 is in
        let next = ih (pending_by x.request (answer_to station x) pending) step.owed'
        (given_agrees station x.given_up _ _ run.0 step.owed' step.agrees) in
        record {
          present = one_more (learnt_by x.request (answer_to station x)) _ owed turn.done _ _
              step.owed' step.sum
              next.present;
          each = next.each;
        }

-- While the link is down and isn't reset, it stays down, and nothing is learnt or pending by it.
pub record IsIdle (settings : LinkSettings) (station : ℕ) (link : Link) (request : Asked)
    (m : Option Answer)
    (x : Exchange) : Type 0 where
  pub down : is_up (after_outcome settings m x.request x.closed link) ≡ false
  pub nothing : learnt_by request m ≡ []
  pub same : (pending : Option Service) → pending_by request m pending ≡ pending

pub idle_down : (settings : LinkSettings) (station : ℕ) (link : Link) (request : Asked)
    (m : Option Answer)
    (front : Option Frame) (closed : Bool) →
    is_up link ≡ false → MaySend link request → is_reset request m ≡ false →
    IsIdle settings station link request m (record {
      request = request;
      front = front;
      closed =
          closed;
      given_up = false;
    })
idle_down settings station Down Status None front closed down may other =
    record { down = refl; nothing = refl; same = λ p. refl }
idle_down settings station Available Status None front closed down may other =
    record { down = refl; nothing = refl; same = λ p. refl }
idle_down settings station Available Reset None front closed down may other =
    record { down = refl; nothing = refl; same = λ p. refl }
idle_down settings station Down Status (Some Ready) front closed down may other =
    record { down = refl; nothing = refl; same = λ p. refl }
idle_down settings station Down Status (Some Unable) front closed down may other =
    record { down = refl; nothing = refl; same = λ p. refl }
idle_down settings station Down Status (Some answer) front closed down may other =
    record { down = refl; nothing = refl; same = λ p. refl }
idle_down settings station Available Status (Some Ready) front closed down may other =
    record { down = refl; nothing = refl; same = λ p. refl }
idle_down settings station Available Status (Some Unable) front closed down may other =
    record { down = refl; nothing = refl; same = λ p. refl }
idle_down settings station Available Status (Some answer) front closed down may other =
    record { down = refl; nothing = refl; same = λ p. refl }
idle_down settings station Available Reset (Some Confirmed) front closed down may other = cc
idle_down settings station Available Reset (Some Unable) front closed down may other =
    record { down = refl; nothing = refl; same = λ p. refl }
idle_down settings station Available Reset (Some answer) front closed down may other =
    record { down = refl; nothing = refl; same = λ p. refl }
idle_down settings station (Next fcb) request m front closed down may other = cc
idle_down settings station (Held fcb service missed) request m front closed down may other = cc
idle_down settings station link request m front closed down may other = absurd may

-- no service is done while the link is down
idle_turn : (station : ℕ) (link : Link) (request : Asked) (old new : Outstation) (turn : Turn)
    → is_up link ≡ false
    → MaySend link request →
    OutstationStep station old request turn new → turn.done ≡ []
idle_turn station Down Status old new turn down may step = idle_status station old new turn step
idle_turn station Available Status old new turn down may step =
    idle_status station old new turn step
idle_turn station Available Reset old new turn down may step = idle_reset station old new turn step
idle_turn station (Next fcb) request old new turn down may step = cc
idle_turn station (Held fcb service missed) request old new turn down may step = cc
idle_turn station link request old new turn down may step = absurd may

pub reset_from_down : (link : Link) (request : Asked) → MaySend link request → request ≡ Reset
    → is_up link ≡ false
reset_from_down Down request may is = refl
reset_from_down Available request may is = refl
reset_from_down (Next fcb) (Counted sent service) may is = cc
reset_from_down (Held fcb service missed) Status may is = cc
reset_from_down (Held fcb service missed) (Counted sent again) may is = cc
reset_from_down link request may is = absurd may

-- Before the first reset nothing is learnt, and nothing is pending.
pub nothing_before : (settings : LinkSettings) (station : ℕ) (link : Link) (xs : List Exchange)
    (turns : List Turn)
    → is_up link ≡ false →
    KeepsFrameCountBit settings station link xs →
    (learnt station (before_reset station xs turns).exchanges ≡ [])
    × (pending_after station None (before_reset station xs turns).exchanges ≡ None)
nothing_before settings station link [] turns down keeps = (refl, refl)
nothing_before settings station link (x ∷ xs) [] down keeps = (refl, refl)
nothing_before settings station link (x ∷ xs) (turn ∷ turns) down keeps =
    go (is_reset x.request (answer_to station x)) refl
    (λ (d : is_up (after settings station x link) ≡ false). nothing_before settings station
    (after settings station x link) xs turns d keeps.1)
  where
    go : (b : Bool) → is_reset x.request (answer_to station x) ≡ b →
        (is_up (after settings station x link) ≡ false →
        (learnt station (before_reset station xs turns).exchanges ≡ [])
        × (pending_after station None (before_reset station xs turns).exchanges ≡ None)) →
        (learnt station (if b then record {
          exchanges = [];
          turns =
              [];
        } else with_first x turn (before_reset station xs turns)).exchanges ≡ [])
        × (pending_after station None (if b then record {
          exchanges = [];
          turns =
              [];
        } else with_first x turn (before_reset station xs turns)).exchanges ≡ None)
    go true is ih = (refl, refl)
    go false is ih =
        let idle = idle_down settings station link x.request (answer_to station x) x.front x.closed
        down keeps.0 is in
        let rest = ih (down_mark x.given_up _ idle.down) in (
          ap (λ (e : List Effect). e ++ learnt station (before_reset station xs turns).exchanges)
              idle.nothing ∙ rest.0,
          ap (λ (p : Option Service). pending_after station p
              (before_reset station xs turns).exchanges)
              (idle.same None) ∙ rest.1,
        )

-- All that is learnt is learnt before the first reset, and then in the sessions; likewise what is
-- done.
pub learnt_in_sessions : (station : ℕ) (xs : List Exchange) (turns : List Turn)
    (old end : Outstation)
    → OutstationRun station old (requests_of xs) turns end →
    (learnt station (before_reset station xs turns).exchanges
    ++ flat_map (λ (s : Session). learnt station s.exchanges) (sessions station xs turns)
    ≡ learnt station xs)
    × (all_done (before_reset station xs turns).turns
    ++ flat_map (λ (s : Session). all_done s.turns)
    (sessions station xs turns) ≡ all_done turns)
learnt_in_sessions station [] [] old end run = (refl, refl)
learnt_in_sessions station [] (turn ∷ turns) old end run = absurd run
learnt_in_sessions station (x ∷ xs) [] old end run = absurd run
learnt_in_sessions station (x ∷ xs) (turn ∷ turns) old end run =
    go (is_reset x.request (answer_to station x)) (learnt_in_sessions station xs turns run.0 end
    run.2)
  where
    go : (b : Bool) →
        (learnt station (before_reset station xs turns).exchanges
        ++ flat_map (λ (s : Session). learnt station s.exchanges) (sessions station xs turns)
        ≡ learnt station xs)
        × (all_done (before_reset station xs turns).turns
        ++ flat_map (λ (s : Session). all_done s.turns) (sessions station xs turns)
        ≡ all_done turns) →
        (learnt station (if b then record {
          exchanges = [];
          turns =
              [];
        } else with_first x turn (before_reset station xs turns)).exchanges
        ++ flat_map (λ (s : Session). learnt station s.exchanges)
        (if b then with_first x turn (before_reset station xs turns)
        ∷ sessions station xs turns else sessions station xs turns)
        ≡ learnt station (x ∷ xs))
        × (all_done (if b then record {
          exchanges = [];
          turns =
              [];
        } else with_first x turn (before_reset station xs turns)).turns
        ++ flat_map (λ (s : Session). all_done s.turns) (if b
        then with_first x turn (before_reset station xs turns)
        ∷ sessions station xs turns else sessions station xs turns)
        ≡ all_done (turn ∷ turns))
    go true ih = (
      append_assoc (learnt_by x.request (answer_to station x)) _ _
          ∙ ap (λ (e : List Effect). learnt_by x.request (answer_to station x) ++ e) ih.0,
      append_assoc turn.done _ _ ∙ ap (λ (e : List Effect). turn.done ++ e) ih.1,
    )
    go false ih = (
      append_assoc (learnt_by x.request (answer_to station x)) _ _
          ∙ ap (λ (e : List Effect). learnt_by x.request (answer_to station x) ++ e) ih.0,
      append_assoc turn.done _ _ ∙ ap (λ (e : List Effect). turn.done ++ e) ih.1,
    )

-- Under a steady link one session holds all.
pub steady_from : (settings : LinkSettings) (station : ℕ) (link : Link) (pending : Option Service)
    (xs : List Exchange)
    (turns : List Turn)
    (old end : Outstation) (owed : List Effect) →
    Agrees station link pending old owed → (is_up link ≡ false → (owed ≡ []) × (pending ≡ None)) →
    KeepsFrameCountBit settings station link xs → IsSteady settings station link xs
    → OutstationRun station old (requests_of xs) turns end → AreTrueFronts xs turns →
    IsKnown (learnt station xs) (pending_after station pending xs) (owed ++ all_done turns)
steady_from settings station link pending [] [] old end owed agrees clear keeps steady run fronts =
    record {
      owed = owed;
      may_owe = owes_of station link pending old owed agrees;
      whole =
          sym (append-nil owed);
    }
steady_from settings station link pending [] (turn ∷ turns) old end owed agrees clear keeps steady
    run fronts =
    absurd run
steady_from settings station link pending (x ∷ xs) [] old end owed agrees clear keeps steady run
    fronts = absurd run
steady_from settings station link pending (x ∷ xs) (turn ∷ turns) old end owed agrees clear keeps
    steady run fronts =
    go (is_reset x.request (answer_to station x)) refl
    (λ (p : Option Service) (o : List Effect) (a : Agrees station (after settings station x link) p
    run.0 o)
    (c : is_up (after settings station x link) ≡ false → (o ≡ []) × (p ≡ None)).
    steady_from settings station (after settings station x link) p xs turns run.0 end o a c keeps.1
    steady.1 run.2
    fronts.1)
  where
    go : (b : Bool) → is_reset x.request (answer_to station x) ≡ b →
        ((p : Option Service) (o : List Effect)
        → Agrees station (after settings station x link) p run.0 o →
        (is_up (after settings station x link) ≡ false → (o ≡ []) × (p ≡ None)) →
        IsKnown (learnt station xs) (pending_after station p xs) (o ++ all_done turns)) →
        IsKnown (learnt station (x ∷ xs)) (pending_after station pending (x ∷ xs))
        (owed ++ all_done (turn ∷ turns))
    go true is ih =
        let r = after_reset settings station link pending x old run.0 turn is run.1 fronts.0 in
        let l = reset_learns x.request (answer_to station x) pending is in
        let c =
        clear
        (reset_from_down link x.request keeps.0 (confirmed_reset x.request (answer_to station x)
        is).0) in
        one_more (learnt_by x.request (answer_to station x)) _ owed turn.done _ _ []
        (ap (λ (o : List Effect). o ++ turn.done) c.0 ∙ r.0
        ∙ ap (λ (e : List Effect). e ++ []) (sym l.0))
        (ih (pending_by x.request (answer_to station x) pending) [] r.1 (λ d. (refl, l.1)))
    go false is ih =
        let step = exchange_step settings station link pending x.request x.front x.closed old run.0
        turn owed agrees
        keeps.0 run.1 fronts.0 is in
        one_more (learnt_by x.request (answer_to station x)) _ owed turn.done _ _ step.owed'
        step.sum
        (ih (pending_by x.request (answer_to station x) pending) step.owed'
        (given_agrees station x.given_up _ _ run.0 step.owed' step.agrees)
        (λ (d : is_up (after settings station x link) ≡ false). down (is_up link) refl step.owed'
        step.sum d))
      where
        down : (u : Bool) → is_up link ≡ u → (o : List Effect)
            → owed ++ turn.done ≡ learnt_by x.request (answer_to station x) ++ o →
            is_up (after settings station x link) ≡ false
            → (o ≡ []) × (pending_by x.request (answer_to station x) pending ≡ None)
        down true up o sum d = let e : is_up (after settings station x link) ≡ true = steady.0 up in
            cc
        down false up o sum d =
            let c = clear up in
            let idle = idle_down settings station link x.request (answer_to station x) x.front
            x.closed up keeps.0 is in
            let quiet = idle_turn station link x.request old run.0 turn up keeps.0 run.1 in (
              ap (λ (e : List Effect). e ++ o) (sym idle.nothing) ∙ sym sum
                  ∙ ap (λ (e : List Effect). e ++ turn.done) c.0 ∙ quiet,
              idle.same pending ∙ c.1,
            )
