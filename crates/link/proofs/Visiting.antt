-- What a turn goes on with is what its visit still has.
use Rattle.std.proofs.Common.{◌≡◌, ℕ, zero, suc, ◌+◌, ◌-◌, ◌*◌, ◌<◌, ◌≤◌, ◌&&◌, ◌||◌, nat_lt, Bool}
use Rattle.std.proofs.Common.{true, false, not, List, [], ◌∷◌, ◌++◌, length, Option, Some, None}
use Rattle.std.proofs.Common.{refl, sym, ap, subst, ◌∙◌, arith, if◌then◌else◌, append_assoc}
use Rattle.std.proofs.lemmas.Nat.{mul-le}
use Rattle.std.proofs.lemmas.Bool.{ltb-true}
use Rattle.link.specs.Answers.{Service, Class1, Class2, Asked, Status, Reset, Counted}
use Rattle.link.specs.Exchanges.{Exchange}
use Rattle.link.specs.Procedure.{LinkSettings, Link, Down, Available, Next, Held, MaySend, after}
use Rattle.link.specs.Procedure.{link_after, missed_so_far}
use Rattle.link.specs.Requests.{RequestKind, kind_of}
use Rattle.link.specs.declared.request.RequestKind.TheVariants as kind
use Rattle.link.specs.Turns.{StationState, Phase, Starting, Commanding, Polling, Class1Polling}
use Rattle.link.specs.Turns.{Over, Wanted, wants, is_poll, wanted_poll, polls_from, wanted_command}
use Rattle.link.specs.Turns.{commands_from, next_of, wanted_by}
use Rattle.link.specs.Visits.{Left, class1_polls, services, whole_visit, MayFollow, IsVisitFrom}
use Rattle.link.specs.Visits.{most_of_visit}
use Rattle.link.specs.Procedure.{Silence, has_repeats}
use Rattle.link.specs.Turns.{is_doubted}

-- ---- visits

-- These exchanges lead from what a visit has to what it still has.
abbrev pub Leads : LinkSettings → (station : ℕ) → Link → Left → List Exchange → Left → Type 0
Leads settings station link left [] end = end ≡ left
Leads settings station link left (x ∷ xs) end =
    MaySend link x.request
    × ((later : Left) × MayFollow settings link left x.request later
    × Leads settings station (after settings station x link) later xs end)

pub leads_visit : (settings : LinkSettings) (station : ℕ) (link : Link) (left : Left)
    (xs : List Exchange) (end : Left)
    →
    Leads settings station link left xs end → IsVisitFrom settings station link left xs
leads_visit settings station link left [] end l = tt
leads_visit settings station link left (x ∷ xs) end l = (
  l.0,
  (
    l.1.0,
    l.1.1,
    leads_visit settings station (after settings station x link) l.1.0 xs end
        l.1.2,
  ),
)

pub leads_on : (settings : LinkSettings) (station : ℕ) (link : Link) (left : Left)
    (xs : List Exchange) (x : Exchange)
    (mid end : Left) →
    Leads settings station link left xs mid
    → MaySend (link_after settings station link xs) x.request →
    MayFollow settings (link_after settings station link xs) mid x.request end
    → Leads settings station link left (xs ++ x ∷ []) end
leads_on settings station link left [] x mid end l may follow =
    (may, (end, subst (λ (m : Left). MayFollow settings link m x.request end) l follow, refl))
leads_on settings station link left (y ∷ ys) x mid end l may follow = (
  l.0,
  (
    l.1.0,
    l.1.1,
    leads_on settings station (after settings station y link) l.1.0 ys x mid
        end l.1.2 may follow,
  ),
)

length-append : {A : Type 0} (xs ys : List A) → length (xs ++ ys) ≡ length xs + length ys
length-append {A} [] ys = omega arith
length-append {A} (x ∷ xs) ys = ap (λ (n : ℕ). suc n) (length-append xs ys) ∙ omega arith

-- so many requests a visit may still have
abbrev pub room : LinkSettings → Left → ℕ
room settings left = left.repeats + suc settings.retries * length left.plan

planned_room : (settings : LinkSettings) (left later : Left) (k : RequestKind)
    (left_out : List RequestKind)
    → left_out ++ k ∷ later.plan ≡ left.plan →
    later.repeats ≡ settings.retries → suc (room settings later) ≤ room settings left
planned_room settings left later k left_out is same =
    let long : length left_out + suc (length later.plan) ≡ length left.plan =
    sym (length-append left_out (k ∷ later.plan)) ∙ ap length is in
    let more : suc settings.retries * suc (length later.plan) ≤ suc settings.retries
    * length left.plan =
    mul-le (suc settings.retries) (suc (length later.plan)) (suc settings.retries)
    (length left.plan) (omega arith)
    (omega (arith, long)) in
    omega (arith, more, same)

follow_room : (settings : LinkSettings) (link : Link) (left later : Left) (request : Asked)
    → MayFollow settings link left request later →
    suc (room settings later) ≤ room settings left
follow_room settings (Held fcb service missed) left later request f =
    let same : suc settings.retries * length later.plan ≡ suc settings.retries * length left.plan =
    ap (λ (l : List RequestKind). suc settings.retries * length l) f.0 in
    omega (arith, same, f.1)
follow_room settings Down left later request f = planned_room settings left later (kind_of request)
    f.0.0 f.0.1 f.1
follow_room settings Available left later request f =
    planned_room settings left later (kind_of request) f.0.0 f.0.1 f.1
follow_room settings (Next fcb) left later request f =
    planned_room settings left later (kind_of request) f.0.0 f.0.1 f.1

pub visit_room : (settings : LinkSettings) (station : ℕ) (link : Link) (left : Left)
    (xs : List Exchange)
    → IsVisitFrom settings station link left xs →
    length xs ≤ room settings left
visit_room settings station link left [] v = omega arith
visit_room settings station link left (x ∷ xs) v =
    let rest = visit_room settings station (after settings station x link) v.1.0 xs v.1.2 in
    let one = follow_room settings link left v.1.0 x.request v.1.1 in
    omega (arith, rest, one)

polls_length : (many : ℕ) → length (class1_polls many) ≡ many
polls_length zero = refl
polls_length (suc many) = ap (λ (n : ℕ). suc n) (polls_length many)

pub whole_room : (settings : LinkSettings) (link : Link)
    → room settings (whole_visit settings link) ≤ most_of_visit settings
whole_room settings Down =
    let less : suc settings.retries * 2 ≤ suc settings.retries * (3 + settings.burst) =
    mul-le (suc settings.retries) 2 (suc settings.retries) (3 + settings.burst) (omega arith)
    (omega arith) in
    omega (arith, less)
whole_room settings Available =
    let less : suc settings.retries * 0 ≤ suc settings.retries * (3 + settings.burst) =
    mul-le (suc settings.retries) 0 (suc settings.retries) (3 + settings.burst) (omega arith)
    (omega arith) in
    omega (arith, less)
whole_room settings (Next fcb) =
    let less : suc settings.retries * length (services settings.burst) ≤ suc settings.retries
    * (3 + settings.burst) =
    mul-le (suc settings.retries) (length (services settings.burst)) (suc settings.retries)
    (3 + settings.burst)
    (omega arith) (omega (arith, polls_length settings.burst)) in
    omega (arith, less)
whole_room settings (Held fcb service missed) =
    let e : suc settings.retries * length (services settings.burst) ≡ suc settings.retries
    * (2 + settings.burst) =
    ap (λ (n : ℕ). suc settings.retries * n) (omega (arith, polls_length settings.burst)) in
    let one : suc settings.retries + suc settings.retries * (2 + settings.burst)
    ≡ suc settings.retries * (3 + settings.burst) = omega arith in
    omega (arith, e, one)

-- ---- phases

-- what a phase still has of new services; none of them starts a link
abbrev pub HasPlan : (burst : ℕ) → Phase → (plan : List RequestKind) → Type 0
HasPlan burst Commanding plan = services burst ≡ plan
HasPlan burst Polling plan = kind.Class2 ∷ class1_polls burst ≡ plan
HasPlan burst (Class1Polling sent) plan = class1_polls (burst - sent) ≡ plan
HasPlan burst Starting plan = ⊥
HasPlan burst Over plan = ⊥

-- while this request is outstanding
abbrev pub Awaits : LinkSettings → Asked → Phase → Link → Left → Type 0
Awaits settings Status phase (Held fcb service silence) left = phase ≡ Over
Awaits settings Status phase link left = (phase ≡ Starting) × (kind.Reset ∷ [] ≡ left.plan)
Awaits settings Reset phase link left = phase ≡ Over
Awaits settings (Counted fcb service) phase link left =
    HasPlan settings.burst phase left.plan × (settings.retries ≤ left.repeats + missed_so_far link)

abbrev pub IsStarting : Link → Left → Type 0
IsStarting Down left = kind.Status ∷ (kind.Reset ∷ []) ≡ left.plan
IsStarting Available left = kind.Reset ∷ [] ≡ left.plan
IsStarting link left = ⊥

pub record IsRepeatable (settings : LinkSettings) (link : Link) (left : Left) : Type 0 where
  pub left_over : has_repeats settings link ≡ true
  pub more : missed_so_far link ≤ settings.retries
  pub enough : suc settings.retries ≤ left.repeats + missed_so_far link

-- while none is outstanding
pub data IsReady (settings : LinkSettings) (again : Bool) (phase : Phase) (link : Link)
    (left : Left) : Type 0 where
  over : phase ≡ Over → again ≡ false → IsReady settings again phase link left
  starting : phase ≡ Starting → IsStarting link left → IsReady settings again phase link left
  serving : HasPlan settings.burst phase left.plan
      → (again ≡ true → IsRepeatable settings link left)
      → IsReady settings again phase link left

-- What is wanted is something that the visit still has.
pub record Follows (settings : LinkSettings) (link : Link) (left : Left) (w : Wanted) : Type 0 where
  pub later : Left
  pub follow : MayFollow settings link left w.request later
  pub awaits : Awaits settings w.request w.following link later

abbrev pub FollowsIt : LinkSettings → Link → Left → Option Wanted → Type 0
FollowsIt settings link left None = Unit {0}
FollowsIt settings link left (Some w) = Follows settings link left w

first_poll : (burst : ℕ) → 0 < burst → class1_polls burst ≡ kind.Class1 ∷ class1_polls (burst - 1)
first_poll zero some = absurd (omega (arith, some))
first_poll (suc less) some = ap (λ (n : ℕ). kind.Class1 ∷ class1_polls n) (omega arith)

next_poll : (left sent burst : ℕ) → left ≡ burst - sent → sent < burst
    → class1_polls left ≡ kind.Class1 ∷ class1_polls (burst - suc sent)
next_poll zero sent burst is more = absurd (omega (arith, is, more))
next_poll (suc left) sent burst is more =
    ap (λ (n : ℕ). kind.Class1 ∷ class1_polls n) (omega (arith, is))

-- polls, with what is left out before them
polling_follows : (settings : LinkSettings) (fcb : Bool) (s : StationState) (left : Left)
    (left_out : List RequestKind)
    → 0 < settings.burst →
    left_out ++ kind.Class2 ∷ class1_polls settings.burst ≡ left.plan
    → FollowsIt settings (Next fcb) left (wanted_poll settings.burst fcb s.acd Polling)
polling_follows settings fcb s left left_out some plan = go s.acd
  where
    go : (acd : Bool) →
        FollowsIt settings (Next fcb) left (if acd then wants (Counted fcb Class1) (Class1Polling 1)
        else wants
        (Counted fcb Class2) (Class1Polling 0))
    go true = record {
      later = record { plan = class1_polls (settings.burst - 1); repeats = settings.retries };
      follow = (
        (
          left_out ++ kind.Class2 ∷ [],
          append_assoc left_out (kind.Class2 ∷ []) (kind.Class1 ∷ class1_polls (settings.burst - 1))
              ∙ ap (λ (l : List RequestKind). left_out ++ kind.Class2 ∷ l)
              (sym (first_poll settings.burst some))
              ∙ plan,
        ),
        refl,
      );
      awaits = (refl, omega arith);
    }
    go false = record {
      later = record { plan = class1_polls settings.burst; repeats = settings.retries };
      follow = ((left_out, plan), refl);
      awaits = (ap class1_polls (omega arith), omega arith);
    }

polls_follow : (settings : LinkSettings) (may_poll fcb : Bool) (s : StationState) (left : Left)
    (left_out : List RequestKind) → 0 < settings.burst →
    left_out ++ kind.Class2 ∷ class1_polls settings.burst ≡ left.plan
    → FollowsIt settings (Next fcb) left (polls_from settings.burst may_poll fcb s Polling)
polls_follow settings true fcb s left left_out some plan =
    polling_follows settings fcb s left left_out some plan
polls_follow settings false fcb s left left_out some plan = tt

class1_follows : (settings : LinkSettings) (may_poll fcb : Bool) (s : StationState) (left : Left)
    (sent : ℕ) →
    class1_polls (settings.burst - sent) ≡ left.plan → FollowsIt settings (Next fcb) left
    (polls_from settings.burst may_poll fcb s (Class1Polling sent))
class1_follows settings false fcb s left sent plan = tt
class1_follows settings true fcb s left sent plan = go s.acd (nat_lt sent settings.burst) refl
  where
    go : (acd more : Bool) → nat_lt sent settings.burst ≡ more →
        FollowsIt settings (Next fcb) left (if acd && more then wants (Counted fcb Class1)
        (Class1Polling (suc sent)) else None)
    go false more e = tt
    go true false e = tt
    go true true e = record {
      later = record {
        plan = class1_polls (settings.burst - suc sent);
        repeats =
            settings.retries;
      };
      follow = (
        (
          [],
          sym (next_poll (settings.burst - sent) sent settings.burst refl
              (ltb-true sent settings.burst e))
              ∙ plan,
        ),
        refl,
      );
      awaits = (refl, omega arith);
    }

commands_follow : (settings : LinkSettings) (may_poll fcb : Bool) (s : StationState)
    (command : Option (List ℕ))
    (left : Left) → 0 < settings.burst →
    services settings.burst ≡ left.plan → FollowsIt settings (Next fcb) left
    (commands_from settings.burst may_poll fcb s command)
commands_follow settings may_poll fcb s None left some plan =
    polls_follow settings may_poll fcb s left (kind.Command ∷ []) some plan
commands_follow settings may_poll fcb s (Some asdu) left some plan = go s.dfc
  where
    go : (dfc : Bool) →
        FollowsIt settings (Next fcb) left
        (if dfc then polls_from settings.burst may_poll fcb s Polling else wanted_command fcb asdu)
    go true = polls_follow settings may_poll fcb s left (kind.Command ∷ []) some plan
    go false = record {
      later = record {
        plan = kind.Class2 ∷ class1_polls settings.burst;
        repeats =
            settings.retries;
      };
      follow = (([], plan), refl);
      awaits = (refl, omega arith);
    }

next_follows : (settings : LinkSettings) (may_poll fcb : Bool) (s : StationState)
    (command : Option (List ℕ)) (phase : Phase)
    (left : Left)
    → 0 < settings.burst →
    HasPlan settings.burst phase left.plan → FollowsIt settings (Next fcb) left
    (next_of settings.burst may_poll fcb s command phase)
next_follows settings may_poll fcb s command Starting left some plan = absurd plan
next_follows settings may_poll fcb s command Commanding left some plan =
    commands_follow settings may_poll fcb s command left some plan
next_follows settings may_poll fcb s command Polling left some plan =
    polls_follow settings may_poll fcb s left [] some plan
next_follows settings may_poll fcb s command (Class1Polling sent) left some plan =
    class1_follows settings may_poll fcb s left sent plan
next_follows settings may_poll fcb s command Over left some plan = absurd plan

-- a link that isn't up begins so
start_follows : (settings : LinkSettings) (may_poll again : Bool) (s : StationState)
    (command : Option (List ℕ)) (link : Link)
    (left : Left)
    → IsStarting link left →
    FollowsIt settings link left (wanted_by settings.burst may_poll again s command link Starting)
start_follows settings may_poll again s command Down left plan =
    record {
      later = record { plan = kind.Reset ∷ []; repeats = settings.retries };
      follow =
          (([], plan), refl);
      awaits = (refl, refl);
    }
start_follows settings may_poll again s command Available left plan =
    record {
      later = record { plan = []; repeats = settings.retries };
      follow =
          (([], plan), refl);
      awaits = refl;
    }
start_follows settings may_poll again s command (Next fcb) left plan = absurd plan
start_follows settings may_poll again s command (Held fcb service missed) left plan = absurd plan

-- what is sent again
repeat_follows : (settings : LinkSettings) (fcb : Bool) (service : Service) (missed : Silence)
    (phase : Phase) (left : Left)
    (repeats : ℕ) → left.repeats ≡ repeats →
    HasPlan settings.burst phase left.plan → IsRepeatable settings (Held fcb service missed) left →
    Follows settings (Held fcb service missed) left
    (record { request = Counted fcb service; following = phase })
repeat_follows settings fcb service missed phase left zero is plan more =
    let none : suc settings.retries ≤ missed.missed = omega (arith, more.enough, is) in
    absurd (omega (arith, none, more.more))
repeat_follows settings fcb service missed phase left (suc repeats) is plan more = record {
  later = record { plan = left.plan; repeats = repeats };
  follow = (refl, sym is);
  awaits = (plan, omega (arith, more.enough, is));
}

serve_follows : (settings : LinkSettings) (may_poll again : Bool) (s : StationState)
    (command : Option (List ℕ)) (link : Link)
    (phase : Phase)
    (left : Left) → 0 < settings.burst →
    HasPlan settings.burst phase left.plan → (again ≡ true → IsRepeatable settings link left) →
    FollowsIt settings link left (wanted_by settings.burst may_poll again s command link phase)
serve_follows settings may_poll again s command (Next fcb) phase left some plan more =
    next_follows settings may_poll fcb s command phase left some plan
serve_follows settings may_poll again s command (Held fcb service missed) Starting left some plan
    more =
    absurd plan
serve_follows settings may_poll again s command (Held fcb service missed) Over left some plan more =
    absurd plan
serve_follows settings may_poll true s command (Held fcb service missed) Commanding left some plan
    more =
    repeat_follows settings fcb service missed Commanding left left.repeats refl plan (more refl)
serve_follows settings may_poll true s command (Held fcb service missed) Polling left some plan
    more =
    repeat_follows settings fcb service missed Polling left left.repeats refl plan (more refl)
serve_follows settings may_poll true s command (Held fcb service missed) (Class1Polling sent) left
    some plan
    more =
    repeat_follows settings fcb service missed (Class1Polling sent) left left.repeats refl plan
    (more refl)
serve_follows settings may_poll false s command (Held fcb service missed) Commanding left some plan
    more =
    tt
serve_follows settings may_poll false s command (Held fcb service missed) Polling left some plan
    more = tt
serve_follows settings may_poll false s command (Held fcb service missed) (Class1Polling sent) left
    some
    plan more = tt
serve_follows settings may_poll again s command link Starting left some plan more = absurd plan
serve_follows settings may_poll again s command Down Commanding left some plan more = tt
serve_follows settings may_poll again s command Down Polling left some plan more = tt
serve_follows settings may_poll again s command Down (Class1Polling sent) left some plan more = tt
serve_follows settings may_poll again s command Down Over left some plan more = tt
serve_follows settings may_poll again s command Available Commanding left some plan more = tt
serve_follows settings may_poll again s command Available Polling left some plan more = tt
serve_follows settings may_poll again s command Available (Class1Polling sent) left some plan more =
    tt
serve_follows settings may_poll again s command Available Over left some plan more = tt

pub over_wants : (burst : ℕ) (may_poll : Bool) (s : StationState) (command : Option (List ℕ))
    (link : Link)
    → wanted_by burst may_poll false s command link Over ≡ None
over_wants burst may_poll s command Down = refl
over_wants burst may_poll s command Available = refl
over_wants burst may_poll s command (Next fcb) = refl
over_wants burst may_poll s command (Held fcb service missed) = refl

-- the turn goes on
pub ready_follows : (settings : LinkSettings) (may_poll again : Bool) (s : StationState)
    (command : Option (List ℕ))
    (link : Link) (phase : Phase)
    (left : Left) → 0 < settings.burst →
    IsReady settings again phase link left → FollowsIt settings link left
    (wanted_by settings.burst may_poll again s command link phase)
ready_follows settings may_poll again s command link phase left some (over o a) =
    subst (λ (v : Option Wanted). FollowsIt settings link left v)
    (sym (ap (λ (b : Bool). wanted_by settings.burst may_poll b s command link phase) a
    ∙ ap (λ (f : Phase). wanted_by settings.burst may_poll false s command link f) o
    ∙ over_wants settings.burst may_poll s command link)) tt
ready_follows settings may_poll again s command link phase left some (starting o plan) =
    subst (λ (f : Phase). FollowsIt settings link left (wanted_by settings.burst may_poll again s
    command
    link f)) (sym o)
    (start_follows settings may_poll again s command link left plan)
ready_follows settings may_poll again s command link phase left some (serving plan more) =
    serve_follows settings may_poll again s command link phase left some plan more

-- a turn begins, with a link whose status isn't known
pub begin_follows : (settings : LinkSettings) (may_poll : Bool) (s : StationState)
    (command : Option (List ℕ)) (link : Link)
    → 0 < settings.burst
    → (link ≡ Available → ⊥) →
    FollowsIt settings link (whole_visit settings link) (wanted_by settings.burst may_poll false s
    command
    link Starting)
begin_follows settings may_poll s command Down some fresh =
    start_follows settings may_poll false s command Down
    (whole_visit settings Down) refl
begin_follows settings may_poll s command Available some fresh = absurd (fresh refl)
begin_follows settings may_poll s command (Next fcb) some fresh =
    commands_follow settings may_poll fcb s command (whole_visit settings (Next fcb)) some refl
begin_follows settings may_poll s command (Held fcb service missed) some fresh =
    go (is_doubted s missed) (may_poll || not (is_poll service))
  where
    go : (doubted b : Bool)
        → FollowsIt settings (Held fcb service missed)
        (whole_visit settings (Held fcb service missed))
        (if doubted then wants Status Over
        else if b then wants (Counted fcb service) Commanding else None)
    go true b = record {
      later = record { plan = services settings.burst; repeats = settings.retries };
      follow = (refl, refl);
      awaits = refl;
    }
    go false false = tt
    go false true = record {
      later = record { plan = services settings.burst; repeats = settings.retries };
      follow = (refl, refl);
      awaits = (refl, omega arith);
    }
