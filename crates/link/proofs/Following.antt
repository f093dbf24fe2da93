-- What goes out after the latest request, and the phase of the turn that follows it.
use Rattle.std.proofs.Common.{◌≡◌, ℕ, suc, ◌||◌, not, nat_lt, ◌&&◌, Bool, true, false, List, []}
use Rattle.std.proofs.Common.{Option, Some, None, refl, sym, ap, subst, ◌∙◌, if◌then◌else◌}
use Rattle.link.specs.Answers.{Service, Class1, Class2, Command, Asked, Status, Reset, Counted}
use Rattle.link.specs.Exchanges.{Sending}
use Rattle.link.specs.Procedure.{LinkSettings, Link, Down, Available, Next, Held, is_held}
use Rattle.link.specs.Procedure.{is_service, has_repeats}
use Rattle.link.specs.Turns.{StationState, Phase, Starting, Commanding, Polling, Class1Polling}
use Rattle.link.specs.Turns.{Over, Wanted, Chosen, station_at, is_poll, wants, wanted_poll}
use Rattle.link.specs.Turns.{polls_from, wanted_command, commands_from, next_of, wanted_by}
use Rattle.link.specs.Turns.{held_request}
use Rattle.link.specs.Primary.{Outstanding, Primary, choice, after_choice}
use Rattle.link.specs.Primary.{asked_from, asked, sending_by, sending_from}
use Rattle.link.specs.Bursts.{is_answered}
use Rattle.link.specs.AtOnce.{latest_by}
use Rattle.link.proofs.Preceding.{IsChosen, here, there, is_chosen}
use Rattle.link.proofs.Bursting.{not_both}
use Rattle.link.specs.Turns.{CommandsWaiting}
use Rattle.link.specs.Procedure.{Silence}
use Rattle.link.specs.Turns.{is_doubted}

abbrev pub IsBegun : Phase → Type 0
IsBegun Starting = ⊥
IsBegun phase = Unit {0}

abbrev pub IsBeforePolls : Phase → Type 0
IsBeforePolls Commanding = Unit {0}
IsBeforePolls Polling = Unit {0}
IsBeforePolls phase = ⊥

-- the phase behind a request: the turn has begun, and behind a command polls are left
abbrev pub Follows : Asked → Phase → Type 0
Follows (Counted fcb (Command asdu)) phase = IsBeforePolls phase
Follows (Counted fcb Class1) phase = IsBegun phase
Follows (Counted fcb Class2) phase = IsBegun phase
Follows Status phase = Unit {0}
Follows Reset phase = Unit {0}

before_begun : (phase : Phase) → IsBeforePolls phase → IsBegun phase
before_begun Starting is = absurd is
before_begun Commanding is = tt
before_begun Polling is = tt
before_begun (Class1Polling sent) is = tt
before_begun Over is = tt

pub begun : (fcb : Bool) (service : Service) (phase : Phase) → Follows (Counted fcb service) phase
    → IsBegun phase
begun fcb Class1 phase is = is
begun fcb Class2 phase is = is
begun fcb (Command asdu) phase is = before_begun phase is

behind_held : (fcb : Bool) (service : Service) → Follows (Counted fcb service) Commanding
behind_held fcb Class1 = tt
behind_held fcb Class2 = tt
behind_held fcb (Command asdu) = tt

-- ---- what goes out

-- The held service again, and the phase stays; or another request with the phase that follows it.
pub data Goes (link : Link) (again : Bool) (phase : Phase) (request : Asked) (following : Phase) :
    Type 0 where
  repeated : again ≡ true → is_held link ≡ true → request ≡ held_request link → following ≡ phase
      → Goes link again phase request following
  other : Follows request following → Goes link again phase request following

abbrev pub GoesIt : Link → (again : Bool) → Phase → Option Wanted → Type 0
GoesIt link again phase None = Unit {0}
GoesIt link again phase (Some w) = Goes link again phase w.request w.following

poll_goes : (burst : ℕ) (fcb again : Bool) (s : StationState) (phase begun_in : Phase)
    → GoesIt (Next fcb) again begun_in (wanted_poll burst fcb s.acd phase)
poll_goes burst fcb again s Polling begun_in = go s.acd
  where
    go : (b : Bool) → GoesIt (Next fcb) again begun_in
        (if b then wants (Counted fcb Class1) (Class1Polling 1)
        else wants (Counted fcb Class2) (Class1Polling 0))
    go true = other tt
    go false = other tt
poll_goes burst fcb again s (Class1Polling sent) begun_in = go (s.acd && nat_lt sent burst)
  where
    go : (b : Bool) → GoesIt (Next fcb) again begun_in
        (if b then wants (Counted fcb Class1) (Class1Polling (suc sent)) else None)
    go true = other tt
    go false = tt
poll_goes burst fcb again s Starting begun_in = tt
poll_goes burst fcb again s Commanding begun_in = tt
poll_goes burst fcb again s Over begun_in = tt

polls_go : (burst : ℕ) (may_poll fcb again : Bool) (s : StationState) (phase begun_in : Phase)
    → GoesIt (Next fcb) again begun_in (polls_from burst may_poll fcb s phase)
polls_go burst true fcb again s phase begun_in = poll_goes burst fcb again s phase begun_in
polls_go burst false fcb again s phase begun_in = tt

commands_go : (burst : ℕ) (may_poll fcb again : Bool) (s : StationState) (begun_in : Phase)
    (command : Option (List ℕ))
    → GoesIt (Next fcb) again begun_in (commands_from burst may_poll fcb s command)
commands_go burst may_poll fcb again s begun_in None =
    polls_go burst may_poll fcb again s Polling begun_in
commands_go burst may_poll fcb again s begun_in (Some asdu) = go s.dfc
  where
    go : (b : Bool) → GoesIt (Next fcb) again begun_in
        (if b then polls_from burst may_poll fcb s Polling else wanted_command fcb asdu)
    go true = polls_go burst may_poll fcb again s Polling begun_in
    go false = other tt

next_goes : (burst : ℕ) (may_poll fcb again : Bool) (s : StationState) (command : Option (List ℕ))
    (phase : Phase)
    → GoesIt (Next fcb) again phase (next_of burst may_poll fcb s command phase)
next_goes burst may_poll fcb again s command Starting =
    commands_go burst may_poll fcb again s Starting command
next_goes burst may_poll fcb again s command Commanding =
    commands_go burst may_poll fcb again s Commanding command
next_goes burst may_poll fcb again s command Polling =
    polls_go burst may_poll fcb again s Polling Polling
next_goes burst may_poll fcb again s command (Class1Polling sent) =
    polls_go burst may_poll fcb again s (Class1Polling sent) (Class1Polling sent)
next_goes burst may_poll fcb again s command Over = tt

held_goes : (burst : ℕ) (may_poll again fcb : Bool) (s : StationState) (command : Option (List ℕ))
    (service : Service)
    (missed : Silence) (phase : Phase)
    → GoesIt (Held fcb service missed) again phase
    (wanted_by burst may_poll again s command (Held fcb service missed) phase)
held_goes burst may_poll again fcb s command service missed Starting =
    go (is_doubted s missed) (may_poll || not (is_poll service))
  where
    go : (doubted b : Bool) → GoesIt (Held fcb service missed) again Starting
        (if doubted then wants Status Over
        else if b then wants (Counted fcb service) Commanding else None)
    go true b = other tt
    go false true = other (behind_held fcb service)
    go false false = tt
held_goes burst may_poll true fcb s command service missed Commanding = repeated refl refl refl refl
held_goes burst may_poll true fcb s command service missed Polling = repeated refl refl refl refl
held_goes burst may_poll true fcb s command service missed (Class1Polling sent) =
    repeated refl refl refl refl
held_goes burst may_poll true fcb s command service missed Over = repeated refl refl refl refl
held_goes burst may_poll false fcb s command service missed Commanding = tt
held_goes burst may_poll false fcb s command service missed Polling = tt
held_goes burst may_poll false fcb s command service missed (Class1Polling sent) = tt
held_goes burst may_poll false fcb s command service missed Over = tt

wanted_goes : (burst : ℕ) (may_poll again : Bool) (s : StationState) (command : Option (List ℕ))
    (link : Link) (phase : Phase)
    → GoesIt link again phase (wanted_by burst may_poll again s command link phase)
wanted_goes burst may_poll again s command (Next fcb) phase =
    next_goes burst may_poll fcb again s command phase
wanted_goes burst may_poll again s command (Held fcb service missed) phase =
    held_goes burst may_poll again fcb s command service missed phase
wanted_goes burst may_poll again s command Down Starting = other tt
wanted_goes burst may_poll again s command Available Starting = other tt
wanted_goes burst may_poll again s command Down Commanding = tt
wanted_goes burst may_poll again s command Down Polling = tt
wanted_goes burst may_poll again s command Down (Class1Polling sent) = tt
wanted_goes burst may_poll again s command Down Over = tt
wanted_goes burst may_poll again s command Available Commanding = tt
wanted_goes burst may_poll again s command Available Polling = tt
wanted_goes burst may_poll again s command Available (Class1Polling sent) = tt
wanted_goes burst may_poll again s command Available Over = tt

-- ---- what the latest request says of the primary

-- It is outstanding; or it ended, and is sent again if repeats are left.
pub data State (settings : LinkSettings) (outstanding : Option Outstanding) (again : Bool)
    (phase : Phase) (link : Link) (request : Asked) : Type 0 where
  waits : (o : Outstanding) → outstanding ≡ Some o → o.request ≡ request → again ≡ false
      → Follows request phase
      → State settings outstanding again phase link request
  ended : outstanding ≡ None
      → (is_service request ≡ true → has_repeats settings link ≡ true → again ≡ true)
      → (again ≡ true → is_held link ≡ true
      → Follows request phase × (request ≡ held_request link))
      → (is_answered link ≡ true → Follows request phase)
      → State settings outstanding again phase link request

abbrev pub StateAt : Primary → Asked → Type 0
StateAt p request =
    State p.settings p.outstanding p.again p.phase (station_at p.stations p.turn).link request

abbrev pub Matches : Primary → Option Sending → Type 0
Matches p None = (p.outstanding ≡ None) × (p.again ≡ false)
Matches p (Some s) = (p.turn ≡ s.station) × StateAt p s.request

pub none_out : (o : Option Outstanding) (x : Outstanding) → o ≡ None → o ≡ Some x → ⊥
none_out o x e f = let no : None ≡ Some x = sym e ∙ f in cc

-- ---- `next`

-- What goes out is outstanding, and the phase follows it.
asks : (p : Primary) (now : ℕ) (c : Chosen) → Follows c.wanted.request c.wanted.following
    → StateAt (after_choice p now (Some c)) c.wanted.request
asks p now c follows =
    waits (record {
      request = c.wanted.request;
      since = now;
      arrived = Some [];
      has_octets =
          false;
    })
    refl refl refl follows

-- A repeat is the latest request, and its phase stays.
repeat_follows : (p : Primary) (latest : Option Sending) (c : Chosen) → Matches p latest
    → p.outstanding ≡ None
    → c.station ≡ p.turn → p.again ≡ true
    → is_held (station_at p.stations c.station).link ≡ true
    → c.wanted.request ≡ held_request (station_at p.stations c.station).link
    → c.wanted.following ≡ p.phase → Follows c.wanted.request c.wanted.following
repeat_follows p None c matches out at again held is stays =
    absurd (not_both p.again again matches.1)
repeat_follows p (Some s) c (turn, waits o awaited same once follows) out at again held is
    stays =
    absurd (none_out p.outstanding o out awaited)
repeat_follows p (Some s) c (turn, ended free more again_is go_on) out at again held is stays =
    let held_here : is_held (station_at p.stations p.turn).link ≡ true =
    subst (λ (i : ℕ). is_held (station_at p.stations i).link ≡ true) at held in
    let it = again_is again held_here in
    let same : s.request ≡ c.wanted.request =
    it.1 ∙ sym (is ∙ ap (λ (i : ℕ). held_request (station_at p.stations i).link) at) in
    subst (λ (f : Phase). Follows c.wanted.request f) (sym stays)
    (subst (λ (r : Asked). Follows r p.phase) same it.0)

chosen_matches : (p : Primary) (latest : Option Sending) (c : Chosen) (now : ℕ) (may_poll : Bool)
    (waiting : CommandsWaiting)
    → Matches p latest → p.outstanding ≡ None → IsChosen p may_poll waiting c
    → StateAt (after_choice p now (Some c)) c.wanted.request
chosen_matches p latest c now may_poll waiting matches out (here at is) =
    by (subst (λ (v : Option Wanted). GoesIt (station_at p.stations c.station).link p.again p.phase
    v) is
    (wanted_goes p.settings.burst may_poll p.again (station_at p.stations c.station)
    (waiting c.station)
    (station_at p.stations c.station).link p.phase))
  where
    by : Goes (station_at p.stations c.station).link p.again p.phase c.wanted.request
        c.wanted.following
        → StateAt (after_choice p now (Some c)) c.wanted.request
    by (other follows) = asks p now c follows
    by (repeated again held same stays) =
        asks p now c (repeat_follows p latest c matches out at again held same stays)
chosen_matches p latest c now may_poll waiting matches out (there is) =
    by (subst (λ (v : Option Wanted). GoesIt (station_at p.stations c.station).link false Starting
    v) is
    (wanted_goes p.settings.burst may_poll false (station_at p.stations c.station)
    (waiting c.station)
    (station_at p.stations c.station).link Starting))
  where
    by : Goes (station_at p.stations c.station).link false Starting c.wanted.request
        c.wanted.following
        → StateAt (after_choice p now (Some c)) c.wanted.request
    by (other follows) = asks p now c follows
    by (repeated again held same stays) = absurd (not_both false again refl)

pub asked_matches : (p : Primary) (latest : Option Sending) (now : ℕ) (may_poll : Bool)
    (waiting : CommandsWaiting)
    → Matches p latest
    → Matches (asked p now may_poll waiting) (latest_by p p.outstanding may_poll waiting latest)
asked_matches p latest now may_poll waiting matches = go p.outstanding refl
  where
    by : p.outstanding ≡ None → (c : Option Chosen) → choice p may_poll waiting ≡ c
        → Matches (after_choice p now c) (sending_by c)
    by out None e = (out, refl)
    by out (Some c) e = (
      refl,
      chosen_matches p latest c now may_poll waiting matches out
          (is_chosen p may_poll waiting c e),
    )

    go : (o : Option Outstanding) → p.outstanding ≡ o
        → Matches (asked_from p o now may_poll waiting) (latest_by p o may_poll waiting latest)
    go (Some o) e = matches
    go None e =
        subst (λ (s : Option Sending). Matches (after_choice p now (choice p may_poll waiting)) s)
        (sym (ap (λ (o : Option Outstanding). sending_from p o may_poll waiting) e))
        (by e (choice p may_poll waiting) refl)
