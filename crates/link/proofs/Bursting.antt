-- Polls go on: behind a command, and of class 1 while ACD is set, up to burst.
use Rattle.std.specs.Prelude.{◌==◌, ◌||◌, not}
use Rattle.std.proofs.Common.{◌≡◌, ℕ, suc, ◌<◌, ◌≤◌, ◌&&◌, nat_lt, Bool, true, false, List, [], ◌∷◌}
use Rattle.std.proofs.Common.{◌++◌, length, slice_set, Option, Some, None, refl, sym, ap}
use Rattle.std.proofs.Common.{subst, ◌∙◌, ◌⊎◌, inl, inr, arith, eq-eqb, if◌then◌else◌}
use Rattle.std.proofs.lemmas.Bool.{cases_lt, lt-ltb, eqb-true, eqb-false}
use Rattle.std.proofs.lemmas.List.{get_or-set_same, get_or-set_other, get_or_past, set_past}
use Rattle.ft12.specs.declared.frame.Front.{Front}
use Rattle.ft12.specs.Fronts.{front_of}
use Rattle.link.specs.Answers.{Frame, Service, Class1, Class2, Command, Asked, Status, Reset}
use Rattle.link.specs.Answers.{Counted}
use Rattle.link.specs.Answers.{Answer, Ready, Confirmed, Busy, Report, NoData, Unable}
use Rattle.link.specs.Exchanges.{Sending, whole_of}
use Rattle.link.specs.Procedure.{LinkSettings, Link, Down, Available, Next, Held, is_held}
use Rattle.link.specs.Procedure.{is_service, has_repeats, after_answer, after_silence}
use Rattle.link.specs.Procedure.{missed_so_far}
use Rattle.link.specs.Turns.{StationState, Phase, Starting, Commanding, Polling, Class1Polling}
use Rattle.link.specs.Turns.{no_station, Over, Wanted, Chosen, station_at, is_poll, wants}
use Rattle.link.specs.Turns.{wanted_poll}
use Rattle.link.specs.Turns.{polls_from, wanted_command, commands_from, next_of, wanted_by, wanted}
use Rattle.link.specs.Turns.{held_request}
use Rattle.link.specs.Turns.{chosen_or, first_after}
use Rattle.link.specs.Primary.{Outstanding, Primary, start, choice, after_choice, asked_from, asked}
use Rattle.link.specs.Primary.{sending_by, sending_from, sending, phase_after, answer_at}
use Rattle.link.specs.Primary.{answered}
use Rattle.link.specs.Primary.{station_answered, said_by, open_octets, took, with_octets}
use Rattle.link.specs.Primary.{received_after, received_from, received, station_unanswered}
use Rattle.link.specs.Primary.{unanswered, is_late, due_from, timed_out}
use Rattle.link.specs.Carried.{station_given_up, given_up}
use Rattle.link.specs.Runs.{Call, Octets, Due, GivesUp, called}
use Rattle.link.specs.Runs as runs
use Rattle.link.specs.Bursts.{Row, Polls, Commanded, Other, one_more, row_by_repeat}
use Rattle.link.specs.Bursts.{row_by_request, row_by, row_out, poll_by, IsSent}
use Rattle.link.specs.Bursts.{row_after, is_answered, PollsGoOn, BurstsGoOn}
use Rattle.link.proofs.Leaving.{set_none}
use Rattle.link.proofs.Preceding.{IsChosen, here, there, is_chosen}
use Rattle.link.specs.Turns.{CommandsWaiting}
use Rattle.link.specs.Runs.{Doubts}
use Rattle.link.specs.Carried.{doubted}
use Rattle.link.proofs.Doubting.{doubted_link}
use Rattle.link.specs.Procedure.{Silence, probed_so_far, is_kept, spent_silence, short_silence}
use Rattle.link.specs.Turns.{is_doubted}

abbrev pub IsNotBegun : Phase → Type 0
IsNotBegun (Class1Polling sent) = ⊥
IsNotBegun phase = Unit {0}

-- of class 1, so many by this phase, or one
abbrev pub OneMore : Phase → (many : ℕ) → Type 0
OneMore (Class1Polling sent) many = many ≡ suc sent
OneMore phase many = many ≡ 1

-- ---- what goes out

-- A held service goes out again at once, or begins a turn.
pub data Goes (link : Link) (again : Bool) (phase : Phase) (request : Asked)
    (following : Phase) : Type 0 where
  repeated : is_held link ≡ true → again ≡ true → following ≡ phase
      → Goes link again phase request following
  first_held : is_held link ≡ true → IsNotBegun following
      → Goes link again phase request following
  first_class : (fcb : Bool) (many : ℕ) → is_held link ≡ false → is_answered link ≡ true
      → request ≡ Counted fcb Class1
      → following ≡ Class1Polling many → OneMore phase many
      → Goes link again phase request following
  second_class : (fcb : Bool) → is_held link ≡ false → request ≡ Counted fcb Class2 → following
      ≡ Class1Polling 0
      → Goes link again phase request following
  commands : (fcb : Bool) (asdu : List ℕ) → is_held link ≡ false
      → request ≡ Counted fcb (Command asdu) → following ≡ Polling
      → Goes link again phase request following
  starts : is_held link ≡ false → IsNotBegun following →
      ((more : Bool) (station : ℕ) (row : Row) → row_by_request false more station request row
      ≡ Other)
      → Goes link again phase request following

abbrev pub GoesIt : Link → (again : Bool) → Phase → Option Wanted → Type 0
GoesIt link again phase None = Unit {0}
GoesIt link again phase (Some w) = Goes link again phase w.request w.following

poll_goes : (burst : ℕ) (fcb again : Bool) (s : StationState) (phase : Phase)
    → GoesIt (Next fcb) again phase (wanted_poll burst fcb s.acd phase)
poll_goes burst fcb again s Polling = go s.acd
  where
    go : (b : Bool) → GoesIt (Next fcb) again Polling
        (if b then wants (Counted fcb Class1) (Class1Polling 1)
        else wants (Counted fcb Class2) (Class1Polling 0))
    go true = first_class fcb 1 refl refl refl refl refl
    go false = second_class fcb refl refl refl
poll_goes burst fcb again s (Class1Polling sent) = go (s.acd && nat_lt sent burst)
  where
    go : (b : Bool) → GoesIt (Next fcb) again (Class1Polling sent)
        (if b then wants (Counted fcb Class1) (Class1Polling (suc sent)) else None)
    go true = first_class fcb (suc sent) refl refl refl refl refl
    go false = tt
poll_goes burst fcb again s Starting = tt
poll_goes burst fcb again s Commanding = tt
poll_goes burst fcb again s Over = tt

-- polls that a turn begins with, or that come after a command
first_goes : (burst : ℕ) (may_poll fcb again : Bool) (s : StationState) (phase : Phase)
    → OneMore phase 1
    → GoesIt (Next fcb) again phase (polls_from burst may_poll fcb s Polling)
first_goes burst false fcb again s phase one = tt
first_goes burst true fcb again s phase one = go s.acd
  where
    go : (b : Bool) → GoesIt (Next fcb) again phase
        (if b then wants (Counted fcb Class1) (Class1Polling 1)
        else wants (Counted fcb Class2) (Class1Polling 0))
    go true = first_class fcb 1 refl refl refl refl one
    go false = second_class fcb refl refl refl

commands_go : (burst : ℕ) (may_poll fcb again : Bool) (s : StationState) (phase : Phase)
    (command : Option (List ℕ))
    → OneMore phase 1 → GoesIt (Next fcb) again phase (commands_from burst may_poll fcb s command)
commands_go burst may_poll fcb again s phase None one =
    first_goes burst may_poll fcb again s phase one
commands_go burst may_poll fcb again s phase (Some asdu) one = go s.dfc
  where
    go : (b : Bool) → GoesIt (Next fcb) again phase
        (if b then polls_from burst may_poll fcb s Polling else wanted_command fcb asdu)
    go true = first_goes burst may_poll fcb again s phase one
    go false = commands fcb asdu refl refl refl

polls_go : (burst : ℕ) (may_poll fcb again : Bool) (s : StationState) (phase : Phase)
    → GoesIt (Next fcb) again phase (polls_from burst may_poll fcb s phase)
polls_go burst true fcb again s phase = poll_goes burst fcb again s phase
polls_go burst false fcb again s phase = tt

next_goes : (burst : ℕ) (may_poll fcb again : Bool) (s : StationState)
    (command : Option (List ℕ)) (phase : Phase)
    → GoesIt (Next fcb) again phase (next_of burst may_poll fcb s command phase)
next_goes burst may_poll fcb again s command Starting =
    commands_go burst may_poll fcb again s Starting command refl
next_goes burst may_poll fcb again s command Commanding =
    commands_go burst may_poll fcb again s Commanding command refl
next_goes burst may_poll fcb again s command Polling = polls_go burst may_poll fcb again s Polling
next_goes burst may_poll fcb again s command (Class1Polling sent) =
    polls_go burst may_poll fcb again s (Class1Polling sent)
next_goes burst may_poll fcb again s command Over = tt

held_goes : (burst : ℕ) (may_poll again : Bool) (s : StationState) (command : Option (List ℕ))
    (fcb : Bool) (service : Service) (missed : Silence) (phase : Phase)
    → GoesIt (Held fcb service missed) again phase
    (wanted_by burst may_poll again s command (Held fcb service missed) phase)
held_goes burst may_poll again s command fcb service missed Starting =
    go (is_doubted s missed) (may_poll || not (is_poll service))
  where
    go : (doubted b : Bool) → GoesIt (Held fcb service missed) again Starting
        (if doubted then wants Status Over
        else if b then wants (Counted fcb service) Commanding else None)
    go true b = first_held refl tt
    go false true = first_held refl tt
    go false false = tt
held_goes burst may_poll true s command fcb service missed Commanding = repeated refl refl refl
held_goes burst may_poll true s command fcb service missed Polling = repeated refl refl refl
held_goes burst may_poll true s command fcb service missed (Class1Polling sent) =
    repeated refl refl refl
held_goes burst may_poll true s command fcb service missed Over = repeated refl refl refl
held_goes burst may_poll false s command fcb service missed Commanding = tt
held_goes burst may_poll false s command fcb service missed Polling = tt
held_goes burst may_poll false s command fcb service missed (Class1Polling sent) = tt
held_goes burst may_poll false s command fcb service missed Over = tt

wanted_goes : (burst : ℕ) (may_poll again : Bool) (s : StationState) (command : Option (List ℕ))
    (link : Link) (phase : Phase)
    → GoesIt link again phase (wanted_by burst may_poll again s command link phase)
wanted_goes burst may_poll again s command (Next fcb) phase =
    next_goes burst may_poll fcb again s command phase
wanted_goes burst may_poll again s command (Held fcb service missed) phase =
    held_goes burst may_poll again s command fcb service missed phase
wanted_goes burst may_poll again s command Down Starting =
    starts refl tt (λ more station row. refl)
wanted_goes burst may_poll again s command Available Starting =
    starts refl tt (λ more station row. refl)
wanted_goes burst may_poll again s command Down Commanding = tt
wanted_goes burst may_poll again s command Down Polling = tt
wanted_goes burst may_poll again s command Down (Class1Polling sent) = tt
wanted_goes burst may_poll again s command Down Over = tt
wanted_goes burst may_poll again s command Available Commanding = tt
wanted_goes burst may_poll again s command Available Polling = tt
wanted_goes burst may_poll again s command Available (Class1Polling sent) = tt
wanted_goes burst may_poll again s command Available Over = tt

-- ---- what the row says of the primary

-- the link to the station whose turn it is
abbrev pub turn_link : Primary → Link
turn_link p = (station_at p.stations p.turn).link

-- A service is out for the first time since its answer was missed. Or one that is held goes out
-- again at once, if it has repeats.
abbrev pub StaysOut : Primary → Option Outstanding → Type 0
StaysOut p None = is_held (turn_link p) ≡ true → p.again ≡ has_repeats p.settings (turn_link p)
StaysOut p (Some o) = (is_service o.request ≡ true) × (p.again ≡ false)

-- what the turn of a row goes on with
abbrev pub GoesOnWith : Row → Phase → Type 0
GoesOnWith (Polls station many) phase =
    (so_far : ℕ) × (so_far ≤ many) × (phase ≡ Class1Polling so_far)
GoesOnWith (Commanded station) phase = phase ≡ Polling
GoesOnWith Other phase = ⊥

-- The turn goes on with polls, or its latest service had no answer and has no repeat left, or
-- couldn't be served.
pub data IsInRow (p : Primary) (row : Row) (station : ℕ) : Type 0 where
  going : GoesOnWith row p.phase → StaysOut p p.outstanding → IsInRow p row station
  lost : p.outstanding ≡ None → is_answered (station_at p.stations station).link ≡ false
      → p.phase ≡ Over → has_repeats p.settings (station_at p.stations station).link ≡ false
      → IsInRow p row station

abbrev pub Matches : Primary → Row → Type 0
Matches p (Polls station many) = (p.turn ≡ station) × IsInRow p (Polls station many) station
Matches p (Commanded station) = (p.turn ≡ station) × IsInRow p (Commanded station) station
Matches p Other = IsNotBegun p.phase

-- ---- `next`

pub not_both : (b : Bool) → b ≡ true → b ≡ false → ⊥
not_both b e f = cc

-- so many of class 1, by the phase
most : (phase : Phase) (many so_far n : ℕ) → OneMore phase many → phase ≡ Class1Polling so_far
    → so_far ≤ n
    → many ≤ suc n
most (Class1Polling sent) many so_far n one e le = let same : sent ≡ so_far = cc in
    omega (arith, one, same, le)
most Starting many so_far n one e le = let bad : ⊥ = cc in absurd bad
most Commanding many so_far n one e le = let bad : ⊥ = cc in absurd bad
most Polling many so_far n one e le = let bad : ⊥ = cc in absurd bad
most Over many so_far n one e le = let bad : ⊥ = cc in absurd bad

one_only : (phase : Phase) (many : ℕ) → OneMore phase many → IsNotBegun phase → many ≡ 1
one_only (Class1Polling sent) many one none = absurd none
one_only Starting many one none = one
one_only Commanding many one none = one
one_only Polling many one none = one
one_only Over many one none = one

-- one more poll of class 1, by the row before it
one_matches : (p p' : Primary) (station many : ℕ) (phase : Phase) (row : Row) → Matches p row
    → is_answered (station_at p.stations station).link ≡ true → OneMore phase many
    → ((station ≡ p.turn) × (phase ≡ p.phase)) ⊎ (phase ≡ Starting)
    → p'.turn ≡ station → p'.phase ≡ Class1Polling many → StaysOut p' p'.outstanding
    → Matches p' (one_more station row)
one_matches p p' station many phase row matches up one at turn follows out = by_row row matches at
  where
    first : IsNotBegun phase → Matches p' (Polls station 1)
    first none = (
      turn,
      going (many, (let is = one_only phase many one none in omega (arith, is)), follows) out,
    )

    by_row : (r : Row) → Matches p r → ((station ≡ p.turn) × (phase ≡ p.phase)) ⊎ (phase ≡ Starting)
        → Matches p' (one_more station r)
    by_row Other m (inl at) = first (subst IsNotBegun (sym at.1) m)
    by_row Other m (inr e) = first (subst IsNotBegun (sym e) tt)
    by_row (Commanded k) (m, going is stays) (inl at) =
        first (subst IsNotBegun (sym (at.1 ∙ is)) tt)
    by_row (Commanded k) (m, lost free down over none) (inl at) =
        first (subst IsNotBegun (sym (at.1 ∙ over)) tt)
    by_row (Commanded k) m (inr e) = first (subst IsNotBegun (sym e) tt)
    by_row (Polls k n) m at = go (k == station) refl at m.1
      where
        go : (b : Bool) → (k == station) ≡ b → ((station ≡ p.turn) × (phase ≡ p.phase))
            ⊎ (phase ≡ Starting) → IsInRow p (Polls k n) k
            → Matches p' (if b then Polls station (suc n) else Polls station 1)
        go true e (inl at) (going (so_far, le, is) stays) = (
          turn,
          going (many, most phase many so_far n one (at.1 ∙ is) le, follows) out,
        )
        go true e (inr is) polls = (
          turn,
          going (
            many,
            (let m = one_only phase many one (subst IsNotBegun (sym is) tt) in omega (arith, m)),
            follows,
          ) out,
        )
        go true e (inl at) (lost free down over none) =
            absurd (not_both (is_answered (station_at p.stations station).link) up
            (ap (λ (i : ℕ). is_answered (station_at p.stations i).link) (sym (eqb-true k station e))
            ∙ down))
        go false e (inl at) polls = absurd (eqb-false k station e (sym m.0 ∙ sym at.0))
        go false e (inr is) polls = first (subst IsNotBegun (sym is) tt)

service_out : (request : Asked) (fcb : Bool) (service : Service) → request ≡ Counted fcb service
    → is_service request ≡ true
service_out request fcb service e = ap is_service e

-- no repeat of the row's service is left
abbrev pub HasNoMore : Primary → Row → Type 0
HasNoMore p Other = Unit {0}
HasNoMore p row = has_repeats p.settings (turn_link p) ≡ false

-- so a held service that goes out is none
none_kept : (p : Primary) (k station : ℕ) (row : Row) → p.turn ≡ k
    → has_repeats p.settings (turn_link p) ≡ false
    → (if has_repeats p.settings (station_at p.stations station).link && (k == station) then row
    else Other) ≡ Other
none_kept p k station row turn none =
    go (has_repeats p.settings (station_at p.stations station).link) refl
  where
    at : (b : Bool) → (k == station) ≡ b
        → has_repeats p.settings (station_at p.stations station).link ≡ true
        → (if b then row else Other) ≡ Other
    at false e has = refl
    at true e has =
        absurd (not_both (has_repeats p.settings (station_at p.stations station).link) has
        (subst (λ (i : ℕ). has_repeats p.settings (station_at p.stations i).link ≡ false)
        (turn ∙ eqb-true k station e) none))

    go : (b : Bool) → has_repeats p.settings (station_at p.stations station).link ≡ b
        → (if b && (k == station) then row else Other) ≡ Other
    go false e = refl
    go true e = at (k == station) refl e

no_repeat : (p : Primary) (station : ℕ) (row : Row) → Matches p row → HasNoMore p row
    → row_by_repeat row (has_repeats p.settings (station_at p.stations station).link) station
    ≡ Other
no_repeat p station Other matches none = refl
no_repeat p station (Polls k n) matches none =
    none_kept p k station (Polls k n) matches.0 none
no_repeat p station (Commanded k) matches none =
    none_kept p k station (Commanded k) matches.0 none

-- nor does its turn go on behind it
none_goes_on : (p : Primary) (row : Row) (k : ℕ) (phase following : Phase) → IsInRow p row k
    → has_repeats p.settings (turn_link p) ≡ false → p.outstanding ≡ None
    → is_held (turn_link p) ≡ true → p.again ≡ true → phase ≡ p.phase → following ≡ phase
    → IsNotBegun following
none_goes_on p row k phase following (lost out down over spent) none free is_out again same is =
    subst IsNotBegun (sym (is ∙ same ∙ over)) tt
none_goes_on p row k phase following (going at stays) none free is_out again same is =
    absurd (not_both p.again again (subst (StaysOut p) free stays is_out ∙ none))

none_begun : (p : Primary) (row : Row) (phase following : Phase) → Matches p row → HasNoMore p row
    → p.outstanding ≡ None → is_held (turn_link p) ≡ true → p.again ≡ true → phase ≡ p.phase
    → following ≡ phase → IsNotBegun following
none_begun p Other phase following matches none free is_out again same is =
    subst IsNotBegun (sym (is ∙ same)) matches
none_begun p (Polls k n) phase following matches none free is_out again same is =
    none_goes_on p (Polls k n) k phase following matches.1 none free is_out again same is
none_begun p (Commanded k) phase following matches none free is_out again same is =
    none_goes_on p (Commanded k) k phase following matches.1 none free is_out again same is

-- The chosen request goes on with the present turn, or begins another.
abbrev pub IsPlaced : Primary → (station : ℕ) → (again : Bool) → Phase → Type 0
IsPlaced p station again phase =
    ((station ≡ p.turn) × (phase ≡ p.phase) × (again ≡ p.again)) ⊎ (phase ≡ Starting)

module _ (p p' : Primary) (c : Chosen) (row : Row) where
  abbrev from : Link
  from = (station_at p.stations c.station).link

  abbrev row_so : (is_repeat : Bool) → Asked → Row
  row_so is_repeat request =
      row_by_request is_repeat (has_repeats p.settings from) c.station request row

  goes_matches : (again : Bool) (phase : Phase)
      → Matches p row → HasNoMore p row → p.outstanding ≡ None → IsPlaced p c.station again phase
      → p'.turn ≡ c.station → p'.phase ≡ c.wanted.following
      → (is_service c.wanted.request ≡ true → StaysOut p' p'.outstanding)
      → Goes from again phase c.wanted.request c.wanted.following
      → Matches p' (row_so (is_held from) c.wanted.request)
  goes_matches again phase matches none free at turn follows out
      (repeated is_out is_again is) =
      subst (λ (b : Bool). Matches p' (row_so b c.wanted.request)) (sym is_out)
      (subst (Matches p') (sym (no_repeat p c.station row matches none))
      (subst IsNotBegun (sym follows) (begun at)))
    where
      begun : IsPlaced p c.station again phase → IsNotBegun c.wanted.following
      begun (inr e) = subst IsNotBegun (sym (is ∙ e)) tt
      begun (inl place) = none_begun p row phase c.wanted.following matches none free
          (subst (λ (i : ℕ). is_held (station_at p.stations i).link ≡ true) place.0 is_out)
          (sym place.2 ∙ is_again) place.1 is
  goes_matches again phase matches none free at turn follows out (first_held is_out is) =
      subst (λ (b : Bool). Matches p' (row_so b c.wanted.request)) (sym is_out)
      (subst (Matches p') (sym (no_repeat p c.station row matches none))
      (subst IsNotBegun (sym follows) is))
  goes_matches again phase matches none free at turn follows out
      (first_class fcb many new up is next one) =
      subst (λ (b : Bool). Matches p' (row_so b c.wanted.request)) (sym new)
      (subst (λ (r : Asked). Matches p' (row_so false r)) (sym is)
      (one_matches p p' c.station many phase row matches up one (place at) turn (follows ∙ next)
      (out (service_out c.wanted.request fcb Class1 is))))
    where
      place : IsPlaced p c.station again phase
          → ((c.station ≡ p.turn) × (phase ≡ p.phase)) ⊎ (phase ≡ Starting)
      place (inl it) = inl (it.0, it.1)
      place (inr e) = inr e
  goes_matches again phase matches none free at turn follows out (second_class fcb new is next) =
      subst (λ (b : Bool). Matches p' (row_so b c.wanted.request)) (sym new)
      (subst (λ (r : Asked). Matches p' (row_so false r)) (sym is) (
        turn,
        going (0, omega arith, follows ∙ next) (out (service_out c.wanted.request fcb Class2 is)),
      ))
  goes_matches again phase matches none free at turn follows out (commands fcb asdu new is next) =
      subst (λ (b : Bool). Matches p' (row_so b c.wanted.request)) (sym new)
      (subst (λ (r : Asked). Matches p' (row_so false r)) (sym is)
      (turn, going (follows ∙ next) (out (service_out c.wanted.request fcb (Command asdu) is))))
  goes_matches again phase matches none free at turn follows out (starts new not_begun is) =
      subst (λ (b : Bool). Matches p' (row_so b c.wanted.request)) (sym new)
      (subst (λ (r : Row). Matches p' r) (sym (is (has_repeats p.settings from) c.station row))
      (subst IsNotBegun (sym follows) not_begun))

chosen_matches : (p : Primary) (c : Chosen) (row : Row) (now : ℕ) (may_poll : Bool)
    (waiting : CommandsWaiting) → Matches p row → HasNoMore p row → p.outstanding ≡ None
    → IsChosen p may_poll waiting c
    → Matches (after_choice p now (Some c)) (row_by p (sending_by (Some c)) row)
chosen_matches p c row now may_poll waiting matches none free (here at is) =
    goes_matches p (after_choice p now (Some c)) c row p.again p.phase matches none free
    (inl (at, refl, refl)) refl refl (λ service. (service, refl))
    (subst (λ (v : Option Wanted). GoesIt (station_at p.stations c.station).link p.again p.phase v)
    is
    (wanted_goes p.settings.burst may_poll p.again (station_at p.stations c.station)
    (waiting c.station)
    (station_at p.stations c.station).link p.phase))
chosen_matches p c row now may_poll waiting matches none free (there is) =
    goes_matches p (after_choice p now (Some c)) c row false Starting matches none free (inr refl)
    refl refl (λ service. (service, refl))
    (subst (λ (v : Option Wanted). GoesIt (station_at p.stations c.station).link false Starting v)
    is
    (wanted_goes p.settings.burst may_poll false (station_at p.stations c.station)
    (waiting c.station)
    (station_at p.stations c.station).link Starting))

abbrev IsMidTurn : Phase → Type 0
IsMidTurn Polling = Unit {0}
IsMidTurn (Class1Polling sent) = Unit {0}
IsMidTurn phase = ⊥

mid_turn : (row : Row) (phase : Phase) → GoesOnWith row phase → IsMidTurn phase
mid_turn (Polls k n) phase at = subst IsMidTurn (sym at.2) tt
mid_turn (Commanded k) phase at = subst IsMidTurn (sym at) tt
mid_turn Other phase at = absurd at

-- A service that has repeats goes out again at once, and the phase stays.
again_wanted : (settings : LinkSettings) (may_poll : Bool) (s : StationState)
    (command : Option (List ℕ)) (link : Link) (phase : Phase) → has_repeats settings link ≡ true
    → IsMidTurn phase
    → (is_held link ≡ true) × (is_service (held_request link) ≡ true)
    × (wanted_by settings.burst may_poll true s command link phase
    ≡ wants (held_request link) phase)
again_wanted settings may_poll s command (Held fcb service missed) Polling has mid =
    (refl, refl, refl)
again_wanted settings may_poll s command (Held fcb service missed) (Class1Polling sent) has mid =
    (refl, refl, refl)
again_wanted settings may_poll s command (Held fcb service missed) Starting has mid = absurd mid
again_wanted settings may_poll s command (Held fcb service missed) Commanding has mid = absurd mid
again_wanted settings may_poll s command (Held fcb service missed) Over has mid = absurd mid
again_wanted settings may_poll s command Down phase has mid = let no : ⊥ = cc in absurd no
again_wanted settings may_poll s command Available phase has mid = let no : ⊥ = cc in absurd no
again_wanted settings may_poll s command (Next fcb) phase has mid = let no : ⊥ = cc in absurd no

module _ (p : Primary) (row : Row) (k now : ℕ) (may_poll : Bool) (waiting : CommandsWaiting)
    (turn : p.turn ≡ k) (out : p.outstanding ≡ None)
    (has : has_repeats p.settings (turn_link p) ≡ true) where
  -- what the service goes out as
  abbrev again_one : Chosen
  again_one = record {
    station = p.turn;
    wanted = record { request = held_request (turn_link p); following = p.phase };
  }

  repeat_chosen : IsInRow p row k
      → (choice p may_poll waiting ≡ Some again_one)
      × IsInRow (after_choice p now (Some again_one)) row k
      × (is_held (turn_link p) ≡ true)
  repeat_chosen (lost free down over none) =
      absurd (not_both (has_repeats p.settings (turn_link p)) has
      (subst (λ (i : ℕ). has_repeats p.settings (station_at p.stations i).link ≡ false) (sym turn)
      none))
  repeat_chosen (going at stays) =
      let it = again_wanted p.settings may_poll (station_at p.stations p.turn) (waiting p.turn)
      (turn_link p) p.phase has (mid_turn row p.phase at) in
      let again : p.again ≡ true = subst (StaysOut p) out stays it.0 ∙ has in (
        ap (λ (v : Option Wanted). chosen_or v p.turn
            (first_after p.settings.burst may_poll p.stations waiting (length p.stations) p.turn))
            (ap (λ (b : Bool). wanted_by p.settings.burst may_poll b
            (station_at p.stations p.turn) (waiting p.turn) (turn_link p) p.phase) again
            ∙ it.2),
        going at (it.1, refl),
        it.0,
      )

  -- what it makes of a row
  kept : is_held (turn_link p) ≡ true
      → row_by_request (is_held (turn_link p)) (has_repeats p.settings (turn_link p)) p.turn
      (held_request (turn_link p)) row
      ≡ row_by_repeat row true p.turn
  kept is_out =
      ap (λ (b : Bool). row_by_request b (has_repeats p.settings (turn_link p)) p.turn
      (held_request (turn_link p)) row) is_out
      ∙ ap (λ (b : Bool). row_by_repeat row b p.turn) has

  repeat_matches : ((p' : Primary) → p'.turn ≡ p.turn → IsInRow p' row k
      → Matches p' (row_by_repeat row true p.turn))
      → IsInRow p row k
      → Matches (after_choice p now (choice p may_poll waiting))
      (row_by p (sending_by (choice p may_poll waiting)) row)
  repeat_matches matches it =
      let is = repeat_chosen it in
      subst (λ (x : Option Chosen). Matches (after_choice p now x) (row_by p (sending_by x) row))
      (sym is.0)
      (subst (Matches (after_choice p now (Some again_one))) (sym (kept is.2))
      (matches (after_choice p now (Some again_one)) refl is.1))

asked_matches : (p : Primary) (row : Row) (now : ℕ) (may_poll : Bool) (waiting : CommandsWaiting)
    → Matches p row
    → Matches (asked p now may_poll waiting) (row_out p p.outstanding may_poll waiting row)
asked_matches p row now may_poll waiting matches = go p.outstanding refl
  where
    Then : Row → Type 0
    Then r = Matches (after_choice p now (choice p may_poll waiting))
        (row_by p (sending_by (choice p may_poll waiting)) r)

    by : (r : Row) → Matches p r → HasNoMore p r → p.outstanding ≡ None → (c : Option Chosen)
        → choice p may_poll waiting ≡ c
        → Matches (after_choice p now c) (row_by p (sending_by c) r)
    by r matches none free None e = tt
    by r matches none free (Some c) e = chosen_matches p c r now may_poll waiting matches none free
        (is_chosen p may_poll waiting c e)

    by_row : (r : Row) → Matches p r → p.outstanding ≡ None → (b : Bool)
        → has_repeats p.settings (turn_link p) ≡ b → Then r
    by_row Other matches free b e = by Other matches tt free (choice p may_poll waiting) refl
    by_row (Polls k n) matches free false none =
        by (Polls k n) matches none free (choice p may_poll waiting) refl
    by_row (Commanded k) matches free false none =
        by (Commanded k) matches none free (choice p may_poll waiting) refl
    by_row (Polls k n) matches free true has =
        repeat_matches p (Polls k n) k now may_poll waiting matches.0 free has
        (λ p' turn it. subst (λ (b : Bool). Matches p' (if b then Polls k n else Other))
        (sym (eq-eqb k p.turn (sym matches.0))) (turn ∙ matches.0, it)) matches.1
    by_row (Commanded k) matches free true has =
        repeat_matches p (Commanded k) k now may_poll waiting matches.0 free has
        (λ p' turn it. subst (λ (b : Bool). Matches p' (if b then Commanded k else Other))
        (sym (eq-eqb k p.turn (sym matches.0))) (turn ∙ matches.0, it)) matches.1

    go : (o : Option Outstanding) → p.outstanding ≡ o
        → Matches (asked_from p o now may_poll waiting) (row_out p o may_poll waiting row)
    go (Some o) e = matches
    go None e =
        subst (λ (s : Option Sending). Matches (after_choice p now (choice p may_poll waiting))
        (row_by p s row))
        (sym (ap (λ (o : Option Outstanding). sending_from p o may_poll waiting) e))
        (by_row row matches e (has_repeats p.settings (turn_link p)) refl)

-- ---- the other calls

no_poll_left : (answer : Answer) (phase : Phase) → IsNotBegun phase
    → IsNotBegun (phase_after answer phase)
no_poll_left Unable phase none = tt
no_poll_left Ready phase none = none
no_poll_left Confirmed phase none = none
no_poll_left Busy phase none = none
no_poll_left (Report asdu) phase none = none
no_poll_left NoData phase none = none

unable_down : (request : Asked) (link : Link) → is_service request ≡ true
    → is_answered (after_answer request Unable link) ≡ false
unable_down Status link service = let bad : ⊥ = cc in absurd bad
unable_down Reset link service = let bad : ⊥ = cc in absurd bad
unable_down (Counted fcb other) link service = refl

-- A service that is answered isn't held.
not_held : (request : Asked) (answer : Answer) (link : Link) → is_service request ≡ true
    → is_held (after_answer request answer link) ≡ false
not_held Status answer link service = let bad : ⊥ = cc in absurd bad
not_held Reset answer link service = let bad : ⊥ = cc in absurd bad
not_held (Counted fcb other) Unable link service = refl
not_held (Counted fcb other) Ready link service = refl
not_held (Counted fcb other) Confirmed link service = refl
not_held (Counted fcb other) Busy link service = refl
not_held (Counted fcb other) (Report asdu) link service = refl
not_held (Counted fcb other) NoData link service = refl

pub no_repeats : (settings : LinkSettings) (link : Link) → is_held link ≡ false
    → has_repeats settings link ≡ false
no_repeats settings (Held fcb service missed) e = let no : ⊥ = cc in absurd no
no_repeats settings Down e = refl
no_repeats settings Available e = refl
no_repeats settings (Next fcb) e = refl

pub silent_down : (settings : LinkSettings) (request : Asked) (link : Link)
    → is_answered (after_silence settings request true link) ≡ false
silent_down settings Status Down = refl
silent_down settings Status Available = refl
silent_down settings Status (Next fcb) = refl
silent_down settings Status (Held fcb service silence) = refl
silent_down settings Reset link = refl
silent_down settings (Counted fcb service) link =
    go (nat_lt settings.retries (suc (missed_so_far link)))
    (is_kept settings (probed_so_far link))
  where
    go : (b hold : Bool)
        → is_answered (if b then (if hold then Held fcb service
        (spent_silence settings (probed_so_far link)) else Down)
        else Held fcb service (short_silence (suc (missed_so_far link)) (probed_so_far link)))
        ≡ false
    go true true = refl
    go true false = refl
    go false hold = refl

answered_in_row : (p : Primary) (row : Row) (k : ℕ) (o : Outstanding) (frame : Frame)
    (answer : Answer) → p.outstanding ≡ Some o → p.turn ≡ k → IsInRow p row k
    → IsInRow (answered p o.request frame answer) row k
answered_in_row p row k o frame answer e turn (lost free down over none) =
    let no : None ≡ Some o = sym free ∙ e in let bad : ⊥ = cc in absurd bad
answered_in_row p row k o frame answer e turn (going at stays) = go answer
  where
    service : is_service o.request ≡ true
    service = (subst (StaysOut p) e stays).0

    it : Answer → StationState
    it a = station_answered (station_at p.stations p.turn) o.request frame a

    link : Answer → ℕ → Link
    link a i = (station_at (slice_set p.stations p.turn (it a)) i).link

    free_of : (a : Answer) → is_held (link a p.turn) ≡ false
    free_of a = set_none (λ (s : StationState). is_held s.link) p.stations p.turn (it a)
        (not_held o.request a (turn_link p) service) refl

    goes : (a : Answer) → phase_after a p.phase ≡ p.phase
        → IsInRow (answered p o.request frame a) row k
    goes a same = going (subst (GoesOnWith row) (sym same) at)
        (λ is_out. absurd (not_both (is_held (link a p.turn)) is_out (free_of a)))

    go : (a : Answer) → IsInRow (answered p o.request frame a) row k
    go Unable = lost refl
        (subst (λ (i : ℕ). is_answered (link Unable i) ≡ false) turn
        (set_none (λ (s : StationState). is_answered s.link) p.stations p.turn (it Unable)
        (unable_down o.request (turn_link p) service) refl)) refl
        (subst (λ (i : ℕ). has_repeats p.settings (link Unable i) ≡ false) turn
        (no_repeats p.settings (link Unable p.turn) (free_of Unable)))
    go Ready = goes Ready refl
    go Confirmed = goes Confirmed refl
    go Busy = goes Busy refl
    go (Report asdu) = goes (Report asdu) refl
    go NoData = goes NoData refl

answer_matches : (p : Primary) (row : Row) (o : Outstanding) (frame : Frame) (answer : Answer)
    → p.outstanding ≡ Some o
    → Matches p row → Matches (answered p o.request frame answer) row
answer_matches p Other o frame answer e matches = no_poll_left answer p.phase matches
answer_matches p (Polls k n) o frame answer e matches =
    (matches.0, answered_in_row p (Polls k n) k o frame answer e matches.0 matches.1)
answer_matches p (Commanded k) o frame answer e matches =
    (matches.0, answered_in_row p (Commanded k) k o frame answer e matches.0 matches.1)

-- The request that is out is the same.
waits_in_row : (p p' : Primary) (row : Row) (k : ℕ) (o : Outstanding) → p.outstanding ≡ Some o
    → p'.phase ≡ p.phase → (StaysOut p (Some o) → StaysOut p' p'.outstanding)
    → IsInRow p row k → IsInRow p' row k
waits_in_row p p' row k o e phase out (lost free down over none) =
    let no : None ≡ Some o = sym free ∙ e in let bad : ⊥ = cc in absurd bad
waits_in_row p p' row k o e phase out (going at stays) =
    going (subst (GoesOnWith row) (sym phase) at) (out (subst (StaysOut p) e stays))

waits_matches : (p p' : Primary) (row : Row) (o : Outstanding) → p.outstanding ≡ Some o
    → p'.turn ≡ p.turn
    → p'.phase ≡ p.phase → (StaysOut p (Some o) → StaysOut p' p'.outstanding)
    → Matches p row → Matches p' row
waits_matches p p' Other o e turn phase out matches = subst IsNotBegun (sym phase) matches
waits_matches p p' (Polls k n) o e turn phase out matches =
    (turn ∙ matches.0, waits_in_row p p' (Polls k n) k o e phase out matches.1)
waits_matches p p' (Commanded k) o e turn phase out matches =
    (turn ∙ matches.0, waits_in_row p p' (Commanded k) k o e phase out matches.1)

octets_match : (front : List ℕ → Front) (p : Primary) (came : List ℕ) (row : Row) → Matches p row
    → Matches (received front p came) row
octets_match front p came row matches = go p.outstanding refl
  where
    say : (o : Outstanding) → p.outstanding ≡ Some o → (frame : Frame) (m : Option Answer)
        → Matches (said_by p (with_octets came o) frame m) row
    say o e frame None = waits_matches p (said_by p (with_octets came o) frame None) row o e refl
        refl
        (λ h. h) matches
    say o e frame (Some answer) = answer_matches p row o frame answer e matches

    take_it : (o : Outstanding) → p.outstanding ≡ Some o
        → (arrived : Option (List ℕ)) (f : Option Frame)
        → Matches (took p (with_octets came o) arrived f) row
    take_it o e arrived None = waits_matches p (took p (with_octets came o) arrived None) row o e
        refl
        refl (λ h. h) matches
    take_it o e arrived (Some frame) = say o e frame (answer_at p o frame)

    listen : (o : Outstanding) → p.outstanding ≡ Some o → (h : Option (List ℕ))
        → Matches (received_after front p (with_octets came o) h came) row
    listen o e None = waits_matches p (received_after front p (with_octets came o) None came) row o
        e
        refl refl (λ h. h) matches
    listen o e (Some before) = take_it o e (open_octets (before ++ came) (front (before ++ came)))
        (whole_of (front (before ++ came)))

    go : (o : Option Outstanding) → p.outstanding ≡ o → Matches (received_from front p o came) row
    go None e = matches
    go (Some o) e = listen o e o.arrived

-- A link that is held is of a station that is there.
pub held_is : (ss : List StationState) (k : ℕ) (s : StationState)
    → is_held (station_at (slice_set ss k s) k).link ≡ true
    → (station_at (slice_set ss k s) k).link ≡ s.link
held_is ss k s is_out = go (cases_lt k (length ss))
  where
    go : (k < length ss) ⊎ (length ss ≤ k) → (station_at (slice_set ss k s) k).link ≡ s.link
    go (inl within) = ap (λ (t : StationState). t.link) (get_or-set_same ss k s no_station within)
    go (inr past) = absurd (not_both (is_held (station_at (slice_set ss k s) k).link) is_out
        (ap (λ (l : List StationState). is_held (station_at l k).link) (set_past ss k s past)
        ∙ ap (λ (t : StationState). is_held t.link) (get_or_past ss k no_station past)))

missed_in_row : (p : Primary) (row : Row) (k : ℕ) (o : Outstanding) → p.outstanding ≡ Some o
    → p.turn ≡ k → IsInRow p row k → IsInRow (unanswered p o) row k
missed_in_row p row k o e turn (lost free down over none) =
    let no : None ≡ Some o = sym free ∙ e in let bad : ⊥ = cc in absurd bad
missed_in_row p row k o e turn (going at stays) = go (has_repeats p.settings it.link) refl
  where
    it : StationState
    it = station_unanswered p.settings (station_at p.stations p.turn) o.request

    link : ℕ → Link
    link i = (station_at (slice_set p.stations p.turn it) i).link

    go : (b : Bool) → has_repeats p.settings it.link ≡ b → IsInRow (unanswered p o) row k
    go true has = going
        (subst (GoesOnWith row) (sym (ap (λ (b : Bool). if b then p.phase else Over) has)) at)
        (λ is_out. ap (has_repeats p.settings) (sym (held_is p.stations p.turn it is_out)))
    go false none = lost refl
        (subst (λ (i : ℕ). is_answered (link i) ≡ false) turn
        (set_none (λ (s : StationState). is_answered s.link) p.stations p.turn it
        (silent_down p.settings o.request (turn_link p)) refl))
        (ap (λ (b : Bool). if b then p.phase else Over) none)
        (subst (λ (i : ℕ). has_repeats p.settings (link i) ≡ false) turn
        (set_none (λ (s : StationState). has_repeats p.settings s.link) p.stations p.turn it none
        refl))

missed_matches : (p : Primary) (row : Row) (o : Outstanding) → p.outstanding ≡ Some o
    → Matches p row → Matches (unanswered p o) row
missed_matches p Other o e matches =
    go (has_repeats p.settings (station_unanswered p.settings (station_at p.stations p.turn)
    o.request).link)
  where
    go : (b : Bool) → IsNotBegun (if b then p.phase else Over)
    go true = matches
    go false = tt
missed_matches p (Polls k n) o e matches =
    (matches.0, missed_in_row p (Polls k n) k o e matches.0 matches.1)
missed_matches p (Commanded k) o e matches =
    (matches.0, missed_in_row p (Commanded k) k o e matches.0 matches.1)

due_matches : (p : Primary) (at : ℕ) (row : Row) → Matches p row → Matches (timed_out p at) row
due_matches p at row matches = go p.outstanding refl
  where
    late : (o : Outstanding) → p.outstanding ≡ Some o → (b : Bool)
        → Matches (if b then unanswered p o else p) row
    late o e true = missed_matches p row o e matches
    late o e false = matches

    go : (o : Option Outstanding) → p.outstanding ≡ o → Matches (due_from p o at) row
    go None e = matches
    go (Some o) e = late o e (is_late p o at)

-- If the link of the station is given up, its service is lost.
given_up_in_row : (p : Primary) (k : ℕ) (row : Row) (j : ℕ) → p.turn ≡ j → IsInRow p row j
    → IsInRow (given_up k p) row j
given_up_in_row p k row j turn it = go (p.turn == k) refl it
  where
    s : StationState
    s = station_given_up (station_at p.stations k)

    stays : (p.turn == k) ≡ false → station_at (given_up k p).stations p.turn
        ≡ station_at p.stations p.turn
    stays e = get_or-set_other p.stations k p.turn s no_station (eqb-false p.turn k e)

    stays_there : (p.turn == k) ≡ false
        → station_at (given_up k p).stations j ≡ station_at p.stations j
    stays_there e = get_or-set_other p.stations k j s no_station
        (λ same. eqb-false p.turn k e (turn ∙ same))

    gone : (f : Link → Bool) → f Down ≡ false → (p.turn == k) ≡ true
        → f (station_at (given_up k p).stations j).link ≡ false
    gone f down e = subst (λ (i : ℕ). f (station_at (given_up k p).stations i).link ≡ false)
        (sym (eqb-true p.turn k e) ∙ turn)
        (set_none (λ (t : StationState). f t.link) p.stations k s down down)

    out : (p.turn == k) ≡ false → (o : Option Outstanding) → StaysOut p o
        → StaysOut (given_up k p) o
    out e None stay = λ is_out.
        ap (λ (b : Bool). if b then false else p.again) e
        ∙ stay (sym (ap (λ (t : StationState). is_held t.link) (stays e)) ∙ is_out)
        ∙ ap (λ (t : StationState). has_repeats p.settings t.link) (sym (stays e))
    out e (Some o) stay = (stay.0, ap (λ (b : Bool). if b then false else p.again) e ∙ stay.1)

    go : (b : Bool) → (p.turn == k) ≡ b → IsInRow p row j → IsInRow (given_up k p) row j
    go true e it =
        lost (ap (λ (b : Bool). if b then None else p.outstanding) e) (gone is_answered refl e)
        (ap (λ (b : Bool). if b then Over else p.phase) e) (gone (has_repeats p.settings) refl e)
    go false e (going at stay) =
        going (subst (GoesOnWith row) (sym (ap (λ (b : Bool). if b then Over else p.phase) e)) at)
        (subst (StaysOut (given_up k p))
        (sym (ap (λ (b : Bool). if b then None else p.outstanding) e))
        (out e p.outstanding stay))
    go false e (lost free down over none) =
        lost (ap (λ (b : Bool). if b then None else p.outstanding) e ∙ free)
        (ap (λ (t : StationState). is_answered t.link) (stays_there e) ∙ down)
        (ap (λ (b : Bool). if b then Over else p.phase) e ∙ over)
        (ap (λ (t : StationState). has_repeats p.settings t.link) (stays_there e) ∙ none)

give_up_matches : (p : Primary) (k : ℕ) (row : Row) → Matches p row → Matches (given_up k p) row
give_up_matches p k Other matches = go (p.turn == k)
  where
    go : (b : Bool) → IsNotBegun (if b then Over else p.phase)
    go true = tt
    go false = matches
give_up_matches p k (Polls j n) matches =
    (matches.0, given_up_in_row p k (Polls j n) j matches.0 matches.1)
give_up_matches p k (Commanded j) matches =
    (matches.0, given_up_in_row p k (Commanded j) j matches.0 matches.1)

-- Whether a station was restarted changes no link.
doubted_in_row : (p : Primary) (row : Row) (j : ℕ) → IsInRow p row j → IsInRow (doubted p) row j
doubted_in_row p row j (going at stays) = going at (out p.outstanding stays)
  where
    out : (o : Option Outstanding) → StaysOut p o → StaysOut (doubted p) o
    out None stay =
        subst (λ (l : Link). is_held l ≡ true → p.again ≡ has_repeats p.settings l)
        (sym (doubted_link p.stations p.turn)) stay
    out (Some o) stay = stay
doubted_in_row p row j (lost free down over none) = lost free
    (ap is_answered (doubted_link p.stations j) ∙ down) over
    (ap (has_repeats p.settings) (doubted_link p.stations j) ∙ none)

doubt_matches : (p : Primary) (row : Row) → Matches p row → Matches (doubted p) row
doubt_matches p Other matches = matches
doubt_matches p (Polls j n) matches =
    (matches.0, doubted_in_row p (Polls j n) j matches.1)
doubt_matches p (Commanded j) matches =
    (matches.0, doubted_in_row p (Commanded j) j matches.1)

call_matches : (p : Primary) (row : Row) (call : Call) → Matches p row
    → Matches (called p call) (row_after p call row)
call_matches p row (runs.Next now may_poll waiting) matches =
    asked_matches p row now may_poll waiting matches
call_matches p row (Octets octets) matches = octets_match (front_of p.settings.size) p octets row
    matches
call_matches p row (Due now) matches = due_matches p now row matches
call_matches p row (GivesUp station) matches = give_up_matches p station row matches
call_matches p row Doubts matches = doubt_matches p row matches

-- ---- what is next

one_wanted : (burst many : ℕ) (again : Bool) (s : StationState) (command : Option (List ℕ))
    (link : Link) → is_answered link
    ≡ true → s.acd ≡ true
    → many < burst → (fcb : Bool) × (wanted_by burst true again s command link (Class1Polling many)
    ≡ wants (Counted fcb Class1) (Class1Polling (suc many)))
one_wanted burst many again s command (Next fcb) up acd less = (
  fcb,
  ap (λ (b : Bool). if b && nat_lt many burst
      then wants (Counted fcb Class1) (Class1Polling (suc many)) else None) acd
      ∙ ap (λ (b : Bool). if b then wants (Counted fcb Class1) (Class1Polling (suc many)) else None)
      (lt-ltb many burst less),
)
one_wanted burst many again s command Down up acd less = let bad : ⊥ = cc in absurd bad
one_wanted burst many again s command Available up acd less = let bad : ⊥ = cc in absurd bad
one_wanted burst many again s command (Held fcb service missed) up acd less = let bad : ⊥ = cc in
    absurd bad

-- the poll that ACD asks for
pub first_poll : (burst : ℕ) (fcb : Bool) (s : StationState)
    → (following : Phase) × (polls_from burst true fcb s Polling
    ≡ wants (Counted fcb (poll_by s.acd)) following)
first_poll burst fcb s = go s.acd
  where
    go : (b : Bool) → (following : Phase)
        × ((if b then wants (Counted fcb Class1) (Class1Polling 1)
        else wants (Counted fcb Class2) (Class1Polling 0))
        ≡ wants (Counted fcb (poll_by b)) following)
    go true = (Class1Polling 1, refl)
    go false = (Class1Polling 0, refl)

poll_wanted : (burst : ℕ) (again : Bool) (s : StationState) (command : Option (List ℕ))
    (link : Link) → is_answered link ≡ true
    → (fcb : Bool) × (following : Phase) × (wanted_by burst true again s command link Polling
    ≡ wants (Counted fcb (poll_by s.acd)) following)
poll_wanted burst again s command (Next fcb) up =
    let first = first_poll burst fcb s in (fcb, first.0, first.1)
poll_wanted burst again s command Down up = let bad : ⊥ = cc in absurd bad
poll_wanted burst again s command Available up = let bad : ⊥ = cc in absurd bad
poll_wanted burst again s command (Held fcb service missed) up = let bad : ⊥ = cc in absurd bad

-- What the present turn has next goes out.
pub turn_sends : (p : Primary) (may_poll : Bool) (waiting : CommandsWaiting) (request : Asked)
    (following : Phase)
    → p.outstanding ≡ None
    → wanted p.settings.burst may_poll p.again (station_at p.stations p.turn) (waiting p.turn)
    p.phase
    ≡ wants request following
    → sending p may_poll waiting ≡ Some (record { station = p.turn; request = request })
turn_sends p may_poll waiting request following out is =
    ap (λ (o : Option Outstanding). sending_from p o may_poll waiting) out
    ∙ ap (λ (w : Option Wanted). sending_by (chosen_or w p.turn
    (first_after p.settings.burst may_poll p.stations waiting (length p.stations) p.turn))) is

goes_on : (p : Primary) (row : Row) (call : Call) → Matches p row → PollsGoOn p row call
goes_on p (Polls k n) (runs.Next now true waiting) (turn, lost free down over none) =
    λ out up acd less. absurd (not_both (is_answered (station_at p.stations k).link) up down)
goes_on p (Polls k n) (runs.Next now true waiting) (turn, going (so_far, le, is) stays) =
    λ out up acd less.
    let one = one_wanted p.settings.burst so_far p.again (station_at p.stations p.turn)
    (waiting p.turn) (turn_link p)
    (ap (λ (i : ℕ). is_answered (station_at p.stations i).link) turn ∙ up)
    (ap (λ (i : ℕ). (station_at p.stations i).acd) turn ∙ acd)
    (omega (arith, le, less)) in
    subst (λ (i : ℕ). IsSent p true waiting i Class1) turn (
      one.0,
      turn_sends p true waiting (Counted one.0 Class1) (Class1Polling (suc so_far)) out
          (ap (λ (f : Phase). wanted p.settings.burst true p.again (station_at p.stations p.turn)
          (waiting p.turn) f) is ∙ one.1),
    )
goes_on p (Commanded k) (runs.Next now true waiting) (turn, lost free down over none) =
    λ out up. absurd (not_both (is_answered (station_at p.stations k).link) up down)
goes_on p (Commanded k) (runs.Next now true waiting) (turn, going is stays) =
    λ out up.
    let poll = poll_wanted p.settings.burst p.again (station_at p.stations p.turn)
    (waiting p.turn) (turn_link p)
    (ap (λ (i : ℕ). is_answered (station_at p.stations i).link) turn ∙ up) in
    subst (λ (i : ℕ). IsSent p true waiting i (poll_by (station_at p.stations i).acd)) turn (
      poll.0,
      turn_sends p true waiting
          (Counted poll.0 (poll_by (station_at p.stations p.turn).acd)) poll.1 out
          (ap (λ (f : Phase). wanted p.settings.burst true p.again (station_at p.stations p.turn)
          (waiting p.turn) f) is ∙ poll.2),
    )
goes_on p (Polls k n) (runs.Next now false waiting) matches = tt
goes_on p (Polls k n) (Octets octets) matches = tt
goes_on p (Polls k n) (Due now) matches = tt
goes_on p (Polls k n) (GivesUp station) matches = tt
goes_on p (Polls k n) Doubts matches = tt
goes_on p (Commanded k) (runs.Next now false waiting) matches = tt
goes_on p (Commanded k) (Octets octets) matches = tt
goes_on p (Commanded k) (Due now) matches = tt
goes_on p (Commanded k) (GivesUp station) matches = tt
goes_on p (Commanded k) Doubts matches = tt
goes_on p Other call matches = tt

pub go_on : (p : Primary) (row : Row) (calls : List Call) → Matches p row → BurstsGoOn p row calls
go_on p row [] matches = tt
go_on p row (call ∷ calls) matches = (
  goes_on p row call matches,
  go_on (called p call) (row_after p call row) calls
      (call_matches p row call matches),
)

pub all_go_on : (settings : LinkSettings) (addresses : List ℕ) (calls : List Call)
    → BurstsGoOn (start settings addresses) Other calls
all_go_on settings addresses calls = go_on (start settings addresses) Other calls tt
