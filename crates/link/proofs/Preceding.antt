-- A command that waits is passed by no polls but those that the visit had left.
use Rattle.std.specs.Prelude.{◌==◌, is_some}
use Rattle.std.proofs.Common.{◌≡◌, ℕ, suc, ◌-◌, ◌<◌, ◌≤◌, ◌&&◌, ◌||◌, not, nat_lt, Bool, true}
use Rattle.std.proofs.Common.{false, List, [], ◌∷◌, ◌++◌, length, Option, Some, None}
use Rattle.std.proofs.Common.{refl, sym, ap, subst, ◌∙◌, arith, if◌then◌else◌}
use Rattle.std.proofs.lemmas.Bool.{ltb-true, eqb-true}
use Rattle.ft12.specs.declared.frame.Front.{Front}
use Rattle.ft12.specs.Fronts.{front_of}
use Rattle.link.specs.Answers.{Frame, Service, Class1, Class2, Command, Asked, Status, Reset}
use Rattle.link.specs.Answers.{Counted, Answer, Ready, Confirmed, Busy, Report, NoData, Unable}
use Rattle.link.specs.Exchanges.{Sending, whole_of}
use Rattle.link.specs.Procedure.{Link, Down, Available, Next, Held, is_held, has_repeats}
use Rattle.link.specs.Turns.{StationState, Phase, Starting, Commanding, Polling}
use Rattle.link.specs.Turns.{Class1Polling, Over, Wanted, Chosen, station_at, is_poll, wants}
use Rattle.link.specs.Turns.{wanted_poll, polls_from, wanted_command, commands_from, next_of}
use Rattle.link.specs.Turns.{wanted_by, wanted, chosen_or, first_after}
use Rattle.link.specs.Primary.{Outstanding, Primary, choice}
use Rattle.link.specs.Primary.{after_choice, asked_from, asked, sending_by, sending_from, sending}
use Rattle.link.specs.Primary.{phase_after, answer_at, said_by, open_octets, took, with_octets}
use Rattle.link.specs.Primary.{received_after, received_from, received, station_unanswered}
use Rattle.link.specs.Primary.{unanswered, is_late, due_from, timed_out, is_command}
use Rattle.link.specs.Leave.{is_poll_request}
use Rattle.link.specs.Carried.{given_up}
use Rattle.link.specs.Runs.{Call, Octets, Due, GivesUp, called}
use Rattle.link.specs.Runs as runs
use Rattle.link.specs.Precedence.{command_waits, command_waits_at, is_new_poll, is_new_poll_of}
use Rattle.link.specs.Precedence.{is_new_command, passes_command, left_behind, left_after}
use Rattle.link.specs.Precedence.{left_by_request, polls_left}
use Rattle.link.specs.Precedence.{CommandsGoFirst}
use Rattle.link.proofs.Turning.{found, present}
use Rattle.link.specs.Turns.{CommandsWaiting}
use Rattle.link.specs.Runs.{Doubts}
use Rattle.link.specs.Procedure.{Silence}
use Rattle.link.specs.Turns.{is_doubted}

-- how many new polls a visit has from this phase on, without a command
abbrev pub rest : (burst : ℕ) → Phase → ℕ
rest burst Starting = 0
rest burst Commanding = 0
rest burst Polling = suc burst
rest burst (Class1Polling sent) = burst - sent
rest burst Over = 0

abbrev pub rest_at : Primary → (station : ℕ) → ℕ
rest_at p k = if p.turn == k then rest p.settings.burst p.phase else 0

rest_small : (burst : ℕ) (phase : Phase) → rest burst phase ≤ suc burst
rest_small burst Starting = omega arith
rest_small burst Commanding = omega arith
rest_small burst Polling = omega arith
rest_small burst (Class1Polling sent) = omega arith
rest_small burst Over = omega arith

at_small : (p : Primary) (k : ℕ) → rest_at p k ≤ suc p.settings.burst
at_small p k = go (p.turn == k)
  where
    go : (b : Bool) → (if b then rest p.settings.burst p.phase else 0) ≤ suc p.settings.burst
    go true = rest_small p.settings.burst p.phase
    go false = omega arith

-- What goes out to a station for which a command waits: that command, or what is no new poll, or
-- one of those that the visit had left.
pub data Goes (burst : ℕ) (held : Bool) (phase : Phase) (request : Asked) (following : Phase) : Type
    0 where
  new_command : is_command request ≡ true → held ≡ false → Goes burst held phase request following
  other : (is_poll_request request && not held) ≡ false → rest burst following ≤ rest burst phase
      → Goes burst held phase request following
  poll : suc (rest burst following) ≤ rest burst phase → Goes burst held phase request following

abbrev pub GoesIt : (burst : ℕ) → (held : Bool) → Phase → Option Wanted → Type 0
GoesIt burst held phase None = Unit {0}
GoesIt burst held phase (Some w) = Goes burst held phase w.request w.following

poll_goes : (burst : ℕ) (fcb : Bool) (s : StationState) (phase : Phase)
    → GoesIt burst false phase (wanted_poll burst fcb s.acd phase)
poll_goes burst fcb s Polling = go s.acd
  where
    go : (b : Bool) → GoesIt burst false Polling
        (if b then wants (Counted fcb Class1) (Class1Polling 1)
        else wants (Counted fcb Class2) (Class1Polling 0))
    go true = poll (omega arith)
    go false = poll (omega arith)
poll_goes burst fcb s (Class1Polling sent) = go s.acd (nat_lt sent burst) refl
  where
    go : (b more : Bool) → nat_lt sent burst ≡ more → GoesIt burst false (Class1Polling sent)
        (if b && more then wants (Counted fcb Class1) (Class1Polling (suc sent)) else None)
    go true true e = let less = ltb-true sent burst e in poll (omega (arith, less))
    go true false e = tt
    go false more e = tt
poll_goes burst fcb s Starting = tt
poll_goes burst fcb s Commanding = tt
poll_goes burst fcb s Over = tt

polls_go : (burst : ℕ) (may_poll fcb : Bool) (s : StationState) (phase : Phase)
    → GoesIt burst false phase (polls_from burst may_poll fcb s phase)
polls_go burst true fcb s phase = poll_goes burst fcb s phase
polls_go burst false fcb s phase = tt

-- A command that waits goes out.
commands_go : (burst : ℕ) (may_poll fcb : Bool) (s : StationState) (phase : Phase)
    (command : Option (List ℕ))
    → (is_some command && not s.dfc) ≡ true
    → GoesIt burst false phase (commands_from burst may_poll fcb s command)
commands_go burst may_poll fcb s phase None waits = let no : ⊥ = cc in absurd no
commands_go burst may_poll fcb s phase (Some asdu) waits = go s.dfc waits
  where
    go : (b : Bool) → not b ≡ true → GoesIt burst false phase
        (if b then polls_from burst may_poll fcb s Polling else wanted_command fcb asdu)
    go true e = let no : ⊥ = cc in absurd no
    go false e = new_command refl refl

next_goes : (burst : ℕ) (may_poll fcb : Bool) (s : StationState) (command : Option (List ℕ))
    (phase : Phase) → command_waits command s
    ≡ true
    → GoesIt burst false phase (next_of burst may_poll fcb s command phase)
next_goes burst may_poll fcb s command Starting waits =
    commands_go burst may_poll fcb s Starting command
    waits
next_goes burst may_poll fcb s command Commanding waits =
    commands_go burst may_poll fcb s Commanding command waits
next_goes burst may_poll fcb s command Polling waits = polls_go burst may_poll fcb s Polling
next_goes burst may_poll fcb s command (Class1Polling sent) waits =
    polls_go burst may_poll fcb s (Class1Polling sent)
next_goes burst may_poll fcb s command Over waits = tt

no_more : (b : Bool) → (b && not true) ≡ false
no_more true = refl
no_more false = refl

held_goes : (burst : ℕ) (may_poll again fcb : Bool) (s : StationState) (command : Option (List ℕ))
    (service : Service)
    (missed : Silence) (phase : Phase)
    → GoesIt burst true phase (wanted_by burst may_poll again s command (Held fcb service missed)
    phase)
held_goes burst may_poll again fcb s command service missed Starting =
    go (is_doubted s missed) (may_poll || not (is_poll service))
  where
    go : (doubted b : Bool) → GoesIt burst true Starting (if doubted then wants Status Over
        else if b then wants (Counted fcb service) Commanding else None)
    go true b = other (no_more false) (omega arith)
    go false true = other (no_more (is_poll service)) (omega arith)
    go false false = tt
held_goes burst may_poll true fcb s command service missed Commanding =
    other (no_more (is_poll service)) (omega arith)
held_goes burst may_poll true fcb s command service missed Polling =
    other (no_more (is_poll service)) (omega arith)
held_goes burst may_poll true fcb s command service missed (Class1Polling sent) =
    other (no_more (is_poll service)) (omega arith)
held_goes burst may_poll true fcb s command service missed Over =
    other (no_more (is_poll service)) (omega arith)
held_goes burst may_poll false fcb s command service missed Commanding = tt
held_goes burst may_poll false fcb s command service missed Polling = tt
held_goes burst may_poll false fcb s command service missed (Class1Polling sent) = tt
held_goes burst may_poll false fcb s command service missed Over = tt

wanted_goes : (burst : ℕ) (may_poll again : Bool) (s : StationState) (command : Option (List ℕ))
    (link : Link) (phase : Phase)
    → command_waits command s ≡ true
    → GoesIt burst (is_held link) phase (wanted_by burst may_poll again s command link phase)
wanted_goes burst may_poll again s command (Next fcb) phase waits =
    next_goes burst may_poll fcb s command phase waits
wanted_goes burst may_poll again s command (Held fcb service missed) phase waits =
    held_goes burst may_poll again fcb s command service missed phase
wanted_goes burst may_poll again s command Down Starting waits = other refl (omega arith)
wanted_goes burst may_poll again s command Available Starting waits = other refl (omega arith)
wanted_goes burst may_poll again s command Down Commanding waits = tt
wanted_goes burst may_poll again s command Down Polling waits = tt
wanted_goes burst may_poll again s command Down (Class1Polling sent) waits = tt
wanted_goes burst may_poll again s command Down Over waits = tt
wanted_goes burst may_poll again s command Available Commanding waits = tt
wanted_goes burst may_poll again s command Available Polling waits = tt
wanted_goes burst may_poll again s command Available (Class1Polling sent) waits = tt
wanted_goes burst may_poll again s command Available Over waits = tt

-- ---- what is chosen

-- What is chosen goes on with the present turn, or begins another.
pub data IsChosen (p : Primary) (may_poll : Bool) (waiting : CommandsWaiting) (c : Chosen) : Type
    0 where
  here : c.station ≡ p.turn
      → wanted p.settings.burst may_poll p.again (station_at p.stations c.station)
      (waiting c.station) p.phase
      ≡ Some c.wanted → IsChosen p may_poll waiting c
  there : wanted p.settings.burst may_poll false (station_at p.stations c.station)
      (waiting c.station) Starting
      ≡ Some c.wanted
      → IsChosen p may_poll waiting c

pub is_chosen : (p : Primary) (may_poll : Bool) (waiting : CommandsWaiting) (c : Chosen)
    → choice p may_poll waiting ≡ Some c
    → IsChosen p may_poll waiting c
is_chosen p may_poll waiting c is = go (present p may_poll waiting) refl is
  where
    other_one : Option Chosen
    other_one = first_after p.settings.burst may_poll p.stations waiting (length p.stations) p.turn

    go : (v : Option Wanted) → present p may_poll waiting ≡ v → chosen_or v p.turn other_one
        ≡ Some c
        → IsChosen p may_poll waiting c
    go (Some w) e same =
        let at : c.station ≡ p.turn = cc in
        let is_w : w ≡ c.wanted = cc in
        here at
        (ap (λ (i : ℕ). wanted p.settings.burst may_poll p.again (station_at p.stations i)
        (waiting i) p.phase)
        at ∙ e
        ∙ ap (λ (x : Wanted). Some x) is_w)
    go None e same =
        there (found p.settings.burst may_poll p.stations waiting (length p.stations) p.turn c
        same).first

-- what goes out
abbrev pub sent : Chosen → Sending
sent c = record { station = c.station; request = c.wanted.request }

-- what a station's request leaves of its visit, if a command waits
pub record Steps (p : Primary) (c : Chosen) (left : ℕ) : Type 0 where
  pub passed : is_new_poll p (sent c) ≡ true → 0 < left
  pub next : rest p.settings.burst c.wanted.following ≤ left_behind p left (sent c)

no_command : (request : Asked) (held : Bool) → is_command request ≡ true →
    (is_poll_request request && not held) ≡ true → ⊥
no_command Status held e f = cc
no_command Reset held e f = cc
no_command (Counted fcb Class1) held e f = cc
no_command (Counted fcb Class2) held e f = cc
no_command (Counted fcb (Command asdu)) held e f = cc

goes_steps : (p : Primary) (c : Chosen) (left : ℕ) (phase : Phase) → rest p.settings.burst phase
    ≤ left
    → Goes p.settings.burst (is_held (station_at p.stations c.station).link) phase c.wanted.request
    c.wanted.following
    → Steps p c left
goes_steps p c left phase le (new_command is free) = record {
  passed =
      λ e. absurd (no_command c.wanted.request (is_held (station_at p.stations c.station).link) is
      e);
  next = go (is_new_poll p (sent c)) refl (is_new_command p (sent c))
      (ap (λ (b : Bool). b && not (is_held (station_at p.stations c.station).link)) is
      ∙ ap not free);
}
  where
    go : (b : Bool) → is_new_poll p (sent c) ≡ b → (d : Bool) → d ≡ true →
        rest p.settings.burst c.wanted.following
        ≤ (if b then left - 1 else if d then suc p.settings.burst else left)
    go true e d new = absurd (no_command c.wanted.request
        (is_held (station_at p.stations c.station).link) is e)
    go false e true new = rest_small p.settings.burst c.wanted.following
    go false e false new = cc
goes_steps p c left phase le (other none small) = record {
  passed = λ e. let bad : ⊥ = cc in absurd bad;
  next = go (is_new_poll p (sent c)) none (is_new_command p (sent c));
}
  where
    go : (b : Bool) → b ≡ false → (d : Bool) → rest p.settings.burst c.wanted.following
        ≤ (if b then left - 1 else if d then suc p.settings.burst else left)
    go true e d = cc
    go false e true = rest_small p.settings.burst c.wanted.following
    go false e false = omega (arith, le, small)
goes_steps p c left phase le (poll small) = record {
  passed = λ e. omega (arith, le, small);
  next = go (is_new_poll p (sent c)) (is_new_command p (sent c));
}
  where
    go : (b d : Bool) → rest p.settings.burst c.wanted.following
        ≤ (if b then left - 1 else if d then suc p.settings.burst else left)
    go true d = omega (arith, le, small)
    go false true = rest_small p.settings.burst c.wanted.following
    go false false = omega (arith, le, small)

chosen_steps : (p : Primary) (may_poll : Bool) (waiting : CommandsWaiting) (c : Chosen) (left : ℕ)
    → IsChosen p may_poll waiting c → command_waits_at p waiting c.station ≡ true
    → rest_at p c.station ≤ left → Steps p c left
chosen_steps p may_poll waiting c left (here at is) waits small =
    let turn : (p.turn == c.station) ≡ true = grind (arith, at) in
    let le : rest p.settings.burst p.phase ≤ left = rw turn at small in
    goes_steps p c left p.phase le (subst (λ (v : Option Wanted). GoesIt p.settings.burst
    (is_held (station_at p.stations c.station).link) p.phase v) is
    (wanted_goes p.settings.burst may_poll p.again (station_at p.stations c.station)
    (waiting c.station) (station_at p.stations c.station).link p.phase waits))
chosen_steps p may_poll waiting c left (there is) waits small =
    goes_steps p c left Starting (omega arith)
    (subst (λ (v : Option Wanted). GoesIt p.settings.burst
    (is_held (station_at p.stations c.station).link) Starting v) is
    (wanted_goes p.settings.burst may_poll false (station_at p.stations c.station)
    (waiting c.station) (station_at p.stations c.station).link Starting waits))

-- ---- `next`

after_steps : (p : Primary) (k left now : ℕ) (may_poll : Bool) (waiting : CommandsWaiting)
    → command_waits_at p waiting k ≡ true → rest_at p k ≤ left
    → (c : Option Chosen) → choice p may_poll waiting ≡ c
    → rest_at (after_choice p now c) k ≤ left_after p k left (sending_by c)
after_steps p k left now may_poll waiting is small None e = go (p.turn == k)
  where
    go : (b : Bool) → (if b then 0 else 0) ≤ 0
    go true = omega arith
    go false = omega arith
after_steps p k left now may_poll waiting is small (Some c) e = go (c.station == k) refl
  where
    go : (b : Bool) → (c.station == k) ≡ b →
        (if b then rest p.settings.burst c.wanted.following else 0)
        ≤ (if b then left_behind p left (sent c) else 0)
    go false at = omega arith
    go true at =
        let same : c.station ≡ k = eqb-true c.station k at in
        (chosen_steps p may_poll waiting c left (is_chosen p may_poll waiting c e)
        (ap (λ (i : ℕ). command_waits_at p waiting i) same ∙ is)
        (subst (λ (i : ℕ). rest_at p i ≤ left) (sym same) small)).next

after_small : (p : Primary) (k now : ℕ) (c : Option Chosen)
    → rest_at (after_choice p now c) k ≤ suc p.settings.burst
after_small p k now None = at_small (after_choice p now None) k
after_small p k now (Some c) = at_small (after_choice p now (Some c)) k

asked_steps : (p : Primary) (k left now : ℕ) (may_poll : Bool) (waiting : CommandsWaiting)
    → rest_at p k ≤ left → rest_at (asked p now may_poll waiting) k
    ≤ polls_left p k left (runs.Next now may_poll waiting)
asked_steps p k left now may_poll waiting small =
    go p.outstanding refl (command_waits_at p waiting k) refl
  where
    go : (o : Option Outstanding) → p.outstanding ≡ o → (w : Bool)
        → command_waits_at p waiting k ≡ w
        → rest_at (asked_from p o now may_poll waiting) k
        ≤ (if w then left_by_request p k left o may_poll waiting else suc p.settings.burst)
    go (Some o) e true is = small
    go (Some o) e false is = at_small p k
    go None e false is = after_small p k now (choice p may_poll waiting)
    go None e true is = subst (λ (s : Option Sending).
        rest_at (after_choice p now (choice p may_poll waiting)) k ≤ left_after p k left s)
        (sym (ap (λ (o : Option Outstanding). sending_from p o may_poll waiting) e))
        (after_steps p k left now may_poll waiting is small (choice p may_poll waiting) refl)

-- ---- the other calls

abbrev pub IsOther : Call → Type 0
IsOther (runs.Next now may_poll waiting) = ⊥
IsOther call = Unit {0}

answer_rest : (burst : ℕ) (answer : Answer) (phase : Phase) → rest burst (phase_after answer phase)
    ≤ rest burst phase
answer_rest burst Unable phase = omega arith
answer_rest burst Ready phase = omega arith
answer_rest burst Confirmed phase = omega arith
answer_rest burst Busy phase = omega arith
answer_rest burst (Report asdu) phase = omega arith
answer_rest burst NoData phase = omega arith

-- fewer polls are left, if any
less_left : (b : Bool) (fewer more : ℕ) → fewer ≤ more → (if b then fewer else 0)
    ≤ (if b then more else 0)
less_left true fewer more le = le
less_left false fewer more le = omega arith

octets_rest : (front : List ℕ → Front) (p : Primary) (octets : List ℕ) (k : ℕ)
    → rest_at (received front p octets) k ≤ rest_at p k
octets_rest front p octets k = go p.outstanding
  where
    say : (o : Outstanding) (frame : Frame) (m : Option Answer) → rest_at (said_by p o frame m) k
        ≤ rest_at p k
    say o frame None = omega arith
    say o frame (Some answer) =
        less_left (p.turn == k) _ _ (answer_rest p.settings.burst answer p.phase)

    take_it : (o : Outstanding) (arrived : Option (List ℕ)) (f : Option Frame)
        → rest_at (took p o arrived f) k ≤ rest_at p k
    take_it o arrived None = omega arith
    take_it o arrived (Some frame) = say o frame (answer_at p o frame)

    listen : (o : Outstanding) (h : Option (List ℕ)) → rest_at (received_after front p o h octets) k
        ≤ rest_at p k
    listen o None = omega arith
    listen o (Some before) = take_it o (open_octets (before ++ octets) (front (before ++ octets)))
        (whole_of (front (before ++ octets)))

    go : (o : Option Outstanding) → rest_at (received_from front p o octets) k ≤ rest_at p k
    go None = omega arith
    go (Some o) = listen (with_octets octets o) o.arrived

due_rest : (p : Primary) (at : ℕ) (k : ℕ) → rest_at (timed_out p at) k ≤ rest_at p k
due_rest p at k = go p.outstanding
  where
    missed : (b : Bool) → rest p.settings.burst (if b then p.phase else Over)
        ≤ rest p.settings.burst p.phase
    missed true = omega arith
    missed false = omega arith

    late : (o : Outstanding) (b : Bool) → rest_at (if b then unanswered p o else p) k ≤ rest_at p k
    late o false = omega arith
    late o true = less_left (p.turn == k) _ _ (missed (has_repeats p.settings
        (station_unanswered p.settings (station_at p.stations p.turn) o.request).link))

    go : (o : Option Outstanding) → rest_at (due_from p o at) k ≤ rest_at p k
    go None = omega arith
    go (Some o) = late o (is_late p o at)

give_up_rest : (p : Primary) (i : ℕ) (k : ℕ) → rest_at (given_up i p) k ≤ rest_at p k
give_up_rest p i k = less_left (p.turn == k) _ _ (go (p.turn == i))
  where
    go : (b : Bool) → rest p.settings.burst (if b then Over else p.phase)
        ≤ rest p.settings.burst p.phase
    go true = omega arith
    go false = omega arith

other_rest : (p : Primary) (k : ℕ) (call : Call) → IsOther call → rest_at (called p call) k
    ≤ rest_at p k
other_rest p k (runs.Next now may_poll waiting) is = absurd is
other_rest p k (Octets octets) is = octets_rest (front_of p.settings.size) p octets k
other_rest p k (Due now) is = due_rest p now k
other_rest p k (GivesUp station) is = give_up_rest p station k
other_rest p k Doubts is = omega arith

other_steps : (p : Primary) (k left : ℕ) (call : Call) → IsOther call → rest_at p k ≤ left
    → rest_at (called p call) k ≤ left
other_steps p k left call is small =
    let le = other_rest p k call is in omega (arith, le, small)

call_steps : (p : Primary) (k left : ℕ) (call : Call) → rest_at p k ≤ left
    → rest_at (called p call) k ≤ polls_left p k left call
call_steps p k left (runs.Next now may_poll waiting) small =
    asked_steps p k left now may_poll waiting small
call_steps p k left (Octets octets) small = other_steps p k left (Octets octets) tt small
call_steps p k left (Due now) small = other_steps p k left (Due now) tt small
call_steps p k left (GivesUp station) small = other_steps p k left (GivesUp station) tt small
call_steps p k left Doubts small = other_steps p k left Doubts tt small

-- ---- a poll passes only if one is left

passes_some : (p : Primary) (k left : ℕ) (call : Call) → rest_at p k ≤ left
    → passes_command p k call ≡ true → 0 < left
passes_some p k left (Octets octets) small is = let no : ⊥ = cc in absurd no
passes_some p k left (Due now) small is = let no : ⊥ = cc in absurd no
passes_some p k left (GivesUp station) small is = let no : ⊥ = cc in absurd no
passes_some p k left Doubts small is = let no : ⊥ = cc in absurd no
passes_some p k left (runs.Next now may_poll waiting) small is =
    go (command_waits_at p waiting k) refl is
  where
    by : command_waits_at p waiting k ≡ true → (c : Option Chosen) → choice p may_poll waiting ≡ c
        → is_new_poll_of p k (sending_by c) ≡ true → 0 < left
    by waits None e poll_is = let no : ⊥ = cc in absurd no
    by waits (Some c) e poll_is = at (c.station == k) refl poll_is
      where
        at : (b : Bool) → (c.station == k) ≡ b → (b && is_new_poll p (sent c)) ≡ true → 0 < left
        at false f h = let no : ⊥ = cc in absurd no
        at true f h =
            let same : c.station ≡ k = eqb-true c.station k f in
            (chosen_steps p may_poll waiting c left (is_chosen p may_poll waiting c e)
            (ap (λ (i : ℕ). command_waits_at p waiting i) same ∙ waits)
            (subst (λ (i : ℕ). rest_at p i ≤ left) (sym same) small)).passed h

    out : (o : Option Outstanding) → command_waits_at p waiting k ≡ true
        → is_new_poll_of p k (sending_from p o may_poll waiting) ≡ true → 0 < left
    out (Some o) waits h = let no : ⊥ = cc in absurd no
    out None waits h = by waits (choice p may_poll waiting) refl h

    go : (w : Bool) → command_waits_at p waiting k ≡ w
        → (w && is_new_poll_of p k (sending p may_poll waiting)) ≡ true → 0 < left
    go false waits h = let no : ⊥ = cc in absurd no
    go true waits h = out p.outstanding waits h

commands_first : (p : Primary) (k left : ℕ) (calls : List Call) → rest_at p k ≤ left
    → CommandsGoFirst p k left calls
commands_first p k left [] small = tt
commands_first p k left (call ∷ calls) small = (
  passes_some p k left call small,
  commands_first (called p call) k (polls_left p k left call) calls
      (call_steps p k left call small),
)

pub all_first : (p : Primary) (k : ℕ) (calls : List Call)
    → CommandsGoFirst p k (suc p.settings.burst) calls
all_first p k calls = commands_first p k (suc p.settings.burst) calls (at_small p k)
