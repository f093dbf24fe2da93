-- What goes out behind a held service with which a turn began.
use Rattle.std.specs.Prelude.{◌==◌}
use Rattle.std.proofs.Common.{◌≡◌, ℕ, ◌||◌, ◌&&◌, not, Bool, true, false, List, [], ◌∷◌, ◌++◌}
use Rattle.std.proofs.Common.{slice_set, Option, Some, None, refl, sym, ap, subst, ◌∙◌}
use Rattle.std.proofs.Common.{if◌then◌else◌}
use Rattle.std.proofs.lemmas.Bool.{eqb-true, eqb-false}
use Rattle.std.proofs.lemmas.List.{get_or-set_other}
use Rattle.ft12.specs.declared.frame.Front.{Front}
use Rattle.ft12.specs.Fronts.{front_of}
use Rattle.link.specs.Answers.{Frame, Service, Command, Asked, Status, Reset, Counted, Answer}
use Rattle.link.specs.Answers.{Ready, Confirmed, Busy, Report, NoData, Unable}
use Rattle.link.specs.Exchanges.{Sending, whole_of}
use Rattle.link.specs.Procedure.{LinkSettings, Link, Down, Available, Next, Held, is_held}
use Rattle.link.specs.Procedure.{is_service, has_repeats, after_answer}
use Rattle.link.specs.Turns.{StationState, no_station, Phase, Starting, Commanding, Polling}
use Rattle.link.specs.Turns.{Class1Polling, Over, Wanted, Chosen, station_at, is_poll, wants}
use Rattle.link.specs.Turns.{polls_from, wanted_command, commands_from, wanted_by}
use Rattle.link.specs.Primary.{Outstanding, Primary, start, choice, after_choice, asked_from}
use Rattle.link.specs.Primary.{asked, sending_by, sending_from, phase_after, answer_at, answered}
use Rattle.link.specs.Primary.{station_answered, said_by, open_octets, took, with_octets}
use Rattle.link.specs.Primary.{received_after, received_from, received, station_unanswered}
use Rattle.link.specs.Primary.{unanswered, is_late, due_from, timed_out}
use Rattle.link.specs.Carried.{station_given_up, given_up}
use Rattle.link.specs.Runs.{Call, Octets, Due, GivesUp, called}
use Rattle.link.specs.Runs as runs
use Rattle.link.specs.Bursts.{is_answered, poll_by, IsSent}
use Rattle.link.specs.AtOnce.{is_spent, began_by, began_out, began_after, first_of_turn}
use Rattle.link.specs.AtOnce.{first_service, may_go, TurnIsNext, TurnsGoOn}
use Rattle.link.proofs.Leaving.{set_none}
use Rattle.link.proofs.Preceding.{IsChosen, here, there, is_chosen}
use Rattle.link.proofs.Bursting.{not_both, silent_down, held_is, turn_sends, first_poll}
use Rattle.link.proofs.Following.{none_out}
use Rattle.link.specs.Turns.{CommandsWaiting}
use Rattle.link.specs.Runs.{Doubts}
use Rattle.link.specs.Carried.{doubted}
use Rattle.link.proofs.Doubting.{doubted_link}
use Rattle.link.specs.Turns.{is_doubted}
use Rattle.link.proofs.Links.{set_view}
use Rattle.link.specs.Primary.{station_asked}
use Rattle.std.proofs.Common.{◌⊎◌, inl, inr}

-- A service is sent again at once only if repeats are left, and nothing is outstanding.
abbrev pub AgainHas : Primary → Type 0
AgainHas p =
    p.again ≡ true → (p.outstanding ≡ None)
    × (is_held (station_at p.stations p.turn).link ≡ true
    → has_repeats p.settings (station_at p.stations p.turn).link ≡ true)

-- The service is outstanding, or it ended; a command and polls are next.
pub data Stays (outstanding : Option Outstanding) (phase : Phase) (link : Link) : Type 0 where
  waits : (o : Outstanding) → outstanding ≡ Some o → is_service o.request ≡ true
      → phase ≡ Commanding → Stays outstanding phase link
  probes : (o : Outstanding) → outstanding ≡ Some o → o.request ≡ Status → is_held link ≡ true
      → Stays outstanding phase link
  ended : outstanding ≡ None → (is_answered link ≡ true → phase ≡ Commanding)
      → Stays outstanding phase link

abbrev pub Began : Primary → Option ℕ → Type 0
Began p None = Unit {0}
Began p (Some station) =
    (p.turn ≡ station) × Stays p.outstanding p.phase (station_at p.stations p.turn).link

abbrev pub Matches : Primary → Option ℕ → Type 0
Matches p began = AgainHas p × Began p began

-- ---- `next`

abbrev pub held_want : Bool → Service → Wanted
held_want fcb service = record { request = Counted fcb service; following = Commanding }

same_want : (v w : Wanted) → Some v ≡ Some w → v ≡ w
same_want v w e = cc

-- The held service, or the status of its station.
abbrev pub HeldOrProbed : Wanted → Type 0
HeldOrProbed w =
    ((is_service w.request ≡ true) × (w.following ≡ Commanding)) ⊎ (w.request ≡ Status)

-- A held service that begins a turn is followed by a command and polls.
held_follows : (burst : ℕ) (may_poll again : Bool) (s : StationState) (command : Option (List ℕ))
    (link : Link) (phase : Phase)
    (w : Wanted) → is_held link ≡ true → (again ≡ true → ⊥)
    → wanted_by burst may_poll again s command link phase ≡ Some w
    → HeldOrProbed w
held_follows burst may_poll again s command (Held fcb service missed) Starting w held once is =
    go (is_doubted s missed) (may_poll || not (is_poll service)) is
  where
    go : (doubted b : Bool) → (if doubted then wants Status Over
        else if b then wants (Counted fcb service) Commanding else None) ≡ Some w
        → HeldOrProbed w
    go true b e =
        inr (ap (λ (x : Wanted). x.request)
        (sym (same_want (record { request = Status; following = Over }) w e)))
    go false true e =
        let same = same_want (held_want fcb service) w e in inl (
          ap (λ (x : Wanted). is_service x.request) (sym same),
          ap (λ (x : Wanted). x.following) (sym same),
        )
    go false false e = let no : ⊥ = cc in absurd no
held_follows burst may_poll true s command (Held fcb service missed) Commanding w held once is =
    absurd (once refl)
held_follows burst may_poll true s command (Held fcb service missed) Polling w held once is =
    absurd (once refl)
held_follows burst may_poll true s command (Held fcb service missed) (Class1Polling sent) w held
    once is =
    absurd (once refl)
held_follows burst may_poll true s command (Held fcb service missed) Over w held once is =
    absurd (once refl)
held_follows burst may_poll false s command (Held fcb service missed) Commanding w held once is =
    let no : ⊥ = cc in absurd no
held_follows burst may_poll false s command (Held fcb service missed) Polling w held once is =
    let no : ⊥ = cc in absurd no
held_follows burst may_poll false s command (Held fcb service missed) (Class1Polling sent) w held
    once is =
    let no : ⊥ = cc in absurd no
held_follows burst may_poll false s command (Held fcb service missed) Over w held once is =
    let no : ⊥ = cc in absurd no
held_follows burst may_poll again s command Down phase w held once is = let no : ⊥ = cc in absurd no
held_follows burst may_poll again s command Available phase w held once is = let no : ⊥ = cc in
    absurd no
held_follows burst may_poll again s command (Next fcb) phase w held once is = let no : ⊥ = cc in
    absurd no

parts : (a b : Bool) → (a && not b) ≡ true → (a ≡ true) × (b ≡ false)
parts true false e = (refl, refl)
parts true true e = let no : ⊥ = cc in absurd no
parts false b e = let no : ⊥ = cc in absurd no

begins : (p : Primary) (c : Chosen) (may_poll : Bool) (waiting : CommandsWaiting) → AgainHas p
    → IsChosen p may_poll waiting c
    → is_spent p c.station ≡ true → HeldOrProbed c.wanted
begins p c may_poll waiting has (here at is) spent =
    held_follows p.settings.burst may_poll p.again (station_at p.stations c.station)
    (waiting c.station) link p.phase
    c.wanted both.0 (λ again. not_both (has_repeats p.settings link) (repeats again) both.1) is
  where
    link : Link
    link = (station_at p.stations c.station).link

    both : (is_held link ≡ true) × (has_repeats p.settings link ≡ false)
    both = parts (is_held link) (has_repeats p.settings link) spent

    repeats : p.again ≡ true → has_repeats p.settings link ≡ true
    repeats again = subst (λ (i : ℕ). is_held (station_at p.stations i).link ≡ true
        → has_repeats p.settings (station_at p.stations i).link ≡ true) (sym at) (has again).1
        both.0
begins p c may_poll waiting has (there is) spent =
    held_follows p.settings.burst may_poll false (station_at p.stations c.station)
    (waiting c.station)
    (station_at p.stations c.station).link Starting c.wanted
    (parts (is_held (station_at p.stations c.station).link)
    (has_repeats p.settings (station_at p.stations c.station).link) spent).0
    (λ e. not_both false e refl) is

asked_matches : (p : Primary) (began : Option ℕ) (now : ℕ) (may_poll : Bool)
    (waiting : CommandsWaiting) → Matches p began
    → Matches (asked p now may_poll waiting) (began_out p p.outstanding may_poll waiting began)
asked_matches p began now may_poll waiting matches = go p.outstanding refl
  where
    by : p.outstanding ≡ None → (c : Option Chosen) → choice p may_poll waiting ≡ c
        → Matches (after_choice p now c) (began_by p (sending_by c))
    by out None e = ((λ again. absurd (not_both false again refl)), tt)
    by out (Some c) e =
        ((λ again. absurd (not_both false again refl)), mark (is_spent p c.station) refl)
      where
        mark : (b : Bool) → is_spent p c.station ≡ b
            → Began (after_choice p now (Some c)) (if b then Some c.station else None)
        mark true is =
            let chosen = is_chosen p may_poll waiting c e in
            (refl, so (begins p c may_poll waiting matches.0 chosen is))
          where
            out_now : Outstanding
            out_now = record {
              request = c.wanted.request;
              since = now;
              arrived = Some [];
              has_octets = false;
            }

            held : is_held (station_at p.stations c.station).link ≡ true
            held = (parts (is_held (station_at p.stations c.station).link)
                (has_repeats p.settings (station_at p.stations c.station).link) is).0

            so : HeldOrProbed c.wanted
                → Stays (Some out_now) c.wanted.following
                (station_at (after_choice p now (Some c)).stations c.station).link
            so (inl it) = waits out_now refl it.0 it.1
            so (inr it) = probes out_now refl it
                (ap is_held (set_view (λ (s : StationState). s.link) p.stations c.station
                (station_asked (station_at p.stations c.station) c.wanted.request) refl c.station)
                ∙ held)
        mark false is = tt

    go : (o : Option Outstanding) → p.outstanding ≡ o
        → Matches (asked_from p o now may_poll waiting) (began_out p o may_poll waiting began)
    go (Some o) e = matches
    go None e =
        subst (λ (s : Option Sending). Matches (after_choice p now (choice p may_poll waiting))
        (began_by p s))
        (sym (ap (λ (o : Option Outstanding). sending_from p o may_poll waiting) e))
        (by e (choice p may_poll waiting) refl)

-- ---- an answer

same_out : (x o : Outstanding) → Some x ≡ Some o → x ≡ o
same_out x o e = cc

-- the phase behind an answer, if the link is up
phase_stays : (request : Asked) (answer : Answer) (phase : Phase) (link link' : Link)
    → is_service request ≡ true
    → (is_answered (after_answer request answer link) ≡ false → is_answered link' ≡ false)
    → phase ≡ Commanding → is_answered link' ≡ true → phase_after answer phase ≡ Commanding
phase_stays request Ready phase link link' service down is up = is
phase_stays request Confirmed phase link link' service down is up = is
phase_stays request Busy phase link link' service down is up = is
phase_stays request (Report asdu) phase link link' service down is up = is
phase_stays request NoData phase link link' service down is up = is
phase_stays (Counted fcb asked_for) Unable phase link link' service down is up =
    absurd (not_both (is_answered link') up (down refl))
phase_stays Status Unable phase link link' service down is up = let no : ⊥ = cc in absurd no
phase_stays Reset Unable phase link link' service down is up = let no : ⊥ = cc in absurd no

-- behind a status that a station answers, which holds a service, that isn't answered
probe_unanswered : (request : Asked) (answer : Answer) (link : Link) → request ≡ Status
    → is_held link ≡ true → is_answered (after_answer request answer link) ≡ false
probe_unanswered Status Ready (Held fcb service silence) is held = refl
probe_unanswered Status Unable (Held fcb service silence) is held = refl
probe_unanswered Status answer (Held fcb service silence) is held = refl
probe_unanswered Status answer Down is held = cc
probe_unanswered Status answer Available is held = cc
probe_unanswered Status answer (Next fcb) is held = cc
probe_unanswered Reset answer link is held = cc
probe_unanswered (Counted fcb service) answer link is held = cc

answer_matches : (p : Primary) (began : Option ℕ) (o : Outstanding) (frame : Frame)
    (answer : Answer)
    → p.outstanding ≡ Some o → Matches p began → Matches (answered p o.request frame answer) began
answer_matches p began o frame answer e matches =
    ((λ again. absurd (not_both false again refl)), go began matches.1)
  where
    it : StationState
    it = station_answered (station_at p.stations p.turn) o.request frame answer

    go : (b : Option ℕ) → Began p b → Began (answered p o.request frame answer) b
    go None state = tt
    go (Some station) (turn, ended free phase) = absurd (none_out p.outstanding o free e)
    go (Some station) (turn, probes x awaited asks held) = (
      turn,
      ended refl (λ up. absurd (not_both
          (is_answered (station_at (slice_set p.stations p.turn it) p.turn).link) up
          (set_none (λ (t : StationState). is_answered t.link) p.stations p.turn it
          (probe_unanswered o.request answer (station_at p.stations p.turn).link
          (ap (λ (y : Outstanding). y.request) (sym (same_out x o (sym awaited ∙ e))) ∙ asks) held)
          refl))),
    )
    go (Some station) (turn, waits x awaited service phase) = (
      turn,
      ended refl (phase_stays o.request answer p.phase (station_at p.stations p.turn).link
          (station_at (slice_set p.stations p.turn it) p.turn).link
          (ap (λ (y : Outstanding). is_service y.request)
          (sym (same_out x o (sym awaited ∙ e))) ∙ service)
          (λ down. set_none (λ (t : StationState). is_answered t.link) p.stations p.turn it down
          refl)
          phase),
    )

octets_match : (front : List ℕ → Front) (p : Primary) (came : List ℕ) (began : Option ℕ)
    → Matches p began → Matches (received front p came) began
octets_match front p came began matches = listen_from p.outstanding refl
  where
    stays : (o : Outstanding) → p.outstanding ≡ Some o → (arrived : Option (List ℕ))
        → Matches (took p (with_octets came o) arrived None) began
    stays o e arrived =
        ((λ again. absurd (none_out p.outstanding o (matches.0 again).0 e)), go began matches.1)
      where
        go : (b : Option ℕ) → Began p b → Began (took p (with_octets came o) arrived None) b
        go None state = tt
        go (Some station) (turn, ended free phase) = absurd (none_out p.outstanding o free e)
        go (Some station) (turn, probes x awaited asks held) = (
          turn,
          probes (record {
            request = o.request;
            since = o.since;
            arrived = arrived;
            has_octets = (with_octets came o).has_octets;
          }) refl (ap (λ (y : Outstanding). y.request)
              (sym (same_out x o (sym awaited ∙ e))) ∙ asks) held,
        )
        go (Some station) (turn, waits x awaited service phase) = (
          turn,
          waits (record {
            request = o.request;
            since = o.since;
            arrived = arrived;
            has_octets = (with_octets came o).has_octets;
          }) refl (ap (λ (y : Outstanding). is_service y.request)
              (sym (same_out x o (sym awaited ∙ e))) ∙ service) phase,
        )

    say : (o : Outstanding) → p.outstanding ≡ Some o → (frame : Frame) (m : Option Answer)
        → Matches (said_by p (with_octets came o) frame m) began
    say o e frame None = stays o e None
    say o e frame (Some answer) = answer_matches p began o frame answer e matches

    take_it : (o : Outstanding) → p.outstanding ≡ Some o
        → (arrived : Option (List ℕ)) (f : Option Frame)
        → Matches (took p (with_octets came o) arrived f) began
    take_it o e arrived None = stays o e arrived
    take_it o e arrived (Some frame) = say o e frame (answer_at p (with_octets came o) frame)

    listen : (o : Outstanding) → p.outstanding ≡ Some o → (h : Option (List ℕ))
        → Matches (received_after front p (with_octets came o) h came) began
    listen o e None = stays o e None
    listen o e (Some before) = take_it o e (open_octets (before ++ came) (front (before ++ came)))
        (whole_of (front (before ++ came)))

    listen_from : (o : Option Outstanding) → p.outstanding ≡ o
        → Matches (received_from front p o came) began
    listen_from None e = matches
    listen_from (Some o) e = listen o e o.arrived

-- ---- no answer in time

missed_matches : (p : Primary) (began : Option ℕ) (o : Outstanding) → p.outstanding ≡ Some o
    → Matches p began → Matches (unanswered p o) began
missed_matches p began o e matches = (repeats, go began matches.1)
  where
    it : StationState
    it = station_unanswered p.settings (station_at p.stations p.turn) o.request

    link : Link
    link = (station_at (slice_set p.stations p.turn it) p.turn).link

    repeats : has_repeats p.settings it.link ≡ true → ((unanswered p o).outstanding ≡ None)
        × (is_held link ≡ true → has_repeats p.settings link ≡ true)
    repeats again = (
      refl,
      λ held.
          ap (has_repeats p.settings) (held_is p.stations p.turn it held) ∙ again,
    )

    silent : is_answered link ≡ true → (unanswered p o).phase ≡ Commanding
    silent up = absurd (not_both (is_answered link) up
        (set_none (λ (t : StationState). is_answered t.link) p.stations p.turn it
        (silent_down p.settings o.request (station_at p.stations p.turn).link) refl))

    go : (b : Option ℕ) → Began p b → Began (unanswered p o) b
    go None state = tt
    go (Some station) (turn, ended free phase) = absurd (none_out p.outstanding o free e)
    go (Some station) (turn, probes x awaited asks held) = (turn, ended refl silent)
    go (Some station) (turn, waits x awaited service phase) = (turn, ended refl silent)

due_matches : (p : Primary) (at : ℕ) (began : Option ℕ) → Matches p began
    → Matches (timed_out p at) began
due_matches p at began matches = go p.outstanding refl
  where
    late : (o : Outstanding) → p.outstanding ≡ Some o → (b : Bool)
        → Matches (if b then unanswered p o else p) began
    late o e true = missed_matches p began o e matches
    late o e false = matches

    go : (o : Option Outstanding) → p.outstanding ≡ o → Matches (due_from p o at) began
    go None e = matches
    go (Some o) e = late o e (is_late p o at)

-- ---- the other calls

-- If the link of the station is given up, its request is over.
give_up_matches : (p : Primary) (k : ℕ) (began : Option ℕ) → Matches p began
    → Matches (given_up k p) began
give_up_matches p k began matches = (repeats (p.turn == k) refl, go began matches.1)
  where
    it : StationState
    it = station_given_up (station_at p.stations k)

    link : Link
    link = (station_at (slice_set p.stations k it) p.turn).link

    same : (p.turn == k) ≡ false → link ≡ (station_at p.stations p.turn).link
    same e = ap (λ (t : StationState). t.link)
        (get_or-set_other p.stations k p.turn it no_station (eqb-false p.turn k e))

    down : (p.turn == k) ≡ true → is_answered link ≡ true → ⊥
    down e is = not_both (is_answered link) is
        (subst (λ (i : ℕ). is_answered (station_at (slice_set p.stations k it) i).link ≡ false)
        (sym (eqb-true p.turn k e))
        (set_none (λ (t : StationState). is_answered t.link) p.stations k it refl refl))

    repeats : (b : Bool) → (p.turn == k) ≡ b → (if b then false else p.again) ≡ true
        → ((if b then None else p.outstanding) ≡ None)
        × (is_held link ≡ true → has_repeats p.settings link ≡ true)
    repeats true e again = absurd (not_both false again refl)
    repeats false e again = (
      (matches.0 again).0,
      subst (λ (l : Link). is_held l ≡ true → has_repeats p.settings l ≡ true) (sym (same e))
          (matches.0 again).1,
    )

    stands : Stays p.outstanding p.phase (station_at p.stations p.turn).link → (b : Bool)
        → (p.turn == k) ≡ b
        → Stays (if b then None else p.outstanding) (if b then Over else p.phase) link
    stands state true e = ended refl (λ up. absurd (down e up))
    stands state false e =
        subst (λ (l : Link). Stays p.outstanding p.phase l) (sym (same e)) state

    go : (b : Option ℕ) → Began p b → Began (given_up k p) b
    go None state = tt
    go (Some station) (turn, state) = (turn, stands state (p.turn == k) refl)

doubt_matches : (p : Primary) (began : Option ℕ) → Matches p began → Matches (doubted p) began
doubt_matches p began matches = (
  λ again. (
    (matches.0 again).0,
    subst (λ (l : Link). is_held l ≡ true → has_repeats p.settings l ≡ true) (sym link_is)
        (matches.0 again).1,
  ),
  go began matches.1,
)
  where
    link_is : (station_at (doubted p).stations p.turn).link ≡ (station_at p.stations p.turn).link
    link_is = doubted_link p.stations p.turn

    go : (b : Option ℕ) → Began p b → Began (doubted p) b
    go None state = tt
    go (Some station) (turn, state) =
        (turn, subst (λ (l : Link). Stays p.outstanding p.phase l) (sym link_is) state)

call_matches : (p : Primary) (began : Option ℕ) (call : Call) → Matches p began
    → Matches (called p call) (began_after p call began)
call_matches p began (runs.Next now may_poll waiting) matches =
    asked_matches p began now may_poll waiting matches
call_matches p began (Octets octets) matches =
    octets_match (front_of p.settings.size) p octets began matches
call_matches p began (Due now) matches = due_matches p now began matches
call_matches p began (GivesUp station) matches = give_up_matches p station began matches
call_matches p began Doubts matches = doubt_matches p began matches

-- ---- what goes out behind it

-- No poll goes out without leave.
polls_wait : (acd : Bool) → may_go false (poll_by acd) ≡ true → ⊥
polls_wait true may = cc
polls_wait false may = cc

-- what a turn has first, if that may go
commands_wanted : (burst : ℕ) (may_poll fcb : Bool) (s : StationState) (command : Option (List ℕ))
    → may_go may_poll (first_service command s) ≡ true
    → (following : Phase) × (commands_from burst may_poll fcb s command
    ≡ wants (Counted fcb (first_service command s)) following)
commands_wanted burst true fcb s None may = first_poll burst fcb s
commands_wanted burst false fcb s None may = absurd (polls_wait s.acd may)
commands_wanted burst may_poll fcb s (Some asdu) may = go s.dfc may_poll may
  where
    go : (b leave : Bool) → may_go leave (if b then poll_by s.acd else Command asdu) ≡ true
        → (following : Phase)
        × ((if b then polls_from burst leave fcb s Polling else wanted_command fcb asdu)
        ≡ wants (Counted fcb (if b then poll_by s.acd else Command asdu)) following)
    go true true given = first_poll burst fcb s
    go true false given = absurd (polls_wait s.acd given)
    go false leave given = (Polling, refl)

first_wanted : (burst : ℕ) (may_poll again : Bool) (s : StationState) (command : Option (List ℕ))
    (link : Link) → is_answered link ≡ true → may_go may_poll (first_service command s) ≡ true
    → (fcb : Bool) × (following : Phase) × (wanted_by burst may_poll again s command link Commanding
    ≡ wants (Counted fcb (first_service command s)) following)
first_wanted burst may_poll again s command (Next fcb) up may =
    let first = commands_wanted burst may_poll fcb s command may in (fcb, first.0, first.1)
first_wanted burst may_poll again s command Down up may = let no : ⊥ = cc in absurd no
first_wanted burst may_poll again s command Available up may = let no : ⊥ = cc in absurd no
first_wanted burst may_poll again s command (Held fcb service missed) up may =
    let no : ⊥ = cc in absurd no

goes_behind : (p : Primary) (began : Option ℕ) (call : Call) → Matches p began
    → TurnIsNext p began call
goes_behind p (Some station) (runs.Next now may_poll waiting)
    (has, (turn, waits o awaited service phase)) =
    λ out is may. absurd (none_out p.outstanding o out awaited)
goes_behind p (Some station) (runs.Next now may_poll waiting)
    (has, (turn, probes o awaited asks held)) =
    λ out is may. absurd (none_out p.outstanding o out awaited)
goes_behind p (Some station) (runs.Next now may_poll waiting) (has, (turn, ended free phase)) =
    λ out is may.
    let up : is_answered (station_at p.stations p.turn).link ≡ true =
    subst (λ (i : ℕ). is_answered (station_at p.stations i).link ≡ true) (sym turn) is in
    let first = first_wanted p.settings.burst may_poll p.again (station_at p.stations p.turn)
    (waiting p.turn) (station_at p.stations p.turn).link up
    (subst (λ (i : ℕ). may_go may_poll (first_of_turn p waiting i) ≡ true) (sym turn) may) in
    subst (λ (i : ℕ). IsSent p may_poll waiting i (first_of_turn p waiting i)) turn (
      first.0,
      turn_sends p may_poll waiting (Counted first.0 (first_of_turn p waiting p.turn)) first.1 out
          (ap (λ (f : Phase). wanted_by p.settings.burst may_poll p.again
          (station_at p.stations p.turn) (waiting p.turn) (station_at p.stations p.turn).link f)
          (phase up) ∙ first.2),
    )
goes_behind p (Some station) (Octets octets) matches = tt
goes_behind p (Some station) (Due now) matches = tt
goes_behind p (Some station) (GivesUp other) matches = tt
goes_behind p (Some station) Doubts matches = tt
goes_behind p None call matches = tt

pub go_behind : (p : Primary) (began : Option ℕ) (calls : List Call) → Matches p began
    → TurnsGoOn p began calls
go_behind p began [] matches = tt
go_behind p began (call ∷ calls) matches = (
  goes_behind p began call matches,
  go_behind (called p call) (began_after p call began) calls (call_matches p began call matches),
)

-- If nothing is to be sent again at once, no turn has begun with a held service.
pub none_again : (p : Primary) → p.again ≡ false → Matches p None
none_again p not_again = ((λ again. absurd (not_both p.again again not_again)), tt)

pub all_go_on : (settings : LinkSettings) (addresses : List ℕ) (calls : List Call)
    → TurnsGoOn (start settings addresses) None calls
all_go_on settings addresses calls =
    go_behind (start settings addresses) None calls (none_again (start settings addresses) refl)
