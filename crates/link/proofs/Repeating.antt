-- What goes out at once: repeats.
use Rattle.std.specs.Prelude.{◌==◌}
use Rattle.std.proofs.Common.{◌≡◌, ℕ, suc, nat_lt, Bool, true, false, List, [], ◌∷◌, ◌++◌}
use Rattle.std.proofs.Common.{slice_set, Option, Some, None, refl, sym, ap, subst, ◌∙◌}
use Rattle.std.proofs.Common.{if◌then◌else◌}
use Rattle.std.proofs.lemmas.Bool.{eqb-true, eqb-false}
use Rattle.std.proofs.lemmas.List.{get_or-set_other}
use Rattle.ft12.specs.declared.frame.Front.{Front}
use Rattle.ft12.specs.Fronts.{front_of}
use Rattle.link.specs.Answers.{Frame, Asked, Status, Reset, Counted, Answer, Ready, Confirmed, Busy}
use Rattle.link.specs.Answers.{Report, NoData, Unable}
use Rattle.link.specs.Exchanges.{Sending, whole_of}
use Rattle.link.specs.Procedure.{LinkSettings, Link, Down, Available, Next, Held, is_held}
use Rattle.link.specs.Procedure.{is_service, has_repeats, after_answer, after_silence}
use Rattle.link.specs.Procedure.{missed_so_far}
use Rattle.link.specs.Turns.{StationState, no_station, Phase, Starting, Commanding, Polling}
use Rattle.link.specs.Turns.{Class1Polling, Over, station_at, wants, wanted_by, wanted}
use Rattle.link.specs.Turns.{held_request}
use Rattle.link.specs.Primary.{Outstanding, Primary, start}
use Rattle.link.specs.Primary.{phase_after, answer_at, answered, station_answered, said_by}
use Rattle.link.specs.Primary.{open_octets, took, with_octets, received_after, received_from}
use Rattle.link.specs.Primary.{received, station_unanswered, unanswered, is_late, due_from}
use Rattle.link.specs.Primary.{timed_out}
use Rattle.link.specs.Carried.{station_given_up, given_up}
use Rattle.link.specs.Runs.{Call, Octets, Due, GivesUp, called}
use Rattle.link.specs.Runs as runs
use Rattle.link.specs.Bursts.{is_answered}
use Rattle.link.specs.AtOnce.{latest_after, RepeatIsNext, RepeatsComeAtOnce}
use Rattle.link.proofs.Leaving.{set_none}
use Rattle.link.proofs.Bursting.{not_both, silent_down, no_repeats, held_is, turn_sends}
use Rattle.link.proofs.Following.{Follows, begun, State, waits, ended, Matches, none_out}
use Rattle.link.proofs.Following.{asked_matches}
use Rattle.link.specs.Runs.{Doubts}
use Rattle.link.specs.Carried.{doubted}
use Rattle.link.proofs.Doubting.{doubted_link}
use Rattle.link.specs.Procedure.{probed_so_far, is_kept, spent_silence, short_silence}

-- ---- an answer

answered_not_held : (request : Asked) (answer : Answer) (link : Link)
    → is_service request ≡ true → is_held (after_answer request answer link) ≡ false
answered_not_held (Counted fcb service) Unable link asks = refl
answered_not_held (Counted fcb service) Ready link asks = refl
answered_not_held (Counted fcb service) Confirmed link asks = refl
answered_not_held (Counted fcb service) Busy link asks = refl
answered_not_held (Counted fcb service) (Report asdu) link asks = refl
answered_not_held (Counted fcb service) NoData link asks = refl
answered_not_held Status answer link asks = cc
answered_not_held Reset answer link asks = cc

-- the phase behind an answer, if the link is up
goes_on_behind : (request : Asked) (answer : Answer) (phase : Phase) (link link' : Link)
    → (is_answered (after_answer request answer link) ≡ false → is_answered link' ≡ false)
    → Follows request phase → is_answered link' ≡ true → Follows request (phase_after answer phase)
goes_on_behind request Ready phase link link' down follows up = follows
goes_on_behind request Confirmed phase link link' down follows up = follows
goes_on_behind request Busy phase link link' down follows up = follows
goes_on_behind request (Report asdu) phase link link' down follows up = follows
goes_on_behind request NoData phase link link' down follows up = follows
goes_on_behind Status Unable phase link link' down follows up = tt
goes_on_behind Reset Unable phase link link' down follows up = tt
goes_on_behind (Counted fcb service) Unable phase link link' down follows up =
    absurd (not_both (is_answered link') up (down refl))

answer_matches : (p : Primary) (latest : Option Sending) (o : Outstanding) (frame : Frame)
    (answer : Answer) → p.outstanding ≡ Some o → Matches p latest
    → Matches (answered p o.request frame answer) latest
answer_matches p None o frame answer e matches = absurd (none_out p.outstanding o matches.0 e)
answer_matches p (Some s) o frame answer e (turn, ended free more again_is go_on) =
    absurd (none_out p.outstanding o free e)
answer_matches p (Some s) o frame answer e (turn, waits x awaited same once follows) = (
  turn,
  ended refl (λ asks has. absurd (not_both (has_repeats p.settings link) has
      (no_repeats p.settings link (free_of asks))))
      (λ again. absurd (not_both false again refl))
      (goes_on_behind s.request answer p.phase (station_at p.stations p.turn).link link
      (λ down. set_none (λ (t : StationState). is_answered t.link) p.stations p.turn it
      (ap (λ (r : Asked). is_answered (after_answer r answer (station_at p.stations p.turn).link))
      asked_is ∙ down) refl)
      follows),
)
  where
    it : StationState
    it = station_answered (station_at p.stations p.turn) o.request frame answer

    link : Link
    link = (station_at (slice_set p.stations p.turn it) p.turn).link

    asked_is : o.request ≡ s.request
    asked_is = let one : Some x ≡ Some o = sym awaited ∙ e in
        let two : x ≡ o = cc in sym (ap (λ (y : Outstanding). y.request) two) ∙ same

    free_of : is_service s.request ≡ true → is_held link ≡ false
    free_of asks = set_none (λ (t : StationState). is_held t.link) p.stations p.turn it
        (answered_not_held o.request answer (station_at p.stations p.turn).link
        (ap is_service asked_is ∙ asks)) refl

-- The request that is out is the same.
waits_matches : (p p' : Primary) (latest : Option Sending) (o o' : Outstanding)
    → p.outstanding ≡ Some o
    → p'.turn ≡ p.turn → p'.phase ≡ p.phase → p'.again ≡ p.again → p'.stations ≡ p.stations
    → p'.outstanding ≡ Some o' → o'.request ≡ o.request → Matches p latest → Matches p' latest
waits_matches p p' None o o' e turn phase again stations out same matches =
    absurd (none_out p.outstanding o matches.0 e)
waits_matches p p' (Some s) o o' e turn phase again stations out same (
  at,
  ended free more again_is
      go_on,
) =
    absurd (none_out p.outstanding o free e)
waits_matches p p' (Some s) o o' e turn phase again stations out same (
  at,
  waits x awaited is once
      follows,
) = (
  turn ∙ at,
  waits o' out (same ∙ (let one : Some x ≡ Some o = sym awaited ∙ e in
      let two : x ≡ o = cc in sym (ap (λ (y : Outstanding). y.request) two) ∙ is))
      (again ∙ once) (subst (λ (f : Phase). Follows s.request f) (sym phase) follows),
)

octets_match : (front : List ℕ → Front) (p : Primary) (came : List ℕ) (latest : Option Sending)
    → Matches p latest → Matches (received front p came) latest
octets_match front p came latest matches = go p.outstanding refl
  where
    stays : (o : Outstanding) → p.outstanding ≡ Some o → (arrived : Option (List ℕ))
        → Matches (took p (with_octets came o) arrived None) latest
    stays o e arrived = waits_matches p (took p (with_octets came o) arrived None) latest o
        (record {
          request = o.request;
          since = o.since;
          arrived = arrived;
          has_octets = (with_octets came o).has_octets;
        }) e refl refl refl refl refl refl matches

    say : (o : Outstanding) → p.outstanding ≡ Some o → (frame : Frame) (m : Option Answer)
        → Matches (said_by p (with_octets came o) frame m) latest
    say o e frame None = stays o e None
    say o e frame (Some answer) = answer_matches p latest o frame answer e matches

    take_it : (o : Outstanding) → p.outstanding ≡ Some o
        → (arrived : Option (List ℕ)) (f : Option Frame)
        → Matches (took p (with_octets came o) arrived f) latest
    take_it o e arrived None = stays o e arrived
    take_it o e arrived (Some frame) = say o e frame (answer_at p (with_octets came o) frame)

    listen : (o : Outstanding) → p.outstanding ≡ Some o → (h : Option (List ℕ))
        → Matches (received_after front p (with_octets came o) h came) latest
    listen o e None = stays o e None
    listen o e (Some before) = take_it o e (open_octets (before ++ came) (front (before ++ came)))
        (whole_of (front (before ++ came)))

    go : (o : Option Outstanding) → p.outstanding ≡ o
        → Matches (received_from front p o came) latest
    go None e = matches
    go (Some o) e = listen o e o.arrived

-- ---- no answer in time

silence_holds : (settings : LinkSettings) (request : Asked) (link : Link)
    → has_repeats settings (after_silence settings request true link) ≡ true
    → request ≡ held_request (after_silence settings request true link)
silence_holds settings Status Down has = let no : ⊥ = cc in absurd no
silence_holds settings Status Available has = let no : ⊥ = cc in absurd no
silence_holds settings Status (Next fcb) has = let no : ⊥ = cc in absurd no
silence_holds settings Status (Held fcb service silence) has = let no : ⊥ = cc in absurd no
silence_holds settings Reset link has = let no : ⊥ = cc in absurd no
silence_holds settings (Counted fcb service) link has =
    go (nat_lt settings.retries (suc (missed_so_far link)))
    (is_kept settings (probed_so_far link)) has
  where
    go : (b hold : Bool)
        → has_repeats settings (if b then (if hold then Held fcb service
        (spent_silence settings (probed_so_far link)) else Down)
        else Held fcb service (short_silence (suc (missed_so_far link)) (probed_so_far link)))
        ≡ true
        → Counted fcb service
        ≡ held_request (if b then (if hold then Held fcb service
        (spent_silence settings (probed_so_far link)) else Down)
        else Held fcb service (short_silence (suc (missed_so_far link)) (probed_so_far link)))
    go true true e = refl
    go true false e = let no : ⊥ = cc in absurd no
    go false hold e = refl

missed_matches : (p : Primary) (latest : Option Sending) (o : Outstanding) → p.outstanding ≡ Some o
    → Matches p latest → Matches (unanswered p o) latest
missed_matches p None o e matches = absurd (none_out p.outstanding o matches.0 e)
missed_matches p (Some s) o e (turn, ended free more again_is go_on) =
    absurd (none_out p.outstanding o free e)
missed_matches p (Some s) o e (turn, waits x awaited same once follows) =
    (turn, ended refl sends repeats answers)
  where
    it : StationState
    it = station_unanswered p.settings (station_at p.stations p.turn) o.request

    link : Link
    link = (station_at (slice_set p.stations p.turn it) p.turn).link

    asked_is : o.request ≡ s.request
    asked_is = let one : Some x ≡ Some o = sym awaited ∙ e in
        let two : x ≡ o = cc in sym (ap (λ (y : Outstanding). y.request) two) ∙ same

    sends : is_service s.request ≡ true → has_repeats p.settings link ≡ true
        → has_repeats p.settings it.link ≡ true
    sends asks has = go (has_repeats p.settings it.link) refl
      where
        go : (b : Bool) → has_repeats p.settings it.link ≡ b
            → has_repeats p.settings it.link ≡ true
        go true e = e
        go false e = absurd (not_both (has_repeats p.settings link) has
            (set_none (λ (t : StationState). has_repeats p.settings t.link) p.stations p.turn it e
            refl))

    repeats : has_repeats p.settings it.link ≡ true → is_held link ≡ true
        → Follows s.request (if has_repeats p.settings it.link then p.phase else Over)
        × (s.request ≡ held_request link)
    repeats has held =
        let is : link ≡ it.link = held_is p.stations p.turn it held in (
          subst (λ (b : Bool). Follows s.request (if b then p.phase else Over)) (sym has) follows,
          sym asked_is
              ∙ silence_holds p.settings o.request (station_at p.stations p.turn).link has
              ∙ ap held_request (sym is),
        )

    answers : is_answered link ≡ true
        → Follows s.request (if has_repeats p.settings it.link then p.phase else Over)
    answers up = absurd (not_both (is_answered link) up
        (set_none (λ (t : StationState). is_answered t.link) p.stations p.turn it
        (silent_down p.settings o.request (station_at p.stations p.turn).link) refl))

due_matches : (p : Primary) (at : ℕ) (latest : Option Sending) → Matches p latest
    → Matches (timed_out p at) latest
due_matches p at latest matches = go p.outstanding refl
  where
    late : (o : Outstanding) → p.outstanding ≡ Some o → (b : Bool)
        → Matches (if b then unanswered p o else p) latest
    late o e true = missed_matches p latest o e matches
    late o e false = matches

    go : (o : Option Outstanding) → p.outstanding ≡ o → Matches (due_from p o at) latest
    go None e = matches
    go (Some o) e = late o e (is_late p o at)

-- ---- the other calls

-- If the link of the station is given up, its request is over.
give_up_matches : (p : Primary) (k : ℕ) (latest : Option Sending) → Matches p latest
    → Matches (given_up k p) latest
give_up_matches p k None matches = (go (p.turn == k), off (p.turn == k))
  where
    go : (b : Bool) → (if b then None else p.outstanding) ≡ None
    go true = refl
    go false = matches.0

    off : (b : Bool) → (if b then false else p.again) ≡ false
    off true = refl
    off false = matches.1
give_up_matches p k (Some s) (turn, state) = (turn, go (p.turn == k) refl)
  where
    it : StationState
    it = station_given_up (station_at p.stations k)

    link : Link
    link = (station_at (slice_set p.stations k it) p.turn).link

    none : (f : Link → Bool) → f Down ≡ false → (p.turn == k) ≡ true → f link ≡ true → ⊥
    none f down e is = not_both (f link) is
        (subst (λ (i : ℕ). f (station_at (slice_set p.stations k it) i).link ≡ false)
        (sym (eqb-true p.turn k e))
        (set_none (λ (t : StationState). f t.link) p.stations k it down down))

    go : (b : Bool) → (p.turn == k) ≡ b
        → State p.settings (if b then None else p.outstanding) (if b then false else p.again)
        (if b then Over else p.phase) link s.request
    go true e = ended refl (λ asks has. absurd (none (has_repeats p.settings) refl e has))
        (λ again. absurd (not_both false again refl))
        (λ up. absurd (none is_answered refl e up))
    go false e =
        subst (λ (l : Link). State p.settings p.outstanding p.again p.phase l s.request)
        (sym (ap (λ (t : StationState). t.link)
        (get_or-set_other p.stations k p.turn it no_station (eqb-false p.turn k e)))) state

-- Whether a station was restarted changes no link.
doubt_matches : (p : Primary) (latest : Option Sending) → Matches p latest
    → Matches (doubted p) latest
doubt_matches p None matches = matches
doubt_matches p (Some s) (turn, state) = (
  turn,
  subst (λ (l : Link). State p.settings p.outstanding p.again p.phase l s.request)
      (sym (doubted_link p.stations p.turn)) state,
)

pub call_matches : (p : Primary) (latest : Option Sending) (call : Call) → Matches p latest
    → Matches (called p call) (latest_after p call latest)
call_matches p latest (runs.Next now may_poll waiting) matches =
    asked_matches p latest now may_poll waiting matches
call_matches p latest (Octets octets) matches =
    octets_match (front_of p.settings.size) p octets latest matches
call_matches p latest (Due now) matches = due_matches p now latest matches
call_matches p latest (GivesUp station) matches = give_up_matches p station latest matches
call_matches p latest Doubts matches = doubt_matches p latest matches

-- ---- the repeat

held_by : (settings : LinkSettings) (link : Link) → has_repeats settings link ≡ true
    → is_held link ≡ true
held_by settings (Held fcb service missed) has = refl
held_by settings Down has = let no : ⊥ = cc in absurd no
held_by settings Available has = let no : ⊥ = cc in absurd no
held_by settings (Next fcb) has = let no : ⊥ = cc in absurd no

again_wanted : (burst : ℕ) (may_poll : Bool) (s : StationState) (command : Option (List ℕ))
    (link : Link) (phase : Phase)
    → is_held link ≡ true → Follows (held_request link) phase
    → wanted_by burst may_poll true s command link phase ≡ wants (held_request link) phase
again_wanted burst may_poll s command (Held fcb service missed) Starting held follows =
    absurd (begun fcb service Starting follows)
again_wanted burst may_poll s command (Held fcb service missed) Commanding held follows = refl
again_wanted burst may_poll s command (Held fcb service missed) Polling held follows = refl
again_wanted burst may_poll s command (Held fcb service missed) (Class1Polling sent) held follows =
    refl
again_wanted burst may_poll s command (Held fcb service missed) Over held follows = refl
again_wanted burst may_poll s command Down phase held follows = let no : ⊥ = cc in absurd no
again_wanted burst may_poll s command Available phase held follows = let no : ⊥ = cc in absurd no
again_wanted burst may_poll s command (Next fcb) phase held follows = let no : ⊥ = cc in absurd no

repeats : (p : Primary) (latest : Option Sending) (call : Call) → Matches p latest
    → RepeatIsNext p latest call
repeats p (Some s) (runs.Next now may_poll waiting) (turn, waits o awaited same once follows) =
    λ asks out has. absurd (none_out p.outstanding o out awaited)
repeats p (Some s) (runs.Next now may_poll waiting) (turn, ended free more again_is go_on) =
    λ asks out has.
    let has_here : has_repeats p.settings (station_at p.stations p.turn).link ≡ true =
    subst (λ (i : ℕ). has_repeats p.settings (station_at p.stations i).link ≡ true) (sym turn) has
    in
    let held = held_by p.settings (station_at p.stations p.turn).link has_here in
    let again = more asks has_here in
    let it = again_is again held in
    let is =
    ap (λ (b : Bool). wanted p.settings.burst may_poll b (station_at p.stations p.turn)
    (waiting p.turn)
    p.phase) again
    ∙ again_wanted p.settings.burst may_poll (station_at p.stations p.turn) (waiting p.turn)
    (station_at p.stations p.turn).link p.phase held
    (subst (λ (r : Asked). Follows r p.phase) it.1 it.0) in
    turn_sends p may_poll waiting (held_request (station_at p.stations p.turn).link) p.phase out is
    ∙ ap (λ (r : Asked). Some (record { station = p.turn; request = r })) (sym it.1)
    ∙ ap (λ (i : ℕ). Some (record { station = i; request = s.request })) turn
repeats p (Some s) (Octets octets) matches = tt
repeats p (Some s) (Due now) matches = tt
repeats p (Some s) (GivesUp station) matches = tt
repeats p (Some s) Doubts matches = tt
repeats p None call matches = tt

pub repeat_on : (p : Primary) (latest : Option Sending) (calls : List Call) → Matches p latest
    → RepeatsComeAtOnce p latest calls
repeat_on p latest [] matches = tt
repeat_on p latest (call ∷ calls) matches = (
  repeats p latest call matches,
  repeat_on (called p call) (latest_after p call latest) calls (call_matches p latest call matches),
)

pub all_repeat : (settings : LinkSettings) (addresses : List ℕ) (calls : List Call)
    → RepeatsComeAtOnce (start settings addresses) None calls
all_repeat settings addresses calls = repeat_on (start settings addresses) None calls (refl, refl)
