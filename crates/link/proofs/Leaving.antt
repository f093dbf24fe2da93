-- Polls wait for leave: no call begins one, but `next` with leave.
use Rattle.std.specs.Prelude.{◌==◌, ◌||◌}
use Rattle.std.proofs.Common.{◌≡◌, ℕ, suc, ◌<◌, ◌≤◌, ◌⊎◌, ◌&&◌, ◌%◌, nat_lt, Bool, true}
use Rattle.std.proofs.Common.{false, not, List, ◌++◌, length, slice_set}
use Rattle.std.proofs.Common.{Option, Some, None, refl, sym, ap, ◌∙◌, inl, inr}
use Rattle.std.proofs.Common.{if◌then◌else◌}
use Rattle.std.proofs.lemmas.Bool.{cases_lt}
use Rattle.std.proofs.lemmas.List.{get_or-set_same, get_or_past, set_past}
use Rattle.ft12.specs.declared.frame.Front.{Front}
use Rattle.link.specs.Answers.{Frame, Single, Fixed, Data, Class1, Class2, Command, Asked}
use Rattle.link.specs.Answers.{Status, Reset, Counted, Answer, Ready, Confirmed, Busy, Report}
use Rattle.link.specs.Answers.{NoData, Unable, unable_answer, code_answer, single_answer}
use Rattle.link.specs.Answers.{data_answer, comes_from, answer_of}
use Rattle.link.specs.Exchanges.{Sending, whole_of}
use Rattle.link.specs.Procedure.{LinkSettings, Link, Down, Available, Next, Held, missed_so_far}
use Rattle.link.specs.Procedure.{after_silence, has_repeats}
use Rattle.link.specs.Turns.{StationState, Phase, Starting, Commanding, Polling, Class1Polling}
use Rattle.link.specs.Turns.{Over, no_station, station_at, is_poll, wants, polls_from}
use Rattle.link.specs.Turns.{wanted_command, commands_from, next_of, wanted_by, Wanted, Chosen}
use Rattle.link.specs.Primary.{Outstanding, Primary, choice, after_choice, asked_from, asked}
use Rattle.link.specs.Primary.{sending_by, sending_from, sending}
use Rattle.link.specs.Primary.{answer_at, said_by, open_octets, took, with_octets, received_after}
use Rattle.link.specs.Primary.{received_from, received, outcome_by, outcome_of, outcome_at}
use Rattle.link.specs.Primary.{outcome_after, outcome_from, received_outcome, station_unanswered}
use Rattle.link.specs.Primary.{unanswered, is_late, due_from, timed_out, Outcome, turn_gap, started}
use Rattle.link.specs.Primary.{with_gap}
use Rattle.link.specs.declared.outcome.Outcome.TheVariants as outcome
use Rattle.link.specs.Leave.{is_poll_request, holds_poll, is_polling_by, is_polling, is_report}
use Rattle.link.proofs.Turning.{present, goes_on, passes_on}
use Rattle.link.specs.Turns.{CommandsWaiting}
use Rattle.link.specs.Turns.{is_doubted}
use Rattle.link.specs.Procedure.{probed_so_far, is_kept, spent_silence, short_silence}

-- ---- what is wanted without leave

-- a request that is wanted is a poll if it is one
poll_is : (r : Asked) (following : Phase) (w : Wanted) → wants r following ≡ Some w
    → is_poll_request w.request ≡ is_poll_request r
poll_is r following w is = (let same : record { request = r; following = following } ≡ w = cc in
    ap (λ (v : Wanted). is_poll_request v.request) (sym same))

no_poll : (w : Wanted) → is_poll_request w.request ≡ false → is_poll_request w.request ≡ true → ⊥
no_poll w e poll = (let both : false ≡ true = sym e ∙ poll in cc)

no_command_poll : (burst : ℕ) (fcb : Bool) (s : StationState) (command : Option (List ℕ))
    (w : Wanted)
    → commands_from burst false fcb s command ≡ Some w →
    is_poll_request w.request ≡ true → ⊥
no_command_poll burst fcb s None w is poll = cc
no_command_poll burst fcb s (Some asdu) w is poll = go s.dfc is
  where
    go : (b : Bool) → (if b then polls_from burst false fcb s Polling else wanted_command fcb asdu)
        ≡ Some w → ⊥
    go true e = cc
    go false e = no_poll w (poll_is (Counted fcb (Command asdu)) _ w e) poll

no_next_poll : (burst : ℕ) (fcb : Bool) (s : StationState) (command : Option (List ℕ))
    (phase : Phase) (w : Wanted)
    → next_of burst false fcb s command phase ≡ Some w →
    is_poll_request w.request ≡ true → ⊥
no_next_poll burst fcb s command Starting w is poll = no_command_poll burst fcb s command w is poll
no_next_poll burst fcb s command Commanding w is poll =
    no_command_poll burst fcb s command w is poll
no_next_poll burst fcb s command Polling w is poll = cc
no_next_poll burst fcb s command (Class1Polling sent) w is poll = cc
no_next_poll burst fcb s command Over w is poll = cc

-- Only an unanswered poll is wanted, and only at once.
pub repeated : (burst : ℕ) (again : Bool) (s : StationState) (command : Option (List ℕ))
    (link : Link) (phase : Phase)
    (w : Wanted)
    → wanted_by burst false again s command link phase ≡ Some w →
    is_poll_request w.request ≡ true → (again && holds_poll link) ≡ true
repeated burst again s command Down Starting w is poll =
    absurd (no_poll w (poll_is Status Starting w is) poll)
repeated burst again s command Down Commanding w is poll = cc
repeated burst again s command Down Polling w is poll = cc
repeated burst again s command Down (Class1Polling sent) w is poll = cc
repeated burst again s command Down Over w is poll = cc
repeated burst again s command Available Starting w is poll =
    absurd (no_poll w (poll_is Reset Over w is) poll)
repeated burst again s command Available Commanding w is poll = cc
repeated burst again s command Available Polling w is poll = cc
repeated burst again s command Available (Class1Polling sent) w is poll = cc
repeated burst again s command Available Over w is poll = cc
repeated burst again s command (Next fcb) phase w is poll =
    absurd (no_next_poll burst fcb s command phase w is poll)
repeated burst again s command (Held fcb service missed) Starting w is poll =
    go (is_doubted s missed) (is_poll service) refl is
  where
    go : (doubted b : Bool) → is_poll service ≡ b
        → (if doubted then wants Status Over
        else if false || not b then wants (Counted fcb service) Commanding else None)
        ≡ Some w →
        (again && is_poll service) ≡ true
    go true b e asks = absurd (no_poll w (poll_is Status Over w asks) poll)
    go false true e none = cc
    go false false e some =
        absurd (no_poll w (poll_is (Counted fcb service) Commanding w some ∙ e) poll)
repeated burst true s command (Held fcb service missed) Commanding w is poll =
    sym (poll_is (Counted fcb service) Commanding w is) ∙ poll
repeated burst true s command (Held fcb service missed) Polling w is poll =
    sym (poll_is (Counted fcb service) Polling w is)
    ∙ poll
repeated burst true s command (Held fcb service missed) (Class1Polling sent) w is poll =
    sym (poll_is (Counted fcb service) (Class1Polling sent) w is) ∙ poll
repeated burst true s command (Held fcb service missed) Over w is poll =
    sym (poll_is (Counted fcb service) Over w is) ∙ poll
repeated burst false s command (Held fcb service missed) Commanding w is poll = cc
repeated burst false s command (Held fcb service missed) Polling w is poll = cc
repeated burst false s command (Held fcb service missed) (Class1Polling sent) w is poll = cc
repeated burst false s command (Held fcb service missed) Over w is poll = cc

-- ---- `next`

without_free : (p : Primary) (waiting : CommandsWaiting) (s : Sending) → p.outstanding ≡ None
    → sending p false waiting ≡ Some s
    → is_poll_request s.request ≡ true → is_polling p ≡ true
without_free p waiting s free sent poll = ap (λ (o : Option Outstanding). is_polling_by p o) free
    ∙ go (present p false waiting) refl
  where
    go : (v : Option Wanted) → present p false waiting ≡ v
        → (p.again && holds_poll (station_at p.stations p.turn).link) ≡ true
    go (Some w) is =
        let there = goes_on p false waiting w free is in
        let same : record { station = p.turn; request = w.request } ≡ s = cc in
        repeated p.settings.burst p.again (station_at p.stations p.turn) (waiting p.turn)
        (station_at p.stations p.turn).link p.phase w is
        (ap (λ (z : Sending). is_poll_request z.request) same ∙ poll)
    go None is =
        let b = passes_on p false waiting s free is sent in
        let none : (false && holds_poll (station_at p.stations s.station).link) ≡ true =
        repeated p.settings.burst false (station_at p.stations s.station) (waiting s.station)
        (station_at p.stations s.station).link Starting b.wanted b.first
        (ap is_poll_request (sym b.request) ∙ poll) in
        cc

pub without : (p : Primary) (waiting : CommandsWaiting) (s : Sending) → sending p false waiting
    ≡ Some s → is_poll_request s.request
    ≡ true
    → is_polling p ≡ true
without p waiting s sent poll = go p.outstanding refl sent
  where
    go : (o : Option Outstanding) → p.outstanding ≡ o → sending_from p o false waiting ≡ Some s
        → is_polling p ≡ true
    go (Some x) e none = cc
    go None e some = without_free p waiting s e sent poll

asked_without : (p : Primary) (now : ℕ) (waiting : CommandsWaiting)
    → is_polling (asked p now false waiting) ≡ true → is_polling p
    ≡ true
asked_without p now waiting poll = go p.outstanding refl poll
  where
    by : p.outstanding ≡ None → (c : Option Chosen) → choice p false waiting ≡ c
        → is_polling (after_choice p now c) ≡ true
        → is_polling p ≡ true
    by free None is h =
        let none : false ≡ true =
        ap (λ (o : Option Outstanding). is_polling_by (record p { phase = Over; again = false }) o)
        (sym free)
        ∙ h in cc
    by free (Some c) is h =
        without_free p waiting (record { station = c.station; request = c.wanted.request }) free
        (ap (λ (o : Option Outstanding). sending_from p o false waiting) free ∙ ap sending_by is) h

    go : (o : Option Outstanding) → p.outstanding ≡ o
        → is_polling (asked_from p o now false waiting) ≡ true
        → is_polling p ≡ true
    go (Some x) e h = h
    go None e h = by e (choice p false waiting) refl h

pub next : (p : Primary) (now : ℕ) (may_poll : Bool) (waiting : CommandsWaiting)
    → is_polling (asked p now may_poll waiting) ≡ true
    → (is_polling p ≡ true) ⊎ (may_poll ≡ true)
next p now true waiting poll = inr refl
next p now false waiting poll = inl (asked_without p now waiting poll)

-- ---- `octets` and `due`

-- the station whose turn it is holds no poll
pub set_none : (f : StationState → Bool) (stations : List StationState) (k : ℕ) (s : StationState)
    → f s ≡ false
    → f no_station ≡ false →
    f (station_at (slice_set stations k s) k) ≡ false
set_none f stations k s is none = go (cases_lt k (length stations))
  where
    go : (k < length stations) ⊎ (length stations ≤ k) → f (station_at (slice_set stations k s) k)
        ≡ false
    go (inl within) = ap f (get_or-set_same stations k s no_station within) ∙ is
    go (inr past) = ap (λ (l : List StationState). f (station_at l k)) (set_past stations k s past)
        ∙ ap f (get_or_past stations k no_station past) ∙ none

and_so : (a b : Bool) → (a ≡ true → b ≡ false) → (a && b) ≡ false
and_so true b e = e refl
and_so false b e = refl

pub octets : (front : List ℕ → Front) (p : Primary) (octets : List ℕ)
    → is_polling (received front p octets) ≡ true
    → is_polling p ≡ true
octets front p came poll = go p.outstanding refl poll
  where
    back : (o : Outstanding) → p.outstanding ≡ Some o → is_poll_request o.request ≡ true
        → is_polling p ≡ true
    back o e h = ap (λ (x : Option Outstanding). is_polling_by p x) e ∙ h

    said : (o : Outstanding) → p.outstanding ≡ Some o → (frame : Frame) (m : Option Answer)
        → answer_at p o frame ≡ m
        → is_polling (said_by p (with_octets came o) frame m) ≡ true →
        is_polling p ≡ true
    said o e frame None is h = back o e h
    said o e frame (Some answer) is h =
        let both : false ≡ true = h in cc

    is_taken : (o : Outstanding) → p.outstanding ≡ Some o
        → (so_far : Option (List ℕ)) (m : Option Frame)
        → is_polling (took p (with_octets came o) so_far m) ≡ true → is_polling p ≡ true
    is_taken o e so_far None h = back o e h
    is_taken o e so_far (Some frame) h = said o e frame (answer_at p o frame) refl h

    arrived : (o : Outstanding) → p.outstanding ≡ Some o → (before : Option (List ℕ))
        → is_polling (received_after front p (with_octets came o) before came) ≡ true → is_polling p
        ≡ true
    arrived o e None h = back o e h
    arrived o e (Some before) h =
        is_taken o e (open_octets (before ++ came) (front (before ++ came)))
        (whole_of (front (before ++ came))) h

    go : (o : Option Outstanding) → p.outstanding ≡ o → is_polling (received_from front p o came)
        ≡ true
        → is_polling p ≡ true
    go None e h = h
    go (Some o) e h = arrived o e o.arrived h

-- after silence a poll is to be sent again only if it was sent
silent : (settings : LinkSettings) (request : Asked) (link : Link) → is_poll_request request ≡ false
    → has_repeats settings (after_silence settings request true link) ≡ true
    → holds_poll (after_silence settings request true link) ≡ false
silent settings Status Down e has = refl
silent settings Status Available e has = refl
silent settings Status (Next fcb) e has = refl
silent settings Status (Held fcb service silence) e has = cc
silent settings Reset link e has = refl
silent settings (Counted fcb service) link e has =
    go (nat_lt settings.retries (suc (missed_so_far link)))
    (is_kept settings (probed_so_far link))
  where
    go : (b hold : Bool)
        → holds_poll (if b then (if hold then Held fcb service
        (spent_silence settings (probed_so_far link)) else Down)
        else Held fcb service
        (short_silence (suc (missed_so_far link)) (probed_so_far link))) ≡ false
    go true true = e
    go true false = refl
    go false hold = e

pub due : (p : Primary) (at : ℕ) → is_polling (timed_out p at) ≡ true → is_polling p ≡ true
due p at poll = go p.outstanding refl poll
  where
    by : (o : Outstanding) → p.outstanding ≡ Some o → is_polling (unanswered p o) ≡ true
        → (b : Bool)
        → is_poll_request o.request ≡ b → is_polling p ≡ true
    by o e h true is = ap (λ (x : Option Outstanding). is_polling_by p x) e ∙ is
    by o e h false is =
        let s = station_unanswered p.settings (station_at p.stations p.turn) o.request in
        let none : is_polling (unanswered p o) ≡ false =
        and_so (has_repeats p.settings s.link) _ (λ has. set_none
        (λ (t : StationState). holds_poll t.link) p.stations p.turn s
        (silent p.settings o.request (station_at p.stations p.turn).link is has) refl) in
        let both : false ≡ true = sym none ∙ h in cc

    late : (o : Outstanding) → p.outstanding ≡ Some o → (b : Bool)
        → is_polling (if b then unanswered p o else p) ≡ true → is_polling p ≡ true
    late o e true h = by o e h (is_poll_request o.request) refl
    late o e false h = h

    go : (o : Option Outstanding) → p.outstanding ≡ o → is_polling (due_from p o at) ≡ true
        → is_polling p ≡ true
    go None e h = h
    go (Some o) e h = late o e (is_late p o at) h

-- ---- reports

unable_report : (code : ℕ) (asdu : List ℕ) → unable_answer code ≡ Some (Report asdu) → ⊥
unable_report code asdu e = go ((code == 14) || (code == 15)) e
  where
    go : (b : Bool) → (if b then Some Unable else None) ≡ Some (Report asdu) → ⊥
    go true h = cc
    go false h = cc

one_report : (b : Bool) (answer : Answer) (code : ℕ) (asdu : List ℕ) → (answer ≡ Report asdu → ⊥)
    → (if b then Some answer else unable_answer code) ≡ Some (Report asdu) → ⊥
one_report true answer code asdu other e = (let same : answer ≡ Report asdu = cc in other same)
one_report false answer code asdu other e = unable_report code asdu e

code_report : (request : Asked) (code : ℕ) (asdu : List ℕ) → code_answer request code
    ≡ Some (Report asdu) → ⊥
code_report Status code asdu e = one_report (code == 11) Ready code asdu (λ h. cc) e
code_report Reset code asdu e = go (code == 0) e
  where
    go : (b : Bool) → (if b then Some Confirmed else None) ≡ Some (Report asdu) → ⊥
    go true h = cc
    go false h = cc
code_report (Counted fcb Class1) code asdu e = one_report (code == 9) NoData code asdu (λ h. cc) e
code_report (Counted fcb Class2) code asdu e = one_report (code == 9) NoData code asdu (λ h. cc) e
code_report (Counted fcb (Command body)) code asdu e = go (code == 0) e
  where
    go : (b : Bool) → (if b then Some Confirmed else if code == 1 then Some Busy
        else unable_answer code)
        ≡ Some (Report asdu) → ⊥
    go true h = cc
    go false h = one_report (code == 1) Busy code asdu (λ g. cc) h

data_report : (request : Asked) (body asdu : List ℕ) → data_answer request body ≡ Some (Report asdu)
    → is_poll_request request ≡ true
data_report Status body asdu e = cc
data_report Reset body asdu e = cc
data_report (Counted fcb Class1) body asdu e = refl
data_report (Counted fcb Class2) body asdu e = refl
data_report (Counted fcb (Command other)) body asdu e = cc

single_report : (request : Asked) (asdu : List ℕ) → single_answer request ≡ Some (Report asdu) → ⊥
single_report Status asdu e = cc
single_report Reset asdu e = cc
single_report (Counted fcb Class1) asdu e = cc
single_report (Counted fcb Class2) asdu e = cc
single_report (Counted fcb (Command other)) asdu e = cc

-- only a poll is answered by a report
polled : (address : ℕ) (request : Asked) (frame : Frame) (asdu : List ℕ)
    → answer_of address request frame ≡ Some (Report asdu) → is_poll_request request ≡ true
polled address request Single asdu e = absurd (single_report request asdu e)
polled address request (Fixed control a) asdu e = go (comes_from address control a) e
  where
    go : (b : Bool) → (if b then code_answer request (control % 16) else None) ≡ Some (Report asdu)
        → is_poll_request request ≡ true
    go true h = absurd (code_report request (control % 16) asdu h)
    go false h = cc
polled address request (Data control a body) asdu e =
    go (comes_from address control a && (control % 16 == 8)) e
  where
    go : (b : Bool) → (if b then data_answer request body.items else None) ≡ Some (Report asdu)
        → is_poll_request request ≡ true
    go true h = data_report request body.items asdu h
    go false h = cc

-- the answer of an outcome that is a report
reported : (station : ℕ) (request : Asked) (answer : Answer)
    → is_report (outcome_by station request answer) ≡ true
    → (asdu : List ℕ) × (answer ≡ Report asdu)
reported station request (Report asdu) h = (asdu, refl)
reported station Status Ready h = cc
reported station Status Confirmed h = cc
reported station Status Busy h = cc
reported station Status NoData h = cc
reported station Status Unable h = cc
reported station Reset Ready h = cc
reported station Reset Confirmed h = cc
reported station Reset Busy h = cc
reported station Reset NoData h = cc
reported station Reset Unable h = cc
reported station (Counted fcb service) Ready h = cc
reported station (Counted fcb service) Confirmed h = cc
reported station (Counted fcb service) Busy h = cc
reported station (Counted fcb service) NoData h = cc
reported station (Counted fcb service) Unable h = cc

started_no : (station : ℕ) (gap : Option ℕ) → is_report (started station gap) ≡ false
started_no station None = refl
started_no station (Some session) = refl

-- A gap is no report.
gap_no : (gap : Option ℕ) (outcome_for : Outcome) → is_report (with_gap gap outcome_for)
    ≡ is_report outcome_for
gap_no gap (outcome.Started station) = started_no station gap
gap_no gap (outcome.StartedGap station session) = refl
gap_no gap outcome.None = refl
gap_no gap (outcome.Report station asdu) = refl
gap_no gap (outcome.Empty station) = refl
gap_no gap (outcome.Accepted station) = refl
gap_no gap (outcome.Busy station) = refl
gap_no gap (outcome.Down station) = refl

pub report : (front : List ℕ → Front) (p : Primary) (octets : List ℕ)
    → is_report (received_outcome front p octets) ≡ true →
    (is_polling p ≡ true) × (is_polling (received front p octets) ≡ false)
report front p octets is = go p.outstanding refl is
  where
    said : (o : Outstanding) → p.outstanding ≡ Some o → (frame : Frame) (m : Option Answer)
        → answer_at p o frame ≡ m
        → is_report (outcome_of p.turn o.request m) ≡ true →
        (is_polling p ≡ true) × (is_polling (said_by p (with_octets octets o) frame m) ≡ false)
    said o e frame None answers h = cc
    said o e frame (Some answer) answers h =
        let r = reported p.turn o.request answer h in
        let poll : is_poll_request o.request ≡ true = polled (station_at p.stations p.turn).address
        o.request frame r.0
        (answers ∙ ap (λ (a : Answer). Some a) r.1) in (
          ap (λ (x : Option Outstanding). is_polling_by p x) e ∙ poll,
          refl,
        )

    is_taken : (o : Outstanding) → p.outstanding ≡ Some o
        → (so_far : Option (List ℕ)) (m : Option Frame)
        → is_report (outcome_at p o m) ≡ true →
        (is_polling p ≡ true) × (is_polling (took p (with_octets octets o) so_far m) ≡ false)
    is_taken o e so_far None h = cc
    is_taken o e so_far (Some frame) h =
        said o e frame (answer_at p o frame) refl (sym
        (gap_no (turn_gap p) (outcome_of p.turn o.request (answer_at p o frame))) ∙ h)

    arrived : (o : Outstanding) → p.outstanding ≡ Some o → (before : Option (List ℕ))
        → is_report (outcome_after front p o before octets) ≡ true →
        (is_polling p ≡ true)
        × (is_polling (received_after front p (with_octets octets o) before octets) ≡ false)
    arrived o e None h = cc
    arrived o e (Some before) h =
        is_taken o e (open_octets (before ++ octets) (front (before ++ octets)))
        (whole_of (front (before ++ octets))) h

    go : (o : Option Outstanding) → p.outstanding ≡ o → is_report (outcome_from front p o octets)
        ≡ true →
        (is_polling p ≡ true) × (is_polling (received_from front p o octets) ≡ false)
    go None e h = cc
    go (Some o) e h = arrived o e o.arrived h
