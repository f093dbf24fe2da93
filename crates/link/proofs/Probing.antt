-- A station that is up is asked for its status only behind a restart.
use Rattle.std.specs.Prelude.{◌==◌, is_none}
use Rattle.std.proofs.Common.{◌≡◌, ℕ, ◌&&◌, ◌||◌, not, Bool, true, false, List, [], ◌∷◌, ◌++◌}
use Rattle.std.proofs.Common.{Option}
use Rattle.std.proofs.Common.{Some, None, refl, sym, ap, subst, ◌∙◌, ◌⊎◌, inl, inr, slice_set}
use Rattle.std.proofs.Common.{zero, suc, if◌then◌else◌}
use Rattle.std.proofs.lemmas.Bool.{eqb-true}
use Rattle.ft12.specs.declared.frame.Front.{Front}
use Rattle.ft12.specs.Fronts.{front_of}
use Rattle.link.specs.Answers.{Service, Frame, Asked, Status, Counted, Answer}
use Rattle.link.specs.Exchanges.{Sending, whole_of}
use Rattle.link.specs.Procedure.{LinkSettings, Link, Down, Available, Next, Held, MaySend, is_up}
use Rattle.link.specs.Procedure.{is_spent, is_service}
use Rattle.link.specs.Turns.{StationState, Phase, Starting, Commanding, Polling, Class1Polling}
use Rattle.link.specs.Turns.{Over}
use Rattle.link.specs.Turns.{Wanted, wants, is_poll, wanted_by, Chosen, CommandsWaiting, station_at}
use Rattle.link.specs.Primary.{Primary, Outstanding, start, choice, sending_by, sending_from}
use Rattle.link.specs.Primary.{sending}
use Rattle.link.specs.Primary.{station_asked, station_answered, station_unanswered}
use Rattle.link.specs.Primary.{after_choice, asked_from, answered, answer_at, said_by, took}
use Rattle.link.specs.Primary.{open_octets, with_octets, received, received_after, received_from}
use Rattle.link.specs.Primary.{unanswered, is_late, due_from}
use Rattle.link.specs.Carried.{station_given_up}
use Rattle.link.specs.Runs.{Call, Octets, Due, GivesUp, Doubts, called}
use Rattle.link.specs.Runs as runs
use Rattle.link.specs.Doubts.{are_served, unsure_after, ProbesIfUnsure}
use Rattle.link.specs.Doubts.{StatusesFollowRestarts}
use Rattle.link.proofs.Links.{set_at}
use Rattle.link.proofs.Leaving.{set_none}
use Rattle.link.proofs.Bursting.{not_both}
use Rattle.link.proofs.TurnBegins.{may}
use Rattle.link.specs.Holding.{IsFitting}
use Rattle.link.specs.Answers.{Reset}
use Rattle.link.proofs.Choice.{MayWant, wanted_may}
use Rattle.link.proofs.Preceding.{IsChosen, here, there, is_chosen}

-- ---- what is asked

-- a held service is no status
no_status : (fcb : Bool) (service : Service) (w : Wanted) (b : Bool) → w.request ≡ Status
    → (if b then wants (Counted fcb service) Commanding else None) ≡ Some w → ⊥
no_status fcb service w false asks is = cc
no_status fcb service w true asks is =
    let same : record { request = Counted fcb service; following = Commanding } ≡ w = cc in
    let no : Counted fcb service ≡ Status = ap (λ (v : Wanted). v.request) same ∙ asks in cc

no_repeat : (fcb : Bool) (service : Service) (phase : Phase) (w : Wanted) → w.request ≡ Status
    → wants (Counted fcb service) phase ≡ Some w → ⊥
no_repeat fcb service phase w asks is =
    let same : record { request = Counted fcb service; following = phase } ≡ w = cc in
    let no : Counted fcb service ≡ Status = ap (λ (v : Wanted). v.request) same ∙ asks in cc

wanted_probes : (burst : ℕ) (may_poll again : Bool) (s : StationState) (command : Option (List ℕ))
    (link : Link) (phase : Phase) (w : Wanted)
    → wanted_by burst may_poll again s command link phase ≡ Some w → w.request ≡ Status
    → is_up link ≡ true → (s.unsure ≡ true) × (is_spent link ≡ true)
wanted_probes burst may_poll again s command Down phase w is asks up = cc
wanted_probes burst may_poll again s command Available phase w is asks up = cc
wanted_probes burst may_poll again s command (Next fcb) phase w is asks up =
    absurd (subst (λ (r : Asked). MaySend (Next fcb) r) asks
    (subst (λ (v : Option Wanted). MayWant (Next fcb) v) is
    (wanted_may burst may_poll again s command (Next fcb) phase)))
wanted_probes burst may_poll again s command (Held fcb service silence) Starting w is asks up =
    go s.unsure silence.spent refl refl (may_poll || not (is_poll service)) is
  where
    go : (unsure spent : Bool) → s.unsure ≡ unsure → silence.spent ≡ spent → (b : Bool)
        → (if unsure && spent then wants Status Over
        else if b then wants (Counted fcb service) Commanding else None) ≡ Some w
        → (s.unsure ≡ true) × (silence.spent ≡ true)
    go true true u v b e = (u, v)
    go true false u v b e = absurd (no_status fcb service w b asks e)
    go false spent u v b e = absurd (no_status fcb service w b asks e)
wanted_probes burst may_poll true s command (Held fcb service silence) Commanding w is asks up =
    absurd (no_repeat fcb service Commanding w asks is)
wanted_probes burst may_poll true s command (Held fcb service silence) Polling w is asks up =
    absurd (no_repeat fcb service Polling w asks is)
wanted_probes burst may_poll true s command (Held fcb service silence) (Class1Polling sent) w is
    asks up = absurd (no_repeat fcb service (Class1Polling sent) w asks is)
wanted_probes burst may_poll true s command (Held fcb service silence) Over w is asks up =
    absurd (no_repeat fcb service Over w asks is)
wanted_probes burst may_poll false s command (Held fcb service silence) Commanding w is asks up = cc
wanted_probes burst may_poll false s command (Held fcb service silence) Polling w is asks up = cc
wanted_probes burst may_poll false s command (Held fcb service silence) (Class1Polling sent) w is
    asks up = cc
wanted_probes burst may_poll false s command (Held fcb service silence) Over w is asks up = cc

-- a status to a station that is up
abbrev IsProbed : Primary → Sending → Type 0
IsProbed p z = z.request ≡ Status → is_up (station_at p.stations z.station).link ≡ true
    → ((station_at p.stations z.station).unsure ≡ true)
    × (is_spent (station_at p.stations z.station).link ≡ true)

pub probes : (p : Primary) (may_poll : Bool) (waiting : CommandsWaiting) (s : Sending)
    → sending p may_poll waiting ≡ Some s → s.request ≡ Status
    → is_up (station_at p.stations s.station).link ≡ true
    → ((station_at p.stations s.station).unsure ≡ true)
    × (is_spent (station_at p.stations s.station).link ≡ true)
probes p may_poll waiting s is = go p.outstanding is
  where
    by : (c : Chosen) → IsChosen p may_poll waiting c
        → IsProbed p (record { station = c.station; request = c.wanted.request })
    by c (here at chosen) asks up =
        wanted_probes p.settings.burst may_poll p.again (station_at p.stations c.station)
        (waiting c.station) (station_at p.stations c.station).link p.phase c.wanted chosen asks up
    by c (there chosen) asks up =
        wanted_probes p.settings.burst may_poll false (station_at p.stations c.station)
        (waiting c.station) (station_at p.stations c.station).link Starting c.wanted chosen asks up

    chosen : (c : Option Chosen) → choice p may_poll waiting ≡ c → sending_by c ≡ Some s
        → IsProbed p s
    chosen None e none = cc
    chosen (Some c) e some =
        let same : record { station = c.station; request = c.wanted.request } ≡ s = cc in
        subst (IsProbed p) same (by c (is_chosen p may_poll waiting c e))

    go : (o : Option Outstanding) → sending_from p o may_poll waiting ≡ Some s → IsProbed p s
    go (Some o) none = cc
    go None some = chosen (choice p may_poll waiting) refl some

-- no reset goes to a station that is up
pub is_asked : (p : Primary) (may_poll : Bool) (waiting : CommandsWaiting) (s : Sending)
    → IsFitting p → sending p may_poll waiting ≡ Some s → s.request ≡ Reset
    → is_up (station_at p.stations s.station).link ≡ true → ⊥
is_asked p may_poll waiting s fits is asks up =
    go (station_at p.stations s.station).link
    (subst (λ (r : Asked). MaySend (station_at p.stations s.station).link r) asks
    (may p may_poll waiting s fits is)) up
  where
    go : (link : Link) → MaySend link Reset → is_up link ≡ true → ⊥
    go Down may up = may
    go Available may up = cc
    go (Next fcb) may up = may
    go (Held fcb service silence) may up = may

-- ---- of which station it isn't known whether it was restarted

abbrev pub unsure_at : Primary → (k : ℕ) → Bool
unsure_at p k = (station_at p.stations k).unsure

-- one station is another
set_unsure : (stations : List StationState) (i k : ℕ) (s : StationState)
    → (s.unsure ≡ true → (station_at stations i).unsure ≡ true)
    → (station_at (slice_set stations i s) k).unsure ≡ true
    → (station_at stations k).unsure ≡ true
set_unsure stations i k s same is = go (set_at stations i k s)
  where
    go : (k ≡ i) × (station_at (slice_set stations i s) k ≡ s)
        ⊎ (station_at (slice_set stations i s) k ≡ station_at stations k)
        → (station_at stations k).unsure ≡ true
    go (inl it) = ap (λ (j : ℕ). (station_at stations j).unsure) it.0
        ∙ same (sym (ap (λ (t : StationState). t.unsure) it.1) ∙ is)
    go (inr other) = sym (ap (λ (t : StationState). t.unsure) other) ∙ is

both_left : (a b : Bool) → (a && b) ≡ true → a ≡ true
both_left true b e = refl
both_left false b e = cc

answered_unsure : (p : Primary) (o : Outstanding) (frame : Frame) (answer : Answer) (k : ℕ)
    → unsure_at (answered p o.request frame answer) k ≡ true → unsure_at p k ≡ true
answered_unsure p o frame answer k =
    set_unsure p.stations p.turn k
    (station_answered (station_at p.stations p.turn) o.request frame answer)
    (λ e. both_left (station_at p.stations p.turn).unsure (not (is_service o.request)) e)

-- a station that has answered a service is known
served_sure : (p : Primary) (o : Outstanding) (frame : Frame) (answer : Answer)
    → is_service o.request ≡ true → unsure_at (answered p o.request frame answer) p.turn ≡ false
served_sure p o frame answer service =
    set_none (λ (t : StationState). t.unsure) p.stations p.turn
    (station_answered (station_at p.stations p.turn) o.request frame answer)
    (none (station_at p.stations p.turn).unsure (is_service o.request) service) refl
  where
    none : (a b : Bool) → b ≡ true → (a && not b) ≡ false
    none true true e = refl
    none true false e = cc
    none false b e = refl

asked_unsure : (p : Primary) (now : ℕ) (may_poll : Bool) (waiting : CommandsWaiting) (k : ℕ)
    (o : Option Outstanding) → unsure_at (asked_from p o now may_poll waiting) k ≡ true
    → unsure_at p k ≡ true
asked_unsure p now may_poll waiting k (Some o) is = is
asked_unsure p now may_poll waiting k None is = go (choice p may_poll waiting) is
  where
    go : (c : Option Chosen) → unsure_at (after_choice p now c) k ≡ true → unsure_at p k ≡ true
    go None e = e
    go (Some c) e = set_unsure p.stations c.station k
        (station_asked (station_at p.stations c.station) c.wanted.request) (λ u. u) e

due_unsure : (p : Primary) (at k : ℕ) (o : Option Outstanding)
    → unsure_at (due_from p o at) k ≡ true → unsure_at p k ≡ true
due_unsure p at k None is = is
due_unsure p at k (Some o) is = go (is_late p o at) is
  where
    go : (b : Bool) → unsure_at (if b then unanswered p o else p) k ≡ true → unsure_at p k ≡ true
    go true e = set_unsure p.stations p.turn k
        (station_unanswered p.settings (station_at p.stations p.turn) o.request) (λ u. u) e
    go false e = e

-- ---- octets that come

module _ (p : Primary) (came : List ℕ) (k : ℕ) where
  -- they make no station doubtful, and an answer to a service makes its station known
  record IsGood (o : Outstanding) (q : Primary) : Type 0 where
    pub fewer : unsure_at q k ≡ true → unsure_at p k ≡ true
    pub served : is_service o.request ≡ true → is_none q.outstanding ≡ true
        → unsure_at q p.turn ≡ false

  waits : (o : Outstanding) (arrived : Option (List ℕ))
      → IsGood o (took p (with_octets came o) arrived None)
  waits o arrived = record { fewer = λ e. e; served = λ service none. cc }

  said : (o : Outstanding) (frame : Frame) (m : Option Answer)
      → IsGood o (said_by p (with_octets came o) frame m)
  said o frame None = waits o None
  said o frame (Some answer) = record {
    fewer = answered_unsure p o frame answer k;
    served = λ service none. served_sure p o frame answer service;
  }

  taken : (o : Outstanding) (arrived : Option (List ℕ)) (f : Option Frame)
      → IsGood o (took p (with_octets came o) arrived f)
  taken o arrived None = waits o arrived
  taken o arrived (Some frame) = said o frame (answer_at p (with_octets came o) frame)

  listens : (front : List ℕ → Front) (o : Outstanding) (h : Option (List ℕ))
      → IsGood o (received_after front p (with_octets came o) h came)
  listens front o None = waits o None
  listens front o (Some before) =
      taken o (open_octets (before ++ came) (front (before ++ came)))
      (whole_of (front (before ++ came)))

parts : (a b c : Bool) → (a && (b && c)) ≡ true → (a ≡ true) × (b ≡ true) × (c ≡ true)
parts true true true e = (refl, refl, refl)
parts true true false e = cc
parts true false c e = cc
parts false b c e = cc

octets_unsure : (p : Primary) (came : List ℕ) (k : ℕ) (before : Bool)
    → (unsure_at p k ≡ true → before ≡ true)
    → unsure_at (received (front_of p.settings.size) p came) k ≡ true
    → (before && not (are_served p p.outstanding k came)) ≡ true
octets_unsure p came k before so = go p.outstanding refl
  where
    front : List ℕ → Front
    front = front_of p.settings.size

    both : (b : Bool) → before ≡ true → (b ≡ true → ⊥) → (before && not b) ≡ true
    both true is never = absurd (never refl)
    both false is never = ap (λ (c : Bool). c && true) is

    good : (o : Outstanding) → p.outstanding ≡ Some o → IsGood p came k o (received front p came)
    good o is = subst (IsGood p came k o)
        (sym (ap (λ (x : Option Outstanding). received_from front p x came) is))
        (listens p came k front o o.arrived)

    go : (o : Option Outstanding) → p.outstanding ≡ o
        → unsure_at (received front p came) k ≡ true
        → (before && not (are_served p o k came)) ≡ true
    go None is e =
        ap (λ (c : Bool). c && true) (so (sym (ap (λ (x : Option Outstanding).
        unsure_at (received_from front p x came) k) is) ∙ e))
    go (Some o) is e =
        let g = good o is in
        both (are_served p (Some o) k came) (so (g.fewer e)) (λ served.
        let three = parts (p.turn == k) (is_service o.request)
        (is_none (received front p came).outstanding) served in
        not_both (unsure_at (received front p came) k) e
        (subst (λ (i : ℕ). unsure_at (received front p came) i ≡ false)
        (eqb-true p.turn k three.0) (g.served three.1 three.2)))

-- ---- each call

pub call_unsure : (p : Primary) (call : Call) (k : ℕ) (before : Bool)
    → (unsure_at p k ≡ true → before ≡ true) → unsure_at (called p call) k ≡ true
    → unsure_after p k call before ≡ true
call_unsure p (runs.Next now may_poll waiting) k before so e =
    so (asked_unsure p now may_poll waiting k p.outstanding e)
call_unsure p (Octets octets) k before so e = octets_unsure p octets k before so e
call_unsure p (Due at) k before so e = so (due_unsure p at k p.outstanding e)
call_unsure p (GivesUp station) k before so e =
    so (set_unsure p.stations station k (station_given_up (station_at p.stations station)) (λ u. u)
    e)
call_unsure p Doubts k before so e = refl

probed : (p : Primary) (call : Call) (k : ℕ) (before : Bool)
    → (unsure_at p k ≡ true → before ≡ true) → ProbesIfUnsure p k before call
probed p (runs.Next now may_poll waiting) k before so = λ s is at asks up.
    let it = probes p may_poll waiting s is asks
    (ap (λ (i : ℕ). is_up (station_at p.stations i).link) at ∙ up) in (
      so (sym (ap (unsure_at p) at) ∙ it.0),
      sym (ap (λ (i : ℕ). is_spent (station_at p.stations i).link) at) ∙ it.1,
    )
probed p (Octets octets) k before so = tt
probed p (Due at) k before so = tt
probed p (GivesUp station) k before so = tt
probed p Doubts k before so = tt

all_follow : (p : Primary) (calls : List Call) (k : ℕ) (before : Bool)
    → (unsure_at p k ≡ true → before ≡ true) → StatusesFollowRestarts p k before calls
all_follow p [] k before so = tt
all_follow p (call ∷ calls) k before so = (
  probed p call k before so,
  all_follow (called p call) calls k (unsure_after p k call before)
      (call_unsure p call k before so),
)

pub start_sure : (settings : LinkSettings) (addresses : List ℕ) (k : ℕ)
    → unsure_at (start settings addresses) k ≡ false
start_sure settings [] zero = refl
start_sure settings [] (suc k) = refl
start_sure settings (a ∷ addresses) zero = refl
start_sure settings (a ∷ addresses) (suc k) = start_sure settings addresses k

pub follow : (settings : LinkSettings) (addresses : List ℕ) (calls : List Call) (k : ℕ)
    → StatusesFollowRestarts (start settings addresses) k false calls
follow settings addresses calls k =
    all_follow (start settings addresses) calls k false
    (λ e. absurd (not_both (unsure_at (start settings addresses) k) e
    (start_sure settings addresses k)))
