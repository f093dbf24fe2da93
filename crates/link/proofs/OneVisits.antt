-- A turn is one visit.
use Rattle.std.specs.Prelude.{◌==◌}
use Rattle.std.proofs.Common.{◌≡◌, ℕ, ◌<◌, Bool, true, false, List, [], ◌∷◌}
use Rattle.std.proofs.Common.{◌++◌, length, slice_set, map, Option, Some, None, refl, sym, ap}
use Rattle.std.proofs.Common.{subst, ◌∙◌, inl, inr, if◌then◌else◌, All}
use Rattle.std.proofs.lemmas.Bool.{eqb-false}
use Rattle.std.proofs.lemmas.List.{get_or-set_same, get_or-set_other}
use Rattle.ft12.specs.declared.frame.Front.{Front}
use Rattle.ft12.specs.declared.frame.Front.TheVariants.{Whole, More, Never}
use Rattle.ft12.specs.Fronts.{front_of}
use Rattle.link.specs.Answers.{Frame, Command, Counted, Answer}
use Rattle.link.specs.Bursts.{is_answered}
use Rattle.link.specs.Exchanges.{Exchanges, Sending, no_exchanges, whole_of}
use Rattle.link.specs.Procedure.{LinkSettings, Link, Down, Available, Next, Held, is_held}
use Rattle.link.specs.Procedure.{has_repeats}
use Rattle.link.specs.Requests.{FitsAddress}
use Rattle.link.specs.Turns.{StationState, no_station, station_at, Phase, Starting, Commanding}
use Rattle.link.specs.Turns.{Polling, Class1Polling, Over, Wanted, wanted_by, Chosen}
use Rattle.link.specs.Turns.{polls_from, wanted_command, commands_from, chosen_or, first_after}
use Rattle.link.specs.Primary.{Outstanding, Primary, start, station_down, after_choice, asked_from}
use Rattle.link.specs.Primary.{sending_by, sending_from, phase_after, station_asked}
use Rattle.link.specs.Primary.{station_answered, station_unanswered, unanswered, answer_at, awaits}
use Rattle.link.specs.Primary.{said_by, open_octets, took, with_octets, received_after}
use Rattle.link.specs.Primary.{received_from, received, is_late, due_from, timed_out}
use Rattle.link.specs.Carried.{station_given_up, given_up}
use Rattle.link.specs.Matching.{IsStable, MatchesBy, Matches}
use Rattle.link.specs.Runs.{Call, Octets, Due, GivesUp, called, exchanged, MayCall}
use Rattle.link.specs.Runs.{MayCallAll, BeginsTurn}
use Rattle.link.specs.Runs as runs
use Rattle.link.specs.Visits.{Left, whole_visit}
use Rattle.link.specs.OneVisit.{Present, nothing_left, IsVisited, IsVisitedBy}
use Rattle.link.specs.OneVisit.{VisitStep, TurnsAreVisits}
use Rattle.link.proofs.Beginning.{IsBegun, none_known, begun_choice, begun_none, begun_awaits}
use Rattle.link.proofs.Beginning.{begun_answered, begun_unanswered}
use Rattle.link.proofs.Beginning.{begun_given_up, begun_start}
use Rattle.link.proofs.Links.{set_view}
use Rattle.link.proofs.Called.{start_matches}
use Rattle.link.proofs.Running.{call_matches}
use Rattle.link.proofs.Turning.{IsFound, found, present}
use Rattle.link.proofs.Visiting.{HasPlan, Awaits, IsReady, over, starting, serving, IsStarting}
use Rattle.link.proofs.Visiting.{IsRepeatable, Follows, FollowsIt, over_wants, ready_follows}
use Rattle.link.proofs.Visiting.{begin_follows}
use Rattle.link.proofs.VisitAsked.{FitsPhase, MayBeThere, rest_there, may_want}
use Rattle.link.proofs.Statuses.{answered_ready, missed_ready}
use Rattle.link.specs.Turns.{CommandsWaiting}
use Rattle.link.specs.Runs.{Doubts}
use Rattle.link.specs.Carried.{doubted}
use Rattle.link.proofs.Doubting.{doubted_link}
use Rattle.link.proofs.Beginning.{begun_doubted}

-- the machine stands in this visit
pub record IsAt (p : Primary) (v : Present) : Type 0 where
  pub turn : p.turn ≡ v.station
  pub fits : FitsPhase p.settings p.outstanding p.again p.phase
      (station_at p.stations p.turn).link v.left
  pub begun : IsBegun p

-- ---- `next`

same_want : (v w : Wanted) → Some v ≡ Some w → v ≡ w
same_want v w e = cc

-- A turn begins with the command that waits.
command_first : (burst : ℕ) (may_poll : Bool) (s : StationState) (command : Option (List ℕ))
    (asdu : List ℕ) (link : Link) (w : Wanted) → command ≡ Some asdu → is_answered link ≡ true
    → s.dfc ≡ false → wanted_by burst may_poll false s command link Starting ≡ Some w
    → (fcb : Bool) × (w.request ≡ Counted fcb (Command asdu))
command_first burst may_poll s command asdu (Next fcb) w waits up clear is = (
  fcb,
  sym (ap (λ (x : Wanted). x.request)
      (same_want (record { request = Counted fcb (Command asdu); following = Polling }) w
      (sym (ap (λ (b : Bool). if b then polls_from burst may_poll fcb s Polling
      else wanted_command fcb asdu) clear)
      ∙ sym (ap (commands_from burst may_poll fcb s) waits) ∙ is))),
)
command_first burst may_poll s command asdu Down w waits up clear is = let no : ⊥ = cc in absurd no
command_first burst may_poll s command asdu Available w waits up clear is =
    let no : ⊥ = cc in absurd no
command_first burst may_poll s command asdu (Held fcb service missed) w waits up clear is =
    let no : ⊥ = cc in absurd no

-- a held service that goes out in a turn has a repeat left
repeats_left : (settings : LinkSettings) (may_poll again : Bool) (s : StationState)
    (command : Option (List ℕ)) (link : Link)
    (phase : Phase) (left : Left) (w : Wanted) → IsReady settings again phase link left
    → wanted_by settings.burst may_poll again s command link phase ≡ Some w → is_held link ≡ true
    → has_repeats settings link ≡ true
repeats_left settings may_poll again s command Down phase left w ready is held = cc
repeats_left settings may_poll again s command Available phase left w ready is held = cc
repeats_left settings may_poll again s command (Next fcb) phase left w ready is held = cc
repeats_left settings may_poll again s command (Held fcb service missed) phase left w (over o a) is
    held =
    let none : wanted_by settings.burst may_poll again s command (Held fcb service missed) phase
    ≡ None =
    ap (λ (b : Bool). wanted_by settings.burst may_poll b s command (Held fcb service missed) phase)
    a
    ∙ ap (λ (f : Phase). wanted_by settings.burst may_poll false s command (Held fcb service missed)
    f) o
    ∙ over_wants settings.burst may_poll s command (Held fcb service missed) in
    let no : None ≡ Some w = sym none ∙ is in cc
repeats_left settings may_poll again s command (Held fcb service missed) phase left w
    (starting o plan) is
    held = absurd plan
repeats_left settings may_poll again s command (Held fcb service missed) phase left w
    (serving plan more) is
    held = go again phase plan more is
  where
    go : (b : Bool) (f : Phase) → HasPlan settings.burst f left.plan
        → (b ≡ true → IsRepeatable settings (Held fcb service missed) left)
        → wanted_by settings.burst may_poll b s command (Held fcb service missed) f ≡ Some w
        → has_repeats settings (Held fcb service missed) ≡ true
    go true f has few e = (few refl).left_over
    go false Starting has few e = absurd has
    go false Over has few e = absurd has
    go false Commanding has few e = cc
    go false Polling has few e = cc
    go false (Class1Polling sent) has few e = cc

-- the visit after a call of `next`
pub record Visited (p : Primary) (now : ℕ) (may_poll : Bool) (waiting : CommandsWaiting)
    (v : Present)
    (o : Option Outstanding) : Type 0 where
  pub after : Present
  pub visited : IsVisitedBy p may_poll waiting o v after
  pub at : IsAt (asked_from p o now may_poll waiting) after

module _ (front : List ℕ → Front) (addresses : List ℕ) (p : Primary) (e : Exchanges) (v : Present)
    (now : ℕ) (may_poll : Bool) (waiting : CommandsWaiting) (some : 0 < p.settings.burst)
    (t : MatchesBy front p.settings addresses p e) (is_at : IsAt p v)
    (free : p.outstanding ≡ None) where
  ready : IsReady p.settings p.again p.phase (station_at p.stations p.turn).link v.left
  ready = subst (λ (o : Option Outstanding). FitsPhase p.settings o p.again p.phase
      (station_at p.stations p.turn).link v.left) free is_at.fits

  goes : (w : Wanted) → present p may_poll waiting ≡ Some w
      → (after : Present) × IsVisited p may_poll waiting
      (Some (record { station = p.turn; request = w.request })) v after
      × IsAt (after_choice p now (Some (record { station = p.turn; wanted = w }))) after
  goes w is =
      let s : StationState = station_asked (station_at p.stations p.turn) w.request in
      let f : Follows p.settings (station_at p.stations p.turn).link v.left w =
      subst (λ (x : Option Wanted). FollowsIt p.settings (station_at p.stations p.turn).link v.left
      x) is (ready_follows p.settings may_poll p.again (station_at p.stations p.turn)
      (waiting p.turn)
      (station_at p.stations p.turn).link p.phase v.left some ready) in (
        record { station = p.turn; left = f.later },
        (
          refl,
          inl (
            is_at.turn,
            repeats_left p.settings may_poll p.again
                (station_at p.stations p.turn) (waiting p.turn) (station_at p.stations p.turn).link
                p.phase v.left w
                ready is,
            f.follow,
          ),
        ),
        record {
          turn = refl;
          fits = (
            refl,
            subst (λ (l : Link). Awaits p.settings w.request w.following l f.later)
                (sym (set_view (λ (r : StationState). r.link) p.stations p.turn s refl p.turn))
                f.awaits,
          );
          begun = begun_choice p now may_poll waiting p.again p.phase
              (record { station = p.turn; wanted = w }) is
              (may_want p e front addresses may_poll waiting p.again p.turn p.phase w t t.fits.turn
              is)
              is_at.begun.away;
        },
      )

  begins_by : (c : Chosen) → present p may_poll waiting ≡ None
      → IsFound p.settings.burst may_poll p.stations waiting (length p.stations) p.turn c
      → c.station < length p.stations
      → (after : Present) × IsVisited p may_poll waiting
      (Some (record { station = c.station; request = c.wanted.request })) v after
      × IsAt (after_choice p now (Some c)) after
  begins_by c gone f within =
      let fresh = none_known p may_poll waiting free gone is_at.begun in
      let s : StationState = station_asked (station_at p.stations c.station) c.wanted.request in
      let begun : BeginsTurn (record p { turn = v.station }) may_poll waiting
      (record { station = c.station; request = c.wanted.request }) =
      subst (λ (n : ℕ). BeginsTurn (record p { turn = n }) may_poll waiting
      (record { station = c.station; request = c.wanted.request })) is_at.turn
      (record {
        steps = f.steps;
        once_round = f.within;
        station = f.station;
        wanted = c.wanted;
        first = f.first;
        request = refl;
        nearer = f.nearer;
      }) in
      let g : Follows p.settings (station_at p.stations c.station).link
      (whole_visit p.settings (station_at p.stations c.station).link) c.wanted =
      subst (λ (x : Option Wanted). FollowsIt p.settings (station_at p.stations c.station).link
      (whole_visit p.settings (station_at p.stations c.station).link) x) f.first
      (begin_follows p.settings may_poll (station_at p.stations c.station) (waiting c.station)
      (station_at p.stations c.station).link some (fresh c.station)) in (
        record { station = c.station; left = g.later },
        (
          refl,
          inr (
            begun,
            λ asdu waits up clear. command_first p.settings.burst may_poll
                (station_at p.stations c.station) (waiting c.station) asdu
                (station_at p.stations c.station).link c.wanted waits up clear f.first,
            g.follow,
          ),
        ),
        record {
          turn = refl;
          fits = (
            refl,
            subst (λ (l : Link). Awaits p.settings c.wanted.request c.wanted.following l g.later)
                (sym (set_view (λ (r : StationState). r.link) p.stations c.station s refl
                c.station))
                g.awaits,
          );
          begun = begun_choice p now may_poll waiting false Starting c f.first
              (may_want p e front addresses may_poll waiting false c.station Starting c.wanted t
              within
              f.first)
              (λ i known. absurd (fresh i known));
        },
      )

  abbrev rest : Option Chosen
  rest = first_after p.settings.burst may_poll p.stations waiting (length p.stations) p.turn

  by_rest : present p may_poll waiting ≡ None → (r : Option Chosen) → rest ≡ r → MayBeThere p r
      → (after : Present) × IsVisited p may_poll waiting (sending_by r) v after
      × IsAt (after_choice p now r) after
  by_rest gone None is there = (
    record { station = v.station; left = nothing_left },
    refl,
    record {
      turn = is_at.turn;
      fits = subst (λ (o : Option Outstanding). FitsPhase p.settings o false Over
          (station_at p.stations p.turn).link nothing_left) (sym free) (over refl refl);
      begun = begun_none p now free (none_known p may_poll waiting free gone is_at.begun);
    },
  )
  by_rest gone (Some c) is there =
      begins_by c gone (found p.settings.burst may_poll p.stations waiting (length p.stations)
      p.turn c is)
      there

  by_present : (w : Option Wanted) → present p may_poll waiting ≡ w
      → (after : Present) × IsVisited p may_poll waiting (sending_by (chosen_or w p.turn rest)) v
      after
      × IsAt (after_choice p now (chosen_or w p.turn rest)) after
  by_present None is = by_rest is rest refl (rest_there front addresses p e may_poll waiting t)
  by_present (Some w) is = goes w is

  freed : Visited p now may_poll waiting v None
  freed =
      let found = by_present (present p may_poll waiting) refl in
      record {
        after = found.0;
        visited = subst (λ (s : Option Sending). IsVisited p may_poll waiting s v found.0)
            (sym (ap (λ (o : Option Outstanding). sending_from p o may_poll waiting) free)) found.1;
        at = found.2;
      }

next_visit : (front : List ℕ → Front) (addresses : List ℕ) (p : Primary) (e : Exchanges)
    (v : Present) (now : ℕ) (may_poll : Bool) (waiting : CommandsWaiting) → 0 < p.settings.burst
    → MatchesBy front p.settings addresses p e → IsAt p v
    → Visited p now may_poll waiting v p.outstanding
next_visit front addresses p e v now may_poll waiting some t is_at = go p.outstanding refl
  where
    go : (o : Option Outstanding) → p.outstanding ≡ o → Visited p now may_poll waiting v o
    go None is = freed front addresses p e v now may_poll waiting some t is_at is
    go (Some o) is = record { after = v; visited = refl; at = is_at }

-- ---- the other calls

octets_stay : (front : List ℕ → Front) (p : Primary) (octets : List ℕ) (v : Present)
    → p.turn < length p.stations → IsAt p v → IsAt (received front p octets) v
octets_stay front p octets v within is_at = go p.outstanding refl
  where
    moved : (stations : List StationState) (phase : Phase) (again : Bool)
        (outstanding : Option Outstanding)
        → FitsPhase p.settings outstanding again phase (station_at stations p.turn).link v.left
        → IsBegun (record p {
          stations = stations;
          phase = phase;
          again = again;
          outstanding = outstanding;
        }) → IsAt (record p {
          stations = stations;
          phase = phase;
          again = again;
          outstanding = outstanding;
        }) v
    moved stations phase again outstanding fits begun =
        record { turn = is_at.turn; fits = fits; begun = begun }

    go : (o : Option Outstanding) → p.outstanding ≡ o → IsAt (received_from front p o octets) v
    go None is = is_at
    go (Some q) is = by_octets q.arrived
      where
        aw : (p.again ≡ false)
            × Awaits p.settings q.request p.phase (station_at p.stations p.turn).link v.left
        aw = subst (λ (o : Option Outstanding). FitsPhase p.settings o p.again p.phase
            (station_at p.stations p.turn).link v.left) is is_at.fits

        waits : (so_far : Option (List ℕ)) → IsAt (awaits p (with_octets octets q) so_far) v
        waits so_far =
            moved p.stations p.phase p.again _ aw (begun_awaits p q octets so_far is is_at.begun)

        say : (frame : Frame) (m : Option Answer) → answer_at p q frame ≡ m
            → IsAt (said_by p (with_octets octets q) frame m) v
        say frame None e = waits None
        say frame (Some answer) e =
            let s : StationState = station_answered (station_at p.stations p.turn) q.request frame
            answer in
            moved (slice_set p.stations p.turn s) (phase_after answer p.phase) false None
            (subst (λ (l : Link). IsReady p.settings false (phase_after answer p.phase) l v.left)
            (sym (ap (λ (r : StationState). r.link) (get_or-set_same p.stations p.turn s no_station
            within)))
            (answered_ready p.settings (station_at p.stations p.turn).address q.request frame answer
            p.phase (station_at p.stations p.turn).link v.left e aw.1))
            (begun_answered p q (station_at p.stations p.turn).address frame answer within is e
            is_at.begun)

        by_front : (before : List ℕ) (f : Front)
            → IsAt (took p (with_octets octets q) (open_octets before f) (whole_of f)) v
        by_front before More = waits (Some before)
        by_front before (Never place why) = waits None
        by_front before (Whole frame n) = say frame (answer_at p q frame) refl

        by_octets : (so_far : Option (List ℕ))
            → IsAt (received_after front p (with_octets octets q) so_far octets) v
        by_octets None = waits None
        by_octets (Some before) = by_front (before ++ octets) (front (before ++ octets))

due_stays : (p : Primary) (moment : ℕ) (v : Present) → p.turn < length p.stations → IsAt p v
    → IsAt (timed_out p moment) v
due_stays p moment v within is_at = go p.outstanding refl
  where
    go : (o : Option Outstanding) → p.outstanding ≡ o → IsAt (due_from p o moment) v
    go None is = is_at
    go (Some q) is = late (is_late p q moment)
      where
        aw : (p.again ≡ false)
            × Awaits p.settings q.request p.phase (station_at p.stations p.turn).link v.left
        aw = subst (λ (o : Option Outstanding). FitsPhase p.settings o p.again p.phase
            (station_at p.stations p.turn).link v.left) is is_at.fits

        late : (b : Bool) → IsAt (if b then unanswered p q else p) v
        late false = is_at
        late true =
            let s : StationState = station_unanswered p.settings (station_at p.stations p.turn)
            q.request in
            record {
              turn = is_at.turn;
              fits = subst (λ (l : Link). IsReady p.settings (has_repeats p.settings s.link)
                  (if has_repeats p.settings s.link then p.phase else Over) l v.left)
                  (sym (ap (λ (r : StationState). r.link) (get_or-set_same p.stations p.turn s
                  no_station within)))
                  (missed_ready p.settings q.request p.phase (station_at p.stations p.turn).link
                  v.left aw.1);
              begun = begun_unanswered p q within is_at.begun;
            }

given_up_stays : (p : Primary) (k : ℕ) (v : Present) → k < length p.stations → IsAt p v
    → IsAt (given_up k p) v
given_up_stays p k v within is_at = record {
  turn = is_at.turn;
  fits = fits (p.turn == k) refl;
  begun = begun_given_up p k within is_at.begun;
}
  where
    fits : (b : Bool) → (p.turn == k) ≡ b →
        FitsPhase p.settings (if b then None else p.outstanding) (if b then false else p.again)
        (if b then Over else p.phase)
        (station_at (slice_set p.stations k (station_given_up (station_at p.stations k)))
        p.turn).link v.left
    fits true here = over refl refl
    fits false other =
        subst (λ (s : StationState). FitsPhase p.settings p.outstanding p.again p.phase s.link
        v.left)
        (sym (get_or-set_other p.stations k p.turn (station_given_up (station_at p.stations k))
        no_station (eqb-false p.turn k other))) is_at.fits

-- whether it was restarted changes no link
doubted_stays : (p : Primary) (v : Present) → IsAt p v → IsAt (doubted p) v
doubted_stays p v is_at = record {
  turn = is_at.turn;
  fits = subst (λ (l : Link). FitsPhase p.settings p.outstanding p.again p.phase l v.left)
      (sym (doubted_link p.stations p.turn)) is_at.fits;
  begun = begun_doubted p is_at.begun;
}

-- ---- each call

pub record Stepped (p : Primary) (call : Call) (v : Present) : Type 0 where
  pub after : Present
  pub step : VisitStep p call v after
  pub at : IsAt (called p call) after

step : (settings : LinkSettings) (addresses : List ℕ) (p : Primary) (e : Exchanges) (v : Present)
    (call : Call) → 0 < settings.burst → MayCall p call → Matches settings addresses p e → IsAt p v
    → Stepped p call v
step settings addresses p e v (runs.Next now may_poll waiting) some may t is_at =
    let n = next_visit (front_of settings.size) addresses p e v now may_poll waiting
    (subst (λ (s : LinkSettings). 0 < s.burst) (sym t.settings_are) some)
    (subst (λ (s : LinkSettings). MatchesBy (front_of settings.size) s addresses p e)
    (sym t.settings_are) t) is_at in
    record { after = n.after; step = n.visited; at = n.at }
step settings addresses p e v (Octets octets) some may t is_at = record {
  after = v;
  step = refl;
  at = octets_stay (front_of p.settings.size) p octets v t.fits.turn is_at;
}
step settings addresses p e v (Due moment) some may t is_at =
    record { after = v; step = refl; at = due_stays p moment v t.fits.turn is_at }
step settings addresses p e v (GivesUp station) some may t is_at =
    record { after = v; step = refl; at = given_up_stays p station v may is_at }
step settings addresses p e v Doubts some may t is_at =
    record { after = v; step = refl; at = doubted_stays p v is_at }

all_visits : (settings : LinkSettings) (addresses : List ℕ) → IsStable (front_of settings.size)
    → (p : Primary) (e : Exchanges) (v : Present) (calls : List Call) → 0 < settings.burst
    → MayCallAll p calls → Matches settings addresses p e → IsAt p v → TurnsAreVisits p v calls
all_visits settings addresses stable p e v [] some may t is_at = tt
all_visits settings addresses stable p e v (call ∷ calls) some may t is_at =
    let s = step settings addresses p e v call some may.0 t is_at in (
      s.after,
      s.step,
      all_visits settings addresses stable (called p call) (exchanged p call e) s.after calls some
          may.1 (call_matches settings addresses stable p e call may.0 t) s.at,
    )

pub turns_are_visits : (settings : LinkSettings) (addresses : List ℕ)
    → IsStable (front_of settings.size) → (calls : List Call) → 0 < length addresses
    → All (FitsAddress settings.size) addresses → 0 < settings.burst
    → MayCallAll (start settings addresses) calls
    → TurnsAreVisits (start settings addresses)
    (record { station = 0; left = whole_visit settings Down }) calls
turns_are_visits settings addresses stable calls some fit burst may =
    all_visits settings addresses stable (start settings addresses) no_exchanges _ calls burst may
    (start_matches settings addresses some fit)
    (record {
      turn = refl;
      fits = starting refl (down addresses);
      begun = begun_start settings addresses;
    })
  where
    down : (list : List ℕ) → IsStarting (station_at (map station_down list) 0).link
        (whole_visit settings Down)
    down [] = refl
    down (a ∷ later) = refl
