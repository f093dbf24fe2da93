-- Call by call, the exchanges of the line are visits, and the present turn is the latest of them.
use Rattle.std.proofs.Common.{◌≡◌, ℕ, ◌<◌, Bool, true, false, List, [], ◌∷◌, ◌++◌, length}
use Rattle.std.proofs.Common.{slice_set, map, Option, Some, None, refl, sym, ap, subst, ◌∙◌}
use Rattle.std.proofs.Common.{if◌then◌else◌}
use Rattle.std.proofs.lemmas.List.{get_or-set_same}
use Rattle.ft12.specs.declared.frame.Front.{Front}
use Rattle.ft12.specs.declared.frame.Front.TheVariants.{Whole, More, Never}
use Rattle.link.specs.Answers.{Frame, Answer}
use Rattle.link.specs.Exchanges.{Exchange, OpenExchange, Exchanges, no_exchanges, whole_of}
use Rattle.link.specs.Exchanges.{received_current, timed_current}
use Rattle.link.specs.Procedure.{LinkSettings, Link, Down, has_repeats}
use Rattle.link.specs.Turns.{StationState, no_station, station_at, Phase, Over}
use Rattle.link.specs.Primary.{Outstanding, Primary, start, station_down, phase_after}
use Rattle.link.specs.Primary.{station_answered, station_unanswered, unanswered, answer_at, awaits}
use Rattle.link.specs.Primary.{said_by, open_octets, took, with_octets, received_after}
use Rattle.link.specs.Primary.{received_from, received, is_late, due_from, timed_out}
use Rattle.link.specs.Visits.{Left, whole_visit}
use Rattle.link.proofs.Beginning.{IsBegun, begun_awaits, begun_answered, begun_unanswered}
use Rattle.link.proofs.Beginning.{begun_start}
use Rattle.link.proofs.Visiting.{Awaits, IsReady, starting, IsStarting}
use Rattle.link.proofs.Statuses.{answered_ready, missed_ready}
use Rattle.link.proofs.VisitAsked.{one_longer, shown, IsLatest, FitsPhase, InVisit}
use Rattle.link.specs.Carried.{doubted}
use Rattle.link.proofs.Doubting.{doubted_link}
use Rattle.link.proofs.Beginning.{begun_doubted}

-- ---- what the other calls do

abbrev pub Stays : (front : List ℕ → Front) → (addresses : List ℕ) → (turn : ℕ) → Primary
    → Exchanges → (many : ℕ)
    → Type 0
Stays front addresses turn p e many = InVisit front addresses p e many × (p.turn ≡ turn)

-- the latest exchange is another that goes out alike, and the machine has moved within its turn
kept : (front : List ℕ → Front) (addresses : List ℕ) (p : Primary) (ended : List OpenExchange)
    (cur cur' : Option OpenExchange) (many : ℕ)
    (stations : List StationState) (phase : Phase) (again : Bool) (outstanding : Option Outstanding)
    (spoilt : ℕ) →
    (v : InVisit front addresses p (record { ended = ended; current = cur }) many) →
    ((link : Link) → IsLatest p.settings link p.turn v.mid v.now cur
    → IsLatest p.settings link p.turn v.mid v.now cur') →
    (cur' ≡ None → cur ≡ None) →
    length (v.before ++ shown front cur') ≡ length (v.before ++ shown front cur) →
    FitsPhase p.settings outstanding again phase (station_at stations p.turn).link v.now →
    IsBegun (record p {
      stations = stations;
      phase = phase;
      again = again;
      outstanding = outstanding;
      spoilt =
          spoilt;
    }) →
    Stays front addresses p.turn (record p {
      stations = stations;
      phase = phase;
      again = again;
      outstanding =
          outstanding;
      spoilt = spoilt;
    })
    (record { ended = ended; current = cur' }) many
kept front addresses p ended cur cur' many stations phase again outstanding spoilt v same still
    long fits begun = (
      record {
        earlier = v.earlier;
        are = v.are;
        before = v.before;
        mid = v.mid;
        now = v.now;
        leads = v.leads;
        ended = v.ended;
        first = λ none. v.first (still none);
        latest = same _ v.latest;
        fits = fits;
        begun = begun;
        many_are = long ∙ v.many_are;
      },
      refl,
    )

received_latest : (settings : LinkSettings) (link : Link) (turn : ℕ) (mid now : Left)
    (octets : List ℕ)
    (cur : Option OpenExchange) →
    IsLatest settings link turn mid now cur
    → IsLatest settings link turn mid now (received_current octets cur)
received_latest settings link turn mid now octets None latest = latest
received_latest settings link turn mid now octets (Some x) latest = latest

timed_latest : (settings : LinkSettings) (link : Link) (turn : ℕ) (mid now : Left) (ms at : ℕ)
    (cur : Option OpenExchange) →
    IsLatest settings link turn mid now cur
    → IsLatest settings link turn mid now (timed_current ms at cur)
timed_latest settings link turn mid now ms at None latest = latest
timed_latest settings link turn mid now ms at (Some x) latest = latest

received_none : (octets : List ℕ) (cur : Option OpenExchange) → received_current octets cur ≡ None
    → cur ≡ None
received_none octets None none = refl
received_none octets (Some x) none = cc

timed_none : (ms at : ℕ) (cur : Option OpenExchange) → timed_current ms at cur ≡ None
    → cur ≡ None
timed_none ms at None none = refl
timed_none ms at (Some x) none = cc

received_long : (front : List ℕ → Front) (before : List Exchange) (octets : List ℕ)
    (cur : Option OpenExchange) →
    length (before ++ shown front (received_current octets cur))
    ≡ length (before ++ shown front cur)
received_long front before octets None = refl
received_long front before octets (Some x) = one_longer before _ (length before) refl
    ∙ sym (one_longer before _ (length before) refl)

timed_long : (front : List ℕ → Front) (before : List Exchange) (ms at : ℕ)
    (cur : Option OpenExchange) →
    length (before ++ shown front (timed_current ms at cur)) ≡ length (before ++ shown front cur)
timed_long front before ms at None = refl
timed_long front before ms at (Some x) = one_longer before _ (length before) refl
    ∙ sym (one_longer before _ (length before) refl)

pub received_visits : (front : List ℕ → Front) (addresses : List ℕ) (p : Primary)
    (ended : List OpenExchange)
    (cur : Option OpenExchange) (octets : List ℕ) (many : ℕ) →
    p.turn < length p.stations → InVisit front addresses p (record { ended = ended; current = cur })
    many →
    Stays front addresses p.turn (received front p octets)
    (record { ended = ended; current = received_current octets cur }) many
received_visits front addresses p ended cur octets many within v = go p.outstanding refl
  where
    moved : (stations : List StationState) (phase : Phase) (again : Bool)
        (outstanding : Option Outstanding) →
        FitsPhase p.settings outstanding again phase (station_at stations p.turn).link v.now →
        IsBegun (record p {
          stations = stations;
          phase = phase;
          again = again;
          outstanding =
              outstanding;
        }) →
        Stays front addresses p.turn (record p {
          stations = stations;
          phase = phase;
          again = again;
          outstanding =
              outstanding;
          spoilt = p.spoilt;
        })
        (record { ended = ended; current = received_current octets cur }) many
    moved stations phase again outstanding fits begun =
        kept front addresses p ended cur (received_current octets cur) many stations phase again
        outstanding p.spoilt v
        (λ link latest. received_latest p.settings link p.turn v.mid v.now octets cur latest)
        (received_none octets cur) (received_long front v.before octets cur) fits begun

    go : (o : Option Outstanding) → p.outstanding ≡ o →
        Stays front addresses p.turn (received_from front p o octets)
        (record { ended = ended; current = received_current octets cur }) many
    go None is = moved p.stations p.phase p.again p.outstanding v.fits v.begun
    go (Some q) is = by_received q.arrived
      where
        aw : (p.again ≡ false)
            × Awaits p.settings q.request p.phase (station_at p.stations p.turn).link v.now
        aw = subst (λ (o : Option Outstanding). FitsPhase p.settings o p.again p.phase
            (station_at p.stations p.turn).link v.now) is v.fits

        waits : (arrived : Option (List ℕ))
            → Stays front addresses p.turn (awaits p (with_octets octets q) arrived)
            (record { ended = ended; current = received_current octets cur }) many
        waits arrived =
            moved p.stations p.phase p.again _ aw (begun_awaits p q octets arrived is v.begun)

        say : (frame : Frame) (m : Option Answer) → answer_at p q frame ≡ m →
            Stays front addresses p.turn (said_by p (with_octets octets q) frame m)
            (record { ended = ended; current = received_current octets cur }) many
        say frame None e = waits None
        say frame (Some answer) e =
            let s : StationState = station_answered (station_at p.stations p.turn) q.request frame
            answer in
            moved (slice_set p.stations p.turn s) (phase_after answer p.phase) false None
            (subst (λ (l : Link). IsReady p.settings false (phase_after answer p.phase) l v.now)
            (sym (ap (λ (r : StationState). r.link) (get_or-set_same p.stations p.turn s no_station
            within)))
            (answered_ready p.settings (station_at p.stations p.turn).address q.request frame answer
            p.phase
            (station_at p.stations p.turn).link v.now e aw.1))
            (begun_answered p q (station_at p.stations p.turn).address frame answer within is e
            v.begun)

        by_front : (before : List ℕ) (f : Front) →
            Stays front addresses p.turn (took p (with_octets octets q) (open_octets before f)
            (whole_of f))
            (record { ended = ended; current = received_current octets cur }) many
        by_front before More = waits (Some before)
        by_front before (Never place why) = waits None
        by_front before (Whole frame n) = say frame (answer_at p q frame) refl

        by_received : (h : Option (List ℕ)) →
            Stays front addresses p.turn (received_after front p (with_octets octets q) h octets)
            (record { ended = ended; current = received_current octets cur }) many
        by_received None = waits None
        by_received (Some before) = by_front (before ++ octets) (front (before ++ octets))

pub due_visits : (front : List ℕ → Front) (addresses : List ℕ) (p : Primary)
    (ended : List OpenExchange)
    (cur : Option OpenExchange) (ms at : ℕ) (many : ℕ) →
    p.turn < length p.stations → InVisit front addresses p (record { ended = ended; current = cur })
    many →
    Stays front addresses p.turn (timed_out p at)
    (record { ended = ended; current = timed_current ms at cur }) many
due_visits front addresses p ended cur ms at many within v = go p.outstanding refl
  where
    moved : (stations : List StationState) (phase : Phase) (again : Bool)
        (outstanding : Option Outstanding)
        (spoilt : ℕ) →
        FitsPhase p.settings outstanding again phase (station_at stations p.turn).link v.now →
        IsBegun (record p {
          stations = stations;
          phase = phase;
          again = again;
          outstanding = outstanding;
          spoilt =
              spoilt;
        }) →
        Stays front addresses p.turn (record p {
          stations = stations;
          phase = phase;
          again = again;
          outstanding =
              outstanding;
          spoilt = spoilt;
        })
        (record { ended = ended; current = timed_current ms at cur }) many
    moved stations phase again outstanding spoilt fits begun =
        kept front addresses p ended cur (timed_current ms at cur) many stations phase again
        outstanding spoilt v
        (λ link latest. timed_latest p.settings link p.turn v.mid v.now ms at cur latest)
        (timed_none ms at cur) (timed_long front v.before ms at cur) fits begun

    go : (o : Option Outstanding) → p.outstanding ≡ o →
        Stays front addresses p.turn (due_from p o at)
        (record { ended = ended; current = timed_current ms at cur }) many
    go None is = moved p.stations p.phase p.again p.outstanding p.spoilt v.fits v.begun
    go (Some q) is = late (is_late p q at)
      where
        aw : (p.again ≡ false)
            × Awaits p.settings q.request p.phase (station_at p.stations p.turn).link v.now
        aw = subst (λ (o : Option Outstanding). FitsPhase p.settings o p.again p.phase
            (station_at p.stations p.turn).link v.now) is v.fits

        late : (b : Bool) → Stays front addresses p.turn (if b then unanswered p q else p)
            (record { ended = ended; current = timed_current ms at cur }) many
        late false = moved p.stations p.phase p.again p.outstanding p.spoilt v.fits v.begun
        late true =
            let s : StationState = station_unanswered p.settings (station_at p.stations p.turn)
            q.request in
            moved (slice_set p.stations p.turn s) _ _ None _
            (subst (λ (l : Link). IsReady p.settings (has_repeats p.settings s.link)
            (if has_repeats p.settings s.link then p.phase else Over) l v.now)
            (sym (ap (λ (r : StationState). r.link) (get_or-set_same p.stations p.turn s no_station
            within)))
            (missed_ready p.settings q.request p.phase (station_at p.stations p.turn).link v.now
            aw.1))
            (begun_unanswered p q within v.begun)

-- whether a station was restarted changes no link
pub doubted_visits : (front : List ℕ → Front) (addresses : List ℕ) (p : Primary) (e : Exchanges)
    (many : ℕ) → InVisit front addresses p e many → InVisit front addresses (doubted p) e many
doubted_visits front addresses p e many v = record {
  earlier = v.earlier;
  are = v.are;
  before = v.before;
  mid = v.mid;
  now = v.now;
  leads = v.leads;
  ended = v.ended;
  first = v.first;
  latest = v.latest;
  fits = subst (λ (l : Link). FitsPhase p.settings p.outstanding p.again p.phase l v.now)
      (sym (doubted_link p.stations p.turn)) v.fits;
  begun = begun_doubted p v.begun;
  many_are = v.many_are;
}

pub start_visits : (front : List ℕ → Front) (settings : LinkSettings) (addresses : List ℕ)
    → InVisit front addresses (start settings addresses) no_exchanges 0
start_visits front settings addresses = record {
  earlier = [];
  are = tt;
  before = [];
  mid = whole_visit settings Down;
  now = whole_visit settings Down;
  leads = refl;
  ended = refl;
  first = λ none. refl;
  latest = refl;
  fits = starting refl (down addresses);
  begun = begun_start settings addresses;
  many_are = refl;
}
  where
    down : (list : List ℕ) → IsStarting (station_at (map station_down list) 0).link
        (whole_visit settings Down)
    down [] = refl
    down (a ∷ rest) = refl
