-- A link is reset in the turn in which its status was answered: no turn begins with a link whose
-- status is known.
use Rattle.std.specs.Prelude.{◌==◌}
use Rattle.std.proofs.Common.{◌≡◌, ℕ, zero, suc, ◌<◌, ◌&&◌, ◌||◌, ◌⊎◌, inl, inr, nat_lt, Bool, true}
use Rattle.std.proofs.Common.{false, List, [], ◌∷◌, length, slice_set, map, Option, Some, None}
use Rattle.std.proofs.Common.{refl, sym, ap, subst, ◌∙◌, if◌then◌else◌}
use Rattle.std.proofs.lemmas.Bool.{eqb-true, eqb-false}
use Rattle.std.proofs.lemmas.List.{get_or-set_same, get_or-set_other}
use Rattle.link.specs.Answers.{Frame, Single, Fixed, Data, Asked, Status, Reset, Counted, Answer}
use Rattle.link.specs.Answers.{Ready, Confirmed, Busy, Report, NoData, Unable, answer_of}
use Rattle.link.specs.Answers.{comes_from}
use Rattle.link.specs.Control.{function_code}
use Rattle.link.specs.Procedure.{LinkSettings, Link, Down, Available, Next, Held, MaySend}
use Rattle.link.specs.Procedure.{after_answer, after_silence, missed_so_far, probed_so_far, is_held}
use Rattle.link.specs.Procedure.{is_kept, spent_silence, short_silence}
use Rattle.link.specs.Turns.{StationState, no_station, station_at, Phase, Starting, Commanding}
use Rattle.link.specs.Turns.{Polling, Class1Polling, Over, Wanted, wants, wanted_by, Chosen}
use Rattle.link.specs.Primary.{Outstanding, Primary, start, station_down, station_asked}
use Rattle.link.specs.Primary.{after_choice, phase_after, with_octets, awaits, station_answered}
use Rattle.link.specs.Primary.{answered, station_unanswered, unanswered}
use Rattle.link.specs.Carried.{station_given_up, given_up}
use Rattle.link.proofs.Links.{set_view, set_at}
use Rattle.link.proofs.Turning.{present}
use Rattle.link.specs.Turns.{CommandsWaiting}
use Rattle.link.specs.Carried.{doubted}
use Rattle.link.proofs.Doubting.{doubted_link}

-- the link of the station whose turn it is, by what is outstanding and what the turn goes on with
abbrev pub IsAlong : Option Outstanding → Phase → Link → Type 0
IsAlong None phase link = link ≡ Available → phase ≡ Starting
IsAlong (Some o) phase link = (o.request ≡ Status → is_held link ≡ false → phase ≡ Starting)
    × (link ≡ Available → o.request ≡ Reset)

-- When the status of a link is known, its station's turn goes on with the reset.
pub record IsBegun (p : Primary) : Type 0 where
  pub here : IsAlong p.outstanding p.phase (station_at p.stations p.turn).link
  pub away : (i : ℕ) → (station_at p.stations i).link ≡ Available → i ≡ p.turn

-- ---- `next`

goes_on_with : (burst : ℕ) (may_poll again : Bool) (s : StationState) (command : Option (List ℕ))
    (link : Link) (phase : Phase)
    → link ≡ Available
    → phase ≡ Starting →
    wanted_by burst may_poll again s command link phase ≡ wants Reset Over
goes_on_with burst may_poll again s command link phase is starts =
    ap (λ (l : Link). wanted_by burst may_poll again s command l phase) is
    ∙ ap (λ (f : Phase). wanted_by burst may_poll again s command Available f) starts

-- if the present turn is over, no link is so
pub none_known : (p : Primary) (may_poll : Bool) (waiting : CommandsWaiting) → p.outstanding ≡ None
    → present p may_poll waiting ≡ None
    → IsBegun p →
    (i : ℕ) → (station_at p.stations i).link ≡ Available → ⊥
none_known p may_poll waiting free is b i known =
    let here : (station_at p.stations p.turn).link ≡ Available =
    subst (λ (n : ℕ). (station_at p.stations n).link ≡ Available) (b.away i known) known in
    let along : IsAlong None p.phase (station_at p.stations p.turn).link =
    subst (λ (o : Option Outstanding). IsAlong o p.phase (station_at p.stations p.turn).link) free
    b.here in
    let goes : present p may_poll waiting ≡ wants Reset Over =
    goes_on_with p.settings.burst may_poll p.again (station_at p.stations p.turn) (waiting p.turn) _
    p.phase here
    (along here) in
    let bad : wants Reset Over ≡ None = sym goes ∙ is in
    cc

-- what is wanted of a link
wanted_along : (burst : ℕ) (may_poll again : Bool) (s : StationState) (command : Option (List ℕ))
    (link : Link) (phase : Phase)
    (w : Wanted) →
    wanted_by burst may_poll again s command link phase ≡ Some w → MaySend link w.request →
    (w.request ≡ Status → is_held link ≡ false → w.following ≡ Starting)
    × (link ≡ Available → w.request ≡ Reset)
wanted_along burst may_poll again s command Down Starting w is may =
    let one : Wanted = record { request = Status; following = Starting } in
    let same : one ≡ w = cc in
    ((λ e free. ap (λ (v : Wanted). v.following) (sym same)), λ e. cc)
wanted_along burst may_poll again s command Down Commanding w is may = cc
wanted_along burst may_poll again s command Down Polling w is may = cc
wanted_along burst may_poll again s command Down (Class1Polling sent) w is may = cc
wanted_along burst may_poll again s command Down Over w is may = cc
wanted_along burst may_poll again s command Available Starting w is may =
    let one : Wanted = record { request = Reset; following = Over } in
    let same : one ≡ w = cc in (
      (λ e free. let bad : Reset ≡ Status = ap (λ (v : Wanted). v.request) same ∙ e in cc),
      λ e. ap (λ (v : Wanted). v.request) (sym same),
    )
wanted_along burst may_poll again s command Available Commanding w is may = cc
wanted_along burst may_poll again s command Available Polling w is may = cc
wanted_along burst may_poll again s command Available (Class1Polling sent) w is may = cc
wanted_along burst may_poll again s command Available Over w is may = cc
wanted_along burst may_poll again s command (Next fcb) phase w is may =
    ((λ e free. absurd (subst (λ (r : Asked). MaySend (Next fcb) r) e may)), λ e. cc)
wanted_along burst may_poll again s command (Held fcb service missed) phase w is may =
    ((λ e free. cc), λ e. cc)

pub begun_choice : (p : Primary) (now : ℕ) (may_poll : Bool) (waiting : CommandsWaiting)
    (again : Bool) (phase : Phase) (c : Chosen) →
    wanted_by p.settings.burst may_poll again (station_at p.stations c.station) (waiting c.station)
    (station_at p.stations c.station).link phase ≡ Some c.wanted →
    MaySend (station_at p.stations c.station).link c.wanted.request →
    ((i : ℕ) → (station_at p.stations i).link ≡ Available → i ≡ c.station)
    → IsBegun (after_choice p now (Some c))
begun_choice p now may_poll waiting again phase c is may away =
    let s : StationState = station_asked (station_at p.stations c.station) c.wanted.request in
    let link = set_view (λ (r : StationState). r.link) p.stations c.station s refl in
    let along = wanted_along p.settings.burst may_poll again (station_at p.stations c.station)
    (waiting c.station)
    (station_at p.stations c.station).link phase c.wanted is may in
    record {
      here = (
        λ e free. along.0 e (sym (ap is_held (link c.station)) ∙ free),
        λ known. along.1 (sym (link c.station) ∙ known),
      );
      away = λ i known. away i (sym (link i) ∙ known);
    }

pub begun_none : (p : Primary) (now : ℕ) → p.outstanding ≡ None
    → ((i : ℕ) → (station_at p.stations i).link ≡ Available → ⊥) →
    IsBegun (after_choice p now None)
begun_none p now free none = record {
  here = subst (λ (o : Option Outstanding). IsAlong o Over (station_at p.stations p.turn).link)
      (sym free)
      (λ known. absurd (none p.turn known));
  away = λ i known. absurd (none i known);
}

-- ---- what comes of a request

-- to a reset nothing is said but that it is confirmed
reset_confirmed : (a : ℕ) (frame : Frame) (answer : Answer) → answer_of a Reset frame ≡ Some answer
    → answer ≡ Confirmed
reset_confirmed a Single answer is = cc
reset_confirmed a (Fixed control address) answer is =
    go (comes_from a control address) (function_code control == 0) is
  where
    go : (b c : Bool) → (if b then (if c then Some Confirmed else None) else None) ≡ Some answer
        → answer ≡ Confirmed
    go true true e = cc
    go true false e = cc
    go false c e = cc
reset_confirmed a (Data control address body) answer is =
    go (comes_from a control address && (function_code control == 8)) is
  where
    go : (b : Bool) → (if b then None else None) ≡ Some answer → answer ≡ Confirmed
    go true e = cc
    go false e = cc

-- to a status that it is ready, or that it can't be served
status_answers : (a : ℕ) (frame : Frame) (answer : Answer) → answer_of a Status frame ≡ Some answer
    → (answer ≡ Ready) ⊎ (answer ≡ Unable)
status_answers a Single answer is = cc
status_answers a (Fixed control address) answer is =
    go (comes_from a control address) (function_code control == 11) ((function_code control == 14)
    || (function_code control == 15)) is
  where
    go : (b c d : Bool) → (if b then (if c then Some Ready else (if d then Some Unable else None))
        else None)
        ≡ Some answer →
        (answer ≡ Ready) ⊎ (answer ≡ Unable)
    go true true d e = inl cc
    go true false true e = inr cc
    go true false false e = cc
    go false c d e = cc
status_answers a (Data control address body) answer is =
    go (comes_from a control address && (function_code control == 8)) is
  where
    go : (b : Bool) → (if b then None else None) ≡ Some answer → (answer ≡ Ready)
        ⊎ (answer ≡ Unable)
    go true e = cc
    go false e = cc

-- A link is available after an answer only if that says that it is ready, or it was before.
not_held : (link : Link) → after_answer Status Ready link ≡ Available → is_held link ≡ false
not_held Down known = refl
not_held Available known = refl
not_held (Next fcb) known = refl
not_held (Held fcb service silence) known = cc

pub known_after : (a : ℕ) (request : Asked) (frame : Frame) (answer : Answer) (link : Link)
    → answer_of a request frame ≡ Some answer →
    after_answer request answer link ≡ Available → (request ≡ Status) × (answer ≡ Ready)
    × (is_held link ≡ false)
known_after a Status frame answer link is known = go (status_answers a frame answer is)
  where
    go : (answer ≡ Ready) ⊎ (answer ≡ Unable) → (Status ≡ Status) × (answer ≡ Ready)
        × (is_held link ≡ false)
    go (inl ready) = (
      refl,
      ready,
      not_held link (sym (ap (λ (m : Answer). after_answer Status m link) ready) ∙ known),
    )
    go (inr unable) = let bad : Down ≡ Available =
        sym (ap (λ (m : Answer). after_answer Status m link) unable) ∙ known
        in cc
known_after a Reset frame answer link is known =
    let bad : Next true ≡ Available =
    sym (ap (λ (m : Answer). after_answer Reset m link) (reset_confirmed a frame answer is))
    ∙ known in cc
known_after a (Counted fcb service) frame Ready link is known = cc
known_after a (Counted fcb service) frame Confirmed link is known = cc
known_after a (Counted fcb service) frame Busy link is known = cc
known_after a (Counted fcb service) frame (Report asdu) link is known = cc
known_after a (Counted fcb service) frame NoData link is known = cc
known_after a (Counted fcb service) frame Unable link is known = cc

-- and never after a silence
pub unknown_after : (settings : LinkSettings) (request : Asked) (closed : Bool) (link : Link)
    → after_silence settings request closed link ≡ Available → ⊥
unknown_after settings Status closed Down known = cc
unknown_after settings Status closed Available known = cc
unknown_after settings Status closed (Next fcb) known = cc
unknown_after settings Status closed (Held fcb service silence) known = cc
unknown_after settings Reset closed link known = cc
unknown_after settings (Counted fcb service) false link known = cc
unknown_after settings (Counted fcb service) true link known =
    go (nat_lt settings.retries (suc (missed_so_far link)))
    (is_kept settings (probed_so_far link)) known
  where
    go : (b hold : Bool) →
        (if b then (if hold then Held fcb service (spent_silence settings (probed_so_far link))
        else Down) else Held fcb service
        (short_silence (suc (missed_so_far link)) (probed_so_far link))) ≡ Available → ⊥
    go true true e = cc
    go true false e = cc
    go false hold e = cc

pub begun_awaits : (p : Primary) (q : Outstanding) (octets : List ℕ) (arrived : Option (List ℕ))
    → p.outstanding ≡ Some q
    → IsBegun p →
    IsBegun (awaits p (with_octets octets q) arrived)
begun_awaits p q octets arrived is b = record {
  here = subst (λ (o : Option Outstanding). IsAlong o p.phase (station_at p.stations p.turn).link)
      is b.here;
  away = b.away;
}

-- the station whose turn it is has another link, and if its status is known the turn goes on
moved : (p : Primary) (s : StationState) (phase : Phase) (again : Bool) (spoilt : ℕ)
    → p.turn < length p.stations
    → IsBegun p →
    (s.link ≡ Available → phase ≡ Starting) →
    IsBegun (record p {
      stations = slice_set p.stations p.turn s;
      phase = phase;
      again = again;
      outstanding =
          None;
      spoilt = spoilt;
    })
moved p s phase again spoilt within b along = record {
  here = λ known. along (ap (λ (r : StationState). r.link)
      (sym (get_or-set_same p.stations p.turn s no_station within)) ∙ known);
  away = λ i known. go i known (set_at p.stations p.turn i s);
}
  where
    go : (i : ℕ) → (station_at (slice_set p.stations p.turn s) i).link ≡ Available →
        (i ≡ p.turn) × (station_at (slice_set p.stations p.turn s) i ≡ s)
        ⊎ (station_at (slice_set p.stations p.turn s) i ≡ station_at p.stations i) → i ≡ p.turn
    go i known (inl at) = at.0
    go i known (inr same) = b.away i (ap (λ (r : StationState). r.link) (sym same) ∙ known)

pub begun_answered : (p : Primary) (q : Outstanding) (a : ℕ) (frame : Frame) (answer : Answer)
    → p.turn < length p.stations → p.outstanding ≡ Some q →
    answer_of a q.request frame ≡ Some answer → IsBegun p
    → IsBegun (answered p q.request frame answer)
begun_answered p q a frame answer within is says b =
    moved p (station_answered (station_at p.stations p.turn) q.request frame answer)
    (phase_after answer p.phase) false p.spoilt within b
    (λ known.
    let outcome_for = known_after a q.request frame answer (station_at p.stations p.turn).link says
    known in
    let along =
    subst (λ (o : Option Outstanding). IsAlong o p.phase (station_at p.stations p.turn).link) is
    b.here in
    ap (λ (m : Answer). phase_after m p.phase) outcome_for.1 ∙ along.0 outcome_for.0 outcome_for.2)

pub begun_unanswered : (p : Primary) (q : Outstanding) → p.turn < length p.stations → IsBegun p
    → IsBegun (unanswered p q)
begun_unanswered p q within b =
    moved p (station_unanswered p.settings (station_at p.stations p.turn) q.request) _ _ _ within b
    (λ known. absurd (unknown_after p.settings q.request true (station_at p.stations p.turn).link
    known))

-- ---- the other calls

-- the link to a station is given up
pub begun_given_up : (p : Primary) (k : ℕ) → k < length p.stations → IsBegun p
    → IsBegun (given_up k p)
begun_given_up p k within b = record {
  here = along (p.turn == k) refl;
  away = λ i known. go i known (set_at p.stations k i s);
}
  where
    s : StationState
    s = station_given_up (station_at p.stations k)

    go : (i : ℕ) → (station_at (slice_set p.stations k
        (station_given_up (station_at p.stations k))) i).link ≡ Available →
        (i ≡ k) × (station_at (slice_set p.stations k
        (station_given_up (station_at p.stations k))) i
        ≡ station_given_up (station_at p.stations k))
        ⊎ (station_at (slice_set p.stations k (station_given_up (station_at p.stations k))) i
        ≡ station_at p.stations i) → i ≡ p.turn
    go i known (inl at) =
        let down : Down ≡ Available = sym (ap (λ (t : StationState). t.link) at.1) ∙ known in
        cc
    go i known (inr same) =
        b.away i (sym (ap (λ (t : StationState). t.link) same) ∙ known)

    along : (c : Bool) → (p.turn == k) ≡ c →
        IsAlong (if c then None else p.outstanding) (if c then Over else p.phase)
        (station_at (slice_set p.stations k (station_given_up (station_at p.stations k)))
        p.turn).link
    along true e =
        λ known. let down : Down ≡ Available =
        sym (ap (λ (i : ℕ). (station_at (slice_set p.stations k s) i).link) (eqb-true p.turn k e)
        ∙ ap (λ (t : StationState). t.link) (get_or-set_same p.stations k s no_station within))
        ∙ known in
        cc
    along false e =
        subst (λ (t : StationState). IsAlong p.outstanding p.phase t.link)
        (sym (get_or-set_other p.stations k p.turn s no_station (eqb-false p.turn k e))) b.here

-- Whether a station was restarted changes no link.
pub begun_doubted : (p : Primary) → IsBegun p → IsBegun (doubted p)
begun_doubted p b = record {
  here = subst (λ (l : Link). IsAlong p.outstanding p.phase l)
      (sym (doubted_link p.stations p.turn)) b.here;
  away = λ i known. b.away i (sym (doubted_link p.stations i) ∙ known);
}

pub begun_start : (settings : LinkSettings) (addresses : List ℕ)
    → IsBegun (start settings addresses)
begun_start settings addresses =
    record { here = λ known. refl; away = λ i known. absurd (down addresses i known) }
  where
    down : (list : List ℕ) (i : ℕ) → (station_at (map station_down list) i).link ≡ Available → ⊥
    down [] zero known = cc
    down [] (suc i) known = cc
    down (a ∷ rest) zero known = cc
    down (a ∷ rest) (suc i) known = down rest i known
