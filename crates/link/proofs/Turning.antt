-- Whose turn comes next.
use Rattle.std.proofs.Common.{[], ◌∷◌, ◌≡◌, ℕ, zero, suc, ◌<◌, ◌≤◌, Bool, false, List, length}
use Rattle.std.proofs.Common.{Option}
use Rattle.std.proofs.Common.{Some, None}
use Rattle.std.proofs.Common.{refl, sym, ap, subst, ◌∙◌, ◌⊎◌, inl, inr, arith}
use Rattle.link.specs.Exchanges.{Sending}
use Rattle.link.specs.Turns.{StationState, Starting, Wanted, Chosen, station_at, wanted}
use Rattle.link.specs.Turns.{place_after, chosen_or, first_after}
use Rattle.std.proofs.lemmas.Bool.{cases_lt}
use Rattle.link.specs.Answers.{Asked, Status}
use Rattle.link.specs.Procedure.{LinkSettings}
use Rattle.link.specs.Primary.{Outstanding, Primary, sending_by, sending_from, sending, start}
use Rattle.link.specs.Runs.{nth_after, first_request, BeginsTurn, HaveNone}
use Rattle.link.specs.Turns.{CommandsWaiting}

-- the first of so many stations after a place that has a request
pub record IsFound (burst : ℕ) (may_poll : Bool) (stations : List StationState)
    (waiting : CommandsWaiting) (many place : ℕ)
    (c : Chosen) : Type 0 where
  pub steps : ℕ
  pub within : steps < many
  pub station : c.station ≡ nth_after (length stations) place (suc steps)
  pub first : wanted burst may_poll false (station_at stations c.station) (waiting c.station)
      Starting ≡ Some c.wanted
  pub nearer : (n : ℕ) → n < steps → wanted burst may_poll false
      (station_at stations (nth_after (length stations) place (suc n)))
      (waiting (nth_after (length stations) place (suc n))) Starting ≡ None

pub found : (burst : ℕ) (may_poll : Bool) (stations : List StationState)
    (waiting : CommandsWaiting) (many place : ℕ)
    (c : Chosen)
    → first_after burst may_poll stations waiting many place ≡ Some c →
    IsFound burst may_poll stations waiting many place c
found burst may_poll stations waiting zero place c is = cc
found burst may_poll stations waiting (suc many) place c is =
    go (λ rest. found burst may_poll stations waiting many (place_after (length stations) place) c
    rest)
    (wanted burst may_poll false (station_at stations (place_after (length stations) place))
    (waiting (place_after (length stations) place)) Starting) refl is
  where
    go : (first_after burst may_poll stations waiting many (place_after (length stations) place)
        ≡ Some c →
        IsFound burst may_poll stations waiting many (place_after (length stations) place) c) →
        (w : Option Wanted) → wanted burst may_poll false
        (station_at stations (place_after (length stations) place))
        (waiting (place_after (length stations) place)) Starting ≡ w →
        chosen_or w (place_after (length stations) place)
        (first_after burst may_poll stations waiting many (place_after (length stations) place))
        ≡ Some c →
        IsFound burst may_poll stations waiting (suc many) place c
    go later (Some w) e some =
        let same : record { station = place_after (length stations) place; wanted = w } ≡ c = cc in
        subst (λ (d : Chosen). IsFound burst may_poll stations waiting (suc many) place d) same
        (record {
          steps = 0;
          within = omega arith;
          station = refl;
          first = e;
          nearer =
              λ n lt. absurd (omega (arith, lt));
        })
    go later None e rest =
        let r = later rest in
        record {
          steps = suc r.steps;
          within = omega (arith, r.within);
          station = r.station;
          first = r.first;
          nearer =
              nearer r.steps r.nearer;
        }
      where
        nearer : (steps : ℕ) →
            ((n : ℕ) → n < steps → wanted burst may_poll false
            (station_at stations (nth_after (length stations) (place_after (length stations) place)
            (suc n))) (waiting (nth_after (length stations) (place_after (length stations) place)
            (suc n))) Starting ≡ None) →
            (n : ℕ) → n < suc steps → wanted burst may_poll false
            (station_at stations (nth_after (length stations) place (suc n)))
            (waiting (nth_after (length stations) place (suc n))) Starting ≡ None
        nearer steps rest zero lt = e
        nearer steps rest (suc n) lt = rest n (omega (arith, lt))

none_found : (burst : ℕ) (may_poll : Bool) (stations : List StationState)
    (waiting : CommandsWaiting) (many place : ℕ)
    → first_after burst may_poll stations waiting many place ≡ None →
    (n : ℕ) → n < many
    → wanted burst may_poll false (station_at stations (nth_after (length stations) place (suc n)))
    (waiting (nth_after (length stations) place (suc n))) Starting ≡ None
none_found burst may_poll stations waiting zero place is n lt = absurd (omega (arith, lt))
none_found burst may_poll stations waiting (suc many) place is n lt =
    go (λ rest m less. none_found burst may_poll stations waiting many
    (place_after (length stations) place)
    rest m less)
    (wanted burst may_poll false (station_at stations (place_after (length stations) place))
    (waiting (place_after (length stations) place)) Starting) refl is n lt
  where
    go : (first_after burst may_poll stations waiting many (place_after (length stations) place)
        ≡ None
        → (n : ℕ) → n < many →
        wanted burst may_poll false (station_at stations
        (nth_after (length stations) (place_after (length stations) place) (suc n)))
        (waiting (nth_after (length stations) (place_after (length stations) place) (suc n)))
        Starting
        ≡ None) →
        (w : Option Wanted) → wanted burst may_poll false
        (station_at stations (place_after (length stations) place))
        (waiting (place_after (length stations) place)) Starting ≡ w →
        chosen_or w (place_after (length stations) place)
        (first_after burst may_poll stations waiting many (place_after (length stations) place))
        ≡ None →
        (n : ℕ) → n < suc many → wanted burst may_poll false
        (station_at stations (nth_after (length stations) place (suc n)))
        (waiting (nth_after (length stations) place (suc n))) Starting ≡ None
    go later (Some w) e some n lt = cc
    go later None e rest zero lt = e
    go later None e rest (suc n) lt = later rest n (omega (arith, lt))

-- what the present turn goes on with
abbrev pub present : Primary → (may_poll : Bool) → CommandsWaiting → Option Wanted
present p may_poll waiting = wanted p.settings.burst may_poll p.again (station_at p.stations p.turn)
    (waiting p.turn) p.phase

pub goes_on : (p : Primary) (may_poll : Bool) (waiting : CommandsWaiting) (w : Wanted)
    → p.outstanding ≡ None
    → present p may_poll waiting ≡ Some w →
    sending p may_poll waiting ≡ Some (record { station = p.turn; request = w.request })
goes_on p may_poll waiting w free is =
    ap (λ (o : Option Outstanding). sending_from p o may_poll waiting) free
    ∙ ap (λ (v : Option Wanted). sending_by (chosen_or v p.turn
    (first_after p.settings.burst may_poll p.stations waiting (length p.stations) p.turn))) is

passed : (p : Primary) (may_poll : Bool) (waiting : CommandsWaiting) → p.outstanding ≡ None
    → present p may_poll waiting ≡ None →
    sending p may_poll waiting
    ≡ sending_by (first_after p.settings.burst may_poll p.stations waiting (length p.stations)
    p.turn)
passed p may_poll waiting free is =
    ap (λ (o : Option Outstanding). sending_from p o may_poll waiting) free
    ∙ ap (λ (v : Option Wanted). sending_by (chosen_or v p.turn
    (first_after p.settings.burst may_poll p.stations waiting (length p.stations) p.turn))) is

pub passes_on : (p : Primary) (may_poll : Bool) (waiting : CommandsWaiting) (s : Sending)
    → p.outstanding ≡ None
    → present p may_poll waiting ≡ None
    → sending p may_poll waiting ≡ Some s →
    BeginsTurn p may_poll waiting s
passes_on p may_poll waiting s free is sent =
    go (first_after p.settings.burst may_poll p.stations waiting (length p.stations) p.turn) refl
    (sym (passed p may_poll waiting free is) ∙ sent)
  where
    go : (c : Option Chosen) → first_after p.settings.burst may_poll p.stations waiting
        (length p.stations)
        p.turn ≡ c
        → sending_by c ≡ Some s → BeginsTurn p may_poll waiting s
    go None e none = cc
    go (Some c) e some =
        let same : record { station = c.station; request = c.wanted.request } ≡ s = cc in
        let f = found p.settings.burst may_poll p.stations waiting (length p.stations) p.turn c e in
        subst (λ (z : Sending). BeginsTurn p may_poll waiting z) same
        (record {
          steps = f.steps;
          once_round = f.within;
          station = f.station;
          wanted = c.wanted;
          first =
              f.first;
          request = refl;
          nearer = f.nearer;
        })

pub rests : (p : Primary) (may_poll : Bool) (waiting : CommandsWaiting) → p.outstanding ≡ None
    → sending p may_poll waiting ≡ None
    → HaveNone p may_poll waiting
rests p may_poll waiting free none = go (present p may_poll waiting) refl
  where
    by : (c : Option Chosen) → first_after p.settings.burst may_poll p.stations waiting
        (length p.stations)
        p.turn ≡ c
        → sending_by c ≡ None →
        HaveNone p may_poll waiting
    by None e quiet = none_found p.settings.burst may_poll p.stations waiting (length p.stations)
        p.turn e
    by (Some c) e some = cc

    go : (v : Option Wanted) → present p may_poll waiting ≡ v → HaveNone p may_poll waiting
    go (Some w) is = let some = goes_on p may_poll waiting w free is in cc
    go None is =
        by (first_after p.settings.burst may_poll p.stations waiting (length p.stations) p.turn)
        refl
        (sym (passed p may_poll waiting free is) ∙ none)

one_wanted : {m : Option Wanted} {v w : Wanted} → m ≡ Some v → m ≡ Some w → v ≡ w
one_wanted {m} {v} {w} one other = cc

-- The first station that has a request has its turn, however far round it is.
pub comes : (p : Primary) (may_poll : Bool) (waiting : CommandsWaiting) (n : ℕ) (w : Wanted)
    → p.outstanding ≡ None → present p may_poll waiting ≡ None → n < length p.stations
    → ((m : ℕ) → m < n → first_request p may_poll waiting
    (nth_after (length p.stations) p.turn (suc m)) ≡ None)
    → first_request p may_poll waiting (nth_after (length p.stations) p.turn (suc n)) ≡ Some w
    → sending p may_poll waiting ≡ Some (record {
      station = nth_after (length p.stations) p.turn (suc n);
      request = w.request;
    })
comes p may_poll waiting n w free gone within nearer first =
    go (sending p may_poll waiting) refl
  where
    place : ℕ → ℕ
    place m = nth_after (length p.stations) p.turn (suc m)

    by : (s : Sending) → (b : BeginsTurn p may_poll waiting s)
        → (b.steps < n) ⊎ (n ≤ b.steps) → (n < b.steps) ⊎ (b.steps ≤ n)
        → s ≡ record { station = place n; request = w.request }
    by s b (inl less) other =
        let none = nearer b.steps less in
        let some = subst (λ (i : ℕ). first_request p may_poll waiting i ≡ Some b.wanted) b.station
        b.first in
        let no : ⊥ = cc in absurd no
    by s b (inr least) (inl more) =
        let none = b.nearer n more in
        let no : ⊥ = cc in absurd no
    by s b (inr least) (inr most) =
        let same : b.steps ≡ n = omega (arith, least, most) in
        let at : s.station ≡ place n = b.station ∙ ap place same in
        let some = subst (λ (i : ℕ). first_request p may_poll waiting i ≡ Some b.wanted) at
        b.first in
        let it : b.wanted ≡ w = one_wanted some first in
        ap (λ (i : ℕ). record { station = i; request = s.request }) at
        ∙ ap (λ (r : Asked). record { station = place n; request = r })
        (b.request ∙ ap (λ (v : Wanted). v.request) it)

    go : (m : Option Sending) → sending p may_poll waiting ≡ m
        → m ≡ Some (record { station = place n; request = w.request })
    go None e =
        let none = rests p may_poll waiting free e n within in
        let no : ⊥ = cc in absurd no
    go (Some s) e =
        let b = passes_on p may_poll waiting s free gone e in
        ap (λ (z : Sending). Some z) (by s b (cases_lt b.steps n) (cases_lt n b.steps))

-- what goes out goes on with the present turn, or begins one
pub record GoesOn (p : Primary) (may_poll : Bool) (waiting : CommandsWaiting) (s : Sending) : Type
    0 where
  pub wanted : Wanted
  pub is : present p may_poll waiting ≡ Some wanted
  pub station : s.station ≡ p.turn
  pub request : s.request ≡ wanted.request

pub free_where : (p : Primary) (may_poll : Bool) (waiting : CommandsWaiting) (s : Sending)
    → sending p may_poll waiting ≡ Some s
    → p.outstanding ≡ None
free_where p may_poll waiting s sent = go p.outstanding refl sent
  where
    go : (o : Option Outstanding) → p.outstanding ≡ o → sending_from p o may_poll waiting ≡ Some s
        → o ≡ None
    go None is e = refl
    go (Some o) is e = cc

pub either_turn : (p : Primary) (may_poll : Bool) (waiting : CommandsWaiting) (s : Sending)
    → sending p may_poll waiting ≡ Some s →
    GoesOn p may_poll waiting s
    ⊎ ((present p may_poll waiting ≡ None) × BeginsTurn p may_poll waiting s)
either_turn p may_poll waiting s sent = go (present p may_poll waiting) refl
  where
    free : p.outstanding ≡ None
    free = free_where p may_poll waiting s sent

    go : (v : Option Wanted) → present p may_poll waiting ≡ v → GoesOn p may_poll waiting s
        ⊎ ((present p may_poll waiting ≡ None) × BeginsTurn p may_poll waiting s)
    go None is = inr (is, passes_on p may_poll waiting s free is sent)
    go (Some w) is =
        let same : Some s ≡ Some (record { station = p.turn; request = w.request }) = sym sent
        ∙ goes_on p may_poll waiting w free is in
        let at : s ≡ record { station = p.turn; request = w.request } = cc in
        inl (record {
          wanted = w;
          is = is;
          station = ap (λ (z : Sending). z.station) at;
          request =
              ap (λ (z : Sending). z.request) at;
        })

pub first_turn : (settings : LinkSettings) (addresses : List ℕ) (may_poll : Bool)
    (waiting : CommandsWaiting)
    → 0 < length addresses
    → sending (start settings addresses) may_poll waiting
    ≡ Some (record { station = 0; request = Status })
first_turn settings [] may_poll waiting some = absurd (omega (arith, some))
first_turn settings (a ∷ rest) may_poll waiting some = refl
