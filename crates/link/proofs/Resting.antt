-- What is left if nothing goes out.
use Rattle.std.specs.Prelude.{◌||◌}
use Rattle.std.proofs.Common.{◌≡◌, ℕ, zero, suc, ◌+◌, ◌-◌, ◌<◌, ◌≤◌, ◌⊎◌, Bool, true, false, not}
use Rattle.std.proofs.Common.{List, [], ◌∷◌, length, Option, Some, None, refl, ap, sym, subst, ◌∙◌}
use Rattle.std.proofs.Common.{inl, inr, arith, if◌then◌else◌}
use Rattle.std.proofs.lemmas.Bool.{cases_lt, lt-ltb, le-ltb}
use Rattle.link.specs.Answers.{Class1, Class2, Command, Counted}
use Rattle.link.specs.Exchanges.{Sending}
use Rattle.link.specs.Procedure.{LinkSettings, Link, Down, Available, Next, Held, is_up}
use Rattle.link.specs.Procedure.{holds_command}
use Rattle.link.specs.Turns.{StationState, Starting, Commanding, Polling, Class1Polling, station_at}
use Rattle.link.specs.Turns.{is_poll, wants, polls_from, wanted_command, commands_from, wanted_by}
use Rattle.link.specs.Turns.{place_after, Over, Wanted, Chosen, chosen_or, first_after}
use Rattle.link.specs.Primary.{Outstanding, Primary, start, choice, after_choice, asked_from, asked}
use Rattle.link.specs.Primary.{sending_by, sending_from, sending}
use Rattle.link.specs.Runs.{nth_after}
use Rattle.link.specs.Leave.{IsLeftToPolls}
use Rattle.link.proofs.Turning.{rests}
use Rattle.link.specs.Turns.{CommandsWaiting}
use Rattle.link.specs.Turns.{is_doubted}
use Rattle.link.specs.Answers.{Status}

-- ---- round the stations

-- so many after a place, round them
reaches : (count place n i : ℕ) → place < count → i < count → (place + n ≡ i)
    ⊎ (place + n ≡ count + i)
    → nth_after count place n ≡ i
reaches count place zero i within below (inl e) = omega arith
reaches count place zero i within below (inr e) = absurd (omega arith)
reaches count place (suc n) i within below e =
    go (λ next lt sum. reaches count next n i lt below sum)
    (cases_lt (suc place) count) e
  where
    go : ((next : ℕ) → next < count → (next + n ≡ i) ⊎ (next + n ≡ count + i)
        → nth_after count next n ≡ i) →
        (suc place < count) ⊎ (count ≤ suc place) → (place + suc n ≡ i)
        ⊎ (place + suc n ≡ count + i)
        → nth_after count (place_after count place) n ≡ i
    go later (inl more) (inl here) =
        ap (λ (b : Bool). nth_after count (if b then suc place else 0) n)
        (lt-ltb (suc place) count more)
        ∙ later (suc place) more (inl (omega arith))
    go later (inl more) (inr round) =
        ap (λ (b : Bool). nth_after count (if b then suc place else 0) n)
        (lt-ltb (suc place) count more)
        ∙ later (suc place) more (inr (omega arith))
    go later (inr last) (inl here) = absurd (omega arith)
    go later (inr last) (inr round) =
        ap (λ (b : Bool). nth_after count (if b then suc place else 0) n)
        (le-ltb (suc place) count last)
        ∙ later 0 (omega arith) (inl (omega arith))

-- once round, each place is looked at
each_place : (count place : ℕ) (P : ℕ → Type 0) → place < count
    → ((n : ℕ) → n < count → P (nth_after count place (suc n))) → (i : ℕ) → i < count → P i
each_place count place P within round i below = go (cases_lt place i)
  where
    go : (place < i) ⊎ (i ≤ place) → P i
    go (inl before) =
        subst P (reaches count place (suc (i - suc place)) i within below (inl (omega arith)))
        (round (i - suc place) (omega arith))
    go (inr after) =
        subst P (reaches count place (suc ((count + i) - suc place)) i within below
        (inr (omega arith)))
        (round ((count + i) - suc place) (omega arith))

-- ---- a station that has no request

polls_none : (burst : ℕ) (may_poll fcb : Bool) (s : StationState)
    → polls_from burst may_poll fcb s Polling ≡ None
    → may_poll ≡ false
polls_none burst false fcb s none = refl
polls_none burst true fcb s none = go s.acd none
  where
    go : (acd : Bool)
        → (if acd then wants (Counted fcb Class1) (Class1Polling 1)
        else wants (Counted fcb Class2) (Class1Polling 0))
        ≡ None → true ≡ false
    go true e = cc
    go false e = cc

commands_none : (burst : ℕ) (may_poll fcb : Bool) (s : StationState) (command : Option (List ℕ))
    → commands_from burst may_poll fcb s command ≡ None →
    (may_poll ≡ false) × ((command ≡ None) ⊎ (s.dfc ≡ true))
commands_none burst may_poll fcb s None none = (polls_none burst may_poll fcb s none, inl refl)
commands_none burst may_poll fcb s (Some asdu) none = go s.dfc refl none
  where
    go : (b : Bool) → s.dfc ≡ b
        → (if b then polls_from burst may_poll fcb s Polling else wanted_command fcb asdu) ≡ None →
        (may_poll ≡ false) × ((Some asdu ≡ None) ⊎ (s.dfc ≡ true))
    go true full h = (polls_none burst may_poll fcb s h, inr full)
    go false open_ h = cc

pub left : (burst : ℕ) (may_poll : Bool) (s : StationState) (command : Option (List ℕ))
    (link : Link)
    → wanted_by burst may_poll false s command link Starting ≡ None →
    (may_poll ≡ false) × IsLeftToPolls s command link
left burst may_poll s command Down none = cc
left burst may_poll s command Available none = cc
left burst may_poll s command (Next fcb) none = commands_none burst may_poll fcb s command none
left burst may_poll s command (Held fcb service missed) none =
    go (is_doubted s missed) may_poll (is_poll service) refl none
  where
    go : (doubted leave poll : Bool) → is_poll service ≡ poll → (if doubted then wants Status Over
        else if leave || not poll then wants (Counted fcb service) Commanding else None) ≡ None →
        (leave ≡ false) × (is_poll service ≡ true)
    go true leave poll e h = cc
    go false true poll e h = cc
    go false false false e h = cc
    go false false true e h = (refl, e)

each_left : (p : Primary) (may_poll : Bool) (waiting : CommandsWaiting) → p.turn < length p.stations
    → p.outstanding ≡ None
    → sending p may_poll waiting ≡ None → (i : ℕ) → i < length p.stations →
    (may_poll ≡ false) × IsLeftToPolls (station_at p.stations i) (waiting i)
    (station_at p.stations i).link
each_left p may_poll waiting within free none =
    each_place (length p.stations) p.turn (λ i. (may_poll ≡ false)
    × IsLeftToPolls (station_at p.stations i) (waiting i) (station_at p.stations i).link) within
    (λ n less. left p.settings.burst may_poll
    (station_at p.stations (nth_after (length p.stations) p.turn (suc n)))
    (waiting (nth_after (length p.stations) p.turn (suc n)))
    (station_at p.stations (nth_after (length p.stations) p.turn (suc n))).link
    (rests p may_poll waiting free none n less))

pub leave : (p : Primary) (may_poll : Bool) (waiting : CommandsWaiting) → p.turn < length p.stations
    → p.outstanding ≡ None
    → sending p may_poll waiting ≡ None → may_poll ≡ false
leave p may_poll waiting within free none =
    (each_left p may_poll waiting within free none p.turn within).0

pub stations : (p : Primary) (may_poll : Bool) (waiting : CommandsWaiting)
    → p.turn < length p.stations → p.outstanding ≡ None
    → sending p may_poll waiting ≡ None → (i : ℕ) → i < length p.stations →
    IsLeftToPolls (station_at p.stations i) (waiting i) (station_at p.stations i).link
stations p may_poll waiting within free none i below =
    (each_left p may_poll waiting within free none i below).1

-- who is left to polls is up, and holds no command
left_up : (s : StationState) (command : Option (List ℕ)) (link : Link)
    → IsLeftToPolls s command link → is_up link ≡ true
left_up s command Down rest = absurd rest
left_up s command Available rest = absurd rest
left_up s command (Next fcb) rest = refl
left_up s command (Held fcb service missed) rest = refl

left_free : (s : StationState) (command : Option (List ℕ)) (link : Link)
    → IsLeftToPolls s command link → holds_command link ≡ false
left_free s command Down rest = refl
left_free s command Available rest = refl
left_free s command (Next fcb) rest = refl
left_free s command (Held fcb Class1 missed) rest = refl
left_free s command (Held fcb Class2 missed) rest = refl
left_free s command (Held fcb (Command asdu) missed) rest = cc

pub up : (p : Primary) (may_poll : Bool) (waiting : CommandsWaiting) → p.turn < length p.stations
    → p.outstanding ≡ None
    → sending p may_poll waiting ≡ None → (i : ℕ) → i < length p.stations →
    is_up (station_at p.stations i).link ≡ true
up p may_poll waiting within free none i below =
    left_up (station_at p.stations i) (waiting i) (station_at p.stations i).link
    (stations p may_poll waiting within free none i below)

pub no_command : (p : Primary) (may_poll : Bool) (waiting : CommandsWaiting)
    → p.turn < length p.stations → p.outstanding ≡ None
    → sending p may_poll waiting ≡ None → (i : ℕ) → i < length p.stations →
    holds_command (station_at p.stations i).link ≡ false
no_command p may_poll waiting within free none i below =
    left_free (station_at p.stations i) (waiting i) (station_at p.stations i).link
    (stations p may_poll waiting within free none i below)

-- a primary that has just been made has a request
pub begins : (settings : LinkSettings) (addresses : List ℕ) (may_poll : Bool)
    (waiting : CommandsWaiting) → 0 < length addresses
    → sending (start settings addresses) may_poll waiting ≡ None → ⊥
begins settings [] may_poll waiting some none = absurd (omega arith)
begins settings (a ∷ addresses) may_poll waiting some none = cc

-- ---- `next` again

out_stays : (p : Primary) (o : Outstanding) → p.outstanding ≡ Some o
    → (now : ℕ) (may_poll : Bool) (waiting : CommandsWaiting)
    → (sending p may_poll waiting ≡ None) × (asked p now may_poll waiting ≡ p)
out_stays p o e now may_poll waiting = (
  ap (λ (x : Option Outstanding). sending_from p x may_poll waiting) e,
  ap (λ (x : Option Outstanding). asked_from p x now may_poll waiting) e,
)

sent_stays : (p : Primary) (now : ℕ) (may_poll : Bool) (waiting : CommandsWaiting) (s : Sending)
    → sending p may_poll waiting ≡ Some s
    → (at : ℕ) (later : Bool) (others : CommandsWaiting) →
    (sending (asked p now may_poll waiting) later others ≡ None)
    × (asked (asked p now may_poll waiting) at later others ≡ asked p now may_poll waiting)
sent_stays p now may_poll waiting s sent at later others = go p.outstanding sent
  where
    by : (c : Option Chosen) → sending_by c ≡ Some s
        → (sending (after_choice p now c) later others ≡ None)
        × (asked (after_choice p now c) at later others ≡ after_choice p now c)
    by None e = cc
    by (Some c) e = out_stays (after_choice p now (Some c)) _ refl at later others

    go : (o : Option Outstanding) → sending_from p o may_poll waiting ≡ Some s →
        (sending (asked_from p o now may_poll waiting) later others ≡ None)
        × (asked (asked_from p o now may_poll waiting) at later others
        ≡ asked_from p o now may_poll waiting)
    go (Some o) e = cc
    go None e = by (choice p may_poll waiting) e

pub out : (p : Primary) (now : ℕ) (may_poll : Bool) (waiting : CommandsWaiting) (s : Sending)
    → sending p may_poll waiting ≡ Some s
    → (later : Bool) (others : CommandsWaiting)
    → sending (asked p now may_poll waiting) later others ≡ None
out p now may_poll waiting s sent later others =
    (sent_stays p now may_poll waiting s sent 0 later others).0

pub same : (p : Primary) (now : ℕ) (may_poll : Bool) (waiting : CommandsWaiting) (s : Sending)
    → sending p may_poll waiting ≡ Some s
    → (at : ℕ) (later : Bool) (others : CommandsWaiting) →
    asked (asked p now may_poll waiting) at later others ≡ asked p now may_poll waiting
same p now may_poll waiting s sent at later others =
    (sent_stays p now may_poll waiting s sent at later others).1

-- a turn that is over has no request
over_none : (burst : ℕ) (may_poll : Bool) (s : StationState) (command : Option (List ℕ))
    (link : Link)
    → wanted_by burst may_poll false s command link Over ≡ None
over_none burst may_poll s command Down = refl
over_none burst may_poll s command Available = refl
over_none burst may_poll s command (Next fcb) = refl
over_none burst may_poll s command (Held fcb service missed) = refl

others_none : (w : Option Wanted) (place : ℕ) (others : Option Chosen) → chosen_or w place others
    ≡ None → others ≡ None
others_none None place others e = e
others_none (Some w) place others e = cc

pub over : (p : Primary) (now : ℕ) (may_poll : Bool) (waiting : CommandsWaiting)
    → sending p may_poll waiting ≡ None
    → sending (asked p now may_poll waiting) may_poll waiting ≡ None
over p now may_poll waiting none = go p.outstanding refl
  where
    ended : Primary
    ended = after_choice p now None

    by : (c : Option Chosen) → p.outstanding ≡ None → choice p may_poll waiting ≡ c → sending_by c
        ≡ None
        → sending (after_choice p now c) may_poll waiting ≡ None
    by (Some c) free is e = cc
    by None free is e =
        ap (λ (o : Option Outstanding). sending_from ended o may_poll waiting) free
        ∙ ap sending_by
        (ap (λ (w : Option Wanted). chosen_or w p.turn
        (first_after p.settings.burst may_poll p.stations waiting (length p.stations) p.turn))
        (over_none p.settings.burst may_poll (station_at p.stations p.turn) (waiting p.turn)
        (station_at p.stations p.turn).link)
        ∙ others_none _ p.turn _ is)

    go : (o : Option Outstanding) → p.outstanding ≡ o
        → sending (asked_from p o now may_poll waiting) may_poll waiting ≡ None
    go (Some o) e = none
    go None e =
        by (choice p may_poll waiting) e refl
        (ap (λ (o : Option Outstanding). sending_from p o may_poll waiting)
        (sym e)
        ∙ none)
