-- What goes out next behind a request, by what the laws of the line say of whole lists of calls.
use Rattle.std.specs.Prelude.{◌||◌, ◌==◌}
use Rattle.std.proofs.Common.{◌≡◌, ◌≢◌, ℕ, suc, Bool, true, false, List, [], ◌∷◌, ◌++◌, Option}
use Rattle.std.proofs.Common.{Some, None, refl, sym, ap, subst, ◌∙◌, ◌⊎◌, inl, inr, if◌then◌else◌}
use Rattle.std.proofs.lemmas.Bool.{eq-eqb, eqb-true}
use Rattle.link.specs.declared.service.Asked.{Asked}
use Rattle.link.specs.declared.service.Asked.TheVariants.{Counted}
use Rattle.link.specs.declared.service.Service.TheVariants.{Class1, Class2, Command}
use Rattle.link.specs.declared.settings.LinkSettings.{LinkSettings}
use Rattle.link.specs.AtOnce.{latest_by, latest_after, RepeatIsNext, RepeatsComeAtOnce}
use Rattle.link.specs.AtOnce.{is_spent, began_by, began_out, began_after}
use Rattle.link.specs.AtOnce.{TurnsGoOn}
use Rattle.link.specs.Bursts.{Row, Polls, Commanded, Other, one_more, row_by_repeat}
use Rattle.link.specs.Bursts.{row_by, row_by_request, row_out, row_after}
use Rattle.link.specs.Exchanges.{Sending}
use Rattle.link.specs.Primary.{Outstanding, Primary, start, sending, sending_from}
use Rattle.link.specs.Procedure.{is_held, has_repeats, is_service}
use Rattle.link.specs.Runs.{Call, Next, Octets, Due, GivesUp, Doubts, called, called_all}
use Rattle.link.specs.Turns.{CommandsWaiting, station_at}
use Rattle.link.specs.Carried.{reseated}
use Rattle.link.specs.declared.seat.ResumedStation.{ResumedStation}
use Rattle.delivery.specs.NextRequests.{Begins, ArePassing, IsOutNoMore}

-- A request goes out only if none is outstanding.
free : (p : Primary) (o : Option Outstanding) (may_poll : Bool) (waiting : CommandsWaiting)
    (s : Sending) → sending_from p o may_poll waiting ≡ Some s → o ≡ None
free p (Some o) may_poll waiting s goes = cc
free p None may_poll waiting s goes = refl

-- ---- repeats

rest_repeats : (p : Primary) (latest : Option Sending) (first later : List Call)
    → RepeatsComeAtOnce p latest (first ++ later)
    → (l : Option Sending) × RepeatsComeAtOnce (called_all p first) l later
rest_repeats p latest [] later all = (latest, all)
rest_repeats p latest (call ∷ first) later all =
    rest_repeats (called p call) (latest_after p call latest) first later all.1

latest_out : (p : Primary) (o : Option Outstanding) (may_poll : Bool) (waiting : CommandsWaiting)
    (latest : Option Sending) → (o ≡ None → ⊥) → latest_by p o may_poll waiting latest ≡ latest
latest_out p None may_poll waiting latest out = absurd (out refl)
latest_out p (Some o) may_poll waiting latest out = refl

passing_repeats : (p : Primary) (latest : Option Sending) (calls : List Call) (last : Call)
    → ArePassing p calls → RepeatsComeAtOnce p latest (calls ++ last ∷ [])
    → RepeatIsNext (called_all p calls) latest last
passing_repeats p latest [] last passing all = all.0
passing_repeats p latest (Next now may_poll waiting ∷ calls) last passing all =
    let call : Call = Next now may_poll waiting in
    passing_repeats (called p call) latest calls last passing.1
    (subst (λ (l : Option Sending). RepeatsComeAtOnce (called p call) l (calls ++ last ∷ []))
    (latest_out p p.outstanding may_poll waiting latest passing.0) all.1)
passing_repeats p latest (Octets octets ∷ calls) last passing all =
    passing_repeats (called p (Octets octets)) latest calls last passing all.1
passing_repeats p latest (Due now ∷ calls) last passing all =
    passing_repeats (called p (Due now)) latest calls last passing all.1
passing_repeats p latest (GivesUp station ∷ calls) last passing all = absurd passing
passing_repeats p latest (Doubts ∷ calls) last passing all = absurd passing

-- the latest request is the one that goes out
latest_goes : (p : Primary) (now : ℕ) (may_poll : Bool) (waiting : CommandsWaiting) (s : Sending)
    (latest : Option Sending) → sending p may_poll waiting ≡ Some s
    → latest_after p (Next now may_poll waiting) latest ≡ Some s
latest_goes p now may_poll waiting s latest goes =
    ap (λ (o : Option Outstanding). latest_by p o may_poll waiting latest)
    (free p p.outstanding may_poll waiting s goes) ∙ goes

pub latest_is : (p : Primary) (now : ℕ) (may_poll : Bool) (waiting : CommandsWaiting)
    (latest : Option Sending) → p.outstanding ≡ None
    → latest_after p (Next now may_poll waiting) latest ≡ sending p may_poll waiting
latest_is p now may_poll waiting latest out =
    ap (λ (o : Option Outstanding). latest_by p o may_poll waiting latest) out

-- on each line that begins
abbrev pub Repeats : Type 0
Repeats = (p : Primary) (calls : List Call) → Begins p → RepeatsComeAtOnce p None calls

pub all_repeats : ((settings : LinkSettings) (addresses : List ℕ) (calls : List Call)
    → RepeatsComeAtOnce (start settings addresses) None calls)
    → ((settings : LinkSettings) (seats : List ResumedStation) (before : Primary)
    (calls : List Call) → RepeatsComeAtOnce (reseated settings seats before) None calls)
    → Repeats
all_repeats new old p calls (inl (settings, addresses, is)) =
    subst (λ (q : Primary). RepeatsComeAtOnce q None calls) (sym is) (new settings addresses calls)
all_repeats new old p calls (inr (settings, seats, before, is)) =
    subst (λ (q : Primary). RepeatsComeAtOnce q None calls) (sym is)
    (old settings seats before calls)

pub again : Repeats → (p q : Primary) (s : Sending)
    (leave : Bool) (waiting : CommandsWaiting) → IsOutNoMore p q s
    → is_service s.request ≡ true
    → has_repeats q.settings (station_at q.stations s.station).link ≡ true
    → sending q leave waiting ≡ Some s
again law p q s leave waiting out served left =
    let call : Call = Next out.now out.may_poll out.waiting in
    let last : Call = Next 0 leave waiting in
    let rest = rest_repeats out.line None out.first
    (call ∷ (out.meanwhile ++ last ∷ []))
    (law out.line (out.first ++ call ∷ (out.meanwhile ++ last ∷ [])) out.begins) in
    let here : RepeatsComeAtOnce p rest.0 (call ∷ (out.meanwhile ++ last ∷ [])) =
    subst (λ (r : Primary). RepeatsComeAtOnce r rest.0 (call ∷ (out.meanwhile ++ last ∷ [])))
    out.before rest.1 in
    let on : RepeatsComeAtOnce (called p call) (Some s) (out.meanwhile ++ last ∷ []) =
    subst (λ (l : Option Sending).
    RepeatsComeAtOnce (called p call) l (out.meanwhile ++ last ∷ []))
    (latest_goes p out.now out.may_poll out.waiting s rest.0 out.goes) here.1 in
    let next : RepeatIsNext q (Some s) last =
    subst (λ (r : Primary). RepeatIsNext r (Some s) last) out.behind
    (passing_repeats (called p call) (Some s) out.meanwhile last out.passing on) in
    next served out.over left

-- ---- polls behind commands

pub row_goes : (p : Primary) (now : ℕ) (may_poll : Bool) (waiting : CommandsWaiting)
    (station : ℕ) (fcb : Bool) (asdu : List ℕ) (row : Row)
    → sending p may_poll waiting
    ≡ Some (record { station = station; request = Counted fcb (Command asdu) })
    → is_held (station_at p.stations station).link ≡ false
    → row_after p (Next now may_poll waiting) row ≡ Commanded station
row_goes p now may_poll waiting station fcb asdu row goes new =
    let s : Sending = record { station = station; request = Counted fcb (Command asdu) } in
    ap (λ (o : Option Outstanding). row_out p o may_poll waiting row)
    (free p p.outstanding may_poll waiting s goes)
    ∙ (ap (λ (x : Option Sending). row_by p x row) goes
    ∙ ap (λ (b : Bool). row_by_request b
    (has_repeats p.settings (station_at p.stations station).link) station
    (Counted fcb (Command asdu)) row) new)

-- the row behind a new poll
new_row : (p : Primary) (now : ℕ) (may_poll : Bool) (waiting : CommandsWaiting) (station : ℕ)
    (request : Asked) (row : Row)
    → sending p may_poll waiting ≡ Some (record { station = station; request = request })
    → is_held (station_at p.stations station).link ≡ false
    → row_after p (Next now may_poll waiting) row
    ≡ row_by_request false (has_repeats p.settings (station_at p.stations station).link) station
    request row
new_row p now may_poll waiting station request row goes new =
    let s : Sending = record { station = station; request = request } in
    ap (λ (o : Option Outstanding). row_out p o may_poll waiting row)
    (free p p.outstanding may_poll waiting s goes)
    ∙ (ap (λ (x : Option Sending). row_by p x row) goes
    ∙ ap (λ (b : Bool). row_by_request b
    (has_repeats p.settings (station_at p.stations station).link) station request row) new)

pub class2_row : (p : Primary) (now : ℕ) (may_poll : Bool) (waiting : CommandsWaiting)
    (station : ℕ) (fcb : Bool) (row : Row)
    → sending p may_poll waiting
    ≡ Some (record { station = station; request = Counted fcb Class2 })
    → is_held (station_at p.stations station).link ≡ false
    → row_after p (Next now may_poll waiting) row ≡ Polls station 0
class2_row p now may_poll waiting station fcb row goes new =
    new_row p now may_poll waiting station (Counted fcb Class2) row goes new

pub class1_row : (p : Primary) (now : ℕ) (may_poll : Bool) (waiting : CommandsWaiting)
    (station many : ℕ) (fcb : Bool)
    → sending p may_poll waiting
    ≡ Some (record { station = station; request = Counted fcb Class1 })
    → is_held (station_at p.stations station).link ≡ false
    → row_after p (Next now may_poll waiting) (Polls station many) ≡ Polls station (suc many)
class1_row p now may_poll waiting station many fcb goes new =
    new_row p now may_poll waiting station (Counted fcb Class1) (Polls station many) goes new
    ∙ ap (λ (b : Bool). if b then Polls station (suc many) else Polls station 1)
    (eq-eqb station station refl)

one_only : (station : ℕ) (row : Row) → ((many : ℕ) → row ≢ Polls station many)
    → one_more station row ≡ Polls station 1
one_only station Other none = refl
one_only station (Commanded other) none = refl
one_only station (Polls other many) none = go (other == station) refl
  where
    go : (b : Bool) → (other == station) ≡ b
        → (if b then Polls station (suc many) else Polls station 1) ≡ Polls station 1
    go true e = absurd (none many (ap (λ (k : ℕ). Polls k many) (eqb-true other station e)))
    go false e = refl

pub first_row : (p : Primary) (now : ℕ) (may_poll : Bool) (waiting : CommandsWaiting)
    (station : ℕ) (fcb : Bool) (row : Row)
    → sending p may_poll waiting
    ≡ Some (record { station = station; request = Counted fcb Class1 })
    → is_held (station_at p.stations station).link ≡ false
    → ((many : ℕ) → row ≢ Polls station many)
    → row_after p (Next now may_poll waiting) row ≡ Polls station 1
first_row p now may_poll waiting station fcb row goes new other =
    new_row p now may_poll waiting station (Counted fcb Class1) row goes new
    ∙ one_only station row other

-- a repeat that is left
repeat_row : (p : Primary) (now : ℕ) (may_poll : Bool) (waiting : CommandsWaiting) (s : Sending)
    (row : Row) → sending p may_poll waiting ≡ Some s
    → is_held (station_at p.stations s.station).link ≡ true
    → has_repeats p.settings (station_at p.stations s.station).link ≡ true
    → row_after p (Next now may_poll waiting) row ≡ row_by_repeat row true s.station
repeat_row p now may_poll waiting s row goes held has =
    ap (λ (o : Option Outstanding). row_out p o may_poll waiting row)
    (free p p.outstanding may_poll waiting s goes)
    ∙ (ap (λ (x : Option Sending). row_by p x row) goes
    ∙ (ap (λ (b : Bool). row_by_request b
    (has_repeats p.settings (station_at p.stations s.station).link) s.station s.request row) held
    ∙ ap (λ (b : Bool). row_by_repeat row b s.station) has))

pub again_row : (p : Primary) (now many : ℕ) (may_poll : Bool) (waiting : CommandsWaiting)
    (s : Sending) → sending p may_poll waiting ≡ Some s
    → is_held (station_at p.stations s.station).link ≡ true
    → has_repeats p.settings (station_at p.stations s.station).link ≡ true
    → (row_after p (Next now may_poll waiting) (Polls s.station many) ≡ Polls s.station many)
    × (row_after p (Next now may_poll waiting) (Commanded s.station) ≡ Commanded s.station)
again_row p now many may_poll waiting s goes held has = (
  repeat_row p now may_poll waiting s (Polls s.station many) goes held has
      ∙ ap (λ (b : Bool). if b then Polls s.station many else Other)
      (eq-eqb s.station s.station refl),
  repeat_row p now may_poll waiting s (Commanded s.station) goes held has
      ∙ ap (λ (b : Bool). if b then Commanded s.station else Other)
      (eq-eqb s.station s.station refl),
)

pub nothing_new : (p : Primary) (now : ℕ) (may_poll : Bool) (waiting : CommandsWaiting)
    (o : Outstanding) (row : Row) (latest : Option Sending) (began : Option ℕ)
    → p.outstanding ≡ Some o
    → (row_after p (Next now may_poll waiting) row ≡ row)
    × (latest_after p (Next now may_poll waiting) latest ≡ latest)
    × (began_after p (Next now may_poll waiting) began ≡ began)
nothing_new p now may_poll waiting o row latest began out = (
  ap (λ (x : Option Outstanding). row_out p x may_poll waiting row) out,
  ap (λ (x : Option Outstanding). latest_by p x may_poll waiting latest) out,
  ap (λ (x : Option Outstanding). began_out p x may_poll waiting began) out,
)

spent : (p : Primary) (station : ℕ) → is_held (station_at p.stations station).link ≡ true
    → has_repeats p.settings (station_at p.stations station).link ≡ false
    → is_spent p station ≡ true
spent p station held none = rw (held, none) refl

pub began_goes : (p : Primary) (now : ℕ) (may_poll : Bool) (waiting : CommandsWaiting) (s : Sending)
    (began : Option ℕ) → sending p may_poll waiting ≡ Some s
    → is_held (station_at p.stations s.station).link ≡ true
    → has_repeats p.settings (station_at p.stations s.station).link ≡ false
    → began_after p (Next now may_poll waiting) began ≡ Some s.station
began_goes p now may_poll waiting s began goes held none =
    ap (λ (o : Option Outstanding). began_out p o may_poll waiting began)
    (free p p.outstanding may_poll waiting s goes)
    ∙ (ap (λ (x : Option Sending). began_by p x) goes
    ∙ ap (λ (b : Bool). if b then Some s.station else None) (spent p s.station held none))

-- on each line that begins
abbrev pub Turns : Type 0
Turns = (p : Primary) (calls : List Call) → Begins p → TurnsGoOn p None calls
