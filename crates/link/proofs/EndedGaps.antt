-- The sessions that ended with a gap are those of the whole run.
use Rattle.std.proofs.Common.{◌≡◌, ℕ, suc, ◌+◌, Bool, true, false, List, [], ◌∷◌, ◌++◌, length}
use Rattle.std.proofs.Common.{Option, Some, None, refl, sym, ap, ◌∙◌, append_assoc, arith}
use Rattle.std.proofs.Common.{if◌then◌else◌}
use Rattle.link.specs.Answers.{Frame, Service, Asked, Status, Reset, Counted, Answer, Ready}
use Rattle.link.specs.Answers.{Confirmed, Busy, Report, NoData, Unable}
use Rattle.link.specs.Exchanges.{Exchange, answer_to}
use Rattle.link.specs.Procedure.{LinkSettings, Link, Down, Available, Next, Held, after_outcome}
use Rattle.link.specs.Procedure.{after, MaySend, KeepsFrameCountBit, is_up}
use Rattle.link.specs.Outstation.{Outstation, Turn, OutstationRun}
use Rattle.link.specs.Delivery.{requests_of, pending_by, pending_after, is_reset, Session}
use Rattle.link.specs.Delivery.{with_first, before_reset, sessions}
use Rattle.link.specs.Gaps.{resets_in, gap_numbered, gap_in, as_numbers, gaps_from, ended_with_gap}
use Rattle.link.proofs.OneMore.{nil, pending_push, resets_push}
use Rattle.link.proofs.Marks.{down_mark}
use Rattle.link.proofs.KnownFrom.{reset_learns}

-- what a session has been so far, and the rest of it
abbrev pub continued : (part : List Exchange) → (done : List Turn) → Session → Session
continued part done rest = record { exchanges = part ++ rest.exchanges; turns = done ++ rest.turns }

-- In a session with this number: what it has been so far leaves the same pending as all exchanges
-- before.
in_session : (station number : ℕ) (before part xs : List Exchange) (done turns : List Turn)
    → length xs ≡ length turns →
    pending_after station None before ≡ pending_after station None part → resets_in station before
    ≡ number →
    gaps_from station before xs
    ≡ ended_with_gap station number (continued part done (before_reset station xs turns)
    ∷ sessions station xs turns)
in_session station number before part [] done [] even same resets = refl
in_session station number before part [] done (turn ∷ turns) even same resets = cc
in_session station number before part (x ∷ xs) done [] even same resets = cc
in_session station number before part (x ∷ xs) done (turn ∷ turns) even same resets =
    go (is_reset x.request (answer_to station x)) refl
    (λ number' before' part' done'. in_session station number' before' part' xs done' turns later)
  where
    rest : Session
    rest = before_reset station xs turns

    later : length xs ≡ length turns
    later = cc

    pushed : pending_after station None (before ++ x ∷ [])
        ≡ pending_by x.request (answer_to station x) (pending_after station None part)
    pushed =
        pending_push station None before x
        ∙ ap (λ (p : Option Service). pending_by x.request (answer_to station x) p) same

    go : (b : Bool) → is_reset x.request (answer_to station x) ≡ b →
        ((number' : ℕ) (before' part' : List Exchange) (done' : List Turn) →
        pending_after station None before' ≡ pending_after station None part'
        → resets_in station before' ≡ number' →
        gaps_from station before' xs
        ≡ ended_with_gap station number' (continued part' done' (before_reset station xs turns)
        ∷ sessions station xs turns)) →
        (if b then as_numbers (gap_in station before) else [])
        ++ gaps_from station (before ++ x ∷ []) xs
        ≡ ended_with_gap station number
        (continued part done (if b then record {
          exchanges = [];
          turns =
              [];
        } else with_first x turn (before_reset station xs turns))
        ∷ (if b then with_first x turn (before_reset station xs turns)
        ∷ sessions station xs turns else sessions station xs turns))
    go true e from =
        ap (λ (l : List ℕ). as_numbers (gap_in station before) ++ l)
        (from (suc number) (before ++ x ∷ []) (x ∷ []) (turn ∷ [])
        (pushed
        ∙ (reset_learns x.request (answer_to station x) (pending_after station None part) e).1
        ∙ sym (reset_learns x.request (answer_to station x) None e).1)
        (resets_push station before x
        ∙ ap (λ (b : Bool). resets_in station before + (if b then 1 else 0)) e
        ∙ ap (λ (n : ℕ). n + 1) resets ∙ omega arith))
        ∙ ap (λ (g : Option ℕ). as_numbers g ++ ended_with_gap station (suc number)
        (with_first x turn rest
        ∷ sessions station xs turns))
        (ap (λ (n : ℕ). gap_numbered n (pending_after station None before)) resets
        ∙ ap (λ (p : Option Service). gap_numbered number p) same
        ∙ ap (λ (es : List Exchange). gap_numbered number (pending_after station None es))
        (sym (nil part)))
    go false e from =
        from number (before ++ x ∷ []) (part ++ x ∷ []) (done ++ turn ∷ [])
        (pushed ∙ sym (pending_push station None part x))
        (resets_push station before x
        ∙ ap (λ (b : Bool). resets_in station before + (if b then 1 else 0)) e
        ∙ ap (λ (n : ℕ). n + 0) resets ∙ omega arith)
        ∙ ap (λ (es : List Exchange). ended_with_gap station number
        (record { exchanges = es; turns = (done ++ turn ∷ []) ++ rest.turns }
        ∷ sessions station xs turns))
        (append_assoc part (x ∷ []) rest.exchanges)
        ∙ ap (λ (ts : List Turn). ended_with_gap station number
        (record { exchanges = part ++ x ∷ rest.exchanges; turns = ts } ∷ sessions station xs turns))
        (append_assoc done (turn ∷ []) rest.turns)

-- While the station isn't up, what is no confirmed reset leaves it so, and nothing pending.
stays_down : (settings : LinkSettings) (link : Link) (request : Asked) (front : Option Frame)
    (closed : Bool)
    (m : Option Answer) → MaySend link request →
    is_up link ≡ false → is_reset request m ≡ false →
    (is_up (after_outcome settings m request closed
    link) ≡ false)
    × (pending_by request m None ≡ None)
stays_down settings Down Status front closed None may down none = (refl, refl)
stays_down settings Down Status front closed (Some Ready) may down none = (refl, refl)
stays_down settings Down Status front closed (Some Confirmed) may down none = (refl, refl)
stays_down settings Down Status front closed (Some Busy) may down none = (refl, refl)
stays_down settings Down Status front closed (Some (Report asdu)) may down none = (refl, refl)
stays_down settings Down Status front closed (Some NoData) may down none = (refl, refl)
stays_down settings Down Status front closed (Some Unable) may down none = (refl, refl)
stays_down settings Down Reset front closed m may down none = absurd may
stays_down settings Down (Counted fcb service) front closed m may down none = absurd may
stays_down settings Available Status front closed None may down none = (refl, refl)
stays_down settings Available Status front closed (Some Ready) may down none = (refl, refl)
stays_down settings Available Status front closed (Some Confirmed) may down none = (refl, refl)
stays_down settings Available Status front closed (Some Busy) may down none = (refl, refl)
stays_down settings Available Status front closed (Some (Report asdu)) may down none = (refl, refl)
stays_down settings Available Status front closed (Some NoData) may down none = (refl, refl)
stays_down settings Available Status front closed (Some Unable) may down none = (refl, refl)
stays_down settings Available Reset front closed None may down none = (refl, refl)
stays_down settings Available Reset front closed (Some Ready) may down none = (refl, refl)
stays_down settings Available Reset front closed (Some Confirmed) may down none = cc
stays_down settings Available Reset front closed (Some Busy) may down none = (refl, refl)
stays_down settings Available Reset front closed (Some (Report asdu)) may down none = (refl, refl)
stays_down settings Available Reset front closed (Some NoData) may down none = (refl, refl)
stays_down settings Available Reset front closed (Some Unable) may down none = (refl, refl)
stays_down settings Available (Counted fcb service) front closed m may down none = absurd may
stays_down settings (Next fcb) request front closed m may down none = cc
stays_down settings (Held fcb service missed) request front closed m may down none = cc

-- Before the first confirmed reset no service went out.
before_first : (settings : LinkSettings) (station : ℕ) (link : Link) (before xs : List Exchange)
    (turns : List Turn)
    → length xs ≡ length turns →
    is_up link ≡ false → KeepsFrameCountBit settings station link xs
    → pending_after station None before ≡ None
    → resets_in station before ≡ 0 →
    gaps_from station before xs ≡ ended_with_gap station 1 (sessions station xs turns)
before_first settings station link before [] [] even down keeps none resets = refl
before_first settings station link before [] (turn ∷ turns) even down keeps none resets = cc
before_first settings station link before (x ∷ xs) [] even down keeps none resets = cc
before_first settings station link before (x ∷ xs) (turn ∷ turns) even down keeps none resets =
    go (is_reset x.request (answer_to station x)) refl
    (λ down'. before_first settings station (after settings station x link) (before ++ x
    ∷ []) xs turns later down' keeps.1)
  where
    later : length xs ≡ length turns
    later = cc

    pushed : pending_after station None (before ++ x ∷ [])
        ≡ pending_by x.request (answer_to station x) None
    pushed =
        pending_push station None before x
        ∙ ap (λ (p : Option Service). pending_by x.request (answer_to station x) p) none

    go : (b : Bool) → is_reset x.request (answer_to station x) ≡ b →
        (is_up (after settings station x link) ≡ false
        → pending_after station None (before ++ x ∷ []) ≡ None →
        resets_in station (before ++ x ∷ []) ≡ 0 →
        gaps_from station (before ++ x ∷ []) xs
        ≡ ended_with_gap station 1 (sessions station xs turns)) →
        (if b then as_numbers (gap_in station before) else [])
        ++ gaps_from station (before ++ x ∷ []) xs
        ≡ ended_with_gap station 1 (if b then with_first x turn (before_reset station xs turns)
        ∷ sessions station xs turns else sessions station xs turns)
    go true e from =
        ap (λ (p : Option Service). as_numbers (gap_numbered (resets_in station before) p)
        ++ gaps_from station (before ++ x ∷ []) xs) none
        ∙ in_session station 1 (before ++ x ∷ []) (x ∷ []) xs (turn ∷ []) turns later pushed
        (resets_push station before x
        ∙ ap (λ (b : Bool). resets_in station before + (if b then 1 else 0)) e
        ∙ ap (λ (n : ℕ). n + 1) resets ∙ omega arith)
    go false e from =
        let stays = stays_down settings link x.request x.front x.closed (answer_to station x)
        keeps.0 down e in
        from (down_mark x.given_up _ stays.0) (pushed ∙ stays.1)
        (resets_push station before x
        ∙ ap (λ (b : Bool). resets_in station before + (if b then 1 else 0)) e
        ∙ ap (λ (n : ℕ). n + 0) resets ∙ omega arith)

pub gaps_ended : (settings : LinkSettings) (station : ℕ) (xs : List Exchange) (turns : List Turn)
    → KeepsFrameCountBit settings station Down xs →
    length xs ≡ length turns → gaps_from station [] xs
    ≡ ended_with_gap station 1 (sessions station xs turns)
gaps_ended settings station xs turns keeps even = before_first settings station Down
    [] xs turns even refl keeps refl refl

pub even_turns : (station : ℕ) (old end : Outstation) (xs : List Exchange) (turns : List Turn)
    → OutstationRun station old (requests_of xs) turns end →
    length xs ≡ length turns
even_turns station old end [] [] run = refl
even_turns station old end [] (turn ∷ turns) run = absurd run
even_turns station old end (x ∷ xs) [] run = absurd run
even_turns station old end (x ∷ xs) (turn ∷ turns) run =
    ap (λ (n : ℕ). suc n) (even_turns station run.0 end xs turns run.2)
