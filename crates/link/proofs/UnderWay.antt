-- Whether a command is under way, as the exchanges with its station show it.
use Rattle.std.specs.Prelude.{◌==◌}
use Rattle.std.proofs.Common.{◌≡◌, ℕ, suc, nat_lt, ◌&&◌, ◌||◌, not, slice_index, Bool}
use Rattle.std.proofs.Common.{true, false, List, [], ◌∷◌, ◌++◌, Option, Some, None, refl, sym, ap}
use Rattle.std.proofs.Common.{subst, ◌∙◌, if◌then◌else◌}
use Rattle.std.proofs.lemmas.Bool.{eqb-true}
use Rattle.ft12.specs.declared.frame.Front.{Front}
use Rattle.link.specs.Answers.{Frame, Service, Class1, Class2, Command, Asked, Status, Reset}
use Rattle.link.specs.Answers.{Counted, Answer, Ready, Confirmed, Busy, Report, NoData, Unable}
use Rattle.link.specs.Exchanges.{Exchange, OpenExchange, Exchanges, answer_to, as_list, view, views}
use Rattle.link.specs.Exchanges.{with_station}
use Rattle.link.specs.Procedure.{LinkSettings, Link, Down, Available, Next, Held, held}
use Rattle.link.specs.Procedure.{missed_so_far, after_outcome, after_silence, after, link_after}
use Rattle.link.specs.Procedure.{MaySend, is_up, is_held, holds_command}
use Rattle.link.specs.Delivery.{pending_by, pending_after, is_command_pending}
use Rattle.link.specs.UnderWay.{is_under_way}
use Rattle.link.specs.Turns.{station_at}
use Rattle.link.specs.Primary.{Outstanding, Primary, is_command, is_sending_command}
use Rattle.link.specs.Matching.{IsAllowed, IsAwaited, IsCurrent, AreLinks, MatchesBy}
use Rattle.link.proofs.Links.{nil, with_one, link_after-push}
use Rattle.link.proofs.Marks.{by_mark}
use Rattle.link.proofs.Matching.{unreceived}
use Rattle.link.proofs.Called.{links_at}
use Rattle.link.specs.Procedure.{Silence, Probed, probed_so_far, is_kept, spent_silence}
use Rattle.link.specs.Procedure.{short_silence}

-- ---- the link and what is pending

abbrev pub Suits : Link → Option Service → Type 0
Suits (Next fcb) pending = pending ≡ None
Suits (Held fcb service missed) pending = pending ≡ Some service
Suits link pending = Unit {0}

held_suits : (settings : LinkSettings) (fcb : Bool) (service : Service) (missed : ℕ)
    (probed : Probed) → Suits (held settings fcb service missed probed) (Some service)
held_suits settings fcb service missed probed =
    go (nat_lt settings.retries missed) (is_kept settings probed)
  where
    go : (b hold : Bool)
        → Suits (if b then (if hold then Held fcb service (spent_silence settings probed)
        else Down) else Held fcb service
        (short_silence missed probed)) (Some service)
    go true true = refl
    go true false = tt
    go false hold = refl

step_suits : (settings : LinkSettings) (request : Asked) (front : Option Frame) (closed : Bool)
    (m : Option Answer)
    (link : Link) (pending : Option Service) →
    Suits link pending →
    Suits (after_outcome settings m request closed
    link)
    (pending_by request m pending)
step_suits settings Status front closed None Down pending suits = tt
step_suits settings Status front closed None Available pending suits = tt
step_suits settings Status front closed None (Next fcb) pending suits = tt
step_suits settings Status front closed None (Held fcb service silence) pending suits = suits
step_suits settings Status front closed (Some Ready) Down pending suits = tt
step_suits settings Status front closed (Some Ready) Available pending suits = tt
step_suits settings Status front closed (Some Ready) (Next fcb) pending suits = tt
step_suits settings Status front closed (Some Ready) (Held fcb service silence) pending suits =
    suits
step_suits settings Status front closed (Some Confirmed) link pending suits = suits
step_suits settings Status front closed (Some Busy) link pending suits = suits
step_suits settings Status front closed (Some (Report asdu)) link pending suits = suits
step_suits settings Status front closed (Some NoData) link pending suits = suits
step_suits settings Status front closed (Some Unable) link pending suits = tt
step_suits settings Reset front closed None link pending suits = tt
step_suits settings Reset front closed (Some Ready) link pending suits = suits
step_suits settings Reset front closed (Some Confirmed) link pending suits = refl
step_suits settings Reset front closed (Some Busy) link pending suits = suits
step_suits settings Reset front closed (Some (Report asdu)) link pending suits = suits
step_suits settings Reset front closed (Some NoData) link pending suits = suits
step_suits settings Reset front closed (Some Unable) link pending suits = suits
step_suits settings (Counted fcb service) front true None link pending suits =
    held_suits settings fcb service (suc (missed_so_far link)) (probed_so_far link)
step_suits settings (Counted fcb service) front false None link pending suits = refl
step_suits settings (Counted fcb service) front closed (Some Ready) link pending suits = refl
step_suits settings (Counted fcb service) front closed (Some Confirmed) link pending suits = refl
step_suits settings (Counted fcb service) front closed (Some Busy) link pending suits = refl
step_suits settings (Counted fcb service) front closed (Some (Report asdu)) link pending suits =
    refl
step_suits settings (Counted fcb service) front closed (Some NoData) link pending suits = refl
step_suits settings (Counted fcb service) front closed (Some Unable) link pending suits = tt

all_suit : (settings : LinkSettings) (a : ℕ) (link : Link) (pending : Option Service)
    (xs : List Exchange)
    → Suits link pending →
    Suits (link_after settings a link xs) (pending_after a pending xs)
all_suit settings a link pending [] suits = suits
all_suit settings a link pending (x ∷ xs) suits =
    all_suit settings a (after settings a x link) (pending_by x.request (answer_to a x) pending) xs
    (by_mark (λ (l : Link). Suits l (pending_by x.request (answer_to a x) pending)) x.given_up _
    (step_suits settings x.request x.front x.closed (answer_to a x) link pending suits) tt)

command_held : (fcb : Bool) (service : Service) (missed : Silence)
    → is_command_pending (Some service) ≡ holds_command (Held fcb service missed)
command_held fcb Class1 missed = refl
command_held fcb Class2 missed = refl
command_held fcb (Command asdu) missed = refl

suits_holds : (link : Link) (pending : Option Service) → Suits link pending
    → (is_up link && is_command_pending pending) ≡ holds_command link
suits_holds Down pending suits = refl
suits_holds Available pending suits = refl
suits_holds (Next fcb) pending suits = ap is_command_pending suits
suits_holds (Held fcb service missed) pending suits = ap is_command_pending suits
    ∙ command_held fcb service missed

under_way : (settings : LinkSettings) (a : ℕ) (xs : List Exchange)
    → is_under_way settings a xs ≡ holds_command (link_after settings a Down xs)
under_way settings a xs = suits_holds (link_after settings a Down xs) (pending_after a None xs)
    (all_suit settings a Down None xs tt)

-- ---- the machine

-- a request that went out and isn't answered yet
sent_holds : (settings : LinkSettings) (request : Asked) (link : Link) → MaySend link request →
    holds_command (after_silence settings request false link)
    ≡ (holds_command link || is_command request)
sent_holds settings Status Down may = refl
sent_holds settings Status Available may = refl
sent_holds settings Status (Next fcb) may = absurd may
sent_holds settings Status (Held fcb Class1 missed) may = refl
sent_holds settings Status (Held fcb Class2 missed) may = refl
sent_holds settings Status (Held fcb (Command asdu) missed) may = refl
sent_holds settings Reset Down may = refl
sent_holds settings Reset Available may = refl
sent_holds settings Reset (Next fcb) may = absurd may
sent_holds settings Reset (Held fcb service missed) may = absurd may
sent_holds settings (Counted sent service) Down may = absurd may
sent_holds settings (Counted sent service) Available may = absurd may
sent_holds settings (Counted sent Class1) (Next fcb) may = refl
sent_holds settings (Counted sent Class2) (Next fcb) may = refl
sent_holds settings (Counted sent (Command asdu)) (Next fcb) may = refl
sent_holds settings (Counted sent Class1) (Held fcb service missed) may =
    ap (λ (s : Service). holds_command (Held fcb s missed) || false) may.1
sent_holds settings (Counted sent Class2) (Held fcb service missed) may =
    ap (λ (s : Service). holds_command (Held fcb s missed) || false) may.1
sent_holds settings (Counted sent (Command asdu)) (Held fcb service missed) may =
    ap (λ (s : Service). holds_command (Held fcb s missed) || true) may.1

not_out : (holds here : Bool) → (not holds && not (here && false)) ≡ not holds
not_out true here = refl
not_out false true = refl
not_out false false = refl

not_there : (holds command : Bool) → (not holds && not (false && command)) ≡ not holds
not_there true command = refl
not_there false command = refl

neither : (holds command : Bool) → (not holds && not (true && command)) ≡ not (holds || command)
neither true command = refl
neither false command = refl

-- no command is on the line or held, exactly if the exchanges leave none held
pub not_awaited : (front : List ℕ → Front) (settings : LinkSettings) (addresses : List ℕ)
    (p : Primary) (e : Exchanges) (i : ℕ) → MatchesBy front settings addresses p e →
    (not (holds_command (station_at p.stations i).link)
    && not ((p.turn == i) && is_sending_command p.outstanding))
    ≡ not (holds_command (link_after settings (slice_index addresses i) Down
    (with_station i (views front (e.ended ++ as_list e.current)))))
not_awaited front settings addresses p e i t = go p.outstanding e.current refl t
  where
    ended : List OpenExchange
    ended = e.ended

    a : ℕ
    a = slice_index addresses i

    link : Link
    link = (station_at p.stations i).link

    go : (o : Option Outstanding) (c : Option OpenExchange) → p.outstanding ≡ o →
        MatchesBy front settings addresses p (record { ended = e.ended; current = c }) →
        (not (holds_command (station_at p.stations i).link)
        && not ((p.turn == i) && is_sending_command o))
        ≡ not (holds_command (link_after settings (slice_index addresses i) Down
        (with_station i (views front (e.ended ++ as_list c)))))
    go None c is t =
        not_out (holds_command link) (p.turn == i)
        ∙ ap (λ (l : Link). not (holds_command l)) (sym
        (links_at front settings addresses p (record { ended = ended; current = c }) None is t i))
    go (Some q) None is t =
        absurd (subst (λ (o : Option Outstanding). IsCurrent front addresses p.turn o None) is
        t.current)
    go (Some q) (Some x) is t =
        here (x.station == i) refl
        ∙ ap (λ (es : List Exchange). not (holds_command (link_after settings a Down es)))
        (sym (with_one front ended x i))
      where
        w : IsAwaited front (slice_index addresses p.turn) p.turn q x
        w = subst (λ (o : Option Outstanding). IsCurrent front addresses p.turn o (Some x)) is
            t.current

        links : AreLinks front settings addresses p.stations ended
        links = links_at front settings addresses p (record { ended = ended; current = Some x })
            (Some q) is t

        may : MaySend (station_at p.stations p.turn).link q.request
        may = subst (λ (o : Option Outstanding). IsAllowed p.stations p.turn o) is t.allowed

        here : (b : Bool) → (x.station == i) ≡ b →
            (not (holds_command (station_at p.stations i).link)
            && not ((p.turn == i) && is_command q.request))
            ≡ not (holds_command (link_after settings (slice_index addresses i) Down
            (with_station i (views front e.ended) ++ (if b then (view front x).exchange ∷ []
            else []))))
        here false other =
            ap (λ (c : Bool). not (holds_command link) && not (c && is_command q.request))
            (ap (λ (j : ℕ). j == i) (sym w.station) ∙ other)
            ∙ not_there (holds_command link) (is_command q.request)
            ∙ ap (λ (l : Link). not (holds_command l)) (sym (links i))
            ∙ ap (λ (es : List Exchange). not (holds_command (link_after settings a Down es)))
            (sym (nil (with_station i (views front ended))))
        here true this =
            let turn : p.turn ≡ i = sym w.station ∙ eqb-true x.station i this in
            let sent : MaySend link q.request =
            subst (λ (j : ℕ). MaySend (station_at p.stations j).link q.request) turn may in
            let none : answer_to a (view front x).exchange ≡ None =
            subst (λ (j : ℕ). answer_to (slice_index addresses j) (view front x).exchange ≡ None)
            turn
            (unreceived front (slice_index addresses p.turn) x q.arrived w.arrived) in
            ap (λ (c : Bool). not (holds_command link) && not (c && is_command q.request))
            (ap (λ (j : ℕ). j == i) (sym w.station) ∙ this)
            ∙ neither (holds_command link) (is_command q.request)
            ∙ ap not (sym (sent_holds settings q.request link sent))
            ∙ ap (λ (r : Asked). not (holds_command (after_silence settings r false link)))
            (sym w.request)
            ∙ ap (λ (b : Bool). not (holds_command (after_silence settings x.request b link)))
            (sym w.waits)
            ∙ ap
            (λ (m : Option Answer). not
            (holds_command (after_outcome settings m x.request x.closed link)))
            (sym none)
            ∙ ap (λ (b : Bool). not (holds_command (if b then Down
            else after_outcome settings (answer_to a (view front x).exchange) x.request x.closed
            link))) (sym w.stands)
            ∙ ap (λ (l : Link). not (holds_command (after settings a (view front x).exchange l)))
            (sym (links i))
            ∙ ap (λ (l : Link). not (holds_command l))
            (sym (link_after-push settings a Down (with_station i (views front ended))
            (view front x).exchange))

free_holds : (link : Link) → is_held link ≡ false → holds_command link ≡ false
free_holds Down free = refl
free_holds Available free = refl
free_holds (Next fcb) free = refl
free_holds (Held fcb service missed) free = cc

-- if no request is outstanding, and the station's service isn't held, no command is under way
pub none_under_way : (front : List ℕ → Front) (settings : LinkSettings) (addresses : List ℕ)
    (p : Primary) (e : Exchanges) (i : ℕ) → MatchesBy front settings addresses p e →
    p.outstanding ≡ None → is_held (station_at p.stations i).link ≡ false →
    is_under_way settings (slice_index addresses i)
    (with_station i (views front (e.ended ++ as_list e.current))) ≡ false
none_under_way front settings addresses p e i t none free =
    under_way settings (slice_index addresses i)
    (with_station i (views front (e.ended ++ as_list e.current)))
    ∙ ap holds_command (links_at front settings addresses p e None none t i)
    ∙ free_holds (station_at p.stations i).link free
