-- Commands: the first sendings that weren't answered busy are those that the outstation accepted.
use Rattle.std.proofs.Common.{◌≡◌, ◌≢◌, ℕ, Bool, true, false, nat_lt, suc, List, [], ◌∷◌, ◌++◌}
use Rattle.std.proofs.Common.{Option, Some, None, refl, sym, ap, subst, ◌∙◌, inl, inr}
use Rattle.std.proofs.Common.{if◌then◌else◌}
use Rattle.std.specs.List.{AllByRecursion}
use Rattle.link.specs.Answers.{Service, Class1, Class2, Command, Asked, Counted, Answer, Ready}
use Rattle.link.specs.Answers.{Confirmed, Busy, Report, NoData, Unable}
use Rattle.link.specs.Exchanges.{Exchange, answer_to}
use Rattle.link.specs.Procedure.{is_up, IsSteady, LinkSettings, Link, Down, Available, Held}
use Rattle.link.specs.Procedure.{after_outcome, after_silence, after, missed_so_far}
use Rattle.link.specs.Procedure.{KeepsFrameCountBit}
use Rattle.link.specs.Outstation.{Turn, all_done}
use Rattle.link.specs.Delivery.{learnt, pending_by, pending_after, MayOwe, is_reset, Session}
use Rattle.link.specs.Delivery.{with_first, before_reset, sessions, IsSessionKnown, commands}
use Rattle.link.specs.Delivery.{is_answered_busy, sendings_not_busy, AcceptsSendings}
use Rattle.link.specs.Delivery.{is_command_pending, AcceptsAllSendings}
use Rattle.link.proofs.Bit.{confirmed_reset}
use Rattle.link.proofs.Marks.{by_mark}
use Rattle.link.proofs.KnownFrom.{reset_learns, idle_down, reset_from_down}
use Rattle.link.proofs.Sendings.{commands-append, commands-nil, pending_command, SendingsLearnt}
use Rattle.link.proofs.Sendings.{LinkPends, drop_if, exchange_sendings, exchange_pends}
use Rattle.link.proofs.Sendings.{reset_sendings}
use Rattle.link.specs.Procedure.{Silence, Probed, Never, Next, is_service, probed_so_far, is_kept}
use Rattle.link.specs.Procedure.{spent_silence, short_silence, AskNoneThatIsUp}
use Rattle.link.specs.Answers.{Status, Reset}
use Rattle.std.proofs.Common.{◌&&◌}

-- From a place with this pending: the rest of its session, and the later ones.
pub record SendingsFrom (station : ℕ) (pending : Option Service) (rest : Session)
    (later : List Session) : Type 0 where
  pub present : SendingsLearnt station pending rest.exchanges
  pub each : AllByRecursion (λ (s : Session). SendingsLearnt station None s.exchanges) later

pub sendings_from : (settings : LinkSettings) (station : ℕ) (link : Link) (pending : Option Service)
    (xs : List Exchange) (turns : List Turn) →
    LinkPends link pending → KeepsFrameCountBit settings station link xs
    → SendingsFrom station pending (before_reset station xs turns) (sessions station xs turns)
sendings_from settings station link pending [] turns pends keeps =
    record { present = commands-nil (pending_command pending); each = tt }
sendings_from settings station link pending (x ∷ xs) [] pends keeps =
    record { present = commands-nil (pending_command pending); each = tt }
sendings_from settings station link pending (x ∷ xs) (turn ∷ turns) pends keeps =
    go (is_reset x.request (answer_to station x)) refl
    (sendings_from settings station (after settings station x link)
    (pending_by x.request (answer_to station x) pending) xs turns
    (by_mark (λ (l : Link). LinkPends l (pending_by x.request (answer_to station x) pending))
    x.given_up _ (exchange_pends settings station link pending x.request x.front x.closed
    (answer_to station x) pends keeps.0) tt)
    keeps.1)
  where
    go : (b : Bool) → is_reset x.request (answer_to station x) ≡ b →
        SendingsFrom station (pending_by x.request (answer_to station x) pending)
        (before_reset station xs turns)
        (sessions station xs turns) →
        SendingsFrom station pending
        (if b then record { exchanges = []; turns = [] }
        else with_first x turn (before_reset station xs turns))
        (if b then with_first x turn (before_reset station xs turns)
        ∷ sessions station xs turns else sessions station xs turns)
    go true is ih = record {
      present = commands-nil (pending_command pending);
      each = (
        reset_sendings station x.request (answer_to station x)
            (before_reset station xs turns).exchanges is
            (subst (λ (p : Option Service). SendingsLearnt station p
            (before_reset station xs turns).exchanges)
            (reset_learns x.request (answer_to station x) pending is).1 ih.present),
        ih.each,
      );
    }
    go false is ih = record {
      present = exchange_sendings settings station link pending x.request x.front x.closed
          (answer_to station x)
          (before_reset station xs turns).exchanges
          pends keeps.0 is refl ih.present;
      each = ih.each;
    }

-- What was accepted is what was sent and not answered busy, or all of it but the last.
pub accepts : (station : ℕ) (session : Session) → SendingsLearnt station None session.exchanges
    → IsSessionKnown station session → AcceptsSendings station session
accepts station session sent known = go (pending_after station None session.exchanges) known.may_owe
    sendings
  where
    done : commands (learnt station session.exchanges) ++ commands known.owed
        ≡ commands (all_done session.turns)
    done = sym (commands-append (learnt station session.exchanges) known.owed)
        ∙ ap commands known.whole

    sendings : sendings_not_busy station None session.exchanges
        ≡ commands (learnt station session.exchanges)
        ++ pending_command (pending_after station None session.exchanges)
    sendings = sym (drop_if (is_answered_busy station session.exchanges) _) ∙ sent

    equal : (p : Option Service) → commands known.owed ≡ pending_command p →
        sendings_not_busy station None session.exchanges
        ≡ commands (learnt station session.exchanges)
        ++ pending_command p → AcceptsSendings station session
    equal p e s =
        inl (sym done ∙ ap (λ (l : List (List ℕ)). commands (learnt station session.exchanges) ++ l)
        e
        ∙ sym s)

    go : (p : Option Service) → MayOwe p known.owed →
        sendings_not_busy station None session.exchanges
        ≡ commands (learnt station session.exchanges)
        ++ pending_command p → AcceptsSendings station session
    go None owed s = equal None (ap commands owed) s
    go (Some Class1) (inl owed) s = equal (Some Class1) (ap commands owed) s
    go (Some Class1) (inr owed) s = equal (Some Class1) (ap commands owed.1) s
    go (Some Class2) (inl owed) s = equal (Some Class2) (ap commands owed) s
    go (Some Class2) (inr owed) s = equal (Some Class2) (ap commands owed.1) s
    go (Some (Command c)) (inr owed) s = equal (Some (Command c)) (ap commands owed) s
    go (Some (Command c)) (inl owed) s =
        inr (
          c,
          ap (λ (l : List (List ℕ)). l ++ c ∷ [])
              (sym done ∙ ap (λ (l : List (List ℕ)). commands (learnt station session.exchanges)
              ++ l)
              (ap commands owed) ∙ commands-nil _) ∙ sym s,
        )

pub all_accept : (station : ℕ) (ss : List Session) → AllByRecursion
    (λ (s : Session). SendingsLearnt station None s.exchanges) ss →
    AllByRecursion (λ (s : Session). IsSessionKnown station s) ss
    → AllByRecursion (λ (s : Session). AcceptsSendings station s) ss
all_accept station [] sent known = tt
all_accept station (s ∷ ss) sent known =
    (accepts station s sent.0 known.0, all_accept station ss sent.1 known.1)

-- All of it, if no command is pending.
pub accepts_every : (station : ℕ) (session : Session)
    → SendingsLearnt station None session.exchanges
    → IsSessionKnown station session → AcceptsAllSendings station session
accepts_every station session sent known = go (pending_after station None session.exchanges)
    known.may_owe sendings
  where
    done : commands (learnt station session.exchanges) ++ commands known.owed
        ≡ commands (all_done session.turns)
    done = sym (commands-append (learnt station session.exchanges) known.owed)
        ∙ ap commands known.whole

    sendings : sendings_not_busy station None session.exchanges
        ≡ commands (learnt station session.exchanges)
        ++ pending_command (pending_after station None session.exchanges)
    sendings = sym (drop_if (is_answered_busy station session.exchanges) _) ∙ sent

    equal : (p : Option Service) → pending_command p ≡ commands known.owed →
        sendings_not_busy station None session.exchanges
        ≡ commands (learnt station session.exchanges)
        ++ pending_command p →
        sendings_not_busy station None session.exchanges ≡ commands (all_done session.turns)
    equal p e s = s ∙ ap (λ (l : List (List ℕ)). commands (learnt station session.exchanges) ++ l) e
        ∙ done

    go : (p : Option Service) → MayOwe p known.owed →
        sendings_not_busy station None session.exchanges
        ≡ commands (learnt station session.exchanges)
        ++ pending_command p →
        is_command_pending p ≡ false → sendings_not_busy station None session.exchanges
        ≡ commands (all_done session.turns)
    go None owed s none = equal None (sym (ap commands owed)) s
    go (Some Class1) (inl owed) s none = equal (Some Class1) (sym (ap commands owed)) s
    go (Some Class1) (inr owed) s none = equal (Some Class1) (sym (ap commands owed.1)) s
    go (Some Class2) (inl owed) s none = equal (Some Class2) (sym (ap commands owed)) s
    go (Some Class2) (inr owed) s none = equal (Some Class2) (sym (ap commands owed.1)) s
    go (Some (Command c)) owed s none = cc

pub all_accept_every : (station : ℕ) (ss : List Session)
    → AllByRecursion (λ (s : Session). SendingsLearnt station None s.exchanges) ss →
    AllByRecursion (λ (s : Session). IsSessionKnown station s) ss
    → AllByRecursion (λ (s : Session). AcceptsAllSendings station s) ss
all_accept_every station [] sent known = tt
all_accept_every station (s ∷ ss) sent known = (
  accepts_every station s sent.0 known.0,
  all_accept_every station ss sent.1 known.1,
)

-- Under a steady link one session holds all.
pub sendings_steady :
    (settings : LinkSettings) (station : ℕ) (link : Link) (pending : Option Service)
    (xs : List Exchange)
    → LinkPends link pending →
    (is_up link ≡ false → pending ≡ None) → KeepsFrameCountBit settings station link xs
    → IsSteady settings station link xs → SendingsLearnt station pending xs
sendings_steady settings station link pending [] pends clear keeps steady =
    commands-nil (pending_command pending)
sendings_steady settings station link pending (x ∷ xs) pends clear keeps steady =
    go (is_reset x.request (answer_to station x)) refl
    (λ (c : is_up (after settings station x link) ≡ false
    → pending_by x.request (answer_to station x) pending ≡ None).
    sendings_steady settings station (after settings station x link)
    (pending_by x.request (answer_to station x) pending) xs
    (by_mark (λ (l : Link). LinkPends l (pending_by x.request (answer_to station x) pending))
    x.given_up _ (exchange_pends settings station link pending x.request x.front x.closed
    (answer_to station x) pends keeps.0) tt) c
    keeps.1 steady.1)
  where
    down : (b : Bool) → is_reset x.request (answer_to station x) ≡ b → (u : Bool) → is_up link ≡ u →
        is_up (after settings station x link) ≡ false
        → pending_by x.request (answer_to station x) pending ≡ None
    down b is true up d = let e : is_up (after settings station x link) ≡ true = steady.0 up in cc
    down true is false up d = (reset_learns x.request (answer_to station x) pending is).1
    down false is false up d =
        (idle_down settings station link x.request (answer_to station x) x.front x.closed up keeps.0
        is).same pending
        ∙ clear up

    go : (b : Bool) → is_reset x.request (answer_to station x) ≡ b →
        ((is_up (after settings station x link) ≡ false
        → pending_by x.request (answer_to station x) pending ≡ None) →
        SendingsLearnt station (pending_by x.request (answer_to station x) pending) xs) →
        SendingsLearnt station pending (x ∷ xs)
    go true is ih =
        let none : pending ≡ None =
        clear
        (reset_from_down link x.request keeps.0 (confirmed_reset x.request (answer_to station x)
        is).0) in
        let rest : SendingsLearnt station None xs =
        subst (λ (p : Option Service). SendingsLearnt station p xs)
        (reset_learns x.request (answer_to station x) pending is).1
        (ih (down true is (is_up link) refl)) in
        subst (λ (p : Option Service). SendingsLearnt station p (x ∷ xs)) (sym none)
        (reset_sendings station x.request (answer_to station x) xs is rest)
    go false is ih =
        exchange_sendings settings station link pending x.request x.front x.closed
        (answer_to station x) xs pends keeps.0 is refl
        (ih (down false is (is_up link) refl))

-- a link that was never probed stays so if no status is asked of a station that is up
never_probed : (settings : LinkSettings) (request : Asked) (m : Option Answer) (closed : Bool)
    (link : Link) → (is_up link ≡ true → is_service request ≡ true) → probed_so_far link ≡ Never
    → probed_so_far (after_outcome settings m request closed link) ≡ Never
never_probed settings Status None closed Down asks fresh = refl
never_probed settings Status None closed Available asks fresh = refl
never_probed settings Status None closed (Next fcb) asks fresh = refl
never_probed settings Status None closed (Held fcb service silence) asks fresh = refl
never_probed settings Status (Some Ready) closed Down asks fresh = refl
never_probed settings Status (Some Ready) closed Available asks fresh = refl
never_probed settings Status (Some Ready) closed (Next fcb) asks fresh = refl
never_probed settings Status (Some Ready) closed (Held fcb service silence) asks fresh =
    let no : false ≡ true = asks refl in cc
never_probed settings Status (Some Unable) closed link asks fresh = refl
never_probed settings Status (Some Confirmed) closed link asks fresh = fresh
never_probed settings Status (Some Busy) closed link asks fresh = fresh
never_probed settings Status (Some (Report asdu)) closed link asks fresh = fresh
never_probed settings Status (Some NoData) closed link asks fresh = fresh
never_probed settings Reset None closed link asks fresh = refl
never_probed settings Reset (Some Confirmed) closed link asks fresh = refl
never_probed settings Reset (Some Ready) closed link asks fresh = fresh
never_probed settings Reset (Some Unable) closed link asks fresh = fresh
never_probed settings Reset (Some Busy) closed link asks fresh = fresh
never_probed settings Reset (Some (Report asdu)) closed link asks fresh = fresh
never_probed settings Reset (Some NoData) closed link asks fresh = fresh
never_probed settings (Counted fcb service) None false link asks fresh = fresh
never_probed settings (Counted fcb service) None true link asks fresh =
    go (nat_lt settings.retries (suc (missed_so_far link)))
    (is_kept settings (probed_so_far link))
  where
    go : (b kept : Bool) → probed_so_far (if b then (if kept then Held fcb service
        (spent_silence settings (probed_so_far link)) else Down)
        else Held fcb service
        (short_silence (suc (missed_so_far link)) (probed_so_far link))) ≡ Never
    go true true = fresh
    go true false = refl
    go false kept = fresh
never_probed settings (Counted fcb service) (Some Unable) closed link asks fresh = refl
never_probed settings (Counted fcb service) (Some Ready) closed link asks fresh = refl
never_probed settings (Counted fcb service) (Some Confirmed) closed link asks fresh = refl
never_probed settings (Counted fcb service) (Some Busy) closed link asks fresh = refl
never_probed settings (Counted fcb service) (Some (Report asdu)) closed link asks fresh = refl
never_probed settings (Counted fcb service) (Some NoData) closed link asks fresh = refl

-- If services are held, only three things take a link down: a refusal, that it is given up, or that
-- its station answered statuses meanwhile.
pub hold_steady :
    (settings : LinkSettings) (station : ℕ) (link : Link) (xs : List Exchange) → settings.hold
    ≡ true
    → probed_so_far link ≡ Never
    → KeepsFrameCountBit settings station link xs →
    AllByRecursion (λ (x : Exchange). answer_to station x ≢ Some Unable) xs
    → AllByRecursion (λ (x : Exchange). x.given_up ≡ false) xs
    → AskNoneThatIsUp settings station link xs
    → IsSteady settings station link xs
hold_steady settings station link [] hold fresh keeps able stands asks = tt
hold_steady settings station link (x ∷ xs) hold fresh keeps able stands asks = (
  λ up. ap (λ (b : Bool). is_up (if b then Down
      else after_outcome settings (answer_to station x) x.request x.closed link)) stands.0
      ∙ one x.request (answer_to station x) (asks.0 up) able.0,
  hold_steady settings station (after settings station x link) xs hold
      (by_mark (λ (l : Link). probed_so_far l ≡ Never) x.given_up _
      (never_probed settings x.request (answer_to station x) x.closed link asks.0 fresh) refl)
      keeps.1 able.1 stands.1 asks.1,
)
  where
    kept : is_kept settings (probed_so_far link) ≡ true
    kept = ap (λ (p : Probed). is_kept settings p) fresh ∙ ap (λ (h : Bool). h && true) hold

    waits : (fcb : Bool) (service : Service) (spent short : Silence) (b h : Bool) → h ≡ true →
        is_up (if b then (if h then Held fcb service spent else Down)
        else Held fcb service short)
        ≡ true
    waits fcb service spent short true true e = refl
    waits fcb service spent short true false e = cc
    waits fcb service spent short false h e = refl

    unanswered_up : (fcb : Bool) (service : Service) (closed : Bool)
        → is_up (after_silence settings (Counted fcb service) closed link) ≡ true
    unanswered_up fcb service false = refl
    unanswered_up fcb service true = waits fcb service
        (spent_silence settings (probed_so_far link))
        (short_silence (suc (missed_so_far link)) (probed_so_far link))
        (nat_lt settings.retries (suc (missed_so_far link)))
        (is_kept settings (probed_so_far link)) kept

    one : (request : Asked) (m : Option Answer) → is_service request ≡ true
        → m ≢ Some Unable → is_up (after_outcome settings m request x.closed link) ≡ true
    one Status m asked able = cc
    one Reset m asked able = cc
    one (Counted fcb service) None asked able = unanswered_up fcb service x.closed
    one (Counted fcb service) (Some Unable) asked able = absurd (able refl)
    one (Counted fcb service) (Some Ready) asked able = refl
    one (Counted fcb service) (Some Confirmed) asked able = refl
    one (Counted fcb service) (Some Busy) asked able = refl
    one (Counted fcb service) (Some (Report asdu)) asked able = refl
    one (Counted fcb service) (Some NoData) asked able = refl
