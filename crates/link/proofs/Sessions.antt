-- What the primary knows of an outstation, over whole runs.
use Rattle.std.proofs.Common.{◌≡◌, ℕ, Bool, true, false, List, [], ◌∷◌, ◌++◌, flat_map, Option}
use Rattle.std.proofs.Common.{Some, None, refl, sym, ap, subst, ◌∙◌, inl, inr, append_assoc}
use Rattle.std.specs.List.{AllByRecursion}
use Rattle.link.specs.Answers.{Service, Class1, Class2, Command, Asked, Status, Reset, Counted}
use Rattle.link.specs.Answers.{Answer, Ready, Confirmed, Busy, Report, NoData, Unable}
use Rattle.link.specs.Exchanges.{Exchange, answer_to}
use Rattle.link.specs.Procedure.{LinkSettings, Link, Down, Available, Next, Held, after_outcome}
use Rattle.link.specs.Procedure.{after, MaySend, KeepsFrameCountBit, is_up, IsSteady}
use Rattle.link.specs.Outstation.{Effect, Given, unreset, Turn, all_done}
use Rattle.link.specs.Delivery.{learnt, IsHonest, pending_by, pending_after, MayOwe, IsKnown}
use Rattle.link.specs.Delivery.{is_reset, Session, before_reset, sessions, IsSessionKnown}
use Rattle.link.specs.Delivery.{IsAllOrButLast, given_by, reports, is_gap}
use Rattle.link.specs.Delivery.{HasReports}
use Rattle.link.proofs.Bit.{append-nil}
use Rattle.link.proofs.Marks.{up_mark}
use Rattle.link.proofs.KnownFrom.{reset_learns, known_from, idle_down, nothing_before}
use Rattle.link.proofs.KnownFrom.{learnt_in_sessions}
use Rattle.link.specs.Delivery.{answered_by, is_latest_answered}
use Rattle.std.proofs.Common.{◌≢◌}

-- If the latest exchange was answered, nothing is pending.
answered_clears : (settings : LinkSettings) (link : Link) (request : Asked) (answer : Answer)
    (x : Exchange)
    (pending : Option Service) →
    x.request ≡ request → request ≢ Status → MaySend link request →
    (is_up link ≡ false → pending ≡ None) →
    (is_up link ≡ true
    → is_up (after_outcome settings (Some answer) request x.closed link) ≡ true) →
    pending_by request (Some answer) pending ≡ None
answered_clears settings link Status answer x pending same other may clear steady =
    absurd (other refl)
answered_clears settings Available Reset Confirmed x pending same other may clear steady = refl
answered_clears settings Available Reset answer x pending same other may clear steady = clear refl
answered_clears settings link (Counted fcb service) Ready x pending same other may clear steady =
    refl
answered_clears settings link (Counted fcb service) Confirmed x pending same other may clear
    steady = refl
answered_clears settings link (Counted fcb service) Busy x pending same other may clear steady =
    refl
answered_clears settings link (Counted fcb service) (Report asdu) x pending same other may clear
    steady =
    refl
answered_clears settings link (Counted fcb service) NoData x pending same other may clear steady =
    refl
answered_clears settings (Next sent) (Counted fcb service) Unable x pending same other may clear
    steady =
    let e = steady refl in cc
answered_clears settings (Held sent again missed) (Counted fcb service) Unable x pending same
    other may clear steady =
    let e = steady refl in cc
answered_clears settings link request answer x pending same other may clear steady = absurd may

pub latest_known : (settings : LinkSettings) (station : ℕ) (link : Link) (pending : Option Service)
    (answered : Bool) (xs : List Exchange) →
    (is_up link ≡ false → pending ≡ None) → (answered ≡ true → pending ≡ None)
    → KeepsFrameCountBit settings station link xs
    → IsSteady settings station link xs → is_latest_answered station answered xs ≡ true →
    pending_after station pending xs ≡ None
latest_known settings station link pending answered [] clear none keeps steady latest = none latest
latest_known settings station link pending answered (x ∷ xs) clear none keeps steady latest =
    latest_known settings station (after settings station x link)
    (pending_by x.request (answer_to station x) pending)
    (answered_by x.request (answer_to station x) answered) xs
    (λ d. go (is_up link) refl d) (by x.request (answer_to station x) refl refl) keeps.1 steady.1
    latest
  where
    cleared : (r : Asked) (answer : Answer) → x.request ≡ r → answer_to station x ≡ Some answer
        → r ≢ Status → pending_by r (Some answer) pending ≡ None
    cleared r answer asks says other =
        answered_clears settings link r answer x pending asks other
        (subst (λ (a : Asked). MaySend link a) asks keeps.0) clear
        (subst (λ (a : Asked). is_up link ≡ true
        → is_up (after_outcome settings (Some answer) a x.closed link) ≡ true) asks
        (subst (λ (m : Option Answer). is_up link ≡ true
        → is_up (after_outcome settings m x.request x.closed link) ≡ true) says
        (λ up. (up_mark x.given_up _ (steady.0 up)).1)))

    by : (r : Asked) (m : Option Answer) → x.request ≡ r → answer_to station x ≡ m
        → answered_by r m answered ≡ true → pending_by r m pending ≡ None
    by Status m asks says is = none is
    by Reset None asks says is = cc
    by Reset (Some answer) asks says is = cleared Reset answer asks says (λ e. cc)
    by (Counted fcb service) None asks says is = cc
    by (Counted fcb service) (Some answer) asks says is =
        cleared (Counted fcb service) answer asks says (λ e. cc)

    go : (u : Bool) → is_up link ≡ u → is_up (after settings station x link) ≡ false
        → pending_by x.request (answer_to station x) pending ≡ None
    go true up d = let e : is_up (after settings station x link) ≡ true = steady.0 up in cc
    go false up d = go_down (is_reset x.request (answer_to station x)) refl
      where
        go_down : (b : Bool) → is_reset x.request (answer_to station x) ≡ b
            → pending_by x.request (answer_to station x) pending ≡ None
        go_down true is = (reset_learns x.request (answer_to station x) pending is).1
        go_down false is =
            (idle_down settings station link x.request (answer_to station x) x.front x.closed up
            keeps.0 is).same
            pending ∙ clear up

-- what is known of a service that isn't pending
pub known_all : (learnt done : List Effect) (pending : Option Service) → IsKnown learnt pending done
    → pending ≡ None
    → learnt ≡ done
known_all learnt done pending k none =
    let owed : MayOwe None k.owed = subst (λ (p : Option Service). MayOwe p k.owed) none
    k.may_owe in
    sym (append-nil learnt) ∙ ap (λ (o : List Effect). learnt ++ o) (sym owed) ∙ k.whole

reports-append : (xs ys : List Effect) → reports (xs ++ ys) ≡ reports xs ++ reports ys
reports-append [] ys = refl
reports-append (x ∷ xs) ys = ap (λ (r : List (List ℕ)). given_by x ++ r) (reports-append xs ys)
    ∙ sym (append_assoc (given_by x) (reports xs) (reports ys))

reports-nil : (xs : List (List ℕ)) → xs ++ [] ≡ xs
reports-nil [] = refl
reports-nil (x ∷ xs) = ap (λ (ys : List (List ℕ)). x ∷ ys) (reports-nil xs)

-- The reports that are known are the outstation's, or all of them but the last.
pub reports_known : (learnt done : List Effect) (pending : Option Service)
    → IsKnown learnt pending done
    → IsAllOrButLast (reports done) (reports learnt)
reports_known learnt done pending k = go pending k.may_owe
  where
    whole : reports learnt ++ reports k.owed ≡ reports done
    whole = sym (reports-append learnt k.owed) ∙ ap reports k.whole

    nothing : reports k.owed ≡ [] → IsAllOrButLast (reports done) (reports learnt)
    nothing none = inl (sym (reports-nil (reports learnt))
        ∙ ap (λ (r : List (List ℕ)). reports learnt ++ r) (sym none)
        ∙ whole)

    one : (asdu : List ℕ) → k.owed ≡ Given asdu ∷ []
        → IsAllOrButLast (reports done) (reports learnt)
    one asdu e = inr (asdu, ap (λ (o : List Effect). reports learnt ++ reports o) (sym e) ∙ whole)

    go : (p : Option Service) → MayOwe p k.owed → IsAllOrButLast (reports done) (reports learnt)
    go None owed = nothing (ap reports owed)
    go (Some Class1) (inl owed) = nothing (ap reports owed)
    go (Some Class2) (inl owed) = nothing (ap reports owed)
    go (Some (Command c)) (inl owed) = nothing (ap reports owed)
    go (Some (Command c)) (inr owed) = nothing (ap reports owed)
    go (Some Class1) (inr owed) = one owed.0 owed.1
    go (Some Class2) (inr owed) = one owed.0 owed.1

-- From the beginning on, what is learnt and done is learnt and done in the sessions.
pub all_in_sessions : (settings : LinkSettings) (station : ℕ) (xs : List Exchange)
    (turns : List Turn)
    → KeepsFrameCountBit settings station Down xs → IsHonest station xs turns →
    (flat_map (λ (s : Session). learnt station s.exchanges) (sessions station xs turns)
    ≡ learnt station xs)
    × (flat_map (λ (s : Session). all_done s.turns) (sessions station xs turns) ≡ all_done turns)
all_in_sessions settings station xs turns keeps honest =
    let parts = learnt_in_sessions station xs turns unreset honest.end honest.run in
    let before = nothing_before settings station Down xs turns refl keeps in
    let known = known_from settings station Down None xs turns unreset honest.end
    [] refl keeps honest.run honest.fronts in
    let idle : all_done (before_reset station xs turns).turns ≡ [] =
    sym (known_all _ _ _ known.present before.1)
    ∙ before.0 in (
      ap (λ (e : List Effect). e ++ flat_map (λ (s : Session). learnt station s.exchanges)
          (sessions station xs turns))
          (sym before.0) ∙ parts.0,
      ap (λ (e : List Effect). e ++ flat_map (λ (s : Session). all_done s.turns)
          (sessions station xs turns))
          (sym idle) ∙ parts.1,
    )

-- no report is owed but by a poll
all_reports : (learnt done : List Effect) (pending : Option Service) → IsKnown learnt pending done
    → is_gap pending ≡ false → reports learnt ≡ reports done
all_reports learnt done pending k gap = go pending k.may_owe gap
  where
    whole : reports learnt ++ reports k.owed ≡ reports done
    whole = sym (reports-append learnt k.owed) ∙ ap reports k.whole

    nothing : reports k.owed ≡ [] → reports learnt ≡ reports done
    nothing none = sym (reports-nil (reports learnt))
        ∙ ap (λ (r : List (List ℕ)). reports learnt ++ r) (sym none)
        ∙ whole

    go : (p : Option Service) → MayOwe p k.owed → is_gap p ≡ false → reports learnt ≡ reports done
    go None owed gap = nothing (ap reports owed)
    go (Some Class1) owed gap = cc
    go (Some Class2) owed gap = cc
    go (Some (Command c)) (inl owed) gap = nothing (ap reports owed)
    go (Some (Command c)) (inr owed) gap = nothing (ap reports owed)

pub all_have_reports : (station : ℕ) (ss : List Session)
    → AllByRecursion (λ (s : Session). IsSessionKnown station s) ss →
    AllByRecursion (λ (s : Session). HasReports station s) ss
all_have_reports station [] known = tt
all_have_reports station (s ∷ ss) known = (
  record { most = reports_known _ _ _ known.0; all = all_reports _ _ _ known.0 },
  all_have_reports station ss known.1,
)
