-- What an outstation accepted are some of the commands that were sent to it for the first time.
use Rattle.std.proofs.Common.{◌≡◌, ℕ, Bool, true, false, List, [], ◌∷◌, ◌++◌, inl, inr, Option}
use Rattle.std.proofs.Common.{Some, None, refl, ap, sym, subst, ◌∙◌, append_assoc, if◌then◌else◌}
use Rattle.std.specs.List.{flat_map, AllByRecursion}
use Rattle.link.specs.declared.service.Service.{Service}
use Rattle.link.specs.declared.service.Asked.{Asked}
use Rattle.link.specs.declared.service.Asked.TheVariants.{Status, Reset, Counted}
use Rattle.link.specs.declared.answer.Answer.{Answer}
use Rattle.link.specs.declared.answer.Answer.TheVariants.{Ready, Confirmed, Busy, Report, NoData}
use Rattle.link.specs.declared.answer.Answer.TheVariants.{Unable}
use Rattle.link.specs.Exchanges.{Exchange, answer_to}
use Rattle.link.specs.Outstation.{Effect, Turn, all_done}
use Rattle.link.specs.Delivery.{IsAllOrButLast, AcceptsSendings, Session, with_first, before_reset}
use Rattle.link.specs.Delivery.{sessions, is_reset, is_answered_busy, first_sending, pending_by}
use Rattle.link.specs.Delivery.{sendings_not_busy, commands, accepted_by}
use Rattle.delivery.specs.Merges.{IsSublist}
use Rattle.delivery.specs.Commands.{first_sendings}
use Rattle.delivery.proofs.Sublists.{sub_all, sub_of_sub, sub_append, sub_prefix}

-- Sessions

none_first : (pending : Option Service) → first_sending pending Reset ≡ []
none_first None = refl
none_first (Some service) = refl

-- a confirmed reset sends no command, and leaves nothing to be done
record IsFresh (request : Asked) (m : Option Answer) : Type 0 where
  sends : (pending : Option Service) → first_sending pending request ≡ []
  leaves : (pending : Option Service) → pending_by request m pending ≡ None

fresh : (request : Asked) (m : Option Answer) → is_reset request m ≡ true → IsFresh request m
fresh Status m e = cc
fresh (Counted fcb service) m e = cc
fresh Reset None e = cc
fresh Reset (Some Confirmed) e = record { sends = none_first; leaves = λ pending. refl }
fresh Reset (Some Ready) e = cc
fresh Reset (Some Busy) e = cc
fresh Reset (Some (Report asdu)) e = cc
fresh Reset (Some NoData) e = cc
fresh Reset (Some Unable) e = cc

abbrev in_session : ℕ → Session → List (List ℕ)
in_session a s = first_sendings a None s.exchanges

abbrev no_session : Session
no_session = record { exchanges = []; turns = [] }

in_sessions : (a : ℕ) (pending : Option Service) (xs : List Exchange) (turns : List Turn) →
    IsSublist (first_sendings a pending (before_reset a xs turns).exchanges
    ++ flat_map (in_session a) (sessions a xs turns)) (first_sendings a pending xs)
in_sessions a pending [] turns = tt
in_sessions a pending (x ∷ xs) [] = tt
in_sessions a pending (x ∷ xs) (turn ∷ turns) =
    go (is_reset x.request (answer_to a x)) refl (in_sessions a None xs turns)
    (in_sessions a (pending_by x.request (answer_to a x) pending) xs turns)
  where
    go : (b : Bool) → is_reset x.request (answer_to a x) ≡ b →
        IsSublist (first_sendings a None (before_reset a xs turns).exchanges
        ++ flat_map (in_session a) (sessions a xs turns)) (first_sendings a None xs) →
        IsSublist (first_sendings a (pending_by x.request (answer_to a x) pending)
        (before_reset a xs turns).exchanges
        ++ flat_map (in_session a) (sessions a xs turns))
        (first_sendings a (pending_by x.request (answer_to a x) pending) xs) →
        IsSublist (first_sendings a pending (if b then no_session else with_first x turn
        (before_reset a xs turns)).exchanges
        ++ flat_map (in_session a) (if b then with_first x turn (before_reset a xs turns)
        ∷ sessions a xs turns else sessions a xs turns)) (first_sendings a pending (x ∷ xs))
    go true is now later =
        let f : IsFresh x.request (answer_to a x) = fresh x.request (answer_to a x) is in
        let session : first_sendings a None (x ∷ (before_reset a xs turns).exchanges)
        ≡ first_sendings a None (before_reset a xs turns).exchanges =
        ap (λ (l : List (List ℕ)). l ++ first_sendings a (pending_by x.request (answer_to a x) None)
        (before_reset a xs turns).exchanges) (f.sends None)
        ∙ ap (λ (o : Option Service). first_sendings a o (before_reset a xs turns).exchanges)
        (f.leaves None) in
        let all : first_sendings a pending (x ∷ xs) ≡ first_sendings a None xs =
        ap (λ (l : List (List ℕ)). l
        ++ first_sendings a (pending_by x.request (answer_to a x) pending) xs)
        (f.sends pending) ∙ ap (λ (o : Option Service). first_sendings a o xs) (f.leaves pending) in
        subst (IsSublist (first_sendings a None (x ∷ (before_reset a xs turns).exchanges)
        ++ flat_map (in_session a) (sessions a xs turns))) (sym all)
        (subst
        (λ (l : List (List ℕ)). IsSublist (l ++ flat_map (in_session a) (sessions a xs turns))
        (first_sendings a None xs)) (sym session) now)
    go false is now later =
        subst (λ (l : List (List ℕ)). IsSublist l (first_sendings a pending (x ∷ xs)))
        (sym (append_assoc (first_sending pending x.request)
        (first_sendings a (pending_by x.request (answer_to a x) pending)
        (before_reset a xs turns).exchanges)
        (flat_map (in_session a) (sessions a xs turns))))
        (sub_append (first_sending pending x.request) (first_sending pending x.request)
        (first_sendings a (pending_by x.request (answer_to a x) pending)
        (before_reset a xs turns).exchanges
        ++ flat_map (in_session a) (sessions a xs turns))
        (first_sendings a (pending_by x.request (answer_to a x) pending) xs)
        (sub_all (first_sending pending x.request)) later)

-- Of a session

not_busy_some : (a : ℕ) (pending : Option Service) (xs : List Exchange)
    → IsSublist (sendings_not_busy a pending xs) (first_sendings a pending xs)
not_busy_some a pending [] = tt
not_busy_some a pending (x ∷ xs) = go (is_answered_busy a (x ∷ xs))
    (not_busy_some a (pending_by x.request (answer_to a x) pending) xs)
  where
    some : (b : Bool) → IsSublist (if b then [] else first_sending pending x.request)
        (first_sending pending x.request)
    some true = tt
    some false = sub_all (first_sending pending x.request)

    go : (b : Bool)
        → IsSublist (sendings_not_busy a (pending_by x.request (answer_to a x) pending) xs)
        (first_sendings a (pending_by x.request (answer_to a x) pending) xs) →
        IsSublist ((if b then [] else first_sending pending x.request)
        ++ sendings_not_busy a (pending_by x.request (answer_to a x) pending) xs)
        (first_sendings a pending (x ∷ xs))
    go b ih = sub_append (if b then [] else first_sending pending x.request)
        (first_sending pending x.request)
        (sendings_not_busy a (pending_by x.request (answer_to a x) pending) xs)
        (first_sendings a (pending_by x.request (answer_to a x) pending) xs) (some b) ih

most_of : (all some : List (List ℕ)) → IsAllOrButLast all some → IsSublist some all
most_of all some (inl same) = subst (IsSublist some) same (sub_all some)
most_of all some (inr but) = subst (IsSublist some) but.1 (sub_prefix some (but.0 ∷ []))

accepted_some : (a : ℕ) (s : Session) → AcceptsSendings a s
    → IsSublist (commands (all_done s.turns)) (in_session a s)
accepted_some a s h =
    sub_of_sub (commands (all_done s.turns)) (sendings_not_busy a None s.exchanges)
    (first_sendings a None s.exchanges)
    (most_of (sendings_not_busy a None s.exchanges) (commands (all_done s.turns)) h)
    (not_busy_some a None s.exchanges)

accepted_all : (a : ℕ) (ss : List Session) → AllByRecursion (λ s. AcceptsSendings a s) ss
    → IsSublist (flat_map (λ (s : Session). commands (all_done s.turns)) ss)
    (flat_map (in_session a) ss)
accepted_all a [] h = tt
accepted_all a (s ∷ ss) h = sub_append (commands (all_done s.turns)) (in_session a s)
    (flat_map (λ (s : Session). commands (all_done s.turns)) ss) (flat_map (in_session a) ss)
    (accepted_some a s h.0)
    (accepted_all a ss h.1)

pub commands-append : (es fs : List Effect) → commands (es ++ fs) ≡ commands es ++ commands fs
commands-append [] fs = refl
commands-append (e ∷ es) fs = ap (λ (l : List (List ℕ)). accepted_by e ++ l) (commands-append es fs)
    ∙ sym (append_assoc (accepted_by e) (commands es) (commands fs))

commands_flat : (ss : List Session) → flat_map (λ (s : Session). commands (all_done s.turns)) ss
    ≡ commands (flat_map (λ (s : Session). all_done s.turns) ss)
commands_flat [] = refl
commands_flat (s ∷ ss) = ap (λ (l : List (List ℕ)). commands (all_done s.turns) ++ l)
    (commands_flat ss)
    ∙ sym (commands-append (all_done s.turns) (flat_map (λ (s : Session). all_done s.turns) ss))

drop_front : (front xs ys : List (List ℕ)) → IsSublist (front ++ xs) ys → IsSublist xs ys
drop_front front xs ys h =
    sub_of_sub xs (front ++ xs) ys (sub_append [] front xs xs tt (sub_all xs)) h

pub accepted_are_sent : (a : ℕ) (xs : List Exchange) (turns : List Turn) →
    flat_map (λ (s : Session). all_done s.turns) (sessions a xs turns) ≡ all_done turns
    → AllByRecursion (λ s. AcceptsSendings a s) (sessions a xs turns) →
    IsSublist (commands (all_done turns)) (first_sendings a None xs)
accepted_are_sent a xs turns whole each =
    subst (λ (l : List (List ℕ)). IsSublist l (first_sendings a None xs))
    (commands_flat (sessions a xs turns)
    ∙ ap (λ (es : List Effect). commands es) whole)
    (sub_of_sub (flat_map (λ (s : Session). commands (all_done s.turns)) (sessions a xs turns))
    (flat_map (in_session a) (sessions a xs turns)) (first_sendings a None xs)
    (accepted_all a (sessions a xs turns) each)
    (drop_front (first_sendings a None (before_reset a xs turns).exchanges)
    (flat_map (in_session a) (sessions a xs turns)) (first_sendings a None xs)
    (in_sessions a None xs turns)))
