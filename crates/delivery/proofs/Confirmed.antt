-- The commands confirmed are those that the primary learnt to be accepted.
use Rattle.std.specs.Prelude.{◌==◌, ◌||◌}
use Rattle.std.proofs.Common.{◌≡◌, ℕ, List, [], ◌∷◌, ◌++◌, map, Bool, true, false, if◌then◌else◌}
use Rattle.std.proofs.Common.{Option, Some, None, refl, ap, sym, ◌∙◌}
use Rattle.std.proofs.lemmas.List.{append-nil}
use Rattle.link.specs.declared.settings.LinkSettings.{LinkSettings}
use Rattle.link.specs.declared.service.Service.{Service}
use Rattle.link.specs.declared.service.Service.TheVariants.{Class1, Class2, Command}
use Rattle.link.specs.declared.service.Asked.{Asked}
use Rattle.link.specs.declared.service.Asked.TheVariants.{Status, Reset, Counted}
use Rattle.link.specs.declared.answer.Answer.{Answer}
use Rattle.link.specs.declared.answer.Answer.TheVariants as answer
use Rattle.link.specs.Exchanges.{Exchange, answer_to}
use Rattle.link.specs.Delivery.{learnt, learnt_by, commands, first_sending, pending_by}
use Rattle.gateway.specs.Works.{Works, unless_silent_works}
use Rattle.delivery.specs.Commands.{LineStep, Begun, Confirmed, Busy, Lost, said_of, missed_by}
use Rattle.delivery.specs.Commands.{goes_down, steps_at, steps_in, confirmed_by, steps_logged}
use Rattle.delivery.specs.Commands.{sent_to}
use Rattle.link.specs.declared.procedure.Silence.{Silence}
use Rattle.delivery.proofs.Accepted.{commands-append}

confirmed-append : (xs ys : List LineStep) → confirmed_by (xs ++ ys)
    ≡ confirmed_by xs ++ confirmed_by ys
confirmed-append [] ys = refl
confirmed-append (Begun asdu ∷ xs) ys = confirmed-append xs ys
confirmed-append (Confirmed asdu ∷ xs) ys =
    ap (λ (l : List (List ℕ)). asdu ∷ l) (confirmed-append xs ys)
confirmed-append (Busy asdu ∷ xs) ys = confirmed-append xs ys
confirmed-append (Lost ∷ xs) ys = confirmed-append xs ys

none_begun : (xs : List (List ℕ)) → confirmed_by (map (λ (asdu : List ℕ). Begun asdu) xs) ≡ []
none_begun [] = refl
none_begun (x ∷ xs) = none_begun xs

said_learnt : (request : Asked) (m : Option Answer) → confirmed_by (said_of request m)
    ≡ commands (learnt_by request m)
said_learnt Status m = refl
said_learnt Reset m = refl
said_learnt (Counted fcb Class1) None = refl
said_learnt (Counted fcb Class1) (Some answer.Ready) = refl
said_learnt (Counted fcb Class1) (Some answer.Confirmed) = refl
said_learnt (Counted fcb Class1) (Some answer.Busy) = refl
said_learnt (Counted fcb Class1) (Some (answer.Report asdu)) = refl
said_learnt (Counted fcb Class1) (Some answer.NoData) = refl
said_learnt (Counted fcb Class1) (Some answer.Unable) = refl
said_learnt (Counted fcb Class2) None = refl
said_learnt (Counted fcb Class2) (Some answer.Ready) = refl
said_learnt (Counted fcb Class2) (Some answer.Confirmed) = refl
said_learnt (Counted fcb Class2) (Some answer.Busy) = refl
said_learnt (Counted fcb Class2) (Some (answer.Report asdu)) = refl
said_learnt (Counted fcb Class2) (Some answer.NoData) = refl
said_learnt (Counted fcb Class2) (Some answer.Unable) = refl
said_learnt (Counted fcb (Command asdu)) None = refl
said_learnt (Counted fcb (Command asdu)) (Some answer.Ready) = refl
said_learnt (Counted fcb (Command asdu)) (Some answer.Confirmed) = refl
said_learnt (Counted fcb (Command asdu)) (Some answer.Busy) = refl
said_learnt (Counted fcb (Command asdu)) (Some (answer.Report report)) = refl
said_learnt (Counted fcb (Command asdu)) (Some answer.NoData) = refl
said_learnt (Counted fcb (Command asdu)) (Some answer.Unable) = refl

none_lost : (b : Bool) → confirmed_by (if b then Lost ∷ [] else []) ≡ []
none_lost true = refl
none_lost false = refl

pub confirmed_learnt : (s : LinkSettings) (a : ℕ) (missed : Silence) (pending : Option Service)
    (xs : List Exchange)
    → confirmed_by (steps_in s a missed pending xs) ≡ commands (learnt a xs)
confirmed_learnt s a missed pending [] = refl
confirmed_learnt s a missed pending (x ∷ xs) =
    let later : Option Service = pending_by x.request (answer_to a x) pending in
    let more : Silence = missed_by x.request x.closed (answer_to a x) missed in
    let begun : List LineStep =
    map (λ (asdu : List ℕ). Begun asdu) (first_sending pending x.request) in
    let said : List LineStep = said_of x.request (answer_to a x) in
    let down : Bool = x.given_up || goes_down s missed x.request x.closed (answer_to a x) in
    let lost : List LineStep = if down then Lost ∷ [] else [] in
    confirmed-append (steps_at s a missed pending x) (steps_in s a more later xs)
    ∙ ap (λ (l : List (List ℕ)). l ++ confirmed_by (steps_in s a more later xs))
    (confirmed-append begun (said ++ lost)
    ∙ ap (λ (l : List (List ℕ)). l ++ confirmed_by (said ++ lost))
    (none_begun (first_sending pending x.request))
    ∙ confirmed-append said lost
    ∙ ap (λ (l : List (List ℕ)). confirmed_by said ++ l) (none_lost down)
    ∙ append-nil (confirmed_by said) ∙ said_learnt x.request (answer_to a x))
    ∙ ap (λ (l : List (List ℕ)). commands (learnt_by x.request (answer_to a x)) ++ l)
    (confirmed_learnt s a more later xs)
    ∙ sym (commands-append (learnt_by x.request (answer_to a x)) (learnt a xs))

-- what is still to be logged confirms nothing, and sends nothing
pub confirmed_alike : (k : ℕ) (o : Option ℕ) (w : Works)
    → confirmed_by (steps_logged k w.history)
    ≡ confirmed_by (steps_logged k (unless_silent_works o w).history)
confirmed_alike k None w = refl
confirmed_alike k (Some j) w = go (k == j)
  where
    go : (b : Bool) → confirmed_by (steps_logged k w.history)
        ≡ confirmed_by (if b then steps_logged k w.history ++ Lost ∷ []
        else steps_logged k w.history)
    go true = sym (confirmed-append (steps_logged k w.history) (Lost ∷ [])
        ∙ append-nil (confirmed_by (steps_logged k w.history)))
    go false = refl

pub sent_alike : (k : ℕ) (o : Option ℕ) (w : Works) → sent_to k w.history
    ≡ sent_to k (unless_silent_works o w).history
sent_alike k None w = refl
sent_alike k (Some j) w = refl
