-- What one exchange makes of the commands that were sent and those that were accepted.
use Rattle.std.specs.Prelude.{◌==◌}
use Rattle.std.proofs.Common.{◌≡◌, ◌≢◌, ℕ, ◌⊎◌, Bool, true, false, ◌&&◌, ◌||◌, ◌%◌, nat_lt, suc}
use Rattle.std.proofs.Common.{List, [], ◌∷◌, ◌++◌, Option, Some, None, option_and_then, refl, sym}
use Rattle.std.proofs.Common.{ap, subst, ◌∙◌, inl, inr, append_assoc, if◌then◌else◌}
use Rattle.link.specs.Answers.{Frame, Single, Fixed, Data, Service, Class1, Class2, Command, Asked}
use Rattle.link.specs.Answers.{Status, Reset, Counted, Answer, Ready, Confirmed, Busy, Report}
use Rattle.link.specs.Answers.{NoData, Unable, answer_of, comes_from}
use Rattle.link.specs.Exchanges.{Exchange}
use Rattle.link.specs.Procedure.{LinkSettings, Link, Down, Available, Next, Held, after_outcome}
use Rattle.link.specs.Procedure.{missed_so_far, MaySend}
use Rattle.link.specs.Outstation.{Effect, effects_of}
use Rattle.link.specs.Delivery.{learnt_by, learnt, pending_by, pending_after, is_reset, accepted_by}
use Rattle.link.specs.Delivery.{commands, command_of, is_busy_by, is_answered_busy, first_sending}
use Rattle.link.specs.Delivery.{sendings_not_busy}
use Rattle.link.specs.Procedure.{probed_so_far, is_kept, spent_silence, short_silence}

-- what may be said to a command
abbrev pub SaysToCommand : Option Answer → Type 0
SaysToCommand None = Unit {0}
SaysToCommand (Some Confirmed) = Unit {0}
SaysToCommand (Some Busy) = Unit {0}
SaysToCommand (Some Unable) = Unit {0}
SaysToCommand (Some answer) = ⊥

record FitsCommand (m : Option Answer) : Type 0 where
  pub fits : SaysToCommand m

either_fits : (b : Bool) (m n : Option Answer) → FitsCommand m → FitsCommand n
    → FitsCommand (if b then m else n)
either_fits true m n p q = p
either_fits false m n p q = q

nothing_fits : FitsCommand None
nothing_fits = record { fits = tt }

confirmed_fits : FitsCommand (Some Confirmed)
confirmed_fits = record { fits = tt }

busy_fits : FitsCommand (Some Busy)
busy_fits = record { fits = tt }

unable_fits : FitsCommand (Some Unable)
unable_fits = record { fits = tt }

answer_fits : (station : ℕ) (fcb : Bool) (asdu : List ℕ) (frame : Frame)
    → FitsCommand (answer_of station (Counted fcb (Command asdu)) frame)
answer_fits station fcb asdu Single = confirmed_fits
answer_fits station fcb asdu (Fixed control address) =
    either_fits (comes_from station control address) _ _
    (either_fits (control % 16 == 0) _ _ confirmed_fits
    (either_fits (control % 16 == 1) _ _ busy_fits
    (either_fits ((control % 16 == 14) || (control % 16 == 15)) _ _ unable_fits nothing_fits)))
    nothing_fits
answer_fits station fcb asdu (Data control address octets) =
    either_fits (comes_from station control address && (control % 16 == 8)) _ _ nothing_fits
    nothing_fits

front_fits : (station : ℕ) (fcb : Bool) (asdu : List ℕ) (front : Option Frame)
    → FitsCommand (option_and_then (answer_of station (Counted fcb (Command asdu))) front)
front_fits station fcb asdu None = nothing_fits
front_fits station fcb asdu (Some frame) = answer_fits station fcb asdu frame

pub commands-append : (xs ys : List Effect) → commands (xs ++ ys) ≡ commands xs ++ commands ys
commands-append [] ys = refl
commands-append (x ∷ xs) ys = ap (λ (r : List (List ℕ)). accepted_by x ++ r) (commands-append xs ys)
    ∙ sym (append_assoc (accepted_by x) (commands xs) (commands ys))

pub commands-nil : (xs : List (List ℕ)) → xs ++ [] ≡ xs
commands-nil [] = refl
commands-nil (x ∷ xs) = ap (λ (ys : List (List ℕ)). x ∷ ys) (commands-nil xs)

abbrev pub pending_command : Option Service → List (List ℕ)
pending_command None = []
pending_command (Some service) = command_of service

-- the command that is pending, unless it is answered busy later
abbrev pub still_sent : (station : ℕ) → Option Service → List Exchange → List (List ℕ)
still_sent station pending xs = if is_answered_busy station xs then [] else pending_command pending

-- From a place in a session with this pending: the sendings that weren't answered busy are the
-- commands
-- learnt, and the one that is pending in the end.
abbrev pub SendingsLearnt : (station : ℕ) → Option Service → List Exchange → Type 0
SendingsLearnt station pending xs =
    still_sent station pending xs ++ sendings_not_busy station pending xs
    ≡ commands (learnt station xs) ++ pending_command (pending_after station pending xs)

-- what the link says of the pending service
abbrev pub LinkPends : Link → Option Service → Type 0
LinkPends Down pending = Unit {0}
LinkPends Available pending = Unit {0}
LinkPends (Next fcb) pending = pending ≡ None
LinkPends (Held fcb service missed) pending = pending ≡ Some service

-- whatever fits a service, if it is no refusal, does to commands what the service asks for, or says
-- that the
-- link is busy
effects_fit : (service : Service) (fcb : Bool) (station : ℕ) (front : Option Frame)
    (answer : Answer) → answer ≢ Busy
    → answer ≢ Unable →
    option_and_then (answer_of station (Counted fcb service)) front ≡ Some answer
    → commands (effects_of service answer) ≡ command_of service
effects_fit Class1 fcb station front Ready busy unable e = refl
effects_fit Class1 fcb station front Confirmed busy unable e = refl
effects_fit Class1 fcb station front Busy busy unable e = refl
effects_fit Class1 fcb station front (Report asdu) busy unable e = refl
effects_fit Class1 fcb station front NoData busy unable e = refl
effects_fit Class1 fcb station front Unable busy unable e = refl
effects_fit Class2 fcb station front Ready busy unable e = refl
effects_fit Class2 fcb station front Confirmed busy unable e = refl
effects_fit Class2 fcb station front Busy busy unable e = refl
effects_fit Class2 fcb station front (Report asdu) busy unable e = refl
effects_fit Class2 fcb station front NoData busy unable e = refl
effects_fit Class2 fcb station front Unable busy unable e = refl
effects_fit (Command c) fcb station front answer busy unable e =
    go answer busy unable (subst (λ (m : Option Answer). FitsCommand m) e
    (front_fits station fcb c front)).fits
  where
    go : (a : Answer) → a ≢ Busy → a ≢ Unable → SaysToCommand (Some a)
        → commands (effects_of (Command c) a) ≡ c ∷ []
    go Confirmed busy unable fits = refl
    go Busy busy unable fits = absurd (busy refl)
    go Unable busy unable fits = absurd (unable refl)
    go a busy unable fits = absurd fits

busy_effects : (service : Service) → effects_of service Busy ≡ []
busy_effects Class1 = refl
busy_effects Class2 = refl
busy_effects (Command c) = refl

unable_effects : (service : Service) → effects_of service Unable ≡ []
unable_effects Class1 = refl
unable_effects Class2 = refl
unable_effects (Command c) = refl

pub drop_if : (b : Bool) (xs : List (List ℕ)) → (if b then [] else []) ++ xs ≡ xs
drop_if true xs = refl
drop_if false xs = refl

-- the link after an exchange of a service knows what is pending
service_pends : (settings : LinkSettings) (fcb : Bool) (service : Service) (m : Option Answer)
    (front : Option Frame)
    (closed : Bool) (link : Link) (pending : Option Service) →
    LinkPends
    (after_outcome settings m (Counted fcb service) closed
    link) (pending_by (Counted fcb service) m pending)
service_pends settings fcb service None front false link pending = refl
service_pends settings fcb service None front true link pending =
    go (nat_lt settings.retries (suc (missed_so_far link)))
    (is_kept settings (probed_so_far link))
  where
    go : (b hold : Bool) → LinkPends
        (if b then (if hold then Held fcb service (spent_silence settings (probed_so_far link))
        else Down) else Held fcb service
        (short_silence (suc (missed_so_far link)) (probed_so_far link))) (Some service)
    go true true = refl
    go true false = tt
    go false hold = refl
service_pends settings fcb service (Some Ready) front closed link pending = refl
service_pends settings fcb service (Some Confirmed) front closed link pending = refl
service_pends settings fcb service (Some Busy) front closed link pending = refl
service_pends settings fcb service (Some (Report asdu)) front closed link pending = refl
service_pends settings fcb service (Some NoData) front closed link pending = refl
service_pends settings fcb service (Some Unable) front closed link pending = tt

-- what is sent of a service at one exchange of it, new or repeated
sent_part : (pending : Option Service) (fcb : Bool) (service : Service) (busy : Bool)
    (more : List (List ℕ))
    → (pending ≡ None) ⊎ (pending ≡ Some service) →
    (if busy then [] else pending_command pending)
    ++ ((if busy then [] else first_sending pending (Counted fcb service)) ++ more)
    ≡ (if busy then [] else command_of service) ++ more
sent_part pending fcb service busy more (inl e) =
    subst (λ (p : Option Service). (if busy then [] else pending_command p)
    ++ ((if busy then [] else first_sending p (Counted fcb service)) ++ more)
    ≡ (if busy then [] else command_of service) ++ more) (sym e) (drop_if busy _)
sent_part pending fcb service busy more (inr e) =
    subst (λ (p : Option Service). (if busy then [] else pending_command p)
    ++ ((if busy then [] else first_sending p (Counted fcb service)) ++ more)
    ≡ (if busy then [] else command_of service) ++ more) (sym e)
    (ap (λ (l : List (List ℕ)). (if busy then [] else command_of service) ++ l) (drop_if busy more))

-- an answer that does what was asked for
plain_sendings : (station : ℕ) (fcb : Bool) (service : Service) (front : Option Frame)
    (answer : Answer)
    (rest : List Exchange) →
    answer ≢ Busy → answer ≢ Unable → option_and_then (answer_of station (Counted fcb service))
    front ≡ Some answer →
    SendingsLearnt station None rest →
    command_of service ++ sendings_not_busy station None rest
    ≡ commands (effects_of service answer ++ learnt station rest)
    ++ pending_command (pending_after station None rest)
plain_sendings station fcb service front answer rest busy unable e ih =
    ap (λ (l : List (List ℕ)). command_of service ++ l)
    (sym (drop_if (is_answered_busy station rest) _) ∙ ih)
    ∙ sym (append_assoc (command_of service) (commands (learnt station rest))
    (pending_command (pending_after station None rest)))
    ∙ ap (λ (l : List (List ℕ)). l ++ pending_command (pending_after station None rest))
    (ap (λ (l : List (List ℕ)). l ++ commands (learnt station rest))
    (sym (effects_fit service fcb station front answer busy unable e))
    ∙ sym (commands-append (effects_of service answer) (learnt station rest)))

-- One exchange of a service, with what is known of the rest.
service_sendings : (station : ℕ) (fcb : Bool) (service : Service) (front : Option Frame)
    (m : Option Answer)
    (pending : Option Service) (rest : List Exchange) →
    option_and_then (answer_of station (Counted fcb service)) front ≡ m →
    SendingsLearnt station (pending_by (Counted fcb service) m pending) rest →
    (if is_busy_by (Counted fcb service) m (is_answered_busy station rest) then []
    else command_of service)
    ++ sendings_not_busy station (pending_by (Counted fcb service) m pending) rest
    ≡ commands (learnt_by (Counted fcb service) m ++ learnt station rest)
    ++ pending_command (pending_after station (pending_by (Counted fcb service) m pending) rest)
service_sendings station fcb service front None pending rest e ih = ih
service_sendings station fcb service front (Some Unable) pending rest e ih =
    ih ∙ ap (λ (l : List Effect). commands (l ++ learnt station rest)
    ++ pending_command (pending_after station (Some service) rest)) (sym (unable_effects service))
service_sendings station fcb service front (Some Busy) pending rest e ih =
    sym (drop_if (is_answered_busy station rest) _) ∙ ih
    ∙ ap (λ (l : List Effect). commands (l ++ learnt station rest)
    ++ pending_command (pending_after station None rest)) (sym (busy_effects service))
service_sendings station fcb service front (Some Ready) pending rest e ih =
    plain_sendings station fcb service front Ready rest (λ h. cc) (λ h. cc) e ih
service_sendings station fcb service front (Some Confirmed) pending rest e ih =
    plain_sendings station fcb service front Confirmed rest (λ h. cc) (λ h. cc) e ih
service_sendings station fcb service front (Some (Report asdu)) pending rest e ih =
    plain_sendings station fcb service front (Report asdu) rest (λ h. cc) (λ h. cc) e ih
service_sendings station fcb service front (Some NoData) pending rest e ih =
    plain_sendings station fcb service front NoData rest (λ h. cc) (λ h. cc) e ih

-- a request that isn't counted sends no command
first_status : (pending : Option Service) → first_sending pending Status ≡ []
first_status None = refl
first_status (Some service) = refl

first_reset : (pending : Option Service) → first_sending pending Reset ≡ []
first_reset None = refl
first_reset (Some service) = refl

idle_sendings : (station : ℕ) (pending : Option Service) (rest : List Exchange)
    (first : List (List ℕ)) → first ≡ []
    → SendingsLearnt station pending rest →
    still_sent station pending rest ++ ((if is_answered_busy station rest then [] else first)
    ++ sendings_not_busy station pending rest)
    ≡ commands (learnt station rest) ++ pending_command (pending_after station pending rest)
idle_sendings station pending rest first none ih =
    ap (λ (f : List (List ℕ)). still_sent station pending rest
    ++ ((if is_answered_busy station rest then [] else f) ++ sendings_not_busy station pending
    rest)) none
    ∙ ap (λ (l : List (List ℕ)). still_sent station pending rest ++ l)
    (drop_if (is_answered_busy station rest) _) ∙ ih

-- One exchange that is no confirmed reset.
pub exchange_sendings : (settings : LinkSettings) (station : ℕ) (link : Link)
    (pending : Option Service)
    (request : Asked)
    (front : Option Frame) (closed : Bool)
    (m : Option Answer) (rest : List Exchange) → LinkPends link pending → MaySend link request
    → is_reset request m ≡ false →
    option_and_then (answer_of station request) front ≡ m
    → SendingsLearnt station (pending_by request m pending) rest →
    (if is_busy_by request m (is_answered_busy station rest) then [] else pending_command pending)
    ++ ((if is_busy_by request m (is_answered_busy station rest) then []
    else first_sending pending request)
    ++ sendings_not_busy station (pending_by request m pending) rest)
    ≡ commands (learnt_by request m ++ learnt station rest)
    ++ pending_command (pending_after station (pending_by request m pending) rest)
exchange_sendings settings station Down pending Status front closed m rest pends may other e ih =
    idle_sendings station pending rest _ (first_status pending) ih
exchange_sendings settings station Available pending Status front closed m rest pends may other e
    ih =
    idle_sendings station pending rest _ (first_status pending) ih
exchange_sendings settings station Available pending Reset front closed None rest pends may other e
    ih =
    idle_sendings station pending rest _ (first_reset pending) ih
exchange_sendings settings station Available pending Reset front closed (Some Confirmed) rest pends
    may other e ih = cc
exchange_sendings settings station Available pending Reset front closed (Some answer) rest pends may
    other e ih =
    idle_sendings station pending rest _ (first_reset pending) ih
exchange_sendings settings station (Held fcb service silence) pending Status front closed m rest
    pends may other e ih =
    idle_sendings station pending rest _ (first_status pending) ih
exchange_sendings settings station (Next fcb) pending (Counted sent service) front closed m rest
    pends may other e ih =
    sent_part pending sent service
    (is_busy_by (Counted sent service) m (is_answered_busy station rest))
    (sendings_not_busy station (pending_by (Counted sent service) m pending) rest) (inl pends)
    ∙ service_sendings station sent service front m pending rest e ih
exchange_sendings settings station (Held fcb service missed) pending
    (Counted sent again) front closed m rest pends may other e ih =
    sent_part pending sent again (is_busy_by (Counted sent again) m (is_answered_busy station rest))
    (sendings_not_busy station (pending_by (Counted sent again) m pending) rest)
    (inr (pends ∙ ap (λ (s : Service). Some s) (sym may.1)))
    ∙ service_sendings station sent again front m pending rest e ih
exchange_sendings settings station link pending request front closed m rest pends may other e ih =
    absurd may

pub exchange_pends : (settings : LinkSettings) (station : ℕ) (link : Link)
    (pending : Option Service)
    (request : Asked)
    (front : Option Frame) (closed : Bool)
    (m : Option Answer) → LinkPends link pending → MaySend link request →
    LinkPends
    (after_outcome settings m request closed link)
    (pending_by request m pending)
exchange_pends settings station Down pending Status front closed None pends may = tt
exchange_pends settings station Down pending Status front closed (Some Ready) pends may = tt
exchange_pends settings station Down pending Status front closed (Some Unable) pends may = tt
exchange_pends settings station Down pending Status front closed (Some answer) pends may = tt
exchange_pends settings station Available pending Status front closed None pends may = tt
exchange_pends settings station Available pending Status front closed (Some Ready) pends may = tt
exchange_pends settings station Available pending Status front closed (Some Unable) pends may = tt
exchange_pends settings station Available pending Status front closed (Some answer) pends may = tt
exchange_pends settings station Available pending Reset front closed None pends may = tt
exchange_pends settings station Available pending Reset front closed (Some Confirmed) pends may =
    refl
exchange_pends settings station Available pending Reset front closed (Some Unable) pends may = tt
exchange_pends settings station Available pending Reset front closed (Some answer) pends may = tt
exchange_pends settings station (Held fcb service silence) pending Status front closed None pends
    may = pends
exchange_pends settings station (Held fcb service silence) pending Status front closed (Some Ready)
    pends may = pends
exchange_pends settings station (Held fcb service silence) pending Status front closed (Some Unable)
    pends may = tt
exchange_pends settings station (Held fcb service silence) pending Status front closed (Some answer)
    pends may = pends
exchange_pends settings station (Next fcb) pending (Counted sent service) front closed m pends may =
    service_pends settings sent service m front closed (Next fcb) pending
exchange_pends settings station (Held fcb service missed) pending (Counted sent again) front closed
    m pends may =
    service_pends settings sent again m front closed (Held fcb service missed) pending
exchange_pends settings station link pending request front closed m pends may = absurd may

-- a confirmed reset begins a session, with nothing sent
pub reset_sendings : (station : ℕ) (request : Asked) (m : Option Answer) (rest : List Exchange)
    → is_reset request m ≡ true
    →
    SendingsLearnt station None rest →
    (if is_busy_by request m (is_answered_busy station rest) then [] else [])
    ++ ((if is_busy_by request m (is_answered_busy station rest) then []
    else first_sending None request)
    ++ sendings_not_busy station (pending_by request m None) rest)
    ≡ commands (learnt_by request m ++ learnt station rest)
    ++ pending_command (pending_after station (pending_by request m None) rest)
reset_sendings station Reset (Some Confirmed) rest is ih =
    ap (λ (l : List (List ℕ)). (if is_answered_busy station rest then [] else []) ++ l)
    (drop_if (is_answered_busy station rest) _) ∙ ih
reset_sendings station Reset None rest is ih = cc
reset_sendings station Reset (Some Ready) rest is ih = cc
reset_sendings station Reset (Some Busy) rest is ih = cc
reset_sendings station Reset (Some (Report asdu)) rest is ih = cc
reset_sendings station Reset (Some NoData) rest is ih = cc
reset_sendings station Reset (Some Unable) rest is ih = cc
reset_sendings station Status m rest is ih = cc
reset_sendings station (Counted fcb service) m rest is ih = cc
