-- How the steps of commands grow with the exchanges of a station.
use Rattle.std.proofs.Common.{◌≡◌, ℕ, suc, Bool, true, false, List, [], ◌∷◌, ◌++◌, Option, Some}
use Rattle.std.proofs.Common.{None, refl, ap, sym, ◌∙◌, append_assoc, nat_lt, if◌then◌else◌}
use Rattle.std.specs.Prelude.{◌==◌, ◌%◌, ◌||◌, ◌&&◌, not, option_and_then}
use Rattle.std.proofs.lemmas.List.{append-nil}
use Rattle.ft12.specs.declared.frame.Frame.{Frame}
use Rattle.ft12.specs.declared.frame.Frame.TheVariants.{Single, Fixed, Data}
use Rattle.link.specs.declared.service.Service.{Service}
use Rattle.link.specs.declared.service.Service.TheVariants.{Class1, Class2, Command}
use Rattle.link.specs.declared.service.Asked.{Asked}
use Rattle.link.specs.declared.service.Asked.TheVariants.{Status, Reset, Counted}
use Rattle.link.specs.declared.answer.Answer.{Answer}
use Rattle.link.specs.declared.answer.Answer.TheVariants.{Ready, Confirmed, Busy, Report, NoData}
use Rattle.link.specs.declared.answer.Answer.TheVariants.{Unable}
use Rattle.link.specs.declared.settings.LinkSettings.{LinkSettings}
use Rattle.link.specs.declared.procedure.Link.{Link}
use Rattle.link.specs.declared.procedure.Link.TheVariants.{Down, Available, Next, Held}
use Rattle.link.specs.Answers.{unable_answer, code_answer, single_answer, data_answer, comes_from}
use Rattle.link.specs.Answers.{answer_of}
use Rattle.link.specs.Exchanges.{Exchange, answer_to}
use Rattle.link.specs.Procedure.{held, after, after_outcome, after_silence, link_after}
use Rattle.link.specs.Procedure.{missed_so_far, probed_so_far, silence_so_far, MaySend}
use Rattle.link.specs.Procedure.{KeepsFrameCountBit, is_kept, is_twice}
use Rattle.link.specs.declared.procedure.Silence.{Silence}
use Rattle.link.specs.declared.procedure.Probed.{Probed}
use Rattle.link.specs.declared.procedure.Probed.TheVariants.{Never}
use Rattle.link.specs.Procedure.{once_more, short_silence, spent_silence}
use Rattle.link.specs.Delivery.{pending_by, pending_after, first_sending}
use Rattle.delivery.specs.Commands.{LineStep, said_of, missed_by, goes_down, steps_at, steps_in}
use Rattle.delivery.specs.Commands.{unmissed}
use Rattle.delivery.specs.Commands.{first_sendings}

-- One more exchange

pub pending_more : (a : ℕ) (pending : Option Service) (xs : List Exchange) (x : Exchange) →
    pending_after a pending (xs ++ x ∷ [])
    ≡ pending_by x.request (answer_to a x) (pending_after a pending xs)
pending_more a pending [] x = refl
pending_more a pending (y ∷ xs) x = pending_more a (pending_by y.request (answer_to a y) pending) xs
    x

-- how often in a row a counted request had no answer in time, after these exchanges
abbrev pub missed_after : ℕ → Silence → List Exchange → Silence
missed_after a missed [] = missed
missed_after a missed (x ∷ xs) =
    missed_after a (missed_by x.request x.closed (answer_to a x) missed) xs

pub steps_more : (s : LinkSettings) (a : ℕ) (missed : Silence) (pending : Option Service)
    (xs : List Exchange)
    (x : Exchange) →
    steps_in s a missed pending (xs ++ x ∷ []) ≡ steps_in s a missed pending xs
    ++ steps_at s a (missed_after a missed xs) (pending_after a pending xs) x
steps_more s a missed pending [] x = append-nil (steps_at s a missed pending x)
steps_more s a missed pending (y ∷ xs) x =
    let missed_then : Silence = missed_by y.request y.closed (answer_to a y) missed in
    ap (λ (l : List LineStep). steps_at s a missed pending y ++ l)
    (steps_more s a missed_then (pending_by y.request (answer_to a y) pending) xs x)
    ∙ sym (append_assoc (steps_at s a missed pending y)
    (steps_in s a missed_then (pending_by y.request (answer_to a y) pending) xs)
    (steps_at s a (missed_after a missed (y ∷ xs)) (pending_after a pending (y ∷ xs)) x))

pub sendings_more : (a : ℕ) (pending : Option Service) (xs : List Exchange) (x : Exchange) →
    first_sendings a pending (xs ++ x ∷ []) ≡ first_sendings a pending xs
    ++ first_sending (pending_after a pending xs) x.request
sendings_more a pending [] x = append-nil (first_sending pending x.request)
sendings_more a pending (y ∷ xs) x =
    ap (λ (l : List (List ℕ)). first_sending pending y.request ++ l)
    (sendings_more a (pending_by y.request (answer_to a y) pending) xs x)
    ∙ sym (append_assoc (first_sending pending y.request)
    (first_sendings a (pending_by y.request (answer_to a y) pending) xs)
    (first_sending (pending_after a pending (y ∷ xs)) x.request))

pub last_may : (settings : LinkSettings) (a : ℕ) (link : Link) (xs : List Exchange) (x : Exchange) →
    KeepsFrameCountBit settings a link (xs ++ x ∷ [])
    → MaySend (link_after settings a link xs) x.request
last_may settings a link [] x h = h.0
last_may settings a link (y ∷ xs) x h = last_may settings a (after settings a y link) xs x h.1

pub front_keeps : (settings : LinkSettings) (a : ℕ) (link : Link) (xs : List Exchange)
    (x : Exchange) →
    KeepsFrameCountBit settings a link (xs ++ x ∷ []) → KeepsFrameCountBit settings a link xs
front_keeps settings a link [] x h = tt
front_keeps settings a link (y ∷ xs) x h =
    (h.0, front_keeps settings a (after settings a y link) xs x h.1)

-- What holds of a link, and of one that is down, holds whether it is given up or not.
pub by_mark : (P : Link → Type 0) (given : Bool) (link : Link) → P link → P Down
    → P (if given then Down else link)
by_mark P true link here down = down
by_mark P false link here down = here

-- The service that isn't done is the one that the link holds.

abbrev pub Pends : Link → Option Service → Type 0
Pends Down pending = Unit {0}
Pends Available pending = Unit {0}
Pends (Next fcb) pending = pending ≡ None
Pends (Held fcb service missed) pending = pending ≡ Some service

held_pends : (settings : LinkSettings) (fcb : Bool) (service : Service) (missed : ℕ)
    (probed : Probed) → Pends (held settings fcb service missed probed) (Some service)
held_pends settings fcb service missed probed =
    by_repeats (nat_lt settings.retries missed) (is_kept settings probed)
  where
    by_repeats : (b c : Bool)
        → Pends (if b then (if c then Held fcb service (spent_silence settings probed) else Down)
        else Held fcb service (short_silence missed probed))
        (Some service)
    by_repeats true true = refl
    by_repeats true false = tt
    by_repeats false c = refl

silent_pends : (settings : LinkSettings) (fcb : Bool) (service : Service) (closed : Bool)
    (link : Link)
    → Pends (after_silence settings (Counted fcb service) closed link) (Some service)
silent_pends settings fcb service true link =
    held_pends settings fcb service (suc (missed_so_far link)) (probed_so_far link)
silent_pends settings fcb service false link = refl

counted_pends : (settings : LinkSettings) (fcb : Bool) (service : Service) (m : Option Answer)
    (front : Option Frame)
    (closed : Bool) (link : Link) (pending : Option Service) →
    Pends (after_outcome settings m (Counted fcb service) closed link)
    (pending_by (Counted fcb service) m pending)
counted_pends settings fcb service None front closed link pending =
    silent_pends settings fcb service closed link
counted_pends settings fcb service (Some Ready) front closed link pending = refl
counted_pends settings fcb service (Some Confirmed) front closed link pending = refl
counted_pends settings fcb service (Some Busy) front closed link pending = refl
counted_pends settings fcb service (Some (Report asdu)) front closed link pending = refl
counted_pends settings fcb service (Some NoData) front closed link pending = refl
counted_pends settings fcb service (Some Unable) front closed link pending = tt

-- a link that isn't up
abbrev IsDown : Link → Type 0
IsDown Down = Unit {0}
IsDown Available = Unit {0}
IsDown (Next fcb) = ⊥
IsDown (Held fcb service missed) = ⊥

down_pends : (link : Link) (pending : Option Service) → IsDown link → Pends link pending
down_pends Down pending h = tt
down_pends Available pending h = tt
down_pends (Next fcb) pending h = absurd h
down_pends (Held fcb service missed) pending h = absurd h

status_pends : (settings : LinkSettings) (m : Option Answer) (closed : Bool) (link : Link)
    (pending : Option Service) → MaySend link Status → Pends link pending →
    Pends (after_outcome settings m Status closed link) (pending_by Status m pending)
status_pends settings None closed Down pending may p = tt
status_pends settings None closed Available pending may p = tt
status_pends settings None closed (Next fcb) pending may p = absurd may
status_pends settings None closed (Held fcb service missed) pending may p = p
status_pends settings (Some Ready) closed Down pending may p = tt
status_pends settings (Some Ready) closed Available pending may p = tt
status_pends settings (Some Ready) closed (Next fcb) pending may p = absurd may
status_pends settings (Some Ready) closed (Held fcb service missed) pending may p = p
status_pends settings (Some Confirmed) closed link pending may p = p
status_pends settings (Some Busy) closed link pending may p = p
status_pends settings (Some (Report asdu)) closed link pending may p = p
status_pends settings (Some NoData) closed link pending may p = p
status_pends settings (Some Unable) closed link pending may p = tt

reset_pends : (settings : LinkSettings) (m : Option Answer) (front : Option Frame) (closed : Bool)
    (link : Link)
    (pending : Option Service) → IsDown link →
    Pends (after_outcome settings m Reset closed
    link)
    (pending_by Reset m pending)
reset_pends settings None front closed link pending h = tt
reset_pends settings (Some Ready) front closed link pending h = down_pends link pending h
reset_pends settings (Some Confirmed) front closed link pending h = refl
reset_pends settings (Some Busy) front closed link pending h = down_pends link pending h
reset_pends settings (Some (Report asdu)) front closed link pending h = down_pends link pending h
reset_pends settings (Some NoData) front closed link pending h = down_pends link pending h
reset_pends settings (Some Unable) front closed link pending h = down_pends link pending h

may_reset : (link : Link) → MaySend link Reset → IsDown link
may_reset Down h = tt
may_reset Available h = tt
may_reset (Next fcb) h = h
may_reset (Held fcb service missed) h = h

one_pends : (settings : LinkSettings) (request : Asked) (m : Option Answer) (front : Option Frame)
    (closed : Bool)
    (link : Link) (pending : Option Service) → MaySend link request → Pends link pending →
    Pends (after_outcome settings m request closed
    link)
    (pending_by request m pending)
one_pends settings Status m front closed link pending h p =
    status_pends settings m closed link pending h p
one_pends settings Reset m front closed link pending h p =
    reset_pends settings m front closed link pending (may_reset link h)
one_pends settings (Counted fcb service) m front closed link pending h p =
    counted_pends settings fcb service m front closed link pending

pub pends : (settings : LinkSettings) (a : ℕ) (link : Link) (pending : Option Service)
    (xs : List Exchange)
    → KeepsFrameCountBit settings a link xs → Pends link pending →
    Pends (link_after settings a link xs) (pending_after a pending xs)
pends settings a link pending [] h p = p
pends settings a link pending (x ∷ xs) h p =
    pends settings a (after settings a x link) (pending_by x.request (answer_to a x) pending) xs h.1
    (by_mark (λ (l : Link). Pends l (pending_by x.request (answer_to a x) pending)) x.given_up _
    (one_pends settings x.request (answer_to a x) x.front x.closed link pending h.0 p) tt)

-- What an answer says

-- which answers a request can have
abbrev pub IsProper : Asked → Answer → Type 0
IsProper Status Ready = Unit {0}
IsProper Status Unable = Unit {0}
IsProper Reset Confirmed = Unit {0}
IsProper (Counted fcb (Command asdu)) Confirmed = Unit {0}
IsProper (Counted fcb (Command asdu)) Busy = Unit {0}
IsProper (Counted fcb (Command asdu)) Unable = Unit {0}
IsProper (Counted fcb Class1) (Report asdu) = Unit {0}
IsProper (Counted fcb Class1) NoData = Unit {0}
IsProper (Counted fcb Class1) Unable = Unit {0}
IsProper (Counted fcb Class2) (Report asdu) = Unit {0}
IsProper (Counted fcb Class2) NoData = Unit {0}
IsProper (Counted fcb Class2) Unable = Unit {0}
IsProper request answer = ⊥

abbrev pub AreProper : Asked → Option Answer → Type 0
AreProper request None = Unit {0}
AreProper request (Some answer) = IsProper request answer

either : (request : Asked) (b : Bool) (m n : Option Answer) → AreProper request m
    → AreProper request n
    → AreProper request (if b then m else n)
either request true m n h k = h
either request false m n h k = k

unable_proper : (request : Asked) (code : ℕ) → IsProper request Unable
    → AreProper request (unable_answer code)
unable_proper request code h = either request ((code == 14) || (code == 15)) (Some Unable) None h tt

code_proper : (request : Asked) (code : ℕ) → AreProper request (code_answer request code)
code_proper Status code = either Status (code == 11) (Some Ready) (unable_answer code) tt
    (unable_proper Status code tt)
code_proper Reset code = either Reset (code == 0) (Some Confirmed) None tt tt
code_proper (Counted fcb Class1) code = either (Counted fcb Class1) (code == 9) (Some NoData)
    (unable_answer code) tt
    (unable_proper (Counted fcb Class1) code tt)
code_proper (Counted fcb Class2) code = either (Counted fcb Class2) (code == 9) (Some NoData)
    (unable_answer code) tt
    (unable_proper (Counted fcb Class2) code tt)
code_proper (Counted fcb (Command asdu)) code =
    either (Counted fcb (Command asdu)) (code == 0) (Some Confirmed)
    (if code == 1 then Some Busy else unable_answer code) tt
    (either (Counted fcb (Command asdu)) (code == 1) (Some Busy) (unable_answer code) tt
    (unable_proper (Counted fcb (Command asdu)) code tt))

single_proper : (request : Asked) → AreProper request (single_answer request)
single_proper Status = tt
single_proper Reset = tt
single_proper (Counted fcb Class1) = tt
single_proper (Counted fcb Class2) = tt
single_proper (Counted fcb (Command asdu)) = tt

data_proper : (request : Asked) (asdu : List ℕ) → AreProper request (data_answer request asdu)
data_proper Status asdu = tt
data_proper Reset asdu = tt
data_proper (Counted fcb Class1) asdu = tt
data_proper (Counted fcb Class2) asdu = tt
data_proper (Counted fcb (Command command)) asdu = tt

frame_proper : (a : ℕ) (request : Asked) (frame : Frame)
    → AreProper request (answer_of a request frame)
frame_proper a request Single = single_proper request
frame_proper a request (Fixed control address) = either request (comes_from a control address)
    (code_answer request (control % 16)) None (code_proper request (control % 16)) tt
frame_proper a request (Data control address body) =
    either request (comes_from a control address && (control % 16 == 8))
    (data_answer request body.items) None
    (data_proper request body.items) tt

pub answers_proper : (a : ℕ) (request : Asked) (front : Option Frame)
    → AreProper request (option_and_then (answer_of a request) front)
answers_proper a request None = tt
answers_proper a request (Some frame) = frame_proper a request frame

-- nothing is said of a request without an answer
pub none_said : (request : Asked) → said_of request None ≡ []
none_said Status = refl
none_said Reset = refl
none_said (Counted fcb Class1) = refl
none_said (Counted fcb Class2) = refl
none_said (Counted fcb (Command asdu)) = refl

-- and only a command is sent for the first time
pub no_first : (pending : Option Service) (request : Asked)
    → ((fcb : Bool) (asdu : List ℕ) → request ≡ Counted fcb (Command asdu) → ⊥)
    → first_sending pending request ≡ []
no_first None Status h = refl
no_first None Reset h = refl
no_first None (Counted fcb Class1) h = refl
no_first None (Counted fcb Class2) h = refl
no_first None (Counted fcb (Command asdu)) h = absurd (h fcb asdu refl)
no_first (Some service) request h = refl

-- How often a service was unanswered in a row is what the link counts, as long as it is up, and may
-- be reset
-- by silence.

abbrev pub CountsSilence : LinkSettings → Silence → Silence → Type 0
CountsSilence s silence n =
    (n.probed ≡ silence.probed)
    × ((is_kept s silence.probed ≡ false → n.missed ≡ silence.missed)
    × (silence.spent ≡ true → s.hold ≡ true))

abbrev pub Counts : LinkSettings → Link → Silence → Type 0
Counts s Down n = Unit {0}
Counts s Available n = Unit {0}
Counts s (Next fcb) n = n ≡ unmissed
Counts s (Held fcb service silence) n = CountsSilence s silence n

none_missed : (s : LinkSettings) (n : Silence) → n ≡ unmissed → CountsSilence s unmissed n
none_missed s n is = (
  ap (λ (m : Silence). m.probed) is,
  ((λ gone. ap (λ (m : Silence). m.missed) is), (λ spent. cc)),
)

-- before another sending of a counted request
pub so_far : (s : LinkSettings) (link : Link) (fcb : Bool) (service : Service) (n : Silence)
    → MaySend link (Counted fcb service) → Counts s link n
    → CountsSilence s (silence_so_far link) n
so_far s Down fcb service n may c = absurd may
so_far s Available fcb service n may c = absurd may
so_far s (Next due) fcb service n may c = none_missed s n c
so_far s (Held due held silence) fcb service n may c = c

kept_holds : (hold twice : Bool) → (hold && twice) ≡ true → hold ≡ true
kept_holds true twice e = refl
kept_holds false twice e = cc

held_counts : (s : LinkSettings) (fcb : Bool) (service : Service) (n : Silence) (missed : ℕ)
    (probed : Probed) → n.probed ≡ probed
    → (is_kept s probed ≡ false → n.missed ≡ missed)
    → Counts s (held s fcb service missed probed) n
held_counts s fcb service n missed probed alike same =
    by_repeats (nat_lt s.retries missed) (is_kept s probed) refl
  where
    by_repeats : (b c : Bool) → is_kept s probed ≡ c
        → Counts s (if b then (if c then Held fcb service (spent_silence s probed) else Down)
        else Held fcb service (short_silence missed probed)) n
    by_repeats true true is = (
      alike,
      (
        (λ no. let e : true ≡ false = sym is ∙ no in cc),
        (λ spent. kept_holds s.hold (not (is_twice probed)) is),
      ),
    )
    by_repeats true false is = tt
    by_repeats false c is = (alike, (same, (λ spent. cc)))

down_counts : (s : LinkSettings) (link : Link) (n : Silence) → IsDown link → Counts s link n
down_counts s Down n h = tt
down_counts s Available n h = tt
down_counts s (Next fcb) n h = absurd h
down_counts s (Held fcb service missed) n h = absurd h

-- with `hold` a service that no status was answered for stays held
never_gone : (s : LinkSettings) → s.hold ≡ true → is_kept s Never ≡ true
never_gone s holds = ap (λ (b : Bool). b && true) holds

status_counts : (s : LinkSettings) (m : Option Answer) (closed : Bool) (link : Link) (n : Silence)
    → MaySend link Status → Counts s link n →
    Counts s (after_outcome s m Status closed link) (missed_by Status closed m n)
status_counts s None closed Down n may c = tt
status_counts s None closed Available n may c = tt
status_counts s None closed (Next fcb) n may c = absurd may
status_counts s None closed (Held fcb service silence) n may c = (
  refl,
  (
    (λ no. let e : true ≡ false = sym (never_gone s (c.1.1 may)) ∙ no in cc),
    (λ spent. c.1.1 may),
  ),
)
status_counts s (Some Ready) closed Down n may c = tt
status_counts s (Some Ready) closed Available n may c = tt
status_counts s (Some Ready) closed (Next fcb) n may c = absurd may
status_counts s (Some Ready) closed (Held fcb service silence) n may c =
    (ap once_more c.0, ((λ gone. refl), (λ spent. cc)))
status_counts s (Some Confirmed) closed link n may c = c
status_counts s (Some Busy) closed link n may c = c
status_counts s (Some (Report asdu)) closed link n may c = c
status_counts s (Some NoData) closed link n may c = c
status_counts s (Some Unable) closed link n may c = tt

one_counts : (s : LinkSettings) (request : Asked) (m : Option Answer) (front : Option Frame)
    (closed : Bool)
    (link : Link) (n : Silence) → MaySend link request → Counts s link n →
    Counts s (after_outcome s m request closed link)
    (missed_by request closed m n)
one_counts s Status m front closed link n may c = status_counts s m closed link n may c
one_counts s Reset None front closed link n may c = tt
one_counts s Reset (Some Ready) front closed link n may c =
    down_counts s link unmissed (may_reset link may)
one_counts s Reset (Some Confirmed) front closed link n may c = refl
one_counts s Reset (Some Busy) front closed link n may c =
    down_counts s link unmissed (may_reset link may)
one_counts s Reset (Some (Report asdu)) front closed link n may c =
    down_counts s link unmissed (may_reset link may)
one_counts s Reset (Some NoData) front closed link n may c =
    down_counts s link unmissed (may_reset link may)
one_counts s Reset (Some Unable) front closed link n may c =
    down_counts s link unmissed (may_reset link may)
one_counts s (Counted fcb service) None front true link n may c =
    held_counts s fcb service (short_silence (suc n.missed) n.probed) (suc (missed_so_far link))
    (probed_so_far link) (so_far s link fcb service n may c).0
    (λ h. ap suc ((so_far s link fcb service n may c).1.0 h))
one_counts s (Counted fcb service) None front false link n may c = so_far s link fcb service n may c
one_counts s (Counted fcb service) (Some Ready) front closed link n may c = refl
one_counts s (Counted fcb service) (Some Confirmed) front closed link n may c = refl
one_counts s (Counted fcb service) (Some Busy) front closed link n may c = refl
one_counts s (Counted fcb service) (Some (Report asdu)) front closed link n may c = refl
one_counts s (Counted fcb service) (Some NoData) front closed link n may c = refl
one_counts s (Counted fcb service) (Some Unable) front closed link n may c = tt

pub counts : (s : LinkSettings) (a : ℕ) (link : Link) (n : Silence) (xs : List Exchange)
    → KeepsFrameCountBit s a link xs
    → Counts s link n → Counts s (link_after s a link xs) (missed_after a n xs)
counts s a link n [] h c = c
counts s a link n (x ∷ xs) h c =
    counts s a (after s a x link) (missed_by x.request x.closed (answer_to a x) n) xs h.1
    (by_mark (λ (l : Link). Counts s l (missed_by x.request x.closed (answer_to a x) n)) x.given_up
    _ (one_counts s x.request (answer_to a x) x.front x.closed link n h.0 c) tt)

-- No link goes down while an answer is still awaited.
pub still_up : (s : LinkSettings) (missed : Silence) (request : Asked)
    → goes_down s missed request false None ≡ false
still_up s missed Status = refl
still_up s missed Reset = refl
still_up s missed (Counted fcb service) = refl

-- that an answered exchange is over changes nothing
pub answered_alike : (s : LinkSettings) (missed : Silence) (request : Asked) (closed over : Bool)
    (m : Answer)
    → goes_down s missed request closed (Some m) ≡ goes_down s missed request over (Some m)
answered_alike s missed request closed over Ready = refl
answered_alike s missed request closed over Confirmed = refl
answered_alike s missed request closed over Busy = refl
answered_alike s missed request closed over (Report asdu) = refl
answered_alike s missed request closed over NoData = refl
answered_alike s missed request closed over Unable = refl
