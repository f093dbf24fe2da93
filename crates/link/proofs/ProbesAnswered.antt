-- If services are held, silence takes no link down but behind two statuses that were answered.
use Rattle.std.specs.Prelude.{◌&&◌, not, nat_lt}
use Rattle.std.proofs.Common.{◌≡◌, ℕ, suc, ◌≤◌, Bool, true, false, List, [], ◌∷◌, ◌++◌, Option}
use Rattle.std.proofs.Common.{Some, None, refl, sym, ap, ◌∙◌, arith, if◌then◌else◌}
use Rattle.link.specs.Answers.{Service, Asked, Status, Reset, Counted, Answer, Ready, Confirmed}
use Rattle.link.specs.Answers.{Busy, Report, NoData, Unable}
use Rattle.link.specs.Exchanges.{Exchange, answer_to}
use Rattle.link.specs.Probes.{probed_by, answered_probes}
use Rattle.link.specs.Procedure.{LinkSettings, Link, Down, Available, Next, Held, Silence, Probed}
use Rattle.link.specs.Procedure.{Never, Once, Twice, after, after_outcome, after_silence, is_kept}
use Rattle.link.specs.Procedure.{is_twice, is_up, held, link_after, missed_so_far, once_more}
use Rattle.link.specs.Procedure.{probed_so_far, short_silence, spent_silence}
use Rattle.link.proofs.VisitAsked.{link_append}

abbrev number : Probed → ℕ
number Never = 0
number Once = 1
number Twice = 2

-- the link says no more of them than there were
abbrev Counts : Link → ℕ → Type 0
Counts link n = number (probed_so_far link) ≤ n

once_is : (probed : Probed) (n : ℕ) → number probed ≤ n → number (once_more probed) ≤ suc n
once_is Never n h = omega (arith, h)
once_is Once n h = omega (arith, h)
once_is Twice n h = omega (arith, h)

none : (n : ℕ) → 0 ≤ n
none n = omega arith

held_counts : (s : LinkSettings) (fcb : Bool) (service : Service) (missed n : ℕ) (probed : Probed)
    → number probed ≤ n → Counts (held s fcb service missed probed) n
held_counts s fcb service missed n probed h = go (nat_lt s.retries missed) (is_kept s probed)
  where
    go : (b c : Bool)
        → Counts (if b then (if c then Held fcb service (spent_silence s probed) else Down)
        else Held fcb service (short_silence missed probed)) n
    go true true = h
    go true false = none n
    go false c = h

status_counts : (s : LinkSettings) (m : Option Answer) (closed : Bool) (link : Link) (n : ℕ)
    → Counts link n → Counts (after_outcome s m Status closed link) (probed_by Status m n)
status_counts s None closed Down n h = none 0
status_counts s None closed Available n h = none 0
status_counts s None closed (Next fcb) n h = none 0
status_counts s None closed (Held fcb service silence) n h = none 0
status_counts s (Some Ready) closed Down n h = none (suc n)
status_counts s (Some Ready) closed Available n h = none (suc n)
status_counts s (Some Ready) closed (Next fcb) n h = none (suc n)
status_counts s (Some Ready) closed (Held fcb service silence) n h = once_is silence.probed n h
status_counts s (Some Confirmed) closed link n h = h
status_counts s (Some Busy) closed link n h = h
status_counts s (Some (Report asdu)) closed link n h = h
status_counts s (Some NoData) closed link n h = h
status_counts s (Some Unable) closed link n h = none n

reset_counts : (s : LinkSettings) (m : Option Answer) (closed : Bool) (link : Link) (n : ℕ)
    → Counts link n → Counts (after_outcome s m Reset closed link) (probed_by Reset m n)
reset_counts s None closed link n h = none n
reset_counts s (Some Ready) closed link n h = h
reset_counts s (Some Confirmed) closed link n h = none n
reset_counts s (Some Busy) closed link n h = h
reset_counts s (Some (Report asdu)) closed link n h = h
reset_counts s (Some NoData) closed link n h = h
reset_counts s (Some Unable) closed link n h = h

open_counts : (fcb : Bool) (service : Service) (link : Link) (n : ℕ) → Counts link n
    → (s : LinkSettings) → Counts (after_silence s (Counted fcb service) false link) n
open_counts fcb service Down n h s = h
open_counts fcb service Available n h s = h
open_counts fcb service (Next bit) n h s = h
open_counts fcb service (Held bit other silence) n h s = h

service_counts : (s : LinkSettings) (fcb : Bool) (service : Service) (m : Option Answer)
    (closed : Bool) (link : Link) (n : ℕ) → Counts link n
    → Counts (after_outcome s m (Counted fcb service) closed link)
    (probed_by (Counted fcb service) m n)
service_counts s fcb service None true link n h =
    held_counts s fcb service (suc (missed_so_far link)) n (probed_so_far link) h
service_counts s fcb service None false link n h = open_counts fcb service link n h s
service_counts s fcb service (Some Ready) closed link n h = none 0
service_counts s fcb service (Some Confirmed) closed link n h = none 0
service_counts s fcb service (Some Busy) closed link n h = none 0
service_counts s fcb service (Some (Report asdu)) closed link n h = none 0
service_counts s fcb service (Some NoData) closed link n h = none 0
service_counts s fcb service (Some Unable) closed link n h = none 0

outcome_counts : (s : LinkSettings) (request : Asked) (m : Option Answer) (closed : Bool)
    (link : Link) (n : ℕ) → Counts link n
    → Counts (after_outcome s m request closed link) (probed_by request m n)
outcome_counts s Status m closed link n h = status_counts s m closed link n h
outcome_counts s Reset m closed link n h = reset_counts s m closed link n h
outcome_counts s (Counted fcb service) m closed link n h =
    service_counts s fcb service m closed link n h

one_counts : (s : LinkSettings) (a : ℕ) (x : Exchange) (link : Link) (n : ℕ) → Counts link n
    → Counts (after s a x link) (probed_by x.request (answer_to a x) n)
one_counts s a x link n h = go x.given_up
  where
    go : (given : Bool) → Counts (if given then Down
        else after_outcome s (answer_to a x) x.request x.closed link)
        (probed_by x.request (answer_to a x) n)
    go true = none (probed_by x.request (answer_to a x) n)
    go false = outcome_counts s x.request (answer_to a x) x.closed link n h

counts : (s : LinkSettings) (a : ℕ) (link : Link) (n : ℕ) (xs : List Exchange) → Counts link n
    → Counts (link_after s a link xs) (answered_probes a n xs)
counts s a link n [] h = h
counts s a link n (x ∷ xs) h =
    counts s a (after s a x link) (probed_by x.request (answer_to a x) n) xs
    (one_counts s a x link n h)

-- ---- When silence takes a link down

twice_is : (s : LinkSettings) (probed : Probed) (n : ℕ) → s.hold ≡ true → is_kept s probed ≡ false
    → number probed ≤ n → 2 ≤ n
twice_is s Twice n hold gone h = h
twice_is s Never n hold gone h =
    let no : true ≡ false = sym (ap (λ (b : Bool). b && true) hold) ∙ gone in cc
twice_is s Once n hold gone h =
    let no : true ≡ false = sym (ap (λ (b : Bool). b && true) hold) ∙ gone in cc

gone_down : (s : LinkSettings) (fcb : Bool) (service : Service) (missed n : ℕ) (probed : Probed)
    → s.hold ≡ true → number probed ≤ n → is_up (held s fcb service missed probed) ≡ false
    → 2 ≤ n
gone_down s fcb service missed n probed hold h down =
    go (nat_lt s.retries missed) (is_kept s probed) refl down
  where
    go : (b c : Bool) → is_kept s probed ≡ c
        → is_up (if b then (if c then Held fcb service (spent_silence s probed) else Down)
        else Held fcb service (short_silence missed probed)) ≡ false → 2 ≤ n
    go true true is e = let wrong : true ≡ false = e in cc
    go true false is e = twice_is s probed n hold is h
    go false c is e = let wrong : true ≡ false = e in cc

silent_down : (s : LinkSettings) (request : Asked) (closed : Bool) (link : Link) (n : ℕ)
    → s.hold ≡ true → Counts link n → is_up link ≡ true
    → is_up (after_silence s request closed link) ≡ false
    → (request ≡ Reset → ⊥) → (request ≡ Status → ⊥) → 2 ≤ n
silent_down s Status closed link n hold h up down no_reset no_status = absurd (no_status refl)
silent_down s Reset closed link n hold h up down no_reset no_status = absurd (no_reset refl)
silent_down s (Counted fcb service) false link n hold h up down no_reset no_status = cc
silent_down s (Counted fcb service) true link n hold h up down no_reset no_status =
    gone_down s fcb service (suc (missed_so_far link)) n (probed_so_far link) hold h down

pub ends_behind_two : (s : LinkSettings) (a : ℕ) (before : List Exchange) (x : Exchange)
    (fcb : Bool) (service : Service) → s.hold ≡ true → x.request ≡ Counted fcb service
    → answer_to a x ≡ None → x.given_up ≡ false
    → is_up (link_after s a Down before) ≡ true
    → is_up (link_after s a Down (before ++ x ∷ [])) ≡ false
    → 2 ≤ answered_probes a 0 before
ends_behind_two s a before x fcb service hold asks silent stands up down =
    silent_down s (Counted fcb service) x.closed (link_after s a Down before)
    (answered_probes a 0 before) hold (counts s a Down 0 before (none 0)) up
    (sym (ap is_up (link_append s a Down before (x ∷ [])
    ∙ ap (λ (g : Bool). if g then Down
    else after_outcome s (answer_to a x) x.request x.closed (link_after s a Down before)) stands
    ∙ ap (λ (m : Option Answer).
    after_outcome s m x.request x.closed (link_after s a Down before)) silent
    ∙ ap (λ (r : Asked). after_silence s r x.closed (link_after s a Down before)) asks)) ∙ down)
    (λ e. cc) (λ e. cc)
