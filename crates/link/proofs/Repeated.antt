-- How often a service without an answer is sent.
use Rattle.std.specs.Prelude.{◌||◌}
use Rattle.std.proofs.Common.{◌≡◌, ℕ, suc, ◌+◌, ◌<◌, ◌≤◌, nat_lt, nat_le, Bool, true, false, List}
use Rattle.std.proofs.Common.{[], ◌∷◌, length, Option, None, refl, ap, ◌∙◌, arith}
use Rattle.std.proofs.Common.{if◌then◌else◌, ◌⊎◌, inl, inr}
use Rattle.std.proofs.lemmas.Bool.{cases_lt}
use Rattle.std.specs.List.{AllByRecursion}
use Rattle.link.specs.Answers.{Service, Asked, Counted, Answer}
use Rattle.link.specs.Exchanges.{Exchange, answer_to}
use Rattle.link.specs.Procedure.{LinkSettings, Link, Down, Next, Held, after, after_outcome, held}
use Rattle.link.specs.Procedure.{link_after, missed_so_far, has_repeats, is_up}
use Rattle.link.specs.Repeats.{IsMissed}
use Rattle.link.specs.Procedure.{Probed, Never, probed_so_far, is_kept, spent_silence}
use Rattle.link.specs.Procedure.{short_silence}
use Rattle.std.proofs.Common.{◌&&◌}

after_missed : (settings : LinkSettings) (station : ℕ) (fcb : Bool) (service : Service)
    (x : Exchange) (link : Link) → IsMissed station fcb service x
    → after settings station x link
    ≡ held settings fcb service (suc (missed_so_far link)) (probed_so_far link)
after_missed settings station fcb service x link is =
    ap (λ (b : Bool). if b then Down
    else after_outcome settings (answer_to station x) x.request x.closed link) is.stands
    ∙ ap (λ (m : Option Answer). after_outcome settings m x.request x.closed link) is.unanswered.0
    ∙ ap (λ (r : Asked). after_outcome settings None r x.closed link) is.request
    ∙ ap (λ (b : Bool). after_outcome settings None (Counted fcb service) b link) is.unanswered.1

not_last : (settings : LinkSettings) (fcb : Bool) (service : Service) (n : ℕ) (probed : Probed)
    → n ≤ settings.retries
    → held settings fcb service n probed ≡ Held fcb service (short_silence n probed)
not_last settings fcb service n probed le =
    let e : nat_lt settings.retries n ≡ false = grind arith in rw e refl

missed : (settings : LinkSettings) (station : ℕ) (fcb : Bool) (service : Service) (link : Link)
    (x : Exchange) (xs : List Exchange)
    → missed_so_far link + length (x ∷ xs) ≤ suc settings.retries
    → AllByRecursion (IsMissed station fcb service) (x ∷ xs)
    → link_after settings station link (x ∷ xs)
    ≡ held settings fcb service (missed_so_far link + length (x ∷ xs)) (probed_so_far link)
missed settings station fcb service link x [] few all =
    after_missed settings station fcb service x link all.0
    ∙ ap (λ (n : ℕ). held settings fcb service n (probed_so_far link))
    (let e : suc (missed_so_far link) ≡ missed_so_far link + 1 = omega arith in e)
missed settings station fcb service link x (y ∷ ys) few all =
    let next = after settings station x link in
    let here : next
    ≡ Held fcb service (short_silence (suc (missed_so_far link)) (probed_so_far link)) =
    after_missed settings station fcb service x link all.0
    ∙ not_last settings fcb service (suc (missed_so_far link)) (probed_so_far link)
    (omega (arith, few)) in
    let count : missed_so_far next ≡ suc (missed_so_far link) =
    ap (λ (l : Link). missed_so_far l) here in
    let sum : missed_so_far next + length (y ∷ ys)
    ≡ missed_so_far link + length (x ∷ (y ∷ ys)) = omega (arith, count) in
    missed settings station fcb service next y ys (omega (arith, sum, few)) all.1
    ∙ ap (λ (n : ℕ). held settings fcb service n (probed_so_far next)) sum
    ∙ ap (λ (l : Link). held settings fcb service (missed_so_far link + length (x ∷ (y ∷ ys)))
    (probed_so_far l)) here

again_by : (settings : LinkSettings) (fcb : Bool) (service : Service) (n : ℕ) (probed : Probed)
    → has_repeats settings (held settings fcb service n probed) ≡ nat_le n settings.retries
again_by settings fcb service n probed =
    go (nat_lt settings.retries n) (is_kept settings probed) refl
  where
    go : (last hold : Bool) → nat_lt settings.retries n ≡ last
        → has_repeats settings (if last
        then (if hold then Held fcb service (spent_silence settings probed) else Down)
        else Held fcb service (short_silence n probed)) ≡ nat_le n settings.retries
    go true true e = grind arith
    go true false e = grind arith
    go false hold e = refl

up_by : (settings : LinkSettings) (fcb : Bool) (service : Service) (n : ℕ)
    → is_up (held settings fcb service n Never) ≡ (settings.hold || nat_le n settings.retries)
up_by settings fcb service n = go (nat_lt settings.retries n) settings.hold refl
  where
    go : (last hold : Bool) → nat_lt settings.retries n ≡ last
        → is_up (if last
        then (if hold && true then Held fcb service (spent_silence settings Never) else Down)
        else Held fcb service (short_silence n Never)) ≡ (hold || nat_le n settings.retries)
    go true true e = refl
    go true false e = grind arith
    go false true e = refl
    go false false e = grind arith

from_next : (settings : LinkSettings) (station : ℕ) (fcb : Bool) (service : Service) (x : Exchange)
    (xs : List Exchange) → AllByRecursion (IsMissed station fcb service) (x ∷ xs)
    → length (x ∷ xs) ≤ suc settings.retries
    → link_after settings station (Next fcb) (x ∷ xs)
    ≡ held settings fcb service (length (x ∷ xs)) Never
from_next settings station fcb service x xs all few =
    let sum : 0 + length (x ∷ xs) ≡ length (x ∷ xs) = omega arith in
    missed settings station fcb service (Next fcb) x xs (omega (arith, few)) all
    ∙ ap (λ (n : ℕ). held settings fcb service n Never) sum

pub again : (settings : LinkSettings) (station : ℕ) (fcb : Bool) (service : Service)
    (xs : List Exchange) → AllByRecursion (IsMissed station fcb service) xs → 0 < length xs
    → length xs ≤ suc settings.retries
    → has_repeats settings (link_after settings station (Next fcb) xs)
    ≡ nat_le (length xs) settings.retries
again settings station fcb service [] all some few = absurd (omega (arith, some))
again settings station fcb service (x ∷ xs) all some few =
    ap (λ (l : Link). has_repeats settings l)
    (from_next settings station fcb service x xs all few)
    ∙ again_by settings fcb service (length (x ∷ xs)) Never

pub up : (settings : LinkSettings) (station : ℕ) (fcb : Bool) (service : Service)
    (xs : List Exchange) → AllByRecursion (IsMissed station fcb service) xs → 0 < length xs
    → length xs ≤ suc settings.retries
    → is_up (link_after settings station (Next fcb) xs)
    ≡ (settings.hold || nat_le (length xs) settings.retries)
up settings station fcb service [] all some few = absurd (omega (arith, some))
up settings station fcb service (x ∷ xs) all some few =
    ap (λ (l : Link). is_up l) (from_next settings station fcb service x xs all few)
    ∙ up_by settings fcb service (length (x ∷ xs))

-- ---- if the service is held

last : (settings : LinkSettings) (fcb : Bool) (service : Service) (n : ℕ) (probed : Probed)
    → is_kept settings probed ≡ true → settings.retries < n
    → held settings fcb service n probed ≡ Held fcb service (spent_silence settings probed)
last settings fcb service n probed hold gt =
    let e : nat_lt settings.retries n ≡ true = grind arith in
    ap (λ (b : Bool). if b then (if is_kept settings probed
    then Held fcb service (spent_silence settings probed) else Down)
    else Held fcb service (short_silence n probed)) e
    ∙ ap (λ (b : Bool). if b then Held fcb service (spent_silence settings probed) else Down) hold

-- The station's link holds a service that was sent as often as its repeats, or more often.
spent : (settings : LinkSettings) (station : ℕ) (fcb : Bool) (service : Service) (link : Link)
    (x : Exchange) (xs : List Exchange) → is_kept settings (probed_so_far link) ≡ true
    → settings.retries ≤ missed_so_far link
    → AllByRecursion (IsMissed station fcb service) (x ∷ xs)
    → has_repeats settings (link_after settings station link (x ∷ xs)) ≡ false
spent settings station fcb service link x [] hold few all =
    let here : after settings station x link
    ≡ Held fcb service (spent_silence settings (probed_so_far link)) =
    after_missed settings station fcb service x link all.0
    ∙ last settings fcb service (suc (missed_so_far link)) (probed_so_far link) hold
    (omega (arith, few)) in
    ap (λ (l : Link). has_repeats settings l) here
spent settings station fcb service link x (y ∷ ys) hold few all =
    let next = after settings station x link in
    let here : next ≡ Held fcb service (spent_silence settings (probed_so_far link)) =
    after_missed settings station fcb service x link all.0
    ∙ last settings fcb service (suc (missed_so_far link)) (probed_so_far link) hold
    (omega (arith, few)) in
    let count : missed_so_far next ≡ suc settings.retries =
    ap (λ (l : Link). missed_so_far l) here in
    spent settings station fcb service next y ys
    (ap (λ (l : Link). is_kept settings (probed_so_far l)) here ∙ hold) (omega (arith, count))
    all.1

counted : (settings : LinkSettings) (station : ℕ) (fcb : Bool) (service : Service) (link : Link)
    (x : Exchange) (xs : List Exchange) → is_kept settings (probed_so_far link) ≡ true
    → AllByRecursion (IsMissed station fcb service) (x ∷ xs)
    → has_repeats settings (link_after settings station link (x ∷ xs))
    ≡ nat_le (missed_so_far link + length (x ∷ xs)) settings.retries
counted settings station fcb service link x [] hold all =
    ap (λ (l : Link). has_repeats settings l) (after_missed settings station fcb service x link
    all.0)
    ∙ again_by settings fcb service (suc (missed_so_far link)) (probed_so_far link)
    ∙ ap (λ (n : ℕ). nat_le n settings.retries)
    (let e : suc (missed_so_far link) ≡ missed_so_far link + 1 = omega arith in e)
counted settings station fcb service link x (y ∷ ys) hold all =
    go (λ kept. counted settings station fcb service (after settings station x link) y ys kept
    all.1)
    (cases_lt (missed_so_far link) settings.retries)
  where
    next : Link
    next = after settings station x link

    go : (is_kept settings (probed_so_far next) ≡ true
        → has_repeats settings (link_after settings station next (y ∷ ys))
        ≡ nat_le (missed_so_far next + length (y ∷ ys)) settings.retries)
        → (missed_so_far link < settings.retries) ⊎ (settings.retries ≤ missed_so_far link)
        → has_repeats settings (link_after settings station next (y ∷ ys))
        ≡ nat_le (missed_so_far link + suc (length (y ∷ ys))) settings.retries
    go rest (inl lt) =
        let here : next
        ≡ Held fcb service (short_silence (suc (missed_so_far link)) (probed_so_far link)) =
        after_missed settings station fcb service x link all.0
        ∙ not_last settings fcb service (suc (missed_so_far link)) (probed_so_far link)
        (omega (arith, lt)) in
        let count : missed_so_far next ≡ suc (missed_so_far link) =
        ap (λ (l : Link). missed_so_far l) here in
        rest (ap (λ (l : Link). is_kept settings (probed_so_far l)) here ∙ hold)
        ∙ ap (λ (n : ℕ). nat_le n settings.retries)
        (let e : missed_so_far next + length (y ∷ ys)
        ≡ missed_so_far link + suc (length (y ∷ ys)) = omega (arith, count) in e)
    go rest (inr le) =
        spent settings station fcb service link x (y ∷ ys) hold le all
        ∙ (let e : false ≡ nat_le (missed_so_far link + suc (length (y ∷ ys))) settings.retries =
        grind (arith, le) in e)

pub once : (settings : LinkSettings) (station : ℕ) (fcb : Bool) (service : Service)
    (xs : List Exchange) → settings.hold ≡ true
    → AllByRecursion (IsMissed station fcb service) xs → 0 < length xs
    → has_repeats settings (link_after settings station (Next fcb) xs)
    ≡ nat_le (length xs) settings.retries
once settings station fcb service [] hold all some = absurd (omega (arith, some))
once settings station fcb service (x ∷ xs) hold all some =
    counted settings station fcb service (Next fcb) x xs (ap (λ (h : Bool). h && true) hold) all
    ∙ ap (λ (n : ℕ). nat_le n settings.retries)
    (let e : 0 + length (x ∷ xs) ≡ length (x ∷ xs) = omega arith in e)
