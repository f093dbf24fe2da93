-- What a clock shows between two of its milliseconds.
use Rattle.std.proofs.Common.{◌≡◌, ℕ, ◌+◌, ◌-◌, ◌*◌, ◌/◌, ◌^◌, ◌<◌, ◌≤◌, min, Ok, sym, ap}
use Rattle.std.proofs.Common.{List, ◌∷◌, Some, Result, arith, subst, ◌∙◌}
use Rattle.std.proofs.Math.Nat.{div-eq_of_lt-le}
use Rattle.std.specs.Time.{instant_nanos, system_time_nanos}
use Rattle.std.specs.declared.io.Error.{Error}
use Rattle.std.specs.declared.time.Instant.{Instant}
use Rattle.std.specs.declared.time.SystemTime.{SystemTime}
use Rattle.live.specs.Clocks.{BeginsAt, GoesOn, ShowsWall, StartsNow, moment_by, wall_by}

capped : (first ms : ℕ) → first + ms < 2 ^ 64
    → min (first + min ms (2 ^ 64 - 1)) (2 ^ 64 - 1) ≡ first + ms
capped first ms few = grind (arith, few)

capped_once : (ms : ℕ) → ms < 2 ^ 64 → min ms (2 ^ 64 - 1) ≡ ms
capped_once ms few = grind (arith, few)

gone_by : (start now ms : ℕ) → start + ms * 1000000 ≤ now → now < start + (ms + 1) * 1000000
    → (now - start) / 1000000 ≡ ms
gone_by start now ms least most =
    let low : ms * 1000000 ≤ now - start = omega (arith, least) in
    let high : now - start < (ms + 1) * 1000000 = omega (arith, least, most) in
    div-eq_of_lt-le 1000000 low high

pub goes_on : (first ms last : ℕ) (start now : Instant)
    → instant_nanos start + ms * 1000000 ≤ instant_nanos now
    → instant_nanos now < instant_nanos start + (ms + 1) * 1000000 → first + ms < 2 ^ 64
    → moment_by first start last (Ok now) ≡ first + ms
goes_on first ms last start now least most few =
    ap (λ n. min (first + min n (2 ^ 64 - 1)) (2 ^ 64 - 1))
    (gone_by (instant_nanos start) (instant_nanos now) ms least most) ∙ capped first ms few

pub shows : (ms : ℕ) (shown : SystemTime) → ms * 1000000 ≤ system_time_nanos shown
    → system_time_nanos shown < (ms + 1) * 1000000 → ms < 2 ^ 64 → wall_by (Ok shown) ≡ ms
shows ms shown least most few =
    ap (λ n. min n (2 ^ 64 - 1)) (div-eq_of_lt-le 1000000 least most) ∙ capped_once ms few

pub begins : (moment first now ms : ℕ) (before : List (Result Instant Error))
    (start shown later : Instant) → BeginsAt moment first now
    → StartsNow (Some before) start (Some (Ok shown ∷ before))
    → instant_nanos shown + ms * 1000000 ≤ instant_nanos later
    → instant_nanos later < instant_nanos shown + (ms + 1) * 1000000 → moment + ms < 2 ^ 64
    → moment_by first start now (Ok later) ≡ moment + ms
begins moment first now ms before start shown later b s least most few =
    let same : shown ≡ start = cc in
    goes_on first ms now start later
    (subst (λ i. instant_nanos i + ms * 1000000 ≤ instant_nanos later) same least)
    (subst (λ i. instant_nanos later < instant_nanos i + (ms + 1) * 1000000) same most)
    (subst (λ m. m + ms < 2 ^ 64) (sym b.0) few) ∙ ap (λ m. m + ms) b.0

-- one answer more, and what follows from it
noted_so : {A : Type 0} (answer : A) (before after : List A)
    → Some after ≡ Some (answer ∷ before) → after ≡ answer ∷ before
noted_so answer before after e = cc

pub read_so : (first last moment : ℕ) (start : Instant)
    (before after : List (Result Instant Error))
    → GoesOn first start (Some before) last (Some after) moment
    → (answer : Result Instant Error) × (after ≡ answer ∷ before)
    × (moment ≡ moment_by first start last answer)
read_so first last moment start before after goes =
    (goes.answer, noted_so goes.answer before after goes.asked, goes.given)

pub shown_so : (before after : List (Result SystemTime Error)) (shown : ℕ)
    → ShowsWall (Some before) (Some after) shown
    → (answer : Result SystemTime Error) × (after ≡ answer ∷ before) × (shown ≡ wall_by answer)
shown_so before after shown shows =
    (shows.answer, noted_so shows.answer before after shows.asked, shows.given)
