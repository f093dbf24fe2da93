-- How long an answer is awaited (this gateway's own profile): `answer_ms` from the moment of the
-- request on.
use Rattle.std.specs.Prelude.{◌≡◌, ℕ, ◌+◌, ◌<◌, ◌≤◌, List, [], ◌∷◌, Option, Some, None}
use Rattle.link.specs.Exchanges.{Sending}
use Rattle.link.specs.Primary.{Primary, sending, timed_out}
use Rattle.link.specs.Runs.{Call, Next, Due, called}

-- the moment of the latest request
abbrev pub since_by : Option Sending → (now : ℕ) → Option ℕ → Option ℕ
since_by None now since = since
since_by (Some s) now since = Some now

abbrev pub since_after : Primary → Call → Option ℕ → Option ℕ
since_after p (Next now may_poll waiting) since =
    since_by (sending p may_poll waiting) now since
since_after p call since = since

-- A moment that is less than `answer_ms` past the latest request changes nothing. Any other leaves
-- no request outstanding.
abbrev pub EndsInTime : Primary → Option ℕ → Call → Type 0
EndsInTime p (Some since) (Due at) =
    (at < since + p.settings.answer_ms → timed_out p at ≡ p)
    × (since + p.settings.answer_ms ≤ at → (timed_out p at).outstanding ≡ None)
EndsInTime p since call = Unit {0}

-- at each of these calls
abbrev pub AnswersHaveTheirTime : Primary → Option ℕ → List Call → Type 0
AnswersHaveTheirTime p since [] = Unit {0}
AnswersHaveTheirTime p since (call ∷ calls) =
    EndsInTime p since call
    × AnswersHaveTheirTime (called p call) (since_after p call since) calls
