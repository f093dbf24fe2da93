-- A run turn by turn.
use Rattle.std.proofs.Common.{◌≡◌, ℕ, ◌+◌, List, [], length, Option, Some, None, option_map, refl}
use Rattle.std.proofs.Common.{ap, ap₂, ◌∙◌, arith}
use Rattle.gateway.specs.Log.{Log, LogEntry}
use Rattle.gateway.specs.Runs.{MoreEvents, events_logged}
use Rattle.runlog.specs.Logging.{Book, BookFixture, LoggedFixture, logged_fixture}

-- at first nothing has come
none_more : (events : Option (List LogEntry)) → option_map length events
    ≡ option_map (λ (es : List LogEntry). length es + 0) events
none_more None = refl
none_more (Some es) = ap Some (omega arith)

pub no_events_yet : (shown : Option Log) → MoreEvents 0 shown shown
no_events_yet shown = none_more (events_logged shown)

plus_one : (events : Option (List LogEntry))
    → option_map (λ (es : List LogEntry). length es + 1) events
    ≡ option_map (λ (m : ℕ). m + 1) (option_map length events)
plus_one None = refl
plus_one (Some es) = refl

plus_more : (n : ℕ) (events : Option (List LogEntry)) →
    option_map (λ (m : ℕ). m + 1) (option_map (λ (es : List LogEntry). length es + n) events)
    ≡ option_map (λ (es : List LogEntry). length es + (n + 1)) events
plus_more n None = refl
plus_more n (Some es) = ap Some (omega arith)

-- and with each turn one more event
pub one_more_event : (n : ℕ) (a b c : Option Log) → MoreEvents n a b → MoreEvents 1 b c
    → MoreEvents (n + 1) a c
one_more_event n a b c before turn =
    turn
    ∙ (plus_one (events_logged b) ∙ (ap (option_map (λ (m : ℕ). m + 1)) before
    ∙ plus_more n (events_logged a)))

-- what lasts of a port lasts beside its log too, if all that is fixed of it does
pub lasting_logged : {P F G : Type 0} (script : P → F) (lasting : P → G)
    → ((one other : P) → script one ≡ script other → lasting one ≡ lasting other)
    → (one other : P) (b c : Book)
    → logged_fixture (script one) b ≡ logged_fixture (script other) c
    → logged_fixture (lasting one) b ≡ logged_fixture (lasting other) c
lasting_logged {P} {F} {G} script lasting lasts one other b c same =
    ap₂ (λ (port : G) (book : BookFixture). record { port = port; book = book })
    (lasts one other (ap (λ (f : LoggedFixture F). f.port) same))
    (ap (λ (f : LoggedFixture F). f.book) same)
