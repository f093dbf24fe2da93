-- Statuses that a station answered while it was silent to a service (this gateway's own profile,
-- over the procedures of IEC 60870-5-2).
use Rattle.std.specs.Prelude.{ℕ, suc, List, [], ◌∷◌, Option, Some, None}
use Rattle.link.specs.Answers.{Asked, Status, Counted, Answer, Ready}
use Rattle.link.specs.Exchanges.{Exchange, answer_to}

-- How many statuses the station answered since the latest service that was answered, and since the
-- latest status that wasn't. This request counts, and there were so many before it.
abbrev pub probed_by : Asked → Option Answer → (before : ℕ) → ℕ
probed_by Status (Some Ready) before = suc before
probed_by Status None before = 0
probed_by (Counted fcb service) (Some answer) before = 0
probed_by request answer before = before

abbrev pub answered_probes : (station : ℕ) → (before : ℕ) → List Exchange → ℕ
answered_probes station before [] = before
answered_probes station before (x ∷ xs) =
    answered_probes station (probed_by x.request (answer_to station x) before) xs
