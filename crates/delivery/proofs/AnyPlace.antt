-- What holds of all that became of commands held at any place of it.
use Rattle.std.proofs.Common.{◌≡◌, true, false, [], ◌∷◌, ◌++◌, rules}
use Rattle.std.specs.Prelude.{Some, None}
use Rattle.command.specs.History.{History, Judged, Sent, Accepted, Refused, GivenUp, Mirrored}
use Rattle.command.specs.History.{Offered, Answered, Ended, ForwardsCommands, GivesOwnAnswers}
use Rattle.command.specs.History.{ExecutesAreSelected}
use Rattle.gateway.specs.Reports.{Setup}

pub no_entry : {A : Type 0} {z : A} → None ≡ Some z → ⊥
no_entry e = search (rules, e)

pub no_truth : {A : Type 0} → true ≡ false → A
no_truth e = absurd (search (rules, e))

module _ (p : Setup) where
  abbrev pub Forwards : History → Type 0
  Forwards h = ForwardsCommands p.sizes p.stations p.select_ms p.max_age_ms h

  abbrev pub Answers : History → Type 0
  Answers h = GivesOwnAnswers p.sizes p.stations p.select_ms p.max_age_ms h

  abbrev pub Selected : History → Type 0
  Selected h = ExecutesAreSelected p.sizes p.stations p.select_ms p.max_age_ms h

  pub selected_then : (newer older : History) → Selected (newer ++ older) → Selected older
  selected_then [] older h = h
  selected_then (Judged now wall xs None ∷ newer) older h = selected_then newer older h.1
  selected_then (Judged now wall xs (Some a) ∷ newer) older h = selected_then newer older h
  selected_then (Sent k octets ∷ newer) older h = selected_then newer older h
  selected_then (Accepted k ∷ newer) older h = selected_then newer older h
  selected_then (Refused k answer ∷ newer) older h = selected_then newer older h
  selected_then (GivenUp k was ∷ newer) older h = selected_then newer older h
  selected_then (Mirrored now v ∷ newer) older h = selected_then newer older h
  selected_then (Offered octets kept ∷ newer) older h = selected_then newer older h
  selected_then (Answered octets ∷ newer) older h = selected_then newer older h
  selected_then (Ended ∷ newer) older h = selected_then newer older h

  pub forwards_then : (newer older : History) → Forwards (newer ++ older) → Forwards older
  forwards_then [] older h = h
  forwards_then (Judged now wall xs answer ∷ newer) older h = forwards_then newer older h
  forwards_then (Sent k octets ∷ newer) older h = forwards_then newer older h.1
  forwards_then (Accepted k ∷ newer) older h = forwards_then newer older h
  forwards_then (Refused k answer ∷ newer) older h = forwards_then newer older h
  forwards_then (GivenUp k was ∷ newer) older h = forwards_then newer older h
  forwards_then (Mirrored now v ∷ newer) older h = forwards_then newer older h
  forwards_then (Offered octets kept ∷ newer) older h = forwards_then newer older h
  forwards_then (Answered octets ∷ newer) older h = forwards_then newer older h
  forwards_then (Ended ∷ newer) older h = forwards_then newer older h

  pub answers_then : (newer older : History) → Answers (newer ++ older) → Answers older
  answers_then [] older h = h
  answers_then (Judged now wall xs None ∷ newer) older h = answers_then newer older h.1
  answers_then (Judged now wall xs (Some a) ∷ newer) older h = answers_then newer older h.1
  answers_then (Sent k octets ∷ newer) older h = answers_then newer older h
  answers_then (Accepted k ∷ newer) older h = answers_then newer older h
  answers_then (Refused k answer ∷ newer) older h = answers_then newer older h.1
  answers_then (GivenUp k was ∷ newer) older h = answers_then newer older h.1
  answers_then (Mirrored now v ∷ newer) older h = answers_then newer older h
  answers_then (Offered octets kept ∷ newer) older h = answers_then newer older h
  answers_then (Answered octets ∷ newer) older h = answers_then newer older h
  answers_then (Ended ∷ newer) older h = answers_then newer older h
