-- What this crate proves, gathered for crates above: of each state and history that calls leave,
-- for a crate that keeps these two and not the calls, and of each call.
use Rattle.std.specs.Prelude.{◌≡◌, ℕ, ◌<◌, ◌≤◌, ◌+◌, ◌++◌, List, []}
use Rattle.std.specs.Prelude.{length, slice_index, Option, Some, option_map}
use Rattle.asdu.specs.Sizes.{tcp}
use Rattle.asdu.specs.Asdu.{AsduValue}
use Rattle.asdu.specs.InformationObjects.{monitor_objects_of}
use Rattle.command.specs.State.{State, line_of, refusal_of, sent}
use Rattle.command.specs.Judging.{judged}
use Rattle.command.specs.Mirrors.{mirrored, tag_for}
use Rattle.command.specs.History.{ForwardsCommands, SendsFreshCommands, mirror_tag}
use Rattle.command.specs.History.{ExecutesAreSelected, GivesOwnAnswers}
use Rattle.command.specs.History.{KeepsOwnAnswers, own_kept, own_sent, forwarded_in_all}
use Rattle.command.specs.History.{sent_in_all}
use Rattle.command.specs.Laws.{OfEachRun}

pub record CommandLaws : Type 0 where
  pub stations : OfEachRun (λ stations sizes select_ms max_age_ms s h. s.stations ≡ stations)
  pub sizes : OfEachRun (λ stations sizes select_ms max_age_ms s h. s.sizes ≡ sizes)
  pub select_ms : OfEachRun (λ stations sizes select_ms max_age_ms s h. s.select_ms ≡ select_ms)
  pub max_age_ms : OfEachRun (λ stations sizes select_ms max_age_ms s h.
      s.max_age_ms ≡ max_age_ms)
  pub forwarded : OfEachRun (λ stations sizes select_ms max_age_ms s h.
      ForwardsCommands sizes stations select_ms max_age_ms h)
  pub selected : OfEachRun (λ stations sizes select_ms max_age_ms s h.
      ExecutesAreSelected sizes stations select_ms max_age_ms h)
  pub places : OfEachRun (λ stations sizes select_ms max_age_ms s h.
      length s.waiting + sent_in_all h ≡ forwarded_in_all stations h)
  pub right : OfEachRun (λ stations sizes select_ms max_age_ms s h.
      GivesOwnAnswers sizes stations select_ms max_age_ms h)
  pub fresh : OfEachRun (λ stations sizes select_ms max_age_ms s h.
      SendsFreshCommands sizes stations select_ms max_age_ms h)
  pub tags : OfEachRun (λ stations sizes select_ms max_age_ms s h. (v : AsduValue) →
      option_map (λ tag. tag.0) (tag_for v v.infos s)
      ≡ mirror_tag sizes stations select_ms max_age_ms v v.infos h)
  pub in_turn : OfEachRun (λ stations sizes select_ms max_age_ms s h.
      own_kept h ≡ own_sent h ++ s.answers)
  pub kept : OfEachRun (λ stations sizes select_ms max_age_ms s h. KeepsOwnAnswers h)
  pub busy_plain : OfEachRun (λ stations sizes select_ms max_age_ms s h. (k : ℕ)
      (a : List ℕ) → refusal_of (line_of k s) ≡ Some a → monitor_objects_of tcp a ≡ [])
  -- What a call leaves as it is.
  pub mirrored_waits : (v : AsduValue) (now : ℕ) (s : State) →
      (mirrored v now s).waiting ≡ s.waiting
  pub judged_answers : (xs : List ℕ) (now : ℕ) (wall : Option ℕ) (s : State) →
      (judged xs now wall s).1.answers ≡ s.answers
  pub mirrored_answers : (v : AsduValue) (now : ℕ) (s : State) →
      (mirrored v now s).answers ≡ s.answers
  pub sent_answers : (j : ℕ) (s : State) → (sent j s).answers ≡ s.answers
  pub judged_plain : (xs : List ℕ) (now : ℕ) (wall : Option ℕ) (s : State) (a : List ℕ) →
      9 ≤ length xs → slice_index xs 2 < 256 → (judged xs now wall s).0 ≡ Some a →
      monitor_objects_of tcp a ≡ []
