-- If nothing waits for a station, each command that was forwarded to it went out.
use Rattle.std.proofs.Common.{◌≡◌, ℕ, ◌≤◌, List, [], length}
use Rattle.std.proofs.Common.{drop, refl, ap, ◌∙◌, arith, rules}
use Rattle.std.specs.Prelude.{Option, Some, None, option_map}
use Rattle.std.proofs.lemmas.List.{length-drop}
use Rattle.asdu.specs.declared.sizes.Sizes.{Sizes}
use Rattle.command.specs.declared.station.StationInfo.{StationInfo}
use Rattle.command.specs.declared.waiting.Waiting.{Waiting}
use Rattle.command.specs.State.{oldest, octets_waiting}
use Rattle.command.specs.History.{History, forwarded_to, sent_count}
use Rattle.command.specs.Calls.{Call, run}
use Rattle.command.proofs.Sendings.{none_waits}
use Rattle.command.proofs.Runs.{run_holds}

none_kept : (o : Option Waiting) → option_map (λ (w : Waiting). w.octets) o ≡ None → o ≡ None
none_kept None h = refl
none_kept (Some w) h = absurd (search (rules, h))

whole : (n : ℕ) (fw : List (List ℕ)) → n ≤ length fw → drop n fw ≡ [] → n ≡ length fw
whole n fw h e =
    let left : length (drop n fw) ≡ 0 = ap (λ (ys : List (List ℕ)). length ys) e in
    omega (arith, h, left, length-drop n fw)

module _ (sizes : Sizes) (stations : List StationInfo) (ms age : ℕ) (calls : List Call) where
  abbrev before : History
  before = (run stations sizes ms age calls).history

  abbrev count_of : ℕ → ℕ
  count_of k = sent_count sizes stations ms age k before

  abbrev all_for : ℕ → List (List ℕ)
  all_for k = forwarded_to sizes stations ms age k before

  -- nothing waits for the station: each that was forwarded to it went out
  none_left : (k : ℕ) → octets_waiting k (run stations sizes ms age calls).state ≡ None
      → drop (count_of k) (all_for k) ≡ []
  none_left k quiet =
      (run_holds sizes stations ms age calls).keeps.queue.in_turn k
      ∙ none_waits k (run stations sizes ms age calls).state.waiting
      (none_kept (oldest k (run stations sizes ms age calls).state.waiting) quiet)

  pub all_sent : (k : ℕ) → octets_waiting k (run stations sizes ms age calls).state ≡ None
      → count_of k ≡ length (all_for k)
  all_sent k quiet =
      whole (count_of k) (all_for k) ((run_holds sizes stations ms age calls).keeps.queue.count k)
      (none_left k quiet)
