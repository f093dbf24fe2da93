-- How many events a text has.
use Rattle.std.proofs.Common.{◌≡◌, ℕ, ◌+◌, ◌≤◌, Bool, true, false, List, [], ◌∷◌, ◌++◌, length, map}
use Rattle.std.proofs.Common.{Option, Some, None, ap, arith}
use Rattle.std.specs.List.{count_by, cons_option}
use Rattle.std.specs.Prelude.{◌==◌}
use Rattle.std.proofs.lemmas.List.{length-append}
use Rattle.std.proofs.lemmas.List.Splits.{length-slice_split}
use Rattle.std.proofs.lemmas.List.Sums.{count_by-le-length}
use Rattle.traces.specs.Event.{Event}
use Rattle.traces.specs.Progress.{came, events_in, events_of_part}
use Rattle.traces.specs.Trace.{lines_of, logged}
use Rattle.traces.proofs.JoinedLemmas.{events_joined}

one_most : (line : List ℕ) → length (events_in (line ∷ [])) ≤ 1
one_most line = by (logged line)
  where
    by : (o : Option Event) → length (map came (cons_option o [])) ≤ 1
    by None = grind arith
    by (Some event) = grind arith

events_most : (lines : List (List ℕ)) → length (events_in lines) ≤ length lines
events_most [] = grind arith
events_most (line ∷ lines) =
    let both : length (events_in (line ∷ lines))
    ≡ length (events_in (line ∷ []) ++ events_in lines) =
    ap length (events_joined (line ∷ []) lines) in
    let split = length-append (events_in (line ∷ [])) (events_in lines) in
    let one : length (events_in (line ∷ [])) ≤ 1 = one_most line in
    let rest : length (events_in lines) ≤ length lines = events_most lines in
    omega (arith, both, split, one, rest)

few_lines : (text : List ℕ) → length (events_in (lines_of text)) ≤ length text + 1
few_lines text =
    let events : length (events_in (lines_of text)) ≤ length (lines_of text) =
    events_most (lines_of text) in
    let lines : length (lines_of text) ≡ count_by (λ y. y == 10) text + 1 =
    length-slice_split (λ y. y == 10) text in
    let feeds : count_by (λ y. y == 10) text ≤ length text =
    count_by-le-length (λ y. y == 10) text in
    omega (arith, events, lines, feeds)

-- there are no more events than octets, and two
pub few_events : (is_first : Bool) (text : List ℕ) → length (events_of_part is_first text)
    ≤ length text + 2
few_events true text = let most : length (events_in (lines_of text)) ≤ length text + 1 =
    few_lines text in
    omega (arith, most)
few_events false text = let most : length (events_in (lines_of text)) ≤ length text + 1 =
    few_lines text in
    omega (arith, most)
