-- The printed line of an event is one of a trace, and is read as that event.
use Rattle.std.proofs.Common.{◌≡◌, ℕ, ◌+◌, ◌-◌, ◌^◌, ◌<◌, ◌≤◌, ◌==◌, nat_le, ◌&&◌, Bool, true}
use Rattle.std.proofs.Common.{false, List, [], ◌∷◌, ◌++◌, length, Option, Some, None, if◌then◌else◌}
use Rattle.std.proofs.Common.{refl, ap, ◌∙◌, arith}
use Rattle.std.proofs.lemmas.List.Splits.{slice_split_at}
use Rattle.std.proofs.lemmas.Fmt.{decimal_is_IsNumeral_wide, length-decimal-le_wide}
use Rattle.std.proofs.lemmas.Str.Parse.{digit_from_value}
use Rattle.std.specs.Str.Parse.{IsNumeral, AllDigits, digits_value}
use Rattle.std.specs.List.{AllByRecursion}
use Rattle.std.specs.Fmt.{decimal}
use Rattle.hex.specs.Hex.{IsBytes, encode_upper}
use Rattle.hex.proofs.HexLemmas.{decode_of-encode_upper}
use Rattle.gateway.specs.Log.{last_moment}
use Rattle.traces.specs.Fields.{digits_after, decimal_of, octets_of, some_octets}
use Rattle.traces.specs.Event.{Event, event_from, event_in, bare_at, octets_at, wall_at}
use Rattle.traces.specs.Event as events
use Rattle.traces.specs.Progress.{came as entry_came}
use Rattle.traces.specs.Trace.{lines_of, is_skipped}
use Rattle.traces.specs.Printed.{FitsTrace, IsFirstOf, line_of_entry}
use Rattle.traces.proofs.FieldLemmas.{IsPlain, spaced, spaced_fields, spaced_line, digits_read}
use Rattle.traces.proofs.FieldLemmas.{octets_plain, word}
use Rattle.traces.proofs.ReadingBack.{lined_two, lined, moment_plain}

-- Traces

moment_small : (n : ℕ) → n ≤ last_moment → n < 2 ^ 64
moment_small n le = omega arith

-- a number of 15 digits at most
decimal_read : (n : ℕ) → n ≤ last_moment → decimal_of (decimal n) ≡ Some n
decimal_read n le = go (nat_le 1 (length (decimal n)) && nat_le (length (decimal n)) 15) within
  where
    is : (IsNumeral 10 (decimal n)) × (digits_value 10 (decimal n) ≡ n)
    is = decimal_is_IsNumeral_wide n (omega arith)

    within : (nat_le 1 (length (decimal n)) && nat_le (length (decimal n)) 15) ≡ true
    within =
        let some : 0 < length (decimal n) = is.0.0 in
        let most : length (decimal n) ≤ 15 = length-decimal-le_wide 15 n (omega arith) (omega arith)
        (omega arith) in
        grind arith

    go : (b : Bool) → b ≡ true → (if b then digits_after 0 (decimal n) else None) ≡ Some n
    go true e = digits_read 0 (decimal n) is.0.1 ∙ ap (λ (m : ℕ). Some m) is.1
    go false e = cc

-- octets of an event
octets_fit : (octets : List ℕ) → IsBytes octets → 1 ≤ length octets → length octets ≤ 1024
    → octets_of (encode_upper octets) ≡ Some octets
octets_fit octets bytes least most =
    ap some_octets (decode_of-encode_upper octets bytes)
    ∙ ap (λ (b : Bool). if b then Some octets else None) within
  where
    within : (nat_le 1 (length octets) && nat_le (length octets) 1024) ≡ true
    within = grind arith

-- a line that begins with a number is neither empty nor a comment
not_skipped : (digits rest : List ℕ) → 0 < length digits → AllDigits 10 digits
    → is_skipped (digits ++ rest) ≡ false
not_skipped [] rest some all = absurd (omega arith)
not_skipped (d ∷ ds) rest some all = let low : 48 ≤ d = omega (arith, digit_from_value d all.0) in
    other d low
  where
    other : (b : ℕ) → 48 ≤ b → (b == 35) ≡ false
    other b le = grind arith

numbered : (now : ℕ) (rest : List ℕ) → now ≤ last_moment → is_skipped (decimal now ++ rest) ≡ false
numbered now rest le =
    let is = decimal_is_IsNumeral_wide now (omega arith) in
    not_skipped (decimal now) rest is.0.0 is.0.1

first_of : (event : Event) (whole text : List ℕ) (now : ℕ) (next : List ℕ) (fields : List (List ℕ))
    → now ≤ last_moment
    → whole ≡ spaced (decimal now) (next ∷ fields) ++ 10 ∷ text →
    IsPlain next → AllByRecursion IsPlain fields → event_from (decimal now ∷ next ∷ fields)
    ≡ Some event
    → IsFirstOf event whole text
first_of event whole text now next fields le same plain all is = record {
  line = spaced (decimal now) (next ∷ fields);
  lines =
      ap lines_of same
      ∙ slice_split_at (λ b. b == 10) (spaced (decimal now) (next ∷ fields)) 10 text
      (spaced_line (decimal now) (next ∷ fields) (moment_plain now (moment_small now le))
      (plain, all)) refl;
  logged =
      ap (λ (b : Bool). if b then None else event_in (spaced (decimal now) (next ∷ fields)))
      (numbered now (32 ∷ spaced next fields) le)
      ∙ ap event_from (spaced_fields (decimal now) (next ∷ fields)
      (moment_plain now (moment_small now le)) (
        plain,
        all,
      ))
      ∙ is;
}

pub event_logged : (event : Event) (text : List ℕ) → FitsTrace event
    → IsFirstOf event (line_of_entry (entry_came event) ++ text) text
event_logged (events.line now octets) text fits =
    first_of (events.line now octets) (line_of_entry (entry_came (events.line now octets)) ++ text)
    text now (83 ∷ [])
    (encode_upper octets ∷ []) fits.0
    (lined (decimal now) (32 ∷ 83 ∷ 32 ∷ []) (encode_upper octets) text)
    (word 83 (omega arith))
    (octets_plain octets fits.1, tt)
    (ap (λ (o : Option ℕ). octets_at o (83 ∷ []) (octets_of (encode_upper octets)))
    (decimal_read now fits.0)
    ∙ ap (octets_at (Some now) (83 ∷ [])) (octets_fit octets fits.1 fits.2 fits.3))
event_logged (events.received now octets) text fits =
    first_of (events.received now octets) (line_of_entry (entry_came (events.received now octets))
    ++ text)
    text now (82 ∷ [])
    (encode_upper octets ∷ []) fits.0
    (lined (decimal now) (32 ∷ 82 ∷ 32 ∷ []) (encode_upper octets) text)
    (word 82 (omega arith))
    (octets_plain octets fits.1, tt)
    (ap (λ (o : Option ℕ). octets_at o (82 ∷ []) (octets_of (encode_upper octets)))
    (decimal_read now fits.0)
    ∙ ap (octets_at (Some now) (82 ∷ [])) (octets_fit octets fits.1 fits.2 fits.3))
event_logged (events.opening now) text fits =
    first_of (events.opening now) (line_of_entry (entry_came (events.opening now)) ++ text) text now
    (79 ∷ []) [] fits
    (lined_two (decimal now) (32 ∷ 79 ∷ []) text) (word 79 (omega arith)) tt
    (ap (λ (o : Option ℕ). bare_at o (79 ∷ [])) (decimal_read now fits))
event_logged (events.cut now) text fits =
    first_of (events.cut now) (line_of_entry (entry_came (events.cut now)) ++ text) text now
    (67 ∷ [])
    [] fits
    (lined_two (decimal now) (32 ∷ 67 ∷ []) text) (word 67 (omega arith)) tt
    (ap (λ (o : Option ℕ). bare_at o (67 ∷ [])) (decimal_read now fits))
event_logged (events.tick now) text fits =
    first_of (events.tick now) (line_of_entry (entry_came (events.tick now)) ++ text) text now
    (84 ∷ []) [] fits
    (lined_two (decimal now) (32 ∷ 84 ∷ []) text) (word 84 (omega arith)) tt
    (ap (λ (o : Option ℕ). bare_at o (84 ∷ [])) (decimal_read now fits))
event_logged (events.wall now number) text fits =
    first_of (events.wall now number) (line_of_entry (entry_came (events.wall now number)) ++ text)
    text now (87 ∷ [])
    (decimal number ∷ []) fits.0
    (lined (decimal now) (32 ∷ 87 ∷ 32 ∷ []) (decimal number) text) (word 87 (omega arith))
    (moment_plain number (moment_small number fits.1), tt)
    (ap (λ (o : Option ℕ). wall_at o (decimal_of (decimal number))) (decimal_read now fits.0)
    ∙ ap (wall_at (Some now)) (decimal_read number fits.1))
