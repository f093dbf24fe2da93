-- Whole lines: each event has its own, and each other one is passed over or wrong.
use Rattle.std.proofs.Common.{◌≡◌, ℕ, ◌+◌, ◌<◌, ◌==◌, Bool, true, List, [], ◌∷◌}
use Rattle.std.proofs.Common.{◌++◌, Some, if◌then◌else◌, refl, ◌∙◌, arith}
use Rattle.std.proofs.lemmas.Bool.{and_parts}
use Rattle.std.proofs.lemmas.List.Elements.{All-cons, All-nil}
use Rattle.std.specs.Char.{is_ascii_digit}
use Rattle.std.specs.List.{AllByRecursion, list_all}
use Rattle.std.specs.Prelude.{codes}
use Rattle.gateway.specs.Log.{Came, WallIs}
use Rattle.traces.specs.Event.{Event, wall}
use Rattle.traces.specs.Fields.{decimal_of}
use Rattle.traces.specs.Progress.{came, events_in}
use Rattle.traces.specs.Saying.{AreValuesOf, Says, letter_of, moment_in}
use Rattle.traces.specs.Trace.{logged}
use Rattle.traces.proofs.FieldLemmas.{IsPlain, spaced, spaced_fields, word}
use Rattle.traces.proofs.LineByLineLemmas.{says_logged}
use Rattle.traces.proofs.SayingLemmas.{digits_are}

-- ---- fields without separators

pub plain_by : (p : ℕ → Bool) → ((b : ℕ) → p b ≡ true → 33 < b) → (xs : List ℕ)
    → list_all p xs ≡ true → IsPlain xs
plain_by p above [] all = All-nil (λ b. 33 < b)
plain_by p above (x ∷ xs) all =
    let parts = and_parts (p x) (list_all p xs) all in
    All-cons (λ b. 33 < b) x xs (above x parts.0) (plain_by p above xs parts.1)

digit_plain : (b : ℕ) → is_ascii_digit b ≡ true → 33 < b
digit_plain b is = grind arith

pub number_plain : (digits : List ℕ) (n : ℕ) → decimal_of digits ≡ Some n → IsPlain digits
number_plain digits n e = plain_by is_ascii_digit digit_plain digits (digits_are digits n e).all

gives : (l : List ℕ) (event : Event) → logged l ≡ Some event
    → events_in (l ∷ []) ≡ came event ∷ []
gives l event e = rw e refl

-- fields of which the first is a moment, the second the letter, and any others what is behind it
says : (moment : List ℕ) (event : Event) (values : List (List ℕ))
    → decimal_of moment ≡ Some (moment_in event) → IsPlain (letter_of event)
    → AllByRecursion IsPlain values → AreValuesOf event values
    → events_in (spaced moment (letter_of event ∷ values) ∷ []) ≡ came event ∷ []
says moment event values at letter plain valued =
    gives (spaced moment (letter_of event ∷ values)) event
    (says_logged (spaced moment (letter_of event ∷ values)) event (record {
      moment = moment;
      values = values;
      fields = spaced_fields moment (letter_of event ∷ values)
          (number_plain moment (moment_in event) at) (letter, plain);
      digits = digits_are moment (moment_in event) at;
      valued = valued;
    }))

pub wall_line : (moment text : List ℕ) (now number : ℕ) → decimal_of moment ≡ Some now
    → decimal_of text ≡ Some number
    → events_in ((moment ++ (codes " W " ++ text)) ∷ []) ≡ Came now (WallIs number) ∷ []
wall_line moment text now number at is =
    says moment (wall now number) (text ∷ []) at (word 87 (omega arith))
    (number_plain text number is, tt) (text, refl, digits_are text number is)
