-- Octets that are some of a text (profile).
use Rattle.std.specs.Prelude.{ℕ, ◌≤◌, List, length, Option, IfSome}
use Rattle.settings.specs.declared.hints.finding.KeyPlace.{KeyPlace}
use Rattle.settings.specs.declared.hints.finding.KeyPlace.TheVariants.{Value, Gap, Nowhere}
use Rattle.settings.specs.declared.places.spans.Span.{Span}

-- the octets are some of the text
abbrev pub IsSpan : List ℕ → Span → Type 0
IsSpan text s = (s.from ≤ s.to) × (s.to ≤ length text)

-- and so are those of what was found
abbrev pub IsWithin : List ℕ → Option Span → Type 0
IsWithin text found = IfSome found (IsSpan text)

abbrev pub IsInside : List ℕ → KeyPlace → Type 0
IsInside text (Value s) = IsSpan text s
IsInside text (Gap s) = IsSpan text s
IsInside text Nowhere = Unit {0}
