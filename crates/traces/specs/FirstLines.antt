-- How a text is read from its front (texts of this gateway's own profile): its first line, field by
-- field, with octets that are still in hexadecimal.
use Rattle.std.specs.Prelude.{◌≡◌, ◌<◌, ◌≤◌, ◌+◌, ◌*◌, ◌&&◌, nat_lt, ℕ, ◌==◌, ◌||◌, Bool, true}
use Rattle.std.specs.Prelude.{false, List, [], ◌∷◌, ◌++◌, length, take, drop, slice_index, Option}
use Rattle.std.specs.Prelude.{Some, None, is_some, option_map, Ok}
use Rattle.std.specs.Borrow.{Bor}
use Rattle.std.specs.Char.{is_ascii_digit}
use Rattle.std.specs.List.{slice_split, list_all}
use Rattle.hex.specs.Hex.{decode_pairs, is_hex_digit, pair_value}
use Rattle.hex.proofs.Pairs.{prepend}
use Rattle.std.specs.Option.{option_copied}
use Rattle.traces.specs.declared.event.Spelled.{Spelled}
use Rattle.traces.specs.declared.event.Spelled.TheVariants as spellings
use Rattle.traces.specs.declared.event.FirstLine.{FirstLine}
use Rattle.traces.specs.declared.event.FirstLine.TheVariants as firsts
use Rattle.traces.specs.Fields.{decimal_of, octets_of, parts_after}
use Rattle.traces.specs.Event.{Event, line, opening, received, cut, tick, wall, bare_event}
use Rattle.traces.specs.Event.{valued_at, event_in}
use Rattle.traces.specs.Trace.{lines_of, is_skipped}

abbrev pub first_of : List (List ℕ) → List ℕ
first_of [] = []
first_of (part ∷ parts) = part

-- the first line of a text, its fields, and the lines behind it
abbrev pub first_line : List ℕ → List ℕ
first_line text = first_of (lines_of text)

abbrev pub first_fields : List ℕ → List (List ℕ)
first_fields text = slice_split (λ b. b == 32) (first_line text)

abbrev pub later_lines : List ℕ → List (List ℕ)
later_lines text = drop 1 (lines_of text)

-- a space, or a line feed
abbrev pub ends_field : ℕ → Bool
ends_field octet = (octet == 32) || (octet == 10)

-- a number may end here: no digit follows
pub record NumberMayEnd (text : List ℕ) (i : ℕ) : Type 0 where
  pub within : i ≤ length text
  pub over : i < length text → is_ascii_digit (slice_index text i) ≡ false

-- the number of 1 to 15 digits at the front of a text, and where it ends; or it has none, wherever
-- one might end
abbrev pub IsFrontNumber : List ℕ → Option (ℕ × ℕ) → Type 0
IsFrontNumber text None = (i : ℕ) → NumberMayEnd text i → decimal_of (take i text) ≡ None
IsFrontNumber text (Some found) =
    NumberMayEnd text found.1 × (decimal_of (take found.1 text) ≡ Some found.0)

-- the event of the fields behind a moment, if they are one
abbrev pub event_behind : ℕ → List (List ℕ) → Option Event
event_behind now (kind ∷ []) = bare_event kind now
event_behind now (kind ∷ text ∷ []) = valued_at (Some now) kind text
event_behind now _ = None

-- the moment of the first line of a text, and what stands behind its space; or it is no event
abbrev pub IsMomentAt : List ℕ → Option (ℕ × Bor (List ℕ)) → Type 0
IsMomentAt text None = event_in (first_line text) ≡ None
IsMomentAt text (Some found) =
    (event_in (first_line text) ≡ event_behind found.0 (first_fields found.1.now))
    × (later_lines text ≡ later_lines found.1.now)

-- so many digits stand at the front of a text
pub record AreDigitsTo (text : List ℕ) (i : ℕ) : Type 0 where
  pub within : i ≤ length text
  pub digits : list_all is_hex_digit (take i text) ≡ true

-- the digits at the front of a text end here
pub record DigitsEnd (text : List ℕ) (i : ℕ) : Type 0 where
  pub within : i ≤ length text
  pub digits : list_all is_hex_digit (take i text) ≡ true
  pub over : i < length text → is_hex_digit (slice_index text i) ≡ false

-- the first line of a text, if it has digits alone, and the lines behind it
abbrev pub IsDigitsLine : List ℕ → Option (Bor (List ℕ) × Option (Bor (List ℕ))) → Type 0
IsDigitsLine text None = octets_of (first_line text) ≡ None
IsDigitsLine text (Some found) =
    (lines_of text ≡ found.0.now ∷ parts_after 10 (option_copied found.1))
    × (list_all is_hex_digit found.0.now ≡ true)

-- the first line of a text, if it is octets in hexadecimal, and the lines behind it
abbrev pub IsOctetsLine : List ℕ → Option (Bor (List ℕ) × Option (Bor (List ℕ))) → Type 0
IsOctetsLine text None = octets_of (first_line text) ≡ None
IsOctetsLine text (Some found) =
    (lines_of text ≡ found.0.now ∷ parts_after 10 (option_copied found.1))
    × (is_some (octets_of found.0.now) ≡ true)

-- Two octets are the digits of a third; or one of them is no digit, and the number is no octet.
pub record IsPair (high low n : ℕ) : Type 0 where
  pub both : nat_lt n 256 ≡ (is_hex_digit high && is_hex_digit low)
  pub octet : n < 256 → (i : ℕ) → pair_value high low i ≡ Ok n

-- so many pairs at the front of a text are decoded at the front of a buffer, whatever follows them
abbrev pub Paired : (text buf : List ℕ) (n : ℕ) → Type 0
Paired text buf n = (rest : List ℕ)
    → decode_pairs 0 (take (2 * n) text ++ rest) ≡ prepend (take n buf) (decode_pairs (2 * n) rest)

-- So many pairs of digits stand at the front of a text, and are decoded at the front of a buffer of
-- 1,024 octets: all of them, or as many as the buffer takes.
pub record ArePairs (text buf : List ℕ) (n : ℕ) : Type 0 where
  pub within : 2 * n ≤ length text
  pub most : n ≤ 1024
  pub octets : decode_pairs 0 (take (2 * n) text) ≡ Ok (take n buf)
  pub over : n < 1024 → 2 * n + 1 < length text
      → (is_hex_digit (slice_index text (2 * n)) && is_hex_digit (slice_index text (2 * n + 1)))
      ≡ false

-- the octets of the first line of what is behind a letter
abbrev pub octets_in : Option (Bor (List ℕ)) → Option (List ℕ)
octets_in None = None
octets_in (Some text) = octets_of (first_line text.now)

abbrev pub lines_in : Option (Bor (List ℕ)) → List (List ℕ)
lines_in None = []
lines_in (Some text) = later_lines text.now

-- the event that is spelled so, if its octets are in hexadecimal
abbrev pub spelled_event : Spelled → Option Event
spelled_event (spellings.Line now text) = option_map (line now) (octets_in text)
spelled_event (spellings.Open now rest) = Some (opening now)
spelled_event (spellings.Bytes now text) = option_map (received now) (octets_in text)
spelled_event (spellings.Cut now rest) = Some (cut now)
spelled_event (spellings.Tick now rest) = Some (tick now)
spelled_event (spellings.Wall now rest number) = Some (wall now number)

abbrev pub spelled_by : Option Spelled → Option Event
spelled_by None = None
spelled_by (Some event) = spelled_event event

-- the lines behind it
abbrev pub rest_of : Spelled → List (List ℕ)
rest_of (spellings.Line now text) = lines_in text
rest_of (spellings.Open now rest) = parts_after 10 (option_copied rest)
rest_of (spellings.Bytes now text) = lines_in text
rest_of (spellings.Cut now rest) = parts_after 10 (option_copied rest)
rest_of (spellings.Tick now rest) = parts_after 10 (option_copied rest)
rest_of (spellings.Wall now rest number) = parts_after 10 (option_copied rest)

-- the event of the first line of a text, if it has one, and the lines behind it
abbrev pub IsEventAt : List ℕ → Option Spelled → Type 0
IsEventAt text None = event_in (first_line text) ≡ None
IsEventAt text (Some event) =
    (event_in (first_line text) ≡ spelled_event event) × (later_lines text ≡ rest_of event)

-- the event of the first line of a text behind its moment, if it is one, and the lines behind it
abbrev pub IsEventBehind : ℕ → List ℕ → Option Spelled → Type 0
IsEventBehind now text None = event_behind now (first_fields text) ≡ None
IsEventBehind now text (Some event) =
    (event_behind now (first_fields text) ≡ spelled_event event)
    × (later_lines text ≡ rest_of event)

-- the event of a letter, a space and the first line of a text, if it is one, and what is behind it
abbrev pub IsValued : (now kind : ℕ) → List ℕ → Option Spelled → Type 0
IsValued now kind text None = valued_at (Some now) (kind ∷ []) (first_line text) ≡ None
IsValued now kind text (Some event) =
    (valued_at (Some now) (kind ∷ []) (first_line text) ≡ spelled_event event)
    × (ends_field kind ≡ false) × (later_lines text ≡ rest_of event)

-- what the first line of a text is, and the lines behind it
abbrev pub IsFirstLine : List ℕ → FirstLine → Type 0
IsFirstLine text (firsts.Skipped rest) =
    (is_skipped (first_line text) ≡ true)
    × (later_lines text ≡ parts_after 10 (option_copied rest))
IsFirstLine text (firsts.Event event) =
    (is_skipped (first_line text) ≡ false) × (event_in (first_line text) ≡ spelled_event event)
    × (later_lines text ≡ rest_of event)
IsFirstLine text firsts.Wrong =
    (is_skipped (first_line text) ≡ false) × (event_in (first_line text) ≡ None)
