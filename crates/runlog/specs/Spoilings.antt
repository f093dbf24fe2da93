-- What came in the place of an answer, and how a line shows it (this gateway's own profile).
use Rattle.std.specs.Prelude.{ℕ, ◌/◌, ◌%◌, ◌&&◌, nat_le, nat_lt, Bool, true, List, [], ◌∷◌}
use Rattle.std.specs.Prelude.{◌++◌, codes, drop, length, min, take, if◌then◌else◌}
use Rattle.std.specs.Fmt.{decimal, digit_glyph}
use Rattle.runlog.specs.declared.spoiling.FirstOctets.{FirstOctets}
use Rattle.runlog.specs.declared.spoiling.Spoiling.{Spoiling}
use Rattle.runlog.specs.declared.spoiling.Spoiling.TheVariants.{Echo, Late, Frame, Octets}

abbrev zeros : List ℕ
zeros = 0 ∷ 0 ∷ 0 ∷ 0 ∷ 0 ∷ 0 ∷ 0 ∷ 0 ∷ 0 ∷ 0 ∷ 0 ∷ 0 ∷ 0 ∷ 0 ∷ 0 ∷ 0 ∷ []

-- the first sixteen, or all of fewer
abbrev pub first_of : List ℕ → FirstOctets
first_of octets =
    let count = min (length octets) 16 in
    record { row = take count octets ++ drop count zeros; count = count }

abbrev pub shown : FirstOctets → List ℕ
shown first = take (min first.count 16) first.row

-- each octet in two digits, in upper case
abbrev pub octet_text : ℕ → List ℕ
octet_text octet = digit_glyph true (octet / 16) ∷ digit_glyph true (octet % 16) ∷ []

abbrev pub hex_text : List ℕ → List ℕ
hex_text [] = []
hex_text (octet ∷ octets) = octet_text octet ++ hex_text octets

abbrev pub is_printable : ℕ → Bool
is_printable octet = nat_le 0x20 octet && nat_le octet 0x7E

-- the printable octets at the front, which are ASCII
abbrev pub letters : List ℕ → List ℕ
letters [] = []
letters (octet ∷ octets) = if is_printable octet then octet ∷ letters octets else []

-- four letters or more are shown as a text, too
abbrev pub letters_words : List ℕ → List ℕ
letters_words text =
    if nat_lt (length text) 4 then [] else codes " (\"" ++ text ++ codes "\")"

abbrev pub octets_words : List ℕ → List ℕ
octets_words octets = codes "octets " ++ hex_text octets ++ letters_words (letters octets)

abbrev pub late_answer : (station ms : ℕ) → List ℕ
late_answer station ms =
    (codes "an answer of station " ++ decimal station ++ codes ", ")
    ++ (decimal ms ++ codes " ms behind its request: answer_ms is short")

abbrev pub spoiling_words : Spoiling → List ℕ
spoiling_words Echo = codes "its request came back"
spoiling_words (Late station ms) = late_answer station ms
spoiling_words (Frame station) = codes "a frame with link address " ++ decimal station
spoiling_words (Octets first) = octets_words (shown first)
