-- The words of a text, and what is written in place of an octet that would mean something else.
use Rattle.std.specs.Prelude.{ℕ, ◌+◌, ◌-◌, ◌/◌, ◌%◌, ◌==◌, nat_lt, List, [], ◌∷◌, ◌++◌, length}
use Rattle.std.specs.Prelude.{replicate, Option, Some, None, codes, if◌then◌else◌}
use Rattle.std.specs.List.{flat_map}
use Rattle.std.specs.Borrow.{Bor}
use Rattle.std.specs.Fmt.{decimal}
use Rattle.status.specs.declared.words.Marks.{Marks}
use Rattle.status.specs.declared.words.Marks.TheVariants.{Json, Label, Html, Plain}
use Rattle.status.specs.declared.words.Word.{Word}
use Rattle.status.specs.declared.words.Word.TheVariants.{Text, Escaped, Number, Address, NumberOr}
use Rattle.status.specs.declared.words.Word.TheVariants.{Right, Either, EscapedOr, Stands, Wide}
use Rattle.status.specs.declared.words.Word.TheVariants.{Counted, Keeps, Judged, Thousandths}
use Rattle.status.specs.declared.words.Word.TheVariants.{EscapedBehind, Severe, TwoDigits}
use Rattle.status.specs.Labels.{judgement_text, keeping_text, severity_text, standing_text}
use Rattle.status.specs.Labels.{wide_text, value_of}

-- a hexadecimal digit (RFC 8259, section 7)
abbrev pub digit_of : ℕ → ℕ
digit_of n = if nat_lt n 10 then 48 + n else 87 + n

-- an octet between the quotation marks of a string (RFC 8259, section 7)
abbrev pub json_of : ℕ → List ℕ
json_of c =
    if c == 34 then codes "\\\"" else if c == 92 then codes "\\\\"
    else if nat_lt c 32 then codes "\\u00" ++ digit_of (c / 16) ∷ digit_of (c % 16) ∷ []
    else c ∷ []

-- an octet between the quotation marks of a label's value (Prometheus, text format 0.0.4)
abbrev pub label_of : ℕ → List ℕ
label_of c =
    if c == 34 then codes "\\\"" else if c == 92 then codes "\\\\"
    else if c == 10 then codes "\\n" else c ∷ []

-- an octet of a text or between the quotation marks of an attribute (HTML, 13.1.4)
abbrev pub html_of : ℕ → List ℕ
html_of c =
    if c == 38 then codes "&amp;" else if c == 60 then codes "&lt;"
    else if c == 62 then codes "&gt;" else if c == 34 then codes "&quot;" else c ∷ []

-- what stands for an octet
abbrev pub mark_of : Marks → ℕ → List ℕ
mark_of Json c = json_of c
mark_of Label c = label_of c
mark_of Html c = html_of c
mark_of Plain c = c ∷ []

abbrev pub escaped : Marks → List ℕ → List ℕ
escaped marks text = flat_map (mark_of marks) text

-- a number in decimal, with spaces before it up to a width
abbrev pub right : (width n : ℕ) → List ℕ
right width n = replicate (width - length (decimal n)) 32 ++ decimal n

-- a number, or another text if there is none
abbrev pub number_or : Option ℕ → List ℕ → List ℕ
number_or (Some n) other = decimal n
number_or None other = other

-- a text with such words, or another one if there is none
abbrev pub escaped_or : Marks → Option (Bor (List ℕ)) → List ℕ → List ℕ
escaped_or marks (Some text) other = escaped marks text.now
escaped_or marks None other = other

-- a text with such words behind another one, or nothing
abbrev pub escaped_behind : Marks → List ℕ → Option (Bor (List ℕ)) → List ℕ
escaped_behind marks before (Some text) = before ++ escaped marks text.now
escaped_behind marks before None = []

-- texts joined
abbrev pub joined : List (List ℕ) → List ℕ
joined [] = []
joined (text ∷ texts) = text ++ joined texts

-- so many thousandths: the whole ones, and three digits behind a point
abbrev pub thousandth_parts : ℕ → List (List ℕ)
thousandth_parts n =
    decimal (n / 1000) ∷ codes "." ∷ decimal (n / 100 % 10) ∷ decimal (n / 10 % 10)
    ∷ decimal (n % 10) ∷ []

abbrev pub thousandths : ℕ → List ℕ
thousandths n = joined (thousandth_parts n)

-- the last two digits
abbrev pub two_digit_parts : ℕ → List (List ℕ)
two_digit_parts n = decimal (n / 10 % 10) ∷ decimal (n % 10) ∷ []

abbrev pub two_digits : ℕ → List ℕ
two_digits n = joined (two_digit_parts n)

abbrev pub word_text : Word → List ℕ
word_text (Text text) = text.now
word_text (Escaped marks text) = escaped marks text.now
word_text (Number n) = decimal n
word_text (Thousandths n) = thousandths n
word_text (TwoDigits n) = two_digits n
word_text (Address n) = decimal n
word_text (NumberOr n other) = number_or n other.now
word_text (Right width n) = right width n
word_text (Either is_so one other) = if is_so then one.now else other.now
word_text (EscapedOr marks text other) = escaped_or marks text other.now
word_text (EscapedBehind marks before text) = escaped_behind marks before.now text
word_text (Stands standing) = standing_text standing
word_text (Wide standing) = wide_text standing
word_text (Counted count station) = decimal (value_of count station.now)
word_text (Keeps keeping) = keeping_text keeping
word_text (Severe severity) = severity_text severity
word_text (Judged judgement) = judgement_text judgement

abbrev pub text_of : List Word → List ℕ
text_of [] = []
text_of (w ∷ ws) = word_text w ++ text_of ws

-- the texts of things one behind another
abbrev pub rows : {A : Type 0} → (A → List ℕ) → List A → List ℕ
rows f [] = []
rows f (x ∷ xs) = f x ++ rows f xs

-- the texts of things, each with a comma (44) before it
abbrev pub behind : {A : Type 0} → (A → List ℕ) → List A → List ℕ
behind f [] = []
behind f (x ∷ xs) = (44 ∷ f x) ++ behind f xs

-- the texts of things with commas between them
abbrev pub listed : {A : Type 0} → (A → List ℕ) → List A → List ℕ
listed f [] = []
listed f (x ∷ xs) = f x ++ behind f xs
