-- What the texts of the pages mean to who reads them.
use Rattle.std.proofs.Common.{◌≡◌, ◌≢◌, ℕ, ◌+◌, ◌*◌, ◌/◌, ◌%◌, ◌<◌, ◌≤◌, Bool, true}
use Rattle.std.proofs.Common.{false, List, []}
use Rattle.std.proofs.Common.{◌∷◌, ◌++◌, ◌==◌, nat_lt, refl, subst}
use Rattle.std.proofs.Common.{arith}
use Rattle.std.proofs.Common.{if◌then◌else◌, codes}
use Rattle.std.proofs.lemmas.Bool.Decides.{nat_tests}
use Rattle.status.specs.Reading.{Ampersand, Backslash, Control, Ends, Figure, GoesOn, Greater}
use Rattle.status.specs.Reading.{HtmlPlain, HtmlQuote, InHtml, InJson, InLabel, IsDigit}
use Rattle.status.specs.Reading.{LabelBackslash, LabelPlain, LabelQuote, Less, Letter, LineFeed}
use Rattle.status.specs.Reading.{Plain, Quote, ReadsAs}
use Rattle.status.specs.Words.{digit_of, escaped, mark_of}
use Rattle.status.specs.declared.words.Marks.{Marks}
use Rattle.status.specs.declared.words.Marks.TheVariants as marks

-- Octets are read back

is_it : (c n : ℕ) → true ≡ (c == n) → n ≡ c
is_it c n is = grind (arith, nat_tests)

is_not : (c n : ℕ) → false ≡ (c == n) → c ≢ n
is_not c n is = grind (arith, nat_tests)

is_below : (c n : ℕ) → true ≡ nat_lt c n → c < n
is_below c n is = grind (arith, nat_tests)

is_from : (c n : ℕ) → false ≡ nat_lt c n → n ≤ c
is_from c n is = grind (arith, nat_tests)

digit_by : (b : Bool) (n : ℕ) → b ≡ nat_lt n 10 → n < 16
    → IsDigit (if b then 48 + n else 87 + n) n
digit_by true n is lt = Figure n (is_below n 10 is)
digit_by false n is lt = Letter n (is_from n 10 is) lt

digit : (n : ℕ) → n < 16 → IsDigit (digit_of n) n
digit n lt = digit_by (nat_lt n 10) n refl lt

json_by : (a b d : Bool) (c : ℕ) → a ≡ (c == 34) → b ≡ (c == 92) → d ≡ nat_lt c 32
    → InJson
    (if a then codes "\\\"" else if b then codes "\\\\"
    else if d then codes "\\u00" ++ digit_of (c / 16) ∷ digit_of (c % 16) ∷ []
    else c ∷ []) c
json_by true b d c quote slash low = subst (InJson (codes "\\\"")) (is_it c 34 quote) Quote
json_by false true d c quote slash low =
    subst (InJson (codes "\\\\")) (is_it c 92 slash) Backslash
json_by false false true c quote slash low =
    let lt : c < 32 = is_below c 32 low in
    let whole : 16 * (c / 16) + c % 16 ≡ c = omega arith in
    subst (InJson (codes "\\u00" ++ digit_of (c / 16) ∷ digit_of (c % 16) ∷ [])) whole
    (Control (digit_of (c / 16)) (digit_of (c % 16)) (c / 16) (c % 16)
    (digit (c / 16) (omega arith)) (digit (c % 16) (omega arith)))
json_by false false false c quote slash low =
    Plain c (is_not c 34 quote) (is_not c 92 slash) (is_from c 32 low)

label_by : (a b d : Bool) (c : ℕ) → a ≡ (c == 34) → b ≡ (c == 92) → d ≡ (c == 10)
    → InLabel
    (if a then codes "\\\"" else if b then codes "\\\\" else if d then codes "\\n"
    else c ∷ []) c
label_by true b d c quote slash feed =
    subst (InLabel (codes "\\\"")) (is_it c 34 quote) LabelQuote
label_by false true d c quote slash feed =
    subst (InLabel (codes "\\\\")) (is_it c 92 slash) LabelBackslash
label_by false false true c quote slash feed =
    subst (InLabel (codes "\\n")) (is_it c 10 feed) LineFeed
label_by false false false c quote slash feed =
    LabelPlain c (is_not c 34 quote) (is_not c 92 slash) (is_not c 10 feed)

html_by : (a b d e : Bool) (c : ℕ) → a ≡ (c == 38) → b ≡ (c == 60) → d ≡ (c == 62)
    → e ≡ (c == 34)
    → InHtml
    (if a then codes "&amp;" else if b then codes "&lt;" else if d then codes "&gt;"
    else if e then codes "&quot;" else c ∷ []) c
html_by true b d e c amp less more quote =
    subst (InHtml (codes "&amp;")) (is_it c 38 amp) Ampersand
html_by false true d e c amp less more quote =
    subst (InHtml (codes "&lt;")) (is_it c 60 less) Less
html_by false false true e c amp less more quote =
    subst (InHtml (codes "&gt;")) (is_it c 62 more) Greater
html_by false false false true c amp less more quote =
    subst (InHtml (codes "&quot;")) (is_it c 34 quote) HtmlQuote
html_by false false false false c amp less more quote =
    HtmlPlain c (is_not c 38 amp) (is_not c 60 less) (is_not c 62 more) (is_not c 34 quote)

reads : (Means : List ℕ → ℕ → Type 0) (m : Marks) → ((c : ℕ) → Means (mark_of m c) c)
    → (text : List ℕ) → ReadsAs Means (escaped m text) text
reads Means m each [] = Ends
reads Means m each (c ∷ cs) =
    GoesOn (mark_of m c) c (escaped m cs) cs (each c) (reads Means m each cs)

pub json_reads : (text : List ℕ) → ReadsAs InJson (escaped marks.Json text) text
json_reads =
    reads InJson marks.Json (λ c. json_by (c == 34) (c == 92) (nat_lt c 32) c refl refl refl)

pub label_reads : (text : List ℕ) → ReadsAs InLabel (escaped marks.Label text) text
label_reads =
    reads InLabel marks.Label (λ c. label_by (c == 34) (c == 92) (c == 10) c refl refl refl)

pub html_reads : (text : List ℕ) → ReadsAs InHtml (escaped marks.Html text) text
html_reads =
    reads InHtml marks.Html
    (λ c. html_by (c == 38) (c == 60) (c == 62) (c == 34) c refl refl refl refl)

-- Lists

-- What a text has

-- A number with a space before it and one behind it
