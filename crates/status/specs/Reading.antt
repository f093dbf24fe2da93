-- How the texts of the pages are read (RFC 8259; Prometheus, text format 0.0.4; HTML, 13.1.4).
use Rattle.std.specs.Prelude.{◌≢◌, ℕ, ◌+◌, ◌*◌, ◌<◌, ◌≤◌, List, [], ◌∷◌, ◌++◌, codes}

-- octets are read one after another, each from the piece that means it
pub data ReadsAs (Means : List ℕ → ℕ → Type 0) : (written text : List ℕ) → Type 0 where
  Ends : ReadsAs Means [] []
  GoesOn : (piece : List ℕ) (c : ℕ) (written text : List ℕ) → Means piece c
      → ReadsAs Means written text → ReadsAs Means (piece ++ written) (c ∷ text)

-- a hexadecimal digit, and the number that it means
pub data IsDigit : (digit value : ℕ) → Type 0 where
  Figure : (n : ℕ) → n < 10 → IsDigit (48 + n) n
  Letter : (n : ℕ) → 10 ≤ n → n < 16 → IsDigit (87 + n) n

-- Between the quotation marks of a string an octet is itself, but not a quotation mark (34), a
-- backslash (92) and a control character (RFC 8259, section 7).
pub data InJson : List ℕ → ℕ → Type 0 where
  Plain : (c : ℕ) → c ≢ 34 → c ≢ 92 → 32 ≤ c → InJson (c ∷ []) c
  Quote : InJson (codes "\\\"") 34
  Backslash : InJson (codes "\\\\") 92
  Control : (high low m n : ℕ) → IsDigit high m → IsDigit low n
      → InJson (codes "\\u00" ++ high ∷ low ∷ []) (16 * m + n)

-- the same of a label's value, in which a line feed (10) is no octet of its own either
pub data InLabel : List ℕ → ℕ → Type 0 where
  LabelPlain : (c : ℕ) → c ≢ 34 → c ≢ 92 → c ≢ 10 → InLabel (c ∷ []) c
  LabelQuote : InLabel (codes "\\\"") 34
  LabelBackslash : InLabel (codes "\\\\") 92
  LineFeed : InLabel (codes "\\n") 10

-- an element's text and an attribute's value
pub data InHtml : List ℕ → ℕ → Type 0 where
  HtmlPlain : (c : ℕ) → c ≢ 38 → c ≢ 60 → c ≢ 62 → c ≢ 34 → InHtml (c ∷ []) c
  Ampersand : InHtml (codes "&amp;") 38
  Less : InHtml (codes "&lt;") 60
  Greater : InHtml (codes "&gt;") 62
  HtmlQuote : InHtml (codes "&quot;") 34
