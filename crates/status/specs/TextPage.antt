-- Octets that are put one behind another into room of a fixed size (this gateway's own profile).
use Rattle.std.specs.Prelude.{ℕ, List, [], ◌∷◌, ◌++◌, length, nat_lt, Option, Some, None, unwrap_or}
use Rattle.std.specs.Prelude.{if◌then◌else◌}

-- room for so many octets, and the text in it; none, if something found no room
pub record Sheet : Type 0 where
  pub room : ℕ
  pub text : Option (List ℕ)

abbrev pub empty : ℕ → Sheet
empty room = record { room = room; text = Some [] }

-- the octets that stand there
abbrev pub shown : Sheet → List ℕ
shown s = unwrap_or s.text []

-- a text with one more octet, if there is room for it
abbrev pub pushed : (room : ℕ) → Option (List ℕ) → ℕ → Option (List ℕ)
pushed room None c = None
pushed room (Some text) c = if nat_lt (length text) room then Some (text ++ c ∷ []) else None

-- a text with more octets
abbrev pub text_with : (room : ℕ) → List ℕ → Option (List ℕ) → Option (List ℕ)
text_with room [] text = text
text_with room (c ∷ cs) text = text_with room cs (pushed room text c)

-- a sheet with more octets
unfoldable pub put : List ℕ → Sheet → Sheet
put octets s = record { room = s.room; text = text_with s.room octets s.text }
