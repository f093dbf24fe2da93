-- Keys that are texts, and what these have to be (this gateway's own profile).
use Rattle.std.specs.Prelude.{ℕ, bit_and, nat_lt, nat_le, ◌==◌, ◌&&◌, ◌||◌, not, Bool, false}
use Rattle.std.specs.Prelude.{if◌then◌else◌, List, [], ◌∷◌, length, count_by, slice_index, Option}
use Rattle.std.specs.Prelude.{Some, None, Result, Ok, Err}
use Rattle.toml.specs.Data.{Data, Members, as_str}
use Rattle.settings.specs.Faults.{Path}
use Rattle.settings.specs.Keys.{given_at}
use Rattle.settings.specs.Live.{is_address}
use Rattle.settings.specs.declared.site.keys.TextForm.{TextForm}
use Rattle.settings.specs.declared.site.keys.TextForm.TheVariants.{Name, Address, Directory}

-- two octets begin a control character: U+0000 to U+001F, U+007F, or U+0080 to U+009F, which UTF-8
-- writes as 194 and the number
abbrev pub is_control : ℕ → ℕ → Bool
is_control octet next = nat_lt octet 32 || octet == 127 || (octet == 194 && nat_lt next 160)

abbrev pub has_control : List ℕ → Bool
has_control [] = false
has_control (octet ∷ text) = is_control octet (slice_index text 0) || has_control text

-- how many characters a text in UTF-8 has: an octet whose highest bits are 10 begins none
abbrev pub characters : List ℕ → ℕ
characters text = count_by (λ octet. not (bit_and octet 0xC0 == 0x80)) text

-- 1 to 40 characters, and no control character
abbrev pub is_name : List ℕ → Bool
is_name text = (nat_le 1 (characters text) && nat_le (characters text) 40) && not (has_control text)

-- a directory's name isn't empty
abbrev pub is_directory : List ℕ → Bool
is_directory text = not (length text == 0) && not (has_control text)

abbrev pub is_good : TextForm → List ℕ → Bool
is_good Name text = is_name text
is_good Address text = is_address text
is_good Directory text = is_directory text

abbrev pub text_in : TextForm → Path → Option (List ℕ) → Result (Option (List ℕ)) Path
text_in form path None = Err path
text_in form path (Some text) = if is_good form text then Ok (Some text) else Err path

abbrev pub text_or_none : TextForm → Path → Option Data → Result (Option (List ℕ)) Path
text_or_none form path None = Ok None
text_or_none form path (Some d) = text_in form path (as_str d)

-- a text that may be missing, and has to be as it should be
abbrev pub text_of_key : TextForm → (key : List ℕ) → Path → Option Members
    → Result (Option (List ℕ)) Path
text_of_key form key path t = text_or_none form path (given_at key t)
