-- The keys of the table `live` (this gateway's own profile): each is a text, and may be missing; a
-- live run needs both, and says what they are.
use Rattle.std.specs.Prelude.{ℕ, nat_eq, nat_le, nat_lt, ◌&&◌, ◌||◌, codes, Bool, false}
use Rattle.std.specs.Prelude.{if◌then◌else◌, List, [], ◌∷◌, length, take, drop, Option, Some, None}
use Rattle.std.specs.Prelude.{Result, Ok, Err, string_bytes}
use Rattle.std.specs.List.{list_all, starts_with}
use Rattle.std.specs.Str.{bytes_eq}
use Rattle.traces.specs.Fields.{decimal_of}
use Rattle.settings.specs.declared.live.LiveSettings.{LiveSettings}
use Rattle.toml.specs.Data.{Data, Members, as_str}
use Rattle.settings.specs.Faults.{Path, ◌>>=◌}
use Rattle.settings.specs.Keys.{given_at}

abbrev pub text_in : Path → Option (List ℕ) → Result (Unit {0}) Path
text_in path None = Err path
text_in path (Some word) = Ok tt

abbrev pub text_or : Path → Option Data → Result (Unit {0}) Path
text_or path None = Ok tt
text_or path (Some d) = text_in path (as_str d)

abbrev pub word_of : List ℕ → Path → Option Members → Result (Unit {0}) Path
word_of key path t = text_or path (given_at key t)

abbrev pub live_keys : Option Members → Result (Unit {0}) Path
live_keys t =
    word_of (codes "line") (codes "live.line") t
    >>= (λ _. word_of (codes "listen") (codes "live.listen") t)

-- a port: 1 to 65535
abbrev pub is_port_number : Option ℕ → Bool
is_port_number None = false
is_port_number (Some n) = nat_le 1 n && nat_le n 65535

-- it is written in decimal digits alone
abbrev pub is_port : List ℕ → Bool
is_port digits = is_port_number (decimal_of digits)

-- somewhere a colon stands before a port, which goes to the end; 58 is the colon
abbrev pub has_port : List ℕ → Bool
has_port [] = false
has_port (c ∷ text) = (nat_eq c 58 && is_port text) || has_port text

-- `HOST:PORT`, whose host isn't empty
abbrev pub is_address : List ℕ → Bool
is_address [] = false
is_address (c ∷ text) = has_port text

-- the text begins so
abbrev pub begins_with : List ℕ → List ℕ → Bool
begins_with head text = bytes_eq (take (length head) text) head

-- `tcp:HOST:PORT`, or `unix:PATH`, whose path isn't empty
abbrev pub is_line : List ℕ → Bool
is_line text =
    (begins_with (codes "tcp:") text && is_address (drop 4 text))
    || (begins_with (codes "unix:") text && nat_lt 5 (length text))

-- a digit (48 to 57), a dot (46) or a colon (58)
abbrev pub is_numeric : ℕ → Bool
is_numeric c = (nat_le 48 c && nat_le c 57) || nat_eq c 46 || nat_eq c 58

-- a line is this beginning and a port
abbrev pub is_behind : (head : List ℕ) → List ℕ → Bool
is_behind head line = starts_with nat_eq line head && is_port (drop (length head) line)

-- a line's host is `localhost` or `::1`
unfoldable pub is_localhost : List ℕ → Bool
is_localhost line = is_behind (codes "tcp:localhost:") line || is_behind (codes "tcp:::1:") line

-- it is an address of 127.0.0.0/8
abbrev pub is_loopback : List ℕ → Bool
is_loopback line = begins_with (codes "tcp:127.") line && list_all is_numeric (drop 8 line)

-- a line is on this machine by its name: a path of a device, or such a host
abbrev pub is_here : List ℕ → Bool
is_here line = begins_with (codes "unix:") line || is_localhost line || is_loopback line

-- the text of a key, if it is there and is one
abbrev pub text_of : Option Data → Option (List ℕ)
text_of None = None
text_of (Some d) = as_str d

abbrev pub place_in : (List ℕ → Bool) → Path → Option (List ℕ) → Result (List ℕ) Path
place_in is_good path None = Err path
place_in is_good path (Some text) = if is_good text then Ok text else Err path

-- a text that has to be there, and has to be as it should be
abbrev pub place_of : (List ℕ → Bool) → List ℕ → Path → Option Members → Result (List ℕ) Path
place_of is_good key path t = place_in is_good path (text_of (given_at key t))

-- where a live run finds its line and its control centre
pub record Places : Type 0 where
  pub line : List ℕ
  pub listen : List ℕ

abbrev pub places_of : LiveSettings → Places
places_of s = record { line = string_bytes s.line; listen = string_bytes s.listen }

abbrev pub live_places : Option Members → Result Places Path
live_places t = do
  line ← place_of is_line (codes "line") (codes "live.line") t
  listen ← place_of is_address (codes "listen") (codes "live.listen") t
  Ok (record { line = line; listen = listen })
