-- What a start reads behind the checkpoint of a file (profile).
use Rattle.std.specs.Prelude.{ℕ, ◌+◌, ◌-◌, ◌*◌, ◌==◌, ◌&&◌, ◌||◌, not, Bool, List, length}
use Rattle.std.specs.Prelude.{take, drop, slice_index, position, Option, Some, None}
use Rattle.std.specs.Prelude.{if◌then◌else◌}
use Rattle.std.specs.List.{concat}
use Rattle.statetext.specs.Sealed.{end_in, is_damaged_in, writes_in}

abbrev pub up_to : Option ℕ → List ℕ → List ℕ
up_to None text = text
up_to (Some place) text = take place text

-- the octets before the first octet 0
abbrev pub before_zero : List ℕ → List ℕ
before_zero text = up_to (position (λ c. c == 0) text) text

-- by its first line the writes in the file bear seals: its rules are 2 (50)
abbrev pub is_sealed : (file : List ℕ) → Bool
is_sealed file = slice_index file 23 == 50

-- The lines that a start reads in a file whose checkpoint ends there: those of the whole beginning
-- of the text behind it. If writes bear no seals, these are the octets before the first octet 0.
unfoldable pub log_in : (begins : ℕ) → (file : List ℕ) → List ℕ
log_in begins file =
    if is_sealed file then concat (writes_in (take 87 file) (drop begins file))
    else before_zero (drop begins file)

-- so many octets are the room for the lines of a segment: 976 blocks of 4,096
abbrev pub is_room : ℕ → Bool
is_room n = n == 976 * 4096

-- The octet of the file from which on nothing is read, if that is for damage: where the whole
-- beginning ends. What follows isn't what a crash leaves of a write, or the file isn't as long as
-- it was reserved.
unfoldable pub damage_in : (begins : ℕ) → (file : List ℕ) → Option ℕ
damage_in begins file =
    if is_sealed file && (is_damaged_in (take 87 file) (drop begins file)
    || not (is_room (length file - begins)))
    then Some (begins + end_in (take 87 file) (drop begins file)) else None
