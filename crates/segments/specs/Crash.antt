-- What a crash may leave of a file whose text is appended to (profile).
use Rattle.std.specs.Prelude.{◌≡◌, ◌≢◌, ℕ, ◌+◌, ◌<◌, ◌≤◌, IsTrue, List, length, take, slice_index}
use Rattle.sqlite_disk.specs.declared.Disk.{Ghosts}

-- the disk says of each file that a crash leaves each octet below its old end old or new
abbrev pub AreMixing : {D : Type 0} → Ghosts D → Type 0
AreMixing {D = D} g = (file : D) → IsTrue (g.is_mixing file)

-- each outcome has this length
abbrev pub HasLength : (List ℕ → Type 0) → ℕ → Type 0
HasLength outcomes size = (c : List ℕ) → outcomes c → length c ≡ size

-- each outcome begins with so many octets of the text
abbrev pub BeginsWith : (List ℕ → Type 0) → ℕ → List ℕ → Type 0
BeginsWith outcomes n text =
    (c : List ℕ) → outcomes c → (i : ℕ) → i < n → slice_index c i ≡ slice_index text i

-- each octet of an outcome that isn't 0 is the text's octet of that place
abbrev pub HasNoOther : (List ℕ → Type 0) → List ℕ → Type 0
HasNoOther outcomes text =
    (c : List ℕ) → outcomes c → (i : ℕ) → slice_index c i ≢ 0 → slice_index c i ≡ slice_index text i

-- a text has these octets at this place
abbrev pub HasAt : ℕ → List ℕ → List ℕ → Type 0
HasAt at octets text =
    (i : ℕ) → i < length octets → slice_index text (at + i) ≡ slice_index octets i

-- from this place on there are zeros alone
abbrev pub IsBlankFrom : ℕ → List ℕ → Type 0
IsBlankFrom n file = (i : ℕ) → n ≤ i → slice_index file i ≡ 0

-- each outcome is shut: its first octet is `-` (45)
abbrev pub IsShut : (List ℕ → Type 0) → Type 0
IsShut outcomes = (c : List ℕ) → outcomes c → slice_index c 0 ≡ 45

-- each outcome has at least one octet
abbrev pub IsLong : (List ℕ → Type 0) → Type 0
IsLong outcomes = (c : List ℕ) → outcomes c → 0 < length c

-- each outcome that may be a segment, since it begins with `t` (116), is this text
abbrev pub IsWholeIfOpen : (List ℕ → Type 0) → List ℕ → Type 0
IsWholeIfOpen outcomes text = (c : List ℕ) → outcomes c → slice_index c 0 ≡ 116 → c ≡ text

-- a file has this text, and zeros alone behind it
abbrev pub HasText : (text file : List ℕ) → Type 0
HasText text file = (take (length text) file ≡ text) × IsBlankFrom (length text) file

-- it has so many octets, and is this text with zeros alone behind it
abbrev pub IsTextTo : (size : ℕ) → (text file : List ℕ) → Type 0
IsTextTo size text file = HasText text file × (length file ≡ size)

-- each outcome that may be a segment has this text
abbrev pub IsTextIfOpen : (List ℕ → Type 0) → List ℕ → Type 0
IsTextIfOpen outcomes text =
    (c : List ℕ) → outcomes c → slice_index c 0 ≡ 116 → HasText text c
