-- ASDUs in words (IEC 60870-5-101, 7.1 and 7.2).
use Rattle.std.specs.Prelude.{ℕ, ◌+◌, ◌%◌, ◌==◌, Bool, true, false, nat_lt, if◌then◌else◌, codes}
use Rattle.std.specs.Prelude.{List, [], ◌∷◌, ◌++◌, length, slice_index, Option, Some, None}
use Rattle.std.specs.Fmt.{decimal}
use Rattle.elements.specs.declared.types.TypeId.{TypeId}
use Rattle.elements.specs.Names.{cause_name, type_name}
use Rattle.elements.specs.Types.{type_of}
use Rattle.asdu.specs.Asdu.{Info}
use Rattle.asdu.specs.Fields.{value_at, originator_at, ca_at}
use Rattle.asdu.specs.Refusals.{refusal}
use Rattle.asdu.specs.Sizes.{header_len, ioa_len}
use Rattle.asdu.specs.declared.sizes.Sizes.{Sizes}
use Rattle.words.specs.Numbers.{mark}
use Rattle.words.specs.Tags.{tag_text}
use Rattle.words.specs.Values.{value_words}

-- ---- The header

-- a name, or else what it is of and its number
unfoldable pub named : List ℕ → ℕ → Option (List ℕ) → List ℕ
named kind n (Some text) = text
named kind n None = kind ++ (codes " " ++ decimal n)

-- the type (7.2.1)
unfoldable pub type_text : ℕ → List ℕ
type_text n = named (codes "type") n (type_name n)

-- the cause octet (7.2.3): the cause in bits 5 to 0, P/N in bit 6, test in bit 7
unfoldable pub cause_text : ℕ → List ℕ
cause_text n = named (codes "cause") n (cause_name n)

unfoldable pub cause_words : ℕ → List ℕ
cause_words n =
    cause_text (n % 64) ++ (mark 6 n (codes ", negative") ++ mark 7 n (codes ", test"))

-- an originator that is shown (7.2.3)
unfoldable pub originator_text : ℕ → List ℕ
originator_text n = if n == 0 then [] else codes ", originator " ++ decimal n

-- SQ: the objects have successive addresses (7.2.2)
abbrev pub sequence_mark : ℕ → List ℕ
sequence_mark vsq = mark 7 vsq (codes ", sequence")

unfoldable pub ca_text : ℕ → List ℕ
ca_text ca = codes "  CA " ++ decimal ca

unfoldable pub kind_words : (kind cause : ℕ) → List ℕ
kind_words kind cause = type_text kind ++ (codes " " ++ cause_words cause)

unfoldable pub place_words : (originator vsq ca : ℕ) → List ℕ
place_words originator vsq ca = originator_text originator ++ (sequence_mark vsq ++ ca_text ca)

-- of the octets of an ASDU
unfoldable pub header_words : Sizes → List ℕ → List ℕ
header_words s xs =
    kind_words (slice_index xs 0) (slice_index xs 2)
    ++ place_words (originator_at s.cause xs) (slice_index xs 1) (ca_at s xs)

-- ---- The objects

-- an object: its address, its value, and its time tag
unfoldable pub object_words : TypeId → Info → List ℕ
object_words t i =
    decimal i.address ++ (codes " = " ++ (value_words t i.element ++ tag_text i.tag))

-- what parts an object from what stands before it
unfoldable pub parting : Bool → List ℕ
parting is_first = if is_first then codes "  " else codes "; "

abbrev pub objects_words : TypeId → (is_first : Bool) → List Info → List ℕ
objects_words t is_first [] = []
objects_words t is_first (i ∷ is) =
    parting is_first ++ (object_words t i ++ objects_words t false is)

-- ---- The whole

-- why octets behind a header are no objects
unfoldable pub reason : ℕ → List ℕ
reason n =
    if n == 2 then codes "a type that isn't carried"
    else (if n == 3 then codes "no object"
    else (if n == 4 then codes "a length that doesn't fit" else codes "addresses past the last"))

unfoldable pub reason_words : ℕ → List ℕ
reason_words n = codes "  not read: " ++ reason n

unfoldable pub typed_words : Sizes → List ℕ → Option TypeId → List ℕ
typed_words s xs None = []
typed_words s xs (Some t) = objects_words t true (value_at s t xs).infos

unfoldable pub content_by : Sizes → List ℕ → Option ℕ → List ℕ
content_by s xs None = typed_words s xs (type_of (slice_index xs 0))
content_by s xs (Some why) = reason_words why

unfoldable pub content_words : Sizes → List ℕ → List ℕ
content_words s xs = content_by s xs (refusal s xs)

-- octets that are to be an ASDU
unfoldable pub asdu_words : Sizes → List ℕ → List ℕ
asdu_words s xs =
    if nat_lt (length xs) (header_len s + ioa_len s.ioa) then codes "no ASDU: too short"
    else header_words s xs ++ content_words s xs

-- the data of a frame, if it has any
unfoldable pub data_words : Sizes → List ℕ → List ℕ
data_words s [] = []
data_words s (x ∷ xs) = codes "  " ++ asdu_words s (x ∷ xs)
