-- A start finds what a crash left of a segment, and nothing else.
use Rattle.std.proofs.Common.{◌≡◌, ◌≢◌, inl, inr, ℕ, ◌+◌, ◌-◌, ◌<◌, ◌≤◌, ◌^◌, List, [], Bool}
use Rattle.std.proofs.Common.{true, false, not, ◌||◌, ◌&&◌, None, get_or}
use Rattle.std.proofs.Common.{◌∷◌, ◌++◌, length, take, drop, slice_index, Ok, Some, refl}
use Rattle.std.proofs.Common.{sym, ap, subst, ◌∙◌, append_assoc, length-append, zero-add, arith}
use Rattle.std.proofs.lemmas.Bool.{cases_lt}
use Rattle.std.proofs.lemmas.List.{append-nil, ext_get_or, get_or_append_left, get_or-append-add}
use Rattle.std.proofs.lemmas.List.{get_or-append_right, get_or-drop}
use Rattle.std.proofs.lemmas.List.{get_or-take, length-drop, length-take, length-take-le}
use Rattle.std.proofs.lemmas.List.{take-append-drop}
use Rattle.std.proofs.lemmas.Nat.{from_be_bytes-to_be_bytes_4, from_be_bytes-to_be_bytes_8}
use Rattle.std.specs.Int.{w32, w64, from_be_bytes, to_be_bytes}
use Rattle.std.specs.Prelude.{◌⊎◌, ◌==◌, bit_xor, if◌then◌else◌}
use Rattle.hex.specs.Hex.{decode_sized, encode_lower}
use Rattle.hex.proofs.HexLemmas.{decode_sized-encode_lower}
use Rattle.sqlite_disk.specs.Disk.{Holds}
use Rattle.statetext.specs.Sum.{remainder_after, sum_of}
use Rattle.segments.specs.Crash.{BeginsWith, HasLength, HasNoOther, IsShut}
use Rattle.segments.specs.Crash.{IsTextIfOpen, IsTextTo}
use Rattle.segments.specs.Crashes.{AreBoth, AreOlder, AreShutOr, HasWhole, IsThatOf}
use Rattle.segments.specs.Crashes.{StandsIn}
use Rattle.segments.specs.Crashes.{StaysBacked}
use Rattle.segments.specs.Crashes.{Survives, damage_behind, lines_behind, log_text}
use Rattle.segments.specs.Room.{is_room, before_zero, damage_in, is_sealed, log_in}
use Rattle.statetext.specs.Sealed.{AreLines, end_in, is_damaged_in, mark_of, sealed_text}
use Rattle.statetext.specs.Sealed.{writes_in}
use Rattle.std.specs.List.{concat}
use Rattle.segments.specs.Head.{Fits, IsWholeText, head_for, head_of, whole_text}
use Rattle.segments.specs.Starts.{BeginsNewer, FitsIn, IsBelow, IsFoundIn, IsHeadIn, IsNewest}
use Rattle.segments.specs.Starts.{number_in}
use Rattle.segments.specs.Written.{text_in}
use Rattle.segments.specs.declared.head.SegmentHead.{SegmentHead}
use Rattle.segments.specs.declared.start.FileFront.{FileFront}
use Rattle.segments.specs.declared.start.FileFront.TheVariants as fronts
use Rattle.segments.proofs.Fronts.{head_letter, not_shut, same_octets}
use Rattle.segments.proofs.HeadLemmas.{head_length, number_at, octets_at, rules_read}
use Rattle.segments.proofs.HeadLemmas.{same_head, sum_at, whole_behind}
use Rattle.segments.proofs.Sealed.{concat_more, next_seal, next_text}
use Rattle.statetext.proofs.Sealing.{eight_bytes, four_bytes}
use Rattle.statetext.proofs.Torn.{IsReadAs, begins_with_row, none_passed_over, read_as}

-- A first line gives its numbers

number_logged : (a b : ℕ) → a < 2 ^ 64 → b < 2 ^ 64
    → encode_lower (to_be_bytes w64 a) ≡ encode_lower (to_be_bytes w64 b) → a ≡ b
number_logged a b fits fits' e =
    let read : Ok (to_be_bytes w64 a) ≡ Ok (to_be_bytes w64 b) =
    sym (decode_sized-encode_lower (to_be_bytes w64 a) 8 refl (eight_bytes a))
    ∙ ap (λ (t : List ℕ). decode_sized t 8) e
    ∙ decode_sized-encode_lower (to_be_bytes w64 b) 8 refl (eight_bytes b) in
    let octets : to_be_bytes w64 a ≡ to_be_bytes w64 b = cc in
    sym (from_be_bytes-to_be_bytes_8 a fits) ∙ ap (from_be_bytes w64) octets
    ∙ from_be_bytes-to_be_bytes_8 b fits'

sum_logged : (a b : ℕ) → a < 2 ^ 32 → b < 2 ^ 32
    → encode_lower (to_be_bytes w32 a) ≡ encode_lower (to_be_bytes w32 b) → a ≡ b
sum_logged a b fits fits' e =
    let read : Ok (to_be_bytes w32 a) ≡ Ok (to_be_bytes w32 b) =
    sym (decode_sized-encode_lower (to_be_bytes w32 a) 4 refl (four_bytes a))
    ∙ ap (λ (t : List ℕ). decode_sized t 4) e
    ∙ decode_sized-encode_lower (to_be_bytes w32 b) 4 refl (four_bytes b) in
    let octets : to_be_bytes w32 a ≡ to_be_bytes w32 b = cc in
    sym (from_be_bytes-to_be_bytes_4 a fits) ∙ ap (from_be_bytes w32) octets
    ∙ from_be_bytes-to_be_bytes_4 b fits'

same_line : (a b : SegmentHead) → Fits a → Fits b → head_of a ≡ head_of b → a ≡ b
same_line a b fits fits' e =
    let number : a.number ≡ b.number = number_logged a.number b.number fits.number fits'.number
    (sym (number_at a) ∙ ap (λ (l : List ℕ). take 16 (drop 33 l)) e ∙ number_at b) in
    let octets : a.octets ≡ b.octets = number_logged a.octets b.octets fits.octets fits'.octets
    (sym (octets_at a) ∙ ap (λ (l : List ℕ). take 16 (drop 57 l)) e ∙ octets_at b) in
    let sum : a.sum ≡ b.sum = sum_logged a.sum b.sum fits.sum fits'.sum
    (sym (sum_at a) ∙ ap (λ (l : List ℕ). take 8 (drop 78 l)) e ∙ sum_at b) in
    same_head a.number a.octets a.sum a.is_sealed b (ap (λ (n : ℕ). Some n) number)
    (ap (λ (n : ℕ). Some n) octets) (ap (λ (n : ℕ). Some n) sum)
    (sym (rules_read a) ∙ ap (λ (l : List ℕ). slice_index l 23 == 50) e ∙ rules_read b)

-- A file has one segment

empty : (l : List ℕ) → length l ≡ 0 → l ≡ []
empty [] is = refl
empty (x ∷ l) is = absurd (omega arith)

pub same_first : (file : List ℕ) (a b : SegmentHead) → Fits a → Fits b → Holds file 0 (head_of a)
    → Holds file 0 (head_of b) → a ≡ b
same_first file a b fits fits' one other =
    same_line a b fits fits' (same_octets file 0 (head_of a) (head_of b) one other
    (head_length a ∙ sym (head_length b)))

same_text : (file : List ℕ) (a b : SegmentHead) (one other : List ℕ) → a ≡ b → IsFoundIn file a one
    → IsFoundIn file b other → one ≡ other
same_text file a b one other same found found' =
    let long : length one ≡ length other =
    found.octets ∙ ap (λ (h : SegmentHead). h.octets) same ∙ sym found'.octets in
    elim (cases_lt 0 (length one)) [
      | inl some ↦ same_octets file 87 one other (found.behind some)
          (found'.behind (omega (arith, some, long))) long
      | inr none ↦ empty one (omega (arith, none)) ∙ sym (empty other (omega (arith, none, long)))
    ]

-- a file has no two segments
pub one_segment : (file : List ℕ) (a b : SegmentHead) (one other : List ℕ) → Fits a → Fits b
    → IsFoundIn file a one → IsFoundIn file b other → one ≡ other
one_segment file a b one other fits fits' found found' =
    same_text file a b one other (same_first file a b fits fits' found.first found'.first) found
    found'

that : (file : List ℕ) (number : ℕ) (body newest : List ℕ) (head : SegmentHead) (text : List ℕ)
    → Fits (head_for number body) → Fits head → newest ≡ file
    → IsFoundIn file (head_for number body) body → IsFoundIn newest head text
    → IsThatOf file number body newest head text
that file number body newest head text fits fits' same mine found =
    let here : IsFoundIn file head text =
    subst (λ (l : List ℕ). IsFoundIn l head text) same found in
    let first : head ≡ head_for number body =
    same_first file head (head_for number body) fits' fits here.first mine.first in
    record {
      same = same;
      first = first;
      checkpoint = same_text file head (head_for number body) text body first here mine;
    }

-- What stands in the text of a segment

whole_is : (number : ℕ) (body lines : List ℕ) → whole_text number body ++ lines
    ≡ head_of (head_for number body) ++ (body ++ lines)
unfolding whole_text
whole_is number body lines = append_assoc (head_of (head_for number body)) body lines

pub whole_length : (number : ℕ) (body : List ℕ) → length (whole_text number body) ≡ 87 + length body
unfolding whole_text
whole_length number body = length-append (head_of (head_for number body)) body
    ∙ ap (λ (n : ℕ). n + length body) (head_length (head_for number body))

-- a file that begins as this text does has that segment
module _ (c : List ℕ) (number : ℕ) (body lines : List ℕ) (n : ℕ)
    (begins : (i : ℕ) → i < 87 + length body + n →
    slice_index c i ≡ slice_index (whole_text number body ++ lines) i)
    (long : 87 + length body ≤ length c) where
  at_octet : (i : ℕ) → i < 87 + length body + n →
      slice_index c i ≡ slice_index (head_of (head_for number body) ++ (body ++ lines)) i
  at_octet i lt = begins i lt ∙ ap (λ (l : List ℕ). slice_index l i) (whole_is number body lines)

  behind_first : (j : ℕ) → j < length body + n →
      slice_index c (87 + j) ≡ slice_index (body ++ lines) j
  behind_first j lt =
      let back : 87 + j - 87 ≡ j = omega arith in
      let above : 87 ≤ 87 + j = omega arith in
      at_octet (87 + j) (omega (arith, lt))
      ∙ get_or-append_right (head_of (head_for number body)) (body ++ lines) 87 (87 + j) 0
      (head_length (head_for number body)) above
      ∙ ap (λ (k : ℕ). slice_index (body ++ lines) k) back

  line_octet : (j : ℕ) → j < n →
      slice_index (drop (87 + length body) c) j ≡ slice_index lines j
  line_octet j lt =
      let place : 87 + length body + j ≡ 87 + (length body + j) = omega arith in
      let back : length body + j - length body ≡ j = omega arith in
      let above : length body ≤ length body + j = omega arith in
      get_or-drop (87 + length body) c j 0
      ∙ ap (λ (k : ℕ). slice_index c k) place
      ∙ behind_first (length body + j) (omega (arith, lt))
      ∙ get_or-append_right body lines (length body) (length body + j) 0 refl above
      ∙ ap (λ (k : ℕ). slice_index lines k) back

  found_so : IsFoundIn c (head_for number body) body
  found_so = record {
    first = record {
      within = omega (arith, long, head_length (head_for number body));
      each = λ i lt.
          let low : i < 87 + length body + n =
          omega (arith, lt, head_length (head_for number body)) in
          ap (λ (k : ℕ). slice_index c k) (zero-add i) ∙ at_octet i low
          ∙ get_or_append_left (head_of (head_for number body)) (body ++ lines) 0 i lt;
    };
    octets = refl;
    sum = refl;
    behind = λ some. record {
      within = long;
      each = λ j lt.
          let low : j < length body + n = omega (arith, lt) in
          behind_first j low ∙ get_or_append_left body lines 0 j lt;
    };
  }

-- What a start reads behind the checkpoint

begins_list : (text front : List ℕ) → length front ≤ length text
    → ((j : ℕ) → j < length front → slice_index text j ≡ slice_index front j)
    → text ≡ front ++ drop (length front) text
begins_list text front long same =
    sym (take-append-drop (length front) text)
    ∙ ap (λ (l : List ℕ). l ++ drop (length front) text)
    (ext_get_or 0 (take (length front) text) front (length-take-le (length front) text long)
    (λ j lt. each j (omega (arith, lt, length-take-le (length front) text long))))
  where
    each : (j : ℕ) → j < length front → get_or (take (length front) text) j 0 ≡ get_or front j 0
    each j lt = get_or-take (length front) text j 0 lt ∙ same j lt

pub head_front : (file : List ℕ) (head : SegmentHead) → Holds file 0 (head_of head)
    → take 87 file ≡ head_of head
head_front file head holds =
    ext_get_or 0 (take 87 file) (head_of head) (long ∙ sym (head_length head))
    (λ i lt. each i (omega (arith, lt, long)))
  where
    long : length (take 87 file) ≡ 87
    long = length-take-le 87 file (omega (arith, holds.within, head_length head))

    each : (i : ℕ) → i < 87 → get_or (take 87 file) i 0 ≡ get_or (head_of head) i 0
    each i lt = get_or-take 87 file i 0 lt ∙ ap (λ (k : ℕ). get_or file k 0) (sym (zero-add i))
        ∙ holds.each i (omega (arith, lt, head_length head))

pub sealed_so : (file : List ℕ) (head : SegmentHead) → Holds file 0 (head_of head)
    → is_sealed file ≡ head.is_sealed
sealed_so file head holds =
    ap (λ (n : ℕ). n == 50) (holds.each 23 (omega (arith, head_length head))) ∙ rules_read head

module _ (at : ℕ) (file : List ℕ) (head : SegmentHead) (holds : Holds file 0 (head_of head)) where
  line : take 87 file ≡ head_of head
  line = head_front file head holds

  pub lines_sealed : head.is_sealed ≡ true
      → log_in at file ≡ concat (writes_in (head_of head) (drop at file))
  unfolding log_in
  lines_sealed sealed =
      ap (λ (b : Bool). if b then concat (writes_in (take 87 file) (drop at file))
      else before_zero (drop at file)) (sealed_so file head holds ∙ sealed)
      ∙ ap (λ (l : List ℕ). concat (writes_in l (drop at file))) line

  pub lines_older : head.is_sealed ≡ false → log_in at file ≡ before_zero (drop at file)
  unfolding log_in
  lines_older older =
      ap (λ (b : Bool). if b then concat (writes_in (take 87 file) (drop at file))
      else before_zero (drop at file)) (sealed_so file head holds ∙ older)

  pub damage_sealed : head.is_sealed ≡ true
      → damage_in at file ≡ (if is_damaged_in (head_of head) (drop at file)
      || not (is_room (length file - at))
      then Some (at + end_in (head_of head) (drop at file)) else None)
  unfolding damage_in
  damage_sealed sealed =
      ap (λ (b : Bool). if b && (is_damaged_in (take 87 file) (drop at file)
      || not (is_room (length file - at)))
      then Some (at + end_in (take 87 file) (drop at file)) else None)
      (sealed_so file head holds ∙ sealed)
      ∙ ap (λ (l : List ℕ). if is_damaged_in l (drop at file)
      || not (is_room (length file - at)) then Some (at + end_in l (drop at file)) else None)
      line

  pub damage_older : head.is_sealed ≡ false → damage_in at file ≡ None
  unfolding damage_in
  damage_older older =
      ap (λ (b : Bool). if b && (is_damaged_in (take 87 file) (drop at file)
      || not (is_room (length file - at)))
      then Some (at + end_in (take 87 file) (drop at file)) else None)
      (sealed_so file head holds ∙ older)

-- What a crash leaves of a segment

module _ (outcomes : List ℕ → Type 0) (number : ℕ) (body : List ℕ) (writes : List (List ℕ))
    (c : List ℕ) (s : Survives outcomes number body writes) (is : outcomes c) where
  abbrev own : SegmentHead
  own = head_for number body

  abbrev sealed : List ℕ
  sealed = sealed_text (head_of own) writes

  abbrev room : List ℕ
  room = drop (87 + length body) c

  log_length : length (log_text number body writes) ≡ 87 + length body + length sealed
  log_length = length-append (whole_text number body) sealed
      ∙ ap (λ (n : ℕ). n + length sealed) (whole_length number body)

  left_begins : (i : ℕ) → i < 87 + length body + length sealed →
      slice_index c i ≡ slice_index (log_text number body writes) i
  left_begins i lt = s.kept c is i (omega (arith, lt, log_length))

  left_long : 87 + length body ≤ length c
  left_long = omega (arith, s.long c is, s.room, log_length)

  pub whole_left : IsFoundIn c own body
  whole_left = found_so c number body sealed (length sealed) left_begins left_long

  tail : List ℕ
  tail = drop (length sealed) room

  room_is : room ≡ sealed ++ drop (length sealed) room
  room_is = begins_list room sealed
      (omega (arith, length-drop (87 + length body) c, s.long c is, s.room, log_length))
      (line_octet c number body sealed (length sealed) left_begins left_long)

  pub synced_left : (more : List ℕ) × (lines_behind body c ≡ concat writes ++ more)
  synced_left =
      let (more, says) = begins_with_row (head_of own) writes (drop (length sealed) room) s.are in (
        more,
        lines_sealed (87 + length body) c own whole_left.first refl
            ∙ ap (λ (l : List ℕ). concat (writes_in (head_of own) l)) room_is ∙ says,
      )

  module _ (late : List ℕ) (plain : AreLines late)
      (none : HasNoOther outcomes (log_text number body (writes ++ late ∷ []))) where
    left_of : (i : ℕ) → slice_index (drop (length sealed) room) i ≢ 0
        → slice_index (drop (length sealed) room) i
        ≡ slice_index (late ++ next_seal number body writes late) i
    left_of i some =
        let place : length sealed + i + (87 + length body)
        ≡ length (log_text number body writes) + i = omega (arith, log_length) in
        let there : slice_index (drop (length sealed) room) i
        ≡ slice_index c (length (log_text number body writes) + i) =
        get_or-drop (length sealed) room i 0
        ∙ get_or-drop (87 + length body) c (length sealed + i) 0
        ∙ ap (λ (k : ℕ). slice_index c k) (let e : 87 + length body + (length sealed + i)
        ≡ length (log_text number body writes) + i = omega (arith, log_length) in e) in
        there
        ∙ none c is (length (log_text number body writes) + i) (λ zero. some (there ∙ zero))
        ∙ ap (λ (l : List ℕ). slice_index l (length (log_text number body writes) + i))
        (next_text number body writes late
        ∙ append_assoc (log_text number body writes) late (next_seal number body writes late))
        ∙ get_or-append-add (log_text number body writes)
        (late ++ next_seal number body writes late) i 0

    read : IsReadAs (head_of own) (sealed ++ drop (length sealed) room) writes
        ⊎ IsReadAs (head_of own) (sealed ++ drop (length sealed) room) (writes ++ late ∷ [])
    read = read_as (head_of own) writes (drop (length sealed) room) late s.are plain left_of

    lines_so : (ws : List (List ℕ))
        → IsReadAs (head_of own) (sealed ++ drop (length sealed) room) ws
        → lines_behind body c ≡ concat ws
    lines_so ws said =
        lines_sealed (87 + length body) c own whole_left.first refl
        ∙ ap (λ (l : List ℕ). concat (writes_in (head_of own) l)) room_is ∙ ap concat said.read

    pub nothing_else_left : (lines_behind body c ≡ concat writes)
        ⊎ (lines_behind body c ≡ concat writes ++ late)
    nothing_else_left = elim read [
      | inl torn ↦ inl (lines_so writes torn)
      | inr whole ↦ inr (lines_so (writes ++ late ∷ []) whole ∙ concat_more writes late)
    ]

    sound : is_damaged_in (head_of own) room ≡ false
    sound = ap (is_damaged_in (head_of own)) room_is ∙ (elim read [
      | inl torn ↦ torn.sound
      | inr whole ↦ whole.sound
    ])

    pub undamaged_left : damage_behind body c ≡ None
    undamaged_left =
        damage_sealed (87 + length body) c own whole_left.first refl
        ∙ ap (λ (b : Bool). if b || not (is_room (length c - (87 + length body)))
        then Some (87 + length body + end_in (head_of own) room) else None) sound
        ∙ ap (λ (b : Bool). if not b
        then Some (87 + length body + end_in (head_of own) room) else None)
        (ap (λ (n : ℕ). is_room (n - (87 + length body))) (s.long c is) ∙ s.blocks)

-- Two files

pub newest_left : (mine others : List ℕ → Type 0) (number : ℕ) (body : List ℕ)
    (writes : List (List ℕ)) (c d newest other : List ℕ) (head : SegmentHead) (text : List ℕ)
    → Survives mine number body writes → AreOlder others number → mine c → others d
    → AreBoth c d newest other → IsNewest newest other → Fits head
    → IsFoundIn newest head text → IsThatOf c number body newest head text
newest_left mine others number body writes c d newest other head text s older is is'
    (inl both)
    wins fits found = that c number body newest head text s.fits fits both.0
    (whole_left mine number body writes c s is) found
newest_left mine others number body writes c d newest other head text s older is is'
    (inr both)
    wins fits found =
    let whole = whole_left mine number body writes c s is in
    let least : number ≤ head.number = wins head (head_for number body) text body fits s.fits found
    (subst (λ (l : List ℕ). IsFoundIn l (head_for number body) body) (sym both.1) whole) in
    let below : head.number < number = older d is' head text fits
    (subst (λ (l : List ℕ). IsFoundIn l head text) both.0 found) in
    absurd (omega (arith, least, below))

-- The other file

pub survived_older : (outcomes : List ℕ → Type 0) (number next : ℕ) (body : List ℕ)
    (writes : List (List ℕ)) → Survives outcomes number body writes → number < next
    → AreOlder outcomes next
survived_older outcomes number next body writes s less c is head text fits found =
    let whole = whole_left outcomes number body writes c s is in
    let same = same_first c head (head_for number body) fits s.fits found.first whole.first in
    let number_is : head.number ≡ number = ap (λ (h : SegmentHead). h.number) same in
    omega (arith, number_is, less)

pub shut_older : (outcomes : List ℕ → Type 0) (number : ℕ) → IsShut outcomes
    → AreOlder outcomes number
shut_older outcomes number shut c is head text fits found =
    absurd (not_shut c head found.first (inr (shut c is)))

pub unshut_older : (old new : List ℕ → Type 0) (number : ℕ) → AreShutOr new old
    → AreOlder old number → AreOlder new number
unshut_older old new number kept older c is head text fits found = elim (kept c is) [
  | inl shut ↦ absurd (not_shut c head found.first shut.0)
  | inr was ↦ older c was head text fits found
]

-- a file that begins with the text of a segment has that one
pub found_front : (file : List ℕ) (number : ℕ) (body : List ℕ)
    → take (length (whole_text number body)) file ≡ whole_text number body
    → IsFoundIn file (head_for number body) body
found_front file number body front = found_so file number body [] 0 begins long
  where
    begins : (i : ℕ) → i < 87 + length body + 0 →
        slice_index file i ≡ slice_index (whole_text number body ++ []) i
    begins i lt =
        let low : i < length (whole_text number body) =
        omega (arith, lt, whole_length number body) in
        sym (get_or-take (length (whole_text number body)) file i 0 low)
        ∙ ap (λ (l : List ℕ). slice_index l i) (front ∙ sym (append-nil (whole_text number body)))

    long : 87 + length body ≤ length file
    long = omega (
      arith,
      whole_length number body,
      ap (λ (l : List ℕ). length l) front,
      length-take (length (whole_text number body)) file,
    )

pub finished_whole : (outcomes : List ℕ → Type 0) (number : ℕ) (body c : List ℕ)
    (head : SegmentHead)
    (text : List ℕ) → Fits (head_for number body) → Fits head
    → IsTextIfOpen outcomes (whole_text number body) → outcomes c → IsFoundIn c head text
    → IsThatOf c number body c head text
finished_whole outcomes number body c head text fits fits' only is found =
    that c number body c head text fits fits' refl
    (found_front c number body (only c is (head_letter c head found.first)).0) found

-- A segment that is begun, and the other file

front_is : (number end : ℕ) (seen body : List ℕ) → text_in end seen [] ≡ whole_text number body
    → take end seen ≡ whole_text number body
front_is number end seen body text = sym (append-nil (take end seen)) ∙ text

pub body_is : (number end : ℕ) (seen body : List ℕ) → text_in end seen [] ≡ whole_text number body
    → drop 87 (take end seen) ≡ body
body_is number end seen body text =
    ap (drop 87) (front_is number end seen body text) ∙ whole_behind number body

pub whole_front : (number end : ℕ) (seen body : List ℕ) → text_in end seen []
    ≡ whole_text number body → take end seen ≡ whole_text number (drop 87 (take end seen))
whole_front number end seen body text =
    front_is number end seen body text
    ∙ ap (whole_text number) (sym (body_is number end seen body text))

pub summed_front : (number end sum remainder : ℕ) (seen body : List ℕ) → text_in end seen []
    ≡ whole_text number body → sum < 2 ^ 32 → sum ≡ bit_xor remainder 0xffffffff
    → remainder ≡ remainder_after 0xffffffff body → sum_of (drop 87 (take end seen)) < 2 ^ 32
summed_front number end sum remainder seen body text few value summed =
    subst (λ (n : ℕ). n < 2 ^ 32) (value ∙ ap (λ (r : ℕ). bit_xor r 0xffffffff) summed
    ∙ ap sum_of (sym (body_is number end seen body text))) few

-- What is left when the last octet couldn't be written, or may not have been

whole_or_shut : (outcomes : List ℕ → Type 0) (number : ℕ) (body : List ℕ) (size : ℕ)
    → Fits (head_for number body) → is_room (size - (87 + length body)) ≡ true
    → AreShutOr outcomes (IsTextTo size (whole_text number body))
    → AreShutOr outcomes (HasWhole number body)
whole_or_shut outcomes number body size fits blocks kept c left = elim (kept c left) [
  | inl shut ↦ inl (
    shut.0,
    λ blank. let (before, text, none) = shut.1 blank in (before, whole before text, none),
  )
  | inr text ↦ inr (whole c text)
]
  where
    whole : (d : List ℕ) → IsTextTo size (whole_text number body) d → HasWhole number body d
    whole d text = record {
      fits = fits;
      text = text.0;
      blocks = ap (λ (n : ℕ). is_room (n - (87 + length body))) text.1 ∙ blocks;
    }

pub few_or_shut : (outcomes : List ℕ → Type 0) (number octets sum remainder : ℕ) (body : List ℕ)
    (size : ℕ)
    → number < 2 ^ 64 → length body ≤ octets → sum < 2 ^ 32 → sum ≡ bit_xor remainder 0xffffffff
    → remainder ≡ remainder_after 0xffffffff body → IsShut outcomes ⊎ (octets < 2 ^ 64)
    → is_room (size - (87 + length body)) ≡ true
    → AreShutOr outcomes (IsTextTo size (whole_text number body))
    → AreShutOr outcomes (HasWhole number body)
few_or_shut outcomes number octets sum remainder body size few long small value summed (inl shut)
    blocks kept c left = inl (inr (shut c left), λ blank. absurd (blank.1 (shut c left)))
few_or_shut outcomes number octets sum remainder body size few long small value summed (inr less)
    blocks kept c left =
    whole_or_shut outcomes number body size (record {
      number = few;
      octets = omega (arith, long, less);
      sum = subst (λ (n : ℕ). n < 2 ^ 32)
          (value ∙ ap (λ (r : ℕ). bit_xor r 0xffffffff) summed) small;
    }) blocks kept c left

pub whole_begun : (number end : ℕ) (seen : List ℕ) → number < 2 ^ 64 → end < 2 ^ 64
    → end ≤ length seen → sum_of (drop 87 (take end seen)) < 2 ^ 32
    → take end seen ≡ whole_text number (drop 87 (take end seen))
    → IsWholeText number (take end seen)
whole_begun number end seen few few' within summed is = record {
  fits = record {
    number = few;
    octets = omega (
      arith,
      few',
      length-take-le end seen within,
      length-drop 87 (take end seen),
    );
    sum = summed;
  };
  is = is;
}

-- whatever a crash leaves of a segment's file has that segment
pub stands : (outcomes : List ℕ → Type 0) (number durable size : ℕ) (body : List ℕ)
    (writes : List (List ℕ)) → Fits (head_for number body)
    → durable ≡ length (log_text number body writes) → durable ≤ size → HasLength outcomes size
    → BeginsWith outcomes durable (log_text number body writes) → StandsIn outcomes number
stands outcomes number durable size body writes fits safe room long kept c is =
    let sealed : List ℕ = sealed_text (head_of (head_for number body)) writes in
    let count : length (log_text number body writes) ≡ 87 + length body + length sealed =
    length-append (whole_text number body) sealed
    ∙ ap (λ (n : ℕ). n + length sealed) (whole_length number body) in (
      body,
      fits,
      found_so c number body sealed (length sealed)
          (λ i lt. kept c is i (omega (arith, lt, count, safe)))
          (omega (arith, long c is, room, safe, count)),
    )

pub backs_other : (outcomes : List ℕ → Type 0) (other : List ℕ) (number : ℕ) (front : FileFront)
    → StandsIn outcomes number → IsHeadIn other front → number_in front ≤ number
    → StaysBacked outcomes other
backs_other outcomes other number front whole behind order c is head text fits found =
    let here : number_in front ≡ head.number =
    ap number_in (behind.heads head fits found.first) in
    let (body, fits', found') = whole c is in
    record {
      head = head_for number body;
      text = body;
      fits = fits';
      found = found';
      order = omega (arith, here, order);
    }

pub below_front : (file : List ℕ) (front : FileFront) (number : ℕ) → IsHeadIn file front
    → number_in front < number → IsBelow number file
below_front file front number begins lt head text fits found =
    omega (arith, lt, ap number_in (begins.heads head fits found.first))

pub newer_front : (file : List ℕ) (front : FileFront) (number : ℕ) → IsHeadIn file front
    → FitsIn front → number < number_in front → BeginsNewer number file
newer_front file fronts.Shut number begins fits lt = absurd (omega (arith, lt))
newer_front file fronts.Blank number begins fits lt = absurd (omega (arith, lt))
newer_front file (fronts.Head head) number begins fits lt = (head, fits, begins.begins, lt)
newer_front file fronts.Other number begins fits lt = absurd (omega (arith, lt))

-- What is read of a log bears its seals

pub none_passed : (begins place : ℕ) (file before behind : List ℕ) → begins ≤ length file
    → length file < 2 ^ 64 → is_sealed file ≡ true → damage_in begins file ≡ None → place < 2 ^ 64
    → drop (end_in (take 87 file) (drop begins file)) (drop begins file)
    ≡ before ++ mark_of place ++ behind
    → place ≡ end_in (take 87 file) (drop begins file)
unfolding damage_in
none_passed begins place file before behind within few sealed undamaged few' stands =
    none_passed_over (take 87 file) (drop begins file) before behind place
    (omega (arith, few, length-drop begins file)) few'
    (stands ∙ append_assoc before (mark_of place) behind)
    (by (is_sealed file) (is_damaged_in (take 87 file) (drop begins file))
    (not (is_room (length file - begins))) sealed undamaged)
  where
    by : (a b e : Bool) → a ≡ true
        → (if a && (b || e) then Some (begins + end_in (take 87 file) (drop begins file)) else None)
        ≡ None
        → b ≡ false
    by true true e is none = absurd (cc)
    by true false e is none = refl
    by false b e is none = absurd (cc)

pub lines_stand : (begins : ℕ) (file : List ℕ) → is_sealed file ≡ true
    → log_in begins file ≡ concat (writes_in (take 87 file) (drop begins file))
unfolding log_in
lines_stand begins file sealed =
    ap (λ (b : Bool). if b then concat (writes_in (take 87 file) (drop begins file))
    else before_zero (drop begins file)) sealed
