-- How a file begins.
use Rattle.std.proofs.Common.{◌≡◌, ◌∙◌, Bool, inl, inr, ℕ, ◌+◌, ◌<◌, ◌≤◌, List, [], ◌∷◌, length}
use Rattle.std.proofs.Common.{drop, take, max, min, slice_index, IfOk, IfNone, IfSome, Option, Some}
use Rattle.std.proofs.Common.{None, Result}
use Rattle.std.proofs.Common.{Ok, Err, true, false, refl, ap, sym, subst, arith}
use Rattle.std.proofs.lemmas.Bool.{cases_lt, leb-false, lt-leb}
use Rattle.std.proofs.lemmas.List.{ext_get_or, get_or-drop, get_or-take, length-drop}
use Rattle.std.proofs.lemmas.List.{length-take-le}
use Rattle.sqlite_disk.specs.Disk.{Holds}
use Rattle.statetext.specs.Sum.{sum_of}
use Rattle.segments.specs.Head.{Fits, head_of}
use Rattle.std.specs.Option.{is_some}
use Rattle.std.specs.Prelude.{not, ◌&&◌, if◌then◌else◌}
use Rattle.segments.specs.Starts.{ArePlaced, BeginsSo, FitsIn, HasNoNewer, HasNone, IsAbove}
use Rattle.segments.specs.Starts.{IsBacked, IsBackedBy, IsFirst, IsFoundIn, IsWholeIn}
use Rattle.segments.specs.Starts.{IsHeadIn, IsNewest, IsNext, IsShut, IsSound, is_shut}
use Rattle.segments.specs.Starts.{may_have_newer, number_in, other_side}
use Rattle.segments.specs.declared.head.SegmentHead.{SegmentHead}
use Rattle.segments.specs.declared.start.FileFront.{FileFront}
use Rattle.segments.specs.declared.start.FileFront.TheVariants as fronts
use Rattle.segments.specs.declared.start.Side.{Side}
use Rattle.segments.specs.declared.start.Side.TheVariants as sides
use Rattle.segments.proofs.HeadLemmas.{head_first, head_length}

-- what stands at one place is one thing
pub same_octets : (file : List ℕ) (at : ℕ) (a b : List ℕ) → Holds file at a → Holds file at b
    → length a ≡ length b
    → a ≡ b
same_octets file at a b one other long =
    ext_get_or 0 a b long (λ i lt. sym (one.each i lt) ∙ other.each i (omega (arith, lt, long)))

-- a first line has 87 octets, the first of which is a letter
pub head_within : (file : List ℕ) (head : SegmentHead) → Holds file 0 (head_of head)
    → 87 ≤ length file
head_within file head holds = omega (arith, holds.within, head_length head)

pub head_letter : (file : List ℕ) (head : SegmentHead) → Holds file 0 (head_of head)
    → slice_index file 0
    ≡ 116
head_letter file head holds = holds.each 0 (omega (arith, head_length head)) ∙ head_first head

pub not_shut : (file : List ℕ) (head : SegmentHead) → Holds file 0 (head_of head) → IsShut file → ⊥
not_shut file head holds (inl short) = omega (arith, short, head_within file head holds)
not_shut file head holds (inr is) = let no : 45 ≡ 116 = sym is ∙ head_letter file head holds in
    absurd (omega (arith, no))

none_first : (file : List ℕ) → length file ≡ 0 → slice_index file 0 ≡ 45 → ⊥
none_first [] none is = let no : 0 ≡ 45 = is in absurd (omega (arith, no))
none_first (x ∷ l) none is = absurd (omega (arith, none))

short_blank : (file : List ℕ) → length file < 2 → (slice_index file 0 ≡ 45 → ⊥)
    → IsHeadIn file fronts.Blank
short_blank file short some = record {
  begins = (short, some);
  heads = λ head fits holds. absurd (omega (arith, short, head_within file head holds));
}

pub empty_blank : (file : List ℕ) → length file ≡ 0 → IsHeadIn file fronts.Blank
empty_blank file none = short_blank file (omega (arith, none)) (none_first file none)

pub blank_short : (file first : List ℕ) → Holds file 0 first → 0 < length first
    → (slice_index first 0 ≡ 45 → ⊥) → length file < 2 → IsHeadIn file fronts.Blank
blank_short file first held one some short =
    short_blank file short (λ mark. some (sym (held.each 0 (omega (arith, one))) ∙ mark))

pub shut_by_mark : (file first : List ℕ) → Holds file 0 first → 0 < length first
    → slice_index first 0 ≡ 45
    → IsHeadIn file fronts.Shut
shut_by_mark file first held one mark =
    let is : slice_index file 0 ≡ 45 = held.each 0 (omega (arith, one)) ∙ mark in record {
      begins = is;
      heads = λ head fits holds. absurd (not_shut file head holds (inr is));
    }

-- a file that isn't shut
open_file : (file first : List ℕ) → Holds file 0 first → 0 < length first
    → (slice_index first 0 ≡ 45 → ⊥)
    → 2 ≤ length file → IsShut file → ⊥
open_file file first held one some long (inl short) = omega (arith, short, long)
open_file file first held one some long (inr mark) = some (sym (held.each 0 (omega (arith, one)))
    ∙ mark)

pub other_short : (file first : List ℕ) → Holds file 0 first → 0 < length first
    → (slice_index first 0 ≡ 45 → ⊥)
    → 2 ≤ length file → length file < 87 → IsHeadIn file fronts.Other
other_short file first held one some long short = record {
  begins = open_file file first held one some long;
  heads = λ head fits holds. absurd (omega (arith, short, head_within file head holds));
}

line_of : (file row : List ℕ) (head : SegmentHead) → Holds file 0 row → length row ≡ 87
    → Holds file 0 (head_of head)
    → row ≡ head_of head
line_of file row head held long holds = same_octets file 0 row (head_of head) held holds (long
    ∙ sym (head_length head))

pub other_line : (file first row : List ℕ) → Holds file 0 first → 0 < length first
    → (slice_index first 0 ≡ 45 → ⊥)
    → 2 ≤ length file → Holds file 0 row → length row ≡ 87
    → ((head : SegmentHead) → Fits head → row ≡ head_of head → None ≡ Some head)
    → IsHeadIn file fronts.Other
other_line file first row held one some long line count none = record {
  begins = open_file file first held one some long;
  heads = λ head fits holds. let no = none head fits (line_of file row head line count holds) in
      absurd (cc);
}

pub head_line : (file row : List ℕ) (h : SegmentHead) → Holds file 0 row → length row ≡ 87
    → row ≡ head_of h
    → ((head : SegmentHead) → Fits head → row ≡ head_of head → Some h ≡ Some head)
    → IsHeadIn file (fronts.Head h)
head_line file row h line count is all = record {
  begins = subst (λ (l : List ℕ). Holds file 0 l) is line;
  heads = λ head fits holds. let one = all head fits (line_of file row head line count holds) in
      let same : h ≡ head = cc in ap fronts.Head same;
}

-- A segment that is whole

pub found_within : (file : List ℕ) (head : SegmentHead) (text : List ℕ) → IsFoundIn file head text
    → 87 + head.octets ≤ length file
found_within file head text found = elim (cases_lt 0 (length text)) [
  | inl some ↦ omega (arith, found.octets, (found.behind some).within)
  | inr none ↦ omega (arith, found.octets, head_within file head found.first)
]

-- what was read behind the first line is its text
pub found_sum : (file : List ℕ) (head : SegmentHead) (text read : List ℕ) → length read
    ≡ head.octets
    → (0 < length read → Holds file 87 read) → IsFoundIn file head text → sum_of read ≡ head.sum
found_sum file head text read long holds found = elim (cases_lt 0 (length text)) [
  | inl some ↦
      ap sum_of (same_octets file 87 read text (holds (omega (arith, some, found.octets, long)))
      (found.behind some)
      (long ∙ sym found.octets)) ∙ found.sum
  | inr none ↦ ap sum_of (empty read (omega (arith, none, found.octets, long))
      ∙ sym (empty text (omega (arith, none)))) ∙ found.sum
]
  where
    empty : (l : List ℕ) → length l ≡ 0 → l ≡ []
    empty [] is = refl
    empty (x ∷ l) is = absurd (omega arith)

-- A number above that of a first line
pub above_front : (file : List ℕ) (front : FileFront) (number : ℕ) → IsHeadIn file front
    → min (number_in front + 1) 18446744073709551615 ≤ number → IsAbove number file
above_front file front number begins le head fits holds =
    let e : number_in front ≡ head.number = ap number_in (begins.heads head fits holds) in
    omega (arith, le, e)

-- The number behind that of a first line, or the first one
pub next_front : (file other : List ℕ) (front : FileFront) (number : ℕ) → IsHeadIn file front
    → FitsIn front → number ≡ max 2 (min (number_in front + 1) 18446744073709551615)
    → IsNext number file other
next_front file other fronts.Shut number begins fits is = inl (omega (arith, is))
next_front file other fronts.Blank number begins fits is = inl (omega (arith, is))
next_front file other (fronts.Head head) number begins fits is = elim (cases_lt head.number 1) [
  | inl none ↦ inl (omega (arith, is, none))
  | inr some ↦ inr (inl (head, fits, begins.begins, omega (arith, is, some)))
]
next_front file other fronts.Other number begins fits is = inl (omega (arith, is))

pub next_other : (number : ℕ) (newest other : List ℕ) → IsNext number newest other
    → IsNext number other newest
next_other number newest other (inl first) = inl first
next_other number newest other (inr (inl behind)) = inr (inr behind)
next_other number newest other (inr (inr behind)) = inr (inl behind)

-- Two files

pub first_newest : (newer older : List ℕ) (front other : FileFront) → IsHeadIn newer front
    → IsHeadIn older other
    → number_in other ≤ number_in front → IsNewest newer older
first_newest newer older front other begins behind order own head text others fits fits' found
    found' =
    let a : number_in front ≡ own.number = ap number_in (begins.heads own fits found.first) in
    let b : number_in other ≡ head.number = ap number_in (behind.heads head fits' found'.first) in
    omega (arith, order, a, b)

pub second_newest : (newest other : List ℕ) → HasNone other → IsNewest newest other
second_newest newest other none own head text others fits fits' found found' =
    absurd (none head others fits' found')

pub shut_front : (file : List ℕ) (front : FileFront) → IsHeadIn file front → IsShut file
    → is_shut front
    ≡ true
shut_front file fronts.Shut begins shut = refl
shut_front file fronts.Blank begins shut = refl
shut_front file (fronts.Head head) begins shut = absurd (not_shut file head begins.begins shut)
shut_front file fronts.Other begins shut = absurd (begins.begins shut)

-- a file with a mark is shut by it
by_mark : (file : List ℕ) (front : FileFront) → IsHeadIn file front → slice_index file 0 ≡ 45
    → front ≡ fronts.Shut
by_mark file fronts.Shut begins mark = refl
by_mark file fronts.Blank begins mark = absurd (begins.begins.1 mark)
by_mark file (fronts.Head head) begins mark =
    absurd (not_shut file head begins.begins (inr mark))
by_mark file fronts.Other begins mark = absurd (begins.begins (inr mark))

pub not_sound : (file : List ℕ) (front : FileFront) → IsHeadIn file front
    → (front ≡ fronts.Shut → ⊥) → HasNone file → IsSound file → ⊥
not_sound file front begins isnt none (inl mark) = isnt (by_mark file front begins mark)
not_sound file front begins isnt none (inr found) =
    none found.0 found.1 found.2 found.3

pub whole_sound : (file : List ℕ) (front : FileFront) → FitsIn front → IsWholeIn file front
    → IsSound file
whole_sound file front fits whole =
    inr (whole.0, whole.1, subst FitsIn whole.2 fits, whole.3)

pub by_shut : (file : List ℕ) (front : FileFront) → IsHeadIn file front → is_shut front ≡ true
    → IsShut file
by_shut file fronts.Shut begins is = inr begins.begins
by_shut file fronts.Blank begins is = inl begins.begins.0
by_shut file (fronts.Head head) begins is = absurd (cc)
by_shut file fronts.Other begins is = absurd (cc)

pub are_doubtful : (newest other : List ℕ) (front behind : FileFront) → IsHeadIn other front
    → IsHeadIn newest behind → IsShut newest → IsShut other
    → not (is_shut front && is_shut behind) ≡ false
are_doubtful newest other front behind begins begins' shut shut' =
    ap (λ (a : Bool). not (a && is_shut behind)) (shut_front other front begins shut')
    ∙ ap not (shut_front newest behind begins' shut)

pub of_none : {A P : Type 0} (o : Option A) → o ≡ None → IfNone o P → P
of_none None is p = p
of_none (Some x) is p = absurd (cc)

pub of_missing : {A P : Type 0} (o : Option A) → is_some o ≡ false → IfNone o P → P
of_missing None is p = p
of_missing (Some x) is p = absurd (cc)

-- what two promises of an answer give
pub of_both : {T E : Type 0} {P Q R : T → Type 0} (r : Result T E) → IfOk r P → IfOk r Q
    → ((x : T) → P x → Q x → R x) → IfOk r R
of_both (Ok x) p q all = all x p q
of_both (Err e) p q all = tt

pub of_three : {T E : Type 0} {P Q S R : T → Type 0} (r : Result T E) → IfOk r P → IfOk r Q
    → IfOk r S
    → ((x : T) → P x → Q x → S x → R x) → IfOk r R
of_three (Ok x) p q s all = all x p q s
of_three (Err e) p q s all = tt

pub of_four : {T E : Type 0} {P Q S U R : T → Type 0} (r : Result T E) → IfOk r P → IfOk r Q
    → IfOk r S
    → IfOk r U → ((x : T) → P x → Q x → S x → U x → R x) → IfOk r R
of_four (Ok x) p q s u all = all x p q s u
of_four (Err e) p q s u all = tt

-- Where the files stand

pub placed_as : (side now : Side) (log db a b newest other : List ℕ) → now ≡ side → newest ≡ a
    → other ≡ b
    → ArePlaced side log db a b → ArePlaced now log db newest other
placed_as side now log db a b newest other is first second h =
    subst (λ (s : Side). ArePlaced s log db newest other) (sym is)
    (subst (λ (l : List ℕ). ArePlaced side log db l other) (sym first)
    (subst (λ (l : List ℕ). ArePlaced side log db a l) (sym second) h))

pub placed_other : (side : Side) (log db a b : List ℕ) → ArePlaced side log db a b
    → ArePlaced (other_side side) log db b a
placed_other sides.Log log db a b h = (h.1, h.0)
placed_other sides.Db log db a b h = (h.1, h.0)

-- No segment as new stood in the other file

pub sure_beside : (newest other : List ℕ) (front behind : FileFront) (own : SegmentHead)
    → IsHeadIn newest front → IsHeadIn other behind → front ≡ fronts.Head own → FitsIn front
    → FitsIn behind → may_have_newer own.number behind ≡ false → HasNoNewer newest other
sure_beside newest other front fronts.Shut own begins behind is fits fits' sure =
    inl (inr behind.begins, λ blank. absurd (blank.1 behind.begins))
sure_beside newest other front fronts.Blank own begins behind is fits fits' sure =
    let mine : Holds newest 0 (head_of own) =
    subst (λ (f : FileFront). BeginsSo newest f) is begins.begins in
    let own_fits : Fits own = subst FitsIn is fits in
    let low : own.number < 2 = leb-false 2 own.number sure in
    inl (inl behind.begins.0, λ blank. (own, own_fits, mine, omega (arith, low)))
sure_beside newest other front (fronts.Head head) own begins behind is fits fits' sure =
    let mine : Holds newest 0 (head_of own) =
    subst (λ (f : FileFront). BeginsSo newest f) is begins.begins in
    let own_fits : Fits own = subst FitsIn is fits in
    inr (own, head, own_fits, fits', mine, behind.begins, leb-false own.number head.number sure)
sure_beside newest other front fronts.Other own begins behind is fits fits' sure = absurd (cc)

pub only_beside : (newest other : List ℕ) (front behind : FileFront) (own : SegmentHead)
    → IsHeadIn newest front → IsHeadIn other behind → front ≡ fronts.Head own
    → HasNoNewer newest other → may_have_newer own.number behind ≡ false
only_beside newest other front fronts.Shut own begins behind is older = refl
only_beside newest other front fronts.Blank own begins behind is (inl shut) =
    let first : IsFirst newest = shut.1 behind.begins in
    let a : number_in front ≡ first.0.number =
    ap number_in (begins.heads first.0 first.1 first.2) in
    let c : number_in front ≡ own.number = ap number_in is in
    lt-leb 2 own.number (omega (arith, first.3, a, c))
only_beside newest other front fronts.Blank own begins behind is (inr older) =
    let no = behind.heads older.1 older.3 older.5 in absurd (cc)
only_beside newest other front (fronts.Head head) own begins behind is (inl shut) =
    absurd (not_shut other head behind.begins shut.0)
only_beside newest other front (fronts.Head head) own begins behind is (inr older) =
    let a : number_in front ≡ older.0.number =
    ap number_in (begins.heads older.0 older.2 older.4) in
    let b : head.number ≡ older.1.number =
    ap number_in (behind.heads older.1 older.3 older.5) in
    let c : number_in front ≡ own.number = ap number_in is in
    lt-leb own.number head.number (omega (arith, older.6, a, b, c))
only_beside newest other front fronts.Other own begins behind is (inl shut) =
    absurd (behind.begins shut.0)
only_beside newest other front fronts.Other own begins behind is (inr older) =
    let no = behind.heads older.1 older.3 older.5 in absurd (cc)

pub of_some : {A : Type 0} (P : A → Type 0) (o : Option A) (x : A) → o ≡ Some x → IfSome o P → P x
of_some P None x is h = absurd (cc)
of_some P (Some y) x is h = let same : y ≡ x = cc in subst P same h

pub if_some_map : {A : Type 0} {P Q : A → Type 0} (o : Option A) → IfSome o P
    → ((x : A) → P x → Q x) → IfSome o Q
if_some_map None p all = tt
if_some_map (Some x) p all = all x p

-- Which file may be written over

pub backed_first : (newer older : List ℕ) (front other : FileFront) (own : SegmentHead)
    (text : List ℕ)
    → IsHeadIn older other → number_in other ≤ number_in front → front ≡ fronts.Head own
    → FitsIn front
    → IsFoundIn newer own text → IsBacked newer older
backed_first newer older front other own text behind order is fits found head others fits' found' =
    let mine : number_in front ≡ own.number = ap number_in is in
    let here : number_in other ≡ head.number =
    ap number_in (behind.heads head fits' found'.first) in
    record {
      head = own;
      text = text;
      fits = subst FitsIn is fits;
      found = found;
      order = omega (arith, order, mine, here);
    }

pub backed_none : (newest spare : List ℕ) → HasNone spare → IsBacked newest spare
backed_none newest spare none head text fits found = absurd (none head text fits found)

pub backed_by_log : (whole : Bool) (side : Side) (log db : List ℕ) (first second : FileFront)
    → side ≡ (if whole then sides.Log else sides.Db)
    → IsHeadIn db second → number_in second ≤ number_in first → FitsIn first
    → (whole ≡ true → IsWholeIn log first) → (whole ≡ false → HasNone log)
    → IsBackedBy side log db
backed_by_log true side log db first second is behind order fits some none =
    let found = some refl in
    subst (λ (s : Side). IsBackedBy s log db) (sym is)
    (backed_first log db first second found.0 found.1 behind order found.2 fits found.3)
backed_by_log false side log db first second is behind order fits some none =
    subst (λ (s : Side). IsBackedBy s log db) (sym is) (backed_none db log (none refl))

pub backed_by_db : (whole : Bool) (side : Side) (log db : List ℕ) (first second : FileFront)
    → side ≡ (if whole then sides.Db else sides.Log)
    → IsHeadIn log first → number_in first ≤ number_in second → FitsIn second
    → (whole ≡ true → IsWholeIn db second) → (whole ≡ false → HasNone db)
    → IsBackedBy side log db
backed_by_db true side log db first second is behind order fits some none =
    let found = some refl in
    subst (λ (s : Side). IsBackedBy s log db) (sym is)
    (backed_first db log second first found.0 found.1 behind order found.2 fits found.3)
backed_by_db false side log db first second is behind order fits some none =
    subst (λ (s : Side). IsBackedBy s log db) (sym is) (backed_none log db (none refl))

-- A segment that is whole by its sum

-- what stands behind the first line
pub behind_first : (file : List ℕ) (octets : ℕ) → 87 + octets ≤ length file
    → Holds file 87 (take octets (drop 87 file))
behind_first file octets within = record {
  within = omega (arith, within, count);
  each = λ i lt. sym (get_or-take octets (drop 87 file) i 0 (omega (arith, lt, count))
      ∙ get_or-drop 87 file i 0);
}
  where
    count : length (take octets (drop 87 file)) ≡ octets
    count = length-take-le octets (drop 87 file) (omega (arith, within, length-drop 87 file))

-- A file begins so, and this is the sum of the octets behind the first line.
pub record IsSummed (file : List ℕ) (front : FileFront) (head : SegmentHead) (octets sum : ℕ) : Type
    0 where
  pub is : front ≡ fronts.Head head
  pub begins : IsHeadIn file front
  pub count : octets ≡ head.octets
  pub within : 87 + octets ≤ length file
  pub sum_is : sum ≡ sum_of (take octets (drop 87 file))

pub summed_from : (old between new : List ℕ) (front : FileFront) (head : SegmentHead) (o : Option ℕ)
    (octets sum : ℕ) → between ≡ old → new ≡ between → front ≡ fronts.Head head
    → IsHeadIn old front → o ≡ Some octets → IfSome o (λ n. n ≡ head.octets)
    → IfSome o (λ n. 87 + n ≤ length between) → sum ≡ sum_of (take octets (drop 87 new))
    → IsSummed new front head octets sum
summed_from old between new front head o octets sum same same' is begins some count within sum_is =
    record {
      is = is;
      begins = subst (λ (file : List ℕ). IsHeadIn file front) (sym (same' ∙ same)) begins;
      count = of_some (λ (n : ℕ). n ≡ head.octets) o octets some count;
      within = subst (λ (file : List ℕ). 87 + octets ≤ length file) (sym same')
          (of_some (λ (n : ℕ). 87 + n ≤ length between) o octets some within);
      sum_is = sum_is;
    }

pub whole_by_sum : (file : List ℕ) (front : FileFront) (head : SegmentHead) (octets sum : ℕ)
    → IsSummed file front head octets sum → sum ≡ head.sum → IsWholeIn file front
whole_by_sum file front head octets sum s same = (
  head,
  take octets (drop 87 file),
  s.is,
  record {
    first = (subst (BeginsSo file) s.is s.begins.begins);
    octets = length-take-le octets (drop 87 file)
        (omega (arith, s.within, length-drop 87 file)) ∙ s.count;
    sum = sym s.sum_is ∙ same;
    behind = λ some. behind_first file octets s.within;
  },
)

pub none_by_sum : (file : List ℕ) (front : FileFront) (own : SegmentHead) (octets sum : ℕ)
    → IsSummed file front own octets sum → (sum ≡ own.sum → ⊥) → HasNone file
none_by_sum file front own octets sum s differ head text fits found =
    let heads : fronts.Head head ≡ fronts.Head own =
    sym (s.begins.heads head fits found.first) ∙ s.is in
    let same : head ≡ own = cc in
    differ (s.sum_is ∙ found_sum file own text (take octets (drop 87 file))
    (length-take-le octets (drop 87 file) (omega (arith, s.within, length-drop 87 file)) ∙ s.count)
    (λ some. behind_first file octets s.within)
    (subst (λ (h : SegmentHead). IsFoundIn file h text) same found))
