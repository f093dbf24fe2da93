-- What a segment holds after each write and sync, and what a crash may leave of it.
use Rattle.std.proofs.Common.{◌≡◌, inl, inr, ℕ, ◌+◌, ◌-◌, ◌<◌, ◌≤◌, Bool, IsTrue, List, [], ◌++◌}
use Rattle.std.proofs.Common.{length, get_or, take, drop, slice_index, refl, sym, ap, ◌∙◌, subst}
use Rattle.std.proofs.Common.{lit<, arith, ◌*◌}
use Rattle.std.proofs.lemmas.Bool.{cases_lt}
use Rattle.std.proofs.lemmas.List.{append-nil, ext_get_or, get_or-take, get_or_append_left}
use Rattle.std.proofs.lemmas.List.{get_or-append_right, length-take-le, length-append}
use Rattle.std.proofs.lemmas.List.{take-append-le, get_or-drop, length-drop, take_rest, drop-take}
use Rattle.std.proofs.lemmas.List.{take_all}
use Rattle.std.proofs.Math.Seq.{take-append-add}
use Rattle.sqlite_disk.specs.Disk.{Holds, Mixed, Torn, Follows, Only}
use Rattle.segments.specs.Crash.{HasLength, IsBlankFrom, IsShut, IsLong}
use Rattle.segments.specs.Crash.{HasText, IsTextIfOpen, IsTextTo, IsWholeIfOpen}
use Rattle.segments.specs.Crashes.{AreShutOr}
use Rattle.segments.specs.Written.{text_in}
use Rattle.segments.specs.Zeroed.{IsZeroed}
use Rattle.segments.proofs.CrashLemmas.{written_length}
use Rattle.segments.proofs.CrashLemmas.{behind_long, behind_shut}

-- What a segment holds after a write and after a sync

pub written_again : (stored end : ℕ) (seen seen' page held cleared : List ℕ) → held ≡ page
    → end ≡ stored + length held → cleared ≡ []
    → text_in (stored + length held) seen' [] ≡ text_in stored seen held → text_in end seen' cleared
    ≡ text_in stored seen page
written_again stored end seen seen' page held cleared e is none text =
    ap (λ (k : ℕ). text_in k seen' cleared) is ∙ ap (text_in (stored + length held) seen') none
    ∙ text ∙ ap (text_in stored seen) e

pub long_again : (old new : List ℕ → Type 0) (seen : List ℕ) (size : ℕ) → length seen ≡ size
    → HasLength old size
    → (HasLength old (length seen) → HasLength new (length seen)) → HasLength new size
long_again old new seen size sized long call =
    subst (HasLength new) sized (call (subst (HasLength old) (sym sized) long))

-- Zeros at the end

pub zeroed_more : (usable usable' : Bool) (seen seen' zeros old : List ℕ)
    (outcomes outcomes' : List ℕ → Type 0) (at i : ℕ)
    → IsZeroed usable seen outcomes at (at + i * 4096) old → length zeros ≡ 4096
    → IsBlankFrom 0 zeros → seen' ≡ seen ++ zeros
    → IsTrue usable' → IsLong outcomes' → IsShut outcomes'
    → IsZeroed usable' seen' outcomes' at (at + (i + 1) * 4096) old
zeroed_more usable usable' seen seen' zeros old outcomes outcomes' at i is count none e can long
    shut = record {
      can = can;
      sized = ap length e ∙ length-append seen zeros
          ∙ (let n : length seen + length zeros ≡ at + (i + 1) * 4096 =
          omega (arith, is.sized, count) in n);
      before = ap (λ (l : List ℕ). take at l ++ []) e
          ∙ ap (λ (l : List ℕ). l ++ []) (take-append-le at seen zeros (omega (arith, is.sized)))
          ∙ is.before;
      blank = λ k from. ap (λ (l : List ℕ). slice_index l k) e ∙ (elim (cases_lt k (length seen)) [
        | inl lt ↦ get_or_append_left seen zeros 0 k lt ∙ is.blank k from
        | inr ge ↦ get_or-append_right seen zeros (length seen) k 0 refl ge
            ∙ none (k - length seen) (omega arith)
      ]);
      long = long;
      shut = shut;
    }

-- The first line, its first octet last

pub record IsTail (head tail : List ℕ) : Type 0 where
  pub count : length tail ≡ 86
  pub each : (i : ℕ) → i < 86 → slice_index tail i ≡ slice_index head (i + 1)

pub tail_of : (head : List ℕ) → length head ≡ 87
    → IsTail head (take (length head - 1) (drop 1 head))
tail_of head count = record {
  count = ap length (take_rest head 1)
      ∙ (length-drop 1 head ∙ (let n : length head - 1 ≡ 86 = omega (arith, count) in n));
  each = λ i lt. ap (λ (l : List ℕ). slice_index l i) (take_rest head 1) ∙ get_or-drop 1 head i 0
      ∙ ap (λ (k : ℕ). slice_index head k) (let e : 1 + i ≡ i + 1 = omega arith in e);
}

pub gate_seen : (head tail seen0 seen1 seen2 : List ℕ) → length head ≡ 87 → slice_index head 0 ≡ 116
    → 87 ≤ length seen0
    → IsTail head tail → Torn 1 (length tail) seen0 seen1 → Holds seen1 1 tail
    → Torn 0 1 seen1 seen2 → slice_index seen2 0 ≡ 116
    → seen2 ≡ head ++ drop 87 seen0
gate_seen head tail seen0 seen1 seen2 count first within is torn holds gate opened =
    ext_get_or 0 seen2 (head ++ drop 87 seen0) (len2 ∙ len1 ∙ sym whole)
    (λ i lt. by i (omega (arith, lt, len2, len1)))
  where
    len1 : length seen1 ≡ length seen0
    len1 = written_length 1 (length tail) seen0 seen1 torn (omega (arith, is.count, within))

    len2 : length seen2 ≡ length seen1
    len2 = written_length 0 1 seen1 seen2 gate (omega (arith, len1, within))

    whole : length (head ++ drop 87 seen0) ≡ length seen0
    whole = length-append head (drop 87 seen0)
        ∙ (let n : length head + length (drop 87 seen0) ≡ length seen0
        = omega (arith, count, length-drop 87 seen0, within) in n)

    behind : (i : ℕ) → 1 ≤ i → i < length seen0 → get_or seen1 i 0
        ≡ get_or (head ++ drop 87 seen0) i 0
    behind i some lt = elim (cases_lt i 87) [
      | inl inside ↦
          ap (λ (k : ℕ). get_or seen1 k 0) (let e : i ≡ 1 + (i - 1) = omega (arith, some) in e)
          ∙ holds.each (i - 1) (omega (arith, is.count, inside, some))
          ∙ is.each (i - 1) (omega (arith, inside, some))
          ∙ ap (λ (k : ℕ). get_or head k 0) (let e : i - 1 + 1 ≡ i = omega (arith, some) in e)
          ∙ sym (get_or_append_left head (drop 87 seen0) 0 i (omega (arith, count, inside)))
      | inr outside ↦
          torn.above i lt (omega (arith, is.count, outside))
          ∙ ap (λ (k : ℕ). get_or seen0 k 0) (let e : i ≡ 87 + (i - 87) = omega (arith, outside) in
          e)
          ∙ sym (get_or-drop 87 seen0 (i - 87) 0)
          ∙ sym (get_or-append_right head (drop 87 seen0) 87 i 0 count outside)
    ]

    by : (i : ℕ) → i < length seen0 → get_or seen2 i 0 ≡ get_or (head ++ drop 87 seen0) i 0
    by i lt = elim (cases_lt i 1) [
      | inl zero ↦
          let e : i ≡ 0 = omega (arith, zero) in
          ap (λ (k : ℕ). get_or seen2 k 0) e ∙ opened ∙ sym first
          ∙ sym (get_or_append_left head (drop 87 seen0) 0 0 (omega (arith, count)))
          ∙ ap (λ (k : ℕ). get_or (head ++ drop 87 seen0) k 0) (sym e)
      | inr some ↦ gate.above i (omega (arith, len1, lt)) some ∙ behind i some lt
    ]

pub gate_whole : (head tail seen0 seen1 : List ℕ) (old new : List ℕ → Type 0) → length head ≡ 87
    → slice_index head 0 ≡ 116
    → 87 ≤ length seen0 → IsTail head tail → Torn 1 (length tail) seen0 seen1 → Holds seen1 1 tail
    → Only seen1 old
    → Follows (Torn 0 1) old new → IsWholeIfOpen new (head ++ drop 87 seen0)
gate_whole head tail seen0 seen1 old new count first within is torn holds only follows c left
    opened =
    let w = follows c left in
    gate_seen head tail seen0 seen1 c count first within is torn holds
    (subst (λ (d : List ℕ). Torn 0 1 d c) (only w.0 w.1) w.2) opened

pub one_octet : (head first : List ℕ) (old new : List ℕ → Type 0) → length first ≡ 1
    → Follows (Torn 0 (length first)) old new
    → Follows (Torn 0 1) old new
one_octet head first old new count follows = subst (λ (n : ℕ). Follows (Torn 0 n) old new) count
    follows

tail_some : (head : List ℕ) → length head ≡ 87 → 0 < length (take (length head - 1) (drop 1 head))
tail_some head count = omega (arith, (tail_of head count).count)

pub first_one : (head : List ℕ) → length head ≡ 87 → length (take 1 head) ≡ 1
first_one head count = length-take-le 1 head (omega (arith, count))

pub publish_crash : (head seen0 seen1 : List ℕ) (old new : List ℕ → Type 0) → length head ≡ 87
    → slice_index head 0 ≡ 116
    → 87 ≤ length seen0 → Torn 1 (length (take (length head - 1) (drop 1 head))) seen0 seen1
    → (0 < length (take (length head - 1) (drop 1 head))
    → Holds seen1 1 (take (length head - 1) (drop 1 head))) → Only seen1 old
    → Follows (Torn 0 (length (take 1 head))) old new → IsWholeIfOpen new (head ++ drop 87 seen0)
publish_crash head seen0 seen1 old new count first within torn holds only follows =
    gate_whole head (take (length head - 1) (drop 1 head)) seen0 seen1 old new count first within
    (tail_of head count) torn
    (holds (tail_some head count)) only (one_octet head (take 1 head) old new (first_one head count)
    follows)

-- a file that is synced behind a write that left its first octet
pub record IsStillShut (outcomes : List ℕ → Type 0) : Type 0 where
  pub long : IsLong outcomes
  pub shut : IsShut outcomes

pub still_shut : (at n : ℕ) (old between new : List ℕ → Type 0) → Follows (Torn at n) old between
    → ((c : List ℕ) → new c → between c) → 0 < at → IsLong old → IsShut old → IsStillShut new
still_shut at n old between new follows fewer later long shut = record {
  long = λ c is. behind_long at n old between follows long c (fewer c is);
  shut = λ c is. behind_shut at n old between follows later long shut c (fewer c is);
}

pub publish_mixed : (head text : List ℕ) (old new : List ℕ → Type 0) → length head ≡ 87
    → slice_index head 0 ≡ 116 → IsLong old → IsShut old → Follows (Mixed 0 (take 1 head)) old new
    → IsWholeIfOpen new text → AreShutOr new (λ c. c ≡ text)
publish_mixed head text old new count first long shut follows whole c is =
    let w = follows c is in
    elim (w.2.each 0 (omega (arith, first_one head count)) (long w.0 w.1)) [
      | inl kept ↦ let mark = kept ∙ shut w.0 w.1 in
          inl (inr mark, λ blank. absurd (blank.1 mark))
      | inr put ↦ inr (whole c is (put ∙ get_or-take 1 head 0 0 (lit< tt) ∙ first))
    ]

pub publish_seen : (head seen0 seen1 seen1' seen2 : List ℕ) → length head ≡ 87 → slice_index head 0
    ≡ 116
    → 87 ≤ length seen0 → Torn 1 (length (take (length head - 1) (drop 1 head))) seen0 seen1
    → (0 < length (take (length head - 1) (drop 1 head))
    → Holds seen1 1 (take (length head - 1) (drop 1 head))) → seen1' ≡ seen1
    → Torn 0 (length (take 1 head)) seen1' seen2
    → (0 < length (take 1 head) → Holds seen2 0 (take 1 head))
    → seen2 ≡ head ++ drop 87 seen0
publish_seen head seen0 seen1 seen1' seen2 count first within torn holds same gate put =
    gate_seen head (take (length head - 1) (drop 1 head)) seen0 seen1 seen2 count first within
    (tail_of head count) torn
    (holds (tail_some head count))
    (subst (λ (n : ℕ). Torn 0 n seen1 seen2) one
    (subst (λ (l : List ℕ). Torn 0 (length (take 1 head)) l seen2) same gate))
    ((put (omega (arith, one))).each 0 (omega (arith, one)) ∙ get_or-take 1 head 0 0 (lit< tt)
    ∙ first)
  where
    one : length (take 1 head) ≡ 1
    one = first_one head count

-- A segment that is finished

pub whole_text_is : (end : ℕ) (head seen : List ℕ) → length head ≡ 87 → 87 ≤ end → end ≤ length seen
    → text_in end (head ++ drop 87 seen) [] ≡ head ++ drop 87 (text_in end seen [])
whole_text_is end head seen count some within =
    append-nil (take end (head ++ drop 87 seen))
    ∙ ap (λ (n : ℕ). take n (head ++ drop 87 seen)) (let e : end ≡ length head + (end - 87) =
    omega (arith, count, some) in e)
    ∙ take-append-add head (drop 87 seen) (end - 87)
    ∙ ap (λ (l : List ℕ). head ++ l) (sym (drop-take 87 (end - 87) seen)
    ∙ ap (λ (n : ℕ). drop 87 (take n seen)) (let e : 87 + (end - 87) ≡ end = omega (arith, some) in
    e)
    ∙ ap (drop 87) (sym (append-nil (take end seen))))

pub whole_blank : (end : ℕ) (head seen : List ℕ) → length head ≡ 87 → 87 ≤ end
    → IsBlankFrom end seen
    → IsBlankFrom end (head ++ drop 87 seen)
whole_blank end head seen count some blank i from =
    get_or-append_right head (drop 87 seen) 87 i 0 count (omega (arith, some, from))
    ∙ get_or-drop 87 seen (i - 87) 0
    ∙ ap (λ (n : ℕ). get_or seen n 0) (let e : 87 + (i - 87) ≡ i = omega (arith, some, from) in e)
    ∙ blank i from

pub shut_text : (outcomes : List ℕ → Type 0) (text : List ℕ) → IsShut outcomes
    → IsTextIfOpen outcomes text
shut_text outcomes text shut c left opened =
    let never : 45 ≡ 116 = sym (shut c left) ∙ opened in absurd (omega (arith, never))

pub text_or_shut : (outcomes : List ℕ → Type 0) (size : ℕ) (seen text : List ℕ)
    → IsTextTo size text seen → AreShutOr outcomes (λ c. c ≡ seen)
    → AreShutOr outcomes (IsTextTo size text)
text_or_shut outcomes size seen text has kept c left = elim (kept c left) [
  | inl shut ↦ inl (
    shut.0,
    λ blank. let (before, is, none) = shut.1 blank in
        (before, subst (IsTextTo size text) (sym is) has, none),
  )
  | inr is ↦ inr (subst (IsTextTo size text) (sym is) has)
]

pub has_text : (end : ℕ) (head seen text : List ℕ) → length head ≡ 87 → 87 ≤ end
    → end ≤ length seen → IsBlankFrom end seen → head ++ drop 87 (text_in end seen []) ≡ text
    → HasText text (head ++ drop 87 seen)
has_text end head seen text count some within blank is = (
  ap (λ (n : ℕ). take n (head ++ drop 87 seen)) long
      ∙ sym (append-nil (take end (head ++ drop 87 seen)))
      ∙ whole_text_is end head seen count some within ∙ is,
  subst (λ (n : ℕ). IsBlankFrom n (head ++ drop 87 seen)) (sym long)
      (whole_blank end head seen count some blank),
)
  where
    long : length text ≡ end
    long =
        ap length (sym is ∙ sym (whole_text_is end head seen count some within)
        ∙ append-nil (take end (head ++ drop 87 seen)))
        ∙ length-take-le end (head ++ drop 87 seen)
        (omega (arith, length-append head (drop 87 seen), length-drop 87 seen, count, some, within))

pub whole_open : (outcomes : List ℕ → Type 0) (end : ℕ) (head seen text : List ℕ) → length head ≡ 87
    → 87 ≤ end → end ≤ length seen
    → IsBlankFrom end seen → head ++ drop 87 (text_in end seen []) ≡ text
    → IsWholeIfOpen outcomes (head ++ drop 87 seen)
    → IsTextIfOpen outcomes text
whole_open outcomes end head seen text count some within blank is whole c left opened =
    subst (HasText text) (sym (whole c left opened))
    (has_text end head seen text count some within blank is)

-- what was held and then written

pub flushed : (stored : ℕ) (seen seen' page : List ℕ) → length seen ≡ stored → seen' ≡ seen ++ page
    → text_in (stored + length page) seen' [] ≡ text_in stored seen page
flushed stored seen seen' page sized is =
    append-nil (take (stored + length page) seen') ∙ ap (take (stored + length page)) is
    ∙ take_all (stored + length page) (seen ++ page) (omega (arith, length-append seen page, sized))
    ∙ ap (λ (l : List ℕ). l ++ page) (sym (take_all stored seen (omega (arith, sized))))

pub none_held : (stored n : ℕ) (seen page : List ℕ) → page ≡ [] → n ≡ stored → text_in n seen []
    ≡ text_in stored seen page
none_held stored n seen page none same = ap (λ (k : ℕ). text_in k seen []) same
    ∙ ap (text_in stored seen) (sym none)
