-- What a segment holds as lines come, and as they are sealed.
use Rattle.std.proofs.Common.{◌≡◌, ◌∙◌, inl, inr, ℕ, ◌+◌, ◌-◌, ◌<◌, ◌≤◌, List, [], ◌∷◌, ◌++◌}
use Rattle.std.proofs.Common.{length, take, slice_index, refl, sym, ap, subst, arith}
use Rattle.std.proofs.Common.{append_assoc, length-append, ◌*◌, true}
use Rattle.std.proofs.Common.{Result, Ok, Err}
use Rattle.std.specs.Prelude.{IfOk}
use Rattle.segments.specs.Room.{is_room}
use Rattle.std.proofs.lemmas.Bool.{cases_lt}
use Rattle.std.proofs.lemmas.List.{append-nil, get_or_append_left, get_or-append-add, get_or_past}
use Rattle.std.proofs.lemmas.List.{length-take-le}
use Rattle.std.proofs.lemmas.List.Folds.{concat-append}
use Rattle.std.specs.List.{concat}
use Rattle.sqlite_disk.specs.Disk.{Only}
use Rattle.statetext.specs.Sealed.{seal_of, sealed_text}
use Rattle.statetext.proofs.Sealing.{seal_length, sealed_more}
use Rattle.segments.specs.Crash.{BeginsWith, HasAt, HasNoOther, IsBlankFrom}
use Rattle.segments.specs.Crashes.{log_text}
use Rattle.segments.specs.Head.{head_for, head_of, whole_text}
use Rattle.segments.specs.Segment.{seal_octets, with_write}
use Rattle.segments.specs.Written.{text_in}
use Rattle.segments.proofs.HeadLemmas.{head_length}
use Rattle.segments.proofs.CrashLemmas.{length_text, synced_begins, synced_no_other}

-- the seal of a write that comes behind others
abbrev pub next_seal : (number : ℕ) → (body : List ℕ) → (writes : List (List ℕ)) → (lines : List ℕ)
    → List ℕ
next_seal number body writes lines =
    seal_of (head_of (head_for number body))
    (length (sealed_text (head_of (head_for number body)) writes)) lines

pub next_text : (number : ℕ) (body : List ℕ) (writes : List (List ℕ)) (lines : List ℕ)
    → log_text number body (writes ++ lines ∷ [])
    ≡ log_text number body writes ++ lines ++ next_seal number body writes lines
next_text number body writes lines =
    let head : List ℕ = head_of (head_for number body) in
    let sealed : List ℕ = sealed_text head writes in
    let same : 0 + length sealed ≡ length sealed = omega arith in
    ap (λ (l : List ℕ). whole_text number body ++ l) (sealed_more head writes 0 lines
    ∙ ap (λ (n : ℕ). sealed ++ (lines ++ seal_of head n lines)) same)
    ∙ sym (append_assoc (whole_text number body) sealed
    (lines ++ next_seal number body writes lines))
    ∙ sym (append_assoc (whole_text number body ++ sealed) lines
    (next_seal number body writes lines))

pub next_length : (number : ℕ) (body : List ℕ) (writes : List (List ℕ)) (lines : List ℕ)
    → length (log_text number body (writes ++ lines ∷ []))
    ≡ length (log_text number body writes ++ lines) + 27
next_length number body writes lines =
    ap length (next_text number body writes lines)
    ∙ length-append (log_text number body writes ++ lines) (next_seal number body writes lines)
    ∙ ap (λ (n : ℕ). length (log_text number body writes ++ lines) + n)
    (seal_length (head_of (head_for number body))
    (length (sealed_text (head_of (head_for number body)) writes)) lines)

pub no_other_more : (outcomes : List ℕ → Type 0) (text more : List ℕ) → HasNoOther outcomes text
    → HasNoOther outcomes (text ++ more)
no_other_more outcomes text more none c left i some = elim (cases_lt i (length text)) [
  | inl lt ↦ none c left i some ∙ sym (get_or_append_left text more 0 i lt)
  | inr past ↦ absurd (some (none c left i some ∙ get_or_past text i 0 past))
]

-- what isn't sealed yet is a part of what will be
pub no_other_next : (outcomes : List ℕ → Type 0) (number : ℕ) (body : List ℕ)
    (writes : List (List ℕ)) (lines : List ℕ)
    → HasNoOther outcomes (log_text number body writes ++ lines)
    → HasNoOther outcomes (log_text number body (writes ++ lines ∷ []))
no_other_next outcomes number body writes lines none =
    subst (HasNoOther outcomes) (sym (next_text number body writes lines))
    (no_other_more outcomes (log_text number body writes ++ lines)
    (next_seal number body writes lines) none)

-- octets stand in a text where those before them end
has_end : (at : ℕ) (front octets : List ℕ) → length front ≡ at → HasAt at octets (front ++ octets)
has_end at front octets is i lt =
    ap (λ (n : ℕ). slice_index (front ++ octets) (n + i)) (sym is)
    ∙ get_or-append-add front octets i 0

pub has_page : (stored : ℕ) (seen page text : List ℕ) → stored ≤ length seen
    → text_in stored seen page ≡ text → HasAt stored page text
has_page stored seen page text within is i lt =
    ap (λ (l : List ℕ). slice_index l (stored + i)) (sym is)
    ∙ ap (λ (n : ℕ). slice_index (text_in stored seen page) (n + i))
    (sym (length-take-le stored seen within))
    ∙ get_or-append-add (take stored seen) page i 0

pub has_seal : (at number : ℕ) (body : List ℕ) (writes : List (List ℕ)) (lines seal : List ℕ)
    → length (log_text number body writes ++ lines) ≡ at
    → seal ≡ next_seal number body writes lines
    → HasAt at seal (log_text number body (writes ++ lines ∷ []))
has_seal at number body writes lines seal long is =
    subst (HasAt at seal) (ap (λ (l : List ℕ). log_text number body writes ++ lines ++ l) is
    ∙ sym (next_text number body writes lines))
    (has_end at (log_text number body writes ++ lines) seal long)

-- A file that is synced

pub settled_kept : (outcomes : List ℕ → Type 0) (seen page text : List ℕ) (stored : ℕ)
    → Only seen outcomes → stored ≤ length seen → page ≡ [] → text_in stored seen page ≡ text
    → BeginsWith outcomes stored text
settled_kept outcomes seen page text stored only within none is =
    subst (BeginsWith outcomes stored) (ap (text_in stored seen) (sym none) ∙ is)
    (synced_begins seen outcomes stored only within)

pub settled_left : (outcomes : List ℕ → Type 0) (seen page text : List ℕ) (stored : ℕ)
    → Only seen outcomes → stored ≤ length seen → IsBlankFrom stored seen → page ≡ []
    → text_in stored seen page ≡ text → HasNoOther outcomes (text ++ [])
settled_left outcomes seen page text stored only within blank none is =
    subst (HasNoOther outcomes)
    (ap (text_in stored seen) (sym none) ∙ is ∙ sym (append-nil text))
    (synced_no_other seen outcomes stored only within blank)

-- Where the lines behind the last seal begin

whole_count : (number : ℕ) (body : List ℕ) → length (whole_text number body) ≡ 87 + length body
unfolding whole_text
whole_count number body =
    length-append (head_of (head_for number body)) body
    ∙ ap (λ (n : ℕ). n + length body) (head_length (head_for number body))

log_count : (number : ℕ) (body : List ℕ) (writes : List (List ℕ))
    → length (log_text number body writes)
    ≡ 87 + length body + length (sealed_text (head_of (head_for number body)) writes)
log_count number body writes =
    length-append (whole_text number body) (sealed_text (head_of (head_for number body)) writes)
    ∙ ap (λ (n : ℕ). n + length (sealed_text (head_of (head_for number body)) writes))
    (whole_count number body)

pub log_begins : (begins durable number : ℕ) (body : List ℕ) (writes : List (List ℕ))
    → begins ≡ 87 + length body → durable ≡ length (log_text number body writes)
    → begins ≤ durable
log_begins begins durable number body writes begun safe =
    omega (arith, begun, safe, log_count number body writes)

pub sealed_place : (begins durable number : ℕ) (body : List ℕ) (writes : List (List ℕ))
    → begins ≡ 87 + length body → durable ≡ length (log_text number body writes)
    → durable - begins ≡ length (sealed_text (head_of (head_for number body)) writes)
sealed_place begins durable number body writes begun safe =
    omega (arith, begun, safe, log_count number body writes)

pub open_stored : (stored number : ℕ) (seen page body : List ℕ) (writes : List (List ℕ))
    (lines : List ℕ) → stored ≤ length seen → page ≡ []
    → text_in stored seen page ≡ log_text number body writes ++ lines
    → length (log_text number body writes ++ lines) ≡ stored
open_stored stored number seen page body writes lines within none text =
    omega (arith, sym (ap length text), length_text stored seen page within, ap length none)

pub open_length : (stored durable number : ℕ) (seen page body : List ℕ)
    (writes : List (List ℕ)) (lines : List ℕ) → stored ≤ length seen → page ≡ []
    → text_in stored seen page ≡ log_text number body writes ++ lines
    → durable ≡ length (log_text number body writes) → stored ≡ durable → length lines ≡ 0
open_length stored durable number seen page body writes lines within none text safe all =
    omega (
      arith,
      open_stored stored number seen page body writes lines within none text,
      length-append (log_text number body writes) lines,
      safe,
      all,
    )

-- behind a seal the text is that of one more write
pub sealed_text_is : (stored number : ℕ) (seen page seal body : List ℕ) (writes : List (List ℕ))
    (lines : List ℕ) → page ≡ [] → text_in stored seen page ≡ log_text number body writes ++ lines
    → seal ≡ next_seal number body writes lines
    → text_in stored seen seal ≡ log_text number body (writes ++ lines ∷ [])
sealed_text_is stored number seen page seal body writes lines none text is =
    ap (λ (l : List ℕ). l ++ seal) (sym (append-nil (take stored seen))
    ∙ ap (text_in stored seen) (sym none) ∙ text)
    ∙ ap (λ (l : List ℕ). log_text number body writes ++ lines ++ l) is
    ∙ sym (next_text number body writes lines)

-- Writes one behind another

pub concat_more : (writes : List (List ℕ)) (lines : List ℕ)
    → concat (writes ++ lines ∷ []) ≡ concat writes ++ lines
concat_more writes lines =
    concat-append writes (lines ∷ []) ∙ ap (λ (l : List ℕ). concat writes ++ l) (append-nil lines)

pub one_write : (writes : List (List ℕ)) (lines : List ℕ) → 0 < length lines
    → writes ++ lines ∷ [] ≡ with_write writes lines
one_write writes [] some = absurd (omega (arith, some))
one_write writes (c ∷ lines) some = refl

pub no_write : (writes : List (List ℕ)) (lines : List ℕ) → length lines ≡ 0
    → writes ≡ with_write writes lines
no_write writes [] none = refl
no_write writes (c ∷ lines) none = absurd (omega (arith, none))

pub one_seal : (lines : List ℕ) → 0 < length lines → 27 ≡ seal_octets lines
one_seal [] some = absurd (omega (arith, some))
one_seal (c ∷ lines) some = refl

pub no_seal : (lines : List ℕ) → length lines ≡ 0 → 0 ≡ seal_octets lines
no_seal [] none = refl
no_seal (c ∷ lines) none = absurd (omega (arith, none))

pub no_lines : (lines : List ℕ) → length lines ≡ 0 → lines ≡ []
no_lines [] none = refl
no_lines (c ∷ lines) none = absurd (omega (arith, none))

-- What is promised if a premise holds

pub if_ok_later : {T E C : Type 0} (r : Result T E) (P : T → Type 0) → (C → IfOk r P)
    → IfOk r (λ x. C → P x)
if_ok_later (Ok x) P h = h
if_ok_later (Err e) P h = tt

-- The room behind a checkpoint

pub blocks_so : (end size : ℕ) → size ≡ end + 976 * 4096 → is_room (size - end) ≡ true
blocks_so end size is = ap is_room (let e : size - end ≡ 976 * 4096 = omega (arith, is) in e)
