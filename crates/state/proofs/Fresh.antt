-- A log that was begun and has no events yet.
use Rattle.std.proofs.Common.{◌≡◌, ◌∙◌, inl, inr, ℕ, ◌<◌, ◌≤◌, List, [], ◌∷◌, ◌++◌}
use Rattle.std.proofs.Common.{length, slice_index, refl, sym, ap, subst, arith}
use Rattle.std.specs.Prelude.{◌⊎◌}
use Rattle.std.proofs.lemmas.Bool.{cases_lt}
use Rattle.std.proofs.lemmas.List.{append-nil, get_or_append_left, get_or-take, length-take}
use Rattle.segments.specs.Crash.{HasNoOther}
use Rattle.segments.specs.Crashes.{HasWhole, Survives, lines_behind}
use Rattle.segments.specs.Crashes.{log_text}
use Rattle.segments.specs.Head.{head_for, head_of, whole_text}
use Rattle.segments.proofs.Crashes.{nothing_else_left, undamaged_left, whole_left}
use Rattle.statetext.specs.Sealed.{AreLines, AreWrites, seal_of}
use Rattle.statetext.specs.Text.{lines_in}
use Rattle.state.specs.Logs.{HasFreshLog}

no_lines : AreLines []
no_lines i lt = absurd (omega (arith, lt))

either_way : (text : List ℕ) → (text ≡ []) ⊎ (text ≡ []) → text ≡ []
either_way text (inl none) = none
either_way text (inr none) = none

-- whatever a crash leaves of its file
pub fresh_left : (outcomes : List ℕ → Type 0) (number : ℕ) (body settings : List ℕ)
    (lines : List (List ℕ)) (file : List ℕ) → lines_in body ≡ settings ∷ lines
    → Survives outcomes number body [] → HasNoOther outcomes (log_text number body ([] ∷ []))
    → outcomes file → HasFreshLog number settings lines file
fresh_left outcomes number body settings lines file says s none is = record {
  body = body;
  fits = s.fits;
  found = whole_left outcomes number body [] file s is;
  empty = either_way (lines_behind body file)
      (nothing_else_left outcomes number body [] file s is [] no_lines none);
  sound = undamaged_left outcomes number body [] file s is [] no_lines none;
  says = says;
}

-- what is left if its last octet couldn't be written

module _ (number : ℕ) (body file : List ℕ) (has : HasWhole number body file) where
  begins : (i : ℕ) → i < length (whole_text number body)
      → slice_index file i ≡ slice_index (whole_text number body) i
  begins i lt =
      sym (get_or-take (length (whole_text number body)) file i 0 lt)
      ∙ ap (λ (l : List ℕ). slice_index l i) has.text.0

  bare : log_text number body [] ≡ whole_text number body
  bare = append-nil (whole_text number body)

  long : length (whole_text number body) ≤ length file
  long = omega (
    arith,
    length-take (length (whole_text number body)) file,
    ap (λ (l : List ℕ). length l) has.text.0,
  )

  survives : Survives (λ c. c ≡ file) number body []
  survives = record {
    fits = has.fits;
    are = tt;
    size = length file;
    long = λ c is. ap (λ (l : List ℕ). length l) is;
    blocks = has.blocks;
    room = omega (arith, long, ap (λ (l : List ℕ). length l) bare);
    kept = λ c is i lt.
        ap (λ (l : List ℕ). slice_index l i) is
        ∙ begins i (omega (arith, lt, ap (λ (l : List ℕ). length l) bare))
        ∙ ap (λ (l : List ℕ). slice_index l i) (sym bare);
  }

  mixed : HasNoOther (λ c. c ≡ file) (log_text number body ([] ∷ []))
  mixed c is i some = elim (cases_lt i (length (whole_text number body))) [
    | inl lt ↦ ap (λ (l : List ℕ). slice_index l i) is ∙ begins i lt
        ∙ sym (get_or_append_left (whole_text number body)
        (seal_of (head_of (head_for number body)) 0 [] ++ []) 0 i lt)
    | inr past ↦ absurd (some (ap (λ (l : List ℕ). slice_index l i) is ∙ has.text.1 i past))
  ]

  pub fresh_whole : (settings : List ℕ) (lines : List (List ℕ)) → lines_in body ≡ settings ∷ lines
      → HasFreshLog number settings lines file
  fresh_whole settings lines says =
      fresh_left (λ c. c ≡ file) number body settings lines file says survives mixed refl

-- what is left of one that stands whole

pub fresh_of : (outcomes : List ℕ → Type 0) (own number : ℕ) (body text settings : List ℕ)
    (lines writes : List (List ℕ)) (late file : List ℕ) → own ≡ number → body ≡ text
    → writes ≡ [] → late ≡ [] → lines_in text ≡ settings ∷ lines
    → (AreWrites writes → Survives outcomes own body writes)
    → HasNoOther outcomes (log_text own body (writes ++ late ∷ [])) → outcomes file
    → HasFreshLog number settings lines file
fresh_of outcomes own number body text settings lines writes late file is same no_writes no_late
    says survives mixed left =
    let s : Survives outcomes own body [] =
    subst (λ (ws : List (List ℕ)). Survives outcomes own body ws) no_writes
    (survives (subst AreWrites (sym no_writes) tt)) in
    let none : HasNoOther outcomes (log_text own body ([] ∷ [])) =
    subst (λ (l : List ℕ). HasNoOther outcomes (log_text own body ([] ++ l ∷ []))) no_late
    (subst (λ (ws : List (List ℕ)). HasNoOther outcomes (log_text own body (ws ++ late ∷ [])))
    no_writes mixed) in
    subst (λ (n : ℕ). HasFreshLog n settings lines file) is
    (fresh_left outcomes own body settings lines file (ap lines_in same ∙ says) s none left)
