-- The end of a line of octets is found where its digits end.
use Rattle.std.proofs.Common.{◌≡◌, ◌≢◌, ℕ, ◌+◌, ◌<◌, ◌==◌, Bool, true, false, List, [], ◌∷◌, ◌++◌}
use Rattle.std.proofs.Common.{length, take, drop, get_or, None, refl, ap, sym, ◌∙◌, append_assoc}
use Rattle.std.proofs.Common.{length-append, arith}
use Rattle.std.specs.Prelude.{slice_index}
use Rattle.std.specs.List.{All, list_all}
use Rattle.std.proofs.Math.Seq.{get_or-append_seam}
use Rattle.std.proofs.lemmas.Bool.{eqb-true, false≢true}
use Rattle.std.proofs.lemmas.List.{drop_more, length-take-le, take_all, take-append-drop}
use Rattle.std.proofs.lemmas.List.Elements.{All-append, All-cons, All-nil}
use Rattle.std.proofs.lemmas.List.Sums.{AllPass-from_list_all}
use Rattle.std.proofs.lemmas.List.Splits.{slice_split_at, slice_split_none}
use Rattle.hex.specs.Hex.{is_hex_digit}
use Rattle.traces.specs.Fields.{octets_of}
use Rattle.traces.specs.FirstLines.{DigitsEnd, first_line, first_of}
use Rattle.traces.specs.Trace.{lines_of}
use Rattle.traces.proofs.FirstLineLemmas.{lines_behind}
use Rattle.traces.proofs.OctetLemmas.{other_octet}

-- a digit is no line feed
no_feed : (b : ℕ) → is_hex_digit b ≡ true → (b == 10) ≡ false
no_feed b digit = by (b == 10) refl
  where
    by : (is : Bool) → (b == 10) ≡ is → is ≡ false
    by false e = refl
    by true e = absurd (false≢true (ap is_hex_digit (sym (eqb-true b 10 e)) ∙ digit))

pub no_feeds : (digits : List ℕ) → list_all is_hex_digit digits ≡ true
    → All (λ b. (b == 10) ≡ false) digits
no_feeds digits all k d lt =
    no_feed (get_or digits k d) (AllPass-from_list_all is_hex_digit digits all k d lt)

-- digits that end the text are its last line
pub line_whole : (text : List ℕ) (i : ℕ) → DigitsEnd text i → i ≡ length text
    → (lines_of text ≡ text ∷ []) × (list_all is_hex_digit text ≡ true)
line_whole text i ends is =
    let all : list_all is_hex_digit text ≡ true =
    ap (list_all is_hex_digit) (sym (take_all i text (omega (arith, is)))) ∙ ends.digits in
    (slice_split_none (λ b. b == 10) text (no_feeds text all), all)

-- digits before a line feed are the first line
pub line_ended : (text : List ℕ) (i : ℕ) → DigitsEnd text i → i < length text → slice_index text i
    ≡ 10
    → lines_of text ≡ take i text ∷ lines_of (drop (i + 1) text)
line_ended text i ends lt feed =
    let whole : text ≡ take i text ++ 10 ∷ drop (i + 1) text =
    sym (take-append-drop i text)
    ∙ ap (λ t. take i text ++ t) (drop_more text i 0 lt ∙ ap (λ b. b ∷ drop (i + 1) text) feed) in
    ap lines_of whole
    ∙ slice_split_at (λ b. b == 10) (take i text) 10 (drop (i + 1) text)
    (no_feeds (take i text) ends.digits) refl

-- another octet behind the digits stands in the first line
pub line_other : (text : List ℕ) (i : ℕ) → DigitsEnd text i → i < length text → slice_index text i
    ≢ 10
    → octets_of (first_line text) ≡ None
line_other text i ends lt other =
    let b : ℕ = slice_index text i in
    let rest : List ℕ = drop (i + 1) text in
    let front : List ℕ = take i text ++ b ∷ [] in
    let whole : text ≡ front ++ rest =
    sym (take-append-drop i text) ∙ ap (λ t. take i text ++ t) (drop_more text i 0 lt)
    ∙ sym (append_assoc (take i text) (b ∷ []) rest) in
    let all : All (λ b. (b == 10) ≡ false) front =
    All-append (λ b. (b == 10) ≡ false) (take i text) (b ∷ []) (no_feeds (take i text) ends.digits)
    (All-cons (λ b. (b == 10) ≡ false) b [] (by b (b == 10) refl other)
    (All-nil (λ b. (b == 10) ≡ false))) in
    let line : first_line text ≡ front ++ first_line rest =
    ap first_of (ap lines_of whole ∙ lines_behind front rest all) in
    let len : length (take i text) ≡ i = length-take-le i text (omega (arith, lt)) in
    let same : slice_index (front ++ first_line rest) i ≡ b =
    ap (λ t. slice_index t i) (append_assoc (take i text) (b ∷ []) (first_line rest))
    ∙ ap (λ (j : ℕ). slice_index (take i text ++ b ∷ first_line rest) j) (sym len)
    ∙ get_or-append_seam (take i text) b (first_line rest) 0 in
    let long : i < length (front ++ first_line rest) = omega (
      arith,
      len,
      length-append front (first_line rest),
      length-append (take i text) (b ∷ []),
    ) in
    ap octets_of line ∙ other_octet (front ++ first_line rest) i long (ap is_hex_digit same
    ∙ ends.over lt)
  where
    by : (b : ℕ) → (is : Bool) → (b == 10) ≡ is → b ≢ 10 → is ≡ false
    by b false e other = refl
    by b true e other = absurd (other (eqb-true b 10 e))
