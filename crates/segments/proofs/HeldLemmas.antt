-- Octets that a segment holds and has yet to write, and the sum of them.
use Rattle.std.proofs.Common.{◌≡◌, inl, inr, ℕ, ◌+◌, ◌-◌, ◌<◌, ◌≤◌, List, []}
use Rattle.std.proofs.Common.{◌∷◌, ◌++◌, length, get_or, take, drop, slice_index, refl, sym, ap}
use Rattle.std.proofs.Common.{◌∙◌, append_assoc, add-zero, subst, arith}
use Rattle.std.proofs.lemmas.Bool.{cases_lt}
use Rattle.std.proofs.lemmas.List.{drop-append-le, ext_get_or, get_or-take}
use Rattle.std.proofs.lemmas.List.{length-take-le, length-append, get_or_past, get_or-drop}
use Rattle.std.proofs.lemmas.List.{length-drop, get_or-replicate, length-replicate}
use Rattle.std.proofs.Math.Seq.{take-add}
use Rattle.std.proofs.Math.ListN.{drop_of_length-le}
use Rattle.sqlite_disk.specs.Disk.{Holds}
use Rattle.segments.specs.Crash.{IsBlankFrom, IsWholeIfOpen}
use Rattle.segments.specs.Written.{text_in}
use Rattle.statetext.specs.Sum.{divided, remainder_after}
use Rattle.std.specs.Prelude.{bit_xor, replicate}
use Rattle.segments.proofs.CrashLemmas.{length_text}
use Rattle.segments.proofs.SegmentLemmas.{whole_text_is, whole_blank}

-- Octets that are held behind others, and their sum

pub remainder_append : (r : ℕ) (xs ys : List ℕ) → remainder_after r (xs ++ ys)
    ≡ remainder_after (remainder_after r xs) ys
remainder_append r [] ys = refl
remainder_append r (x ∷ xs) ys = remainder_append (divided (divided (bit_xor r x))) xs ys

-- octets that were read at a place, which are added to the sum of those before them
pub read_piece : (at : ℕ) (file text : List ℕ) → Holds file (87 + at) text
    → text ≡ take (length text) (drop at (drop 87 file))
read_piece at file text holds =
    ext_get_or 0 text (take (length text) (drop at (drop 87 file)))
    (sym (length-take-le (length text) (drop at (drop 87 file)) (omega (
      arith,
      holds.within,
      length-drop 87 file,
      length-drop at (drop 87 file),
    ))))
    (λ i lt.
    let place : 87 + at + i ≡ 87 + (at + i) = omega arith in
    sym (holds.each i lt) ∙ ap (λ (k : ℕ). get_or file k 0) place
    ∙ sym (get_or-drop 87 file (at + i) 0) ∙ sym (get_or-drop at (drop 87 file) i 0)
    ∙ sym (get_or-take (length text) (drop at (drop 87 file)) i 0 lt))

pub summed_piece : (r r' at piece : ℕ) (file text held : List ℕ) → held ≡ text
    → length text ≡ piece → Holds file (87 + at) text
    → r ≡ remainder_after 0xffffffff (take at (drop 87 file)) → r' ≡ remainder_after r held
    → r' ≡ remainder_after 0xffffffff (take (at + piece) (drop 87 file))
summed_piece r r' at piece file text held e long holds summed more =
    let here : held ≡ take piece (drop at (drop 87 file)) =
    e ∙ read_piece at file text holds
    ∙ ap (λ (n : ℕ). take n (drop at (drop 87 file))) long in
    more ∙ ap (λ (n : ℕ). remainder_after n held) summed
    ∙ ap (remainder_after (remainder_after 0xffffffff (take at (drop 87 file)))) here
    ∙ sym (remainder_append 0xffffffff (take at (drop 87 file))
    (take piece (drop at (drop 87 file))))
    ∙ ap (remainder_after 0xffffffff) (sym (take-add at piece (drop 87 file)))

pub grouped : (a b c : List ℕ) → a ++ (b ++ c) ≡ (a ++ b) ++ c
grouped a b c = rw append_assoc refl

pub held_more : (stored : ℕ) (seen page page' octets : List ℕ) → length seen ≡ stored → 87 ≤ stored
    → page' ≡ page ++ octets
    → drop 87 (text_in stored seen page') ≡ drop 87 (text_in stored seen page) ++ octets
held_more stored seen page page' octets sized some is =
    ap (λ (l : List ℕ). drop 87 (take stored seen ++ l)) is
    ∙ ap (drop 87) (grouped (take stored seen) page octets)
    ∙ drop-append-le 87 (text_in stored seen page) octets
    (omega (arith, length_text stored seen page (omega (arith, sized)), some))

pub summed_more : (stored remainder remainder' init : ℕ) (seen page page' octets : List ℕ)
    → length seen ≡ stored → 87 ≤ stored
    → page' ≡ page ++ octets → remainder ≡ remainder_after init (drop 87 (text_in stored seen page))
    → remainder' ≡ remainder_after remainder octets → remainder'
    ≡ remainder_after init (drop 87 (text_in stored seen page'))
summed_more stored remainder remainder' init seen page page' octets sized some is summed more =
    more ∙ ap (λ (r : ℕ). remainder_after r octets) summed
    ∙ sym (remainder_append init (drop 87 (text_in stored seen page)) octets)
    ∙ ap (remainder_after init) (sym (held_more stored seen page page' octets sized some is))

pub body_length : (stored end : ℕ) (seen page : List ℕ) → length seen ≡ stored → 87 ≤ stored
    → end ≡ stored + length page
    → end - 87 ≡ length (drop 87 (text_in stored seen page))
body_length stored end seen page sized some is =
    omega (
      arith,
      length-drop 87 (text_in stored seen page),
      length_text stored seen page
          (omega (arith, sized)),
      is,
    )

pub published_length : (head seen seen' : List ℕ) (size end : ℕ) → length head ≡ 87 → 87 ≤ end
    → end ≤ size → length seen ≡ size
    → seen' ≡ head ++ drop 87 seen → length seen' ≡ size
published_length head seen seen' size end count some within sized is =
    ap length is ∙ (let n : length (head ++ drop 87 seen) ≡ size
    = omega (
      arith,
      length-append head (drop 87 seen),
      length-drop 87 seen,
      count,
      some,
      within,
      sized,
    ) in n)

pub published_text : (head seen seen' text : List ℕ) (size end : ℕ) → length head ≡ 87 → 87 ≤ end
    → end ≤ size → length seen ≡ size
    → seen' ≡ head ++ drop 87 seen → head ++ drop 87 (text_in end seen []) ≡ text
    → text_in end seen' [] ≡ text
published_text head seen seen' text size end count some within sized is whole =
    ap (λ (f : List ℕ). text_in end f []) is
    ∙ whole_text_is end head seen count some (omega (arith, within, sized)) ∙ whole

pub published_blank : (head seen seen' : List ℕ) (end : ℕ) → length head ≡ 87 → 87 ≤ end
    → IsBlankFrom end seen
    → seen' ≡ head ++ drop 87 seen → IsBlankFrom end seen'
published_blank head seen seen' end count some blank is =
    subst (IsBlankFrom end) (sym is) (whole_blank end head seen count some blank)

pub ended_length : (seen : List ℕ) (end : ℕ) → end ≤ length seen → length (text_in end seen [])
    ≡ end
ended_length seen end within = length_text end seen [] within ∙ add-zero end

pub at_deref : (head held seen : List ℕ) (outcomes : List ℕ → Type 0) → held ≡ head
    → IsWholeIfOpen outcomes (held ++ drop 87 seen)
    → IsWholeIfOpen outcomes (head ++ drop 87 seen)
at_deref head held seen outcomes is whole =
    subst (λ (h : List ℕ). IsWholeIfOpen outcomes (h ++ drop 87 seen)) is whole

-- More octets are held

pub held_text : (stored : ℕ) (seen page page' octets : List ℕ) → page' ≡ page ++ octets
    → text_in stored seen page' ≡ text_in stored seen page ++ octets
held_text stored seen page page' octets is = ap (λ (l : List ℕ). take stored seen ++ l) is
    ∙ grouped (take stored seen) page octets

pub nothing_held : (seen page : List ℕ) → length seen ≡ 87 → page ≡ []
    → drop 87 (text_in 87 seen page) ≡ []
nothing_held seen page sized none =
    ap (λ (l : List ℕ). drop 87 (text_in 87 seen l)) none
    ∙ drop_of_length-le (text_in 87 seen []) {i = 87}
    (omega (arith, length_text 87 seen [] (omega (arith, sized))))

pub nothing_summed : (init remainder : ℕ) (seen page : List ℕ) → length seen ≡ 87 → page ≡ []
    → remainder ≡ init
    → remainder ≡ remainder_after init (drop 87 (text_in 87 seen page))
nothing_summed init remainder seen page sized none is =
    is ∙ ap (remainder_after init) (sym (nothing_held seen page sized none))

pub zeros_blank : (held zeros : List ℕ) (n : ℕ) → held ≡ zeros → zeros ≡ replicate n 0
    → IsBlankFrom 0 held
zeros_blank held zeros n is zero i from =
    ap (λ (l : List ℕ). slice_index l i) (is ∙ zero) ∙ (elim (cases_lt i n) [
      | inl lt ↦ get_or-replicate n i 0 0 lt
      | inr past ↦
          get_or_past (replicate n 0) i 0 (omega (arith, length-replicate {A = ℕ} n 0, past))
    ])

pub zeros_here : (held zeros : List ℕ) → held ≡ zeros → IsBlankFrom 0 zeros → IsBlankFrom 0 held
zeros_here held zeros is blank = subst (IsBlankFrom 0) (sym is) blank

pub prepared_text : (stored end : ℕ) (seen seen' seen2 page : List ℕ) → text_in end seen' []
    ≡ text_in stored seen page → text_in end seen2 [] ≡ text_in end seen' []
    → (row whole : List ℕ) → row ++ drop 87 (text_in stored seen page) ≡ whole
    → row ++ drop 87 (text_in end seen2 []) ≡ whole
prepared_text stored end seen seen' seen2 page text same row whole e =
    ap (λ (l : List ℕ). row ++ drop 87 l) (same ∙ text) ∙ e

-- What is read from a place on to the file's end

pub read_rest : (at : ℕ) (file text : List ℕ) → length text ≡ length file - at
    → (0 < length text → Holds file at text)
    → text ≡ drop at file
read_rest at file [] long holds =
    sym (drop_of_length-le file {i = at} (none (length file) at (sym long)))
  where
    none : (n m : ℕ) → n - m ≡ 0 → n ≤ m
    none n m is = omega (arith, is)
read_rest at file (x ∷ text) long holds =
    ext_get_or 0 (x ∷ text) (drop at file) (long ∙ sym (length-drop at file))
    (λ i lt. sym ((holds (omega arith)).each i lt) ∙ sym (get_or-drop at file i 0))
