use Rattle.std.proofs.Common.{Some, List, ℕ, length, take, drop, ap, sym, ◌∙◌, ◌==◌, slice_index}
use Rattle.std.proofs.Common.{arith}
use Rattle.segments.specs.Head.{head_of}
use Rattle.segments.proofs.HeadLemmas.{head_length, number_at, octets_at, rules_read, same_head}
use Rattle.segments.proofs.HeadLemmas.{sum_at}
use Rattle.segments.proofs.head.parse.Goals as goal

pub returns-then-text-ne-HEAD-clause-all : goal.returns-then-text-ne-HEAD-clause-all
returns-then-text-ne-HEAD-clause-all c head fits is =
    absurd (omega (arith, ap length is, head_length head))

pub returns-in_default-clause-all : goal.returns-in_default-clause-all
returns-in_default-clause-all c head fits is =
    let s = c.sum_of.ensures head.sum fits.sum (ap (λ (t : List ℕ). take 8 (drop 78 t)) is
    ∙ sum_at head) in cc

pub returns-in_default-2-clause-all : goal.returns-in_default-2-clause-all
returns-in_default-2-clause-all c head fits is =
    let o = c.number_of-2.ensures head.octets fits.octets
    (ap (λ (t : List ℕ). take 16 (drop 57 t)) is ∙ octets_at head) in cc

pub returns-in_default-3-clause-all : goal.returns-in_default-3-clause-all
returns-in_default-3-clause-all c head fits is =
    let n = c.number_of.ensures head.number fits.number (ap (λ (t : List ℕ). take 16 (drop 33 t)) is
    ∙ number_at head) in cc

pub returns-then-are_same-clause-all : goal.returns-then-are_same-clause-all
returns-then-are_same-clause-all c head fits is =
    let n = c.number_of.ensures head.number fits.number (ap (λ (t : List ℕ). take 16 (drop 33 t)) is
    ∙ number_at head) in
    let o = c.number_of-2.ensures head.octets fits.octets
    (ap (λ (t : List ℕ). take 16 (drop 57 t)) is ∙ octets_at head) in
    let s = c.sum_of.ensures head.sum fits.sum (ap (λ (t : List ℕ). take 8 (drop 78 t)) is
    ∙ sum_at head) in
    ap Some (same_head _ _ _ _ head (sym c.in-Some-Some-Some.is-0 ∙ n)
    (sym c.in-Some-Some-Some.is-1 ∙ o) (sym c.in-Some-Some-Some.is-2 ∙ s)
    (ap (λ (t : List ℕ). slice_index t 23 == 50) is ∙ rules_read head))

pub returns-clause-all : goal.returns-clause-all
returns-clause-all c head fits is =
    let n = c.number_of.ensures head.number fits.number (ap (λ (t : List ℕ). take 16 (drop 33 t)) is
    ∙ number_at head) in
    let o = c.number_of-2.ensures head.octets fits.octets
    (ap (λ (t : List ℕ). take 16 (drop 57 t)) is ∙ octets_at head) in
    let s = c.sum_of.ensures head.sum fits.sum (ap (λ (t : List ℕ). take 8 (drop 78 t)) is
    ∙ sum_at head) in
    let same = same_head _ _ _ _ head (sym c.in-Some-Some-Some.is-0 ∙ n)
    (sym c.in-Some-Some-Some.is-1 ∙ o) (sym c.in-Some-Some-Some.is-2 ∙ s)
    (ap (λ (t : List ℕ). slice_index t 23 == 50) is ∙ rules_read head) in
    absurd (c.are_same.ensures.others c.if-are_same.false
    (c.as_slice.ensures.value ∙ c.in_ok-row.ensures.text ∙ ap head_of same ∙ sym is))
