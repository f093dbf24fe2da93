use Rattle.std.proofs.Common.{◌≡◌, List, ℕ, ap, subst, ◌∙◌}
use Rattle.sqlite_disk.specs.Disk.{Holds}
use Rattle.statetext.specs.Sum.{sum_of}
use Rattle.segments.proofs.Fronts.{found_sum, of_some}
use Rattle.segments.proofs.start.text_at.Goals as goal

pub returns-else-sum_of-head-clause-none : goal.returns-else-sum_of-head-clause-none
returns-else-sum_of-head-clause-none g c clean text found =
    let same = c.octets_at.ensures.seen ∙ c.octets_behind.ensures.seen in
    c.if-sum_of-head.false (c.sum_of.ensures ∙ ap sum_of c.deref.ensures.value
    ∙ found_sum _ _ text c.in_ok-text.text.items
    (c.in_ok-text.ensures.octets
    ∙ of_some (λ (n : ℕ). n ≡ c.args.head.now.octets) c.in_ok-octets.field-0 c.in-Some.octets
    c.in-Some.is c.in_ok-octets.ensures.octets)
    (λ some. subst (λ (file : List ℕ). Holds file 87 c.in_ok-text.text.items) same
    (c.in_ok-text.ensures.text clean some)) found)
