use Rattle.std.proofs.Common.{List, ℕ, subst, arith}
use Rattle.segments.specs.Starts.{IsFoundIn}
use Rattle.segments.proofs.Fronts.{found_within}
use Rattle.segments.proofs.start.octets_behind.Goals as goal
use Rattle.segments.proofs.start.octets_behind.Goals.{then-all-lt-HEAD-via-then-all-lt-HEAD}
use Rattle.segments.proofs.start.octets_behind.Goals.{then-all-lt-HEAD-via-else-all-lt-HEAD+then-all-octets}

pub returns-then-all-lt-HEAD-clause-none : goal.returns-then-all-lt-HEAD-clause-none
returns-then-all-lt-HEAD-clause-none g c clean text found =
    let long = found_within _ _ _ (subst (λ (file : List ℕ). IsFoundIn file c.args.head.now text)
    c.len.ensures.seen found) in
    let all = c.in-Ok-len.ensures.len clean in
    elim c.then-all-lt-HEAD.branch [
      | then-all-lt-HEAD-via-then-all-lt-HEAD w ↦ omega (arith, long, all, c.in-Ok.ensures)
      | then-all-lt-HEAD-via-else-all-lt-HEAD+then-all-octets w ↦
          omega (arith, long, all, c.in-Ok.ensures)
    ]
