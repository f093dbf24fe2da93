use Rattle.std.proofs.Common.{IsTrue}
use Rattle.std.proofs.lemmas.Bool.{eqb-false, eqb-true}
use Rattle.segments.proofs.Fronts.{if_some_map, none_by_sum, summed_from, whole_by_sum}
use Rattle.segments.proofs.start.is_whole.Goals as goal

pub returns-clause-some : goal.returns-clause-some
returns-clause-some g c is clean =
    let before : IsTrue (g.D.Disk.is_clean c.octets_behind.new.file) =
    c.sum_behind.ensures.clean clean in
    whole_by_sum _ c.args.front c.in-Head.head c.in-Some.octets c.in_ok-sum.sum
    (summed_from _ _ _ _ _ _ _ _ c.octets_behind.ensures.seen c.sum_behind.ensures.seen
    c.in-Head.is (c.requires.head (c.octets_behind.ensures.clean before)) c.in-Some.is
    c.in_ok-octets.ensures.octets
    (if_some_map c.in_ok-octets.field-0 c.in_ok-octets.ensures.within (λ n within. within before))
    (c.in_ok-sum.ensures.sum clean))
    (eqb-true _ _ is)

pub returns-clause-none : goal.returns-clause-none
returns-clause-none g c isnt clean =
    let before : IsTrue (g.D.Disk.is_clean c.octets_behind.new.file) =
    c.sum_behind.ensures.clean clean in
    none_by_sum _ c.args.front c.in-Head.head c.in-Some.octets c.in_ok-sum.sum
    (summed_from _ _ _ _ _ _ _ _ c.octets_behind.ensures.seen c.sum_behind.ensures.seen
    c.in-Head.is (c.requires.head (c.octets_behind.ensures.clean before)) c.in-Some.is
    c.in_ok-octets.ensures.octets
    (if_some_map c.in_ok-octets.field-0 c.in_ok-octets.ensures.within (λ n within. within before))
    (c.in_ok-sum.ensures.sum clean))
    (eqb-false _ _ isnt)
