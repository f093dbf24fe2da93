use Rattle.std.proofs.Common.{ℕ, ◌≤◌, List, length, sym, ap, subst}
use Rattle.std.specs.List.{AllByRecursion}
use Rattle.asdu.specs.Reading.{value_of}
use Rattle.asdu.specs.Translation.{report_pieces}
use Rattle.asdu.specs.Writing.{with_infos}
use Rattle.asdu.proofs.Accepted.{IsAsdu-value_of}
use Rattle.asdu.proofs.Reports.{pieces_lengths, pieces_few}
use Rattle.asdu.proofs.translation.Translation.new.Goals as goal

pub returns-clause-lengths : goal.returns-clause-lengths
returns-clause-lengths c =
    let asdu = c.args.asdu.now in
    let v = value_of asdu in
    let same = ap (λ is. report_pieces (with_infos v is)) c.objects.ensures.infos in
    subst (λ (ps : List (List ℕ)). AllByRecursion (λ p. (9 ≤ length p) × (length p ≤ 249)) ps)
    (sym same)
    (pieces_lengths asdu.sizes v asdu.octets.now (IsAsdu-value_of asdu asdu.are_octets))

pub returns-clause-few : goal.returns-clause-few
returns-clause-few c = λ short.
    let asdu = c.args.asdu.now in
    let v = value_of asdu in
    let same = ap (λ is. report_pieces (with_infos v is)) c.objects.ensures.infos in
    subst (λ (ps : List (List ℕ)). length ps ≤ 3) (sym same)
    (pieces_few asdu.sizes v asdu.octets.now (IsAsdu-value_of asdu asdu.are_octets) short)
