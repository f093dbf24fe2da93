use Rattle.asdu.specs.Sizes.{ioa_len}
use Rattle.asdu.specs.Objects.{infos_left}
use Rattle.asdu.specs.Reading.{value_of}
use Rattle.asdu.proofs.Reports.{is_over}
use Rattle.asdu.proofs.Steps.{length-rest_at}
use Rattle.asdu.proofs.translation.Translation.is_over.Goals as goal

pub returns : goal.returns
returns c =
    let t = c.self.inside in
    is_over (value_of t.asdu.now) (infos_left t.left) t.left.left c.args.self.now c.self.view_is
    (length-rest_at t.left.kind (ioa_len t.left.ioa) t.left.next_address t.left.left
    t.left.octets.now)
