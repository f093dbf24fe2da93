use Rattle.std.proofs.Common.{sym, refl}
use Rattle.asdu.specs.Sizes.{ioa_len}
use Rattle.asdu.proofs.Splits.{take-rest_at, others_left}
use Rattle.asdu.proofs.objects.Objects.split_at.Goals as goal

pub returns-clause-first : goal.returns-clause-first
returns-clause-first c =
    let self = c.args.self in
    sym (take-rest_at self.kind (ioa_len self.ioa) self.next_address c.args.number self.left
    self.octets.now c.requires)

pub returns-clause-others : goal.returns-clause-others
returns-clause-others c =
    let self = c.args.self in
    others_left self.kind (ioa_len self.ioa) self.next_address c.place_of-next_address.result.0
    c.args.number
    c.place_of-next_address.result.1 self.left self.octets.now _ c.requires
    c.place_of-next_address.ensures.address
    c.place_of-next_address.ensures.place refl
