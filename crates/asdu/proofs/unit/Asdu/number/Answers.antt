use Rattle.std.proofs.Common.{◌≡◌, ◌∙◌, sym, drop, arith}
use Rattle.std.proofs.lemmas.Grind.{common_steps}
use Rattle.asdu.specs.Sizes.{ioa_len, header_len}
use Rattle.asdu.specs.Fields.{number_at, is_sequence}
use Rattle.asdu.proofs.Spelling.{length-infos_at}
use Rattle.asdu.proofs.unit.Asdu.number.Goals as goal

pub returns-clause-counted : goal.returns-clause-counted
returns-clause-counted c =
    let asdu = c.args.self.now in
    let count = length-infos_at asdu.kind (ioa_len asdu.sizes.ioa) (is_sequence asdu.octets.now)
    (number_at asdu.octets.now) (drop (header_len asdu.sizes) asdu.octets.now) in
    let here : c.from.result ≡ number_at asdu.octets.now = grind (arith, common_steps) in
    here ∙ sym count
