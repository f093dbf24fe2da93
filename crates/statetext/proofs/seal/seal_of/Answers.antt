use Rattle.statetext.proofs.Seals.{seal_made}
use Rattle.statetext.proofs.seal.seal_of.Goals as goal

pub returns : goal.returns
returns c = λ head lines is.
    seal_made head lines _ _ _ _ c.args.place _ _ _ c.copy_from_slice.ensures.after
    c.mark_of.ensures is c.add.ensures c.value.ensures c.to_be_bytes.ensures c.put_digits.ensures
