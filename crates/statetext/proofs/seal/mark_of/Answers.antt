use Rattle.std.proofs.Common.{◌∙◌, ap, List, ℕ, ◌∷◌, ◌++◌, []}
use Rattle.hex.specs.Hex.{encode_lower}
use Rattle.statetext.specs.Sealed.{mark_of}
use Rattle.statetext.proofs.seal.mark_of.Goals as goal

pub returns : goal.returns
unfolding mark_of
returns c = ap (λ (row : List ℕ). 33 ∷ row ++ 32 ∷ [])
    (c.put_digits.ensures ∙ ap encode_lower c.to_be_bytes.ensures)
