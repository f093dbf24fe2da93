use Rattle.std.proofs.Common.{refl}
use Rattle.hex.specs.Hex.{encode_with}
use Rattle.segments.proofs.laws.first_lines_by_example.Goals as goal

pub returns-clause-older : goal.returns-clause-older
unfolding encode_with
returns-clause-older c = refl

pub returns-clause-sealed : goal.returns-clause-sealed
unfolding encode_with
returns-clause-sealed c = refl
