use Rattle.std.proofs.Common.{◌≡◌, ◌+◌, ◌*◌, ◌^◌, ◌<◌, ◌≤◌, arith}
use Rattle.std.proofs.lemmas.Nat.{shl_below}
use Rattle.std.proofs.Math.Pow.{pow_mono}
use Rattle.std.proofs.Math.Nat.{mod-eq_of_lt}
use Rattle.words.proofs.floats.shifted.Goals as goal

pub returns : goal.returns
returns c =
    let below : c.args.number * 2 ^ c.args.places < 2 ^ (24 + c.args.places) =
    shl_below c.args.number 24 c.args.places c.requires.number in
    let most : 2 ^ (24 + c.args.places) ≤ 2 ^ 128 = pow_mono {i = 24 + c.args.places} {j = 128}
    (omega arith) in
    let same : c.from.result ≡ c.args.number = c.from.ensures in
    rw same (mod-eq_of_lt (omega arith))
