use Rattle.std.proofs.Common.{◌≡◌, ◌+◌, ◌*◌, ◌≤◌, ◌∷◌, length, arith}
use Rattle.live.proofs.Drops.{looks_more, brought_more, drains_by, drains_bare}
use Rattle.live.proofs.stream.drop_octets.Goals as goal

pub returns-then-len-eq0 : goal.returns-then-len-eq0
returns-then-len-eq0 g c =
    let i = c.loop.invariant in
    let most : length i.0 ≤ 63 = omega (arith, i.3, c.loop-test.true) in
    drains_bare _ _ _ i.0 _ _ i.1 i.2 most i.4 c.drop_once-len.ensures.drops c.if-len-eq0.true

pub loop-preserved : goal.loop-preserved
loop-preserved g c =
    let i = c.loop.invariant in
    let d = c.drop_once-len.ensures.drops in
    let m = looks_more _ _ _ i.0 _ i.1 i.2 d c.if-len-eq0.false in
    let looks = d.answer ∷ i.0 in
    let more : length looks + 1 ≡ c.loop.counter + 1 = grind (arith, i.3) in
    let few : (c.loop.count + c.drop_once-len.result) + 1024 ≤ 1024 * (c.loop.counter + 1) =
    omega (arith, i.5, c.drop_once-len.ensures.bound) in
    (looks, m.0, m.1, more, brought_more i.0 _ _ _ _ i.4 d, few)

pub returns : goal.returns
returns g c =
    let i = c.loop.invariant in
    let all : length i.0 ≡ 63 = omega (arith, i.3, c.loop-test.false, c.loop.auto.counter-end) in
    let most : length i.0 ≤ 63 = omega (arith, all) in
    drains_by _ _ _ i.0 _ _ i.1 i.2 most i.4 c.drop_once.ensures.drops (λ some. all)
