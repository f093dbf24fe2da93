use Rattle.std.proofs.Common.{◌∙◌, ap, length, ◌++◌, replicate, ◌-◌, ◌+◌, List, ℕ}
use Rattle.status.specs.TextPage.{Sheet, put}
use Rattle.status.proofs.Sheets.{put_put}
use Rattle.status.proofs.WordLemmas.{one_space, no_space}
use Rattle.status.proofs.words.put_right.Goals as goal

pub loop-preserved : goal.loop-preserved
loop-preserved c =
    ap (λ (s : Sheet). put (replicate (c.args.width - (c.loop.counter + 1)) 32) s) c.put.ensures
    ∙ one_space c.args.width c.loop.counter c.loop.page c.loop-test.true ∙ c.loop.invariant

pub returns : goal.returns
returns c =
    let digits = c.as_bytes-digits.ensures.value ∙ c.format.ensures.text in
    let spaces = no_space c.args.width c.loop.counter c.loop.page c.loop-test.false
    ∙ c.loop.invariant in
    c.put-2.ensures ∙ ap (λ (s : Sheet). put c.as_bytes-digits.result.now s) spaces
    ∙ put_put (replicate (c.args.width - length c.as_bytes-digits.result.now) 32)
    c.as_bytes-digits.result.now c.args.page.now
    ∙ ap (λ (ds : List ℕ). put (replicate (c.args.width - length ds) 32 ++ ds) c.args.page.now)
    digits
