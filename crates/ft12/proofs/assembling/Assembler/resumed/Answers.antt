use Rattle.std.proofs.Common.{◌≡◌, List, ℕ, subst, sym}
use Rattle.ft12.specs.declared.frame.LinkSize.{LinkSize}
use Rattle.ft12.specs.declared.assembling.Received.TheVariants as arrived
use Rattle.ft12.specs.Reading.{IsProperBeginning}
use Rattle.ft12.proofs.Beginnings.{proper_nil}
use Rattle.ft12.proofs.Resuming.{is_more}
use Rattle.ft12.proofs.assembling.Assembler.resumed.Goals as goal

-- The beginning of a frame is received as one.
received_as_more : (c : goal.In_default) → IsProperBeginning c.args.size c.args.octets.now
    → c.feed.result.1 ≡ arrived.More
received_as_more c is =
    let P : LinkSize → Type 0 = λ s. IsProperBeginning s c.args.octets.now in
    is_more c.new-assembler.result.size c.args.octets.now c.feed.result.0 c.feed.result.1
    c.new-assembler.result.so_far
    c.feed.new.self.so_far (subst P (sym c.new-assembler.ensures.size) is)
    c.new-assembler.ensures.so_far
    c.feed.ensures.listening

pub returns-in_default-clause-taken : goal.returns-in_default-clause-taken
returns-in_default-clause-taken c = λ is. absurd (c.in_default.not-More (received_as_more c is))

pub returns-in_default-clause-fresh : goal.returns-in_default-clause-fresh
returns-in_default-clause-fresh c = λ none.
    let P : List ℕ → Type 0 = λ x. IsProperBeginning c.args.size x in
    absurd
    (c.in_default.not-More (received_as_more c (subst P (sym none) (proper_nil c.args.size))))
