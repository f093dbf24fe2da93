use Rattle.std.proofs.Common.{◌≡◌, subst, rules, Some, None, []}
use Rattle.apci.specs.Borrowed.{owned}
use Rattle.gateway.specs.Centre.{Centre}
use Rattle.gateway.proofs.Judgements.{found_whole}
use Rattle.gateway.proofs.engine.centre.CentreSide.find_whole.Goals as goal

pub returns-in-Whole : goal.returns-in-Whole
returns-in-Whole c =
    let empty : (c.self.inside.assembler.so_far ≡ Some [])
    × (c.self.inside.assembler.whole ≡ None) =
    search (rules, c.if-not-is_empty.ensures) in
    let left = subst (λ (x : Centre). (x.so_far ≡ Some []) × (x.arrived ≡ None)) c.self.view_is
    empty in (
      found_whole c.args.piece.now c.in-Whole.count (owned c.in-Whole.apdu)
          c.in-Whole.ensures.right,
      left.0,
      left.1,
    )
