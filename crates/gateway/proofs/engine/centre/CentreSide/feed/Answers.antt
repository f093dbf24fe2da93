use Rattle.std.proofs.Common.{ap, ◌∙◌, List, ℕ, Option, Some, []}
use Rattle.apci.specs.declared.apdu.Apdu.{Apdu}
use Rattle.gateway.specs.Centre.{Centre}
use Rattle.gateway.proofs.Judgements.{found_apdu, found_never}
use Rattle.gateway.proofs.engine.centre.CentreSide.feed.Goals as goal

pub returns-in-Whole : goal.returns-in-Whole
returns-in-Whole c =
    let s = c.self.inside in
    let after = c.feed-count.new.self in
    let found = found_apdu s.assembler.so_far c.args.piece.now c.feed-count.result.0 after
    c.self.invariant.listens
    (rw c.in-Whole.is at c.feed-count.ensures.listening) in
    rw (← c.self.view_is) (
      found.0,
      found.1,
      (
        found.2.0,
        (
          found.2.1,
          found.2.2,
          c.feed-count.ensures.progress c.requires,
          c.feed-count.ensures.within,
        ),
        ap (λ (o : Option (List ℕ)). let made : Centre =
            record { session = s.session; so_far = o; arrived = after.whole; queue = s.queue } in
            made) found.2.3
            ∙ ap (λ (h : Option Apdu). let made : Centre =
            record { session = s.session; so_far = Some []; arrived = h; queue = s.queue } in
            made) found.2.4,
      ),
    )

pub returns-in-Never : goal.returns-in-Never
returns-in-Never c =
    let s = c.self.inside in
    let after = c.clear.new.self in
    let found = found_never s.assembler.so_far c.args.piece.now c.feed-count.result.0
    c.in-Never.field-0
    c.in-Never.field-1 c.feed-count.new.self c.self.invariant.listens
    (rw c.in-Never.is at c.feed-count.ensures.listening) in
    rw (← c.self.view_is) (
      found.0,
      found.1,
      (
        found.2,
        ap (λ (o : Option (List ℕ)). let made : Centre =
            record { session = s.session; so_far = o; arrived = after.whole; queue = s.queue } in
            made) c.clear.ensures.so_far
            ∙ ap (λ (h : Option Apdu). let made : Centre =
            record { session = s.session; so_far = Some []; arrived = h; queue = s.queue } in
            made) c.clear.ensures.whole,
      ),
    )
