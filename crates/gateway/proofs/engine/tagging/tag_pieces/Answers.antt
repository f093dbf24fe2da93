use Rattle.std.proofs.Common.{◌≡◌, List, [], ◌∷◌, ◌++◌, length, ℕ, ap, sym, ◌∙◌, subst, arith}
use Rattle.std.specs.Prelude.{slice_index_or}
use Rattle.arrayvec.specs.ArrayVec.{ArrayVec}
use Rattle.events.specs.Queue.{octets_of}
use Rattle.gateway.specs.Tags.{AreTagged}
use Rattle.gateway.proofs.Tagged.{alone, tagged_alone, long_alone}
use Rattle.gateway.proofs.engine.tagging.tag_pieces.Goals as goal

pub returns-clause-tagged : goal.returns-clause-tagged
returns-clause-tagged c =
    let x = c.index-deref-0.result in
    let ps = c.args.pieces.now.items in
    let n : length ps ≡ 1 = omega (arith, c.if-len-ne1.false, c.len.ensures.value) in
    let one : ps ≡ x ∷ [] = alone ps x n (c.index-deref-0.is
    ∙ ap (λ (ds : List (ArrayVec ℕ)). slice_index_or ds 0 x) c.deref.ensures.0) in
    let made : c.push.new.self.items ≡ c.in-Some-tagged_piece.piece ∷ [] = c.push.ensures.items
    ∙ ap (λ (ds : List (ArrayVec ℕ)). ds ++ (c.in-Some-tagged_piece.piece ∷ [])) c.clear.ensures in
    subst (λ t. AreTagged t (octets_of ps) (octets_of c.push.new.self.items)) (sym c.in-Some.is)
    (tagged_alone c.in-Some.tag ps c.push.new.self.items x c.in-Some-tagged_piece.piece
    c.deref-2.result.now one
    c.deref-2.ensures.0 made c.requires.asdus c.in-Some-tagged_piece.ensures.bears
    c.in-Some-tagged_piece.ensures.tags)

pub returns-clause-long : goal.returns-clause-long
returns-clause-long c =
    let x = c.index-deref-0.result in
    let ps = c.args.pieces.now.items in
    let n : length ps ≡ 1 = omega (arith, c.if-len-ne1.false, c.len.ensures.value) in
    let one : ps ≡ x ∷ [] = alone ps x n (c.index-deref-0.is
    ∙ ap (λ (ds : List (ArrayVec ℕ)). slice_index_or ds 0 x) c.deref.ensures.0) in
    let made : c.push.new.self.items ≡ c.in-Some-tagged_piece.piece ∷ [] = c.push.ensures.items
    ∙ ap (λ (ds : List (ArrayVec ℕ)). ds ++ (c.in-Some-tagged_piece.piece ∷ [])) c.clear.ensures in
    long_alone c.in-Some.tag ps c.push.new.self.items x c.in-Some-tagged_piece.piece
    c.deref-2.result.now one
    c.deref-2.ensures.0 made c.requires.asdus c.in-Some-tagged_piece.ensures.tags
    c.in-Some-tagged_piece.ensures.most
