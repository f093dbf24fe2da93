use Rattle.std.proofs.Common.{subst, IfSome}
use Rattle.std.specs.List.{All}
use Rattle.ft12.specs.Spelling.{IsOctet}
use Rattle.ft12.specs.Assembly.{Assembly}
use Rattle.ft12.specs.Reading.{IsProperBeginning}
use Rattle.ft12.proofs.Resuming.{resumable, resumable_octets}
use Rattle.ft12.proofs.assembling.Assembler.is_resumable.Goals as goal

pub returns-clause-beginning : goal.returns-clause-beginning
returns-clause-beginning c =
    let P : Assembly → Type 0 = λ a. IfSome a.so_far (IsProperBeginning a.size) in
    subst P c.self.view_is (resumable c.self.inside.size c.self.inside.stage
    c.self.inside.kept.items c.self.invariant)

pub returns-clause-octets : goal.returns-clause-octets
returns-clause-octets c =
    let P : Assembly → Type 0 = λ a. IfSome a.so_far (λ octets. All IsOctet octets) in
    subst P c.self.view_is
    (resumable_octets c.self.inside.size c.self.inside.stage c.self.inside.kept.items
    c.self.invariant)
