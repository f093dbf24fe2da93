use Rattle.std.proofs.Common.{ap, sym, ◌∙◌}
use Rattle.std.proofs.lemmas.Bool.{false≢true}
use Rattle.apci.specs.Assembly.{Assembly}
use Rattle.apci.proofs.EachOctet.{receives}
use Rattle.apci.proofs.assembling.Assembler.feed.Goals as goal

pub listen-requires-clause-listens : goal.listen-requires-clause-listens
listen-requires-clause-listens c =
    let h = receives c.self.inside.state c.self.inside.asdu.items
    (λ e. false≢true (c.if-is_deaf.ensures.1 e)) in (
      h.0,
      ap (λ (v : Assembly). v.so_far) c.forget.ensures
          ∙ (ap (λ (v : Assembly). v.so_far) (sym c.self.view_is) ∙ h.1),
    )
