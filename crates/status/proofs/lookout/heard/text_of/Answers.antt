use Rattle.std.proofs.Common.{ap, ◌++◌, ◌∙◌, inl}
use Rattle.std.proofs.lemmas.Fmt.{contents_after_writes}
use Rattle.runlog.specs.Notes.{said}
use Rattle.status.proofs.lookout.heard.text_of.Goals as goal

pub returns-in-Ok : goal.returns-in-Ok
returns-in-Ok c =
    inl
    (contents_after_writes _ (λ t. t.bytes) (λ w l v t. t) _ (said c.args.line.now) _
    c.in-Ok.ensures.writes
    ∙ ap (λ bytes. bytes ++ said c.args.line.now) c.new-text.ensures)
