use Rattle.std.proofs.Common.{ap, ◌∙◌}
use Rattle.settings.specs.Live.{places_of}
use Rattle.telegate.specs.Asked.{asked_by}
use Rattle.telegate.proofs.RanLemmas.{come_at}
use Rattle.telegate.proofs.host.run_process.Goals as goal

pub returns : goal.returns
returns g c =
    come_at _ c.args.settings.now c.args.wishes _ _ _ _ _ _ _
    (c.process_of-site.ensures.asked ∙ ap (λ notes. asked_by c.args.system.now.lineage.entries
    (g.N.Notes.calls notes) (g.N.Notes.clocks notes) (places_of c.args.places.now))
    c.take-notes.ensures.value)
    c.run_out-answer.ensures
