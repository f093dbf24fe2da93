use Rattle.std.proofs.Common.{inl}
use Rattle.telegate.proofs.StoodLemmas.{stood_shown}
use Rattle.telegate.proofs.shell.show_directory.Goals as goal

pub returns-in-Ok : goal.returns-in-Ok
returns-in-Ok g c = inl (record {
  answer = c.answer_stood.result;
  answered = stood_shown (g.H.Host.stands c.args.host.now c.args.directory.now) _ _ _
      c.answer_stood.result c.in-Ok.ensures.stood c.answer_stood.ensures;
  given = c.give.ensures;
})
