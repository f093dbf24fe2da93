use Rattle.std.proofs.Common.{◌∙◌, ap}
use Rattle.gateway.specs.Log.{with_news}
use Rattle.gateway.specs.Ports.{logged_by}
use Rattle.record.specs.Recording.{all_passed}
use Rattle.record.proofs.Receiving.{gives_before, notes_before, passed_on}
use Rattle.record.proofs.recorder.RecorderPort.next.Goals as goal

pub returns-clause-logged : goal.returns-clause-logged
returns-clause-logged o c =
    let news = logged_by c.next-next.result c.next-next.new.buf in
    passed_on c.self.inside.pen c.give.new.self _ _ news
    (gives_before _ _ c.give.ensures.gives ∙ notes_before _ _ _ c.note_event.ensures.notes)
    (c.give.ensures.log ∙ c.note_event.ensures.log) c.next-next.ensures.logged
    ∙ ap (λ r. with_news (all_passed r.pen (o.P.Port.log r.port)) news) c.self.view_is
