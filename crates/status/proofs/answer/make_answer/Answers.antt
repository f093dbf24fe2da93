use Rattle.std.proofs.Common.{sym, ◌∙◌, ap, refl}
use Rattle.status.specs.Answer.{body_of}
use Rattle.status.specs.TextPage.{Sheet, empty}
use Rattle.status.proofs.Sheets.{room_put}
use Rattle.status.proofs.answer.make_answer.Goals as goal

pub returns-clause-body : goal.returns-clause-body
returns-clause-body c =
    let off = sym c.has_body.ensures ∙ c.if-has_body.false in
    c.clear-3.ensures
    ∙ ap (λ (s : Sheet). empty s.room) c.put_body.ensures
    ∙ ap empty (room_put (body_of c.args.asked c.args.snapshot.now) c.clear-2.new.self)
    ∙ ap (λ (s : Sheet). empty s.room) c.clear-2.ensures
    ∙ rw off refl
