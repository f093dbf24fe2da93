use Rattle.std.proofs.Common.{Bool, ◌++◌, subst, refl}
use Rattle.std.specs.Result.{is_ok}
use Rattle.traces.specs.Pouring.{IsPoured}
use Rattle.traces.proofs.Poured.{poured_more, begun_longer, poured_as}
use Rattle.traces.proofs.writing.print_behind.Goals as goal

pub returns-then-not-is_whole : goal.returns-then-not-is_whole
returns-then-not-is_whole g c = λ before earlier poured.
    let old = g.W.Write.contents c.args.out.now in
    begun_longer before old earlier c.args.text.now
    (subst (λ (b : Bool). IsPoured b before old earlier) c.if-not-is_whole.true poured)

pub returns : goal.returns
returns g c = λ before earlier poured.
    let old = g.W.Write.contents c.args.out.now in
    let text = c.args.text.now in
    poured_as g.W.Write.contents before (earlier ++ text) c.is_ok.result (is_ok c.print.result)
    c.print.new.out
    c.print.new.out c.is_ok.ensures.value refl
    (poured_more before old (g.W.Write.contents c.print.new.out) earlier text (earlier ++ text)
    c.print.result
    (subst (λ (b : Bool). IsPoured b before old earlier) c.if-not-is_whole.false poured) refl
    c.print.ensures.all c.print.ensures.begun)
