use Rattle.std.proofs.Common.{Bool, subst}
use Rattle.telegate.specs.Printed.{IsPoured}
use Rattle.traces.proofs.Poured.{begun_longer, begun_behind}
use Rattle.telegate.proofs.printed.print_closing.Goals as goal

pub returns-then-not-is_whole : goal.returns-then-not-is_whole
returns-then-not-is_whole g c = λ before text poured.
    let out = g.W.Write.contents c.args.out.now in
    begun_longer before out text c.args.lines.now
    (subst (λ (b : Bool). IsPoured b before out text) c.if-not-is_whole.true poured)

pub returns-in-Err : goal.returns-in-Err
returns-in-Err g c = λ before text poured.
    let old = g.W.Write.contents c.args.out.now in
    let new = g.W.Write.contents c.print.new.out in
    begun_behind before old new text c.args.lines.now
    (subst (λ (b : Bool). IsPoured b before old text) c.if-not-is_whole.false poured)
    c.in-Err.ensures.begun
