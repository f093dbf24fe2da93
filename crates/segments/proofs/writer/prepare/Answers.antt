use Rattle.std.proofs.Common.{drop}
use Rattle.segments.specs.Written.{text_in}
use Rattle.segments.proofs.HeldLemmas.{body_length, prepared_text, zeros_here}
use Rattle.segments.proofs.writer.prepare.Goals as goal

pub returns-clause-text : goal.returns-clause-text
returns-clause-text g c =
    let r = c.requires in
    prepared_text c.args.stored c.in_ok-end.end _ _ _ c.args.page.now c.in_ok-end.ensures.text
    c.in_ok-write_zeros.ensures.before _ _
    (c.in_ok-head.ensures.text
    (drop 87 (text_in c.args.stored (g.D.Disk.seen c.args.file.now) c.args.page.now))
    (body_length c.args.stored c.in_ok-end.end _ c.args.page.now r.sized r.behind
    c.in_ok-end.ensures.end) r.summed)

pub write_zeros-requires-clause-zeros : goal.write_zeros-requires-clause-zeros
write_zeros-requires-clause-zeros g c =
    zeros_here _ _ c.deref.ensures.value c.in_ok-zeros.ensures.blank

pub returns-clause-line : goal.returns-clause-line
returns-clause-line g c =
    let r = c.requires in
    c.in_ok-head.ensures.line
    (drop 87 (text_in c.args.stored (g.D.Disk.seen c.args.file.now) c.args.page.now))
    (body_length c.args.stored c.in_ok-end.end _ c.args.page.now r.sized r.behind
    c.in_ok-end.ensures.end) r.summed
