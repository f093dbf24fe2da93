use Rattle.std.proofs.Common.{ℕ, List, subst, sym}
use Rattle.sqlite_disk.specs.Disk.{Holds}
use Rattle.segments.specs.Head.{head_of}
use Rattle.segments.proofs.HeldLemmas.{read_rest}
use Rattle.segments.proofs.Sealed.{if_ok_later}
use Rattle.segments.proofs.start.Start.log.Goals as goal

pub returns-clause-text : goal.returns-clause-text
returns-clause-text g c =
    let s = c.args.self.now in
    let file = c.rest_at.new.file in
    if_ok_later c.log_behind.result _ (λ clean.
    let holds = subst (λ (f : List ℕ). Holds f 0 (head_of c.in-Head.head))
    (sym c.rest_at.ensures.seen)
    (s.begins (c.rest_at.ensures.clean clean) c.in-Head.head c.in-Head.is) in
    c.log_behind.ensures.lines (g.D.Disk.seen file) holds
    (read_rest s.at (g.D.Disk.seen file) c.in_ok-text.text.items (c.in_ok-text.ensures.octets clean)
    (c.in_ok-text.ensures.text clean)))

pub returns-clause-damage : goal.returns-clause-damage
returns-clause-damage g c =
    let s = c.args.self.now in
    let file = c.rest_at.new.file in
    if_ok_later c.log_behind.result _ (λ clean.
    let holds = subst (λ (f : List ℕ). Holds f 0 (head_of c.in-Head.head))
    (sym c.rest_at.ensures.seen)
    (s.begins (c.rest_at.ensures.clean clean) c.in-Head.head c.in-Head.is) in
    c.log_behind.ensures.damage (g.D.Disk.seen file) holds
    (read_rest s.at (g.D.Disk.seen file) c.in_ok-text.text.items (c.in_ok-text.ensures.octets clean)
    (c.in_ok-text.ensures.text clean)))
