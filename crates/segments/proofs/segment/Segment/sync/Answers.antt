use Rattle.std.proofs.Common.{◌∙◌, ◌++◌, ℕ, List, ap, arith, sym}
use Rattle.std.proofs.lemmas.List.{append-nil}
use Rattle.std.proofs.lemmas.Result.{on_ok_weaker}
use Rattle.std.specs.List.{concat}
use Rattle.segments.specs.Segment.{open_of, seal_octets, with_write, writes_of}
use Rattle.segments.proofs.CrashLemmas.{on_ok}
use Rattle.segments.proofs.Sealed.{concat_more, no_lines, no_seal, no_write, open_length}
use Rattle.segments.proofs.segment.Segment.sync.Goals as goal

pub returns-then-self-clause-synced : goal.returns-then-self-clause-synced
returns-then-self-clause-synced g c =
    let m = c.write.new.self in
    let w = m.written.has in
    let none = open_length m.stored m.durable m.number (g.D.Disk.seen m.file) m.page.items w.body
    w.writes w.lines (omega (arith, m.sized, m.within)) c.in_ok-write.ensures.held
    (m.text c.in_ok-write.ensures.open) m.safe c.if-self.true in
    on_ok c.sync_only.result
    (ap concat (c.sync_only.ensures.writes ∙ c.write.ensures.writes)
    ∙ sym (append-nil (concat (writes_of c.args.self.now)))
    ∙ ap (λ (l : List ℕ). concat (writes_of c.args.self.now) ++ l)
    (sym (sym c.write.ensures.lines ∙ no_lines (open_of m) none)))

pub returns-then-self-clause-writes : goal.returns-then-self-clause-writes
returns-then-self-clause-writes g c =
    let m = c.write.new.self in
    let w = m.written.has in
    let none = open_length m.stored m.durable m.number (g.D.Disk.seen m.file) m.page.items w.body
    w.writes w.lines (omega (arith, m.sized, m.within)) c.in_ok-write.ensures.held
    (m.text c.in_ok-write.ensures.open) m.safe c.if-self.true in
    on_ok c.sync_only.result
    (c.sync_only.ensures.writes ∙ no_write (writes_of m) (open_of m) none
    ∙ ap (λ (l : List ℕ). with_write (writes_of m) l) c.write.ensures.lines
    ∙ ap (λ (l : List (List ℕ)). with_write l (open_of c.args.self.now)) c.write.ensures.writes)

pub returns-then-self-clause-open : goal.returns-then-self-clause-open
returns-then-self-clause-open g c =
    let m = c.write.new.self in
    let w = m.written.has in
    let none = open_length m.stored m.durable m.number (g.D.Disk.seen m.file) m.page.items w.body
    w.writes w.lines (omega (arith, m.sized, m.within)) c.in_ok-write.ensures.held
    (m.text c.in_ok-write.ensures.open) m.safe c.if-self.true in
    on_ok c.sync_only.result (c.sync_only.ensures.lines ∙ no_lines (open_of m) none)

pub returns-then-self-clause-octets : goal.returns-then-self-clause-octets
returns-then-self-clause-octets g c =
    let m = c.write.new.self in
    let w = m.written.has in
    let none = open_length m.stored m.durable m.number (g.D.Disk.seen m.file) m.page.items w.body
    w.writes w.lines (omega (arith, m.sized, m.within)) c.in_ok-write.ensures.held
    (m.text c.in_ok-write.ensures.open) m.safe c.if-self.true in
    on_ok c.sync_only.result
    (omega (
      arith,
      c.sync_only.ensures.octets,
      c.in_ok-write.ensures.octets,
      no_seal (open_of m) none,
      ap seal_octets c.write.ensures.lines,
    ))

pub returns-else-self-clause-synced : goal.returns-else-self-clause-synced
returns-else-self-clause-synced g c =
    let m = c.write.new.self in
    on_ok_weaker c.seal.result (λ e. ap concat e ∙ concat_more (writes_of m) (open_of m)
    ∙ ap (λ (l : List (List ℕ)). concat l ++ open_of m) c.write.ensures.writes
    ∙ ap (λ (l : List ℕ). concat (writes_of c.args.self.now) ++ l) c.write.ensures.lines)
    c.seal.ensures.writes
