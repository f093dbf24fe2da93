use Rattle.std.proofs.Common.{◌≡◌, ◌<◌, ◌≤◌, length, List, ℕ, sym, subst, ◌∙◌, lit<, arith}
use Rattle.sqlite_disk.specs.Disk.{Holds}
use Rattle.segments.specs.Starts.{IsHeadIn}
use Rattle.segments.specs.declared.start.FileFront.TheVariants as fronts
use Rattle.segments.proofs.CrashLemmas.{ok_of}
use Rattle.segments.proofs.Fronts.{head_line, other_line, other_short}
use Rattle.segments.proofs.start.front_at.Goals as goal

pub returns-then-octets-lt-HEAD-clause-head : goal.returns-then-octets-lt-HEAD-clause-head
returns-then-octets-lt-HEAD-clause-head g c clean =
    let first : Holds (g.D.Disk.seen c.len.new.self) 0 c.read_at.new.buf =
    ok_of c.done.result c.read_at.result _ c.done.ensures c.in_ok-done.was c.read_at.ensures.read
    clean (lit< tt) in
    let n = c.in-Ok.ensures.len (c.read_at.ensures.clean clean) in
    let same = c.len.ensures.seen in
    subst (λ (file : List ℕ). IsHeadIn file fronts.Other) (sym c.read_at.ensures.seen)
    (other_short _ c.read_at.new.buf first (let one : 0 < length c.read_at.new.buf =
    omega (arith, c.read_at.auto.buf) in one)
    c.if-first-eq-SHUT.false
    (let long : 2 ≤ length (g.D.Disk.seen c.len.new.self) =
    subst (λ (file : List ℕ). 2 ≤ length file) (sym same) (omega (arith, n)) in long)
    (let short : length (g.D.Disk.seen c.len.new.self) < 87 =
    subst (λ (file : List ℕ). length file < 87) (sym same) (omega (arith, n)) in short))

pub returns-in-Ok-Some-clause-head : goal.returns-in-Ok-Some-clause-head
returns-in-Ok-Some-clause-head g c clean =
    let row : Holds (g.D.Disk.seen c.len.new.self) 0 c.read_at-2.new.buf =
    ok_of c.done-2.result c.read_at-2.result _ c.done-2.ensures c.in_ok-done-2.was
    c.read_at-2.ensures.read clean (lit< tt) in
    subst (λ (file : List ℕ). IsHeadIn file (fronts.Head c.in-Ok-Some.head))
    (sym c.read_at-2.ensures.seen)
    (head_line _ c.read_at-2.new.buf c.in-Ok-Some.head row (let count : length c.read_at-2.new.buf
    ≡ 87 = c.read_at-2.auto.buf in count)
    (rw c.in-Ok-Some.field-0-is at c.in-Ok-Some.ensures.is)
    (λ head fits is. sym c.in-Ok-Some.field-0-is ∙ c.in-Ok-Some.ensures.all head fits is))

pub returns-in-Ok-None-clause-head : goal.returns-in-Ok-None-clause-head
returns-in-Ok-None-clause-head g c clean =
    let row : Holds (g.D.Disk.seen c.len.new.self) 0 c.read_at-2.new.buf =
    ok_of c.done-2.result c.read_at-2.result _ c.done-2.ensures c.in_ok-done-2.was
    c.read_at-2.ensures.read clean (lit< tt) in
    let n = c.in-Ok.ensures.len (c.read_at-2.ensures.clean clean) in
    let same = c.len.ensures.seen in
    subst (λ (file : List ℕ). IsHeadIn file fronts.Other) (sym c.read_at-2.ensures.seen)
    (other_line (g.D.Disk.seen c.len.new.self) c.read_at-2.new.buf c.read_at-2.new.buf row
    (let some : 0 < length c.read_at-2.new.buf = omega (arith, c.read_at-2.auto.buf) in some)
    c.if-row-eq-SHUT.false
    (let long : 2 ≤ length (g.D.Disk.seen c.len.new.self)
    = subst (λ (file : List ℕ). 2 ≤ length file) (sym same) (omega (arith, n)) in long)
    row (let count : length c.read_at-2.new.buf ≡ 87 = c.read_at-2.auto.buf in count)
    (λ head fits is. sym c.in-Ok-None.field-0-is ∙ c.in-Ok-None.ensures.all head fits is))
