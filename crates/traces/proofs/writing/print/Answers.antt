use Rattle.std.proofs.Common.{◌+◌, ℕ, refl, arith}
use Rattle.std.proofs.lemmas.List.{length-take, length-drop}
use Rattle.traces.proofs.Writes.{begun_so_far, taken, not_taken}
use Rattle.traces.proofs.writing.print.Goals as goal
use Rattle.traces.proofs.writing.print.Goals.{in-Ok, in-Err}

pub returns-in-Ok-eq0-clause-begun : goal.returns-in-Ok-eq0-clause-begun
returns-in-Ok-eq0-clause-begun g c =
    begun_so_far _ _ c.args.text.now (c.writing.done + c.in-Ok-eq0.field-0)
    (taken _ _ _ c.args.text.now c.writing.done c.in-Ok-eq0.field-0 _ c.write.result c.in-Ok-eq0.is
    refl
    c.writing.invariant.written c.write.ensures.bytes)

pub returns-in-Err-2-clause-begun : goal.returns-in-Err-2-clause-begun
returns-in-Err-2-clause-begun g c =
    begun_so_far _ _ c.args.text.now c.writing.done
    (not_taken _ _ _ _ _ c.write.result _ c.in-Err.is
    c.writing.invariant.written c.write.ensures.bytes)

pub writing-preserved : goal.writing-preserved
writing-preserved g c = record {
  within = elim c.match-write.branch [
    | in-Ok w ↦ omega (
      arith,
      w.done-is,
      w.in-Ok.ensures.bound,
      c.writing.invariant.within,
      length-take {A = ℕ},
      length-drop {A = ℕ},
    )
    | in-Err w ↦ omega (arith, w.done-is, c.writing.invariant.within)
  ];
  written = elim c.match-write.branch [
    | in-Ok w ↦ taken _ _ _ c.args.text.now c.writing.done w.in-Ok.n c.match-write.done
        c.write.result w.in-Ok.is
        w.done-is c.writing.invariant.written c.write.ensures.bytes
    | in-Err w ↦
        rw w.done-is (not_taken _ _ _ _ _ c.write.result _ w.in-Err.is c.writing.invariant.written
        c.write.ensures.bytes)
  ];
}

pub returns-clause-begun : goal.returns-clause-begun
returns-clause-begun g c = begun_so_far _ _ c.args.text.now c.writing.done
    c.writing.invariant.written
