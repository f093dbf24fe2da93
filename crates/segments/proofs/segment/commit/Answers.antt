use Rattle.segments.proofs.segment.commit.Goals as goal

pub returns-in-Err-clause-kept : goal.returns-in-Err-clause-kept
returns-in-Err-clause-kept g c = λ n text most long begins file left.
    c.store.ensures.kept n text most long begins file (c.sync.ensures.crash file left)
