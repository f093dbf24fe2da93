use Rattle.status.proofs.table.put_performance.Goals as goal

pub returns : goal.returns
returns c =
    rw (← c.count_up.ensures, ← c.unfilled.ensures, ← c.oldest_seconds.ensures) c.put_words.ensures
