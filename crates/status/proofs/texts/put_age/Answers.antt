use Rattle.status.proofs.texts.put_age.Goals as goal

pub returns : goal.returns
returns c = rw (← c.seconds-seconds.ensures, ← c.age_count.ensures, ← c.age_unit.ensures)
    c.put_words.ensures
