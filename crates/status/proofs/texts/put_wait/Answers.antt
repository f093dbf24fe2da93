use Rattle.status.proofs.texts.put_wait.Goals as goal

pub returns : goal.returns
returns c = rw (← c.age_count.ensures, ← c.age_unit.ensures) c.put_words.ensures
