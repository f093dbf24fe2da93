use Rattle.status.proofs.texts.put_line.Goals as goal

pub returns : goal.returns
returns c =
    rw (← c.is_empty.ensures, ← c.has_gone.ensures, ← c.is_awaited.ensures) c.put_words.ensures
