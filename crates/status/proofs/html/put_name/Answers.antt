use Rattle.status.proofs.html.put_name.Goals as goal

pub returns : goal.returns
returns c = rw (← c.is_empty-is_nameless.ensures) c.put_words.ensures
