use Rattle.status.proofs.html.put_head.Goals as goal

pub returns : goal.returns
returns c = rw (← c.judge.ensures, ← c.is_empty-is_nameless.ensures) c.put_words.ensures
