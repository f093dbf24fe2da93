use Rattle.status.proofs.html.put_mark.Goals as goal

pub returns : goal.returns
returns c = rw (← c.saturating_sub-marked.ensures) c.put_words.ensures
