use Rattle.status.proofs.json.put_before_summary.Goals as goal

pub returns : goal.returns
returns c = rw (← c.judge.ensures) c.put_words.ensures
