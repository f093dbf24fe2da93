use Rattle.status.proofs.html.put_meter.Goals as goal

pub returns : goal.returns
returns c = rw (← c.good_queue.ensures, ← c.unfilled.ensures) c.put_words.ensures
