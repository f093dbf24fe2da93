use Rattle.status.proofs.words.put_counted.Goals as goal

pub returns-in-Up : goal.returns-in-Up
returns-in-Up c = rw (c.in-Up.is, ← c.up_of.ensures) c.put_number.ensures
