use Rattle.status.proofs.answer.put_body.Goals as goal

pub returns-in-Some : goal.returns-in-Some
returns-in-Some c = rw (← c.in-Some.ensures) c.put_page.ensures

pub returns-in-None : goal.returns-in-None
returns-in-None c = rw (← c.in-None.ensures, ← c.status_of.ensures) c.put_words.ensures
