use Rattle.status.proofs.answer.put_head_for.Goals as goal

pub returns-in-Some : goal.returns-in-Some
returns-in-Some c =
    rw (c.in-Some.ensures, ← c.allow_of-allow.ensures, ← c.status_of.ensures, ← c.kind_of.ensures)
    c.put_head.ensures

pub returns-in-None : goal.returns-in-None
returns-in-None c = rw (c.in-None.ensures) c.put_head-in-None.ensures
