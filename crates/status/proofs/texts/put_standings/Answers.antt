use Rattle.status.proofs.texts.put_standings.Goals as goal

pub returns : goal.returns
returns c =
    rw (
      ← c.is_some-is_connected.ensures,
      ← c.count_up.ensures,
      ← c.keeps.ensures,
      ← c.is_off.ensures,
    )
    c.put_words.ensures
