use Rattle.status.proofs.texts.put_troubles.Goals as goal

pub returns : goal.returns
returns c =
    rw (
      ← c.judge.ensures,
      ← c.is_some-is_connected.ensures,
      ← c.cannot_keep-is_lost.ensures,
      ← c.is_full.ensures,
      ← c.has_gone.ensures,
      ← c.is_awaited.ensures,
    )
    c.put_words.ensures
