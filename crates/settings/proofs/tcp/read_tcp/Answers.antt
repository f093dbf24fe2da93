use Rattle.std.proofs.Common.{refl}
use Rattle.settings.proofs.tcp.read_tcp.Goals as goal

-- what each key gives, one after the other; by hand, since the search takes long over seven
pub returns : goal.returns
returns c =
    rw (
      ← c.in_ok-k.ensures.value,
      ← c.in_ok-w.ensures.value,
      ← c.in_ok-t1_ms.ensures.value,
      ← c.in_ok-t2_ms.ensures.value,
      ← c.in_ok-t3_ms.ensures.value,
      ← c.in_ok-select_ms.ensures.value,
      ← c.in_ok-max_age_ms.ensures.value,
      c.from.ensures,
      c.from-2.ensures,
      c.from-3.ensures,
      c.from-4.ensures,
      c.from-5.ensures,
    ) refl
