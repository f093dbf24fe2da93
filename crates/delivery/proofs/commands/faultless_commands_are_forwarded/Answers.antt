use Rattle.std.proofs.Common.{inl, inr}
use Rattle.delivery.proofs.Forwarded.{forwarded, needs_none}
use Rattle.delivery.proofs.commands.faultless_commands_are_forwarded.Goals as goal

pub returns : goal.returns
returns c = record {
  direct = λ p log course newer older now wall xs answer r is faultless places free.
      forwarded p course.works.history newer older now wall xs answer
      (c.courses_keep_commands.ensures p log course r).passes is
      (record { faultless = faultless; places = places; free = inl (needs_none p xs free) });
  selected = λ p log course newer older now wall xs answer r is faultless places execute selected.
      forwarded p course.works.history newer older now wall xs answer
      (c.courses_keep_commands.ensures p log course r).passes is
      (record { faultless = faultless; places = places; free = inr (execute, selected) });
}
