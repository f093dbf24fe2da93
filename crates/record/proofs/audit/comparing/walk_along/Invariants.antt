-- What is left of both is compared from here on.
use Rattle.std.proofs.Common.{◌≡◌, ◌+◌, length}
use Rattle.std.specs.Option.{option_copied}
use Rattle.traces.specs.Fields.{parts_after}
use Rattle.record.specs.Comparing.{AreWhole, GoesOn}
use Rattle.record.specs.Lines.{whole_lines}
use Rattle.record.proofs.CompareLemmas.{IsLeft}
use Rattle.record.proofs.audit.comparing.walk_along.Given as goal

abbrev pub invariant-walking : goal.invariant-walking
invariant-walking l = record {
  goes : GoesOn l.fn.first (parts_after 10 (option_copied l.fn.lines)) (whole_lines l.fn.run)
      l.number
      (parts_after 10 (option_copied l.left)) (whole_lines l.ahead);
  counted : l.number + length (parts_after 10 (option_copied l.left))
      ≡ l.fn.first + length (parts_after 10 (option_copied l.fn.lines));
  left : IsLeft l.fn.first (parts_after 10 (option_copied l.fn.lines)) l.number
      (parts_after 10 (option_copied l.left));
  whole : AreWhole l.fn.run → AreWhole l.ahead;
}
