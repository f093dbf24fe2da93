use Rattle.std.proofs.Common.{◌≡◌, ◌++◌}
use Rattle.std.specs.Prelude.{Some, None}
use Rattle.elements.specs.TimeTag.{verdict_of}
use Rattle.elements.specs.declared.tag.Verdict.TheVariants.{Good}
use Rattle.command.specs.Numbers.{command_with}
use Rattle.delivery.specs.Ages.{CalendarTime, IsOfCalendar, since_1970, tag_octets}
use Rattle.delivery.proofs.TagAges.{moment_of, exists, near, too_old, too_new, no_wall}
use Rattle.delivery.proofs.ages.tags_are_as_old_as_the_moment_that_they_name.Goals as goal

pub returns : goal.returns
returns c =
    let good : (t : CalendarTime) → IsOfCalendar t
    → verdict_of (tag_octets t) ≡ Good (since_1970 t) =
    λ t is. c.tags_of_moments_are_good.ensures.good (moment_of t) (exists t is) in
    let times = c.rules_hold_for_all_numbers.ensures.times in
    record {
      instant = good;
      fresh = λ most clock kind n element t is not_old not_ahead.
          times.fresh most (Some clock) (command_with kind n (element ++ tag_octets t))
          (near t (good t is) kind n element most clock not_old not_ahead);
      old = λ most clock kind n element t is low high act far.
          times.stale most (Some clock) kind n (element ++ tag_octets t) low high act
          (too_old t (good t is) kind n element most clock far);
      ahead = λ most clock kind n element t is low high act far.
          times.stale most (Some clock) kind n (element ++ tag_octets t) low high act
          (too_new t (good t is) kind n element most clock far);
      no_clock = λ most kind n rest low high act.
          times.stale most None kind n rest low high act
          (no_wall most (command_with kind n rest));
    }
