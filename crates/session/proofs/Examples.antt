-- The examples hold.
use Rattle.std.proofs.Common.{refl, drop}
use Rattle.std.specs.List.{AllByRecursion}
use Rattle.session.specs.Examples.{IsRight, number_examples, transfer_examples, timer_examples}

numbers_hold_from_30 : AllByRecursion IsRight (drop 30 number_examples)
numbers_hold_from_30 = (
  (refl, refl),
  ((refl, refl), ((refl, refl), ((refl, refl), ((refl, refl), ((refl, refl), tt))))),
)

numbers_hold_from_20 : AllByRecursion IsRight (drop 20 number_examples)
numbers_hold_from_20 = (
  refl,
  (refl, (refl, (refl, (refl, (refl, (refl, (refl, (refl, (refl, numbers_hold_from_30))))))))),
)

numbers_hold_from_10 : AllByRecursion IsRight (drop 10 number_examples)
numbers_hold_from_10 = (
  (refl, refl),
  (refl, (refl, (refl, (refl, (refl, (refl, (refl, (refl, (refl, numbers_hold_from_20))))))))),
)

pub numbers_hold : AllByRecursion IsRight number_examples
numbers_hold = (
  refl,
  (
    refl,
    (
      refl,
      (refl, (refl, (refl, (refl, (refl, ((refl, refl), ((refl, refl), numbers_hold_from_10))))))),
    ),
  ),
)

transfers_hold_from_20 : AllByRecursion IsRight (drop 20 transfer_examples)
transfers_hold_from_20 = (refl, (refl, (refl, tt)))

transfers_hold_from_10 : AllByRecursion IsRight (drop 10 transfer_examples)
transfers_hold_from_10 = (
  refl,
  (refl, (refl, (refl, (refl, (refl, (refl, (refl, (refl, (refl, transfers_hold_from_20))))))))),
)

pub transfers_hold : AllByRecursion IsRight transfer_examples
transfers_hold = (
  refl,
  (refl, (refl, (refl, (refl, (refl, (refl, (refl, (refl, (refl, transfers_hold_from_10))))))))),
)

timers_hold_from_20 : AllByRecursion IsRight (drop 20 timer_examples)
timers_hold_from_20 = (refl, (refl, (refl, (refl, (refl, (refl, (refl, (refl, (refl, tt)))))))))

timers_hold_from_10 : AllByRecursion IsRight (drop 10 timer_examples)
timers_hold_from_10 = (
  refl,
  (refl, (refl, (refl, (refl, (refl, (refl, (refl, (refl, (refl, timers_hold_from_20))))))))),
)

pub timers_hold : AllByRecursion IsRight timer_examples
timers_hold = (
  refl,
  (refl, (refl, (refl, (refl, (refl, (refl, (refl, (refl, (refl, timers_hold_from_10))))))))),
)
