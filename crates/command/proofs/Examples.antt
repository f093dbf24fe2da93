-- The examples hold.
use Rattle.std.proofs.Common.{◌≡◌, ℕ, zero, suc, List, [], ◌∷◌, take, drop, refl, pos}
use Rattle.jiff_core.specs.Calendar.{days_from_civil, day_count, days_of_years, days_of_months}
use Rattle.jiff_core.specs.Calendar.{weekday_number}
use Rattle.std.specs.List.{AllByRecursion}
use Rattle.command.specs.Examples.{OctetExamples, IsRight, WaitsSo, rule_examples}
use Rattle.command.specs.Examples.{selection_examples, line_examples, tag_examples, BearsIt}
use Rattle.command.specs.Examples.{mirror_examples}

pub octets_hold : OctetExamples
octets_hold = record {
  process_types = refl;
  activations = refl;
  deactivations = refl;
  positive = refl;
  negative = refl;
  no_tests = refl;
  tagged_types = refl;
  plain_types = refl;
  executing_types = refl;
  executing_causes = refl;
  executing_elements = refl;
  executing_set_points = refl;
  selecting_types = refl;
  selecting_tagged = refl;
  elements = refl;
  tags = refl;
  no_tag = refl;
  selecting_causes = refl;
  not_selecting = refl;
  interrogations = refl;
  double_states = refl;
  step_states = refl;
  single_states = refl;
}

rules_hold_from_40 : AllByRecursion IsRight (drop 40 rule_examples)
rules_hold_from_40 = (refl, (refl, (refl, (refl, (refl, (refl, (refl, tt)))))))

rules_hold_from_30 : AllByRecursion IsRight (drop 30 rule_examples)
rules_hold_from_30 = (
  refl,
  (refl, (refl, (refl, (refl, (refl, (refl, (refl, (refl, (refl, rules_hold_from_40))))))))),
)

rules_hold_from_20 : AllByRecursion IsRight (drop 20 rule_examples)
rules_hold_from_20 = (
  refl,
  (refl, (refl, (refl, (refl, (refl, (refl, (refl, (refl, (refl, rules_hold_from_30))))))))),
)

rules_hold_from_10 : AllByRecursion IsRight (drop 10 rule_examples)
rules_hold_from_10 = (
  refl,
  (refl, (refl, (refl, (refl, (refl, (refl, (refl, (refl, (refl, rules_hold_from_20))))))))),
)

pub rules_hold : AllByRecursion IsRight rule_examples
rules_hold = (
  refl,
  (refl, (refl, (refl, (refl, (refl, (refl, (refl, (refl, (refl, rules_hold_from_10))))))))),
)

selections_hold_from_50 : AllByRecursion IsRight (drop 50 selection_examples)
selections_hold_from_50 = (refl, (refl, (refl, (refl, (refl, (refl, (refl, tt)))))))

selections_hold_from_40 : AllByRecursion IsRight (drop 40 selection_examples)
selections_hold_from_40 = (
  refl,
  (refl, (refl, (refl, (refl, (refl, (refl, (refl, (refl, (refl, selections_hold_from_50))))))))),
)

selections_hold_from_30 : AllByRecursion IsRight (drop 30 selection_examples)
selections_hold_from_30 = (
  refl,
  (refl, (refl, (refl, (refl, (refl, (refl, (refl, (refl, (refl, selections_hold_from_40))))))))),
)

selections_hold_from_20 : AllByRecursion IsRight (drop 20 selection_examples)
selections_hold_from_20 = (
  refl,
  (refl, (refl, (refl, (refl, (refl, (refl, (refl, (refl, (refl, selections_hold_from_30))))))))),
)

selections_hold_from_10 : AllByRecursion IsRight (drop 10 selection_examples)
selections_hold_from_10 = (
  refl,
  (refl, (refl, (refl, (refl, (refl, (refl, (refl, (refl, (refl, selections_hold_from_20))))))))),
)

pub selections_hold : AllByRecursion IsRight selection_examples
selections_hold = (
  refl,
  (refl, (refl, (refl, (refl, (refl, (refl, (refl, (refl, (refl, selections_hold_from_10))))))))),
)

-- 29 February 2024 is the 19782nd day after 1 January 1970, and a Thursday
day : days_from_civil (pos 2024) 2 29 ≡ pos 19782
unfolding days_from_civil day_count days_of_years days_of_months
day = refl

weekday : weekday_number (pos 19782) ≡ 3
unfolding weekday_number
weekday = refl

pub lines_hold : AllByRecursion WaitsSo line_examples
lines_hold =
    rw (day, weekday)
    (refl, (refl, (refl, (refl, (refl, (refl, (refl, (refl, (refl, (refl, (refl, tt)))))))))))

-- A table is shown some rows at a time.
joined : {X : Type 0} (P : X → Type 0) (n : ℕ) (xs : List X) → AllByRecursion P (take n xs)
    → AllByRecursion P (drop n xs) → AllByRecursion P xs
joined P zero xs all rest = rest
joined P (suc n) [] all rest = rest
joined P (suc n) (x ∷ xs) all rest = (all.0, joined P n xs all.1 rest)

tags_hold_from_30 : AllByRecursion IsRight (drop 30 tag_examples)
tags_hold_from_30 =
    rw (day, weekday) (refl, (refl, (refl, (refl, (refl, (refl, (refl, (refl, tt))))))))

tags_hold_from_20 : AllByRecursion IsRight (drop 20 tag_examples)
tags_hold_from_20 = joined IsRight 10 (drop 20 tag_examples)
    (rw (day, weekday)
    (refl, (refl, (refl, (refl, (refl, (refl, (refl, (refl, (refl, (refl, tt)))))))))))
    tags_hold_from_30

tags_hold_from_10 : AllByRecursion IsRight (drop 10 tag_examples)
tags_hold_from_10 = joined IsRight 10 (drop 10 tag_examples)
    (rw (day, weekday)
    (refl, (refl, (refl, (refl, (refl, (refl, (refl, (refl, (refl, (refl, tt)))))))))))
    tags_hold_from_20

pub tags_hold : AllByRecursion IsRight tag_examples
tags_hold = joined IsRight 10 tag_examples
    (rw (day, weekday)
    (refl, (refl, (refl, (refl, (refl, (refl, (refl, (refl, (refl, (refl, tt)))))))))))
    tags_hold_from_10

mirrors_hold_from_10 : AllByRecursion BearsIt (drop 10 mirror_examples)
mirrors_hold_from_10 = rw (day, weekday) (refl, (refl, (refl, (refl, (refl, tt)))))

pub mirrors_hold : AllByRecursion BearsIt mirror_examples
mirrors_hold = joined BearsIt 10 mirror_examples
    (rw (day, weekday)
    (refl, (refl, (refl, (refl, (refl, (refl, (refl, (refl, (refl, (refl, tt)))))))))))
    mirrors_hold_from_10
