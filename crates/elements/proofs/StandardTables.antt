-- The table of types is the standard's, and the worked examples hold.
use Rattle.std.proofs.Common.{◌≡◌, refl}
use Rattle.std.specs.List.{AllByRecursion}
use Rattle.jiff_core.specs.Calendar.{day_count, days_from_civil, days_of_months, days_of_years}
use Rattle.jiff_core.specs.Calendar.{weekday_number}
use Rattle.elements.specs.Standard.{IsJudgedSo}
use Rattle.elements.specs.Standard.{tag_examples}

pub tags_hold : AllByRecursion IsJudgedSo tag_examples
unfolding days_from_civil day_count days_of_years days_of_months weekday_number
tags_hold = (refl, (refl, (refl, (refl, (refl, tt)))))
