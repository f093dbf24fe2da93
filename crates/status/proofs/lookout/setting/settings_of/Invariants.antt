use Rattle.std.proofs.Common.{◌≡◌, ◌≤◌, length, map, take}
use Rattle.status.specs.Shown.{chosen_as, viewed_as}
use Rattle.status.proofs.lookout.setting.settings_of.Given as goal

abbrev pub invariant-loop-one : goal.invariant-loop-one
invariant-loop-one l = record {
  counted : length l.settings.items ≡ l.one-index;
  few : l.one-index ≤ 16;
  same : map viewed_as l.settings.items ≡ take l.one-index (map chosen_as l.chosen);
}
