use Rattle.std.proofs.Common.{◌≡◌, ◌≤◌, None, length, take}
use Rattle.command.specs.Tags.{newest_tag}
use Rattle.command.proofs.tags.newest_tag.Given as goal

-- those behind the place are of other targets
abbrev pub invariant-sendings : goal.invariant-sendings
invariant-sendings l = record {
  others : newest_tag l.target None (take l.place l.sendings.items)
      ≡ newest_tag l.target None l.sendings.items;
  within : l.place ≤ length l.sendings.items;
}

abbrev pub decreases-sendings : goal.decreases-sendings
decreases-sendings l = l.place
