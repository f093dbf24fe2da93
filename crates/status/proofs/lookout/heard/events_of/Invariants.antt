use Rattle.std.proofs.Common.{◌≡◌, ◌≤◌, length, take}
use Rattle.status.specs.Shown.{AreEvents}
use Rattle.status.proofs.lookout.heard.events_of.Given as goal

abbrev pub invariant-loop-one : goal.invariant-loop-one
invariant-loop-one l = record {
  counted : length l.events.items ≡ l.one-index;
  few : l.one-index ≤ 20;
  same : AreEvents (take l.one-index l.latest) l.events.items;
}
