use Rattle.std.proofs.Common.{◌≡◌, ◌<◌, length, ◌-◌}
use Rattle.link.specs.Turns.{first_after}
use Rattle.link.proofs.turn.first_wanted.Given as goal

abbrev pub invariant-loop-seen : goal.invariant-loop-seen
invariant-loop-seen g l = record {
  in_range : l.place < length l.stations;
  same : first_after l.burst l.may_poll l.stations (g.U.LinkUser.waiting l.user)
      (length l.stations - l._seen) l.place
      ≡ first_after l.burst l.may_poll l.stations (g.U.LinkUser.waiting l.user) (length l.stations)
      l.fn.turn;
}
