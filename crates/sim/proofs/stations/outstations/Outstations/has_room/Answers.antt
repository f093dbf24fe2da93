use Rattle.std.proofs.Common.{◌-◌, get_or, ap, sym, ◌∙◌, arith}
use Rattle.std.specs.Prelude.{nat_lt}
use Rattle.sim.specs.Exchanges.{OutstationsState}
use Rattle.sim.specs.Reporting.{has_room}
use Rattle.sim.proofs.Reporting.{no_room_here, no_room_known, room_here}
use Rattle.sim.proofs.stations.outstations.Outstations.has_room.Goals as goal

pub returns-then-station-len-clause-value : goal.returns-then-station-len-clause-value
returns-then-station-len-clause-value c =
    sym (no_room_known c.args.station c.self.inside.had.items c.self.inside.stations.items
    (omega (arith, c.if-station-len.true, c.len.ensures, c.self.inside.had.ok.0)))
    ∙ ap (λ (s : OutstationsState). has_room c.args.station s.had s.stations) c.self.view_is

pub returns-then-station-len-2-clause-value : goal.returns-then-station-len-2-clause-value
returns-then-station-len-2-clause-value c =
    sym (no_room_here c.args.station c.self.inside.had.items c.self.inside.stations.items
    (omega (arith, c.if-station-len-2.true, c.len-2.ensures, c.self.inside.stations.ok.0)))
    ∙ ap (λ (s : OutstationsState). has_room c.args.station s.had s.stations) c.self.view_is

pub returns-clause-value : goal.returns-clause-value
returns-clause-value c =
    ap (λ n. nat_lt n 64) (c.saturating_sub-waiting.ensures
    ∙ (ap (λ n. n - c.given.result) c.index.ensures
    ∙ ap (λ n. get_or c.self.inside.had.items c.args.station c.index.result.now - n)
    c.given.ensures))
    ∙ (sym (room_here c.args.station c.self.inside.had.items c.self.inside.stations.items
    c.index.result.now c.index-2.result.now
    (omega (arith, c.if-station-len.false, c.len.ensures, c.self.inside.had.ok.0))
    (omega (
      arith,
      c.if-station-len-2.false,
      c.len-2.ensures,
      c.self.inside.stations.ok.0,
    )) c.index-2.ensures)
    ∙ ap (λ (s : OutstationsState). has_room c.args.station s.had s.stations) c.self.view_is)
