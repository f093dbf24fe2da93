use Rattle.std.proofs.Common.{ℕ, List, Some, None, Vec, map, ap, sym, ◌∙◌, arith}
use Rattle.std.specs.declared.alloc.Global.{Global}
use Rattle.sim.proofs.Replying.{command_read, fits_now, next_now}
use Rattle.sim.proofs.stations.outstations.Outstations.next.Goals as goal

abbrev octets : Vec ℕ Global → List ℕ
octets v = v.items

pub returns-in-Some : goal.returns-in-Some
returns-in-Some c = (
  next_now _ _ c.self.view_is c.args.station c.args.refuses c.index.result.now
      c.index-2.result.now (map octets c.accepted-accepted.result.now) c.as_slice-command.result.now
      (Some c.in-Some.reply)
      (omega (arith, c.if-station-len.false, c.len.ensures, c.self.inside.progress.ok.0))
      c.index.ensures
      (omega (
        arith,
        c.if-station-len-2.false,
        c.len-else-station-len.ensures,
        c.self.inside.stations.ok.0,
      )) c.index-2.ensures c.accepted-accepted.ensures
      (command_read octets c.accepted-accepted.result.now c.index.result.now.commands
      c.index-accepted-commands.result c.if-commands-accepted.false c.index-accepted-commands.is
      ∙ ap (λ (l : List ℕ). Some l) (sym c.as_slice-command.ensures.value))
      c.in-Some.ensures.reply,
  fits_now _ _ c.self.view_is c.in-Some.reply c.in-Some.ensures.fits,
)

pub returns-in-None : goal.returns-in-None
returns-in-None c =
    next_now _ _ c.self.view_is c.args.station c.args.refuses c.index.result.now
    c.index-2.result.now (map octets c.accepted-accepted.result.now) c.as_slice-command.result.now
    None (omega (arith, c.if-station-len.false, c.len.ensures, c.self.inside.progress.ok.0))
    c.index.ensures
    (omega (
      arith,
      c.if-station-len-2.false,
      c.len-else-station-len.ensures,
      c.self.inside.stations.ok.0,
    )) c.index-2.ensures c.accepted-accepted.ensures
    (command_read octets c.accepted-accepted.result.now c.index.result.now.commands
    c.index-accepted-commands.result c.if-commands-accepted.false c.index-accepted-commands.is
    ∙ ap (λ (l : List ℕ). Some l) (sym c.as_slice-command.ensures.value))
    c.in-None.ensures.reply
