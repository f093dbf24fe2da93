use Rattle.std.proofs.Common.{◌≡◌, false, length, rules}
use Rattle.std.specs.Option.{option_or}
use Rattle.sim.specs.Losses.{turns_said, ack_said, wall_said}
use Rattle.sim.specs.Scripts.{clashes_with}
use Rattle.sim.proofs.Numbering.{numbered_more}
use Rattle.sim.proofs.numbered.Numbered.push.Goals as goal

pub invariant_of-result : goal.invariant_of-result
invariant_of-result c =
    let free : clashes_with c.self.inside.directives.items c.args.directive ≡ false =
    search rules in
    let at : c.len.result ≡ length c.self.inside.directives.items = search rules in
    let turns : c.or-turns.result ≡ option_or c.self.inside.turns (turns_said c.args.directive) =
    search rules in
    let ack : c.or-ack.result ≡ option_or c.self.inside.ack (ack_said c.args.directive) =
    search rules in
    let wall : c.or-wall.result ≡ option_or c.self.inside.wall (wall_said c.args.directive) =
    search rules in
    numbered_more c.self.inside.directives.items c.push.new.self.items c.args.directive
    c.self.inside.turns
    c.or-turns.result c.self.inside.ack c.or-ack.result c.self.inside.wall c.or-wall.result
    c.self.inside.unreceived
    c.note_unreceived.new.unreceived c.self.inside.lost c.note_lost.new.lost c.self.inside.cut
    c.note_cut.new.cut
    c.self.inside.spoilt c.note_spoilt.new.spoilt c.self.inside.sends c.note_sends.new.sends
    c.len.result at
    c.in_ok-push.ensures.items free turns ack wall c.in_ok-note_unreceived.ensures
    c.in_ok-note_lost.ensures
    c.in_ok-note_cut.ensures c.in_ok-note_spoilt.ensures c.in_ok-note_sends.ensures c.self.invariant
