use Rattle.std.proofs.Common.{true, ◌≡◌, ℕ, List, [], length, sym, subst, ◌∙◌}
use Rattle.std.proofs.lemmas.Bool.{eqb-true}
use Rattle.std.proofs.lemmas.List.{nil_from_length, take_rest}
use Rattle.sim.proofs.RequestsReceived.{IsReceiving, all_received, more_received, rest_received}
use Rattle.sim.proofs.RequestsReceived.{untaken_received}
use Rattle.sim.proofs.stations.outstations.Outstations.receive.Goals as goal

pub frames-preserved : goal.frames-preserved
frames-preserved g c =
    subst (λ (l : List ℕ). IsReceiving c.args.self.now c.args.octets.now l
    (g.S.OctetStream.history c.args.stream.now) (g.S.OctetStream.history c.receive_front.new.stream)
    c.receive_front.new.self true)
    (sym (take_rest c.frames.left.now c.in-Answered.taken))
    (more_received _ _ _ _ _ _ _ _ _ _ c.frames.invariant c.in-Answered.ensures.0)

pub returns-in-NotTaken : goal.returns-in-NotTaken
returns-in-NotTaken g c =
    untaken_received _ _ _ _ _ _ _ _ c.frames.invariant c.in-NotTaken.ensures

pub returns-in-Rest : goal.returns-in-Rest
returns-in-Rest g c = rest_received _ _ _ _ _ _ _ _ c.frames.invariant c.in-Rest.ensures

pub returns : goal.returns
returns g c =
    let none : c.frames.left.now ≡ [] =
    nil_from_length c.frames.left.now
    (eqb-true (length c.frames.left.now) 0 (sym c.is_empty.ensures ∙ c.frames-test.false)) in
    all_received _ _ _ _ _ _ c.frames.invariant none
