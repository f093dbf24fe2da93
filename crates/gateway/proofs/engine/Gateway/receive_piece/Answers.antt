use Rattle.std.proofs.Common.{arith, subst, true}
use Rattle.gateway.specs.State.{State, with_serial}
use Rattle.gateway.specs.Steps.{Receives}
use Rattle.gateway.proofs.Gathering.{receives_none, receives_rest}
use Rattle.gateway.proofs.Onward.{rest_is}
use Rattle.gateway.proofs.engine.Gateway.receive_piece.Goals as goal

pub returns-then-count-octets : goal.returns-then-count-octets
returns-then-count-octets c =
    let a = c.self.inside in
    let s : State = record {
      serial = a.serial;
      centre = a.centre;
      sizes = a.sizes;
      moment = a.moment;
      wall =
          a.wall;
    } in
    let both = c.gather_inner-count.ensures.all c.if-count-octets.true in
    subst (λ (x : State). Receives x c.args.octets.now true
    (with_serial c.gather_inner-count.new.self s)) c.self.view_is
    (receives_none s c.gather_inner-count.new.self c.args.octets.now both.0 both.1)

pub returns : goal.returns
returns c =
    let a = c.self.inside in
    let s : State = record {
      serial = a.serial;
      centre = a.centre;
      sizes = a.sizes;
      moment = a.moment;
      wall =
          a.wall;
    } in
    let n = c.gather_inner-count.result in
    let both = c.gather_inner-count.ensures.rest
    (omega (arith, c.if-count-octets.false, c.gather_inner-count.ensures.within)) in
    subst (λ (x : State). Receives x c.args.octets.now c.receive_end.result c.receive_end.new.self)
    c.self.view_is
    (receives_rest s c.gather_inner-count.new.self c.args.octets.now n c.receive_end.result
    c.receive_end.new.self both.0 both.1
    (subst (λ end. Receives (with_serial c.gather_inner-count.new.self s) end c.receive_end.result
    c.receive_end.new.self)
    (rest_is n c.args.octets.now) c.receive_end.ensures))
