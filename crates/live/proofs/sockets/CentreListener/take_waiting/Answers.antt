use Rattle.std.proofs.Common.{◌+◌, Option, refl, sym, subst, rules, ◌∙◌}
use Rattle.live.specs.Arrivals.{Comer}
use Rattle.live.proofs.Sorted.{TakesSo, begun, enough, let_in, other, over}
use Rattle.live.proofs.Told.{tells_more, tells_nothing}
use Rattle.live.proofs.sockets.CentreListener.take_waiting.Goals.{in-Allowed, in-Other}
use Rattle.live.proofs.sockets.CentreListener.take_waiting.Goals as goal

pub loop-init : goal.loop-init
loop-init g c = (begun _ _ _, tells_nothing _ _, refl)

pub returns-in-Nobody-clause-tells : goal.returns-in-Nobody-clause-tells
returns-in-Nobody-clause-tells g c =
    tells_more _ _ _ _ _ _ c.loop.invariant.1 c.take_one.ensures.tells

pub returns-in-Nobody-clause-takes : goal.returns-in-Nobody-clause-takes
returns-in-Nobody-clause-takes g c =
    over _ _ _ _ _ _ _ _ _ c.loop.invariant.0 c.in-Nobody.ensures.takes

pub loop-preserved : goal.loop-preserved
loop-preserved g c =
    let P : Option Comer → Type 0 =
    λ n. TakesSo c.args.allow_list.now (g.T.SystemListener.arrivals c.args.self.now.listener)
    c.args.self.now.refused n (c.loop.counter + 1)
    (g.T.SystemListener.arrivals c.take_one.new.self.listener) c.take_one.new.self.refused in (
      elim c.match-take_one.branch [
        | in-Allowed w ↦ subst P (sym w.newest-is)
            (let_in _ _ _ _ _ _ _ _ _ _ _ c.loop.invariant.0 w.in-Allowed.ensures.takes)
        | in-Other w ↦ subst P (sym w.newest-is)
            (other _ _ _ _ _ _ _ _ _ c.loop.invariant.0 w.in-Other.ensures.takes)
      ],
      tells_more _ _ _ _ _ _ c.loop.invariant.1 c.take_one.ensures.tells,
      c.take_one.ensures.unopened ∙ c.loop.invariant.2,
    )

pub returns-clause-takes : goal.returns-clause-takes
returns-clause-takes g c = enough _ _ _ _ _ _ _ (search rules) c.loop.invariant.0

pub returns-clause-tells : goal.returns-clause-tells
returns-clause-tells g c = c.loop.invariant.1

pub returns-clause-unopened : goal.returns-clause-unopened
returns-clause-unopened g c = c.loop.invariant.2

pub returns-in-Nobody-clause-unopened : goal.returns-in-Nobody-clause-unopened
returns-in-Nobody-clause-unopened g c = c.take_one.ensures.unopened ∙ c.loop.invariant.2
