use Rattle.std.proofs.Common.{◌≡◌, ◌+◌, List, length, sym, ap, subst, ◌∙◌, arith}
use Rattle.std.specs.List.{AllByRecursion}
use Rattle.link.specs.Secondary.{Secondary}
use Rattle.gateway.specs.declared.settings.LineSettings.{LineSettings}
use Rattle.gateway.specs.Setups.{setup_of}
use Rattle.sim.specs.declared.directive.RequestFate.{RequestFate}
use Rattle.sim.specs.Losses.{fate_of}
use Rattle.sim.specs.Lives.{IsPutOut, arriving, plan_of}
use Rattle.traces.specs.Printout.{Printed}
use Rattle.sim.specs.Tallies.{tallied_asked}
use Rattle.sim.proofs.ReceivingLemmas.{length_out}
use Rattle.sim.proofs.Keeping.{ask_kept, written}
use Rattle.sim.proofs.sim.Sim.ask.Goals as goal

pub arriving-self-inside-requires : goal.arriving-self-inside-requires
arriving-self-inside-requires c =
    c.put_out-answer.ensures.fits c.line.result.now.link
    (subst (λ (l : LineSettings). AllByRecursion (λ s. s.size ≡ l.link) c.as_mut_slice.result.now)
    (sym c.line.ensures)
    (subst (λ (ss : List Secondary). AllByRecursion (λ s. s.size
    ≡ c.self.inside.config.now.line.link) ss)
    (sym c.as_mut_slice.ensures.value) c.self.invariant.1.sizes))

pub invariant_of-self-2 : goal.invariant_of-self-2
invariant_of-self-2 c =
    let more : c.in-Some.requests ≡ c.self.inside.requests + 1 = c.in-Some.ensures.next in
    let fate : c.fate-fate.result ≡ fate_of c.self.inside.script.now (c.self.inside.requests + 1) =
    c.fate-fate.ensures ∙ ap (fate_of c.self.inside.script.now) more in
    let out : IsPutOut c.fate-fate.result c.args.octets.now c.self.inside.stations.items
    c.put_out-answer.result
    c.put_out-answer.new.stations =
    subst (λ (ss : List Secondary). IsPutOut c.fate-fate.result c.args.octets.now ss
    c.put_out-answer.result
    c.put_out-answer.new.stations) c.as_mut_slice.ensures.value c.put_out-answer.ensures.out in
    let same : length c.put_out-answer.new.stations ≡ length c.self.inside.stations.items =
    length_out c.fate-fate.result c.args.octets.now c.self.inside.stations.items
    c.put_out-answer.new.stations
    c.put_out-answer.result out in (
      c.self.invariant.0,
      ask_kept c.station_is_an_outstation.ensures.size
          (plan_of c.self.inside.config.now c.self.inside.script.now) c.self.inside.page.log _
          c.self.inside.stations.items c.put_out-answer.new.stations _ _ c.args.now
          c.args.octets.now
          c.put_out-answer.result _ _ _
          (ap (λ (p : Printed). p.log) c.in_ok-went.ensures.ok) more c.in-Some.ensures.small
          (subst (λ (f : RequestFate). IsPutOut f c.args.octets.now c.self.inside.stations.items
          c.put_out-answer.result
          c.put_out-answer.new.stations) fate out)
          (written c.self.inside.stations.items c.put_out-answer.new.stations
          c.self.inside.stations.len
          (omega (arith, same, c.self.inside.stations.ok.0, c.self.inside.stations.ok.1)))
          (c.arriving-self-inside.ensures
          ∙ ap (λ (l : LineSettings). arriving l.link c.fate-fate.result c.put_out-answer.result)
          c.line.ensures
          ∙ ap (λ (f : RequestFate). arriving c.self.inside.config.now.line.link f
          c.put_out-answer.result)
          fate)
          (c.put_out-answer.ensures.fits c.self.inside.config.now.line.link
          (subst (λ (ss : List Secondary). AllByRecursion (λ s. s.size
          ≡ c.self.inside.config.now.line.link) ss)
          (sym c.as_mut_slice.ensures.value) c.self.invariant.1.sizes))
          (c.ask.ensures ∙ ap (λ (ss : List Secondary). tallied_asked
          (setup_of c.self.inside.config.now) c.args.now c.args.octets.now ss c.self.inside.tallies)
          c.as_slice.ensures.value)
          c.self.invariant.1,
    )
