use Rattle.std.proofs.Common.{List, sym, subst}
use Rattle.gateway.specs.declared.settings.LineSettings.{LineSettings}
use Rattle.link.specs.Requests.{FitsAddress}
use Rattle.link.specs.Secondary.{Secondary}
use Rattle.std.specs.List.{AllByRecursion}
use Rattle.sim.specs.Cues.{FitsLine}
use Rattle.sim.proofs.RequestsReceived.{listens}
use Rattle.sim.proofs.Sizes.{HaveSize, begun_sizes}
use Rattle.sim.proofs.stations.outstations.Outstations.new.Goals as goal

pub invariant_of-result : goal.invariant_of-result
invariant_of-result c = record {
  addresses = subst (λ (l : LineSettings).
      AllByRecursion (FitsAddress l.link) c.in_ok-addresses.addresses.items) (sym c.line.ensures)
      c.in_ok-addresses.ensures;
  sizes = subst (λ (l : LineSettings). HaveSize l.link c.in_ok-stations.stations.items)
      (sym c.line.ensures)
      (subst (λ (ss : List Secondary). HaveSize c.args.config.now.line.link ss)
      (sym c.in_ok-stations.ensures) (begun_sizes _ 0 _ _));
  lines = subst (λ (l : LineSettings).
      AllByRecursion (FitsLine l.link) c.args.scenario.cues.items) (sym c.line.ensures)
      c.requires.lines;
  line = c.new.ensures.size;
  listening = listens _ _ c.new.ensures.so_far;
}
