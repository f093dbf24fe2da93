use Rattle.sim.proofs.Spoils.{spoil_refilled}
use Rattle.sim.proofs.receiving.spoil.Goals as goal

pub returns : goal.returns
returns c = spoil_refilled c.args.octets.now.items c.deref_mut.result.now c.deref.result.now
    c.args.place c.requires
    c.deref_mut.ensures.value c.deref.ensures.0
