use Rattle.std.proofs.Common.{rules, subst, sym}
use Rattle.state.specs.Origins.{IsNumbered}
use Rattle.state.proofs.BegunLemmas.{of_two}
use Rattle.state.proofs.beginning.put_aside.Goals as goal

pub put_aside-requires : goal.put_aside-requires
put_aside-requires g c = record {
  locked = search rules;
  marked = search rules;
  unread = c.requires.unread;
}

pub returns-clause-numbered : goal.returns-clause-numbered
returns-clause-numbered g c =
    of_two c.anew.result c.anew.ensures.store c.anew.ensures.moment (λ b store moment.
    subst (λ s. IsNumbered {D = _} {g = g.F.File.Disk} s.number s.opened) (sym store)
    (subst (λ o. IsNumbered {D = _} {g = g.F.File.Disk} c.new-store.result.number o)
    (sym c.new-store.ensures.opened) c.new-store.ensures.number))
