use Rattle.std.proofs.Common.{◌≡◌, ◌∙◌, ap, subst, sym}
use Rattle.gateway.specs.Restored.{state_lines}
use Rattle.state.specs.Keeping.{Keeping}
use Rattle.state.specs.Logs.{IsReadWell, leaves_amid}
use Rattle.state.proofs.keeper.Keeper+Pair+P+DiskStore+F.stopped_amid_a_renewal.Goals as goal

pub returns : goal.returns
returns g c =
    let store_is : c.into_store-store.result ≡ c.args.self.ends.store =
    c.into_store-store.ensures ∙ ap (λ (k : Keeping _). k.ends.store) c.self.view_is in
    record {
      amid = λ kept none mixing well file other left.
          c.survives.ensures.amid kept mixing c.args.gateway.now c.args.self.ends.store.number
          file other (subst (λ s. leaves_amid s.opened s.number s.settings.items
          (state_lines c.args.gateway.now) file other) store_is
          (c.begin-is_begun.ensures.amid none mixing (subst (λ s. IsReadWell s.opened)
          (sym store_is) well) file other left));
    }
