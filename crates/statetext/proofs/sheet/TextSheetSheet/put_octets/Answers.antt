use Rattle.std.proofs.Common.{◌∙◌}
use Rattle.statetext.proofs.TextLemmas.{octets_put, octets_whole}
use Rattle.statetext.proofs.sheet.TextSheetSheet.put_octets.Goals as goal

pub returns : goal.returns
returns g c =
    octets_put c.append.result _ _ _ _ c.args.self.now.whole c.type_inv.line
    (c.deref.ensures.value ∙ c.in_ok-spell_octets.ensures) c.append.ensures.put

pub invariant_of-self-2 : goal.invariant_of-self-2
invariant_of-self-2 g c = record {
  whole = octets_whole c.append.result _ _ _ _ c.args.self.now.whole c.type_inv.line
      (c.deref.ensures.value ∙ c.in_ok-spell_octets.ensures) c.append.ensures.put
      c.append.ensures.none;
}
