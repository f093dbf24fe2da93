use Rattle.std.proofs.Common.{ℕ, ◌-◌, ◌≤◌, arith}
use Rattle.std.proofs.Common.{List, subst, sym}
use Rattle.elements.specs.Octets.{AreOctets}
use Rattle.asdu.specs.Asdu.{content_len}
use Rattle.asdu.specs.Rest.{address_len}
use Rattle.asdu.proofs.ObjectLists.{AreOctets-drop}
use Rattle.asdu.specs.Sizes.{ioa_len}
use Rattle.asdu.proofs.Steps.{rest_at-step, rest_len-step, length-rest_at, following-in_range}
use Rattle.asdu.proofs.objects.ObjectsIterator.next.Goals as goal

pub invariant_of-self : goal.invariant_of-self
invariant_of-self c =
    let self = c.args.self.now in
    let some : 1 ≤ self.left = omega arith in
    let Octets : List ℕ → Type 0 = λ xs. AreOctets xs in
    record {
      are_octets =
          subst Octets (sym c.split_content.ensures.rest)
          (AreOctets-drop (content_len self.kind) c.split_address-address.result.1.now
          (subst Octets (sym c.split_address-address.ensures.rest)
          (AreOctets-drop (address_len (ioa_len self.ioa) self.next_address) self.octets.now
          self.are_octets)));
      enough = rest_len-step self.kind (ioa_len self.ioa) self.next_address c.next_after-self.result
          self.left
          self.octets.now c.split_address-address.result.1.now c.split_content.result.2.now some
          self.enough
          c.split_address-address.ensures.rest c.split_content.ensures.rest
          c.next_after-self.ensures;
      in_range = following-in_range self.next_address c.next_after-self.result self.left 16777216
          some self.in_range
          c.next_after-self.ensures;
    }

pub returns-clause-steps : goal.returns-clause-steps
returns-clause-steps c =
    let self = c.args.self.now in
    rest_at-step self.kind (ioa_len self.ioa) self.next_address c.next_after-self.result self.left
    c.split_address-address.result.0 self.octets.now c.split_address-address.result.1.now
    c.split_content.result.2.now c.split_content.result.0.now _
    (omega arith) c.split_address-address.ensures.address c.split_address-address.ensures.rest
    c.split_content.ensures.element c.split_content.ensures.tag c.split_content.ensures.rest
    c.next_after-self.ensures

pub returns-clause-goes : goal.returns-clause-goes
returns-clause-goes c =
    let self = c.args.self.now in
    let before = length-rest_at self.kind (ioa_len self.ioa) self.next_address self.left
    self.octets.now in
    let after = length-rest_at self.kind (ioa_len self.ioa) c.next_after-self.result
    (self.left - 1) c.split_content.result.2.now in
    record {
      on = λ _. (tt, tt, omega arith);
      keeps = tt;
      rests = λ _. tt;
    }
