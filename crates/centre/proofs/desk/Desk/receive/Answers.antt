use Rattle.std.proofs.Common.{List, ℕ, string_bytes, subst, sym}
use Rattle.std.proofs.lemmas.List.{take_rest}
use Rattle.centre.specs.Desks.{Front, Nothing_yet, Takes, scene}
use Rattle.centre.proofs.desk.Desk.receive.Goals as goal

pub apdus-init : goal.apdus-init
apdus-init g c = Nothing_yet

pub apdus-preserved : goal.apdus-preserved
apdus-preserved g c =
    subst (λ (l : List ℕ). Takes c.args.now c.args.octets.now
    (scene c.args.self.now (string_bytes c.args.text.now)) l
    (scene c.receive_front.new.self (string_bytes c.receive_front.new.text)))
    (sym (take_rest c.apdus.left.now c.in_ok-taken.taken))
    (Front _ _ _ _ c.apdus.invariant c.in_ok-taken.ensures.front)
