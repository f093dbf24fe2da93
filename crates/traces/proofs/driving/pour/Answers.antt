use Rattle.std.proofs.Common.{◌≡◌, ℕ, ◌++◌, List, Option, IfSome, Bool, subst, sym, ◌∙◌}
use Rattle.std.specs.Result.{is_ok}
use Rattle.gateway.specs.Log.{Log}
use Rattle.traces.specs.Actions.{lines_of_actions}
use Rattle.traces.specs.Pouring.{IsBegun, IsPoured}
use Rattle.traces.proofs.Poured.{poured_more, begun_longer, poured_as}
use Rattle.traces.proofs.driving.pour.Goals as goal
use Rattle.traces.proofs.driving.pour.Goals.{then-is_whole, else-is_whole}

pub returns-clause-poured : goal.returns-clause-poured
returns-clause-poured g c = λ before poured.
    let old = g.W.Write.contents c.args.out.now in
    let xs : List ℕ = lines_of_actions (g.P.Paged.poured c.args.port.now) in
    let ys : List ℕ = c.page-page.result.now in
    let zs : List ℕ = lines_of_actions (g.P.Paged.poured c.clear_page.new.self) in
    let lines : xs ++ ys ≡ zs =
    subst (λ (logged : Option Log). IfSome logged (λ log. xs ++ ys ≡ lines_of_actions log))
    (sym c.clear_page.ensures.poured) c.page-page.ensures in
    elim c.if-is_whole.branch [
      | then-is_whole w ↦
          poured_as g.W.Write.contents before zs c.if-is_whole.is_taken (is_ok w.print.result)
          c.if-is_whole.out
          w.print.new.out (w.is_taken-is ∙ w.is_ok-is_taken.ensures.value) w.out-is
          (poured_more before old (g.W.Write.contents w.print.new.out) xs ys zs w.print.result
          (subst (λ (b : Bool). IsPoured b before old xs) w.if-is_whole.true poured) lines
          w.print.ensures.all w.print.ensures.begun)
      | else-is_whole w ↦
          poured_as g.W.Write.contents before zs c.if-is_whole.is_taken c.args.is_whole
          c.if-is_whole.out c.args.out.now
          w.is_taken-is w.out-is (subst (λ (b : Bool). IsPoured b before old zs)
          (sym w.if-is_whole.false)
          (subst (IsBegun before old) lines (begun_longer before old xs ys
          (subst (λ (b : Bool). IsPoured b before old xs) w.if-is_whole.false poured))))
    ]
