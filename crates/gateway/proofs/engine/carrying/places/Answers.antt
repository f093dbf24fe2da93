use Rattle.std.proofs.Common.{◌≡◌, ◌++◌, ◌∷◌, [], ◌∙◌, ℕ, None, refl, rules}
use Rattle.std.specs.Prelude.{Option, get_or}
use Rattle.link.specs.declared.seat.ResumedStation.{ResumedStation}
use Rattle.gateway.proofs.Reseating.{one_more}
use Rattle.gateway.proofs.engine.carrying.places.Goals as goal

pub loop-seat-preserved : goal.loop-seat-preserved
loop-seat-preserved c =
    let i = c.loop-seat.seat-index in
    let other : ResumedStation = record { address = 0; before = None } in
    let d = c.push.ensures.items in
    let e = c.map_err.ensures in
    let place : Option ℕ = (get_or c.args.seats.now i other).before in
    let items : c.push.new.self.items ≡ c.loop-seat.found.items ++ place ∷ [] = search rules in
    items ∙ one_more (λ (s : ResumedStation). s.before) c.args.seats.now i other
    c.loop-seat.found.items place
    c.loop-seat-test.true c.loop-seat.invariant refl
