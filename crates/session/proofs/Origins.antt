-- Frames of the queue and own answers are counted apart.
use Rattle.std.proofs.Common.{◌≡◌, ℕ, suc, ◌+◌, cond, List, ◌∷◌, arith}
use Rattle.std.proofs.lemmas.List.Sums.{sum_by-cons}
use Rattle.session.specs.declared.kinds.FrameOrigin.TheVariants.{Queue}
use Rattle.session.specs.declared.kinds.Unacknowledged.{Unacknowledged}
use Rattle.session.specs.Session.{is_from_queue, from_queue}

pub one_more : (moment : ℕ) (others : List Unacknowledged)
    → from_queue (record { kind = Queue; moment = moment } ∷ others) ≡ suc (from_queue others)
one_more moment others =
    let counted : from_queue (record { kind = Queue; moment = moment } ∷ others)
    ≡ 1 + from_queue others =
    sum_by-cons (λ (u : Unacknowledged). cond (is_from_queue u.kind) 1 0)
    (record { kind = Queue; moment = moment }) others in
    omega (arith, counted)
