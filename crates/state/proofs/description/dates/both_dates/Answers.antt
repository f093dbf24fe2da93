use Rattle.std.proofs.Common.{◌≡◌, ℕ, List}
use Rattle.std.proofs.lemmas.Result.{IfOk-weaker}
use Rattle.state.specs.Dates.{AreDates, IsDate, dates_line}
use Rattle.state.proofs.description.dates.both_dates.Goals as goal

dates_are : (latest told : ℕ) (event wall shown others text : List ℕ) → shown ≡ event
    → others ≡ wall → IsDate latest event → IsDate told wall → text ≡ dates_line shown others
    → AreDates latest told text
dates_are latest told event wall shown others text a b p q is =
    record { event = event; wall = wall; event_is = p; wall_is = q; is = cc }

pub returns : goal.returns
returns c = IfOk-weaker c.line_of.result _ _
    (λ text is. dates_are c.args.latest c.args.told _ _ _ _ _ c.deref.ensures c.deref-2.ensures
    c.in_ok-event.ensures c.in_ok-wall.ensures is)
    c.line_of.ensures
