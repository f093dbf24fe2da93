use Rattle.std.proofs.Common.{List, ℕ, ap, drop, subst, sym}
use Rattle.statetext.specs.Text.{lines_in}
use Rattle.state.specs.Beginnings.{IsHeadOf}
use Rattle.state.specs.Unread.{HasState}
use Rattle.state.proofs.UnreadLemmas.{err_of, if_err_map, other_wrong}
use Rattle.state.proofs.looking.see.Goals as goal

pub returns-in_err-opening-clause-wrong : goal.returns-in_err-opening-clause-wrong
returns-in_err-opening-clause-wrong g c =
    err_of _ c.from_residual.result c.in_err-opening.field-0.0 c.from_residual.ensures.1
    (λ wrong some state. c.in_err-opening.ensures.wrong wrong some (c.requires.honest _)
    (subst HasState (sym (ap (λ d. g.D.Disk.seen d) c.read_opening.ensures.newest))
    state))

pub returns-clause-wrong : goal.returns-clause-wrong
returns-clause-wrong g c =
    let lines : List (List ℕ) =
    lines_in (drop c.in_ok-opening.opening.lines.at c.in_ok-opening.opening.lines.text.items) in
    if_err_map c.see_behind.result c.see_behind.ensures.wrong
    (λ fault none wrong some state.
    other_wrong (g.D.Disk.seen c.args.start.now.newest) c.read_opening.new.start.at
    c.in_ok-opening.opening.settings.items lines
    (subst (λ d. IsHeadOf (g.D.Disk.seen d) c.read_opening.new.start.at
    c.in_ok-opening.opening.settings.items lines) c.read_opening.ensures.newest
    (c.in_ok-opening.ensures.head (c.requires.honest _)))
    (none wrong) state)
