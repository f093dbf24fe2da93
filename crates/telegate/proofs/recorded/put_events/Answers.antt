use Rattle.std.proofs.Common.{◌≡◌, ◌++◌, ◌∷◌, [], List, ℕ, ap, sym, ◌∙◌}
use Rattle.std.specs.Option.{option_copied}
use Rattle.record.specs.Lines.{event_line}
use Rattle.traces.specs.Fields.{parts_after}
use Rattle.telegate.proofs.RecordLemmas.{puts_begin, puts_last, puts_on}
use Rattle.telegate.proofs.recorded.put_events.Goals as goal

pub putting-init : goal.putting-init
putting-init c = puts_begin c.args.lines.now c.args.part.now.items c.requires

pub returns-in_default : goal.returns-in_default
returns-in_default c =
    puts_last c.args.lines.now c.putting.left.now c.putting.part.items c.cut.result.0.now
    c.extend_from_slice.new.self.items c.putting.invariant
    (c.in_ok-extend_from_slice.ensures.items
    ∙ ap (λ (xs : List ℕ). c.putting.part.items ++ xs) c.event_line.ensures)
    (c.cut.ensures ∙ ap (λ o. c.cut.result.0.now ∷ parts_after 10 (option_copied o))
    c.in_default.is)

pub putting-preserved : goal.putting-preserved
putting-preserved c =
    puts_on c.args.lines.now c.putting.left.now c.putting.part.items c.cut.result.0.now
    c.extend_from_slice.new.self.items c.putting.invariant
    (c.in_ok-extend_from_slice.ensures.items
    ∙ ap (λ (xs : List ℕ). c.putting.part.items ++ xs) c.event_line.ensures)
    c.in-Some.behind.now c.push.new.self.items
    (c.cut.ensures ∙ ap (λ o. c.cut.result.0.now ∷ parts_after 10 (option_copied o)) c.in-Some.is)
    c.in_ok-push.ensures.items
