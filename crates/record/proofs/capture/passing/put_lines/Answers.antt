use Rattle.std.proofs.Common.{ℕ, ◌∷◌, List, Option, map, ap, refl, subst, sym, ◌∙◌}
use Rattle.std.specs.Borrow.{Bor}
use Rattle.std.specs.Option.{option_copied}
use Rattle.traces.specs.Fields.{parts_after}
use Rattle.record.specs.Texts.{kept_line}
use Rattle.record.proofs.WholeLemmas.{PutTo, put_begins, put_on, put_wrong}
use Rattle.record.proofs.capture.passing.put_lines.Goals as goal

pub passing-init : goal.passing-init
passing-init c = put_begins _ _ _ _ _ refl

pub returns-then-not-branch : goal.returns-then-not-branch
returns-then-not-branch c =
    let all = map kept_line (parts_after 10 (option_copied c.args.lines)) in
    let left = parts_after 10 (option_copied c.cut.result.1) in
    let line = c.cut.result.0.now in
    let h : PutTo all (map kept_line (line ∷ left)) c.args.first c.passing.number
    c.args.capture.now c.args.page.now c.passing.page c.passing.capture =
    subst (λ (ls : List (List ℕ)). PutTo all (map kept_line ls) c.args.first c.passing.number
    c.args.capture.now c.args.page.now c.passing.page c.passing.capture)
    (ap (λ (x : Option (Bor (List ℕ))). parts_after 10 (option_copied x)) c.in-Some.is
    ∙ c.cut.ensures)
    c.passing.invariant in
    put_wrong all (map kept_line left) (kept_line line) c.args.first c.passing.number
    c.args.capture.now c.passing.capture c.put_line.new.capture c.args.page.now c.passing.page
    c.put_line.new.page h c.in_ok-put_line.ensures.put c.in_ok-put_line.ensures.after
    (sym c.in_ok-put_line.ensures.line ∙ c.if-not-branch.true)

pub passing-preserved : goal.passing-preserved
passing-preserved c =
    let all = map kept_line (parts_after 10 (option_copied c.args.lines)) in
    let left = parts_after 10 (option_copied c.cut.result.1) in
    let line = c.cut.result.0.now in
    let h : PutTo all (map kept_line (line ∷ left)) c.args.first c.passing.number
    c.args.capture.now c.args.page.now c.passing.page c.passing.capture =
    subst (λ (ls : List (List ℕ)). PutTo all (map kept_line ls) c.args.first c.passing.number
    c.args.capture.now c.args.page.now c.passing.page c.passing.capture)
    (ap (λ (x : Option (Bor (List ℕ))). parts_after 10 (option_copied x)) c.in-Some.is
    ∙ c.cut.ensures)
    c.passing.invariant in
    put_on all (map kept_line left) (kept_line line) c.args.first c.passing.number
    c.args.capture.now c.passing.capture c.put_line.new.capture c.args.page.now c.passing.page
    c.put_line.new.page h c.in_ok-put_line.ensures.put c.in_ok-put_line.ensures.after
    (sym c.in_ok-put_line.ensures.line ∙ c.if-not-branch.false)
