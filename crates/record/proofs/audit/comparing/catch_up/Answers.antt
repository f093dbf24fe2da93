use Rattle.std.proofs.Common.{◌≡◌, ◌∷◌, false, ap, sym, ◌∙◌}
use Rattle.std.specs.Str.{bytes_eq}
use Rattle.record.specs.Lines.{whole_lines}
use Rattle.record.proofs.CompareLemmas.{off_now, still_behind}
use Rattle.record.proofs.LineLemmas.{none_of, some_of, whole_first, whole_none}
use Rattle.record.proofs.audit.comparing.catch_up.Goals as goal

pub returns-then-is_none : goal.returns-then-is_none
returns-then-is_none c = λ lines more run behind.
    let other = c.cut.result.0.now in
    still_behind lines run more c.args.number c.args.line.items c.args.page.now behind
    (whole_none c.args.page.now other (c.cut.ensures
    ∙ ap (λ ls. other ∷ ls) (none_of c.cut.result.1 c.if-is_none.ensures)))

pub returns : goal.returns
returns c = λ lines more run behind.
    let other = c.cut.result.0.now in
    let some = some_of c.cut.result.1 c.if-is_none.ensures in
    let differs : bytes_eq c.args.line.items other ≡ false =
    ap (λ l. bytes_eq l other) (sym c.as_slice.ensures.value) ∙ sym c.is_same.ensures
    ∙ c.if-is_same.false in
    off_now lines run more c.args.number c.args.line.items c.args.page.now behind other
    (whole_lines some.0)
    (whole_first c.args.page.now other some.0 (c.cut.ensures ∙ ap (λ ls. other ∷ ls) some.1))
    differs
