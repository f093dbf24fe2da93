use Rattle.std.proofs.Common.{ℕ, List, ◌∷◌, Option, ap, subst, string_bytes, ◌∙◌}
use Rattle.std.specs.Borrow.{Bor}
use Rattle.std.specs.Option.{option_copied}
use Rattle.traces.specs.Fields.{parts_after}
use Rattle.traces.specs.Trace.{lines_of}
use Rattle.words.specs.Pipes.{octets_in}
use Rattle.telegate.proofs.PipeLemmas.{LinesTo, lines_begin, lines_on}
use Rattle.telegate.proofs.piping.show_lines.Goals as goal

pub showing-init : goal.showing-init
showing-init g c = lines_begin c.args.piped c.args.words (lines_of c.args.text.now)
    (string_bytes c.new-lines.result)
    c.new-lines.ensures.bytes

pub showing-preserved : goal.showing-preserved
showing-preserved g c =
    let piped = c.args.piped in
    let words = c.args.words in
    let all : List (List ℕ) = lines_of c.args.text.now in
    let line = c.cut.result.0.now in
    let left : List (List ℕ) = parts_after 10 (option_copied c.cut.result.1) in
    let text : List ℕ = string_bytes c.showing.lines in
    let h : LinesTo piped words all (line ∷ left) text c.showing.condition =
    subst (λ (ls : List (List ℕ)). LinesTo piped words all ls text c.showing.condition)
    (ap (λ (x : Option (Bor (List ℕ))). parts_after 10 (option_copied x)) c.in-Some.is
    ∙ c.cut.ensures)
    c.showing.invariant in
    let added = c.in_ok-condition.ensures piped words (octets_in line) c.in_ok-shown.ensures in
    lines_on piped words all left line text added.text (string_bytes c.push_shown.new.lines)
    c.showing.condition added.one
    c.in_ok-condition.condition h added.shown added.added added.judged
