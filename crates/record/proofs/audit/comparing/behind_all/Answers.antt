use Rattle.std.proofs.Common.{◌≡◌, ◌+◌, ◌++◌, ◌∷◌, true, length, take, get_or, ap, sym, ◌∙◌, rules}
use Rattle.std.proofs.lemmas.List.{take_rest}
use Rattle.std.specs.Str.{bytes_eq}
use Rattle.record.proofs.CompareLemmas.{front_is}
use Rattle.record.proofs.audit.comparing.behind_all.Goals as goal

pub returns : goal.returns
returns c =
    let lines = c.args.lines.now in
    let run = c.args.run.now in
    let feed : get_or run (length lines) 0 ≡ 10 = search (rules, c.if-feed-ne-LINE_FEED.false) in
    let same : bytes_eq lines (take (length lines) run) ≡ true = sym c.is_same.ensures
    ∙ c.if-not-is_same.false in (
      front_is lines run c.if-end-run.false feed same
          ∙ ap (λ xs. lines ++ 10 ∷ xs) (sym (take_rest run (length lines + 1))),
      sym c.is_cut.ensures ∙ c.if-is_cut.false,
    )
