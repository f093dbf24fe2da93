use Rattle.telegate.specs.Answers.{IsReplayed}
use Rattle.telegate.specs.Source.{Gives}
use Rattle.telegate.specs.declared.manner.Manner.{Manner}
use Rattle.telegate.specs.declared.manner.Manner.TheVariants.{Lines, Words}
use Rattle.std.proofs.Common.{false, refl, subst, sym}
use Rattle.telegate.proofs.ReplayLemmas.{misjudged, replayed, was_found, was_judged}
use Rattle.telegate.proofs.RunLemmas.{as_err}
use Rattle.telegate.proofs.replay.replay.Goals as goal

pub returns-in_err-size-in-Lines-clause-answer : goal.returns-in_err-size-in-Lines-clause-answer
returns-in_err-size-in-Lines-clause-answer g c =
    let config = c.args.asked.now.config.now in
    let has = g.S.Source.has c.args.trace.now in
    let closing = c.args.asked.now.closing in
    let old = g.W.Write.contents c.args.out.now in
    let known = g.S.Text.Read.remaining c.in_ok-text.text in
    subst (λ (m : Manner). IsReplayed config m has closing old old
    c.from_residual-in_err-size-in-Lines.result) (sym c.in-Lines.is)
    (as_err (IsReplayed config Lines has closing old old)
    c.from_residual-in_err-size-in-Lines.result
    c.in_err-size-in-Lines.field-0.0
    c.from_residual-in_err-size-in-Lines.ensures.1
    (misjudged config Lines false has closing c.in_ok-config.config known old
    c.in_ok-config.ensures refl
    c.in_ok-text.ensures.text
    c.in_err-size-in-Lines.field-0.0 c.in_err-size-in-Lines.ensures))

pub returns-in-Lines-clause-answer : goal.returns-in-Lines-clause-answer
returns-in-Lines-clause-answer g c =
    let config = c.args.asked.now.config.now in
    let has = g.S.Source.has c.args.trace.now in
    let closing = c.args.asked.now.closing in
    let old = g.W.Write.contents c.args.out.now in
    let new = g.W.Write.contents c.run.new.out in
    let first = g.S.Text.Read.remaining c.in_ok-text.text in
    let second = g.S.Text.Read.remaining c.in_ok-text-in-Lines.text in
    subst (λ (m : Manner). IsReplayed config m has closing old new c.run.result) (sym c.in-Lines.is)
    (replayed config Lines false (Gives second) has closing c.in_ok-config.config
    old new c.in_ok-config.ensures refl
    (was_judged false has first c.in_ok-text.ensures.text c.in_ok-size-in-Lines.ensures)
    c.in_ok-text-in-Lines.ensures.text
    c.run.result c.run.ensures.answer)

pub returns-in_err-judge_text-in-Words-clause-answer :
    goal.returns-in_err-judge_text-in-Words-clause-answer
returns-in_err-judge_text-in-Words-clause-answer g c =
    let config = c.args.asked.now.config.now in
    let has = g.S.Source.has c.args.trace.now in
    let closing = c.args.asked.now.closing in
    let old = g.W.Write.contents c.args.out.now in
    let first = g.S.Text.Read.remaining c.in_ok-text.text in
    let known = g.S.Text.Read.remaining c.in_ok-text-in-Words.text in
    let manner = Words c.in-Words.is_coloured in
    let r = c.in_ok-as_record-in-Words.as_record in
    subst (λ (m : Manner). IsReplayed config m has closing old old
    c.from_residual-in_err-judge_text-in-Words.result) (sym c.in-Words.is)
    (as_err (IsReplayed config manner has closing old old)
    c.from_residual-in_err-judge_text-in-Words.result
    c.in_err-judge_text-in-Words.field-0.0
    c.from_residual-in_err-judge_text-in-Words.ensures.1
    (misjudged config manner r has closing c.in_ok-config.config known old
    c.in_ok-config.ensures
    (was_found c.in-Words.is_coloured r has first c.in_ok-text.ensures.text
    c.in_ok-as_record-in-Words.ensures.found)
    c.in_ok-text-in-Words.ensures.text
    c.in_err-judge_text-in-Words.field-0.0 c.in_err-judge_text-in-Words.ensures))

pub returns-clause-answer : goal.returns-clause-answer
returns-clause-answer g c =
    let config = c.args.asked.now.config.now in
    let has = g.S.Source.has c.args.trace.now in
    let closing = c.args.asked.now.closing in
    let old = g.W.Write.contents c.args.out.now in
    let new = g.W.Write.contents c.run_in_words.new.out in
    let first = g.S.Text.Read.remaining c.in_ok-text.text in
    let second = g.S.Text.Read.remaining c.in_ok-text-in-Words.text in
    let third = g.S.Text.Read.remaining c.in_ok-text-in-Words-2.text in
    let manner = Words c.in-Words.is_coloured in
    let r = c.in_ok-as_record-in-Words.as_record in
    subst (λ (m : Manner). IsReplayed config m has closing old new c.run_in_words.result)
    (sym c.in-Words.is)
    (replayed config manner r (Gives third) has closing c.in_ok-config.config
    old new c.in_ok-config.ensures
    (was_found c.in-Words.is_coloured r has first c.in_ok-text.ensures.text
    c.in_ok-as_record-in-Words.ensures.found)
    (was_judged r has second c.in_ok-text-in-Words.ensures.text c.in_ok-judge_text-in-Words.ensures)
    c.in_ok-text-in-Words-2.ensures.text
    c.run_in_words.result c.run_in_words.ensures)
