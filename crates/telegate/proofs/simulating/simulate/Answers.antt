use Rattle.std.proofs.Common.{subst, sym}
use Rattle.telegate.specs.Answers.{IsSimulatedBy}
use Rattle.telegate.specs.declared.manner.Manner.{Manner}
use Rattle.telegate.specs.declared.manner.Manner.TheVariants.{Lines, Words}
use Rattle.telegate.proofs.Kept.{keeps_same}
use Rattle.telegate.proofs.SimLemmas.{scripted}
use Rattle.telegate.proofs.simulating.simulate.Goals as goal

pub returns-in-Lines-clause-answer : goal.returns-in-Lines-clause-answer
returns-in-Lines-clause-answer g c =
    let old = g.W.Write.contents c.args.out.now in
    let new = g.W.Write.contents c.run.new.out in
    subst (λ (m : Manner). IsSimulatedBy m c.args.config.now c.args.script.now old new c.run.result)
    (sym c.in-Lines.is)
    (scripted Lines c.args.config.now c.args.script.now c.in_ok-config.config c.in-Ok.script
    old new c.run.result c.in_ok-config.ensures c.in-Ok.ensures.script c.run.ensures.answer)

pub returns-in-Ok-clause-answer : goal.returns-in-Ok-clause-answer
returns-in-Ok-clause-answer g c =
    let old = g.W.Write.contents c.args.out.now in
    let new = g.W.Write.contents c.simulate_in_words.new.out in
    subst (λ (m : Manner). IsSimulatedBy m c.args.config.now c.args.script.now old new
    c.simulate_in_words.result)
    (sym c.in-Words.is)
    (scripted (Words c.in-Words.is_coloured) c.args.config.now c.args.script.now
    c.in_ok-config.config c.in-Ok.script
    old new c.simulate_in_words.result c.in_ok-config.ensures c.in-Ok.ensures.script
    c.simulate_in_words.ensures)

pub returns-in-Err-Line-clause-answer : goal.returns-in-Err-Line-clause-answer
returns-in-Err-Line-clause-answer g c =
    let said = rw c.in-Err-Line.field-0-is at c.in-Err-Line.ensures.script in
    let number = c.in-Err-Line.n-is in (
      (c.in_ok-config.config, (c.in_ok-config.ensures, (cc))),
      keeps_same
          (g.W.Write.contents c.args.out.now),
    )
