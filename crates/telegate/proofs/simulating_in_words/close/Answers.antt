use Rattle.std.proofs.Common.{ℕ, List, [], refl, subst}
use Rattle.std.specs.Prelude.{string_bytes}
use Rattle.sim.specs.Runs.{IsRun}
use Rattle.sim.proofs.SimulationLemmas.{at_ok}
use Rattle.telegate.specs.Printed.{IsClosedBy}
use Rattle.traces.proofs.Poured.{poured_begun}
use Rattle.telegate.proofs.SimInWordsLemmas.{words_ended, words_stopped}
use Rattle.telegate.proofs.simulating_in_words.close.Goals as goal

pub returns-in-Ok : goal.returns-in-Ok
returns-in-Ok g c = λ settings ds is_coloured before words plan apart calls faithful rests written
    poured.
    let s = c.args.sim.now in
    let after = g.W.Write.contents c.print_closing.new.out in
    words_ended settings ds is_coloured s plan c.page-line_stands.ensures.stands faithful
    (string_bytes c.in-Ok.lines)
    words before after c.print_closing.result
    (at_ok c.closing.result c.in-Ok.lines (λ text. IsRun settings ds s.log (string_bytes text))
    c.in-Ok.is
    (c.closing.ensures settings ds plan apart calls faithful rests)) written
    (subst (λ (closing : List ℕ). IsClosedBy before after words closing c.print_closing.result)
    c.as_bytes.ensures.value (c.print_closing.ensures before words poured))

pub returns-in-Err : goal.returns-in-Err
returns-in-Err g c = λ settings ds is_coloured before words plan apart calls faithful rests written
    poured.
    let s = c.args.sim.now in
    let after = g.W.Write.contents c.args.out.now in
    words_stopped settings ds is_coloured s plan c.page-line_stands.ensures.stands faithful s.log []
    words before after refl
    written (poured_begun c.args.is_whole before after words poured)
