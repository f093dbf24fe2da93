use Rattle.std.proofs.Common.{inl}
use Rattle.telegate.specs.Piping.{Pipes}
use Rattle.telegate.specs.Source.{Gives}
use Rattle.telegate.proofs.Kept.{keeps_same}
use Rattle.telegate.proofs.PipeLemmas.{pipe_wanted, piped_as}
use Rattle.telegate.proofs.RunLemmas.{as_err}
use Rattle.telegate.proofs.piping.pipe.Goals as goal

pub returns-in_err-text : goal.returns-in_err-text
returns-in_err-text g c =
    let has = g.S.Source.has c.args.text.now in
    let old = g.W.Write.contents c.args.out.now in
    let fault = c.in_err-text.field-0.0 in
    as_err (Pipes c.args.piped c.args.words has old old) c.from_residual.result fault
    c.from_residual.ensures.1
    (pipe_wanted c.args.piped c.args.words has old old fault c.in_err-text.ensures.fault
    (inl (keeps_same old)))

pub returns : goal.returns
returns g c = piped_as c.args.piped c.args.words (Gives (g.S.Text.Read.remaining c.in_ok-text.text))
    (g.S.Source.has c.args.text.now) (g.W.Write.contents c.args.out.now)
    (g.W.Write.contents c.pipe_text.new.out)
    c.pipe_text.result c.in_ok-text.ensures.text c.pipe_text.ensures
