use Rattle.std.proofs.Common.{ap, sym, subst}
use Rattle.gateway.specs.declared.settings.LineSettings.{LineSettings}
use Rattle.telegate.specs.Captures.{IsCapturedBy, IsFaultOfCapture}
use Rattle.telegate.specs.declared.fault.Fault.{Fault}
use Rattle.telegate.proofs.CaptureLemmas.{captured, uncaptured, unopened}
use Rattle.telegate.proofs.RunLemmas.{as_err}
use Rattle.telegate.proofs.capturing.capture.Goals as goal

pub returns-in_err-text : goal.returns-in_err-text
returns-in_err-text g c =
    let config = c.args.config.now in
    let has = g.S.Source.has c.args.text.now in
    let old = g.W.Write.contents c.args.out.now in
    let fault = c.in_err-text.field-0.0 in
    as_err (IsCapturedBy config has old old) c.from_residual.result fault
    c.from_residual.ensures.1 (unopened config has old fault c.in_err-text.ensures.fault)

pub returns-in-Ok : goal.returns-in-Ok
returns-in-Ok g c =
    captured c.args.config.now (g.S.Source.has c.args.text.now) c.in_ok-config.config
    c.line.result.now.link (g.S.Text.Read.remaining c.in_ok-text.text)
    (g.W.Write.contents c.args.out.now) (g.W.Write.contents c.capture_text.new.out)
    c.in_ok-config.ensures c.in_ok-text.ensures.text
    (ap (λ (l : LineSettings). l.link) c.line.ensures) c.in-Ok.ensures

pub returns : goal.returns
returns g c =
    let config = c.args.config.now in
    let has = g.S.Source.has c.args.text.now in
    let old = g.W.Write.contents c.args.out.now in
    let new = g.W.Write.contents c.capture_text.new.out in
    subst (λ (f : Fault). IsFaultOfCapture config has old new f) (sym c.fault_of.ensures)
    (uncaptured config has c.in_ok-config.config c.line.result.now.link
    (g.S.Text.Read.remaining c.in_ok-text.text) old new c.in_ok-config.ensures
    c.in_ok-text.ensures.text (ap (λ (l : LineSettings). l.link) c.line.ensures)
    c.in-Err.fault c.in-Err.ensures)
