use Rattle.std.proofs.Common.{◌≡◌, ◌++◌, [], ap, drop, refl, sym, ◌∙◌}
use Rattle.std.proofs.lemmas.List.{append-nil}
use Rattle.gateway.specs.Restored.{state_lines}
use Rattle.statetext.specs.Text.{lines_in}
use Rattle.record.proofs.OpeningLemmas.{said_some}
use Rattle.record.proofs.audit.opening.FirstLines.gateway.Goals as goal

pub returns-in-Ok-read_state-clause-begins : goal.returns-in-Ok-read_state-clause-begins
returns-in-Ok-read_state-clause-begins c = λ past begins.
    let lines = c.new-lines.result in
    let said = c.args.self.said.items in
    let exact = c.in-Ok-read_state.ensures.exact in
    let b = begins.goes_on (said_some said _ exact.serial
    (sym (ap lines_in c.new-lines.ensures) ∙ exact.clock)) in
    let coming : lines_in (drop lines.at lines.text.items) ≡ state_lines b.state ++ [] =
    ap lines_in c.new-lines.ensures ∙ b.are ∙ sym (append-nil (state_lines b.state)) in
    ((c.in-Ok-read_state.ensures.follows b.state [] past b.savable b.follows coming).0, b.rests)

pub returns-in-Err-Wrong-clause-fault : goal.returns-in-Err-Wrong-clause-fault
returns-in-Err-Wrong-clause-fault c = (
  refl,
  λ state savable fits are.
      let lines = c.new-lines.result in
      let coming : lines_in (drop lines.at lines.text.items) ≡ state_lines state ++ [] =
      ap lines_in c.new-lines.ensures ∙ are ∙ sym (append-nil (state_lines state)) in
      c.in-Err-Wrong.ensures.back state [] savable fits coming c.in-Err-Wrong.field-0-is,
)
