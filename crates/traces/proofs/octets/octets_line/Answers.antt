use Rattle.std.proofs.Common.{ap, sym, ◌∙◌}
use Rattle.traces.specs.Fields.{octets_of}
use Rattle.traces.specs.FirstLines.{first_of}
use Rattle.traces.proofs.OctetLemmas.{wrong_length, digits_right}
use Rattle.traces.proofs.octets.octets_line.Goals as goal

pub returns-then-may_be_octets : goal.returns-then-may_be_octets
returns-then-may_be_octets c =
    let found = c.in_ok-digits.ensures in (
      found.0,
      sym (digits_right c.in_ok-digits.digits.now (sym c.if-may_be_octets.ensures))
          ∙ found.1,
    )

pub returns-else-may_be_octets : goal.returns-else-may_be_octets
returns-else-may_be_octets c =
    ap (λ lines. octets_of (first_of lines)) c.in_ok-digits.ensures.0
    ∙ wrong_length c.in_ok-digits.digits.now (sym c.if-may_be_octets.ensures)
