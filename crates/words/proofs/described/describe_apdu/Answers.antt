use Rattle.std.proofs.Common.{Bool, sym, subst}
use Rattle.std.specs.Prelude.{IfOk, string_bytes}
use Rattle.words.specs.Described.{IsTcpDescribed}
use Rattle.words.proofs.described.describe_apdu.Goals as goal

pub returns-then-words : goal.returns-then-words
returns-then-words c =
    subst (λ (b : Bool). IfOk c.words_of_connection.result (λ shown.
    IsTcpDescribed b c.args.octets.now (string_bytes shown.lines) shown.condition))
    (sym c.if-words.true) c.words_of_connection.ensures

pub returns-else-words : goal.returns-else-words
returns-else-words c =
    subst (λ (b : Bool). IfOk c.show_tcp.result (λ shown.
    IsTcpDescribed b c.args.octets.now (string_bytes shown.lines) shown.condition))
    (sym c.if-words.false) c.show_tcp.ensures
