use Rattle.std.proofs.Common.{subst, sym}
use Rattle.std.specs.Prelude.{IfOk, string_bytes}
use Rattle.words.specs.declared.facts.condition.Shown.{Shown}
use Rattle.telegate.specs.Piping.{AreFrames}
use Rattle.telegate.specs.declared.piping.Piped.{Piped}
use Rattle.telegate.proofs.piping.show_frames.Goals as goal

pub returns-in-Line : goal.returns-in-Line
returns-in-Line c = subst (λ (p : Piped). IfOk c.describe_line_frames.result (λ (shown : Shown).
    AreFrames p c.args.words c.args.octets.now (string_bytes shown.lines) shown.condition))
    (sym c.in-Line.is)
    c.describe_line_frames.ensures

pub returns-in-Connection : goal.returns-in-Connection
returns-in-Connection c = subst (λ (p : Piped). IfOk c.describe_apdus.result (λ (shown : Shown).
    AreFrames p c.args.words c.args.octets.now (string_bytes shown.lines) shown.condition))
    (sym c.in-Connection.is)
    c.describe_apdus.ensures
