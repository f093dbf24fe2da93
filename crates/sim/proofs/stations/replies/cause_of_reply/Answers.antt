use Rattle.std.proofs.Common.{ℕ, Bool, Option, ap, sym, ◌∙◌}
use Rattle.std.specs.Prelude.{if◌then◌else◌}
use Rattle.asdu.specs.Reading.{value_of}
use Rattle.sim.specs.Replies.{confirmation_of, termination_of}
use Rattle.sim.proofs.Replying.{cause_read}
use Rattle.sim.proofs.stations.replies.cause_of_reply.Goals as goal

pub returns-then-is_confirmed : goal.returns-then-is_confirmed
returns-then-is_confirmed c =
    let w = value_of c.in-Ok.asdu in
    let choice : Bool → Option ℕ = λ b.
    if b then termination_of c.args.refuses w else confirmation_of c.args.refuses w in
    record {
      read = λ v is. cause_read c.args.refuses c.args.is_confirmed w v c.termination.result
          (c.in-Ok.ensures.only v is) (sym c.if-not-is_command.ensures)
          (c.termination.ensures ∙ ap choice (sym c.if-is_confirmed.true));
      unread = λ none. absurd (none w c.in-Ok.ensures.found);
    }

pub returns-else-is_confirmed : goal.returns-else-is_confirmed
returns-else-is_confirmed c =
    let w = value_of c.in-Ok.asdu in
    let choice : Bool → Option ℕ = λ b.
    if b then termination_of c.args.refuses w else confirmation_of c.args.refuses w in
    record {
      read = λ v is. cause_read c.args.refuses c.args.is_confirmed w v c.confirmation.result
          (c.in-Ok.ensures.only v is) (sym c.if-not-is_command.ensures)
          (c.confirmation.ensures ∙ ap choice (sym c.if-is_confirmed.false));
      unread = λ none. absurd (none w c.in-Ok.ensures.found);
    }
