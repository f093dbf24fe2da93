-- Commands of a course are what calls of `command` made them, one after another; so they keep its
-- rules.
use Rattle.std.proofs.Common.{◌≡◌, ◌++◌, sym, subst}
use Rattle.command.specs.History.{own_kept, own_sent}
use Rattle.command.specs.Calls.{Run}
use Rattle.command.specs.Laws.{IsRun}
use Rattle.command.specs.CommandLaws.{CommandLaws}
use Rattle.gateway.specs.Log.{Log, latest}
use Rattle.gateway.specs.Reports.{Setup}
use Rattle.gateway.specs.Works.{Works, tasks_of}
use Rattle.gateway.specs.Passing.{PassesCommands, PassingLaws}
use Rattle.gateway.specs.Conversation.{KeepsCommands}
use Rattle.gateway.specs.Course.{Course, IsLeft, room_in, Runs}
use Rattle.gateway.proofs.Called.{IsMade, IsCalled, called_more, finish, all_made}
use Rattle.gateway.proofs.Passing.{passes}

abbrev pub IsReached : Setup → Works → Type 0
IsReached p w = IsRun p.stations p.sizes p.select_ms p.max_age_ms (tasks_of w)

module _ (p : Setup) where
  -- once the step before an event is done
  pub left_reached : (log : Log) (before after : Course) → Runs p log before
      → IsLeft p log before after
      → IsReached p after.works
  left_reached log before after r l =
      let m : IsMade p (latest log) after.works =
      subst (λ (c : Course). IsMade p (latest log) c.works) (sym l.is)
      (finish p (latest log) (IsCalled p (latest log)) (called_more p (latest log))
      (room_in p log before) before.works (all_made p log before r)) in
      (m.made, m.leave)

  -- own answers go out first in, first out
  pub answers_kept : CommandLaws → (log : Log) (c : Course) → Runs p log c
      → own_kept c.works.history ≡ own_sent c.works.history ++ c.works.serial.commands.answers
  answers_kept laws log c r =
      let m : IsMade p (latest log) c.works = all_made p log c r in
      laws.in_turn p.stations p.sizes p.select_ms p.max_age_ms (tasks_of c.works)
      (m.made, m.leave)

  -- and so it is at each point
  pub kept_commands : CommandLaws → PassingLaws → (log : Log) (c : Course) → Runs p log c
      → KeepsCommands p (tasks_of c.works)
  kept_commands laws passing log c r =
      let m : IsMade p (latest log) c.works = all_made p log c r in
      let run : IsReached p c.works = (m.made, m.leave) in
      record {
        made = (m.made, m.leave, m.rise);
        forwarded = laws.forwarded p.stations p.sizes p.select_ms p.max_age_ms _ run;
        selected = laws.selected p.stations p.sizes p.select_ms p.max_age_ms _ run;
        answered = laws.right p.stations p.sizes p.select_ms p.max_age_ms _ run;
        fresh = laws.fresh p.stations p.sizes p.select_ms p.max_age_ms _ run;
        tags = laws.tags p.stations p.sizes p.select_ms p.max_age_ms _ run;
        in_turn = laws.in_turn p.stations p.sizes p.select_ms p.max_age_ms _ run;
        kept = laws.kept p.stations p.sizes p.select_ms p.max_age_ms _ run;
        places = laws.places p.stations p.sizes p.select_ms p.max_age_ms _ run;
        passes = subst (λ (r : Run). PassesCommands p r.history) m.leave
            (passes p passing m.made m.rise);
      }
