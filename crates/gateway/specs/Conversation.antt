-- What holds at each point of a run's course (IEC 60870-5-104, 5; IEC 60870-5-101, 7.2.3 and
-- 7.2.6).
use Rattle.std.specs.Prelude.{◌≡◌, ◌+◌, false, List, [], ◌∷◌, ◌++◌, length, None, option_map}
use Rattle.asdu.specs.Asdu.{AsduValue}
use Rattle.session.specs.History.{confirmation_of, frame_due, has_timed_out}
use Rattle.session.specs.Rules.{KeepsRules}
use Rattle.command.specs.History.{ForwardsCommands, ExecutesAreSelected, SendsFreshCommands}
use Rattle.command.specs.History.{mirror_tag, GivesOwnAnswers, KeepsOwnAnswers, own_kept, own_sent}
use Rattle.command.specs.History.{forwarded_in_all, sent_in_all}
use Rattle.command.specs.Mirrors.{tag_for}
use Rattle.command.specs.Calls.{Call, Run, run, NeverFall}
use Rattle.gateway.specs.Log.{Log, latest}
use Rattle.gateway.specs.Connections.{present}
use Rattle.gateway.specs.Reports.{Setup}
use Rattle.gateway.specs.Passing.{PassesCommands}
use Rattle.gateway.specs.Works.{tasks_of}
use Rattle.gateway.specs.Course.{Course, HasTakenAll, Runs}

-- What was done with commands so far. Each first sending is the oldest command forwarded to its
-- station on the open connection that wasn't sent yet. Before each execute to a guarded station
-- stands its select, confirmed in time. Each answer is that of the first rule that applies. An
-- activation that came with a time tag had a good one, near the wall clock. The tag that a
-- station's answer gets is that of the newest first sending of its type and addresses. Own answers
-- go out first in, first out, and at most 16 wait. Places come back: as many commands wait, over
-- all stations, as were forwarded on the open connection and weren't sent. And each command is
-- passed that has no fault, finds its places, and is selected if it has to be. All of it is what
-- calls of `command` made, at moments that never fall. So what its laws say of every such list of
-- calls holds here too: a select that has no fault is refused only for what they name.
pub record KeepsCommands (p : Setup) (r : Run) : Type 0 where
  pub made : (calls : List Call)
      × (run p.stations p.sizes p.select_ms p.max_age_ms calls ≡ r) × NeverFall calls
  pub forwarded : ForwardsCommands p.sizes p.stations p.select_ms p.max_age_ms r.history
  pub selected : ExecutesAreSelected p.sizes p.stations p.select_ms p.max_age_ms r.history
  pub answered : GivesOwnAnswers p.sizes p.stations p.select_ms p.max_age_ms r.history
  pub fresh : SendsFreshCommands p.sizes p.stations p.select_ms p.max_age_ms r.history
  pub tags : (v : AsduValue) → option_map (λ tag. tag.0) (tag_for v v.infos r.state)
      ≡ mirror_tag p.sizes p.stations p.select_ms p.max_age_ms v v.infos r.history
  pub in_turn : own_kept r.history ≡ own_sent r.history ++ r.state.answers
  pub kept : KeepsOwnAnswers r.history
  pub places : length r.state.waiting + sent_in_all r.history
      ≡ forwarded_in_all p.stations r.history
  pub passes : PassesCommands p r.history

-- The course so far keeps the rules: each frame that came was free of faults, and each that went
-- out bore the counts, and was due (5.1 to 5.5); and commands are kept.
pub record KeepsRulesSoFar (p : Setup) (log : Log) : Type 0 where
  pub course : Course
  pub runs : Runs p log course
  pub rules : KeepsRules p.session course.talk
  pub commands : KeepsCommands p (tasks_of course.works)

-- and so at each point of the log
abbrev pub KeepsRulesThroughout : Setup → Log → Type 0
KeepsRulesThroughout p [] = Unit {0}
KeepsRulesThroughout p (entry ∷ log) = KeepsRulesSoFar p (entry ∷ log) × KeepsRulesThroughout p log

-- No confirmation, no S frame and no test is due, and no answer is late.
pub record IsTalkAtRest (p : Setup) (log : Log) (c : Course) : Type 0 where
  pub all : HasTakenAll (present log) c.talk
  pub confirmed : confirmation_of c.talk ≡ None
  pub none_due : frame_due p.session.w p.session.t2 p.session.t3 (latest log) c.talk ≡ None
  pub in_time : has_timed_out p.session.t1 (latest log) c.talk ≡ false
