use Rattle.std.proofs.Common.{◌∷◌, inl, inr}
use Rattle.std.proofs.lemmas.Bool.{not-false, ltb-true}
use Rattle.gateway.specs.Course.{here_of}
use Rattle.gateway.specs.Line.{IsWaiting, LacksOnlyRoom}
use Rattle.gateway.specs.Log.{Log}
use Rattle.gateway.specs.Reports.{Setup}
use Rattle.gateway.specs.Traffic.{IsAtRest}
use Rattle.delivery.proofs.Closing.{of_step, rested_then, taken_all}
use Rattle.delivery.proofs.waiting.a_line_rests_only_for_want_of_room.Goals as goal

lacks : (p : Setup) (log : Log) (s : IsAtRest p log) → (IsWaiting p log → ⊥)
    → LacksOnlyRoom p log s.course (here_of s.course ∷ s.course.earlier)
lacks p log s none = elim s.line [ inl out ↦ absurd (none out) | inr lacking ↦ lacking ]

pub returns-clause-full : goal.returns-clause-full
returns-clause-full c = λ p log s none. (
  s.course,
  s.course_runs,
  ltb-true _ _ (not-false _ (lacks p log s none).full),
)

pub returns-clause-up : goal.returns-clause-up
returns-clause-up c = λ p log station s none below. (lacks p log s none).up station below

pub returns-clause-between : goal.returns-clause-between
returns-clause-between c = λ p newer older at event entry f other none.
    let s = rested_then p newer older at event entry f.rests (of_step entry other) in
    let lacking = lacks p (entry ∷ older) s none in (
      s.course,
      s.course_runs,
      taken_all (entry ∷ older) s.course s.talk.all,
      ltb-true _ _ (not-false _ lacking.full),
      lacking.up,
    )
