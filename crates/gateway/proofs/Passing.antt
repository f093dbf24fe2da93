-- Which commands pass, over the history that calls leave.
use Rattle.std.proofs.Common.{◌≡◌, ℕ, List, [], ◌∷◌, Option, Some, None, inl, inr}
use Rattle.std.specs.Prelude.{◌⊎◌, ◌&&◌, ◌||◌, true, false}
use Rattle.command.specs.declared.waiting.Waiting.{Waiting}
use Rattle.command.specs.State.{oldest_for, first_answer}
use Rattle.command.specs.Judging.{judged}
use Rattle.command.specs.History.{IsSelected}
use Rattle.command.specs.Standard.{executes, selects, must_be_selected}
use Rattle.command.specs.Calls.{Call, Judge, PutOnLine, Accept, Busy, Lose, Mirror, Own, SendOwn}
use Rattle.command.specs.Calls.{Cut, Due, Run, run, after_answer, after_sending, NeverFall}
use Rattle.gateway.specs.Reports.{Setup}
use Rattle.gateway.specs.Passing.{MustPass, PassesCommands, PassingLaws}

module _ (p : Setup) (laws : PassingLaws) where
  abbrev leaves : List Call → Run
  leaves calls = run p.stations p.sizes p.select_ms p.max_age_ms calls

  -- what must pass is forwarded
  one : (calls : List Call) (xs : List ℕ) (now : ℕ) (wall : Option ℕ)
      → NeverFall (Judge xs now wall ∷ calls) → MustPass p xs now wall (leaves calls).history
      → (judged xs now wall (leaves calls).state).0 ≡ None
  one calls xs now wall rise must = by_free must.free
    where
      by_free : ((must_be_selected p.stations xs && (selects xs || executes xs)) ≡ false)
          ⊎ ((executes xs ≡ true)
          × IsSelected p.sizes p.stations p.select_ms p.max_age_ms xs now (leaves calls).history)
          → (judged xs now wall (leaves calls).state).0 ≡ None
      by_free (inl needs_none) =
          laws.others p.stations p.sizes p.select_ms p.max_age_ms calls xs now wall must.faultless
          needs_none must.places
      by_free (inr selected) =
          laws.executes_pass p.stations p.sizes p.select_ms p.max_age_ms calls rise.1 now rise.0 xs
          wall must.faultless selected.0 selected.1 must.places

  sent : (o : Option Waiting) (k : ℕ) (r : Run) → PassesCommands p r.history
      → PassesCommands p (after_sending o k r).history
  sent None k r h = h
  sent (Some x) k r h = h

  answered : (o : Option (List ℕ)) (r : Run) → PassesCommands p r.history
      → PassesCommands p (after_answer o r).history
  answered None r h = h
  answered (Some octets) r h = h

  pub passes : (calls : List Call) → NeverFall calls → PassesCommands p (leaves calls).history
  passes [] rise = tt
  passes (Judge xs now wall ∷ calls) rise = (one calls xs now wall rise, passes calls rise.1)
  passes (PutOnLine k ∷ calls) rise =
      sent (oldest_for k (leaves calls).state) k (leaves calls) (passes calls rise.1)
  passes (Accept k ∷ calls) rise = passes calls rise.1
  passes (Busy k ∷ calls) rise = passes calls rise.1
  passes (Lose k ∷ calls) rise = passes calls rise.1
  passes (Mirror v now ∷ calls) rise = passes calls rise.1
  passes (Own octets ∷ calls) rise = passes calls rise.1
  passes (SendOwn ∷ calls) rise =
      answered (first_answer (leaves calls).state.answers) (leaves calls) (passes calls rise.1)
  passes (Cut ∷ calls) rise = passes calls rise.1
  passes (Due now ∷ calls) rise = passes calls rise.1
