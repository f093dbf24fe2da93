-- The job that was done is the one that was asked for.
use Rattle.std.proofs.Common.{◌≡◌, ℕ, List, Option, subst, sym}
use Rattle.telegate.specs.Answers.{DoesJob, Performs}
use Rattle.telegate.specs.declared.job.Job.{Job}

pub performs_as : {job is : Job} {old new : Option (List ℕ)} {exit : ℕ} → job ≡ is
    → DoesJob is old new exit
    → Performs job old new exit
performs_as {old = old} {new = new} {exit = exit} same done = record {
  does = subst (λ (j : Job). DoesJob j old new exit) (sym same) done;
}
