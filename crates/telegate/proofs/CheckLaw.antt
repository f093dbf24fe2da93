-- What the exit status of a check says.
use Rattle.std.proofs.Common.{◌≡◌, ◌⊎◌, ◌++◌, ℕ, Bool, true, false, List, [], ◌∷◌, Option, inl, inr}
use Rattle.std.proofs.Common.{arith, refl, subst, ◌∙◌}
use Rattle.std.specs.Io.KnownBytes.{Appends}
use Rattle.std.specs.Prelude.{Err, Ok, Result, codes}
use Rattle.sim.specs.Runs.{IsBegun}
use Rattle.telegate.proofs.Controlled.{above_0}
use Rattle.telegate.specs.Checks.{IsCheckDone, IsCheckFault, IsFileRefused, IsGoodFor}
use Rattle.telegate.specs.Checks.{IsRefusalAnswered}
use Rattle.telegate.specs.Faults.{status_of}
use Rattle.telegate.specs.Given.{IsGiven, IsGood}
use Rattle.telegate.specs.declared.answer.CommandAnswer.{CommandAnswer}
use Rattle.telegate.specs.declared.check.Checking.{Checking}
use Rattle.telegate.specs.declared.fault.Fault.{Fault}
use Rattle.telegate.specs.declared.fault.Fault.TheVariants as fault

module _ (old new : Option (List ℕ)) where
  printed_good : (result : Result CommandAnswer Fault) → IsGood result → IsGiven result old new 0
      → Appends old new (codes "ok" ++ 10 ∷ [])
  printed_good (Ok answer) good (inl given) =
      subst (λ (t : List ℕ). Appends old new t) good.text given.0
  printed_good (Ok answer) good (inr begun) = absurd (omega (arith, begun.1))
  printed_good (Err fault.NoMemory) good given = absurd (omega (arith, given.1))
  printed_good (Err other) good given = absurd good

  fault_printed : (lines : List ℕ) (exit : ℕ) → exit ≡ 0
      → (Appends old new lines × (exit ≡ 1)) ⊎ (IsBegun old new lines × (exit ≡ 3)) → ⊥
  fault_printed lines exit done (inl all) = omega (arith, done, all.1)
  fault_printed lines exit done (inr begun) = omega (arith, done, begun.1)

  file_refused : (explain : Bool) → IsFileRefused explain old new 0 → ⊥
  file_refused true (inl h) = fault_printed h.lines 0 refl h.printed
  file_refused true (inr h) = omega (arith, h.1)
  file_refused false h = omega (arith, h.1)

  never_0 : (why : Fault) → 0 ≡ status_of why → ⊥
  never_0 why is = omega (arith, is, above_0 why)

  not_refused : (explain : Bool) (text : List ℕ) (why : Fault)
      → IsRefusalAnswered explain text why old new 0 → ⊥
  not_refused explain text (fault.Config why) h = file_refused explain h
  not_refused explain text (fault.Site why) h = file_refused explain h
  not_refused explain text (fault.Trace line) h = never_0 (fault.Trace line) h.1
  not_refused explain text (fault.Script line) h = never_0 (fault.Script line) h.1
  not_refused explain text (fault.Record line) h = never_0 (fault.Record line) h.1
  not_refused explain text (fault.Unfit lines) h = never_0 (fault.Unfit lines) h.1
  not_refused explain text fault.Sizes h = never_0 fault.Sizes h.1
  not_refused explain text fault.Octets h = never_0 fault.Octets h.1
  not_refused explain text fault.Address h = never_0 fault.Address h.1
  not_refused explain text fault.NoState h = never_0 fault.NoState h.1
  not_refused explain text fault.StateInUse h = never_0 fault.StateInUse h.1
  not_refused explain text (fault.StateUnusable cause) h = never_0 (fault.StateUnusable cause) h.1
  not_refused explain text fault.EndUnusable h = never_0 fault.EndUnusable h.1
  not_refused explain text fault.Device h = never_0 fault.Device h.1
  not_refused explain text fault.Unread h = never_0 fault.Unread h.1
  not_refused explain text fault.NoMemory h = never_0 fault.NoMemory h.1

  pub good_checked : (config : List ℕ) (how : Checking) → IsCheckDone config how old new 0
      → IsGoodFor how.live config × Appends old new (codes "ok" ++ 10 ∷ [])
  good_checked config how (inl a) =
      (a.good, printed_good a.given.answer a.given.answered a.given.given)
  good_checked config how (inr r) = absurd (not_refused how.explain config r.fault r.answered)

  not_given : (result : Result CommandAnswer Fault) → IsGood result → IsGiven result old new 1 → ⊥
  not_given (Ok answer) good (inl given) =
      let wrong : 1 ≡ 0 = given.1 ∙ good.status in omega (arith, wrong)
  not_given (Ok answer) good (inr begun) = omega (arith, begun.1)
  not_given (Err fault.NoMemory) good given = omega (arith, given.1)
  not_given (Err other) good given = absurd good

  pub wrong_checked : (config : List ℕ) (how : Checking) → IsCheckDone config how old new 1
      → (why : Fault) × IsCheckFault how.live config why
  wrong_checked config how (inl a) =
      absurd (not_given a.given.answer a.given.answered a.given.given)
  wrong_checked config how (inr r) = (r.fault, r.is)
