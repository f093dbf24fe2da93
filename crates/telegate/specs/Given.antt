-- What a command answers, and what is printed of it (this gateway's own profile).
use Rattle.std.specs.Prelude.{◌≡◌, ◌⊎◌, ℕ, codes, List, [], ◌∷◌, ◌++◌, Option, Result, Ok, Err}
use Rattle.std.specs.Prelude.{MatchResult}
use Rattle.std.specs.Io.KnownBytes.{Appends, Keeps}
use Rattle.gateway.specs.Config.{Settings}
use Rattle.settings.specs.Settings.{IsReadOfText}
use Rattle.sim.specs.Runs.{IsBegun}
use Rattle.telegate.specs.Faults.{status_of}
use Rattle.telegate.specs.declared.answer.CommandAnswer.{CommandAnswer}
use Rattle.telegate.specs.declared.fault.Fault.{Fault}
use Rattle.telegate.specs.declared.fault.Fault.TheVariants.{Config, NoMemory}

-- settings are refused by the first fault
abbrev pub IsConfigFault : List ℕ → Fault → Type 0
IsConfigFault config (Config why) = IsReadOfText config (Err why)
IsConfigFault config NoMemory = Unit {0}
IsConfigFault config _ = ⊥

abbrev pub IsReadConfig : List ℕ → Result Settings Fault → Type 0
IsReadConfig config result =
    MatchResult result (λ c. IsReadOfText config (Ok c)) (IsConfigFault config)

-- it is written that settings are good
pub record AnswersGood (answer : CommandAnswer) : Type 0 where
  pub text : answer.text.items ≡ codes "ok" ++ 10 ∷ []
  pub status : answer.status ≡ 0

-- a run that is started stops by want of memory alone
abbrev pub IsMemory : Fault → Type 0
IsMemory NoMemory = Unit {0}
IsMemory _ = ⊥

abbrev pub IsGood : Result CommandAnswer Fault → Type 0
IsGood result = MatchResult result AnswersGood IsMemory

-- A command's answer was appended to the output, and the exit status is the answer's; or the output
-- failed, and a beginning of it was. A fault (which may be want of memory) was written before
-- anything was printed.
abbrev pub IsGiven : Result CommandAnswer Fault → (old new : Option (List ℕ)) → (exit : ℕ) → Type 0
IsGiven (Ok answer) old new exit =
    (Appends old new (answer.text.items) × (exit ≡ answer.status))
    ⊎ (IsBegun old new (answer.text.items) × (exit ≡ 3))
IsGiven (Err fault) old new exit = Keeps old new × (exit ≡ status_of fault)

-- the command has this answer, or this fault, and that was given
pub record GivesAnswer (IsAnswer : Result CommandAnswer Fault → Type 0) (old new : Option (List ℕ))
    (exit : ℕ) : Type 0 where
  pub answer : Result CommandAnswer Fault
  pub answered : IsAnswer answer
  pub given : IsGiven answer old new exit
