-- What is answered of a directory in which a state is kept (this gateway's own profile).
use Rattle.std.specs.Prelude.{◌≡◌, ℕ, Bool, List, Option, Result, Vec, MatchResult, option_map}
use Rattle.std.specs.declared.alloc.Global.{Global}
use Rattle.sqlite_disk.specs.Memory.{memory_bytes}
use Rattle.state.specs.Sights.{IsSight}
use Rattle.state.specs.declared.looking.Sight.{Sight}
use Rattle.state.specs.declared.start.Beginning.{Beginning}
use Rattle.state.specs.declared.start.Beginning.TheVariants as beginnings
use Rattle.state.specs.declared.files.reading.Stood.{Stood}
use Rattle.state.specs.StateText.{IsStateText}
use Rattle.telegate.specs.declared.answer.CommandAnswer.{CommandAnswer}
use Rattle.telegate.specs.declared.fault.Fault.{Fault}
use Rattle.telegate.specs.declared.fault.Fault.TheVariants.{Unread, NoMemory}

-- the octets that are given, if any are
abbrev pub octets_of : Option (Vec ℕ Global) → Option (List ℕ)
octets_of given = option_map (λ v. v.items) given

-- 1 if what is there can't be read
abbrev pub status_of_sight : Beginning → ℕ
status_of_sight beginnings.Anew = 0
status_of_sight beginnings.PutAside = 1
status_of_sight beginnings.LinksReset = 0
status_of_sight beginnings.GoesOn = 0

-- this was found, and answered beside these settings, with what is queued if it is wanted
pub record AnswersState (is_held is_stale are_wanted : Bool) (given : Option (List ℕ))
    (sight : Sight) (answer : CommandAnswer) : Type 0 where
  pub answered : IsStateText is_held is_stale are_wanted given sight answer.text.items
  pub status : answer.status ≡ status_of_sight sight.beginning

-- what a start would find in two files was found, and answered beside these settings
pub record AnswersSight (are_wanted : Bool) (stood : Stood) (given : Option (List ℕ))
    (answer : CommandAnswer) : Type 0 where
  pub sight : Sight
  pub found : IsSight stood.before.entries stood.is_stale (memory_bytes stood.files.log)
      (memory_bytes stood.files.db) sight
  pub answered : AnswersState stood.is_held stood.is_stale are_wanted given sight answer

-- the same of a directory that has this, as far as it is known
pub record HasAnsweredState (stands : Stood → Type 0) (are_wanted : Bool)
    (given : Option (List ℕ)) (answer : CommandAnswer) : Type 0 where
  pub stood : Stood
  pub is : stands stood
  pub answers : AnswersSight are_wanted stood given answer

abbrev pub IsLookFault : Fault → Type 0
IsLookFault Unread = Unit {0}
IsLookFault NoMemory = Unit {0}
IsLookFault _ = ⊥

-- it was answered, or a read has failed, or memory was refused
abbrev pub IsStateShown : (stands : Stood → Type 0) → (are_wanted : Bool)
    → (given : Option (List ℕ)) → Result CommandAnswer Fault → Type 0
IsStateShown stands are_wanted given result =
    MatchResult result (HasAnsweredState stands are_wanted given) IsLookFault

abbrev pub IsSightAnswer : (is_held is_stale are_wanted : Bool) → (given : Option (List ℕ)) → Sight
    → Result CommandAnswer Fault → Type 0
IsSightAnswer is_held is_stale are_wanted given sight result =
    MatchResult result (AnswersState is_held is_stale are_wanted given sight) IsLookFault

abbrev pub IsStoodShown : (are_wanted : Bool) → Stood → (given : Option (List ℕ))
    → Result CommandAnswer Fault → Type 0
IsStoodShown are_wanted stood given result =
    MatchResult result (AnswersSight are_wanted stood given) IsLookFault
