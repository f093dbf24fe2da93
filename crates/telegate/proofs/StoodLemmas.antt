-- What is answered of a directory that has this.
use Rattle.std.proofs.Common.{ℕ, Bool, List, Option}
use Rattle.std.specs.Prelude.{Result, Ok, Err}
use Rattle.state.specs.declared.files.reading.Stood.{Stood}
use Rattle.telegate.specs.Stood.{IsStateShown, IsStoodShown}
use Rattle.telegate.specs.declared.answer.CommandAnswer.{CommandAnswer}
use Rattle.telegate.specs.declared.fault.Fault.{Fault}

pub stood_shown : (stands : Stood → Type 0) (are_wanted : Bool) (given : Option (List ℕ))
    (stood : Stood) (result : Result CommandAnswer Fault) → stands stood
    → IsStoodShown are_wanted stood given result → IsStateShown stands are_wanted given result
stood_shown stands are_wanted given stood (Ok answer) is answers =
    record { stood = stood; is = is; answers = answers }
stood_shown stands are_wanted given stood (Err fault) is why = why
