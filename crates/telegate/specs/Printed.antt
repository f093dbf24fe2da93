-- How the text of a run ends that is printed while it goes on.
use Rattle.std.specs.Prelude.{ℕ, List, ◌++◌, Option, Result, Ok, Err}
use Rattle.std.specs.Io.KnownBytes.{Appends}
pub use Rattle.traces.specs.Pouring.{IsBegun, IsPoured}
use Rattle.telegate.specs.declared.fault.Fault.{Fault}
use Rattle.telegate.specs.declared.fault.Fault.TheVariants.{Device, NoMemory}

-- Behind a text, of which so much was printed, a closing was printed; or the output failed, or
-- memory was refused before the closing.
abbrev pub IsClosedBy : (old new : Option (List ℕ)) → (text closing : List ℕ)
    → Result (Unit {0}) Fault → Type 0
IsClosedBy old new text closing (Ok done) = Appends old new (text ++ closing)
IsClosedBy old new text closing (Err Device) = IsBegun old new (text ++ closing)
IsClosedBy old new text closing (Err NoMemory) = IsBegun old new text
IsClosedBy old new text closing (Err _) = ⊥
