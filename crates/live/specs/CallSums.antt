-- What the calls of a stream came to (this gateway's own profile).
use Rattle.std.specs.Prelude.{◌≡◌, ◌⊎◌, ℕ, ◌+◌, List, [], ◌∷◌, Bool, true, false, length, drop}
use Rattle.std.specs.Prelude.{Result}
use Rattle.std.specs.declared.io.Error.{Error}
use Rattle.live.specs.Streams.{Received, Sent, Sets, SystemCall, Waits, taken_of}

-- how many calls were reads
abbrev pub received_in : List SystemCall → ℕ
received_in [] = 0
received_in (Received octets answer ∷ before) = received_in before + 1
received_in (Sets setting is_set ∷ before) = received_in before
received_in (Sent octets answer ∷ before) = received_in before

-- how many octets they brought
abbrev pub brought_in : List SystemCall → ℕ
brought_in [] = 0
brought_in (Received octets answer ∷ before) = brought_in before + taken_of answer
brought_in (Sets setting is_set ∷ before) = brought_in before
brought_in (Sent octets answer ∷ before) = brought_in before

-- the latest call was a read that brought none
abbrev pub BroughtNone : List SystemCall → Type 0
BroughtNone (Received octets answer ∷ before) = taken_of answer ≡ 0
BroughtNone calls = ⊥

-- Behind those before what had come was read until a read brought none, or 64 times. Then calls
-- wait again.
pub record IsReadEmpty (before calls : List SystemCall) : Type 0 where
  pub reads : List SystemCall
  pub is_set : Bool
  pub last : calls ≡ Waits true is_set ∷ reads
  pub out : BroughtNone reads ⊎ (received_in reads ≡ received_in before + 64)

-- A write was handed to the stream whole, and all of it was taken. Or it was set to wait, unless it
-- refused that, was handed what the first call left, and was set not to wait.
abbrev pub IsHandedOn : (octets : List ℕ) → (first : Result ℕ Error)
    → (before calls : List SystemCall) → Type 0
IsHandedOn octets first before calls =
    ((taken_of first ≡ length octets) × (calls ≡ Sent octets first ∷ before))
    ⊎ ((calls ≡ Waits true false ∷ (Sent octets first ∷ before))
    ⊎ ((second : Result ℕ Error) × (is_set : Bool) × (calls
    ≡ Waits false is_set ∷ (Sent (drop (taken_of first) octets) second
    ∷ (Waits true true ∷ (Sent octets first ∷ before))))))
