-- The words that say what is to be done (this gateway's own profile).
use Rattle.std.specs.Prelude.{◌≡◌, codes, List, ℕ, Bool, true, ◌||◌, Option, Some, None}
use Rattle.std.specs.Prelude.{[]}
use Rattle.std.specs.Str.{bytes_eq}
use Rattle.centre.specs.declared.reading.Manner.{Manner}
use Rattle.centre.specs.declared.reading.Manner.TheVariants.{Select, Execute, Operate, Deactivate}
use Rattle.centre.specs.declared.reading.Wish.{Wish}
use Rattle.centre.specs.declared.reading.Wish.TheVariants.{Watch, Interrogate, Counters, Clock}
use Rattle.centre.specs.declared.reading.Wish.TheVariants.{Command}

-- of stations as a whole
abbrev pub is_question : List ℕ → Bool
is_question w =
    bytes_eq w (codes "interrogate") || bytes_eq w (codes "counters") || bytes_eq w (codes "clock")

-- of one object
abbrev pub is_order : List ℕ → Bool
is_order w =
    bytes_eq w (codes "select") || bytes_eq w (codes "execute") || bytes_eq w (codes "operate")
    || bytes_eq w (codes "deactivate")

abbrev pub manner_name : Manner → List ℕ
manner_name Select = codes "select"
manner_name Execute = codes "execute"
manner_name Operate = codes "operate"
manner_name Deactivate = codes "deactivate"

abbrev pub name_of : Wish → List ℕ
name_of Watch = []
name_of (Interrogate ca) = codes "interrogate"
name_of (Counters ca) = codes "counters"
name_of (Clock ca) = codes "clock"
name_of (Command o) = manner_name o.manner

-- what is wished is what the word says; nothing is said of a watch
abbrev pub IsNamedBy : Option (List ℕ) → Wish → Type 0
IsNamedBy None wish = wish ≡ Watch
IsNamedBy (Some word) wish = bytes_eq word (name_of wish) ≡ true
