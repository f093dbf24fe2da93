-- The place of a run's state (this gateway's own profile).
use Rattle.telegate.specs.declared.place.Place.{Place}
use Rattle.telegate.specs.declared.place.Place.TheVariants.{In, Nowhere}

-- what its directory says, or this if there is none
abbrev pub at_place : {F D T : Type 0} → (F → T) → T → Place F D → T
at_place says none (In folder) = says folder
at_place says none Nowhere = none

-- this holds of its directory, if there is one
abbrev pub IfIn : {F D : Type 0} → (F → Type 0) → Place F D → Type 0
IfIn P (In folder) = P folder
IfIn P Nowhere = Unit {0}
