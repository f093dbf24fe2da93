-- When a STOPDT con goes out.
use Rattle.std.proofs.Common.{◌≡◌, ℕ, ◌-◌, ◌≤◌, ◌<◌, ◌==◌, ◌&&◌, Bool, true, false, cond, nat_lt}
use Rattle.std.proofs.Common.{List}
use Rattle.std.proofs.Common.{[], ◌∷◌, length, drop, Option, Some, refl, ◌∙◌}
use Rattle.std.proofs.lemmas.Bool.{ltb-false}
use Rattle.std.proofs.lemmas.List.{nil_from_length}
use Rattle.apci.specs.declared.apdu.Apdu.{Apdu}

no_frame : (b : Bool) (due : Apdu) (moments : List ℕ) (other : Option Apdu) → moments ≡ []
    → cond (b && nat_lt 0 (length moments)) (Some due) other ≡ other
no_frame true due moments other none = rw none refl
no_frame false due moments other none = refl
