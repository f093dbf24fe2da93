-- The mark in two places (this gateway's own profile).
use Rattle.std.specs.Prelude.{◌≡◌, ◌||◌, Bool, true, false, Option, Some, None, codes}
use Rattle.state.specs.FileNames.{Compared, HasNoneBeside, IsMarkedBeside, Sought, Steps, Synced}
use Rattle.state.specs.FileNames.{noted}
use Rattle.state.specs.declared.files.beside.Beside.{Beside}

module _ {N : Type 0} (steps : N → Steps) where
  -- what a second place says of the mark, if there is one; if it doesn't answer, that it stands
  abbrev pub SaysBeside : (before after : Option (Beside N)) → Bool → Type 0
  SaysBeside None after is_marked = is_marked ≡ false
  SaysBeside (Some before) None is_marked = ⊥
  SaysBeside (Some before) (Some after) is_marked = is_marked ≡ false →
      steps after.names ≡ noted (steps before.names) (Sought (codes "stale") (Some false))

  -- the mark was made there
  abbrev pub IsMarkedThere : (before after : Option (Beside N)) → Type 0
  IsMarkedThere None after = ⊥
  IsMarkedThere (Some before) None = ⊥
  IsMarkedThere (Some before) (Some after) =
      IsMarkedBeside (steps before.names) (steps after.names)

  -- no mark stands there, if there is such a place
  abbrev pub HasNoneThere : (before after : Option (Beside N)) → Type 0
  HasNoneThere None after = Unit {0}
  HasNoneThere (Some before) None = ⊥
  HasNoneThere (Some before) (Some after) =
      HasNoneBeside (steps before.names) (steps after.names)

  -- The state is stale if the mark stands on the disk, whose names are synced before, if other
  -- files were noted there than stand there, or if the mark stands in the second place.
  pub record IsFoundStale (before after : Steps) (old new : Option (Beside N)) (is_stale : Bool) :
      Type 0 where
    pub here : Bool
    pub there : Bool
    pub is_copy : Bool
    pub disk : after ≡ noted (noted (noted before (Synced true)) (Sought (codes "stale")
        (Some here))) (Compared (Some is_copy))
    pub beside : SaysBeside old new there
    pub is : is_stale ≡ ((here || is_copy) || there)
