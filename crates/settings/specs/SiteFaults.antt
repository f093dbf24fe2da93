-- The first wrong key ends the reading of a site's file (this gateway's own profile).
use Rattle.std.specs.Prelude.{◌≡◌, Result, Err}
use Rattle.settings.specs.Faults.{Path}
use Rattle.settings.specs.declared.site.fault.SiteFault.{SiteFault}
use Rattle.settings.specs.declared.site.fault.SiteFault.TheVariants.{NotToml, Key, Unknown}
use Rattle.settings.specs.declared.site.fault.SiteFault.TheVariants.{NoMemory}

-- the fault is the wrong key that is expected, or want of memory
abbrev pub IsWrongKeyOf : {A : Type 0} → Result A Path → SiteFault → Type 0
IsWrongKeyOf expected NotToml = ⊥
IsWrongKeyOf expected (Key path) = expected ≡ Err path.now
IsWrongKeyOf expected (Unknown path) = ⊥
IsWrongKeyOf expected NoMemory = Unit {0}
