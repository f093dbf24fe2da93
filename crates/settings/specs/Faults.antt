-- The first wrong key ends the reading of settings (this gateway's own profile).
use Rattle.std.specs.Prelude.{◌≡◌, List, ℕ, Result, Ok, Err}
use Rattle.settings.specs.declared.fault.ConfigFault.{ConfigFault}
use Rattle.settings.specs.declared.fault.ConfigFault.TheVariants.{NotToml, Key, Unknown, NoMemory}
use Rattle.settings.specs.declared.fault.WrongKey.{WrongKey}

-- the dotted path of a key, as `line.queue`
abbrev pub Path : Type 0
Path = List ℕ

-- a result with the path of its wrong key as a text
abbrev pub seen : {A : Type 0} → Result A WrongKey → Result A Path
seen (Ok x) = Ok x
seen (Err wrong) = Err wrong.path.now

-- and with what it read as f sees it
abbrev pub seen_by : {A B : Type 0} → (A → B) → Result A WrongKey → Result B Path
seen_by f (Ok x) = Ok (f x)
seen_by f (Err wrong) = Err wrong.path.now

-- the fault is the wrong key that is expected, or want of memory
abbrev pub IsWrongKeyOf : {A : Type 0} → Result A Path → ConfigFault → Type 0
IsWrongKeyOf expected NotToml = ⊥
IsWrongKeyOf expected (Key path) = expected ≡ Err path.now
IsWrongKeyOf expected (Unknown path) = ⊥
IsWrongKeyOf expected NoMemory = Unit {0}

infixl 10 ◌>>=◌
abbrev pub ◌>>=◌ : {A B : Type 0} → Result A Path → (A → Result B Path) → Result B Path
Ok x >>= f = f x
Err path >>= f = Err path
