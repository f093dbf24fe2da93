-- Pieces joined are the source.
use Rattle.std.proofs.Common.{◌≡◌, ℕ, ◌≤◌, Bool, true, false, List, [], ◌∷◌, ◌++◌, length, map}
use Rattle.std.proofs.Common.{refl, sym, ap, ◌∙◌, arith}
use Rattle.std.specs.List.{flat_map, AllByRecursion}
use Rattle.asdu.specs.Sizes.{tcp, cause_len, ca_len, ioa_len, header_len}
use Rattle.asdu.specs.declared.sizes.CauseSize.{CauseSize}
use Rattle.asdu.specs.declared.sizes.CauseSize.TheVariants as causes
use Rattle.asdu.specs.declared.sizes.CaSize.{CaSize}
use Rattle.asdu.specs.declared.sizes.CaSize.TheVariants as cas
use Rattle.asdu.specs.declared.sizes.IoaSize.{IoaSize}
use Rattle.asdu.specs.declared.sizes.IoaSize.TheVariants as ioas
use Rattle.asdu.specs.declared.sizes.Sizes.{Sizes}
use Rattle.asdu.specs.Asdu.{AsduValue, spelled}
use Rattle.asdu.specs.InformationObjects.{InformationObject, objects_of, value_objects}
use Rattle.asdu.specs.InformationObjects.{monitor_objects_of, only_if, is_passed_on}
use Rattle.asdu.proofs.Related.{objects_of-IsAsdu, monitor_objects_of-IsAsdu, length-value_objects}
use Rattle.asdu.specs.Writing.{with_infos}
use Rattle.asdu.proofs.Spelling.{body_len-low}
use Rattle.asdu.proofs.Pieces.{length-spelled}
use Rattle.asdu.specs.Translation.{AllButLast, IsPiece}

cause_len-low : (c : CauseSize) → 1 ≤ cause_len c
cause_len-low causes.One = omega arith
cause_len-low causes.Two = omega arith

ca_len-low : (c : CaSize) → 1 ≤ ca_len c
ca_len-low cas.One = omega arith
ca_len-low cas.Two = omega arith

pub ioa_len-low : (c : IoaSize) → 1 ≤ ioa_len c
ioa_len-low ioas.One = omega arith
ioa_len-low ioas.Two = omega arith
ioa_len-low ioas.Three = omega arith

pub header_len-low : (s : Sizes) → 4 ≤ header_len s
header_len-low s = let cause = cause_len-low s.cause in let ca = ca_len-low s.ca in omega arith

only-nil : (b : Bool) → [] ≡ only_if b []
only-nil true = refl
only-nil false = refl

only-append : (b : Bool) (os qs : List InformationObject) → only_if b os ++ only_if b qs
    ≡ only_if b (os ++ qs)
only-append true os qs = refl
only-append false os qs = refl

-- pieces pass on what the source passes on
pub monitored-pieces : {X : Type 0} (octets : X → List ℕ) (v : AsduValue) (ps : List X)
    → AllByRecursion (λ p. IsPiece v (octets p)) ps
    → flat_map (λ p. monitor_objects_of tcp (octets p)) ps
    ≡ only_if (is_passed_on v.kind v.cause) (flat_map (λ p. objects_of tcp (octets p)) ps)
monitored-pieces octets v [] h = only-nil (is_passed_on v.kind v.cause)
monitored-pieces octets v (p ∷ ps) h =
    let here = monitor_objects_of-IsAsdu tcp (with_infos v h.0.infos) (octets p) h.0.spells in
    let same = objects_of-IsAsdu tcp (with_infos v h.0.infos) (octets p) h.0.spells in
    let rest = monitored-pieces octets v ps h.1 in
    let b = is_passed_on v.kind v.cause in
    ap (λ os. os ++ flat_map (λ q. monitor_objects_of tcp (octets q)) ps) (here
    ∙ ap (only_if b) (sym same))
    ∙ ap (λ os. only_if b (objects_of tcp (octets p)) ++ os) rest
    ∙ only-append b (objects_of tcp (octets p)) (flat_map (λ q. objects_of tcp (octets q)) ps)

-- each piece of what is passed on has some of it
pub some_monitored : {X : Type 0} (octets : X → List ℕ) (v : AsduValue) (ps : List X)
    → is_passed_on v.kind v.cause ≡ true → AllByRecursion (λ p. IsPiece v (octets p)) ps
    → AllByRecursion (λ p. 1 ≤ length (monitor_objects_of tcp (octets p))) ps
some_monitored octets v [] passed h = tt
some_monitored octets v (p ∷ ps) passed h =
    let u = with_infos v h.0.infos in
    let here = monitor_objects_of-IsAsdu tcp u (octets p) h.0.spells in
    let all : monitor_objects_of tcp (octets p) ≡ value_objects u = here ∙ rw passed refl in
    let count = length-value_objects u in
    let some = h.0.spells.value.some in
    (rw all (omega arith), some_monitored octets v ps passed h.1)

-- a piece has 9 to 249 octets
pub lengths : {X : Type 0} (octets : X → List ℕ) (v : AsduValue) (ps : List X)
    → AllByRecursion (λ p. IsPiece v (octets p)) ps → AllByRecursion (λ p. (9 ≤ length (octets p))
    × (length (octets p) ≤ 249)) ps
lengths octets v [] h = tt
lengths octets v (p ∷ ps) h =
    let u = with_infos v h.0.infos in
    let spells = h.0.spells in
    let same : length (octets p) ≡ length (spelled tcp u) = ap (λ xs. length xs) spells.octets in
    let long = length-spelled tcp u spells.value.some spells.value.infos in
    let low = body_len-low u.kind 3 u.sequence (length u.infos) spells.value.some in
    ((omega arith, h.0.fits), lengths octets v ps h.1)

-- ---- Of a list's octets

module _ {X Y : Type 0} (f : X → Y) where
  pub All-of_map : (P : Y → Type 0) (xs : List X) → AllByRecursion P (map f xs)
      → AllByRecursion (λ x. P (f x)) xs
  All-of_map P [] h = tt
  All-of_map P (x ∷ xs) h = (h.0, All-of_map P xs h.1)

  pub AllButLast-of_map : (P : Y → Type 0) (xs : List X) → AllButLast P (map f xs)
      → AllButLast (λ x. P (f x)) xs
  AllButLast-of_map P [] h = tt
  AllButLast-of_map P (x ∷ []) h = tt
  AllButLast-of_map P (x ∷ y ∷ xs) h = (h.0, AllButLast-of_map P (y ∷ xs) h.1)
