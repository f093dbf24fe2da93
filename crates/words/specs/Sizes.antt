-- Four digits that name the sizes of a line (this gateway's own profile): link address, cause,
-- common address, object address, each by its number of octets.
use Rattle.std.specs.Prelude.{ℕ, ◌==◌, if◌then◌else◌, List, [], ◌∷◌, Option, Some, None}
use Rattle.ft12.specs.declared.frame.LinkSize.{LinkSize}
use Rattle.ft12.specs.declared.frame.LinkSize.TheVariants as link
use Rattle.asdu.specs.declared.sizes.CauseSize.{CauseSize}
use Rattle.asdu.specs.declared.sizes.CauseSize.TheVariants as cause
use Rattle.asdu.specs.declared.sizes.CaSize.{CaSize}
use Rattle.asdu.specs.declared.sizes.CaSize.TheVariants as ca
use Rattle.asdu.specs.declared.sizes.IoaSize.{IoaSize}
use Rattle.asdu.specs.declared.sizes.IoaSize.TheVariants as ioa
use Rattle.words.specs.declared.facts.sizes.LineSizes.{LineSizes}

-- what a digit names; 49 is `1`, 50 is `2` and 51 is `3`
abbrev pub link_size_of : ℕ → Option LinkSize
link_size_of d = if d == 49 then Some link.One else if d == 50 then Some link.Two else None

abbrev pub cause_size_of : ℕ → Option CauseSize
cause_size_of d = if d == 49 then Some cause.One else if d == 50 then Some cause.Two else None

abbrev pub ca_size_of : ℕ → Option CaSize
ca_size_of d = if d == 49 then Some ca.One else if d == 50 then Some ca.Two else None

abbrev pub ioa_size_of : ℕ → Option IoaSize
ioa_size_of d =
    if d == 49 then Some ioa.One
    else if d == 50 then Some ioa.Two
    else if d == 51 then Some ioa.Three
    else None

-- the sizes, if each digit names one
abbrev pub sizes_from : Option LinkSize → Option CauseSize → Option CaSize → Option IoaSize →
    Option LineSizes
sizes_from (Some l) (Some c) (Some a) (Some i) =
    Some (record { link = l; asdu = record { cause = c; ca = a; ioa = i } })
sizes_from _ _ _ _ = None

abbrev pub sizes_of : List ℕ → Option LineSizes
sizes_of (l ∷ c ∷ a ∷ i ∷ []) =
    sizes_from (link_size_of l) (cause_size_of c) (ca_size_of a) (ioa_size_of i)
sizes_of _ = None
