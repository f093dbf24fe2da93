-- The objects of an ASDU, one after another: what is left of them.
use Rattle.std.specs.Prelude.{ℕ, suc, ◌+◌, ◌*◌, List, Option, Some, None}
use Rattle.byteorder.specs.Endian.{little_number}
use Rattle.elements.specs.declared.types.TypeId.{TypeId}
use Rattle.asdu.specs.Asdu.{Info, content_len}
use Rattle.asdu.specs.Fields.{each_located, successive}

-- n objects that stand in the octets: each with its address, or at addresses from the one given
abbrev pub rest_at : TypeId → ℕ → Option ℕ → ℕ → List ℕ → List Info
rest_at t w None n xs = each_located t w n xs
rest_at t w (Some a) n xs = successive t a n xs

-- the octets of n such objects
abbrev pub rest_len : TypeId → ℕ → Option ℕ → ℕ → ℕ
rest_len t w None n = n * (w + content_len t)
rest_len t w (Some a) n = n * content_len t

-- the octets of the first object's address
abbrev pub address_len : ℕ → Option ℕ → ℕ
address_len w None = w
address_len w (Some a) = 0

-- the first object's address
abbrev pub next_address : ℕ → Option ℕ → List ℕ → ℕ
next_address w None xs = little_number w xs
next_address w (Some a) xs = a

-- the address after it
abbrev pub following : Option ℕ → Option ℕ
following None = None
following (Some a) = Some (suc a)

-- the address n places on
abbrev pub address_after : ℕ → Option ℕ → Option ℕ
address_after n None = None
address_after n (Some a) = Some (a + n)
