-- What is left of an iterator over objects.
use Rattle.std.specs.Prelude.{List}
use Rattle.std.specs.Option.{option_copied}
use Rattle.asdu.specs.Sizes.{ioa_len}
use Rattle.asdu.specs.Asdu.{Info}
use Rattle.asdu.specs.Rest.{rest_at}
use Rattle.asdu.specs.declared.objects.Object.{Object}
use Rattle.asdu.specs.declared.objects.Objects.{Objects}

-- an object without its place in memory
abbrev pub info_of : Object → Info
info_of o = record { address = o.address; element = o.element.now; tag = option_copied o.tag }

-- the objects that are left
abbrev pub infos_left : Objects → List Info
infos_left o = rest_at o.kind (ioa_len o.ioa) o.next_address o.left o.octets.now
