use Rattle.std.proofs.Common.{◌≤◌, ◌+◌, refl, subst, sym, ◌∙◌, arith}
use Rattle.std.specs.Prelude.{is_some}
use Rattle.std.specs.List.{AllByRecursion}
use Rattle.elements.specs.declared.types.TypeId.{TypeId}
use Rattle.asdu.specs.Sizes.{ioa_len, header_len}
use Rattle.asdu.specs.Asdu.{IsInfo}
use Rattle.asdu.specs.Refusals.{body_len}
use Rattle.asdu.specs.Reading.{value_of}
use Rattle.asdu.specs.Objects.{infos_left}
use Rattle.asdu.specs.Writing.{carried}
use Rattle.asdu.proofs.Accepted.{IsAsdu-value_of}
use Rattle.asdu.proofs.Pieces.{spell-start, spell-spells}
use Rattle.asdu.proofs.writing.spell_into.Goals as goal

pub append_objects-requires : goal.append_objects-requires
append_objects-requires g c =
    let sizes = c.args.sizes in
    let chunk = c.args.chunk in
    let P : TypeId → Type 0 = λ t. AllByRecursion (IsInfo t (ioa_len sizes.ioa))
    (infos_left chunk) in
    let room : header_len sizes + body_len chunk.kind (ioa_len sizes.ioa)
    (is_some chunk.next_address) chunk.left ≤ g.row.N =
    rw (c.requires.kind, c.requires.mode) c.requires.room in
    let start = spell-start sizes (carried sizes (value_of c.args.asdu.now)) chunk.kind
    (ioa_len chunk.ioa) chunk.next_address chunk.left g.row.N chunk.octets.now
    (is_some chunk.next_address)
    (infos_left chunk) c.args.out.now.items c.append_header.new.out.items
    c.append_lead.new.out.items
    refl refl c.requires.empty c.append_header.ensures c.append_lead.ensures
    c.requires.some (subst P (sym c.requires.kind) c.requires.infos) room in
    (omega arith, start.1)

pub returns : goal.returns
returns g c =
    let asdu = c.args.asdu.now in
    let sizes = c.args.sizes in
    let chunk = c.args.chunk in
    let source = IsAsdu-value_of asdu asdu.are_octets in
    let P : TypeId → Type 0 = λ t. AllByRecursion (IsInfo t (ioa_len sizes.ioa))
    (infos_left chunk) in
    let room : header_len sizes + body_len chunk.kind (ioa_len sizes.ioa)
    (is_some chunk.next_address) chunk.left ≤ g.row.N =
    rw (c.requires.kind, c.requires.mode) c.requires.room in
    let start = spell-start sizes (carried sizes (value_of asdu)) chunk.kind
    (ioa_len chunk.ioa) chunk.next_address chunk.left g.row.N chunk.octets.now
    (is_some chunk.next_address)
    (infos_left chunk) c.args.out.now.items c.append_header.new.out.items
    c.append_lead.new.out.items
    refl refl c.requires.empty c.append_header.ensures c.append_lead.ensures
    c.requires.some (subst P (sym c.requires.kind) c.requires.infos) room in
    spell-spells asdu.sizes sizes (value_of asdu) chunk.kind
    (ioa_len chunk.ioa) chunk.next_address chunk.left chunk.octets.now
    c.append_objects.new.out.items
    source.value c.requires.ca c.requires.kind c.requires.mode c.requires.some c.requires.most
    c.requires.infos
    (c.append_objects.ensures ∙ start.0)
