use Rattle.std.proofs.Common.{◌≡◌, ◌+◌, ◌-◌, ◌++◌, length, take, drop, false, refl, ap, sym, ◌∙◌}
use Rattle.std.proofs.Common.{arith, length-append, length-drop}
use Rattle.std.proofs.lemmas.List.{append-nil, length-take-le}
use Rattle.byteorder.specs.Endian.{little_bytes, little_number}
use Rattle.byteorder.specs.Numbers.{length-bytes_low_first}
use Rattle.asdu.specs.Sizes.{ioa_len}
use Rattle.asdu.specs.Asdu.{content_len}
use Rattle.asdu.specs.Fields.{each_located}
use Rattle.asdu.specs.Writing.{spelled_infos}
use Rattle.asdu.proofs.Texts.{resized-start, resized-first, resized-room, resized-step}
use Rattle.asdu.proofs.writing.append_one.Goals as goal

pub read-requires : goal.read-requires
read-requires g c =
    let o = c.args.objects in
    let one = c.requires.one in
    let start = resized-start o.kind (ioa_len o.ioa) (ioa_len c.args.size) g.row.N o.next_address
    o.left o.octets.now
    c.args.out.now.items c.requires.mode o.enough c.requires.room in
    let first = resized-first o.kind (ioa_len o.ioa) o.left o.octets.now (omega arith) start.2 in
    omega arith

pub append_address-requires : goal.append_address-requires
append_address-requires g c =
    let o = c.args.objects in
    let one = c.requires.one in
    let start = resized-start o.kind (ioa_len o.ioa) (ioa_len c.args.size) g.row.N o.next_address
    o.left o.octets.now
    c.args.out.now.items c.requires.mode o.enough c.requires.room in
    let room = resized-room o.kind (ioa_len o.ioa) (ioa_len c.args.size) g.row.N o.left o.octets.now
    c.args.out.now.items (omega arith) start.2 start.1 in
    omega arith

pub slice_bounds-append_content-end : goal.slice_bounds-append_content-end
slice_bounds-append_content-end g c =
    let o = c.args.objects in
    let one = c.requires.one in
    let start = resized-start o.kind (ioa_len o.ioa) (ioa_len c.args.size) g.row.N o.next_address
    o.left o.octets.now
    c.args.out.now.items c.requires.mode o.enough c.requires.room in
    let first = resized-first o.kind (ioa_len o.ioa) o.left o.octets.now (omega arith) start.2 in
    let address = c.octets-address.ensures.value in
    let content = c.content_octets.ensures.value in
    omega arith

pub append_content-requires : goal.append_content-requires
append_content-requires g c =
    let o = c.args.objects in
    let one = c.requires.one in
    let k = ioa_len c.args.size in
    let start = resized-start o.kind (ioa_len o.ioa) k g.row.N o.next_address o.left o.octets.now
    c.args.out.now.items c.requires.mode o.enough c.requires.room in
    let first = resized-first o.kind (ioa_len o.ioa) o.left o.octets.now (omega arith) start.2 in
    let room = resized-room o.kind (ioa_len o.ioa) k g.row.N o.left o.octets.now
    c.args.out.now.items (omega arith) start.2 start.1 in
    let address = c.octets-address.ensures.value in
    let content = c.content_octets.ensures.value in
    let longer = ap (λ xs. length xs) c.append_address.ensures in
    let sum = length-append c.args.out.now.items (little_bytes k c.read.result) in
    let of_address = length-bytes_low_first 0 k c.read.result in
    let fewer = length-drop c.octets-address.result o.octets.now in
    let of_octets =
    length-take-le c.content_octets.result (drop c.octets-address.result o.octets.now)
    (omega arith) in
    let whole : c.octets-address.result + c.content_octets.result - c.octets-address.result
    ≡ c.content_octets.result =
    omega arith in
    rw whole (omega arith)

pub returns : goal.returns
returns g c =
    let o = c.args.objects in
    let one = c.requires.one in
    let w = ioa_len o.ioa in
    let k = ioa_len c.args.size in
    let xs = o.octets.now in
    let start = resized-start o.kind w k g.row.N o.next_address o.left xs c.args.out.now.items
    c.requires.mode o.enough
    c.requires.room in
    let address = c.octets-address.ensures.value in
    let content = c.content_octets.ensures.value in
    let whole : c.octets-address.result + c.content_octets.result - c.octets-address.result
    ≡ content_len o.kind =
    omega arith in
    let octets : take (c.octets-address.result + c.content_octets.result - c.octets-address.result)
    (drop c.octets-address.result xs) ≡ take (content_len o.kind) (drop w xs) =
    ap (λ n. take n (drop c.octets-address.result xs)) whole
    ∙ ap (λ n. take (content_len o.kind) (drop n xs)) address in
    let number : c.append_address.new.out.items ≡ c.args.out.now.items
    ++ little_bytes k (little_number w xs) =
    c.append_address.ensures
    ∙ ap (λ a. c.args.out.now.items ++ little_bytes k a) c.read.ensures.value in
    let behind = drop (w + content_len o.kind) xs in
    let step = resized-step o.kind w k g.row.N o.left xs _ behind c.args.out.now.items
    c.append_address.new.out.items c.append_content.new.out.items _
    (omega arith) start.2 start.1 start.0 number octets refl
    c.append_content.ensures in
    let none : o.left - 1 ≡ 0 = omega arith in
    sym (append-nil c.append_content.new.out.items)
    ∙ ap (λ n. c.append_content.new.out.items ++ spelled_infos k false
    (each_located o.kind w n behind)) (sym none)
    ∙ step.0
