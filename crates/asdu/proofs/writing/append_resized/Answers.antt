use Rattle.std.proofs.Common.{◌≡◌, ◌+◌, ◌-◌, ◌++◌, length, take, drop, false, ap, sym, ◌∙◌, arith}
use Rattle.std.proofs.Common.{length-append, length-drop}
use Rattle.std.proofs.lemmas.List.{append-nil, length-take-le, take_all}
use Rattle.byteorder.specs.Endian.{little_bytes, little_number}
use Rattle.byteorder.specs.Numbers.{length-bytes_low_first}
use Rattle.asdu.specs.Sizes.{ioa_len}
use Rattle.asdu.specs.Asdu.{content_len}
use Rattle.asdu.specs.Fields.{each_located}
use Rattle.asdu.specs.Writing.{spelled_infos}
use Rattle.asdu.proofs.Texts.{resized-start, resized-first, resized-room, resized-step}
use Rattle.asdu.proofs.writing.append_resized.Goals as goal

pub loop-left-init : goal.loop-left-init
loop-left-init g c =
    let o = c.args.objects in
    let start = resized-start o.kind (ioa_len o.ioa) (ioa_len c.args.size) g.row.N o.next_address
    o.left o.octets.now
    c.args.out.now.items c.requires.mode o.enough c.requires.room in
    record { text = start.0; fits = start.1; long = start.2 }

pub read-requires : goal.read-requires
read-requires g c =
    let o = c.args.objects in
    let loop = c.loop-left.invariant in
    let first = resized-first o.kind (ioa_len o.ioa) c.loop-left.left c.loop-left.octets.now
    (omega arith) loop.long in
    omega arith

pub append_address-requires : goal.append_address-requires
append_address-requires g c =
    let o = c.args.objects in
    let loop = c.loop-left.invariant in
    let room = resized-room o.kind (ioa_len o.ioa) (ioa_len c.args.size) g.row.N c.loop-left.left
    c.loop-left.octets.now
    c.loop-left.out.items (omega arith) loop.long loop.fits in
    omega arith

pub slice_bounds-append-end : goal.slice_bounds-append-end
slice_bounds-append-end g c =
    let o = c.args.objects in
    let loop = c.loop-left.invariant in
    let first = resized-first o.kind (ioa_len o.ioa) c.loop-left.left c.loop-left.octets.now
    (omega arith) loop.long in
    let address = c.octets-address.ensures.value in
    let content = c.content_octets.ensures.value in
    omega arith

pub append-requires : goal.append-requires
append-requires g c =
    let o = c.args.objects in
    let loop = c.loop-left.invariant in
    let k = ioa_len c.args.size in
    let first = resized-first o.kind (ioa_len o.ioa) c.loop-left.left c.loop-left.octets.now
    (omega arith) loop.long in
    let room = resized-room o.kind (ioa_len o.ioa) k g.row.N c.loop-left.left c.loop-left.octets.now
    c.loop-left.out.items (omega arith) loop.long loop.fits in
    let address = c.octets-address.ensures.value in
    let content = c.content_octets.ensures.value in
    let longer = ap (λ xs. length xs) c.append_address.ensures in
    let sum = length-append c.loop-left.out.items (little_bytes k c.read.result) in
    let of_address = length-bytes_low_first 0 k c.read.result in
    let fewer = length-drop c.octets-address.result c.loop-left.octets.now in
    let of_octets =
    length-take-le c.content_octets.result (drop c.octets-address.result c.loop-left.octets.now)
    (omega arith) in
    let whole : c.octets-address.result + c.content_octets.result - c.octets-address.result
    ≡ c.content_octets.result =
    omega arith in
    rw whole (omega arith)

pub loop-left-preserved : goal.loop-left-preserved
loop-left-preserved g c =
    let o = c.args.objects in
    let w = ioa_len o.ioa in
    let k = ioa_len c.args.size in
    let loop = c.loop-left.invariant in
    let xs = c.loop-left.octets.now in
    let address = c.octets-address.ensures.value in
    let content = c.content_octets.ensures.value in
    let whole : c.octets-address.result + c.content_octets.result - c.octets-address.result
    ≡ content_len o.kind =
    omega arith in
    let both : c.octets-address.result + c.content_octets.result ≡ w + content_len o.kind =
    omega arith in
    let octets : take (c.octets-address.result + c.content_octets.result - c.octets-address.result)
    (drop c.octets-address.result xs) ≡ take (content_len o.kind) (drop w xs) =
    ap (λ n. take n (drop c.octets-address.result xs)) whole
    ∙ ap (λ n. take (content_len o.kind) (drop n xs)) address in
    let n = c.octets-address.result + c.content_octets.result in
    let rest : take (length xs - n) (drop n xs) ≡ drop (w + content_len o.kind) xs =
    take_all (length xs - n) (drop n xs) (omega (arith, length-drop n xs))
    ∙ ap (λ j. drop j xs) both in
    let number : c.append_address.new.out.items ≡ c.loop-left.out.items
    ++ little_bytes k (little_number w xs) =
    c.append_address.ensures
    ∙ ap (λ a. c.loop-left.out.items ++ little_bytes k a) c.read.ensures.value in
    let step = resized-step o.kind w k g.row.N c.loop-left.left xs _ _ c.loop-left.out.items
    c.append_address.new.out.items c.append.new.out.items _
    (omega arith) loop.long loop.fits loop.text number octets rest
    c.append.ensures in
    record { text = step.0; fits = step.1; long = step.2 }

pub returns : goal.returns
returns g c =
    let o = c.args.objects in
    let loop = c.loop-left.invariant in
    let k = ioa_len c.args.size in
    let none : c.loop-left.left ≡ 0 = omega arith in
    sym (append-nil c.loop-left.out.items)
    ∙ ap (λ n. c.loop-left.out.items ++ spelled_infos k false
    (each_located o.kind (ioa_len o.ioa) n c.loop-left.octets.now))
    (sym none)
    ∙ loop.text
