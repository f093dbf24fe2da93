use Rattle.std.proofs.Common.{◌≡◌, ◌+◌, ◌-◌, ◌++◌, length, take, drop, ap, sym, ◌∙◌, arith}
use Rattle.std.proofs.Common.{length-drop}
use Rattle.std.proofs.lemmas.List.{length-take-le, take_all}
use Rattle.byteorder.specs.Endian.{little_bytes, little_number}
use Rattle.asdu.specs.Sizes.{ioa_len}
use Rattle.asdu.specs.Asdu.{content_len}
use Rattle.asdu.proofs.Texts.{resized-first, resized-room, resized-step}
use Rattle.asdu.proofs.writing.append_each.Goals as goal

pub put-requires : goal.put-requires
put-requires g c =
    let o = c.args.objects in
    let n = g.row.CONTENT in
    let two = c.requires.two in
    let content = c.requires.content in
    let loop = c.loop-left.invariant in
    let xs = c.loop-left.octets.now in
    let written = take c.loop-left.end c.loop-left.row in
    let first = resized-first o.kind (ioa_len o.ioa) c.loop-left.left xs (omega arith) loop.long in
    let room = resized-room o.kind (ioa_len o.ioa) 3 g.row.N c.loop-left.left xs
    written (omega arith) loop.long loop.fits in
    let so_far = length-take-le c.loop-left.end c.loop-left.row (omega arith) in
    let fewer = length-drop 2 xs in
    let of_octets = length-take-le n (drop 2 xs) (omega arith) in
    let whole : 2 + n - 2 ≡ n = omega arith in
    rw whole (omega arith)

pub loop-left-preserved : goal.loop-left-preserved
loop-left-preserved g c =
    let o = c.args.objects in
    let w = ioa_len o.ioa in
    let n = g.row.CONTENT in
    let two : w ≡ 2 = c.requires.two in
    let content : content_len o.kind ≡ n = c.requires.content in
    let loop = c.loop-left.invariant in
    let xs = c.loop-left.octets.now in
    let end = c.loop-left.end in
    let written = take end c.loop-left.row in
    let room = resized-room o.kind w 3 g.row.N c.loop-left.left xs
    written (omega arith) loop.long loop.fits in
    let so_far = length-take-le end c.loop-left.row (omega arith) in
    let first = resized-first o.kind w c.loop-left.left xs (omega arith) loop.long in
    let fewer = length-drop 2 xs in
    let of_octets = length-take-le n (drop 2 xs) (omega arith) in
    let whole : 2 + n - 2 ≡ content_len o.kind = omega arith in
    let as_many : 2 + n - 2 ≡ n = omega arith in
    let both : 2 + n ≡ w + content_len o.kind = omega arith in
    let octets : take (2 + n - 2) (drop 2 xs) ≡ take (content_len o.kind) (drop w xs) =
    ap (λ j. take j (drop 2 xs)) whole
    ∙ ap (λ j. take (content_len o.kind) (drop j xs)) (sym two) in
    let rest : take (length xs - (2 + n)) (drop (2 + n) xs) ≡ drop (w + content_len o.kind) xs =
    take_all (length xs - (2 + n)) (drop (2 + n) xs) (omega (arith, length-drop (2 + n) xs))
    ∙ ap (λ j. drop j xs) both in
    let number : take (end + 3) c.put_address.new.row ≡ written
    ++ little_bytes 3 (little_number w xs) =
    c.put_address.ensures
    ∙ ap (λ a. written ++ little_bytes 3 a)
    (c.read.ensures.value ∙ ap (λ j. little_number j xs) (sym two)) in
    let count : end + (3 + n) ≡ end + 3 + length (take (2 + n - 2) (drop 2 xs)) =
    omega (arith, of_octets, ap (λ j. length (take j (drop 2 xs))) as_many) in
    let put : take (end + (3 + n)) c.put.new.row ≡ take (end + 3) c.put_address.new.row
    ++ take (2 + n - 2) (drop 2 xs) =
    ap (λ j. take j c.put.new.row) count ∙ c.put.ensures in
    let step = resized-step o.kind w 3 g.row.N c.loop-left.left xs _ _ written
    (take (end + 3) c.put_address.new.row) (take (end + (3 + n)) c.put.new.row) _
    (omega arith) loop.long loop.fits loop.text number octets rest put in
    record { text = step.0; fits = step.1; within = omega arith; long = step.2 }
