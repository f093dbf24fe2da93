use Rattle.std.proofs.Common.{◌≡◌, ◌++◌, length, sym, ap, ◌∙◌, true, List, ℕ, arith}
use Rattle.std.specs.Prelude.{is_some}
use Rattle.asdu.specs.Sizes.{ioa_len}
use Rattle.asdu.proofs.Texts.{text_counted}
use Rattle.asdu.proofs.writing.append_objects.Goals as goal

pub append-requires : goal.append-requires
append-requires g c =
    let o = c.args.objects in
    let counted : is_some o.next_address ≡ true = sym c.is_some.ensures ∙ c.if-is_some.true in
    let text = text_counted o.kind (ioa_len c.args.size) (ioa_len o.ioa) o.next_address o.left
    o.octets.now counted in
    let same = ap (λ (xs : List ℕ). length xs) (text ∙ sym c.text.ensures) in
    let room = c.requires in
    (omega arith, omega arith)

pub returns-then-is_some : goal.returns-then-is_some
returns-then-is_some g c =
    let o = c.args.objects in
    let counted : is_some o.next_address ≡ true = sym c.is_some.ensures ∙ c.if-is_some.true in
    let text = text_counted o.kind (ioa_len c.args.size) (ioa_len o.ioa) o.next_address o.left
    o.octets.now counted in
    c.append.ensures ∙ ap (λ xs. c.args.out.now.items ++ xs) (c.text.ensures ∙ sym text)
