use Rattle.std.proofs.Common.{◌≡◌, ◌++◌, length, refl, sym, ap, ◌∙◌, true, false, List, ℕ, arith}
use denote.Enum.Bare.{sameb}
use Rattle.asdu.specs.contracts.sizes.IoaSize.{the_type}
use Rattle.asdu.specs.declared.sizes.IoaSize.{IoaSize}
use Rattle.asdu.specs.declared.sizes.IoaSize.TheVariants.{One, Two, Three}
use Rattle.asdu.specs.Sizes.{ioa_len}
use Rattle.asdu.proofs.Texts.{text_kept}
use Rattle.asdu.proofs.writing.append_located.Goals as goal

same_octets : (a b : IoaSize) → sameb the_type a b ≡ true → ioa_len a ≡ ioa_len b
same_octets One One h = refl
same_octets One Two h = let no : false ≡ true = h in cc
same_octets One Three h = let no : false ≡ true = h in cc
same_octets Two One h = let no : false ≡ true = h in cc
same_octets Two Two h = refl
same_octets Two Three h = let no : false ≡ true = h in cc
same_octets Three One h = let no : false ≡ true = h in cc
same_octets Three Two h = let no : false ≡ true = h in cc
same_octets Three Three h = refl

pub append-requires : goal.append-requires
append-requires g c =
    let o = c.args.objects in
    let size : ioa_len o.ioa ≡ ioa_len c.args.size =
    same_octets o.ioa c.args.size (sym c.eq.ensures ∙ c.if-eq.true) in
    let text = text_kept o.kind (ioa_len c.args.size) (ioa_len o.ioa) o.next_address o.left
    o.octets.now size
    c.requires.mode o.enough o.are_octets in
    let same = ap (λ (xs : List ℕ). length xs) (text ∙ sym c.text.ensures) in
    let room = c.requires.room in
    (omega arith, omega arith)

pub returns-then-eq : goal.returns-then-eq
returns-then-eq g c =
    let o = c.args.objects in
    let size : ioa_len o.ioa ≡ ioa_len c.args.size =
    same_octets o.ioa c.args.size (sym c.eq.ensures ∙ c.if-eq.true) in
    let text = text_kept o.kind (ioa_len c.args.size) (ioa_len o.ioa) o.next_address o.left
    o.octets.now size
    c.requires.mode o.enough o.are_octets in
    c.append.ensures ∙ ap (λ xs. c.args.out.now.items ++ xs) (c.text.ensures ∙ sym text)
