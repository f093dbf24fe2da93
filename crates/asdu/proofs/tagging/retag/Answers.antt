use Rattle.std.proofs.Common.{◌≡◌, ℕ, ◌+◌, ◌-◌, ◌++◌, List, [], ◌∷◌, length, take, drop}
use Rattle.std.proofs.Common.{length-drop, sym, ap, subst, ◌∙◌, arith}
use Rattle.std.specs.Prelude.{slice_index}
use Rattle.std.proofs.lemmas.List.{take_all}
use Rattle.elements.specs.Octets.{AreOctets}
use Rattle.elements.proofs.TypeCodes.{code-type_of}
use Rattle.asdu.specs.Sizes.{ioa_len, header_len}
use Rattle.asdu.specs.declared.sizes.Sizes.{Sizes}
use Rattle.asdu.specs.Asdu.{IsAsdu}
use Rattle.asdu.specs.Fields.{number_at, is_sequence}
use Rattle.asdu.specs.Reading.{value_of}
use Rattle.asdu.specs.Tagging.{tagged}
use Rattle.asdu.proofs.Accepted.{IsAsdu-value_of}
use Rattle.asdu.proofs.Spelling.{length-infos_at}
use Rattle.asdu.proofs.Tags.{IsAsdu-tagged, plain_below}
use Rattle.asdu.proofs.tagging.retag.Goals as goal

pub overflow_add-asdu : goal.overflow_add-asdu
overflow_add-asdu c =
    let asdu = c.args.asdu.now in
    let code = code-type_of (slice_index asdu.octets.now 0) asdu.kind asdu.named in
    let size = plain_below asdu.kind c.requires.kind in
    omega arith

pub returns : goal.returns
returns c =
    let asdu = c.args.asdu.now in
    let spells = IsAsdu-value_of asdu asdu.are_octets in
    let xs = asdu.octets.now in
    let tag = c.args.tag.now.0 in
    let first = slice_index xs 0 + 13 in
    let rest = take (length xs - 1) (drop 1 xs) in
    let count = length-infos_at asdu.kind (ioa_len asdu.sizes.ioa) (is_sequence xs) (number_at xs)
    (drop (header_len asdu.sizes) xs) in
    let whole : rest ≡ drop 1 xs =
    take_all (length xs - 1) (drop 1 xs) (omega (arith, length-drop 1 xs)) in
    let text =
    c.append-3.ensures
    ∙ ap (λ ys. ys ++ c.octets_of.result) (c.append-2.ensures
    ∙ ap (λ ys. ys ++ rest) (c.append.ensures ∙ ap (λ ys. ys ++ first ∷ []) c.new-out.ensures)
    ∙ ap (λ ys. first ∷ ys) whole)
    ∙ ap (λ ys. (first ∷ drop 1 xs) ++ ys) c.octets_of.ensures.value in
    let O : List ℕ → Type 0 = λ ys. AreOctets ys in
    let S : Sizes → Type 0 = λ s. IsAsdu s (tagged tag (value_of asdu)) c.append-3.new.out.items in
    subst S c.requires.sizes
    (IsAsdu-tagged asdu.sizes (value_of asdu) xs c.append-3.new.out.items tag spells (count
    ∙ c.requires.one) c.requires.kind
    (ap (λ ys. length ys) (sym c.octets_of.ensures.value)
    ∙ c.octets_of.ensures.seven) (subst O c.octets_of.ensures.value c.octets_of.ensures.are_octets)
    text)
