use Rattle.std.proofs.Common.{◌≡◌, ◌*◌, ◌++◌, ◌∷◌, [], ℕ, List, length, refl, ap, ◌∙◌, arith}
use Rattle.hex.specs.Hex.{encode_upper}
use Rattle.traces.proofs.PrintLemmas.{line_put}
use Rattle.traces.proofs.printing.put_event.Goals as goal

pub returns-clause-line : goal.returns-clause-line
returns-clause-line c =
    let spelled = c.spelled-letter_at.result.0 in
    let count = c.spelled-letter_at.result.1 in
    let octets = c.args.octets.now in
    let between : List ℕ = 32 ∷ c.args.letter ∷ 32 ∷ [] in
    let many : length (encode_upper octets) ≡ 2 * length octets =
    omega (arith, ap length c.spell.ensures, c.spell.auto.out) in
    rw (c.copy_from_slice.ensures.after, c.copy_from_slice-2.ensures.after, c.spell.ensures)
    (line_put c.args.row.now spelled between (encode_upper octets) count 3 (2 * length octets)
    c.spelled-letter_at.ensures.places c.spelled-letter_at.ensures.most refl many
    (omega (arith, c.requires, c.spelled-letter_at.ensures.most)) (omega (arith, c.requires))
    ∙ ap (λ (d : List ℕ). d ++ between ++ encode_upper octets ++ 10 ∷ [])
    c.spelled-letter_at.ensures.digits)
