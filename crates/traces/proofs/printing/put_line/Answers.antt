use Rattle.std.proofs.Common.{◌≡◌, ◌*◌, ◌++◌, ◌∷◌, [], ℕ, List, length, refl, ap, sym, ◌∙◌}
use Rattle.std.proofs.Common.{append_assoc, arith}
use Rattle.std.specs.Fmt.{decimal}
use Rattle.hex.specs.Hex.{encode_upper}
use Rattle.traces.proofs.PrintLemmas.{line_put}
use Rattle.traces.proofs.printing.put_line.Goals as goal

pub returns-clause-line : goal.returns-clause-line
returns-clause-line c =
    let spelled = c.spelled-letter_at.result.0 in
    let count = c.spelled-letter_at.result.1 in
    let octets = c.args.octets.now in
    let front : List ℕ = 32 ∷ 62 ∷ 32 ∷ [] in
    let back : List ℕ = c.args.letter ∷ 32 ∷ [] in
    let many : length (encode_upper octets) ≡ 2 * length octets =
    omega (arith, ap length c.spell.ensures, c.spell.auto.out) in
    rw (c.copy_from_slice.ensures.after, c.copy_from_slice-2.ensures.after, c.spell.ensures)
    (line_put c.args.row.now spelled (front ++ back) (encode_upper octets) count 5
    (2 * length octets) c.spelled-letter_at.ensures.places
    c.spelled-letter_at.ensures.most refl many
    (omega (arith, c.requires, c.spelled-letter_at.ensures.most)) (omega (arith, c.requires))
    ∙ ap (λ (l : List ℕ). l ++ encode_upper octets ++ 10 ∷ [])
    (ap (λ (d : List ℕ). d ++ (front ++ back)) c.spelled-letter_at.ensures.digits
    ∙ sym (append_assoc (decimal c.args.moment.now) front back)))
