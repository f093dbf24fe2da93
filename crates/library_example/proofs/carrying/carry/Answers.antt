use Rattle.std.proofs.Common.{rules, ◌≡◌, ◌≤◌, ◌++◌, length, map, List, [], ℕ, subst, sym, ap, ◌∙◌}
use Rattle.std.specs.List.{AllByRecursion}
use Rattle.std.proofs.lemmas.Bool.{eqb-true}
use Rattle.std.proofs.lemmas.List.{append-nil, nil_from_length}
use Rattle.apci.specs.Spelling.{spelling}
use Rattle.asdu.specs.Reading.{value_of}
use Rattle.asdu.specs.Translation.{report_pieces}
use Rattle.library_example.proofs.Numbered.{numbered, numbered-AreNumbered, objects-numbered}
use Rattle.library_example.proofs.carrying.carry.Goals as goal

pub information-requires : goal.information-requires
information-requires c =
    let P : List ℕ → Type 0 = λ p. (9 ≤ length p) × (length p ≤ 249) in
    let all : P c.write_next.new.piece.items × AllByRecursion P c.write_next.new.self =
    subst (λ (ps : List (List ℕ)). AllByRecursion P ps) c.write_next.ensures
    c.loop-left.invariant.lengths in
    let long = all.0.0 in
    let short = all.0.1 in
    let same = c.as_slice.ensures in
    let number = c.loop-left.invariant.number in
    search rules

pub returns : goal.returns
returns c =
    let report = c.args.report.now in
    let pieces = report_pieces (value_of report) in
    let none : c.loop-left.left ≡ [] =
    nil_from_length c.loop-left.left (eqb-true (length c.loop-left.left) 0 (sym c.is_over.ensures
    ∙ c.loop-left-test.false)) in
    let so_far = map (λ a. a.items) c.loop-left.apdus.items in
    record {
      apdus = numbered c.args.sent pieces;
      spelled = sym (append-nil so_far)
          ∙ ap (λ (ps : List (List ℕ)). so_far ++ map spelling (numbered c.loop-left.number ps))
          (sym none)
          ∙ c.loop-left.invariant.all;
      numbered = numbered-AreNumbered (value_of report) c.objects_are_those_of_the_asdu.ensures.read
          c.args.sent pieces
          (c.pieces_carry_the_report.ensures.pieces report.sizes (value_of report) report.octets.now
          c.requires.report);
      objects = objects-numbered c.args.sent pieces
          ∙ c.pieces_carry_the_report.ensures.joined report.sizes (value_of report)
          report.octets.now c.requires.report;
    }
