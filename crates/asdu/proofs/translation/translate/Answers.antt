use Rattle.std.proofs.Common.{◌≡◌, ℕ, ◌≤◌, Bool, true, List, [], ◌∷◌, ◌++◌, length, map, sym, ap}
use Rattle.std.proofs.Common.{subst, ◌∙◌, arith, append_assoc, length-append}
use Rattle.std.specs.Prelude.{◌==◌}
use Rattle.std.specs.List.{flat_map, AllByRecursion}
use Rattle.std.proofs.lemmas.Bool.{eqb-true}
use Rattle.std.proofs.lemmas.List.{append-nil, length-map, map-append, nil_from_length}
use Rattle.std.proofs.lemmas.List.Folds.{flat_map-map}
use Rattle.arrayvec.specs.ArrayVec.{ArrayVec as Stored}
use Rattle.asdu.specs.Sizes.{tcp}
use Rattle.asdu.specs.Asdu.{AsduValue}
use Rattle.asdu.specs.InformationObjects.{objects_of, monitor_objects_of}
use Rattle.asdu.specs.Reading.{value_of}
use Rattle.asdu.specs.Translation.{AllButLast, IsLargest, IsPiece, report_pieces}
use Rattle.asdu.proofs.Accepted.{IsAsdu-value_of}
use Rattle.asdu.proofs.Joined.{All-of_map, AllButLast-of_map}
use Rattle.asdu.proofs.Reports.{pieces_joined, pieces_monitored, pieces_some_monitored, pieces_are}
use Rattle.asdu.proofs.Reports.{pieces_lengths, pieces_full, pieces_number, pieces_few}
use Rattle.asdu.proofs.translation.translate.Goals as goal

-- nothing is left to be written
written : (v : AsduValue) (ps : List (Stored ℕ)) (rest : List (List ℕ)) (b : Bool)
    → map (λ p. p.items) ps ++ rest ≡ report_pieces v → b ≡ (length rest == 0) → b ≡ true
    → map (λ p. p.items) ps ≡ report_pieces v
written v ps rest b all is over =
    let none : rest ≡ [] = nil_from_length rest (eqb-true (length rest) 0 (sym is ∙ over)) in
    sym (append-nil (map (λ p. p.items) ps)) ∙ ap (λ qs. map (λ p. p.items) ps ++ qs) (sym none)
    ∙ all

pub loop-left-init : goal.loop-left-init
loop-left-init c =
    ap (λ (ps : List (Stored ℕ)). map (λ p. p.items) ps ++ c.new-left.result) c.new-pieces.ensures
    ∙ c.new-left.ensures.pieces

pub push-requires : goal.push-requires
push-requires c =
    let asdu = c.args.asdu.now in
    let v = value_of asdu in
    let pieces : List (Stored ℕ) = c.loop-left.pieces.items in
    let few = pieces_few asdu.sizes v asdu.octets.now (IsAsdu-value_of asdu asdu.are_octets)
    c.requires in
    let all = ap (λ (ps : List (List ℕ)). length ps) c.loop-left.invariant in
    let sum = length-append (map (λ (p : Stored ℕ). p.items) pieces) c.loop-left.left in
    let same = length-map pieces (λ (p : Stored ℕ). p.items) in
    let more = ap (λ (ps : List (List ℕ)). length ps) c.write_next.ensures in
    (omega arith, omega arith)

pub loop-left-preserved : goal.loop-left-preserved
loop-left-preserved c =
    let pieces : List (Stored ℕ) = c.loop-left.pieces.items in
    let p : Stored ℕ = c.write_next.new.piece in
    let rest = c.write_next.new.self in
    ap (λ (ps : List (Stored ℕ)). map (λ q. q.items) ps ++ rest) c.push.ensures.items
    ∙ ap (λ ps. ps ++ rest) (map-append (λ (q : Stored ℕ). q.items) pieces (p ∷ []))
    ∙ append_assoc (map (λ (q : Stored ℕ). q.items) pieces) (p.items ∷ []) rest
    ∙ ap (λ ps. map (λ (q : Stored ℕ). q.items) pieces ++ ps) (sym c.write_next.ensures)
    ∙ c.loop-left.invariant

pub returns-clause-spelled : goal.returns-clause-spelled
returns-clause-spelled c =
    written (value_of c.args.asdu.now) c.loop-left.pieces.items c.loop-left.left c.is_over.result
    c.loop-left.invariant
    c.is_over.ensures c.loop-left-test.false

pub returns-clause-joined : goal.returns-clause-joined
returns-clause-joined c =
    let asdu = c.args.asdu.now in
    let v = value_of asdu in
    let ps : List (Stored ℕ) = c.loop-left.pieces.items in
    let e = written v ps c.loop-left.left c.is_over.result c.loop-left.invariant c.is_over.ensures
    c.loop-left-test.false in
    sym (flat_map-map (λ xs. objects_of tcp xs) (λ (p : Stored ℕ). p.items) ps)
    ∙ ap (λ (xs : List (List ℕ)). flat_map (λ x. objects_of tcp x) xs) e
    ∙ pieces_joined asdu.sizes v asdu.octets.now (IsAsdu-value_of asdu asdu.are_octets)

pub returns-clause-monitored : goal.returns-clause-monitored
returns-clause-monitored c =
    let asdu = c.args.asdu.now in
    let v = value_of asdu in
    let ps : List (Stored ℕ) = c.loop-left.pieces.items in
    let e = written v ps c.loop-left.left c.is_over.result c.loop-left.invariant c.is_over.ensures
    c.loop-left-test.false in
    sym (flat_map-map (λ xs. monitor_objects_of tcp xs) (λ (p : Stored ℕ). p.items) ps)
    ∙ ap (λ (xs : List (List ℕ)). flat_map (λ x. monitor_objects_of tcp x) xs) e
    ∙ pieces_monitored asdu.sizes v asdu.octets.now (IsAsdu-value_of asdu asdu.are_octets)

pub returns-clause-some_monitored : goal.returns-clause-some_monitored
returns-clause-some_monitored c = λ passed.
    let asdu = c.args.asdu.now in
    let v = value_of asdu in
    let ps : List (Stored ℕ) = c.loop-left.pieces.items in
    let P : List ℕ → Type 0 = λ x. 1 ≤ length (monitor_objects_of tcp x) in
    let e = written v ps c.loop-left.left c.is_over.result c.loop-left.invariant c.is_over.ensures
    c.loop-left-test.false in
    All-of_map (λ (p : Stored ℕ). p.items) P ps (subst (λ (xs : List (List ℕ)). AllByRecursion P xs)
    (sym e)
    (pieces_some_monitored asdu.sizes v asdu.octets.now (IsAsdu-value_of asdu asdu.are_octets)
    passed))

pub returns-clause-pieces : goal.returns-clause-pieces
returns-clause-pieces c =
    let asdu = c.args.asdu.now in
    let v = value_of asdu in
    let ps : List (Stored ℕ) = c.loop-left.pieces.items in
    let P : List ℕ → Type 0 = λ x. IsPiece v x in
    let e = written v ps c.loop-left.left c.is_over.result c.loop-left.invariant c.is_over.ensures
    c.loop-left-test.false in
    All-of_map (λ (p : Stored ℕ). p.items) P ps (subst (λ (xs : List (List ℕ)). AllByRecursion P xs)
    (sym e)
    (pieces_are asdu.sizes v asdu.octets.now (IsAsdu-value_of asdu asdu.are_octets)))

pub returns-clause-lengths : goal.returns-clause-lengths
returns-clause-lengths c =
    let asdu = c.args.asdu.now in
    let v = value_of asdu in
    let ps : List (Stored ℕ) = c.loop-left.pieces.items in
    let P : List ℕ → Type 0 = λ x. (9 ≤ length x) × (length x ≤ 249) in
    let e = written v ps c.loop-left.left c.is_over.result c.loop-left.invariant c.is_over.ensures
    c.loop-left-test.false in
    All-of_map (λ (p : Stored ℕ). p.items) P ps (subst (λ (xs : List (List ℕ)). AllByRecursion P xs)
    (sym e)
    (pieces_lengths asdu.sizes v asdu.octets.now (IsAsdu-value_of asdu asdu.are_octets)))

pub returns-clause-full : goal.returns-clause-full
returns-clause-full c =
    let asdu = c.args.asdu.now in
    let v = value_of asdu in
    let ps : List (Stored ℕ) = c.loop-left.pieces.items in
    let P : List ℕ → Type 0 = λ x. IsLargest v x in
    let e = written v ps c.loop-left.left c.is_over.result c.loop-left.invariant c.is_over.ensures
    c.loop-left-test.false in
    AllButLast-of_map (λ (p : Stored ℕ). p.items) P ps
    (subst (λ (xs : List (List ℕ)). AllButLast P xs) (sym e)
    (pieces_full asdu.sizes v asdu.octets.now (IsAsdu-value_of asdu asdu.are_octets)))

pub returns-clause-number : goal.returns-clause-number
returns-clause-number c =
    let asdu = c.args.asdu.now in
    let v = value_of asdu in
    let ps : List (Stored ℕ) = c.loop-left.pieces.items in
    let e = written v ps c.loop-left.left c.is_over.result c.loop-left.invariant c.is_over.ensures
    c.loop-left-test.false in
    sym (length-map ps (λ (p : Stored ℕ). p.items)) ∙ ap (λ (xs : List (List ℕ)). length xs) e
    ∙ pieces_number asdu.sizes v asdu.octets.now (IsAsdu-value_of asdu asdu.are_octets)

pub returns-clause-few : goal.returns-clause-few
returns-clause-few c =
    let asdu = c.args.asdu.now in
    let v = value_of asdu in
    let ps : List (Stored ℕ) = c.loop-left.pieces.items in
    let e = written v ps c.loop-left.left c.is_over.result c.loop-left.invariant c.is_over.ensures
    c.loop-left-test.false in
    let same = length-map ps (λ (p : Stored ℕ). p.items) in
    let all = ap (λ (xs : List (List ℕ)). length xs) e in
    let few = pieces_few asdu.sizes v asdu.octets.now (IsAsdu-value_of asdu asdu.are_octets)
    c.requires in
    omega arith
