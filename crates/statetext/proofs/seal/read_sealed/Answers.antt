use Rattle.std.proofs.Common.{◌∙◌, ap, refl, List, ℕ, ◌++◌, length, arith, take}
use Rattle.std.proofs.lemmas.List.{take_rest, length-drop}
use Rattle.statetext.specs.Sealed.{front_in}
use Rattle.statetext.proofs.Reading.{ends_damaged, ends_torn, none_read, one_more}
use Rattle.statetext.proofs.seal.read_sealed.Goals as goal
use Rattle.statetext.proofs.seal.read_sealed.Goals.{in-Torn, in-Damaged}

pub loop-n-init : goal.loop-n-init
loop-n-init c = (
  omega arith,
  λ head is. none_read head c.args.text.now c.new-lines.result.items c.new-lines.ensures.items,
)

pub loop-n-preserved : goal.loop-n-preserved
loop-n-preserved c =
    let text : List ℕ = c.args.text.now in
    let rest = take_rest text c.loop-n.end in (
      omega (
        arith,
        c.in-Whole.ensures.fits c.in-Whole.n refl,
        ap length rest,
        length-drop c.loop-n.end text,
        c.loop-n.invariant.0,
      ),
      λ head is. one_more head text c.loop-n.lines.items c.loop-n.end (c.loop-n.invariant.1 head is)
          c.in-Whole.n
          (c.in-Whole.ensures.front head is
          ∙ ap (front_in head c.loop-n.end) rest) _
          (c.in_ok-extend_from_slice-in-Whole.ensures.items
          ∙ ap (λ (l : List ℕ). c.loop-n.lines.items ++ take c.in-Whole.n l) rest),
    )

pub returns-in-loop-n-clause-lines : goal.returns-in-loop-n-clause-lines
returns-in-loop-n-clause-lines c = λ head is.
    let text : List ℕ = c.args.text.now in
    let read = c.loop-n.invariant.1 head is in
    let rest = ap (front_in head c.loop-n.end) (take_rest text c.loop-n.end) in
    elim c.match-front_in.branch [
      | in-Torn w ↦ (ends_torn head text c.loop-n.lines.items c.loop-n.end read
          (w.in-Torn.ensures.front head is ∙ rest)).0
      | in-Damaged w ↦ (ends_damaged head text c.loop-n.lines.items c.loop-n.end read
          (w.in-Damaged.ensures.front head is ∙ rest)).0
    ]

pub returns-in-loop-n-clause-end : goal.returns-in-loop-n-clause-end
returns-in-loop-n-clause-end c = λ head is.
    let text : List ℕ = c.args.text.now in
    let read = c.loop-n.invariant.1 head is in
    let rest = ap (front_in head c.loop-n.end) (take_rest text c.loop-n.end) in
    elim c.match-front_in.branch [
      | in-Torn w ↦ (ends_torn head text c.loop-n.lines.items c.loop-n.end read
          (w.in-Torn.ensures.front head is ∙ rest)).1
      | in-Damaged w ↦ (ends_damaged head text c.loop-n.lines.items c.loop-n.end read
          (w.in-Damaged.ensures.front head is ∙ rest)).1
    ]

pub returns-in-loop-n-clause-damaged : goal.returns-in-loop-n-clause-damaged
returns-in-loop-n-clause-damaged c = λ head is.
    let text : List ℕ = c.args.text.now in
    let read = c.loop-n.invariant.1 head is in
    let rest = ap (front_in head c.loop-n.end) (take_rest text c.loop-n.end) in
    elim c.match-front_in.branch [
      | in-Torn w ↦ w.is_damaged-is ∙ (ends_torn head text c.loop-n.lines.items c.loop-n.end read
          (w.in-Torn.ensures.front head is ∙ rest)).2
      | in-Damaged w ↦ w.is_damaged-is ∙ (ends_damaged head text c.loop-n.lines.items c.loop-n.end read
          (w.in-Damaged.ensures.front head is ∙ rest)).2
    ]
