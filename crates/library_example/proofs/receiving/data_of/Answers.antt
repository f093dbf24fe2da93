use Rattle.std.proofs.Common.{arith, ◌≡◌, length, subst, sym}
use Rattle.std.proofs.Math.Seq.{take-length}
use Rattle.ft12.specs.declared.frame.Front.TheVariants.{Whole}
use Rattle.ft12.specs.declared.frame.Frame.{Frame}
use Rattle.ft12.specs.declared.frame.Frame.TheVariants.{Data}
use Rattle.ft12.specs.declared.frame.LinkSize.TheVariants.{One}
use Rattle.ft12.specs.Spelling.{IsLineFrame}
use Rattle.library_example.proofs.receiving.data_of.Goals as goal
use Rattle.library_example.proofs.receiving.data_of.Goals.{in_default-via-in-Whole-Data-default+else-len-octets}
use Rattle.library_example.proofs.receiving.data_of.Goals.{in_default-via-in-Whole+in_default}
use Rattle.library_example.proofs.receiving.data_of.Goals.{in_default-via-in_default}

-- The octets have one front. If they are such a frame it is that one, whole.
pub returns-in_default-clause-only : goal.returns-in_default-clause-only
returns-in_default-clause-only c = λ body is.
    let octets = c.args.octets.now in
    let frame : Frame = Data is.control is.address (record { items = body }) in
    let whole : Whole frame (length octets) ≡ c.front.result =
    c.front.ensures.only (Whole frame (length octets))
    (subst (λ xs. IsLineFrame One frame xs) (sym (take-length octets)) is.line, omega arith) in
    elim c.in_default.branch [
      | in_default-via-in-Whole-Data-default+else-len-octets w ↦ grind (arith, whole)
      | in_default-via-in-Whole+in_default w ↦ grind (arith, whole)
      | in_default-via-in_default w ↦ grind (arith, whole)
    ]
