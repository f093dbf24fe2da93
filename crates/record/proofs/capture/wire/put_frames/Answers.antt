use Rattle.std.proofs.Common.{◌≡◌, ℕ, ◌+◌, ◌-◌, ◌++◌, List, drop, take, arith, ap, sym, subst, ◌∙◌}
use Rattle.std.proofs.lemmas.List.{take_rest}
use Rattle.ft12.specs.Borrowed.{owned, owned_front}
use Rattle.ft12.specs.Reading.{IsFront}
use Rattle.ft12.specs.declared.frame.Frame.{Frame}
use Rattle.ft12.specs.declared.frame.Front.{Front}
use Rattle.ft12.specs.declared.frame.Front.TheVariants.{Whole}
use Rattle.record.specs.Wires.{answer, serial_block}
use Rattle.record.proofs.Cutting.{frame_some, no_whole}
use Rattle.record.proofs.Sending.{none_yet, one_more, all_put}
use Rattle.record.proofs.capture.wire.put_frames.Goals as goal

pub frames-init : goal.frames-init
frames-init c = none_yet _ _ _ _ _

pub frames-preserved : goal.frames-preserved
frames-preserved c =
    let octets : List ℕ = c.args.octets.now in
    let left : List ℕ = drop c.frames.end octets in
    let frame : Frame = owned c.in-Whole.field-0 in
    let arrived : IsFront c.args.size left (owned_front c.front_ref.result) =
    subst (λ (xs : List ℕ). IsFront c.args.size xs (owned_front c.front_ref.result))
    (take_rest octets c.frames.end) c.front_ref.ensures in
    let front : IsFront c.args.size left (Whole frame c.in-Whole.len) =
    subst (λ (f : Front). IsFront c.args.size left f) (ap owned_front c.in-Whole.is) arrived in
    let all_of_it : c.frames.end + c.in-Whole.len - c.frames.end ≡ c.in-Whole.len = omega arith in
    let put : c.put_answer.new.page ≡ c.frames.page
    ++ serial_block c.args.micros (answer c.frames.is_awaited (take c.in-Whole.len left)) =
    subst (λ (n : ℕ). c.put_answer.new.page ≡ c.frames.page
    ++ serial_block c.args.micros (answer c.frames.is_awaited (take n left)))
    all_of_it c.in_ok-put_answer.ensures in
    one_more _ _ _ _ _ _ _ _ _ frame c.in-Whole.len c.frames.invariant
    (sym (c.front_is_computed.ensures.only _ _ _ front)) (frame_some _ _ frame _ front) front.1 put

pub returns : goal.returns
returns c =
    let octets : List ℕ = c.args.octets.now in
    let left : List ℕ = drop c.frames.end octets in
    let arrived : IsFront c.args.size left (owned_front c.front_ref.result) =
    subst (λ (xs : List ℕ). IsFront c.args.size xs (owned_front c.front_ref.result))
    (take_rest octets c.frames.end) c.front_ref.ensures in
    let done = all_put _ _ _ _ _ _ _ _ c.frames.invariant
    (λ frame n e. no_whole c.front_ref.result c.in_default.not-Whole frame n
    (c.front_is_computed.ensures.only _ _ _ arrived ∙ e)) in
    record { put = done.put; rest = done.rest; within = done.within; awaited = done.awaited }
