use Rattle.std.proofs.Common.{◌<◌, ◌∙◌, ap, sym, length, arith, rules}
use Rattle.std.proofs.lemmas.List.{append-nil}
use Rattle.circular_buffer.specs.Buffer.{Buffer}
use Rattle.session.specs.declared.kinds.Unacknowledged.{Unacknowledged}
use Rattle.session.proofs.ReadBack.{frame_at, lines_at, one_more, none_read, one_read, has_room}
use Rattle.session.proofs.ReadBack.{taken_in}
use Rattle.session.proofs.saving.read_frames.Goals as goal

pub loop-i-init : goal.loop-i-init
loop-i-init g c =
    record {
      back = λ fs rest len e. (sym (append-nil _), e);
      exact = none_read _ _;
      room =
          search rules;
    }

pub returns-in_err-frame-clause-back : goal.returns-in_err-frame-clause-back
returns-in_err-frame-clause-back g c = λ fs rest len e.
    let inv = c.loop-i.invariant.back fs rest len e in
    let lt : c.loop-i._i < length fs = omega (arith, len, c.loop-i-test.true) in
    let h = c.in_err-frame.ensures.back (frame_at fs c.loop-i._i) _ (inv.1
    ∙ lines_at fs c.loop-i._i rest lt) in
    search rules

pub loop-i-preserved : goal.loop-i-preserved
loop-i-preserved g c =
    let long = has_room _ _ _ _ _ c.loop-i.invariant.exact in
    let room : length c.loop-i.frames.items < c.loop-i.frames.capacity = omega (arith, long) in
    let pushed = taken_in c.try_push_back.result _ (c.try_push_back.ensures.variant.1 room)
    c.try_push_back.ensures.ok in
    let items = ap (λ (b : Buffer Unacknowledged). b.items) pushed in
    record {
      back = λ fs rest len e.
          let inv = c.loop-i.invariant.back fs rest len e in
          let lt : c.loop-i._i < length fs = omega (arith, len, c.loop-i-test.true) in
          let h = c.in_ok-frame.ensures.back (frame_at fs c.loop-i._i) _ (inv.1
          ∙ lines_at fs c.loop-i._i rest lt) in
          (one_more _ _ _ fs c.loop-i._i _ lt inv.0 h.0 items, h.1);
      exact = one_read _ _ _ _ _ _ _ _ c.loop-i.invariant.exact c.in_ok-frame.ensures.exact items;
      room = ap (λ (b : Buffer Unacknowledged). b.capacity) pushed ∙ c.loop-i.invariant.room;
    }

pub returns-clause-exact : goal.returns-clause-exact
returns-clause-exact g c =
    let r = c.loop-i.invariant.exact in
    (r.frames, omega (arith, r.count, c.loop-i-test.false, c.loop-i.auto._i-end), r.items, r.logged)
